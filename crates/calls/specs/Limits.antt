-- 01, 'How much each promise says': the limits of a controller, of which its contracts here and in the public crate
-- speak. They are the paper's, always.
use Rattle.rules.specs.State.{Limits, paper_limits}
use Rattle.store.specs.declared.Controller.{Controller}

unfoldable pub limits_of : Controller → Limits
limits_of c = paper_limits
