-- Its flag is 0; the other one stays.
use Rattle.store_singles.proofs.Laws.{removed}
use Rattle.store_singles.proofs.remove.Goals as goal

pub returns : goal.returns
returns c = rw c.flag.ensures.0 (removed c.args.g.now c.args.which)
