-- The first service record is written; a second one changes nothing.
use Rattle.numbers.proofs.Basics.{refl}
use Rattle.store_singles.proofs.Laws.{single-absent, single-there}
use Rattle.store_singles.specs.declared.Single.TheVariants.{Service}
use Rattle.store_singles.proofs.add_service.Goals as goal

pub returns-then-not-is_there : goal.returns-then-not-is_there
returns-then-not-is_there c = (rw (single-absent c.args.g.now _ Service c.is_there.ensures c.if-not-is_there.true) c.put.ensures.0, c.put.ensures.1)

pub returns-else-not-is_there : goal.returns-else-not-is_there
returns-else-not-is_there c = (rw (single-there c.args.g.now _ Service c.is_there.ensures c.if-not-is_there.false), refl)
