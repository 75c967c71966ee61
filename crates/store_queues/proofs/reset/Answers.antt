-- The free slots are all, and the counts 0.
use Rattle.numbers.proofs.Basics.{refl, rules}
use Rattle.store_queues.proofs.{Laws.reset-leaves}
use Rattle.store_queues.proofs.reset.Goals as goal

pub returns : goal.returns
returns c = reset-leaves c.args.o.now _ _ (search rules) c.free_all.ensures refl
