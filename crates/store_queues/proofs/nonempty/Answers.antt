-- The mask is a byte.
use Rattle.numbers.proofs.Basics.{arith}
use Rattle.store_queues.proofs.{Counts.waiting-small}
use Rattle.store_queues.proofs.nonempty.Goals as goal

pub overflow_cast-result : goal.overflow_cast-result
overflow_cast-result c = let f = c in omega (arith, waiting-small f.args.c.now f.requires)
