-- The interrupt joins the queue of its subclass.
use Rattle.numbers.proofs.Basics.{arith}
use Rattle.record_add.proofs.{Laws.io-joins}
use Rattle.record_add.proofs.append_interrupt.Goals as goal

pub returns-clause-pending : goal.returns-clause-pending
returns-clause-pending c = λ singles. io-joins _ _ _ _ _ _ singles _ _ (omega arith) (rw (c.interrupt.ensures, c.of.ensures) at c.append.ensures.queue)
