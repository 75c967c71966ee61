-- The record in the slot that the queue's row names.
use Rattle.numbers.proofs.Basics.{sym, ◌∙◌}
use Rattle.store_queues.proofs.{Laws.queue-record}
use Rattle.store_queues.proofs.read.Goals as goal

pub returns : goal.returns
returns c = let f = c in
    let a = f.args in
    rw c.slot_of.ensures at c.read_slot.ensures ∙ sym (queue-record a.o.now a.c.now f.requires.2 a.b.now a.q.0 a.at f.requires.0 f.requires.1)
