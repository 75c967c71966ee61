-- The entries passed are their own indices in the row.
use Rattle.numbers.proofs.Basics.{◌≡◌, ◌*◌, paste}
use Rattle.store_queues.specs.{Slots.slot_count, Queues.up_from}
use Rattle.store_queues.proofs.free_all.Given as goal

abbrev pub invariant-loop-i : goal.invariant-loop-i
invariant-loop-i l = l.o ≡ paste l.initial.o (9 * slot_count) (up_from 0 slot_count) l.i
