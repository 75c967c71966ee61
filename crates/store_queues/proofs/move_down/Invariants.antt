-- The entries from lo up to i are those from lo + 1.
use Rattle.numbers.proofs.Basics.{◌≡◌, ◌+◌, ◌-◌, drop, paste}
use Rattle.store_queues.proofs.move_down.Given as goal

abbrev pub invariant-loop-i : goal.invariant-loop-i
invariant-loop-i l = l.o ≡ paste l.initial.o l.lo (drop (l.lo + 1) l.initial.o) (l.i - l.lo)
