-- The copied bytes of src stand at the start of r.
use Rattle.numbers.proofs.Basics.{◌≡◌, drop, paste}
use Rattle.numbers.proofs.load.Given as goal

abbrev pub invariant-loop-i : goal.invariant-loop-i
invariant-loop-i l = l.r ≡ paste l.initial.r 0 (drop l.from l.src) l.i
