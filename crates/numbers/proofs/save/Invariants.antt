-- The first i bytes of r stand in dst from index at.
use Rattle.numbers.proofs.Basics.{◌≡◌, paste}
use Rattle.numbers.proofs.save.Given as goal

abbrev pub invariant-loop-i : goal.invariant-loop-i
invariant-loop-i l = l.dst ≡ paste l.initial.dst l.at l.r l.i
