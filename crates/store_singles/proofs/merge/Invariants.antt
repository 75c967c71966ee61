-- The first i of the 16 bytes are merged.
use Rattle.numbers.proofs.Basics.{◌≡◌, paste}
use Rattle.store_singles.proofs.{Laws.ors}
use Rattle.store_singles.proofs.merge.Given as goal

abbrev pub invariant-loop-i : goal.invariant-loop-i
invariant-loop-i l = l.g ≡ paste l.initial.g 80 (ors l.initial.g l.r) l.i
