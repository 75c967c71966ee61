-- The invariant: those counted and those left are all.
use Rattle.numbers.proofs.Basics.{◌≡◌, ◌+◌, ◌≤◌, length}
use Rattle.list_write.specs.Parts.{each}
use Rattle.list_write.proofs.{Entries.each_from}
use Rattle.list_write.proofs.count.Given as goal

abbrev pub invariant-loop-i : goal.invariant-loop-i
invariant-loop-i l = (l.n ≤ l.i) × (l.n + length (each_from l.entry l.i l.image) ≡ length (each l.entry l.image))
