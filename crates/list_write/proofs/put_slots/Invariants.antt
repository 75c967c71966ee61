-- The invariant: what is left, put behind what is there now, comes to what all comes to.
use Rattle.numbers.proofs.Basics.{◌≡◌, ◌+◌, ◌*◌, ◌≤◌, length}
use Rattle.rules.specs.MoveList.{written_table}
use Rattle.list_write.specs.Parts.{put, each}
use Rattle.list_write.proofs.{Entries.each_from}
use Rattle.list_write.proofs.put_slots.Given as goal

abbrev pub invariant-loop-i : goal.invariant-loop-i
invariant-loop-i l =
    (length l.out ≡ length l.initial.out) × (l.p ≤ l.pay + 16 * l.i) × (l.a + 24 * length (each_from l.entry l.i l.image) ≤ length l.out)
    × (put l.initial.out l.at (written_table l.pay (each l.entry l.image)) ≡ put l.out l.a (written_table l.p (each_from l.entry l.i l.image)))
