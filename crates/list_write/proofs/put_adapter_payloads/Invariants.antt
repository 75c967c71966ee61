-- The invariant: what is left, put behind what is there now, comes to what all comes to.
use Rattle.numbers.proofs.Basics.{◌≡◌, ◌+◌, ◌*◌, ◌≤◌, length}
use Rattle.rules.specs.MoveList.{payloads}
use Rattle.list_write.specs.Parts.{put, each, size_of}
use Rattle.list_write.proofs.{Entries.each_from}
use Rattle.list_write.proofs.put_adapter_payloads.Given as goal

abbrev pub invariant-loop-i : goal.invariant-loop-i
invariant-loop-i l =
    (length l.out ≡ length l.initial.out) × (l.a + size_of l.entry * length (each_from l.entry l.i l.image) ≤ length l.out)
    × (put l.initial.out l.at (payloads (each l.entry l.image)) ≡ put l.out l.a (payloads (each_from l.entry l.i l.image)))
