-- The invariant: checking the entries that are left, from where the next payload begins, gives what checking all gives.
use Rattle.numbers.proofs.Basics.{◌≡◌, ◌+◌, ◌*◌, ◌^◌, ◌≤◌, length, drop}
use Rattle.rules.specs.MoveList.{header_bytes, payload_offset, table_entries_in, formed}
use Rattle.list_form.proofs.{Laws.slots_from}
use Rattle.list_form.proofs.slots_formed.Given as goal

abbrev pub invariant-loop-i : goal.invariant-loop-i
invariant-loop-i l =
    (l.at ≤ 20 + 24 * l.count + 2 ^ 32 * l.i)
    × (formed (length l.list) (payload_offset l.count) (table_entries_in l.count (drop header_bytes l.list)) ≡ formed (length l.list) l.at (slots_from l.i l.count l.list))
