-- The invariant: the records that are left, added to what is held now, give what all records give; and they have room.
use Rattle.numbers.proofs.Basics.{◌≡◌, ◌+◌, ◌≤◌}
use Rattle.record_add.proofs.{Laws.records_from}
use Rattle.rules.specs.{State.add_all, Requests.records_in, Requests.all_want}
use Rattle.store_queues.specs.{Slots.slot_count, Queues.total, Queues.Held}
use Rattle.store.specs.Memory.{pending_in}
use Rattle.record_add.proofs.add_all.Given as goal

abbrev pub invariant-loop-i : goal.invariant-loop-i
invariant-loop-i l =
    (l.held ≡ total l.c.counts) × Held l.c.order l.c.counts × (total l.c.counts + all_want (records_from l.i l.n l.b) ≤ slot_count)
    × (add_all (records_in l.n l.b) (pending_in l.initial.c) ≡ add_all (records_from l.i l.n l.b) (pending_in l.c)) × (l.c.ais ≡ l.initial.c.ais)
