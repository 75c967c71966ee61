-- The record lies in its slot, and the bytes of the others are as they were.
use Rattle.numbers.proofs.{Basics.◌≡◌, Basics.◌*◌, Basics.◌≤◌, Basics.length, Basics.rules, Laws.part_same}
use Rattle.store_queues.specs.Slots.{slot}
use Rattle.store_queues.proofs.{Slots.slot-other}
use Rattle.store_queues.proofs.write_slot.Goals as goal

pub returns : goal.returns
unfolding slot
returns c =
    let a = c.args in
    let l : length a.r ≡ 72 = search rules in
    let m : a.s * 72 ≤ length a.b.now = search rules in
    let e = rw c.from.ensures at c.save.ensures in
    record { here = rw e (part_same a.b.now (a.s * 72) a.r 72 m l); others = λ t n. rw e (slot-other 72 a.b.now a.r a.s t m l n) }
