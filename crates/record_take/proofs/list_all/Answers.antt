-- The queued records, then the service record, then the machine check, one after the other.
use Rattle.numbers.proofs.Basics.{◌≡◌, List, ℕ, ◌++◌, flatten, ◌*◌, ◌≤◌, arith, length, drop, inl, inr, refl, rules}
use Rattle.rules.specs.State.{single, listing}
use Rattle.store_queues.specs.Queues.{queues, total, Held}
use Rattle.store_singles.specs.Singles.{service_of, mchk_of}
use Rattle.store.specs.Memory.{pending_of}
use Rattle.record_take.proofs.Laws.{listing-is, length-listing, service-there, service-absent, mchk-there, mchk-absent, Wrote, one_more, written, front, wrote-all, wrote-queues}
use Rattle.record_take.proofs.list_all.Goals as goal
use Rattle.record_take.proofs.list_all.Goals.{Joined-is_there, then-is_there, else-is_there}

-- what the buffer has room for, and what the records of the nine queues leave in it
record Fits (o c s g out out' : List ℕ) (n : ℕ) : Type 0 where
  all : 72 * length ((flatten (queues o c s) ++ single (service_of g)) ++ single (mchk_of g)) ≤ length out
  served : 72 * length (flatten (queues o c s) ++ single (service_of g)) ≤ length out
  queued : Wrote out out' (flatten (queues o c s)) (n * 72)

enough : (o c s g out : List ℕ) → Held o c → 72 * length (listing (pending_of o c s g)) ≤ length out → total c * 72 ≤ length out
enough o c s g out h k = omega (arith, length-listing o c s g h)

fits : (o c s g out out' : List ℕ) (n : ℕ) → Held o c × (72 * length (listing (pending_of o c s g)) ≤ length out) → n ≡ total c → length out' ≡ length out
    → out' ≡ flatten (flatten (queues o c s)) ++ drop (total c * 72) out → Fits o c s g out out' n
fits o c s g out out' n (h, k) e l w =
    let all = rw (listing-is o c s g h) at k in
    record { all = all; served = front _ _ _ all; queued = wrote-queues o c s out _ _ e h (enough o c s g out h k) l w }

pub list-requires : goal.list-requires
list-requires c = (c.requires.0, enough _ _ _ c.args.c.now.singles _ c.requires.0 c.requires.1)

pub save-requires : goal.save-requires
save-requires c =
    let f = fits _ _ _ _ _ _ _ c.requires c.queued-at.ensures (search rules) c.list.ensures in
    one_more _ _ _ _ f.queued _ _ (service-there _ _ _ c.is_there.ensures c.if-is_there.true c.read.ensures) f.served

-- the queued records and the service record, if it is there, are written, and a machine check still fits
served : (c : Joined-is_there) → let a = c.args.c.now in let l = flatten (queues a.order a.counts a.slots) ++ single (service_of a.singles) in
    Wrote c.args.out.now c.if-is_there.out l c.if-is_there.at × (72 * length (l ++ single (mchk_of a.singles)) ≤ length c.args.out.now)
served c =
    let f = fits _ _ _ _ _ _ _ c.requires c.queued-at.ensures (search rules) c.list.ensures in (
      written _ _ _ _ f.queued _ _ _ f.served (elim c.if-is_there.branch [
        | then-is_there w ↦ inl (w.read.result, service-there _ _ _ c.is_there.ensures w.if-is_there.true w.read.ensures, search rules, rw w.out-is w.save.ensures, w.at-is)
        | else-is_there w ↦ inr (service-absent _ _ c.is_there.ensures w.if-is_there.false, w.out-is, w.at-is)
      ]),
      f.all,
    )

pub save-requires-then-is_there-2 : goal.save-requires-then-is_there-2
save-requires-then-is_there-2 c =
    let w = served (goal.at.save-requires-then-is_there-2 c).Joined-is_there in
    one_more _ _ _ _ w.0 _ _ (mchk-there _ _ _ c.is_there-2.ensures c.if-is_there-2.true c.read-then-is_there-2.ensures) w.1

pub returns-then-is_there-2 : goal.returns-then-is_there-2
returns-then-is_there-2 c =
    let w = served (goal.at.returns-then-is_there-2 c).Joined-is_there in
    wrote-all _ _ _ _ _ _ _ c.requires.0 (written _ _ _ _ w.0 _ _ _ w.1 (inl (c.read-then-is_there-2.result, mchk-there _ _ _ c.is_there-2.ensures c.if-is_there-2.true c.read-then-is_there-2.ensures, search rules, c.save-then-is_there-2.ensures, refl)))

pub returns-else-is_there-2 : goal.returns-else-is_there-2
returns-else-is_there-2 c =
    let w = served (goal.at.returns-else-is_there-2 c).Joined-is_there in
    wrote-all _ _ _ _ _ _ _ c.requires.0 (written _ _ _ _ w.0 _ _ _ w.1 (inr (mchk-absent _ _ c.is_there-2.ensures c.if-is_there-2.false, refl, refl)))
