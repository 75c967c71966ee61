-- A finished page fault where one is there and allowed, else what the search finds.
use Rattle.numbers.proofs.Basics.{◌≡◌, refl, ℕ, List, false, ◌⊎◌, inl, inr, ◌<◌, arith, get_or}
use Rattle.numbers.specs.declared.Queue.{Queue}
use Rattle.record_take.proofs.{Laws.next-done, Laws.next-none, Laws.next-io}
use Rattle.record_take.proofs.next_queued.Goals as goal
use Rattle.record_take.proofs.next_queued.Goals.{Joined-else-external, else-external-via-then-external+else-count-gt0, else-external-via-else-external}

-- the count of finished page faults
counted : (q : Queue) (n : ℕ) (c : List ℕ) → q ≡ record { 0 = 8 } → n ≡ get_or c q.0 0 → n ≡ get_or c 8 0
counted q n c e h = rw e at h

passed : (c : Joined-else-external) → (c.args.external ≡ false) ⊎ (get_or c.args.c.now.counts 8 0 ≡ 0)
passed c = elim c.else-external.branch [
  | else-external-via-then-external+else-count-gt0 w ↦ inr (omega (arith, w.if-count-gt0.false, counted _ _ c.args.c.now.counts w.done.ensures w.count.ensures))
  | else-external-via-else-external w ↦ inl w.if-external.false
]

pub returns-then-count-gt0-clause-hands : goal.returns-then-count-gt0-clause-hands
returns-then-count-gt0-clause-hands c =
    let some : 0 < get_or c.args.c.now.counts 8 0 = omega (arith, c.if-count-gt0.true, counted _ _ c.args.c.now.counts c.done.ensures c.count.ensures) in
    λ g. rw c.done-then-count-gt0.ensures (next-done _ _ _ g c.requires _ _ c.if-external.true some)

pub returns-in_default-clause-hands : goal.returns-in_default-clause-hands
returns-in_default-clause-hands c =
    λ g. next-none _ _ _ g c.requires _ _ _ c.nonempty.ensures (passed (goal.at.returns-in_default-clause-hands c).Joined-else-external) (c.in_default.ensures.hands refl)

pub returns-clause-hands : goal.returns-clause-hands
returns-clause-hands c =
    λ g. rw c.of.ensures (next-io _ _ _ g c.requires _ _ _ c.nonempty.ensures (passed (goal.at.returns-clause-hands c).Joined-else-external) _ _ c.in-At.ensures.place.0 (c.in-At.ensures.hands refl))
