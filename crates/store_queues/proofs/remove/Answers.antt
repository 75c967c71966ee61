-- The row closes up, the slot is the last of the free ones, and the counts follow.
use Rattle.numbers.proofs.Basics.{List, ℕ, ◌<◌, ◌-◌, ◌/◌, ◌^◌, ◌≤◌, arith, get_or}
use Rattle.store_queues.specs.{Queues.waiting, Queues.Held}
use Rattle.store_queues.proofs.{Counts.mask-stays, Counts.mask-set, Counts.some-zero, Counts.some_one, Counts.bit-there, Laws.remove-leaves}
use Rattle.store_queues.proofs.remove.Goals as goal

-- the queue's bit is in the mask
there : (o c : List ℕ) (q at : ℕ) → (q < 9) × (at < get_or c q 0) × Held o c → 128 / 2 ^ q ≤ waiting c
there o c q at r = bit-there c r.2.counted q r.0 (λ z. omega (arith, z, r.1))

pub returns-then-k-eq0 : goal.returns-then-k-eq0
returns-then-k-eq0 c =
    let f = c in
    let a = f.args in
    let k : ℕ = get_or a.c.now a.q.0 0 in
    rw c.move_down.ensures
    (remove-leaves a.o.now a.c.now f.requires.2 a.q.0 a.at f.requires.0 f.requires.1 _ _
    (mask-set a.c.now f.requires.2.counted.long a.q.0 (k - 1) (get_or a.c.now 9 0 - 1) f.requires.0 _)
    (rw (some_one k (λ z. omega (arith, z, f.requires.1)), some-zero (k - 1) c.if-k-eq0.true) (omega (arith, there c.args.o.now c.args.c.now c.args.q.0 c.args.at c.requires))))

pub returns-else-k-eq0 : goal.returns-else-k-eq0
returns-else-k-eq0 c =
    let f = c in
    let a = f.args in
    let k : ℕ = get_or a.c.now a.q.0 0 in
    rw c.move_down.ensures
    (remove-leaves a.o.now a.c.now f.requires.2 a.q.0 a.at f.requires.0 f.requires.1 _ _
    (mask-stays a.c.now f.requires.2.counted.long a.q.0 (k - 1) (get_or a.c.now 9 0 - 1) f.requires.0)
    (rw (some_one k (λ z. omega (arith, z, f.requires.1)), some_one (k - 1) c.if-k-eq0.false) (omega arith)))

pub overflow_sub-c-then-k-eq0 : goal.overflow_sub-c-then-k-eq0
overflow_sub-c-then-k-eq0 c = omega (arith, there c.args.o.now c.args.c.now c.args.q.0 c.args.at c.requires)
