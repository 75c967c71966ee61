-- The last free slot is the queue's next, and the counts follow.
use Rattle.numbers.proofs.Basics.{ℕ, ◌+◌, ◌^◌, div-le_self, arith, get_or}
use Rattle.store_queues.proofs.{Counts.waiting-small, Counts.mask-stays, Counts.mask-set, Counts.some-zero, Counts.some_one, Laws.append-leaves}
use Rattle.store_queues.proofs.append.Goals as goal

pub returns-then-k-eq0 : goal.returns-then-k-eq0
returns-then-k-eq0 c =
    let f = c in
    let a = f.args in
    let k : ℕ = get_or a.c.now a.q.0 0 in
    append-leaves a.o.now a.c.now f.requires.3 a.n f.requires.1 f.requires.2 a.q.0 f.requires.0 _ _
    (mask-set a.c.now f.requires.3.counted.long a.q.0 (k + 1) (a.n + 1) f.requires.0 _) a.b.now _ a.r c.write_slot.ensures
    (rw (some-zero k c.if-k-eq0.true) (omega arith))

pub returns-else-k-eq0 : goal.returns-else-k-eq0
returns-else-k-eq0 c =
    let f = c in
    let a = f.args in
    let k : ℕ = get_or a.c.now a.q.0 0 in
    append-leaves a.o.now a.c.now f.requires.3 a.n f.requires.1 f.requires.2 a.q.0 f.requires.0 _ _
    (mask-stays a.c.now f.requires.3.counted.long a.q.0 (k + 1) (a.n + 1) f.requires.0) a.b.now _ a.r c.write_slot.ensures
    (rw (some_one k c.if-k-eq0.false) (omega arith))

pub overflow_add-c-then-k-eq0 : goal.overflow_add-c-then-k-eq0
overflow_add-c-then-k-eq0 c = omega (arith, waiting-small c.args.c.now c.requires.3.counted, div-le_self 128 (2 ^ c.args.q.0))
