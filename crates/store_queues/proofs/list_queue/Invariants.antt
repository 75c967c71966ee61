-- The first k records stand from index at on.
use Rattle.numbers.proofs.Basics.{◌≡◌, flatten, ◌*◌, length, take, paste}
use Rattle.store_queues.specs.Queues.{row, listed}
use Rattle.store_queues.proofs.list_queue.Given as goal

abbrev pub invariant-loop-k : goal.invariant-loop-k
invariant-loop-k l =
    let r = listed l.b (row l.o l.q.0 l.n) in
    (length (flatten (take l.k r)) ≡ l.k * 72) × (l.out ≡ paste l.initial.out l.at (flatten (take l.k r)) (l.k * 72))
