-- The records of the first i queues stand at the start of out.
use Rattle.numbers.proofs.Basics.{◌≡◌, flatten, ◌*◌, length, take, paste}
use Rattle.store_queues.specs.Queues.{each, queues, sum}
use Rattle.store_queues.proofs.list.Given as goal

abbrev pub invariant-loop-i : goal.invariant-loop-i
invariant-loop-i l =
    let g = flatten (flatten (take l.i (queues l.o l.c l.b))) in
    (l.at ≡ sum (take l.i (each l.c)) * 72) × (length g ≡ l.at) × (l.out ≡ paste l.initial.out 0 g l.at)
