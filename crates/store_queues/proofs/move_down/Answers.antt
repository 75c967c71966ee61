use Rattle.numbers.proofs.Basics.{◌≡◌, ◌+◌, ◌-◌, arith, drop}
use Rattle.numbers.proofs.Laws.{paste_none}
use Rattle.store_queues.proofs.Slots.{down_turn}
use Rattle.store_queues.proofs.move_down.Goals as goal

pub loop-i-init : goal.loop-i-init
loop-i-init c = let a = c.args in paste_none a.o.now a.lo (drop (a.lo + 1) a.o.now) (a.lo - a.lo) (omega arith)

pub loop-i-preserved : goal.loop-i-preserved
loop-i-preserved c = let l = c.loop-i in
    down_turn l.o c.args.o.now c.args.lo l.i (l.i - c.args.lo) _ (omega arith) (omega arith) (omega arith) l.invariant

pub returns : goal.returns
returns c = let e : c.loop-i.i ≡ c.args.end = omega arith in rw e at c.loop-i.invariant
