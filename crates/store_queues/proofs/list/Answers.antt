use Rattle.numbers.proofs.Basics.{◌≡◌, flatten, arith, length, rules}
use Rattle.store_queues.specs.Queues.{sum}
use Rattle.store_queues.proofs.{Laws.queue_fits, Laws.queues-turn, Laws.list-leaves}
use Rattle.store_queues.proofs.list.Goals as goal

pub loop-i-preserved : goal.loop-i-preserved
loop-i-preserved c = let a = c.args in
    let l = c.loop-i in
    queues-turn a.o.now a.c.now a.b.now c.requires.0 a.out.now l.out l.i l.at (omega arith) l.invariant.0 c.requires.1
    _ l.invariant.1 l.invariant.2 c.list_queue.ensures.long c.list_queue.ensures.out_after

pub returns : goal.returns
returns c = let a = c.args in
    let l = c.loop-i in
    let e : l.i ≡ 9 = omega arith in
    list-leaves a.o.now a.c.now a.b.now a.out.now l.out l.at c.requires.0 (rw e at l.invariant.0) (rw e at l.invariant.1) (rw e at l.invariant.2)

pub loop-i-init : goal.loop-i-init
loop-i-init c = unfold flatten sum in search rules

pub list_queue-requires : goal.list_queue-requires
list_queue-requires c = let a = c.args in
    let l = c.loop-i in
    let fits = queue_fits a.o.now a.c.now l.i l.at (length a.out.now) c.requires.0 (omega arith) l.invariant.0 c.requires.1 in
    (omega arith, fits.1, c.requires.0.long, omega (arith, fits.0))
