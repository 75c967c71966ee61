use Rattle.numbers.proofs.Basics.{◌≡◌, arith, paste-zero}
use Rattle.store_singles.proofs.{Laws.ors, Laws.merge-turn, Laws.merge-all}
use Rattle.store_singles.proofs.merge.Goals as goal

pub loop-i-init : goal.loop-i-init
loop-i-init c = paste-zero c.args.g.now 80 (ors c.args.g.now c.args.r)

pub loop-i-preserved : goal.loop-i-preserved
loop-i-preserved c = let a = c.args in
    let l = c.loop-i in
    merge-turn a.g.now a.r (omega arith) (omega arith) l.g l.i (omega arith) l.invariant

pub returns : goal.returns
returns c = let a = c.args in
    let e : c.loop-i.i ≡ 16 = omega arith in
    rw (← merge-all a.g.now a.r) (rw e at c.loop-i.invariant)
