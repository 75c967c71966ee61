use Rattle.numbers.proofs.Basics.{◌≡◌, arith, paste-zero}
use Rattle.std.proofs.lemmas.List.Edits.{paste_more}
use Rattle.numbers.proofs.save.Goals as goal

pub loop-i-init : goal.loop-i-init
loop-i-init c = paste-zero c.args.dst.now c.args.at c.args.r

pub loop-i-preserved : goal.loop-i-preserved
loop-i-preserved c = let l = c.loop-i in
    rw l.invariant (paste_more c.args.dst.now c.args.at c.args.r l.i 0 (omega arith) (omega arith))

pub returns : goal.returns
returns c = let e : c.loop-i.i ≡ 72 = omega arith in rw e at c.loop-i.invariant
