use Rattle.numbers.proofs.Basics.{arith, refl}
use Rattle.numbers.proofs.Laws.{write-turn}
use Rattle.rules.specs.Bytes.{bytes}
use Rattle.numbers.proofs.write_be.Goals as goal

pub loop-i-preserved : goal.loop-i-preserved
loop-i-preserved c = let l = c.loop-i in
    let a = c.args in
    write-turn (λ x. x) (λ k. bytes k a.v) 256 a.v (λ k. unfold bytes in refl) l.b a.b.now a.at a.n l.i l.w (omega arith) (omega arith) (omega arith) l.invariant.0 l.invariant.1
