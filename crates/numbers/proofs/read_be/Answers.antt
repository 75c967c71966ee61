use Rattle.numbers.proofs.Basics.{◌≡◌, refl, ◌∙◌, ◌+◌, ◌-◌, arith, drop, get_or, get_or-take, get_or-drop}
use Rattle.rules.specs.Bytes.{number}
use Rattle.numbers.proofs.{Laws.read-turn, Laws.read_fits}
use Rattle.numbers.proofs.read_be.Goals as goal

pub loop-x-init : goal.loop-x-init
loop-x-init c = unfold number in (refl, omega arith)

pub overflow_mul-v : goal.overflow_mul-v
overflow_mul-v c = let l = c.loop-x in omega (arith, read_fits l.v l.x-index c.args.n l.invariant.1 (omega arith) (omega arith))

pub loop-x-preserved : goal.loop-x-preserved
loop-x-preserved c = let l = c.loop-x in
    let a = c.args in
    let b = a.b.now in
    let e : c.from.result ≡ get_or b (a.at + l.x-index) 0 = c.from.ensures ∙ get_or-take (a.at + a.n - a.at) (drop a.at b) l.x-index 0 (omega arith) ∙ get_or-drop a.at b l.x-index 0 in
    read-turn b a.at l.x-index l.v _ (omega arith) l.invariant.0 l.invariant.1 e (omega (arith, e, c.type_inv.b (a.at + l.x-index)))
