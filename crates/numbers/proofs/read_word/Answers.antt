-- Each half has two bytes.
use Rattle.numbers.proofs.{Basics.◌+◌, Basics.arith, Basics.refl, Laws.pair}
use Rattle.numbers.proofs.read_word.Goals as goal

pub returns : goal.returns
returns c =
    let a = c.args in
    let t = c.type_inv.b in
    let p = pair a.b.now a.at (a.at + 1) refl (omega arith) in
    let q = pair a.b.now (a.at + 2) (a.at + 3) (omega arith) (omega arith) in record {
      value = omega (arith, c.from.ensures, c.from_be_bytes.ensures, p, q);
      halves = (omega (arith, p, t a.at, t (a.at + 1)), omega (arith, q, t (a.at + 2), t (a.at + 3)));
    }
