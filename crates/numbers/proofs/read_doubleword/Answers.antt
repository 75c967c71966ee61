use Rattle.numbers.proofs.{Basics.◌+◌, Basics.arith, Basics.refl, Laws.next-byte}
use Rattle.rules.specs.Bytes.{number}
use Rattle.numbers.proofs.read_doubleword.Goals as goal

pub returns : goal.returns
unfolding number
returns c =
    let a = c.args in
    let at = a.at in
    let m = next-byte a.b.now at in
    let u = m 0 1 at refl (omega arith) (omega arith) in
    let v = m 1 2 (at + 1) refl refl (omega arith) in
    let w = m 2 3 (at + 2) refl refl (omega arith) in
    let x = m 3 4 (at + 3) refl refl (omega arith) in
    let y = m 4 5 (at + 4) refl refl (omega arith) in
    let z = m 5 6 (at + 5) refl refl (omega arith) in
    let h = m 6 7 (at + 6) refl refl (omega arith) in
    (omega (arith, c.from_be_bytes.ensures, u, v, w, x, y, z, h, m 7 8 (at + 7) refl refl (omega arith)), omega arith)
