-- The record stands at the start of the buffer.
use Rattle.numbers.proofs.Basics.{◌≡◌, refl, ◌∙◌, arith, length, take_all, rules}
use Rattle.record_take.proofs.hand.Goals as goal

pub returns : goal.returns
returns c =
    let l : length c.args.r ≡ 72 = search rules in
    (refl, c.save.ensures ∙ rw (take_all 72 c.args.r (omega arith)))
