-- The word stands at byte 16 of the record.
use Rattle.numbers.proofs.Basics.{sym, ap, ◌∙◌, ℕ, ◌/◌, ◌%◌, ◌^◌, arith}
use Rattle.rules.specs.State.{subclass}
use Rattle.numbers.proofs.Laws.{field-part}
use Rattle.record_add.proofs.subclass_at.Goals as goal

pub returns : goal.returns
returns c = unfold subclass in let a = c.args in
    ap (λ (w : ℕ). record { 0 = w / 2 ^ 27 % 8 }) (c.read_be-word.ensures.0 ∙ sym (field-part 16 4 72 a.at a.b.now (omega arith)))
