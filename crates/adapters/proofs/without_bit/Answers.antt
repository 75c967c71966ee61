-- `adapters::without_bit` meets its contract: a bit that is set is at most the mask.
use Rattle.numbers.proofs.Basics.{rules, arith, sym, ◌∙◌}
use Rattle.rules.specs.{Bytes.choose, State.without_bit}
use Rattle.adapters.proofs.{Laws.bit-room}
use Rattle.adapters.proofs.without_bit.Goals as goal

pub overflow_sub-result : goal.overflow_sub-result
overflow_sub-result c = omega (arith, (bit-room _ c.args.mask c.requires (search rules)).1 (sym c.has_bit.ensures ∙ c.if-has_bit.true))

pub returns-then-has_bit : goal.returns-then-has_bit
returns-then-has_bit c = unfold without_bit choose in rw (sym c.has_bit.ensures ∙ c.if-has_bit.true, c.bit_of.ensures.0)

pub returns : goal.returns
returns c = unfold without_bit choose in rw (sym c.has_bit.ensures ∙ c.if-has_bit.false)
