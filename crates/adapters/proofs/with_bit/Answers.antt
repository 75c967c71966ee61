-- `adapters::with_bit` meets its contract: a bit that is not set has room.
use Rattle.numbers.proofs.Basics.{rules, arith, sym, ◌∙◌}
use Rattle.rules.specs.{Bytes.choose, State.with_bit}
use Rattle.adapters.proofs.{Laws.bit-room}
use Rattle.adapters.proofs.with_bit.Goals as goal

pub returns-then-has_bit : goal.returns-then-has_bit
returns-then-has_bit c = unfold with_bit choose in rw (sym c.has_bit.ensures ∙ c.if-has_bit.true)

pub overflow_add-result : goal.overflow_add-result
overflow_add-result c = omega (arith, (bit-room _ c.args.mask c.requires (search rules)).0 (sym c.has_bit.ensures ∙ c.if-has_bit.false))

pub returns : goal.returns
returns c = unfold with_bit choose in rw (sym c.has_bit.ensures ∙ c.if-has_bit.false, c.bit_of.ensures.0)
