-- `adapters::has_bit` meets its contract: what `bit_of` returns is the bit.
use Rattle.rules.specs.State.{has_bit}
use Rattle.adapters.proofs.has_bit.Goals as goal

pub returns : goal.returns
returns c = unfold has_bit in rw c.bit_of.ensures.0
