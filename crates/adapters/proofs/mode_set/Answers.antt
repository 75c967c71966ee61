-- `adapters::mode_set` meets its contract, by what the bit functions ensure.
use Rattle.rules.specs.Bytes.{choose}
use Rattle.adapters.specs.Values.{mode_set}
use Rattle.adapters.proofs.mode_set.Goals as goal

pub returns-then-single : goal.returns-then-single
unfolding mode_set choose
returns-then-single c =
    rw c.if-single.true (λ i. record { simm = c.with_bit.ensures i; nimm = c.without_bit-nimm.ensures i; apf = c.args.d.apf })

pub returns : goal.returns
unfolding mode_set choose
returns c =
    rw c.if-single.false (λ i. record { simm = c.without_bit.ensures i; nimm = c.without_bit-nimm.ensures i; apf = c.args.d.apf })
