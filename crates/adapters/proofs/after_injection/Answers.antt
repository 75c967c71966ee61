-- `adapters::after_injection` meets its contract, by the test.
use Rattle.numbers.proofs.Basics.{Bool, ap, sym, ◌∙◌}
use Rattle.rules.specs.{Bytes.choose, State.with_bit}
use Rattle.adapters.specs.{declared.Device.Device, declared.Place.Place, Values.injected_device}
use Rattle.adapters.proofs.after_injection.Goals as goal

-- the record after an injection, by whether the place's bit of simm counts
abbrev noted : Place → Device → Bool → Device
noted p d on = record { simm = d.simm; nimm = choose on (with_bit p.isc.0 d.nimm) d.nimm; apf = d.apf }

pub returns-then-under_ais : goal.returns-then-under_ais
unfolding injected_device choose
returns-then-under_ais c = rw c.with_bit.ensures (ap (noted c.args.p c.args.d) (sym c.if-under_ais.true ∙ c.under_ais.ensures))

pub returns : goal.returns
unfolding injected_device choose
returns c = ap (noted c.args.p c.args.d) (sym c.if-under_ais.false ∙ c.under_ais.ensures)
