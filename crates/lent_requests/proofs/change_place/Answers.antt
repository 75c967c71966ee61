-- `lent_requests::change_place` meets its contract: REGISTER stores the place, MODIFY sets its masked field.
use Rattle.numbers.proofs.Basics.{ap, sym, ◌∙◌, set, eq-eqb, ne_eqb}
use Rattle.rules.proofs.Checks.{chosen, passed}
use Rattle.lent_requests.proofs.change_place.Goals as goal

pub returns-then-group-eq-ADAPTER_REGISTER : goal.returns-then-group-eq-ADAPTER_REGISTER
returns-then-group-eq-ADAPTER_REGISTER c =
    c.register.ensures ∙ ap (set c.args.t.now c.args.id.0) (sym (chosen _ _ _ (eq-eqb _ 6 c.if-group-eq-ADAPTER_REGISTER.true)))

pub returns : goal.returns
returns c = c.mask.ensures ∙ ap (set c.args.t.now c.args.id.0) (sym (passed _ _ _ (ne_eqb _ 6 c.if-group-eq-ADAPTER_REGISTER.false)))
