-- `adapter_requests::place_after` meets its contract: what REGISTER enters, what MODIFY of type 1 leaves, or the place
-- as it was.
use Rattle.numbers.proofs.Basics.{sym, ◌∙◌, eq-eqb, ne_eqb}
use Rattle.rules.specs.{Bytes.choose, Requests.adapter_in}
use Rattle.rules.proofs.Checks.{chosen, passed}
use Rattle.adapter_requests.specs.States.{place_after}
use Rattle.adapter_requests.proofs.place_after.Goals as goal

pub returns-then-group-eq-ADAPTER_REGISTER : goal.returns-then-group-eq-ADAPTER_REGISTER
unfolding place_after adapter_in choose
returns-then-group-eq-ADAPTER_REGISTER c =
    let e = c.if-group-eq-ADAPTER_REGISTER.true in (
      c.registered.ensures.result_value ∙ sym (chosen _ _ _ (eq-eqb _ 6 e)),
      λ k. c.registered.ensures.canonical (c.requires.isc e),
      chosen _ _ _ (eq-eqb _ 6 e),
    )

pub returns-then-payload-eq1 : goal.returns-then-payload-eq1
unfolding place_after choose
returns-then-payload-eq1 c =
    let m = c.mask_set.ensures in (
      m.result_value ∙ sym (passed _ _ _ (ne_eqb _ 6 c.if-group-eq-ADAPTER_REGISTER.false) ∙ chosen _ _ _ (eq-eqb _ 1 c.if-payload-eq1.true)),
      λ k. m.canonical k (λ on. c.requires.maskable c.if-group-eq-ADAPTER_REGISTER.false c.if-payload-eq1.true),
      passed _ _ _ (ne_eqb _ 6 c.if-group-eq-ADAPTER_REGISTER.false) ∙ sym m.others,
    )

pub returns : goal.returns
unfolding place_after
returns c = (
  sym (passed _ _ _ (ne_eqb _ 6 c.if-group-eq-ADAPTER_REGISTER.false) ∙ passed _ _ _ (ne_eqb _ 1 c.if-payload-eq1.false)),
  λ k. k,
  passed _ _ _ (ne_eqb _ 6 c.if-group-eq-ADAPTER_REGISTER.false),
)
