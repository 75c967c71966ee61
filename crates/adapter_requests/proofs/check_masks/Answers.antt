-- `adapter_requests::check_masks` meets its contract: the checks one by one.
use Rattle.numbers.proofs.Basics.{◌∙◌, arith}
use Rattle.rules.specs.{Bytes.choose, Requests.request}
use Rattle.adapter_requests.specs.States.{modes_after}
use Rattle.adapter_requests.proofs.{Laws.bad-attr, Laws.no-ais, Laws.short-ais, Laws.opened-ais}
use Rattle.adapter_requests.proofs.check_masks.Goals as goal

pub returns-then-attr-ne0 : goal.returns-then-attr-ne0
returns-then-attr-ne0 c = unfold request in record { decides = λ L s e. bad-attr _ c.if-attr-ne0.true; asked = tt }

pub returns-then-not-ais : goal.returns-then-not-ais
returns-then-not-ais c = unfold request in record {
  decides = λ L s e. no-ais _ c.if-attr-ne0.false (e ∙ c.if-not-ais.true);
  asked = tt;
}

pub returns-then-payload-lt2 : goal.returns-then-payload-lt2
returns-then-payload-lt2 c = unfold request in record {
  decides = λ L s e. short-ais _ c.if-attr-ne0.false (e ∙ c.if-not-ais.false) c.if-payload-lt2.true;
  asked = tt;
}

pub returns : goal.returns
returns c = unfold request modes_after choose in record {
  decides = λ L s e. opened-ais _ c.if-attr-ne0.false (e ∙ c.if-not-ais.false) c.if-payload-lt2.false;
  asked = record { mode = λ e. let z : ⊥ = omega (arith, e) in absurd z; masks = λ e. c.if-payload-lt2.false };
}
