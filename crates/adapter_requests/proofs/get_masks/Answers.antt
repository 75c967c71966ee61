-- `adapter_requests::get_masks` meets its contract: the checks one by one.
use Rattle.numbers.proofs.Basics.{refl, ap, ◌∙◌, [], ◌∷◌}
use Rattle.rules.specs.{Requests.request, Outcome.accept}
use Rattle.rules.specs.State as rules
use Rattle.answers.proofs.Laws.{refused, accepted}
use Rattle.adapter_requests.proofs.{Laws.bad-attr, Laws.no-ais, Laws.short-ais, Laws.opened-ais, Laws.two-written}
use Rattle.adapter_requests.proofs.get_masks.Goals as goal

pub returns : goal.returns
unfolding request
returns c = record {
  answer = λ L s e1 e2. accepted L s _ _ _ 0 s _ _ (opened-ais _ c.if-attr-ne0.false (e1 ∙ c.if-not-ais.false) c.if-out-lt2.false
      ∙ ap (λ (d : rules.Device). accept 0 s (d.simm ∷ d.nimm ∷ [])) e2) refl (two-written c.args.out.now _ _ c.if-out-lt2.false);
  kept = tt;
}

pub returns-then-attr-ne0 : goal.returns-then-attr-ne0
returns-then-attr-ne0 c = unfold request in record { answer = λ L s e1 e2. refused L s _ _ _ 22 _ refl (bad-attr _ c.if-attr-ne0.true) refl; kept = refl }

pub returns-then-not-ais : goal.returns-then-not-ais
returns-then-not-ais c = unfold request in record {
  answer = λ L s e1 e2. refused L s _ _ _ 95 _ refl (no-ais _ c.if-attr-ne0.false (e1 ∙ c.if-not-ais.true)) refl;
  kept = refl;
}

pub returns-then-out-lt2 : goal.returns-then-out-lt2
returns-then-out-lt2 c = unfold request in record {
  answer = λ L s e1 e2. refused L s _ _ _ 14 _ refl (short-ais _ c.if-attr-ne0.false (e1 ∙ c.if-not-ais.false) c.if-out-lt2.true) refl;
  kept = refl;
}
