-- `calls::answer_get` meets its contract: GET_ALL_IRQS, AISM_ALL, and no other group.
use Rattle.numbers.proofs.Basics.{refl}
use Rattle.rules.specs.Requests.{request}
use Rattle.answers.proofs.Laws.{refused}
use Rattle.calls.proofs.{Requests.no-get, Requests.as-get}
use Rattle.calls.proofs.answer_get.Goals as goal

pub returns-then-group-eq-GET_ALL_IRQS : goal.returns-then-group-eq-GET_ALL_IRQS
returns-then-group-eq-GET_ALL_IRQS c = unfold request in let g = c.get_all.ensures in
    record { answer = λ s e1 e2 e3. as-get _ s _ _ _ 1 c.if-group-eq-GET_ALL_IRQS.true (g.answer _ s e2); kept = g.kept }

pub returns-then-group-eq-AISM_ALL : goal.returns-then-group-eq-AISM_ALL
returns-then-group-eq-AISM_ALL c = unfold request in let g = c.get_masks.ensures in
    record { answer = λ s e1 e2 e3. as-get _ s _ _ _ 11 c.if-group-eq-AISM_ALL.true (g.answer _ s e1 e3); kept = g.kept }

pub returns : goal.returns
returns c = unfold request in record {
  answer = λ s e1 e2 e3. refused _ s _ _ _ 22 _ refl (rw (no-get c.args.group c.if-group-eq-GET_ALL_IRQS.false c.if-group-eq-AISM_ALL.false)) refl;
  kept = refl;
}
