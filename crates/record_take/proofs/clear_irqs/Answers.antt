-- Nothing is queued any more, and neither service record nor machine check is there.
use Rattle.numbers.proofs.Basics.{refl, ◌∙◌, [], eq-eqb, ne_eqb}
use Rattle.rules.specs.Requests.{request}
use Rattle.rules.proofs.Checks.{passes, fails}
use Rattle.answers.specs.declared.Refusal.TheVariants.{Invalid}
use Rattle.answers.proofs.Laws.{refuses, accepts}
use Rattle.store.proofs.Laws.{none_left}
use Rattle.record_take.proofs.{Laws.clears-all}
use Rattle.record_take.proofs.clear_irqs.Goals as goal

pub returns-clause-answer : goal.returns-clause-answer
unfolding request
returns-clause-answer c =
    λ L s slots b e. accepts L s b _ _ _ [] b
    (passes _ _ _ (eq-eqb _ 0 c.if-attr-ne0.false) ∙ clears-all s _ _ _ e (c.pending-n.ensures.count _ slots c.requires)
    (none_left _ _ slots _ (c.clear.ensures.queue slots) (c.remove-2.ensures.1 ∙ c.remove.ensures.0) c.remove-2.ensures.0))
    refl

pub returns-then-attr-ne0-clause-answer : goal.returns-then-attr-ne0-clause-answer
unfolding request
returns-then-attr-ne0-clause-answer c = λ L s slots b e. refuses L s b _ Invalid _ e (fails _ _ _ (ne_eqb _ 0 c.if-attr-ne0.true))
