-- The checks of the rules, in their order; then the listing is written.
use Rattle.numbers.proofs.Basics.{◌≡◌, refl, ap, ◌∙◌, not, ◌*◌, ◌≤◌, arith, length, eq-eqb, ne_eqb, le-leb, lt-leb}
use Rattle.numbers.proofs.Basics.{rules}
use Rattle.rules.specs.{State.listing, Requests.request}
use Rattle.rules.proofs.Checks.{passes, fails}
use Rattle.store.specs.Memory.{pending_in}
use Rattle.answers.specs.declared.Refusal.TheVariants.{Fault, Invalid, NoMemory}
use Rattle.answers.proofs.Laws.{refuses, accepts}
use Rattle.record_take.proofs.{Laws.lists-none, Laws.lists-all, Laws.records-size}
use Rattle.record_take.proofs.get_all.Goals as goal

pub returns-then-attr-eq0-clause-answer : goal.returns-then-attr-eq0-clause-answer
unfolding request
returns-then-attr-eq0-clause-answer c = λ L s e. refuses L s _ _ Invalid _ refl (fails _ _ _ (ap not (eq-eqb _ 0 c.if-attr-eq0.true)))

pub returns-then-lent-attr-clause-answer : goal.returns-then-lent-attr-clause-answer
unfolding request
returns-then-lent-attr-clause-answer c =
    λ L s e. refuses L s _ _ Fault _ refl (passes _ _ _ (ap not (ne_eqb _ 0 c.if-attr-eq0.false)) ∙ fails _ _ _ (lt-leb _ _ c.if-lent-attr.true))

pub returns-then-attr-n-clause-answer : goal.returns-then-attr-n-clause-answer
unfolding request
returns-then-attr-n-clause-answer c =
    λ L s e. refuses L s _ _ NoMemory _ refl
    (passes _ _ _ (ap not (ne_eqb _ 0 c.if-attr-eq0.false)) ∙ passes _ _ _ (le-leb _ _ c.if-lent-attr.false)
    ∙ lists-none s _ _ _ e (c.pending-n.ensures.count _ _ c.requires) c.if-attr-n.true)

pub returns-clause-answer : goal.returns-clause-answer
unfolding request
returns-clause-answer c =
    let a = c.args in
    let n = c.pending-n.ensures.count a.c.now.order a.c.now.slots c.requires in
    let l : length c.list_all.new.out ≡ length a.out.now = search rules in
    let h : 72 * length (listing (pending_in a.c.now)) ≤ length a.out.now = omega arith in
    λ L s e. accepts L s _ _ _ s _ _
    (passes _ _ _ (ap not (ne_eqb _ 0 c.if-attr-eq0.false)) ∙ passes _ _ _ (le-leb _ _ c.if-lent-attr.false) ∙ lists-all s _ _ _ e n c.if-attr-n.false)
    (rw (records-size _ a.out.now _ h l c.list_all.ensures) c.list_all.ensures)
