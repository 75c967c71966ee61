-- The checks of the rules, in their order; a refusal comes before anything is added.
use Rattle.numbers.proofs.Basics.{refl, sym, ap, ◌∙◌, ◌/◌, arith, eq-eqb}
use Rattle.numbers.proofs.Basics.{ne_eqb, le-leb, lt-leb}
use Rattle.std.proofs.lemmas.Result.{err_from_is_err_and}
use Rattle.rules.specs.{State.add_all, State.queued, Requests.enqueue_bytes, Requests.records_in, Requests.request}
use Rattle.rules.proofs.Checks.{fails}
use Rattle.answers.specs.declared.Refusal.TheVariants.{Fault, Invalid}
use Rattle.answers.proofs.Laws.{refuses}
use Rattle.record_add.proofs.{Laws.queued-total, Laws.told, Laws.enqueuing, Laws.enqueue-bad, Laws.enqueue-good}
use Rattle.record_add.proofs.enqueue_irqs.Goals as goal
use Rattle.record_add.proofs.enqueue_irqs.Goals.{then-attr-eq0-via-then-attr-eq0, then-attr-eq0-via-else-attr-eq0+then-attr-gt-ENQUEUE_BYTES, then-attr-eq0-via-else-attr-eq0+else-attr-gt-ENQUEUE_BYTES+then-attr-ne0}

pub returns-then-attr-eq0-clause-answer : goal.returns-then-attr-eq0-clause-answer
unfolding request
returns-then-attr-eq0-clause-answer c = λ L s er ep. refuses L s _ _ Invalid _ ep (fails _ _ _ (elim c.then-attr-eq0.branch [
  | then-attr-eq0-via-then-attr-eq0 w ↦ rw (eq-eqb _ 0 w.if-attr-eq0.true)
  | then-attr-eq0-via-else-attr-eq0+then-attr-gt-ENQUEUE_BYTES w ↦ rw (ne_eqb _ 0 w.if-attr-eq0.false, lt-leb _ enqueue_bytes w.if-attr-gt-ENQUEUE_BYTES.true)
  | then-attr-eq0-via-else-attr-eq0+else-attr-gt-ENQUEUE_BYTES+then-attr-ne0 w ↦ rw (ne_eqb _ 0 w.if-attr-eq0.false, le-leb _ enqueue_bytes w.if-attr-gt-ENQUEUE_BYTES.false, ne_eqb _ 0 w.if-attr-ne0.true)
]))

pub returns-then-payload-bytes-clause-answer : goal.returns-then-payload-bytes-clause-answer
returns-then-payload-bytes-clause-answer c = λ L s er ep. refuses L s _ _ Fault _ ep (enqueuing L s _ _ c.if-attr-eq0.false c.if-attr-gt-ENQUEUE_BYTES.false c.if-attr-ne0.false ∙ fails _ _ _ (lt-leb _ _ c.if-payload-bytes.true))

pub returns-in_err-count : goal.returns-in_err-count
returns-in_err-count c =
    let a = c.args in
    let p = err_from_is_err_and c.from_residual.result c.from_residual.ensures.1 in
    rw (p.1, p.2) record {
      answer = λ L s er ep. enqueue-bad L s a.attr a.payload.now c.if-attr-eq0.false c.if-attr-gt-ENQUEUE_BYTES.false c.if-attr-ne0.false c.if-payload-bytes.false _ (ap queued ep ∙ queued-total _ _ _ _ c.requires.1 ∙ sym c.queued-queued.ensures) _ er _ c.in_err-count.ensures _ ep;
      held = (c.requires.1, refl);
      kept = refl;
    }

pub returns-clause-answer : goal.returns-clause-answer
returns-clause-answer c =
    let a = c.args in
    λ L s er ep. enqueue-good L s a.attr a.payload.now c.if-attr-eq0.false c.if-attr-gt-ENQUEUE_BYTES.false c.if-attr-ne0.false c.if-payload-bytes.false _ (ap queued ep ∙ queued-total _ _ _ _ c.requires.1 ∙ sym c.queued-queued.ensures) _ er _ c.in_ok-count.ensures _
    (c.add_all.ensures.pending ∙ ap (add_all (records_in (a.attr / 72) a.payload.now)) (sym ep))

pub add_all-requires : goal.add_all-requires
add_all-requires c =
    let a = c.args in
    let g = told (records_in (a.attr / 72) a.payload.now) (a.attr / 72) _ _ _ c.in_ok-count.ensures in
    (omega arith, omega (arith, c.if-payload-bytes.false), c.queued-queued.ensures, c.requires.1, omega (arith, c.queued-queued.ensures, c.requires.0, g.2))
