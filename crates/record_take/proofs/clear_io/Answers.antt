-- The checks of the rules, in their order; then the first record of the subchannel, or none.
use Rattle.numbers.proofs.Basics.{refl, ◌∙◌, [], le-leb, lt-leb}
use Rattle.rules.specs.Requests.{request, clears_io}
use Rattle.rules.proofs.Checks.{passes, fails}
use Rattle.answers.specs.declared.Refusal.TheVariants.{Fault, Invalid}
use Rattle.answers.proofs.Laws.{refuses, accepts}
use Rattle.record_take.proofs.{Laws.word-zero, Laws.clears-none, Laws.clears-one}
use Rattle.record_take.proofs.clear_io.Goals as goal

pub returns-then-attr-lt4-clause-answer : goal.returns-then-attr-lt4-clause-answer
unfolding request clears_io
returns-then-attr-lt4-clause-answer c = λ L s g e. refuses L s _ _ Invalid _ e (fails _ _ _ (lt-leb 4 _ c.if-attr-lt4.true))

pub returns-then-payload-lt4-clause-answer : goal.returns-then-payload-lt4-clause-answer
unfolding request clears_io
returns-then-payload-lt4-clause-answer c =
    λ L s g e. refuses L s _ _ Fault _ e (passes _ _ _ (le-leb 4 _ c.if-attr-lt4.false) ∙ fails _ _ _ (lt-leb 4 _ c.if-payload-lt4.true))

pub returns-then-word-eq0-clause-answer : goal.returns-then-word-eq0-clause-answer
unfolding request clears_io
returns-then-word-eq0-clause-answer c =
    λ L s g e. refuses L s _ _ Invalid _ e
    (passes _ _ _ (le-leb 4 _ c.if-attr-lt4.false) ∙ passes _ _ _ (le-leb 4 _ c.if-payload-lt4.false) ∙ fails _ _ _ (word-zero c.args.payload.now _ c.read_word-word.ensures.value c.if-word-eq0.true))

pub returns-in_default-clause-answer : goal.returns-in_default-clause-answer
returns-in_default-clause-answer c =
    let w = c.read_word-word.ensures in
    λ L s g e. accepts L s _ _ 0 _ [] _ (clears-none c.args.payload.now _ w.value w.halves.1 L s _ c.if-attr-lt4.false c.if-payload-lt4.false c.if-word-eq0.false _ _ _ g e (c.in_default.ensures.clears _ refl refl)) refl

pub returns-clause-answer : goal.returns-clause-answer
returns-clause-answer c =
    let w = c.read_word-word.ensures in
    let q = rw c.of.ensures at c.remove.ensures.queue in
    λ L s g e. accepts L s _ _ 1 _ [] _ (clears-one c.args.payload.now _ w.value w.halves.1 L s _ c.if-attr-lt4.false c.if-payload-lt4.false c.if-word-eq0.false _ _ _ g e _ _ _ _ c.in-At.ensures.place.0 (c.in-At.ensures.clears _ refl refl) (q _)) refl
