-- `calls::set_listed` meets its contract: ENQUEUE, the requests about a place, and those about the modes.
use Rattle.numbers.proofs.Basics.{refl, sym, ◌∙◌}
use Rattle.std.proofs.lemmas.Result.{on_err_weaker}
use Rattle.rules.specs.Requests.{request}
use Rattle.answers.proofs.Laws.{as-answer}
use Rattle.calls.proofs.set_listed.Goals as goal

pub returns-then-group-eq-ENQUEUE : goal.returns-then-group-eq-ENQUEUE
returns-then-group-eq-ENQUEUE c = unfold request in
    let e = c.enqueue_irqs.ensures in record {
      set_to = as-answer _ _ _ _ _ 2 c.if-group-eq-ENQUEUE.true refl (e.answer _ _ refl refl);
      held = (e.held.0, c.requires.1, e.held.1);
      kept = on_err_weaker c.enqueue_irqs.result (λ k. (k, refl, refl)) e.kept;
    }

pub set_place-requires : goal.set_place-requires
set_place-requires c = (c.args.bounds.imaged, c.requires.1, sym c.on_place.ensures ∙ c.if-on_place.true)

pub returns-then-on_place : goal.returns-then-on_place
returns-then-on_place c =
    let e = c.set_place.ensures in record {
      set_to = e.by_index _ _ _ _;
      held = (c.requires.0, e.held, refl);
      kept = on_err_weaker c.set_place.result (λ k. (refl, k, refl)) e.kept;
    }

pub set_modes-requires : goal.set_modes-requires
set_modes-requires c =
    (c.if-group-eq-ENQUEUE.false, c.requires.2, c.requires.3, c.requires.4, sym c.on_place.ensures ∙ c.if-on_place.false)
