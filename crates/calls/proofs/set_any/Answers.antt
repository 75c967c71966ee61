-- `calls::set_any` meets its contract: the groups that clear or inject, and the others.
use Rattle.numbers.proofs.Basics.{refl}
use Rattle.std.proofs.lemmas.Result.{on_err_weaker}
use Rattle.rules.specs.Requests.{request}
use Rattle.answers.proofs.Laws.{as-answer}
use Rattle.calls.proofs.set_any.Goals as goal

pub returns-then-group-eq-CLEAR_IRQS : goal.returns-then-group-eq-CLEAR_IRQS
returns-then-group-eq-CLEAR_IRQS c = unfold request in
    let e = c.clear_irqs.ensures in record {
      set_to = as-answer _ _ _ _ _ 3 c.if-group-eq-CLEAR_IRQS.true refl (rw e.others.0 (e.answer _ _ c.args.c.now.slots _ refl));
      held = (e.held, c.requires.1, e.others.1);
      kept = on_err_weaker c.clear_irqs.result (λ k. (k, refl, refl)) e.kept;
    }

pub returns-then-group-eq-CLEAR_IO_IRQ : goal.returns-then-group-eq-CLEAR_IO_IRQ
returns-then-group-eq-CLEAR_IO_IRQ c = unfold request in
    let e = c.clear_io.ensures in record {
      set_to = as-answer _ _ _ _ _ 8 c.if-group-eq-CLEAR_IO_IRQ.true refl (rw e.others.1 (e.answer _ _ c.args.c.now.singles refl));
      held = (e.held, c.requires.1, e.others.2);
      kept = on_err_weaker c.clear_io.result (λ k. (k, refl, refl)) e.kept;
    }

pub returns-then-group-eq-AIRQ_INJECT : goal.returns-then-group-eq-AIRQ_INJECT
returns-then-group-eq-AIRQ_INJECT c =
    let e = c.inject_in.ensures in record {
      set_to = as-answer _ _ _ _ _ 10 c.if-group-eq-AIRQ_INJECT.true refl (e.by_index _);
      held = (e.held, c.requires.1, e.others.1);
      kept = on_err_weaker c.inject_in.result (λ k. (k.0, refl, k.1)) e.kept;
    }
