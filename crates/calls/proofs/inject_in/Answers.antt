-- `calls::inject_in` meets its contract: the device record is noted where the count is 1.
use Rattle.numbers.proofs.Basics.{refl, sym, ◌∙◌, eq-eqb, ne_eqb}
use Rattle.std.specs.Prelude.{Ok, Err}
use Rattle.std.proofs.lemmas.Result.{err_from_is_err_and}
use Rattle.rules.proofs.Checks.{chosen, passed}
use Rattle.adapters.specs.Values.{injected_device}
use Rattle.calls.proofs.{Requests.set-injected}
use Rattle.calls.proofs.inject_in.Goals as goal

pub returns-in_err-appended : goal.returns-in_err-appended
returns-in_err-appended c =
    let x = c.in_err-appended.field-0.0 in
    let e = c.in_err-appended.ensures in
    let p = err_from_is_err_and c.from_residual.result c.from_residual.ensures.1 in
    rw (p.1, p.2) (
    record {
      by_index = λ b. rw e.others.0 (set-injected (Err x) e.injected _ c.look_up-place.ensures.0 _ (passed _ _ _ refl) c.args.c.now.singles b);
      held = e.held;
      others = e.others;
      kept = (e.kept, refl);
    })

pub returns-then-appended-eq1 : goal.returns-then-appended-eq1
returns-then-appended-eq1 c =
    let e = c.in_ok-appended.ensures in record {
      by_index = λ b. rw e.others.0
          (set-injected (Ok _) e.injected _ c.look_up-place.ensures.0 _ (chosen _ _ _ (eq-eqb _ 1 c.if-appended-eq1.true) ∙ sym (c.after_injection.ensures ∙ (λ i. injected_device (e.others.1 i) c.args.device.now c.look_up-place.result))) c.args.c.now.singles b);
      held = e.held;
      others = e.others;
      kept = tt;
    }

pub returns-else-appended-eq1 : goal.returns-else-appended-eq1
returns-else-appended-eq1 c =
    let e = c.in_ok-appended.ensures in record {
      by_index = λ b. rw e.others.0 (set-injected (Ok _) e.injected _ c.look_up-place.ensures.0 _ (passed _ _ _ (ne_eqb _ 1 c.if-appended-eq1.false)) c.args.c.now.singles b);
      held = e.held;
      others = e.others;
      kept = tt;
    }
