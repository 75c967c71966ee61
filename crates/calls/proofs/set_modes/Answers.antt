-- `calls::set_modes` meets its contract: the check decides, and an accepted request changes the device record alone.
use Rattle.numbers.proofs.Basics.{refl, sym, ◌∙◌, []}
use Rattle.std.proofs.lemmas.Result.{err_from_is_err_and}
use Rattle.rules.specs.{State.with_device, Outcome.accept}
use Rattle.answers.proofs.Laws.{refused_as, accepted}
use Rattle.calls.specs.Inner.{limits_from, image_state}
use Rattle.calls.proofs.set_modes.Goals as goal

pub returns-in_err-check_modes : goal.returns-in_err-check_modes
returns-in_err-check_modes c =
    let p = err_from_is_err_and c.from_residual.result c.from_residual.ensures.1 in
    rw (p.1, p.2) (
    record {
      by_index = λ places room image p. refused_as _ _ _ _ _ _ _ refl (c.in_err-check_modes.ensures.decides _ _ refl) refl;
      kept = refl;
    })

pub returns : goal.returns
returns c =
    let a = c.args in record {
      by_index = λ places room image p.
          let s = image_state a.ais places image p a.device.now in
          accepted _ _ _ _ _ 0 _ [] _ (c.in_ok-check_modes.ensures.decides (limits_from places room) s refl ∙ (λ i. accept 0 (with_device (sym c.modes_after.ensures i) s) [])) refl refl;
      kept = tt;
    }
