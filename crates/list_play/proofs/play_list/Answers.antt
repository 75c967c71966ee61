-- `list_play::play_list` meets its contract: a refusal of form, a list refused part-way, and one that is played.
use Rattle.numbers.proofs.Basics.{refl, sym, ◌∙◌, subst, arith, List, ℕ, take, replicate, true≢false}
use Rattle.std.proofs.lemmas.Result.{err_from_is_err_and}
use Rattle.list_image.specs.Image.{image_size}
use Rattle.list_image.specs.Places.{AllCanonical}
use Rattle.list_image.proofs.Laws.{canonical-zeros, imaged-zeros, canonical-take}
use Rattle.list_play.proofs.{Laws.not-refused, Laws.fresh-is, Laws.not-played, Laws.played-all, Laws.played-part, Laws.part-way}
use Rattle.list_play.proofs.play_list.Goals as goal

pub returns-in_err-form : goal.returns-in_err-form
returns-in_err-form c =
    let p = err_from_is_err_and c.from_residual.result c.from_residual.ensures.1 in
    rw (p.1, p.2) (
    record {
      played = record {
        answer = λ L t e1 e2 e3. not-played L t _ _ c.in_err-form.field-0.0 (c.in_err-form.ensures.refused L t e3);
        canonical = rw c.requires.1 (canonical-take c.args.bounds.places (replicate image_size 0) (canonical-zeros image_size));
        refused = λ L t e code count g. refl;
      };
      held = (c.requires.0, refl);
      kept = λ z. (refl, refl);
    })

pub read_be-count-requires : goal.read_be-count-requires
read_be-count-requires c = let t = c.in_ok-form.ensures.good.table in (omega arith, omega arith)

pub apply_all-requires : goal.apply_all-requires
apply_all-requires c =
    (c.fresh.ensures.fresh.0, rw c.requires.1 imaged-zeros, c.in_ok-form.ensures.good, c.read_be-count.ensures.0)

pub returns-in-Ok : goal.returns-in-Ok
returns-in-Ok c =
    let a = c.args in
    record {
      played = record {
        answer = λ L t e1 e2 e3.
            played-all a.bounds.places a.bounds.room a.c.now.ais a.list.now _ _ _
            (fresh-is a.bounds.places a.bounds.room a.c.now.ais _ _ _ c.args.bounds.imaged refl (c.fresh.ensures.fresh.1 _) c.fresh_device.ensures)
            L t e1 e2 e3 (c.in_ok-form.ensures.played L t e3) _ (rw (c.requires.1, c.fresh.ensures.others.1) at c.in-Ok.ensures.set_by_entries);
        canonical = canonical-take a.bounds.places _ c.in-Ok.ensures.held.1.canonical;
        refused = λ L t e code count g. absurd (not-refused _ _ _ _ code count _ (c.in_ok-form.ensures.played L t e) g);
      };
      held = (c.in-Ok.ensures.held.0, c.in-Ok.ensures.held.2 ∙ c.fresh.ensures.others.1);
      kept = λ z. absurd (true≢false z);
    }

pub returns-in-Err : goal.returns-in-Err
returns-in-Err c =
    let a = c.args in
    let z = c.fresh-in-Err.ensures in
    record {
      played = record {
        answer = λ L t e1 e2 e3.
            played-part a.bounds.places a.bounds.room a.c.now.ais a.list.now _ _ _
            (fresh-is a.bounds.places a.bounds.room a.c.now.ais _ _ _ c.args.bounds.imaged refl (c.fresh.ensures.fresh.1 _) c.fresh_device.ensures)
            L t e1 e2 e3 (c.in_ok-form.ensures.played L t e3) c.in-Err.error (rw (c.requires.1, c.fresh.ensures.others.1) at c.in-Err.ensures.set_by_entries)
            _ (fresh-is a.bounds.places a.bounds.room a.c.now.ais _ _ _ c.args.bounds.imaged c.clear.ensures (z.fresh.1 _) c.fresh_device-in-Err.ensures);
        canonical = subst (λ (l : List ℕ). AllCanonical (take a.bounds.places l)) (sym c.clear.ensures) (canonical-take a.bounds.places (replicate image_size 0) (canonical-zeros image_size));
        refused = λ L t e code count g. absurd (not-refused _ _ _ _ code count _ (c.in_ok-form.ensures.played L t e) g);
      };
      held = (z.fresh.0, z.others.1 ∙ c.in-Err.ensures.held.2 ∙ c.fresh.ensures.others.1);
      kept = λ k. absurd (true≢false (sym (part-way _ _ _ _ c.in-Err.error c.in-Err.ensures.set_by_entries) ∙ k));
    }
