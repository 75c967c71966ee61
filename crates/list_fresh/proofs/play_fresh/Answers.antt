-- The arrays are fresh, and what the player answers is what the rules do.
use Rattle.numbers.proofs.Basics.{refl, sym, ◌∙◌}
use Rattle.rules.specs.State.{paper_limits, fresh}
use Rattle.calls.proofs.Sized.{paper-sized}
use Rattle.list_play.specs.Play.{made_fresh}
use Rattle.list_fresh.proofs.{Laws.played-is}
use Rattle.list_fresh.proofs.play_fresh.Goals as goal

pub play_list-requires : goal.play_list-requires
play_list-requires c = let k = c in
    (k.fresh.ensures.fresh.0, k.empty-image.ensures)

pub returns : goal.returns
returns c = unfold fresh in let p = c.play_list in
    let e = c.fresh.ensures.fresh.1 _ in
    let a = p.ensures.played.answer paper_limits (fresh paper_limits _) paper-sized.places paper-sized.room refl in
    record {
      held = p.ensures.held.0;
      answer = played-is _ _ _ (made_fresh p.result) _ _ c.capable-c.ensures a refl (λ z. rw (p.ensures.kept z).0 (sym e));
      flag = λ h. p.ensures.held.1 ∙ c.capable-c.ensures h;
    }
