use Rattle.numbers.proofs.Basics.{ℕ, ◌≡◌, refl, ap, ◌∙◌, [], arith}
use Rattle.rules.specs.Outcome.{accept}
use Rattle.store.specs.Memory.{pending_in}
use Rattle.calls.specs.Inner.{image_state}
use Rattle.list_form.proofs.Laws.{slots-all}
use Rattle.list_play.proofs.{Laws.applies-next, Laws.applies-stops, Laws.applies-ends}
use Rattle.list_play.proofs.apply_all.Goals as goal

pub loop-i-init : goal.loop-i-init
loop-i-init c = let p = c.requires in (p.0, p.1, refl, rw (slots-all, p.3))

pub apply_at-requires : goal.apply_at-requires
apply_at-requires c =
    let p = c.requires in
    let v = c.loop-i.invariant in
    (v.0, v.1, p.2, omega (arith, p.3, c.loop-i-test.true))

pub returns-in-Err : goal.returns-in-Err
returns-in-Err c =
    let v = c.loop-i.invariant in
    let r = rw v.2 at c.in-Err.ensures.set_by_entry in
    let h = c.in-Err.ensures.held in
    record {
      set_by_entries = v.3 ∙ applies-stops _ _ _ c.args.list.now c.loop-i.i c.args.count c.loop-i-test.true c.in-Err.refusal r;
      held = (h.0, h.1, h.2 ∙ v.2);
    }

pub loop-i-preserved : goal.loop-i-preserved
loop-i-preserved c =
    let v = c.loop-i.invariant in
    let r = rw v.2 at c.in_default.ensures.set_by_entry in
    let h = c.in_default.ensures.held in (
      h.0,
      h.1,
      h.2 ∙ v.2,
      v.3 ∙ applies-next _ _ _ c.args.list.now c.loop-i.i c.args.count c.loop-i-test.true c.in_default.field-0 r,
    )

pub returns : goal.returns
returns c =
    let l = c.loop-i in
    let n : l.i ≡ c.args.count = omega (arith, l.auto.i-end, c.loop-i-test.false) in
    record {
      set_by_entries = l.invariant.3 ∙ applies-ends _ _ c.args.list.now l.i c.args.count c.loop-i-test.false ∙ ap (λ (k : ℕ). accept k (image_state c.args.c.now.ais c.args.bounds.places l.image (pending_in l.c) l.device) []) n;
      held = (l.invariant.0, l.invariant.1, l.invariant.2);
    }
