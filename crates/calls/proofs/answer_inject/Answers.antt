-- `calls::answer_inject` meets its contract: the four cases of an injection, and an id past the last place.
use Rattle.numbers.proofs.Basics.{Bool, ℕ, ◌<◌, ◌≡◌, refl, ap, sym, ◌∙◌, [], arith, leb, leb-true, leb-false}
use Rattle.rules.specs.{Requests.adapter_interrupt, State.State, State.queued, State.add_io, State.with_pending, State.with_device, Outcome.accept}
use Rattle.record_add.proofs.Laws.{queued-total}
use Rattle.store.specs.Memory.{pending_of}
use Rattle.adapters.specs.{declared.Injection.Injection, declared.Device.Device, declared.Place.Place, Values.injection_of, Values.injected_device, Values.device_of}
use Rattle.numbers.specs.declared.Subclass.{Subclass}
use Rattle.answers.proofs.Laws.{refused_as, accepted}
use Rattle.calls.specs.Cases.{answer_for}
use Rattle.calls.proofs.Requests.{as_it_was, none-there, dropped-there, full-there, appended-there, out_of_range, nobody-there, is-dropped, is-full, is-appended, injected-is, nothing-changes, is-noted}
use Rattle.calls.proofs.answer_inject.Goals as goal

-- what is told of an injection by the code's own count of the queued records
case-told : (ais : Bool) (d : Device) (p : Place) (room n m : ℕ) (w x : Injection) → w ≡ injection_of ais d p (leb room n) → n ≡ m → w ≡ x
    → answer_for x ≡ answer_for (injection_of ais d p (leb room m))
case-told ais d p room n m w x h k e = ap answer_for (sym e ∙ h ∙ (λ i. injection_of ais d p (leb room (k i))))

pub append_interrupt-requires : goal.append_interrupt-requires
unfolding injection_of
append_interrupt-requires c =
    let w = c in
    let j = w in
    let f = j in
    let d = appended-there _ _ _ _ _ (sym j.inject.ensures ∙ c.in-Appended.is) in (
      omega (arith, ap (λ (x : Subclass). x.0) d.3, f.requires.2.isc_small),
      j.queued-n.ensures,
      omega (arith, f.requires.0, leb-false f.args.room j.queued-n.result d.2, j.queued-n.ensures),
      f.requires.1,
    )

pub returns-in-NoAdapter : goal.returns-in-NoAdapter
unfolding injection_of
returns-in-NoAdapter c =
    let j = c in
    let f = j in
    let a = f.args in record {
      injected = nothing-changes _ _ _ _ _ _ _ (pending_of a.c.now.order a.c.now.counts a.c.now.slots) _ 22 refl (λ h. refl ∙ case-told a.c.now.ais a.device a.place a.room c.queued-n.result _ c.inject.result _ c.inject.ensures c.queued-n.ensures c.in-NoAdapter.is) (λ L s singles b e1 e2 e3 e4 e5 e6.
          refused_as L s _ _ _ 22 _ (as_it_was s _ _ e4 e5)
          (nobody-there L s a.c.now.ais a.device a.place a.id.0 b (omega (arith, e1, c.if-places-id.false)) e6 (none-there _ _ _ _ (sym j.inject.ensures ∙ c.in-NoAdapter.is)))
          refl);
      held = f.requires.1;
      others = (refl, refl);
      kept = refl;
    }

pub returns-in-Dropped : goal.returns-in-Dropped
unfolding injection_of
returns-in-Dropped c =
    let j = c in
    let f = j in
    let a = f.args in
    let d = dropped-there _ _ _ _ (sym j.inject.ensures ∙ c.in-Dropped.is) in record {
      injected = nothing-changes _ _ _ _ _ _ _ (pending_of a.c.now.order a.c.now.counts a.c.now.slots) _ 0 refl (λ h. refl ∙ case-told a.c.now.ais a.device a.place a.room c.queued-n.result _ c.inject.result _ c.inject.ensures c.queued-n.ensures c.in-Dropped.is) (λ L s singles b e1 e2 e3 e4 e5 e6.
          accepted L s _ _ _ 0 _ [] _
          (is-dropped L s a.c.now.ais a.device a.place a.id.0 b (omega (arith, e1, c.if-places-id.false)) e6 d.0 e3 e5 d.1 ∙ ap (λ (t : State). accept 0 t []) (as_it_was s _ _ e4 e5))
          refl refl);
      held = f.requires.1;
      others = (refl, refl);
      kept = tt;
    }

pub returns-in-Full : goal.returns-in-Full
unfolding injection_of
returns-in-Full c =
    let j = c in
    let f = j in
    let a = f.args in
    let d = full-there _ _ _ _ (sym j.inject.ensures ∙ c.in-Full.is) in record {
      injected = nothing-changes _ _ _ _ _ _ _ (pending_of a.c.now.order a.c.now.counts a.c.now.slots) _ 16 refl (λ h. refl ∙ case-told a.c.now.ais a.device a.place a.room c.queued-n.result _ c.inject.result _ c.inject.ensures c.queued-n.ensures c.in-Full.is) (λ L s singles b e1 e2 e3 e4 e5 e6.
          refused_as L s _ _ _ 16 _ (as_it_was s _ _ e4 e5)
          (is-full L s a.c.now.ais a.device a.place a.id.0 b (omega (arith, e1, c.if-places-id.false)) e6 d.0 e3 e5 d.1
          (omega (arith, e2, leb-true a.room j.queued-n.result d.2, ap queued e4, queued-total a.c.now.order a.c.now.counts a.c.now.slots singles f.requires.1 ∙ sym c.queued-n.ensures)))
          refl);
      held = f.requires.1;
      others = (refl, refl);
      kept = refl;
    }

pub returns-in-Appended : goal.returns-in-Appended
unfolding injection_of
returns-in-Appended c =
    let w = c in
    let j = w in
    let f = j in
    let a = f.args in
    let d = appended-there _ _ _ _ _ (sym j.inject.ensures ∙ c.in-Appended.is) in
    let m = c.append_interrupt.ensures in record {
      injected = is-noted _ _ _ _ _ _ _ (pending_of a.c.now.order a.c.now.counts a.c.now.slots) _ _ refl (λ h. refl ∙ case-told a.c.now.ais a.device a.place a.room c.queued-n.result _ c.inject.result _ c.inject.ensures c.queued-n.ensures c.in-Appended.is) (λ L s singles b e1 e2 e3 e4 e5 e6.
          let h : a.id.0 < L.places = omega (arith, e1, c.if-places-id.false) in
          accepted L s _ _ _ 1 _ [] _
          (is-appended L s a.c.now.ais a.device a.place a.id.0 b h e6 d.0 e3 e5 d.1 (omega (arith, e2, leb-false a.room j.queued-n.result d.2, ap queued e4, queued-total a.c.now.order a.c.now.counts a.c.now.slots singles f.requires.1 ∙ sym c.queued-n.ensures))
          ∙ ap (λ (t : State). accept 1 t []) (injected-is L s a.c.now.ais a.device a.place a.id.0 b h e6 d.0 e3 e5 _ e4
          ∙ (λ i. with_device (device_of (injected_device a.c.now.ais a.device a.place)) (with_pending
          (sym (m.pending singles ∙ ap (λ (x : Subclass). add_io x.0 (adapter_interrupt x.0) (pending_of a.c.now.order a.c.now.counts a.c.now.slots singles)) d.3) i) s))))
          refl refl);
      held = m.held;
      others = m.others;
      kept = tt;
    }

pub returns-then-places-id : goal.returns-then-places-id
returns-then-places-id c = let f = c in
    let a = f.args in record {
      injected = nothing-changes _ _ _ _ _ _ _ (pending_of a.c.now.order a.c.now.counts a.c.now.slots) _ 22 refl (λ h. absurd (omega (arith, h, c.if-places-id.true))) (λ L s singles b e1 e2 e3 e4 e5 e6.
          refused_as L s _ _ _ 22 _ (as_it_was s _ _ e4 e5) (out_of_range L s a.c.now.ais a.device a.place a.id.0 b (omega (arith, e1, c.if-places-id.true))) refl);
      held = f.requires.1;
      others = (refl, refl);
      kept = refl;
    }
