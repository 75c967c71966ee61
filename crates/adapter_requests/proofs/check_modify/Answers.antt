-- `adapter_requests::check_modify` meets its contract: the checks one by one.
use Rattle.numbers.proofs.Basics.{◌≤◌, ◌<◌, length, ◌≡◌, ap, ◌∙◌, true, List, ℕ, not, ◌&&◌, ◌||◌, [], arith, get_or, leb, eqb}
use Rattle.numbers.proofs.Basics.{eq-eqb, ne_eqb, le-leb, lt-leb, not-true, not-false}
use Rattle.rules.specs.{Bytes.choose, Bytes.byte, Bytes.field, State.Limits, State.State, State.free, Outcome.accept, Outcome.need◌else◌⨾◌, Requests.holding, Requests.adapter_modify, Requests.request, Requests.modifies, Requests.non_zero}
use Rattle.rules.proofs.Checks.{passes, fails, found, missing, both}
use Rattle.adapters.specs.declared.Place.{Place}
use Rattle.adapters.specs.Values.{place_of, adapter_of}
use Rattle.adapters.proofs.Laws.{place-used, place-free}
use Rattle.adapter_requests.specs.States.{payload_id, decided, place_after, with_place, PlaceAsked}
use Rattle.adapter_requests.proofs.{Laws.bad-attr, Laws.short, Laws.past-table, Laws.in_table, Laws.id-there, Laws.place-there, Laws.modified}
use Rattle.std.specs.Prelude.{Ok}
use Rattle.adapter_requests.proofs.check_modify.Goals as goal

-- the place holds an adapter: what is left to check
begun : (p : Place) (b : List ℕ) {attr places id : ℕ} → p.used ≡ true → attr ≡ 0 → 16 ≤ length b → id ≡ field 0 4 b → id < places
    → (L : Limits) (s : State) → L.places ≡ places → get_or s.adapters (payload_id b) free ≡ place_of p
    → request L s adapter_modify attr b
    ≡ (need leb 1 (byte 4 b) && leb (byte 4 b) 3 else 22 ⨾ need not (eqb (byte 4 b) 1) || p.maskable else 22
    ⨾ decided (Ok tt) (with_place (payload_id b) (place_after 7 b (place_of p)) s))
unfolding request modifies place_after choose
begun p b used z n id lt L s e1 e4 =
    let u = place-used p used in
    let g = place-there b (omega (arith, n)) s.adapters e4 in
    in_table L b _ z n e1 id lt
    ∙ found _ (adapter_of p) _ _ (ap holding (g ∙ u))
    ∙ ap (λ (t : State). need leb 1 (byte 4 b) && leb (byte 4 b) 3 else 22 ⨾ need not (eqb (byte 4 b) 1) || p.maskable else 22 ⨾ accept 0 t [])
    (modified s (field 0 4 b) (payload_id b) (eqb (byte 4 b) 1) (non_zero (byte 5 b)) (adapter_of p) (place_of p) (id-there b (omega (arith, n))) u g)

-- the type is 1 to 3
typed : (k : ℕ) → (k ≡ 0 → ⊥) → k ≤ 3 → (leb 1 k && leb k 3) ≡ true
typed k n h = both _ _ (le-leb 1 k (omega (arith, n))) (le-leb k 3 h)

asked : (b : List ℕ) (p : Place) → 16 ≤ length b → (byte 4 b ≡ 1 → p.maskable ≡ true) → PlaceAsked 7 b p
asked b p n m = record { long = omega (arith, n); isc = λ e. let z : ⊥ = omega (arith, e) in absurd z; maskable = λ n. m }

pub returns-then-not-place : goal.returns-then-not-place
unfolding request modifies
returns-then-not-place c =
    let a = c.args in record {
      decides = λ L s e1 e4. in_table L a.payload.now _ c.if-attr-ne0.false c.if-payload-lt16.false e1 c.read_be.ensures.0 c.if-places-read_be.false
          ∙ missing _ _ _ (ap holding (place-there a.payload.now (omega (arith, c.if-payload-lt16.false)) s.adapters e4 ∙ place-free a.place (not-true _ c.if-not-place.true)));
      asked = tt;
    }

pub returns-then-kind-gt3 : goal.returns-then-kind-gt3
returns-then-kind-gt3 c = record {
  decides = λ L s e1 e4. begun c.args.place c.args.payload.now (not-false _ c.if-not-place.false) c.if-attr-ne0.false c.if-payload-lt16.false c.read_be.ensures.0 c.if-places-read_be.false L s e1 e4
      ∙ fails _ _ _ (rw (lt-leb (byte 4 c.args.payload.now) 3 c.if-kind-gt3.true, le-leb 1 (byte 4 c.args.payload.now) (omega (arith, c.if-kind-gt3.true))));
  asked = tt;
}

pub returns-then-not-place-2 : goal.returns-then-not-place-2
returns-then-not-place-2 c = record {
  decides = λ L s e1 e4. begun c.args.place c.args.payload.now (not-false _ c.if-not-place.false) c.if-attr-ne0.false c.if-payload-lt16.false c.read_be.ensures.0 c.if-places-read_be.false L s e1 e4
      ∙ passes _ _ _ (typed _ c.if-kind-eq0.false c.if-kind-gt3.false)
      ∙ fails _ _ _ (rw (eq-eqb (byte 4 c.args.payload.now) 1 c.if-kind-eq1.true) (not-true _ c.if-not-place-2.true));
  asked = tt;
}

pub returns-else-not-place-2 : goal.returns-else-not-place-2
returns-else-not-place-2 c = record {
  decides = λ L s e1 e4. begun c.args.place c.args.payload.now (not-false _ c.if-not-place.false) c.if-attr-ne0.false c.if-payload-lt16.false c.read_be.ensures.0 c.if-places-read_be.false L s e1 e4
      ∙ passes _ _ _ (typed _ c.if-kind-eq0.false c.if-kind-gt3.false)
      ∙ passes _ _ _ (rw (eq-eqb (byte 4 c.args.payload.now) 1 c.if-kind-eq1.true) (not-false _ c.if-not-place-2.false));
  asked = asked c.args.payload.now c.args.place c.if-payload-lt16.false (λ e. not-false _ c.if-not-place-2.false);
}

pub returns-else-kind-eq1 : goal.returns-else-kind-eq1
returns-else-kind-eq1 c = record {
  decides = λ L s e1 e4. begun c.args.place c.args.payload.now (not-false _ c.if-not-place.false) c.if-attr-ne0.false c.if-payload-lt16.false c.read_be.ensures.0 c.if-places-read_be.false L s e1 e4
      ∙ passes _ _ _ (typed _ c.if-kind-eq0.false c.if-kind-gt3.false)
      ∙ passes _ _ _ (rw (ne_eqb (byte 4 c.args.payload.now) 1 c.if-kind-eq1.false));
  asked = asked c.args.payload.now c.args.place c.if-payload-lt16.false (λ e. absurd (c.if-kind-eq1.false e));
}

pub returns-then-attr-ne0 : goal.returns-then-attr-ne0
returns-then-attr-ne0 c = unfold request in record { decides = λ L s e1 e4. bad-attr _ c.if-attr-ne0.true; asked = tt }

pub returns-then-payload-lt16 : goal.returns-then-payload-lt16
returns-then-payload-lt16 c = unfold request in record {
  decides = λ L s e1 e4. short _ c.if-attr-ne0.false c.if-payload-lt16.true;
  asked = tt;
}

pub returns-then-places-read_be : goal.returns-then-places-read_be
returns-then-places-read_be c = unfold request modifies in
    record {
      decides = λ L s e1 e4. past-table L c.args.payload.now _ c.if-attr-ne0.false c.if-payload-lt16.false e1 c.read_be.ensures.0 c.if-places-read_be.true;
      asked = tt;
    }

pub returns-then-kind-eq0 : goal.returns-then-kind-eq0
returns-then-kind-eq0 c = record {
  decides = λ L s e1 e4. begun c.args.place c.args.payload.now (not-false _ c.if-not-place.false) c.if-attr-ne0.false c.if-payload-lt16.false c.read_be.ensures.0 c.if-places-read_be.false L s e1 e4
      ∙ fails _ _ _ (rw c.if-kind-eq0.true);
  asked = tt;
}
