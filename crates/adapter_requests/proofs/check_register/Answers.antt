-- `adapter_requests::check_register` meets its contract: the checks one by one.
use Rattle.numbers.proofs.Basics.{ℕ, List, ◌≤◌, ◌<◌, length, ◌≡◌, refl, ap, ◌∙◌, [], arith, get_or, leb, le-leb, lt-leb}
use Rattle.rules.specs.{Bytes.choose, Bytes.byte, Bytes.field, State.Limits, State.State, State.free, State.with_adapter, Outcome.accept, Outcome.need◌else◌⨾◌, Requests.adapter_register, Requests.request, Requests.registers, Requests.adapter_in, Requests.is_free}
use Rattle.rules.proofs.Checks.{passes, fails}
use Rattle.adapters.specs.declared.Place.{Place}
use Rattle.adapters.specs.Values.{place_of}
use Rattle.adapters.proofs.Laws.{place-used, place-free}
use Rattle.adapter_requests.specs.States.{payload_id, place_after}
use Rattle.adapter_requests.proofs.{Laws.bad-attr, Laws.short, Laws.past-table, Laws.in_table, Laws.id-there, Laws.place-there}
use Rattle.adapter_requests.proofs.check_register.Goals as goal

-- the attribute, the lent length and the id have passed: what is left to check, and the place
begun : (p : Place) (b : List ℕ) {attr places id : ℕ} → attr ≡ 0 → 8 ≤ length b → id ≡ field 0 4 b → id < places
    → (L : Limits) (s : State) → L.places ≡ places → get_or s.adapters (payload_id b) free ≡ place_of p
    → request L s adapter_register attr b
    ≡ (need is_free (place_of p) else 22 ⨾ need leb (byte 4 b) 7 else 22 ⨾ accept 0 (with_adapter (payload_id b) (adapter_in b) s) [])
unfolding request registers adapter_in
begun p b z n id lt L s e1 e4 =
    in_table L b _ z n e1 id lt ∙ rw (place-there b (omega (arith, n)) s.adapters e4, id-there b (omega (arith, n)))

pub returns-then-attr-ne0 : goal.returns-then-attr-ne0
returns-then-attr-ne0 c = unfold request in record { decides = λ L s e1 e4. bad-attr _ c.if-attr-ne0.true; asked = tt }

pub returns-then-payload-lt8 : goal.returns-then-payload-lt8
returns-then-payload-lt8 c = unfold request in record {
  decides = λ L s e1 e4. short _ c.if-attr-ne0.false c.if-payload-lt8.true;
  asked = tt;
}

pub returns-then-places-read_be : goal.returns-then-places-read_be
returns-then-places-read_be c = unfold request registers in
    record {
      decides = λ L s e1 e4. past-table L c.args.payload.now _ c.if-attr-ne0.false c.if-payload-lt8.false e1 c.read_be.ensures.0 c.if-places-read_be.true;
      asked = tt;
    }

pub returns-then-place : goal.returns-then-place
returns-then-place c = record {
  decides = λ L s e1 e4. begun _ c.args.payload.now c.if-attr-ne0.false c.if-payload-lt8.false c.read_be.ensures.0 c.if-places-read_be.false L s e1 e4
      ∙ fails _ _ _ (ap is_free (place-used _ c.if-place.true));
  asked = tt;
}

pub returns-then-payload-gt7 : goal.returns-then-payload-gt7
returns-then-payload-gt7 c = record {
  decides = λ L s e1 e4. begun _ c.args.payload.now c.if-attr-ne0.false c.if-payload-lt8.false c.read_be.ensures.0 c.if-places-read_be.false L s e1 e4
      ∙ passes _ _ _ (ap is_free (place-free _ c.if-place.false))
      ∙ fails _ _ _ (lt-leb _ _ c.if-payload-gt7.true);
  asked = tt;
}

pub returns : goal.returns
returns c = unfold place_after choose in record {
  decides = λ L s e1 e4. begun _ c.args.payload.now c.if-attr-ne0.false c.if-payload-lt8.false c.read_be.ensures.0 c.if-places-read_be.false L s e1 e4
      ∙ passes _ _ _ (ap is_free (place-free _ c.if-place.false))
      ∙ passes _ _ _ (le-leb _ _ c.if-payload-gt7.false);
  asked = record { long = c.if-payload-lt8.false; isc = λ e. c.if-payload-gt7.false; maskable = λ n. absurd (n refl) };
}
