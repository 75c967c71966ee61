-- `adapter_requests::check_mode` meets its contract: the checks one by one.
use Rattle.numbers.proofs.Basics.{ℕ, Bool, true, List, length, ◌≤◌, ◌≡◌, ap, ◌∙◌, [], arith, le-leb, lt-leb}
use Rattle.rules.specs.{Bytes.choose, Bytes.byte, Bytes.field, State.Limits, State.State, State.with_device, Outcome.accept, Requests.aism, Requests.request, Requests.sets_mode}
use Rattle.rules.specs.State as rules
use Rattle.rules.proofs.Checks.{passes, fails}
use Rattle.adapter_requests.specs.States.{modes_after}
use Rattle.adapter_requests.proofs.{Laws.bad-attr, Laws.no-ais, Laws.short-ais, Laws.opened-ais, Laws.mode-is}
use Rattle.adapter_requests.proofs.check_mode.Goals as goal

-- the attribute, the capability and the lent length have passed
begun : (b : List ℕ) {attr : ℕ} {ais : Bool} → attr ≡ 0 → ais ≡ true → 4 ≤ length b → (L : Limits) (s : State) → s.ais ≡ ais
    → request L s aism attr b ≡ sets_mode s (byte 0 b) (field 2 2 b)
unfolding request
begun b z a n L s e = opened-ais _ z (e ∙ a) n

pub returns-then-read_be-gt1 : goal.returns-then-read_be-gt1
unfolding sets_mode
returns-then-read_be-gt1 c =
    let b = c.args.payload.now in record {
      decides = λ L s e. begun _ c.if-attr-ne0.false c.if-not-ais.false c.if-payload-lt4.false L s e ∙ passes _ _ _ (le-leb _ _ c.if-payload-gt7.false)
          ∙ fails _ _ _ (lt-leb (field 2 2 b) 1 (omega (arith, c.if-read_be-gt1.true, c.read_be.ensures.0)));
      asked = tt;
    }

pub returns : goal.returns
unfolding sets_mode modes_after choose
returns c =
    let b = c.args.payload.now in
    let few : field 2 2 b ≤ 1 = omega (arith, c.if-read_be-gt1.false, c.read_be.ensures.0) in record {
      decides = λ L s e. begun _ c.if-attr-ne0.false c.if-not-ais.false c.if-payload-lt4.false L s e
          ∙ passes _ _ _ (le-leb _ _ c.if-payload-gt7.false)
          ∙ passes _ _ _ (le-leb (field 2 2 b) 1 few)
          ∙ ap (λ (d : rules.Device). accept 0 (with_device d s) []) (mode-is s.device (byte 0 b) (field 2 2 b) few);
      asked = record { mode = λ e. (c.if-payload-lt4.false, c.if-payload-gt7.false); masks = λ e. let z : ⊥ = omega (arith, e) in absurd z };
    }

pub returns-then-attr-ne0 : goal.returns-then-attr-ne0
returns-then-attr-ne0 c = unfold request in record { decides = λ L s e. bad-attr _ c.if-attr-ne0.true; asked = tt }

pub returns-then-not-ais : goal.returns-then-not-ais
returns-then-not-ais c = unfold request in record {
  decides = λ L s e. no-ais _ c.if-attr-ne0.false (e ∙ c.if-not-ais.true);
  asked = tt;
}

pub returns-then-payload-lt4 : goal.returns-then-payload-lt4
returns-then-payload-lt4 c = unfold request in record {
  decides = λ L s e. short-ais _ c.if-attr-ne0.false (e ∙ c.if-not-ais.false) c.if-payload-lt4.true;
  asked = tt;
}

pub returns-then-payload-gt7 : goal.returns-then-payload-gt7
returns-then-payload-gt7 c = unfold sets_mode in record {
  decides = λ L s e. begun _ c.if-attr-ne0.false c.if-not-ais.false c.if-payload-lt4.false L s e
      ∙ fails _ _ _ (lt-leb _ _ c.if-payload-gt7.true);
  asked = tt;
}
