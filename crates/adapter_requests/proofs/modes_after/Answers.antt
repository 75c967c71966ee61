-- `adapter_requests::modes_after` meets its contract.
use Rattle.numbers.proofs.Basics.{◌≡◌, ap, sym, ◌∙◌, arith}
use Rattle.rules.specs.Bytes.{byte}
use Rattle.rules.specs.State as rules
use Rattle.adapters.specs.Values.{device_of}
use Rattle.adapter_requests.proofs.{Laws.after-mode, Laws.after-masks, Laws.after-flag}
use Rattle.adapter_requests.proofs.modes_after.Goals as goal

pub mode_in-m-requires : goal.mode_in-m-requires
mode_in-m-requires c = (c.requires.mode c.if-group-eq-AISM.true).0

pub mode_set-requires : goal.mode_set-requires
mode_set-requires c = omega (arith, c.mode_in-m.ensures.0, (c.requires.mode c.if-group-eq-AISM.true).1)

pub returns-then-group-eq-AISM : goal.returns-then-group-eq-AISM
returns-then-group-eq-AISM c = let m = c.mode_in-m in
    c.mode_set.ensures ∙ rw (m.ensures.0, m.ensures.1) (sym (after-mode _ _ _ c.if-group-eq-AISM.true))

pub masks_in-m-requires : goal.masks_in-m-requires
masks_in-m-requires c = c.requires.masks c.if-group-eq-AISM_ALL.true

pub returns-then-group-eq-AISM_ALL : goal.returns-then-group-eq-AISM_ALL
returns-then-group-eq-AISM_ALL c =
    let m = c.masks_in-m in
    let read : ◌≡◌ {A = rules.Device} (record { simm = m.result.simm; nimm = m.result.nimm; apf = c.args.device.apf })
    (record { simm = byte 0 c.args.payload.now; nimm = byte 1 c.args.payload.now; apf = c.args.device.apf })
    = λ i. record { simm = m.ensures.0 i; nimm = m.ensures.1 i; apf = c.args.device.apf } in
    ap device_of c.masks_set.ensures ∙ read ∙ sym (after-masks _ _ _ c.if-group-eq-AISM.false c.if-group-eq-AISM_ALL.true)

pub returns : goal.returns
returns c = ap device_of c.apf_set.ensures ∙ sym (after-flag _ _ _ c.if-group-eq-AISM.false c.if-group-eq-AISM_ALL.false)
