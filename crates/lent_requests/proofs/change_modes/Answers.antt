-- `lent_requests::change_modes` meets its contract: what AISM, AISM_ALL or the flag leaves, by the group.
use Rattle.numbers.proofs.Basics.{ap, sym, ◌∙◌}
use Rattle.adapters.specs.Values.{device_of, device_from}
use Rattle.adapter_requests.proofs.Laws.{after-mode, after-masks, after-flag}
use Rattle.lent_requests.proofs.change_modes.Goals as goal

pub returns-then-group-eq-AISM : goal.returns-then-group-eq-AISM
returns-then-group-eq-AISM c =
    c.set_mode.ensures ∙ rw (c.mode_in-m.ensures.0, c.mode_in-m.ensures.1)
    (ap device_from (sym (after-mode c.args.group c.args.payload.now (device_of c.args.d.now) c.if-group-eq-AISM.true)))

pub returns-then-group-eq-AISM_ALL : goal.returns-then-group-eq-AISM_ALL
returns-then-group-eq-AISM_ALL c =
    c.set_masks.ensures ∙ rw (c.masks_in-m.ensures.0, c.masks_in-m.ensures.1)
    (ap device_from (sym (after-masks c.args.group c.args.payload.now (device_of c.args.d.now) c.if-group-eq-AISM.false c.if-group-eq-AISM_ALL.true)))

pub returns : goal.returns
returns c =
    c.set_flag.ensures
    ∙ ap device_from (sym (after-flag c.args.group c.args.payload.now (device_of c.args.d.now) c.if-group-eq-AISM.false c.if-group-eq-AISM_ALL.false))
