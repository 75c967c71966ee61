-- The table's length is looked at first; then the request's answer is the machine's.
use Rattle.rules.specs.Machine.{get_attr}
use Rattle.calls.proofs.Limits.{right-length, wrong-length}
use Rattle.flic.proofs.Promises.{wrong-promises, get-promises}
use Rattle.flic.proofs.flic_get.Goals as goal

pub returns-then-t-ne-PLACES : goal.returns-then-t-ne-PLACES
returns-then-t-ne-PLACES c =
    let a = c.args in
    rw c.from.ensures (wrong-promises a.c.now a.d.now a.t.now a.out.now (wrong-length a.c.now _ c.if-t-ne-PLACES.true) (get_attr a.group a.attr) tt)

pub answer_get-requires : goal.answer_get-requires
answer_get-requires c = (c.requires (right-length c.args.c.now _ c.if-t-ne-PLACES.false)).ready

pub returns : goal.returns
returns c =
    let a = c.args in
    let right = right-length a.c.now _ c.if-t-ne-PLACES.false in
    rw c.from-2.ensures (get-promises a.group a.attr a.c.now a.d.now a.t.now a.out.now _ c.answer_get.result right (c.requires right)
    (rw c.read_device-device.ensures at c.answer_get.ensures))
