-- The table's length is looked at first; then the list is the machine's, from the places as an image.
use Rattle.numbers.proofs.Basics.{rules}
use Rattle.rules.specs.Machine.{write_list}
use Rattle.calls.proofs.Limits.{right-length, wrong-length}
use Rattle.flic.proofs.Promises.{wrong-promises, write-promises}
use Rattle.flic.proofs.flic_write_list.Goals as goal

pub returns-then-t-ne-PLACES : goal.returns-then-t-ne-PLACES
returns-then-t-ne-PLACES c =
    let a = c.args in
    rw c.from.ensures (wrong-promises a.c.now a.d.now a.t.now a.out.now (wrong-length a.c.now _ c.if-t-ne-PLACES.true) write_list tt)

pub write_list-requires : goal.write_list-requires
write_list-requires c = (c.requires (right-length c.args.c.now _ c.if-t-ne-PLACES.false)).ready

pub returns : goal.returns
returns c =
    let a = c.args in
    let right = right-length a.c.now _ c.if-t-ne-PLACES.false in
    rw c.from-2.ensures (write-promises a.c.now a.d.now a.t.now a.out.now _ c.write_list.result right (c.requires right)
    (rw (c.read_device-device.ensures, c.snapshot-image.ensures) at c.write_list.ensures))
