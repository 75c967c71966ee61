-- What the inner function takes from the arrays is what the machine takes, whatever table and device record there are.
use Rattle.flic.proofs.Promises.{take-promises}
use Rattle.flic.proofs.flic_take.Goals as goal

pub returns : goal.returns
returns c =
    let a = c.args in
    let e = c.take.ensures in
    rw c.from.ensures (take-promises a.subclasses a.external a.mcheck a.c.now _ a.out.now _ c.take.result e.answer e.held e.others.1 e.kept)
