-- The first machine check is written; a second one is merged.
use Rattle.numbers.proofs.Basics.{arith}
use Rattle.store_singles.proofs.Laws.{single-absent, second-mchk, second-service}
use Rattle.store_singles.specs.declared.Single.TheVariants.{MachineCheck}
use Rattle.store_singles.proofs.add_mchk.Goals as goal

pub returns-then-is_there : goal.returns-then-is_there
returns-then-is_there c = let a = c.args in
    rw c.merge.ensures
    (second-mchk a.g.now a.r (omega arith) (omega arith) _ c.is_there.ensures c.if-is_there.true, second-service a.g.now a.r (omega arith) (omega arith))

pub returns-else-is_there : goal.returns-else-is_there
returns-else-is_there c = (rw (single-absent c.args.g.now _ MachineCheck c.is_there.ensures c.if-is_there.false) c.put.ensures.0, c.put.ensures.1)
