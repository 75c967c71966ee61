-- `xive::xive_read` meets its contract.
use Rattle.xive.proofs.Laws.{read-lacks, read_done}
use Rattle.xive.proofs.xive_read.Goals as goal

pub returns-in-Err : goal.returns-in-Err
returns-in-Err c = read-lacks _ _ _ _ c.in-Err.ensures (rw (← c.code.ensures) c.read_nothing.ensures)

pub returns-in-Ok : goal.returns-in-Ok
returns-in-Ok c =
    let look = c.in-Ok.ensures in
    let read = c.read_out.ensures in
    read_done _ _ _ _ look read.0 read.1 (read.2 look.source look.stored)
