-- `xive::xive_sync` meets its contract.
use Rattle.xive.proofs.Laws.{synced}
use Rattle.xive.proofs.xive_sync.Goals as goal

pub returns : goal.returns
returns c = rw (c.from.ensures, c.and.ensures) (synced _ _ _ c.look_up-found.ensures)
