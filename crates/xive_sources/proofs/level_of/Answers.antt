-- `xive_sources::level_of` meets its contract.
use mathlib.Core.Path.{sym}
use Rattle.xive_sources.proofs.Laws.{as-msi, as-lsi}
use Rattle.xive_sources.proofs.level_of.Goals as goal

pub returns-then-stored-eq1 : goal.returns-then-stored-eq1
returns-then-stored-eq1 c = sym (as-lsi _ c.if-stored-eq1.true)

pub returns-else-stored-eq1 : goal.returns-else-stored-eq1
returns-else-stored-eq1 c = sym (as-msi _ c.if-stored-eq1.false)
