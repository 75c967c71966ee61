-- `xive_sources::initialised_with` meets its contract.
use mathlib.Core.Path.{refl}
use Rattle.xive_sources.proofs.Laws.{initial-stored}
use Rattle.xive_sources.proofs.initialised_with.Goals as goal

pub returns : goal.returns
returns c = initial-stored _ _ refl
