-- `xive_sources::targeted_with` meets its contract.
use mathlib.Core.Path.{refl}
use native.Mathlib.Omega.{arith}
use Rattle.xive_sources.proofs.Laws.{targeted-stored}
use Rattle.xive_sources.proofs.targeted_with.Goals as goal

pub returns : goal.returns
returns c = λ x k. targeted-stored _ _ _ x k c.requires (omega arith) refl
