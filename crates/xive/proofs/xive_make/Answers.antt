-- `xive::xive_make` meets its contract.
use Rattle.xive_rules.specs.Sources.{fresh}
use Rattle.xive_sources.proofs.Laws.{zeros-stored}
use Rattle.xive.proofs.xive_make.Goals as goal

pub returns : goal.returns
unfolding fresh
returns c = zeros-stored 1024
