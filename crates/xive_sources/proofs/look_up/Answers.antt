-- `xive_sources::look_up` meets its contract.
use native.Mathlib.Omega.{arith}
use Rattle.xive_sources.proofs.Laws.{too_large, not_there, there}
use Rattle.xive_sources.proofs.look_up.Goals as goal

pub returns-in_default : goal.returns-in_default
returns-in_default c = too_large c.args.sources.now _ (omega (arith, c.in_default.ensures.lookup.3))

pub returns-then-stored-eq0 : goal.returns-then-stored-eq0
returns-then-stored-eq0 c = let at = c.in-Some.ensures.lookup.3 in
    not_there c.args.sources.now _ _ (omega (arith, at.0)) (at.1 0) c.if-stored-eq0.true

pub returns : goal.returns
returns c = let at = c.in-Some.ensures.lookup.3 in
    there c.args.sources.now _ _ (omega (arith, at.0)) (at.1 0) c.if-stored-eq0.false
