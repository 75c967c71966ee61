-- The invariant: what is left to check, from a place with the number wanted so far, comes to what all comes to.
use Rattle.numbers.proofs.Basics.{◌≡◌, ◌≤◌}
use Rattle.rules.specs.{Requests.records_in}
use Rattle.record_add.proofs.Laws.{records_from}
use Rattle.record_add.specs.Cases.{check_from}
use Rattle.record_add.proofs.check.Given as goal

abbrev pub invariant-loop-place : goal.invariant-loop-place
invariant-loop-place l = (l.wanted ≤ l.place) × (check_from 0 0 (records_in l.n l.b) ≡ check_from l.place l.wanted (records_from l.place l.n l.b))
