-- The lines of the first i records are written.
use Rattle.numbers.proofs.Basics.{◌≡◌, ◌+◌, ◌*◌, ◌≤◌, ◌++◌, length}
use Rattle.rules.specs.{Requests.records_in, Listing.lines_from}
use Rattle.listing_text.proofs.Text.records.Given as goal

abbrev pub invariant-loop-i : goal.invariant-loop-i
invariant-loop-i l =
    (l.self ≡ l.initial.self ++ lines_from 0 (records_in l.i l.b)) × (length l.self ≤ length l.initial.self + l.i * 27)
