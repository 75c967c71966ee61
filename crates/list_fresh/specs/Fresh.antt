-- 01, 'Move list', the listing program: what comes of a list that is played on a fresh controller of its flag.
use Rattle.std.specs.Prelude.{◌≡◌, List, ℕ}
use Rattle.rules.specs.State.{State, Pending, paper_limits}
use Rattle.rules.specs.Outcome as outcome
use Rattle.rules.specs.MoveList.{plays}
use Rattle.rules.specs.Listing.{fresh_for}
use Rattle.rules.specs.Machine.{answer_of}
use Rattle.answers.specs.declared.Answer.{Answer}

abbrev pub played_fresh : List ℕ → outcome.Answer State
played_fresh b = answer_of paper_limits (fresh_for b) b (plays paper_limits (fresh_for b) b)

-- the answer, and the records that are pending then
pub record PlayedFresh (b : List ℕ) (p : Pending) (r : Answer) : Type 0 where
  pub code : (played_fresh b).code ≡ r.code
  pub count : (played_fresh b).count ≡ r.count
  pub pending : (played_fresh b).next.pending ≡ p
