-- What the public calls promise: the plain machine's step, through what the stored numbers stand for. There is no
-- premise: every array of stored numbers stands for some sources.
use Rattle.std.specs.Prelude.{ℕ, ◌≡◌, List, [], Result}
use Rattle.rules.specs.Outcome.{Seen, sees, answering}
use Rattle.xive_rules.specs.Sources.{ticket_limits, Ask, reading, step, reads}
use Rattle.answers.specs.declared.Refusal.{Refusal}
use Rattle.answers.specs.Answers.{saw, as_answer}
use Rattle.xive_sources.specs.declared.Reading.{Reading}
use Rattle.xive_sources.specs.Stored.{sources_of, values_in}

-- 02, ticket 1: code, count, every source afterwards and each byte of the payload are the plain machine's. What the
-- caller sees, x, is the code, the count and the payload as the call left it. A refusal leaves the stored numbers
-- equal, not only what they stand for.
pub record Called (ask : Ask) (before after : List ℕ) (b : List ℕ) (x : Seen) : Type 0 where
  pub steps : step ticket_limits (sources_of before) (record { ask = ask; payload = b })
      ≡ answering x (sources_of after)
  pub kept : (x.code ≡ 0 → ⊥) → after ≡ before

-- The same of a call within, before it is answered to C. The payload stays.
abbrev pub Ran : Ask → (before after b : List ℕ) → Result ℕ Refusal → Type 0
Ran ask before after b r = Called ask before after b (saw (as_answer r) b)

-- A reading, which is lent no payload, gives also the values of the source, and those of none where it is refused.
pub record Read (number : ℕ) (stored : List ℕ) (r : Reading) : Type 0 where
  pub called : Called (reading number) stored stored [] (sees r.code r.count [])
  pub values : values_in r ≡ reads ticket_limits (sources_of stored) number
