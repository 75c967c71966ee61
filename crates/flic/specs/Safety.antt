-- Demand 1, spelled out on the values before and after a call: what a refusal leaves, what comes of a table of another
-- length, which codes there are, and that no call but the one which makes a controller changes the capability or the
-- limits. No name of Surface stands here, so a promise that is dropped there does not change what is asked for here.
-- The theorem `safety` (proofs/Safety) says that each of these follows from its function's own contract.
use Rattle.std.specs.Prelude.{ℕ, ◌≡◌, false, length, replicate}
use mathlib.Core.List.{List, [], ◌∷◌, Memᴰ}
use Rattle.rules.specs.State.{Limits, State, paper_limits, nothing, fresh}
use Rattle.rules.specs.Outcome.{Outcome, refuse_with, accept, reset_with}
use Rattle.rules.specs.MoveList.{plays}
use Rattle.answers.specs.declared.Answer.{Answer}
use Rattle.adapters.specs.declared.Device.{Device}
use Rattle.adapters.specs.declared.Place.{Place}
use Rattle.adapters.specs.Values.{unused}
use Rattle.store.specs.Memory.{pending_of}
use Rattle.store.specs.declared.Controller.{Controller}
use Rattle.calls.specs.Limits.{limits_of}
use Rattle.answers.specs.Answers.{answered}

-- 01, 'Codes and the order of checks': the code is 0 or one of the six.
abbrev pub Coded : Answer → Type 0
Coded r = Memᴰ r.code (0 ∷ 22 ∷ 95 ∷ 14 ∷ 12 ∷ 16 ∷ 7 ∷ [])

-- `flic_set`, `flic_get` and `flic_write_list`: the controller, the device record, the table and the buffer before and
-- after, and the answer. What a function borrows shared it cannot change, and the value after is the value before: the
-- payload of `flic_set`; everything but the buffer of the other two.
pub record SafeRequest (c c' : Controller) (d d' : Device) (t t' : List Place) (b b' : List ℕ) (r : Answer)
    : Type 0 where
  -- a refusal has count 0 and leaves controller, device record, table and every byte of the buffer equal
  pub refused : (r.code ≡ 0 → ⊥) → (r.count ≡ 0) × (c' ≡ c) × (d' ≡ d) × (t' ≡ t) × (b' ≡ b)
  -- with a table that has not the places of this controller: 14, and everything stays
  pub wrong-table : (length t ≡ (limits_of c).places → ⊥)
      → (r ≡ answered 14 0) × (c' ≡ c) × (d' ≡ d) × (t' ≡ t) × (b' ≡ b)
  -- accepted, or refused with one of the six
  pub code : Coded r
  pub capability : c'.ais ≡ c.ais
  pub limits : limits_of c' ≡ limits_of c

-- `flic_take`, which is lent no table and no device record
pub record SafeTake (c c' : Controller) (b b' : List ℕ) (r : Answer) : Type 0 where
  pub refused : (r.code ≡ 0 → ⊥) → (r.count ≡ 0) × (c' ≡ c) × (b' ≡ b)
  pub code : Coded r
  pub capability : c'.ais ≡ c.ais
  pub limits : limits_of c' ≡ limits_of c

-- 01, 'What it holds', fresh: nothing registered or pending, masks 0, flag off. Which records are pending is what the
-- controller's arrays stand for (`pending_of`); the rest is said of the values themselves.
pub record IsFresh (L : Limits) (c : Controller) (d : Device) (t : List Place) : Type 0 where
  pub places : t ≡ replicate L.places unused
  pub pending : pending_of c.order c.counts c.slots c.singles ≡ nothing
  pub device : d ≡ record { simm = 0; nimm = 0; apf = false }

-- What the rules make of a list, played on a controller of this capability. They look at nothing else of it.
abbrev pub playing : Controller → List ℕ → Outcome State
playing c b = plays (limits_of c) (fresh (limits_of c) c.ais) b

-- `flic_play_list`. The list's bytes are borrowed shared.
pub record SafePlay (c c' : Controller) (d d' : Device) (t t' : List Place) (b : List ℕ) (r : Answer) : Type 0 where
  pub wrong-table : (length t ≡ (limits_of c).places → ⊥)
      → (r ≡ answered 14 0) × (c' ≡ c) × (d' ≡ d) × (t' ≡ t)
  -- a list refused before a request is applied: its code, count 0, and everything stays
  pub refused : length t ≡ (limits_of c).places → (code count : ℕ) → playing c b ≡ refuse_with code count
      → (r ≡ answered code 0) × (c' ≡ c) × (d' ≡ d) × (t' ≡ t)
  -- a list refused part-way: the refused request's code, its place from 0 as count, and everything but the capability
  -- is fresh
  pub part-way : length t ≡ (limits_of c).places → (code place further : ℕ)
      → playing c b ≡ reset_with code place further
      → (r ≡ answered code place) × IsFresh (limits_of c) c' d' t'
  -- a list played to its end is not refused
  pub played : length t ≡ (limits_of c).places → (count : ℕ) (next : State) (written : List ℕ)
      → playing c b ≡ accept count next written → r ≡ answered 0 count
  pub code : Coded r
  pub capability : c'.ais ≡ c.ais
  pub limits : limits_of c' ≡ limits_of c

-- `flic_make`: accepted exactly with a table of the paper's 64 places; else 14, and everything stays
pub record SafeMake (c c' : Controller) (d d' : Device) (t t' : List Place) (r : Answer) : Type 0 where
  pub accepted : length t ≡ paper_limits.places → r ≡ answered 0 0
  pub wrong-table : (length t ≡ paper_limits.places → ⊥)
      → (r ≡ answered 14 0) × (c' ≡ c) × (d' ≡ d) × (t' ≡ t)
  pub code : Coded r
