-- Demand 1 for the sources, spelled out on the values before and after a call: which codes there are, what a refusal
-- leaves, and that a call touches one source alone. No name of Surface stands here, so that to drop a promise there
-- does not change what is asked for here. That each function's contract has this consequence is the theorem `safety`
-- (proofs/Safety).
use Rattle.std.specs.Prelude.{ℕ, ◌≡◌, false, get_or}
use mathlib.Core.Option.{none}
use mathlib.Core.List.{List, ◌∷◌, Memᴰ}
use Rattle.xive_sources.specs.declared.Reading.{Reading}
use Rattle.xive_sources.specs.Stored.{sources_of}

-- A call about the source of a number, with the codes that 02, ticket 1, names for it: the stored numbers before and
-- after, and the code and count answered. What a function borrows shared it cannot change, and the value after is the
-- value before: the payload, and the stored numbers of a sync and of a reading.
pub record Safe (codes : List ℕ) (number : ℕ) (before after : List ℕ) (code count : ℕ) : Type 0 where
  pub known : Memᴰ code (0 ∷ codes)
  pub no-count : count ≡ 0
  pub refused : (code ≡ 0 → ⊥) → after ≡ before
  pub others : (m : ℕ) → (m ≡ number → ⊥) → get_or (sources_of after) m none ≡ get_or (sources_of before) m none

-- A reading that is refused gives 0 and false.
abbrev pub GivesNothing : Reading → Type 0
GivesNothing r =
    (r.code ≡ 0 → ⊥) → (r.level ≡ 0) × (r.kind ≡ 0) × (r.masked ≡ false) × (r.word ≡ 0)
