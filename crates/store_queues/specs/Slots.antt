-- Records in slots, and lists of slot numbers.
use Rattle.std.specs.Prelude.{◌≡◌, List, [], ◌∷◌, ◌++◌, ℕ, suc, ◌+◌, ◌*◌, ◌≤◌, eqb, take, drop}
use Rattle.rules.specs.Bytes.{choose}
use Rattle.rules.specs.State.{Record}

-- how many slots the lent memory has: room for every record of the nine queues
abbrev pub slot_count : ℕ
slot_count = 256

-- the longest listing: those, a service record and a machine check
abbrev pub most_pending : ℕ
most_pending = slot_count + 2

-- a list with the one at a place taken out
unfoldable pub remove_at {ℓ} : {A : Type ℓ} → ℕ → List A → List A
remove_at k l = take k l ++ drop (k + 1) l

-- the record in slot s, of w bytes
unfoldable pub slot : ℕ → List ℕ → ℕ → Record
slot w b s = take w (drop (s * w) b)

-- the record r is put into slot s, and every other slot stays
pub record Stored (s : ℕ) (r b b' : List ℕ) : Type 0 where
  pub here : slot 72 b' s ≡ r
  pub others : (t : ℕ) → (t ≡ s → ⊥) → slot 72 b' t ≡ slot 72 b t

-- how often s stands in a list
unfoldable pub occurs : ℕ → List ℕ → ℕ
occurs s [] = 0
occurs s (x ∷ l) = choose (eqb x s) (suc (occurs s l)) (occurs s l)

-- no slot is named twice
unfoldable pub Apart : List ℕ → Type 0
Apart o = (s : ℕ) → occurs s o ≤ 1
