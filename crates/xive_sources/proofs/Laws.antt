-- Stored numbers and the sources that they stand for.
use Prim.Native.Nat.{ℕ, zero, suc, ◌+◌, ◌*◌, ◌/◌, ◌%◌, ◌<◌, ◌≤◌}
use mathlib.Core.Path.{◌≡◌, refl, sym, ap, ◌∙◌}
use mathlib.Core.Bool.{Bool, true, false}
use mathlib.Core.Option.{Option, none, some}
use mathlib.Core.List.{List}
use native.Mathlib.Omega.{arith}
use borrow.Author.Tests.{ne_eqb, lt-ltb, le-ltb}
use lib.ListN.{get_or, replicate, get_or-map}
use lib.Dec.{eqb}
use Rattle.rules.specs.Bytes.{choose}
use Rattle.xive_rules.specs.Words.{bits, kind_in, level_in, priority_in, server_in, mask_in, effective_in}
use Rattle.xive_rules.specs.Sources.{Source, initial, targeted, source_at, values_of}
use Rattle.xive_rules.proofs.Laws.{fields-whole}
use Rattle.xive_sources.specs.Stored.{word_of, targeting_of, level_of, source_of, sources_of, Lacks, Finds}

-- a number by its bits 7 and 8
pub uninitialised : (v : ℕ) → bits 7 1 v ≡ 0 → source_of v ≡ none
unfolding source_of choose
uninitialised v h = rw h

pub as-initialised : (v : ℕ) → bits 7 1 v ≡ 1 → source_of v ≡ some (record { kind = bits 9 1 v; level = level_of v; targeting = targeting_of v })
unfolding source_of choose
as-initialised v h = rw h

pub as-msi : (v : ℕ) → (bits 9 1 v ≡ 1 → ⊥) → level_of v ≡ 0
unfolding level_of choose
as-msi v h = rw (ne_eqb (bits 9 1 v) 1 h)

pub as-lsi : (v : ℕ) → bits 9 1 v ≡ 1 → level_of v ≡ bits 10 1 v
unfolding level_of choose
as-lsi v h = rw h

pub untargeted : (v : ℕ) → bits 8 1 v ≡ 0 → targeting_of v ≡ none
unfolding targeting_of choose
untargeted v h = rw h

pub as-targeted : (v : ℕ) → bits 8 1 v ≡ 1 → targeting_of v ≡ some (word_of v)
unfolding targeting_of choose
as-targeted v h = rw h

-- initialised with a word: the two lowest bits are type and level
pub initial-stored : (v w : ℕ) → v ≡ 128 + w % 4 * 512 → source_of v ≡ some (initial w)
unfolding initial level_of
initial-stored v w e =
    let k : bits 9 1 v ≡ kind_in w = omega arith in
    let l : bits 10 1 v ≡ level_in w = omega arith in
    as-initialised v (omega arith) ∙ rw (k, l, untargeted v (omega arith))

-- what holds of no source and of the one that a number stands for holds of the number's, whichever it is
pub either : (P : Option Source → Type 0) (v : ℕ) → P none → P (some (record { kind = bits 9 1 v; level = level_of v; targeting = targeting_of v })) → P (source_of v)
unfolding source_of choose
either P v h k = by-test (eqb (bits 7 1 v) 0)
  where
    by-test : (t : Bool) → P (choose t none (some (record { kind = bits 9 1 v; level = level_of v; targeting = targeting_of v })))
    by-test true = h
    by-test false = k

-- the source of an initialised number
pub the_one : {A : Type 0} (t : Bool) (x y : A) → choose t none (some y) ≡ some x → y ≡ x
unfolding choose
the_one true x y h = cc
the_one false x y h = cc

pub source-of : (v : ℕ) (x : Source) → source_of v ≡ some x → record { kind = bits 9 1 v; level = level_of v; targeting = targeting_of v } ≡ x
unfolding source_of
source-of v x h = the_one (eqb (bits 7 1 v) 0) x _ h

-- a word of a server below 16, with flags in its bits 7 to 10: its fields, and the flags, come back
module _ (v h l f : ℕ) (small : l < 128) (four : f < 4) (e : v ≡ h * 4294967296 + l + 384 + f * 512) where
  high-back : v / 4294967296 ≡ h
  high-back = omega arith

  low-back : v % 128 ≡ l
  low-back = omega arith

  flags-back : v / 128 % 16 ≡ 3 + 4 * f
  flags-back = omega arith

high-fields : (v w : ℕ) → v / 4294967296 ≡ w / 4294967296 → (bits 32 1 v ≡ mask_in w) × (bits 33 31 v ≡ effective_in w)
high-fields v w e =
    let a : v / 8589934592 ≡ v / 4294967296 / 2 = omega arith in
    let b : w / 8589934592 ≡ w / 4294967296 / 2 = omega arith in
    (rw e, rw (a, b, e))

low-fields : (v w : ℕ) → server_in w < 16 → v % 128 ≡ w % 4294967296 → (bits 0 3 v ≡ priority_in w) × (bits 3 4 v ≡ server_in w)
low-fields v w s e = (omega arith, omega arith)

type-kept : (v u f : ℕ) → v / 128 % 16 ≡ 3 + 4 * f → f ≡ u / 512 % 4 → (bits 9 1 v ≡ bits 9 1 u) × (bits 10 1 v ≡ bits 10 1 u)
type-kept v u f h e = (omega arith, omega arith)

level-kept : (v u : ℕ) → (bits 9 1 v ≡ bits 9 1 u) × (bits 10 1 v ≡ bits 10 1 u) → level_of v ≡ level_of u
unfolding level_of
level-kept v u h = rw (h.0, h.1)

both-set : (v f : ℕ) → v / 128 % 16 ≡ 3 + 4 * f → (bits 7 1 v ≡ 1) × (bits 8 1 v ≡ 1)
both-set v f h = (omega arith, omega arith)

seven-bits : (w : ℕ) → server_in w < 16 → w % 4294967296 < 128
seven-bits w s = omega arith

below-four : (u : ℕ) → u / 512 % 4 < 4
below-four u = omega arith

-- an initialised source, targeted with a word of a server below 16
pub targeted-stored : (v u w : ℕ) (x : Source) → source_of u ≡ some x → server_in w < 16 → w < 18446744073709551616 → v ≡ w + 384 + u / 512 % 4 * 512
    → source_of v ≡ some (targeted w x)
unfolding targeted
targeted-stored v u w x k s b e =
    let d : w ≡ w / 4294967296 * 4294967296 + w % 4294967296 = omega arith in
    let e' = e ∙ ap (λ (z : ℕ). z + 384 + u / 512 % 4 * 512) d in
    let small = seven-bits w s in
    let four = below-four u in
    let high = high-fields v w (high-back v _ _ _ small four e') in
    let low = low-fields v w s (low-back v _ _ _ small four e') in
    let back : word_of v ≡ w = rw (low.0, low.1, high.0, high.1) (fields-whole w b) in
    let flags = flags-back v _ _ _ small four e' in
    let set = both-set v _ flags in
    let same = type-kept v u _ flags refl in
    as-initialised v set.0 ∙ rw (same.0, level-kept v u same, as-targeted v set.1, back, ← source-of u x k)

-- a look, by its tests
at-number : (l : List ℕ) (n : ℕ) → get_or (sources_of l) n none ≡ source_of (get_or l n 0)
at-number l n = rw (sym (uninitialised 0 refl)) (get_or-map source_of l n 0)

pub too_large : (l : List ℕ) (n : ℕ) → 1024 ≤ n → Lacks l n 2
unfolding source_at choose
too_large l n h = let e = le-ltb n 1024 h in record { nothing = rw e; reason = rw e }

pub not_there : (l : List ℕ) (n v : ℕ) → n < 1024 → v ≡ get_or l n 0 → v / 128 % 2 ≡ 0 → Lacks l n 22
unfolding source_at choose
not_there l n v h g k =
    let e = lt-ltb n 1024 h in
    record { nothing = rw (e, at-number l n, ← g) (uninitialised v k); reason = rw e }

pub there : (l : List ℕ) (n v : ℕ) → n < 1024 → v ≡ get_or l n 0 → (v / 128 % 2 ≡ 0 → ⊥) → Finds l n v
unfolding source_at choose
there l n v h g k =
    let is = as-initialised v (omega arith) in
    record { known = h; source = _; stored = is; there = rw (lt-ltb n 1024 h, at-number l n, ← g) is }

-- what is read of an initialised source
pub masked-values : (v : ℕ) (x : Source) → source_of v ≡ some x → bits 8 1 v ≡ 0
    → record { level = level_of v; kind = v / 512 % 2; masked = true; word = 0 } ≡ values_of (some x)
unfolding values_of
masked-values v x h k = rw (← source-of v x h, untargeted v k)

pub targeted-values : (v : ℕ) (x : Source) → source_of v ≡ some x → (bits 8 1 v ≡ 0 → ⊥)
    → record { level = level_of v; kind = v / 512 % 2; masked = false; word = word_of v } ≡ values_of (some x)
unfolding values_of
targeted-values v x h k = rw (← source-of v x h, as-targeted v (omega arith))

-- zeros
pub zeros-stored : (n : ℕ) → sources_of (replicate n 0) ≡ replicate n none
zeros-stored zero = refl
zeros-stored (suc n) = rw (uninitialised 0 refl, zeros-stored n)
