-- Laws of the two records in their bytes, and of the merge.
use Rattle.numbers.proofs.Basics.{◌≡◌, refl, sym, ap, ◌∙◌, Bool, true, false, not, none, some, List, [], ◌∷◌, ◌++◌}
use Rattle.numbers.proofs.Basics.{zip_with, append_assoc, ℕ, zero, suc, ◌+◌, ◌-◌, ◌≤◌, ◌<◌, min, arith, length}
use Rattle.numbers.proofs.Basics.{take, drop, get_or, set, length-take, length-drop, take-add}
use Rattle.numbers.proofs.{Basics.take_at, Basics.drop_at, Basics.take-take, Basics.take-set-le, Basics.drop-drop, Basics.get_or-drop, Basics.get_or-set_same, Basics.get_or-set_other, Basics.length-take-le, Basics.length-paste, Basics.paste, Basics.eqb, Basics.bit_or, Basics.eqb-true, Basics.eqb-false, Basics.not-true, Basics.not-false, Laws.drop-take, Laws.part_same, Laws.part-before, Laws.drop_past, Laws.get_d_past}
use Rattle.std.proofs.lemmas.List.Edits.{paste_more}
use Rattle.rules.specs.{Bytes.byte, Bytes.part, State.Record, State.merged, State.merged_or}
use Rattle.store_singles.specs.Singles.{if_there, service_of, mchk_of, flag_of, start_of, single_of}
use Rattle.store_singles.specs.{Singles.other as other_of}
use Rattle.store_singles.specs.declared.Single.{Single}
use Rattle.store_singles.specs.declared.Single.TheVariants.{Service, MachineCheck}

pub absent : (n : ℕ) (r : Record) → n ≡ 0 → if_there n r ≡ none
unfolding if_there
absent n r h = rw h

pub there : (n : ℕ) (r : Record) → (n ≡ 0 → ⊥) → if_there n r ≡ some r
unfolding if_there
there zero r h = absurd (h refl)
there (suc n) r h = refl

-- what a caller of is_there knows of the record
pub absent-if : (n : ℕ) (r : Record) (b : Bool) → b ≡ not (eqb n 0) → b ≡ false → if_there n r ≡ none
absent-if n r b e f = absent n r (eqb-true n 0 (not-false (eqb n 0) (sym e ∙ f)))

pub there-if : (n : ℕ) (r : Record) (b : Bool) → b ≡ not (eqb n 0) → b ≡ true → if_there n r ≡ some r
there-if n r b e f = there n r (eqb-false n 0 (not-true (eqb n 0) (sym e ∙ f)))

module _ (g : List ℕ) (b : Bool) where
  pub single-absent : (w : Single) → b ≡ not (eqb (byte (flag_of w) g) 0) → b ≡ false → single_of w g ≡ none
  unfolding service_of mchk_of
  single-absent Service = absent-if (byte 144 g) _ b
  single-absent MachineCheck = absent-if (byte 145 g) _ b

  pub single-there : (w : Single) → b ≡ not (eqb (byte (flag_of w) g) 0) → b ≡ true → single_of w g ≡ some (part (start_of w) 72 g)
  unfolding service_of mchk_of
  single-there Service = there-if (byte 144 g) _ b
  single-there MachineCheck = there-if (byte 145 g) _ b

-- a byte that was cleared is 0, within the list or not
cleared : (g : List ℕ) (i : ℕ) → byte i (set g i 0) ≡ 0
cleared [] i = refl
cleared (x ∷ g) zero = refl
cleared (x ∷ g) (suc i) = cleared g i

-- the flag at j is set: the part before it, and the other record
module _ (g : List ℕ) (at j x : ℕ) (h : at + 72 ≤ j) where
  part-set : part at 72 (set g j x) ≡ part at 72 g
  part-set = sym (drop-take at 72 (set g j x)) ∙ ap (λ (l : List ℕ). drop at l) (take-set-le (at + 72) g j x h) ∙ drop-take at 72 g

  other : (i : ℕ) → (i ≡ j → ⊥) → if_there (byte i (set g j x)) (part at 72 (set g j x)) ≡ if_there (byte i g) (part at 72 g)
  other i k = rw (get_or-set_other g j i x 0 k, part-set)

-- a record is saved at `at` and its flag at j set: it is there, and the other one, at `from` with its flag at i, stays
pub stored : (g : List ℕ) (at : ℕ) (r : List ℕ) (j : ℕ) → at + 72 ≤ j → j < length g → length r ≡ 72 → (from i : ℕ) → from + 72 ≤ j → at + 72 ≤ i → (i ≡ j → ⊥)
    → part from 72 (paste g at r 72) ≡ part from 72 g
    → let d = set (paste g at r 72) j 1 in
    (if_there (byte j d) (part at 72 d) ≡ some r) × (if_there (byte i d) (part from 72 d) ≡ if_there (byte i g) (part from 72 g))
unfolding if_there
stored g at r j h k w from i f b n e =
    let p : List ℕ = paste g at r 72 in
    let l : length p ≡ length g = length-paste g at r 72 (omega arith) (omega arith) in (
      rw (get_or-set_same p j 1 0 (omega arith), part-set p at j 1 h) (ap some (part_same g at r 72 (omega arith) w)),
      other p from j 1 f i n ∙ rw (e, get_d_past g at r 72 i 0 b (omega arith) (omega arith)),
    )

-- a flag at j is cleared: its record is not there, and the other one stays
pub dropped : (g : List ℕ) (at j i : ℕ) (r : Record) → at + 72 ≤ j → (i ≡ j → ⊥)
    → (if_there (byte j (set g j 0)) r ≡ none) × (if_there (byte i (set g j 0)) (part at 72 (set g j 0)) ≡ if_there (byte i g) (part at 72 g))
dropped g at j i r h n = (absent _ r (cleared g j), other g at j 0 h i n)

pub put_one : (g r : List ℕ) (w : Single) → length g ≡ 146 → length r ≡ 72 → let d = set (paste g (start_of w) r 72) (flag_of w) 1 in
    (single_of w d ≡ some r) × (single_of (other_of w) d ≡ single_of (other_of w) g)
unfolding service_of mchk_of
put_one g r Service l k =
    stored g 0 r 144 (omega arith) (omega arith) k 72 145 (omega arith) (omega arith) (omega arith) (ap (take 72) (drop_past g 0 r 72 72 (omega arith) (omega arith) (omega arith)))
put_one g r MachineCheck l k =
    stored g 72 r 145 (omega arith) (omega arith) k 0 144 (omega arith) (omega arith) (omega arith) (part-before g 72 r 72 0 72 (omega arith) (omega arith))

pub removed : (g : List ℕ) (w : Single)
    → (single_of w (set g (flag_of w) 0) ≡ none) × (single_of (other_of w) (set g (flag_of w) 0) ≡ single_of (other_of w) g)
unfolding service_of mchk_of
removed g Service = dropped g 72 144 145 _ (omega arith) (omega arith)
removed g MachineCheck = dropped g 0 145 144 _ (omega arith) (omega arith)

module _ (f : ℕ → ℕ → ℕ) where
  length-zip_with : (xs ys : List ℕ) → length (zip_with f xs ys) ≡ min (length xs) (length ys)
  unfolding zip_with
  length-zip_with [] ys = omega arith
  length-zip_with (x ∷ xs) [] = omega arith
  length-zip_with (x ∷ xs) (y ∷ ys) = omega (arith, length-zip_with xs ys)

  get_or-zip_with : (xs ys : List ℕ) (i : ℕ) → i < length xs → i < length ys → get_or (zip_with f xs ys) i 0 ≡ f (get_or xs i 0) (get_or ys i 0)
  unfolding zip_with
  get_or-zip_with [] ys i h k = absurd (omega arith)
  get_or-zip_with (x ∷ xs) [] i h k = absurd (omega arith)
  get_or-zip_with (x ∷ xs) (y ∷ ys) zero h k = refl
  get_or-zip_with (x ∷ xs) (y ∷ ys) (suc i) h k = get_or-zip_with xs ys i (omega arith) (omega arith)

  take-zip_with : (n : ℕ) (xs ys : List ℕ) → take n (zip_with f xs ys) ≡ zip_with f (take n xs) (take n ys)
  unfolding zip_with
  take-zip_with zero xs ys = refl
  take-zip_with (suc n) [] ys = refl
  take-zip_with (suc n) (x ∷ xs) [] = refl
  take-zip_with (suc n) (x ∷ xs) (y ∷ ys) = ap (λ (l : List ℕ). f x y ∷ l) (take-zip_with n xs ys)

-- the machine check's bytes from 8 on with r's bits, and g with 16 of them
abbrev pub ors : List ℕ → List ℕ → List ℕ
ors g r = zip_with bit_or (drop 80 g) (drop 8 r)

abbrev pub both : List ℕ → List ℕ → List ℕ
both g r = take 80 g ++ (zip_with bit_or (part 80 16 g) (part 8 16 r) ++ drop 96 g)

pub merge-all : (g r : List ℕ) → paste g 80 (ors g r) 16 ≡ both g r
merge-all g r = rw (append_assoc, take-zip_with)

module _ (g r : List ℕ) (k : length r ≡ 72) (h : 96 ≤ length g) where
  length-ors : length (ors g r) ≡ min (length g - 80) 64
  length-ors = simp (length-zip_with, length-drop) (omega arith)

  -- a turn of merge, b so far
  pub merge-turn : (b : List ℕ) (i : ℕ) → i < 16 → b ≡ paste g 80 (ors g r) i
      → set b (80 + i) (bit_or (byte (80 + i) b) (byte (8 + i) r)) ≡ paste g 80 (ors g r) (i + 1)
  merge-turn b i f e =
      let n : length (ors g r) ≡ min (length g - 80) 64 = length-ors in
      let x : get_or (ors g r) i 0 ≡ bit_or (byte (80 + i) g) (byte (8 + i) r) =
      get_or-zip_with bit_or (drop 80 g) (drop 8 r) i (simp length-drop (omega arith)) (simp length-drop (omega arith)) ∙ simp get_or-drop in
      let y : byte (80 + i) b ≡ byte (80 + i) g = rw e (get_d_past g 80 (ors g r) i (80 + i) 0 (omega arith) (omega arith) (omega arith)) in
      rw (y, ← x, e) (paste_more g 80 (ors g r) i 0 (omega arith) (omega arith))

  merged-flag : (i : ℕ) → 96 ≤ i → byte i (both g r) ≡ byte i g
  merged-flag i f = rw (← merge-all g r) (get_d_past g 80 (ors g r) 16 i 0 f (omega arith) (omega (arith, length-ors)))

  merged-part : part 72 72 (both g r) ≡ merged (part 72 72 g) r
  unfolding merged
  merged-part =
      let m : List ℕ = zip_with bit_or (part 80 16 g) (part 8 16 r) in
      let e : length m ≡ 16 = simp (length-zip_with, length-take, length-drop) (omega arith) in
      let a : length (take 72 g) ≡ 72 = length-take-le 72 g (omega arith) in
      let b : length (part 72 8 g) ≡ 8 = length-take-le 8 (drop 72 g) (simp length-drop (omega arith)) in
      rw (take-add 72 8 g, append_assoc, drop_at (take 72 g) _ 72 a, take-add 8 64 (part 72 8 g ++ _), take_at (part 72 8 g) _ 8 b, drop_at (part 72 8 g) _ 8 b, take-add 16 48 (m ++ _), take_at m _ 16 e, drop_at m _ 16 e)
      (rw (take-take 8 72 (drop 72 g) (omega arith), drop-take 8 64 (drop 72 g), take-take 16 64 _ (omega arith), drop-take 24 48 (drop 72 g), drop-drop 8 72 g, drop-drop 24 72 g))

  pub second-mchk : (t : Bool) → t ≡ not (eqb (byte 145 g) 0) → t ≡ true → mchk_of (both g r) ≡ some (merged_or (mchk_of g) r)
  unfolding mchk_of
  second-mchk t e f =
      rw (merged-flag 145 (omega arith), merged-part, there-if (byte 145 g) (part 72 72 g) t e f) (there-if (byte 145 g) (merged (part 72 72 g) r) t e f)

  pub second-service : service_of (both g r) ≡ service_of g
  unfolding service_of
  second-service =
      rw (merged-flag 144 (omega arith), ← merge-all g r) (ap (λ (l : List ℕ). if_there (byte 144 g) l) (part-before g 80 (ors g r) 16 0 72 (omega arith) (omega arith)))
