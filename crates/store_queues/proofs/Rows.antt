-- Laws of rows of slot numbers: an entry that is stored, entries that move down, and the rows together.
use Rattle.numbers.proofs.Basics.{◌≡◌, refl, sym, ap, ap₂, ◌∙◌, List, [], ◌∷◌, ◌++◌, append_assoc, ℕ, zero, suc, ◌+◌}
use Rattle.numbers.proofs.Basics.{◌-◌, ◌*◌, ◌≤◌, ◌<◌, not-suc-le-zero, le_of_suc-le-suc, add-one, dec_lt, arith}
use Rattle.numbers.proofs.Basics.{length, take, drop, get_or, set, length-drop, length-take-le, take-suc, take-suc-set}
use Rattle.numbers.proofs.{Basics.take-set-le, Basics.drop-set-lt, Basics.drop-set-add, Basics.drop-append-le, Basics.drop-drop, Basics.take-take, Basics.take-paste, Basics.get_or-take, Basics.get_or-drop, Basics.paste, Laws.drop-take, Laws.drop_past, Laws.part-before}
use Rattle.store_queues.specs.{Slots.slot_count, Slots.remove_at, Queues.row, Queues.rows}

-- ---- one row
module _ (o : List ℕ) (q : ℕ) (h : q * slot_count + slot_count ≤ length o) where
  pub length-row : (n : ℕ) → n ≤ slot_count → length (row o q n) ≡ n
  unfolding row
  length-row n k = length-take-le n (drop (q * slot_count) o) (rw length-drop (omega arith))

  pub row_at : (n at : ℕ) → at < n → get_or (row o q n) at 0 ≡ get_or o (q * slot_count + at) 0
  unfolding row
  row_at n at k = rw (get_or-take n (drop (q * slot_count) o) at 0 k, get_or-drop)

  -- one more entry of the row
  pub row_more : (n : ℕ) → n < slot_count → row o q (n + 1) ≡ row o q n ++ (get_or o (q * slot_count + n) 0 ∷ [])
  unfolding row
  row_more n k = rw (add-one n, take-suc (drop (q * slot_count) o) n 0 (rw length-drop (omega arith)), get_or-drop)

  -- the entry behind the first n is stored
  pub row-stored : (n v : ℕ) → n < slot_count → row (set o (q * slot_count + n) v) q (n + 1) ≡ row o q n ++ (v ∷ [])
  unfolding row
  row-stored n v k = rw (drop-set-add (q * slot_count) o n v, add-one n) (take-suc-set (drop (q * slot_count) o) n v (rw length-drop (omega arith)))

  -- the entries behind place `at`, of n, move down
  pub row-down : (n at : ℕ) → at < n → n ≤ slot_count
      → row (paste o (q * slot_count + at) (drop (q * slot_count + at + 1) o) (q * slot_count + (n - 1) - (q * slot_count + at))) q (n - 1) ≡ remove_at at (row o q n)
  unfolding row remove_at
  row-down n at k f =
      let B : ℕ = q * slot_count in
      let d : List ℕ = drop B o in
      let m : ℕ = n - 1 - at in
      let s : List ℕ = drop (B + at + 1) o in
      let em : B + (n - 1) - (B + at) ≡ m = omega arith in
      let ld : length d ≡ length o - B = length-drop B o in
      let ls : length s ≡ length o - (B + at + 1) = length-drop (B + at + 1) o in
      let la : length (take (B + at) o) ≡ B + at = length-take-le (B + at) o (omega arith) in
      let es : s ≡ drop (at + 1) d = ap (λ (j : ℕ). drop j o) (let z : B + at + 1 ≡ B + (at + 1) = omega arith in z) ∙ sym (drop-drop (at + 1) B o) in
      let ep : drop B (paste o (B + at) s m) ≡ paste d at s m =
      rw (append_assoc (take (B + at) o) (take m s) (drop (B + at + m) o), drop-append-le B (take (B + at) o) (take m s ++ drop (B + at + m) o) (omega arith), drop-take B at o, append_assoc)
      (ap (λ (t : List ℕ). take at d ++ (take m s ++ t)) (ap (λ (j : ℕ). drop j o) (let z : B + at + m ≡ B + (at + m) = omega arith in z) ∙ sym (drop-drop (at + m) B o))) in
      let en : n - 1 ≡ at + m = omega arith in
      let en' : n ≡ at + 1 + m = omega arith in
      rw (em, ep)
      (ap (λ (j : ℕ). take j (paste d at s m)) en ∙ take-paste d at s m (omega arith) (omega arith)
      ∙ ap₂ (λ (x y : List ℕ). x ++ y) (sym (take-take at n d (omega arith)))
      (ap (take m) es ∙ sym (drop-take (at + 1) m d) ∙ ap (λ (j : ℕ). drop (at + 1) (take j d)) (sym en')))

-- an entry that is stored in another row
pub row-beside : (o : List ℕ) (p q k v n : ℕ) → (p ≡ q → ⊥) → k < slot_count → n ≤ slot_count → row (set o (q * slot_count + k) v) p n ≡ row o p n
unfolding row
row-beside o p q k v n ne h f =
    elim (dec_lt q p) [
      | yes lt ↦ ap (take n) (drop-set-lt (p * slot_count) o (q * slot_count + k) v (omega arith))
      | no ge ↦
          let j : ℕ = q * slot_count + k - p * slot_count in
          let e : q * slot_count + k ≡ p * slot_count + j = omega arith in
          rw (e, drop-set-add (p * slot_count) o j v) (take-set-le n (drop (p * slot_count) o) j v (omega arith))
    ]

-- entries that move down in another row
pub row-past : (o : List ℕ) (p q at end n : ℕ) → (p ≡ q → ⊥) → at ≤ end → end < slot_count → n ≤ slot_count → q * slot_count + slot_count ≤ length o
    → row (paste o (q * slot_count + at) (drop (q * slot_count + at + 1) o) (q * slot_count + end - (q * slot_count + at))) p n ≡ row o p n
unfolding row
row-past o p q at end n ne h k f l =
    let s : List ℕ = drop (q * slot_count + at + 1) o in
    let m : ℕ = q * slot_count + end - (q * slot_count + at) in
    let ls : length s ≡ length o - (q * slot_count + at + 1) = length-drop (q * slot_count + at + 1) o in
    elim (dec_lt q p) [
      | yes lt ↦ ap (take n) (drop_past o (q * slot_count + at) s m (p * slot_count) (omega arith) (omega arith) (omega arith))
      | no ge ↦ part-before o (q * slot_count + at) s m (p * slot_count) n (omega arith) (omega arith)
    ]

-- ---- the rows together
pub length-rows : (o : List ℕ) (q : ℕ) (ns : List ℕ) → length (rows o q ns) ≡ length ns
unfolding rows
length-rows o q [] = refl
length-rows o q (n ∷ ns) = ap suc (length-rows o (suc q) ns)

pub rows_at : (o : List ℕ) (q : ℕ) (ns : List ℕ) (i : ℕ) → i < length ns → get_or (rows o q ns) i [] ≡ row o (q + i) (get_or ns i 0)
unfolding rows
rows_at o q [] i h = absurd (not-suc-le-zero h)
rows_at o q (n ∷ ns) zero h = rw (let z : q + 0 ≡ q = omega arith in z)
rows_at o q (n ∷ ns) (suc i) h = rw (let z : q + suc i ≡ suc q + i = omega arith in z) (rows_at o (suc q) ns i (le_of_suc-le-suc h))

-- every row is as it was
rows_same : (u o : List ℕ) (q : ℕ) (ns : List ℕ) → ((j : ℕ) → j < length ns → row u (q + j) (get_or ns j 0) ≡ row o (q + j) (get_or ns j 0)) → rows u q ns ≡ rows o q ns
unfolding rows
rows_same u o q [] e = refl
rows_same u o q (n ∷ ns) e =
    ap₂ (λ (x : List ℕ) (t : List (List ℕ)). x ∷ t) (rw (let z : q + 0 ≡ q = omega arith in z) at (e 0 (omega arith)))
    (rows_same u o (suc q) ns (λ j h. rw (let z : q + suc j ≡ suc q + j = omega arith in z) at (e (suc j) (omega arith))))

-- every row but one is as it was
pub rows-changed : (u o : List ℕ) (q : ℕ) (ns : List ℕ) (i m : ℕ) (x : List ℕ) → i < length ns → row u (q + i) m ≡ x
    → ((j : ℕ) → (j ≡ i → ⊥) → j < length ns → row u (q + j) (get_or ns j 0) ≡ row o (q + j) (get_or ns j 0))
    → rows u q (set ns i m) ≡ set (rows o q ns) i x
unfolding rows
rows-changed u o q [] i m x h f e = absurd (not-suc-le-zero h)
rows-changed u o q (n ∷ ns) zero m x h f e =
    ap₂ (λ (y : List ℕ) (t : List (List ℕ)). y ∷ t) (rw (let z : q + 0 ≡ q = omega arith in z) at f)
    (rows_same u o (suc q) ns (λ j k. rw (let z : q + suc j ≡ suc q + j = omega arith in z) at (e (suc j) (λ w. omega (arith, w)) (omega arith))))
rows-changed u o q (n ∷ ns) (suc i) m x h f e =
    ap₂ (λ (y : List ℕ) (t : List (List ℕ)). y ∷ t) (rw (let z : q + 0 ≡ q = omega arith in z) at (e 0 (λ w. omega (arith, w)) (omega arith)))
    (rows-changed u o (suc q) ns i m x (le_of_suc-le-suc h) (rw (let z : q + suc i ≡ suc q + i = omega arith in z) at f)
    (λ j w k. rw (let z : q + suc j ≡ suc q + j = omega arith in z) at (e (suc j) (λ v. w (omega (arith, v))) (omega arith))))
