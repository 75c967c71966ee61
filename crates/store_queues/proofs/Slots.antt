-- Laws of slots and of lists of slot numbers.
use Rattle.numbers.proofs.Basics.{◌≡◌, refl, sym, ap, Bool, true, false, List, [], ◌∷◌, ◌++◌, map, map-append}
use Rattle.numbers.proofs.Basics.{flatten, ℕ, zero, suc, ◌+◌, ◌*◌, ◌≤◌, ◌<◌, zero-add, suc-add, not-suc-le-zero}
use Rattle.numbers.proofs.Basics.{le_of_suc-le-suc, suc-mul, mul-le-mul_right, add-one, dec_lt, arith, length, take}
use Rattle.numbers.proofs.Basics.{◌-◌, drop, get_or, set, length-drop, split_at, get_or-drop, length-take-le, paste, eqb}
use Rattle.numbers.proofs.{Basics.eqb-false, Basics.eq-eqb, Laws.take-map, Laws.drop-map, Laws.drop_past, Laws.get_d_past, Laws.part-before}
use Rattle.std.proofs.lemmas.List.Edits.{paste_more}
use Rattle.rules.specs.Bytes.{choose}
use Rattle.store_queues.specs.Slots.{remove_at, slot, occurs}

-- ---- a turn of move_down
pub down_turn : (b d : List ℕ) (lo i j n : ℕ) → i ≡ lo + j → n ≡ j + 1 → i + 1 < length d → b ≡ paste d lo (drop (lo + 1) d) j
    → set b i (get_or b (i + 1) 0) ≡ paste d lo (drop (lo + 1) d) n
down_turn b d lo i j n p q h e =
    let s : List ℕ = drop (lo + 1) d in
    let ls : length s ≡ length d - (lo + 1) = length-drop (lo + 1) d in
    let at : i + 1 ≡ lo + 1 + j = omega arith in
    let v : get_or b (i + 1) 0 ≡ get_or s j 0 =
    rw (e, get_d_past d lo s j (i + 1) 0 (omega arith) (omega arith) (omega arith), at) (sym (get_or-drop (lo + 1) d j 0)) in
    rw (v, q, e, p) (paste_more d lo s j 0 (omega arith) (omega arith))

-- ---- one less
module _ {A B : Type 0} (f : A → B) where
  pub map-remove_at : (k : ℕ) (l : List A) → map f (remove_at k l) ≡ remove_at k (map f l)
  unfolding remove_at
  map-remove_at k l = rw (map-append, take-map, drop-map)

-- ---- how often an entry stands
choose-add : (t : Bool) (m n : ℕ) → choose t (suc (m + n)) (m + n) ≡ choose t (suc m) m + n
unfolding choose
choose-add true m n = sym (suc-add m n)
choose-add false m n = refl

pub occurs-append : (s : ℕ) (p q : List ℕ) → occurs s (p ++ q) ≡ occurs s p + occurs s q
unfolding occurs
occurs-append s [] q = sym (zero-add (occurs s q))
occurs-append s (x ∷ p) q = rw (occurs-append s p q) (choose-add (eqb x s) (occurs s p) (occurs s q))

pub occurs-out : (s k : ℕ) (l : List ℕ) → k < length l → occurs s l ≡ occurs s (get_or l k 0 ∷ []) + occurs s (remove_at k l)
unfolding remove_at
occurs-out s k l h =
    let e : l ≡ take k l ++ (get_or l k 0 ∷ drop (k + 1) l) = rw (add-one k) (split_at l k 0 h) in
    omega (arith, ap (occurs s) e, occurs-append s (take k l) (get_or l k 0 ∷ drop (k + 1) l), occurs-append s (get_or l k 0 ∷ []) (drop (k + 1) l), occurs-append s (take k l) (drop (k + 1) l))

pub occurs-self : (x : ℕ) → occurs x (x ∷ []) ≡ 1
unfolding occurs choose
occurs-self x = rw (eq-eqb x x refl)

-- one of several lists is another
pub occurs-set : (s : ℕ) (ls : List (List ℕ)) (i : ℕ) (x : List ℕ) → i < length ls
    → occurs s (flatten (set ls i x)) + occurs s (get_or ls i []) ≡ occurs s (flatten ls) + occurs s x
unfolding flatten
occurs-set s [] i x h = absurd (not-suc-le-zero h)
occurs-set s (l ∷ ls) zero x h = omega (arith, occurs-append s x (flatten ls), occurs-append s l (flatten ls))
occurs-set s (l ∷ ls) (suc i) x h = omega (arith, occurs-append s l (flatten (set ls i x)), occurs-append s l (flatten ls), occurs-set s ls i x (le_of_suc-le-suc h))

-- two functions that agree but at x agree on lists that lack x
lacks : (t : Bool) (n : ℕ) → choose t (suc n) n ≡ 0 → (t ≡ false) × (n ≡ 0)
unfolding choose
lacks true n h = absurd (omega arith)
lacks false n h = (refl, h)

module _ {A : Type 0} (f g : ℕ → A) (x : ℕ) (e : (s : ℕ) → (s ≡ x → ⊥) → f s ≡ g s) where
  map-lacks : (l : List ℕ) → occurs x l ≡ 0 → map f l ≡ map g l
  unfolding occurs
  map-lacks [] h = refl
  map-lacks (y ∷ l) h =
      let both : (eqb y x ≡ false) × (occurs x l ≡ 0) = lacks (eqb y x) (occurs x l) h in
      λ k. e y (eqb-false y x both.0) k ∷ map-lacks l both.1 k

  pub maps-lack : (ls : List (List ℕ)) → occurs x (flatten ls) ≡ 0 → map (map f) ls ≡ map (map g) ls
  unfolding flatten
  maps-lack [] h = refl
  maps-lack (l ∷ ls) h =
      let both = occurs-append x l (flatten ls) in
      λ k. map-lacks l (omega arith) k ∷ maps-lack ls (omega arith) k

-- ---- a slot beside the one that is written
pub slot-other : (w : ℕ) (b r : List ℕ) (x s : ℕ) → x * w ≤ length b → length r ≡ w → (s ≡ x → ⊥) → slot w (paste b (x * w) r w) s ≡ slot w b s
unfolding slot
slot-other w b r x s h l ne =
    let up : (i j : ℕ) → i < j → i * w + w ≤ j * w = λ i j lt. rw suc-mul at (mul-le-mul_right w lt) in
    elim (dec_lt s x) [
      | yes lt ↦ part-before b (x * w) r w (s * w) w (up s x lt) h
      | no ge ↦ ap (λ (d : List ℕ). take w d) (drop_past b (x * w) r w (s * w) (up x s (omega arith)) h (omega arith))
    ]

-- a slot among m slots of w bytes has w bytes
pub length-slot : (w m : ℕ) (b : List ℕ) (s : ℕ) → s < m → m * w ≤ length b → length (slot w b s) ≡ w
unfolding slot
length-slot w m b s h l = length-take-le w (drop (s * w) b) (simp length-drop (omega (arith, rw suc-mul at (mul-le-mul_right w h))))
