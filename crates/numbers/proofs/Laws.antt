-- Laws of copies within a list, of big-endian numbers, of the eight subclasses, and of a flag as a number.
use mathlib.Core.{Bool.Bool, Bool.true, Bool.false, Path.◌≡◌, Path.refl, Path.sym, Path.ap, Path.◌∙◌, List.List, List.[], List.◌∷◌, List.◌++◌, List.append_assoc}
use Prim.Native.Nat.{ℕ, zero, suc, ◌+◌, ◌-◌, ◌*◌, ◌/◌, ◌%◌, ◌^◌, ◌≤◌, ◌<◌}
use native.Mathlib.Nat.{add-zero, mul_assoc, pow-suc, pow-le-pow_right, div-div-eq-div-mul}
use native.Mathlib.{Numerals.add-one, Omega.arith}
use lib.ListN.{length, take, drop, get_or, set, length-drop, length-append, length-set}
use lib.Seq.{take_at, drop_at, take-append-le, take-take, take_all, take-suc, drop-drop, drop-paste, get_or-drop, length-take-le, set_at, paste, paste-zero, paste-suc}
pub use Rattle.std.proofs.lemmas.List.{take-map, drop-map, map-set, drop-take}
use Rattle.std.specs.Int.{from_bool}
use Rattle.rules.specs.{Bytes.number, Bytes.part, Bytes.field, MoveList.one_if}

-- ---- copies
module _ {A : Type 0} where
  -- a copy of nothing
  pub paste_none : (d : List A) (at : ℕ) (s : List A) (n : ℕ) → n ≡ 0 → d ≡ paste d at s n
  paste_none d at s n e = rw e (paste-zero d at s)

  -- a turn of a loop that copies m elements upwards, b so far: b stays as long as it was, and has one element more
  pub paste_more : (b d : List A) (at : ℕ) (s : List A) (j i m : ℕ) (z : A) → i ≡ at + j → i < length d → j < length s → j < m → length b ≡ length d → b ≡ paste d at s j
      → (j + 1 ≤ m) × (length (set b i (get_or s j z)) ≡ length d) × (set b i (get_or s j z) ≡ paste d at s (j + 1))
  paste_more b d at s j i m z p h k f l e = (omega arith, length-set b i _ ∙ l, rw (e, p, add-one j) (paste-suc d at s j z (omega arith) k))

  -- a turn of a loop that copies downwards: one more element in front
  pub paste-front : (d : List A) (at : ℕ) (s : List A) (n : ℕ) (x z : A) → at < length d
      → set (paste d (at + 1) s n) at x ≡ paste d at (x ∷ s) (suc n)
  paste-front d at s n x z h =
      let e : length (take at d) ≡ at = length-take-le at d (omega arith) in
      let m : at + 1 + n ≡ at + suc n = omega arith in
      rw (m, add-one at, take-suc d at z h)
      (simp append_assoc (set_at (take at d) (get_or d at z) (take n s ++ drop (at + suc n) d) x at e))

  -- what ends before the copy, what starts past it, and the copy itself
  pub take-before : (d : List A) (at : ℕ) (s : List A) (n m : ℕ) → m ≤ at → at ≤ length d → take m (paste d at s n) ≡ take m d
  take-before d at s n m h k =
      let e : length (take at d) ≡ at = length-take-le at d k in
      rw append_assoc (take-append-le m (take at d) _ (omega arith) ∙ take-take m at d h)

  pub drop_past : (d : List A) (at : ℕ) (s : List A) (n i : ℕ) → at + n ≤ i → at ≤ length d → n ≤ length s → drop i (paste d at s n) ≡ drop i d
  drop_past d at s n i h k f =
      let m : ℕ = i - (at + n) in
      let e : at + n + m ≡ i = omega arith in
      rw (← e) (sym (drop-drop m (at + n) (paste d at s n)) ∙ ap (λ (l : List A). drop m l) (drop-paste d at s n k f) ∙ drop-drop m (at + n) d)

  pub get_d_past : (d : List A) (at : ℕ) (s : List A) (n i : ℕ) (z : A) → at + n ≤ i → at ≤ length d → n ≤ length s → get_or (paste d at s n) i z ≡ get_or d i z
  get_d_past d at s n i z h k f = simp (get_or-drop, add-zero) at (ap (λ (l : List A). get_or l 0 z) (drop_past d at s n i h k f))

  pub part_same : (d : List A) (at : ℕ) (s : List A) (n : ℕ) → at ≤ length d → length s ≡ n → take n (drop at (paste d at s n)) ≡ s
  part_same d at s n k f =
      rw (append_assoc, drop_at (take at d) (take n s ++ drop (at + n) d) at (length-take-le at d k), take_all n s (omega arith))
      (take_at s (drop (at + n) d) n f)

  pub part-before : (d : List A) (at : ℕ) (s : List A) (n i w : ℕ) → i + w ≤ at → at ≤ length d → take w (drop i (paste d at s n)) ≡ take w (drop i d)
  part-before d at s n i w h k = sym (drop-take i w (paste d at s n)) ∙ ap (λ (x : List A). drop i x) (take-before d at s n (i + w) h k) ∙ drop-take i w d

-- ---- big-endian numbers
number-snoc : (xs : List ℕ) (y : ℕ) → number (xs ++ y ∷ []) ≡ number xs * 256 + y
unfolding number
number-snoc [] y = omega arith
number-snoc (b ∷ xs) y =
    let e : b * 256 ^ length (xs ++ y ∷ []) ≡ b * 256 ^ length xs * 256 = rw (length-append, add-one, pow-suc, mul_assoc) in
    omega (arith, number-snoc xs y)

-- the number of the n bytes from index at, the last of which is that at index p
pub next-byte : (l : List ℕ) (at i n p : ℕ) → n ≡ i + 1 → p ≡ at + i → p < length l → number (take n (drop at l)) ≡ number (take i (drop at l)) * 256 + get_or l p 0
next-byte l at i n p e f h =
    let k : i < length (drop at l) = simp length-drop (omega arith) in
    rw (e, f, add-one i, take-suc (drop at l) i 0 k, get_or-drop, number-snoc)

-- a turn of read_be
pub read-turn : (l : List ℕ) (at i v x : ℕ) → at + i < length l → v ≡ number (take i (drop at l)) → v < 256 ^ i → x ≡ get_or l (at + i) 0 → x < 256
    → (v * 256 + x ≡ number (take (i + 1) (drop at l))) × (v * 256 + x < 256 ^ (i + 1))
read-turn l at i v x h e b ex bx = (omega (arith, next-byte l at i (i + 1) (at + i) refl refl h), rw (add-one i, pow-suc) (omega arith))

-- the number of two bytes
pub pair : (l : List ℕ) (at p : ℕ) → p ≡ at + 1 → p < length l → number (take 2 (drop at l)) ≡ get_or l at 0 * 256 + get_or l p 0
unfolding number
pair l at p e h = omega (arith, next-byte l at 0 1 at refl (omega arith) (omega arith), next-byte l at 1 2 p refl e h)

-- a number within a part
pub field-part : (at n w from : ℕ) (b : List ℕ) → at + n ≤ w → field at n (part from w b) ≡ field (from + at) n b
field-part at n w from b h =
    let d : drop at (take w (drop from b)) ≡ take (w - at) (drop at (drop from b)) =
    rw (let e : at + (w - at) ≡ w = omega arith in e) at (drop-take at (w - at) (drop from b)) in
    rw (d, take-take n (w - at) (drop at (drop from b)) (omega arith), drop-drop)

-- eight bytes fit
pub read_fits : (v i n : ℕ) → v < 256 ^ i → i < n → n ≤ 8 → v * 256 + 256 ≤ 2 ^ 64
read_fits v i n h k f = omega (arith, pow-suc 256 i, pow-le-pow_right {n = 256} (omega arith) {i = suc i} {j = 8} (omega arith))

-- A turn of a loop that writes the lowest places of v to a base, the last of them first; f says how a place is written.
module _ (f : ℕ → ℕ) (s : ℕ → List ℕ) (base v : ℕ) (step : (k : ℕ) → s (suc k) ≡ f (v / base ^ k % base) ∷ s k) where
  pub write-turn : (b d : List ℕ) (at n i w : ℕ) → 0 < i → i ≤ n → at + n ≤ length d → w ≡ v / base ^ (n - i) → b ≡ paste d (at + i) (s (n - i)) (n - i)
      → (w / base ≡ v / base ^ (n - (i - 1))) × (set b (at + (i - 1)) (f (w % base)) ≡ paste d (at + (i - 1)) (s (n - (i - 1))) (n - (i - 1)))
  write-turn b d at n i w h k l ew eb =
      let p : at + i ≡ at + (i - 1) + 1 = omega arith in
      let q : n - (i - 1) ≡ suc (n - i) = omega arith in (
        rw (ew, q, pow-suc) (div-div-eq-div-mul v (base ^ (n - i)) base),
        rw (eb, ew, p, q, step (n - i)) (paste-front d (at + (i - 1)) (s (n - i)) (n - i) _ 0 (omega arith)),
      )

-- ---- what holds of each subclass
pub each-subclass : (P : ℕ → Type 0) → P 0 → P 1 → P 2 → P 3 → P 4 → P 5 → P 6 → P 7 → (i : ℕ) → i ≤ 7 → P i
each-subclass P a b c d e f g h zero k = a
each-subclass P a b c d e f g h (suc zero) k = b
each-subclass P a b c d e f g h (suc (suc zero)) k = c
each-subclass P a b c d e f g h (suc (suc (suc zero))) k = d
each-subclass P a b c d e f g h (suc (suc (suc (suc zero)))) k = e
each-subclass P a b c d e f g h (suc (suc (suc (suc (suc zero))))) k = f
each-subclass P a b c d e f g h (suc (suc (suc (suc (suc (suc zero)))))) k = g
each-subclass P a b c d e f g h (suc (suc (suc (suc (suc (suc (suc zero))))))) k = h
each-subclass P a b c d e f g h (suc (suc (suc (suc (suc (suc (suc (suc i)))))))) k = absurd (omega arith)

-- ---- the number that std makes of a flag
pub flag : (b : Bool) → from_bool b ≡ one_if b
flag true = refl
flag false = refl
