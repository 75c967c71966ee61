-- Laws of text that is written piece by piece, of digits, and of lines.
use Prim.Native.Nat.{max}
use Rattle.numbers.proofs.Basics.{◌≡◌, refl, sym, ap, ◌∙◌, Bool, true, false, List, [], ◌∷◌, ◌++◌, flatten}
use Rattle.numbers.proofs.Basics.{append_assoc, append-nil, ℕ, zero, suc, ◌+◌, ◌*◌, ◌/◌, ◌^◌, ◌≤◌, ◌<◌, zero-add}
use Rattle.numbers.proofs.Basics.{add-zero, pow-suc, div-lt_iff_lt-mul, add-one, arith, length, drop}
use Rattle.numbers.proofs.{Basics.take_at, Basics.drop_at, Basics.drop-drop, Basics.ltb, Basics.lt-ltb, Basics.le-ltb, Laws.field-part}
use Rattle.rules.specs.{Bytes.choose, Bytes.part, Bytes.field, State.Record, State.Kind, State.kind, State.subclass, State.interruption_word, Requests.records_in, Invariant.All, Invariant.Whole}
use Rattle.rules.specs.Listing.{ascii, digits, digit_count, decimal, hex8, line, name, of_io, record_line, lines_from}
use Rattle.record_add.specs.{declared.Kind.Kind as Case, Cases.as_case}
use Rattle.record_add.proofs.Laws.{kind-known, kind_for}

-- ---- digits
pub length_digits : (base n v : ℕ) → length (digits base n v) ≡ n
unfolding digits
length_digits base zero v = refl
length_digits base (suc n) v = ap suc (length_digits base n v)

-- sizes
pub size-one : (n v : ℕ) → v < 10 → digit_count n v ≡ 1
unfolding digit_count choose
size-one zero v h = refl
size-one (suc n) v h = rw (lt-ltb v 10 h)

size-enough : (n m v : ℕ) → v ≤ n → v ≤ m → digit_count n v ≡ digit_count m v
unfolding digit_count
size-enough zero m v h k = sym (size-one m v (omega arith))
size-enough (suc n) zero v h k = size-one (suc n) v (omega arith)
size-enough (suc n) (suc m) v h k = rw (size-enough n m (v / 10) (omega arith) (omega arith))

chosen-most : (t : Bool) (a k : ℕ) → a ≤ k → choose t 1 (suc a) ≤ suc k
unfolding choose
chosen-most true a k h = omega arith
chosen-most false a k h = omega arith

pub size-most : (k n v : ℕ) → v < 10 ^ suc k → digit_count n v ≤ suc k
unfolding digit_count
size-most k zero v h = omega arith
size-most zero (suc n) v h = omega (arith, size-one (suc n) v h)
size-most (suc k) (suc n) v h =
    chosen-most (ltb v 10) (digit_count n (v / 10)) (suc k) (size-most k n (v / 10) ((div-lt_iff_lt-mul (omega arith)).1 (rw (← pow-suc) h)))

pub size-next : (v : ℕ) → 10 ≤ v → digit_count v v ≡ suc (digit_count (v / 10) (v / 10))
unfolding digit_count choose
size-next zero h = absurd (omega arith)
size-next (suc n) h = rw (le-ltb (suc n) 10 h) (ap suc (size-enough n (suc n / 10) (suc n / 10) (omega arith) (omega arith)))

-- the size by the logarithm; 0 has one digit, as 1 has
size-exact : (k v : ℕ) → 10 ^ k ≤ v → v < 10 * 10 ^ k → digit_count v v ≡ k + 1
size-exact zero v h l = size-one v v (omega arith)
size-exact (suc k) v h l =
    let e = pow-suc 10 k in
    let p : 10 ^ k ≤ v / 10 = omega arith in
    let q : v / 10 < 10 * 10 ^ k = omega arith in
    let i : digit_count (v / 10) (v / 10) ≡ k + 1 = size-exact k (v / 10) p q in
    omega (arith, size-next v (omega arith))

pub size-logarithm : (k v : ℕ) → 10 ^ k ≤ max v 1 → max v 1 < 10 * 10 ^ k → digit_count v v ≡ k + 1
unfolding digit_count choose
size-logarithm k zero h l = size-exact k 1 h l
size-logarithm k (suc n) h l = let e : max (suc n) 1 ≡ suc n = omega arith in size-exact k (suc n) (rw e at h) (rw e at l)

-- sizes by the highest number
pub few-digits : (v : ℕ) → v < 2 ^ 64 → digit_count v v ≤ 20
few-digits v h = size-most 19 v v (omega arith)

pub three-digits : (v : ℕ) → v < 1000 → digit_count v v ≤ 3
three-digits v h = size-most 2 v v (omega arith)

-- ---- the words of a line
pub line-two : (a b : List ℕ) → line (a ∷ b ∷ []) ≡ a ++ (32 ∷ (b ++ 10 ∷ []))
unfolding line ascii
line-two a b = refl

pub line-four : (a b c d : List ℕ) → line (a ∷ b ∷ c ∷ d ∷ []) ≡ a ++ (32 ∷ (b ++ (32 ∷ (c ++ (32 ∷ (d ++ 10 ∷ []))))))
unfolding line ascii
line-four a b c d = refl

pub ruleset words = (append_assoc, line-two, line-four, few-digits, size-one)

-- the line of a record within bytes, after a text a, with what the code has read of it
module _ (a : List ℕ) (place from t : ℕ) (b : List ℕ) (et : t ≡ field from 8 b) where
  type-is : field 0 8 (part from 72 b) ≡ t
  type-is = field-part 0 8 72 from b (omega arith) ∙ rw (add-zero, et)

  pub io-line : (isc w : ℕ) → kind (part from 72 b) ≡ Kind.io → isc ≡ subclass (part from 72 b) → w ≡ field (from + 16) 4 b
      → a ++ (decimal place ++ ascii " ") ++ line (ascii "io" ∷ decimal isc ∷ hex8 t ∷ hex8 w ∷ []) ≡ a ++ record_line place (part from 72 b)
  unfolding record_line line name of_io
  io-line isc w k ei ew = rw (k, type-is, field-part 16 4 72 from b (omega arith), ← ew, ← ei) (simp append_assoc)

  pub other-line : (y : Case) → y ≡ as_case (kind (part from 72 b)) (subclass (part from 72 b)) → ((w : List ℕ) → of_io (kind_for y) w ≡ ascii "-")
      → a ++ (decimal place ++ ascii " ") ++ line (name (kind_for y) ∷ ascii "-" ∷ hex8 t ∷ ascii "-" ∷ []) ≡ a ++ record_line place (part from 72 b)
  unfolding record_line line
  other-line y e d =
      let r : Record = part from 72 b in
      let k : kind r ≡ kind_for y = kind-known (kind r) (subclass r) y e in
      rw (k, type-is, d (decimal (subclass r)), d (hex8 (interruption_word r))) (simp append_assoc)

-- one more line
lines_more : (p i : ℕ) (b : List ℕ) → lines_from p (records_in i b) ++ record_line (p + i) (part (i * 72) 72 b) ≡ lines_from p (records_in (suc i) b)
unfolding lines_from records_in
lines_more p zero b = rw (add-zero, append-nil)
lines_more p (suc i) b =
    let e : p + suc i ≡ suc p + i = omega arith in
    let f : suc i * 72 ≡ 72 + i * 72 = omega arith in
    rw (append_assoc, e, f, ← drop-drop, lines_more (suc p) i (drop 72 b))

pub lines-next : (a : List ℕ) (i : ℕ) (b : List ℕ)
    → a ++ lines_from 0 (records_in i b) ++ record_line i (part (i * 72) 72 b) ≡ a ++ lines_from 0 (records_in (i + 1) b)
lines-next a i b = append_assoc a _ _ ∙ ap (λ l. a ++ l) (rw add-one (rw zero-add at (lines_more 0 i b)))

pub lines-none : (a b : List ℕ) → a ≡ a ++ lines_from 0 (records_in 0 b)
unfolding lines_from records_in
lines-none a b = sym (append-nil a)

pub ruleset turns = (lines-none, lines-next, three-digits)

-- ---- the listing as bytes, and back
pub records-listed : (rs : List Record) (d : List ℕ) (n : ℕ) → n ≡ length rs → All Whole rs → records_in n (flatten rs ++ d) ≡ rs
unfolding flatten records_in
records-listed [] d n e h = rw e
records-listed (r ∷ rs) d n e h =
    rw (e, append_assoc r (flatten rs) d, take_at r (flatten rs ++ d) 72 h.0, drop_at r (flatten rs ++ d) 72 h.0, records-listed rs d (length rs) refl h.1)
