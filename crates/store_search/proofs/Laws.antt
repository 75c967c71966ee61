-- Laws of the search over queues, and of what the rules do at the place that it finds.
use Rattle.numbers.proofs.Basics.{◌≡◌, refl, sym, ap, ◌∙◌, Bool, true, false, ◌&&◌, none, some, List, [], ◌∷◌, ℕ}
use Rattle.numbers.proofs.Basics.{suc, ◌+◌, ◌-◌, ◌*◌, ◌/◌, ◌%◌, ◌^◌, ◌≤◌, ◌<◌, min, add-one, arith, length}
use Rattle.numbers.proofs.Basics.{take, drop, get_or, length-take, drop_of_length-le, drop-cons, get_or-take, eqb, bit_and}
use Rattle.numbers.proofs.{Basics.and_step, Basics.eqb-true, Basics.eqb-false, Basics.eq-eqb, Basics.ne_eqb, Laws.field-part, Laws.each-subclass}
use Rattle.rules.specs.{Bytes.choose, Bytes.field, State.Record, State.bit, State.has_bit, Requests.cons_to, Requests.without, Requests.or_in, Requests.without_first, Take.first_allowed, Take.keep}
use Rattle.store_queues.specs.{Slots.remove_at, Slots.slot, Queues.without_at}
use Rattle.std.specs.Prelude as std
use Rattle.std.proofs.lemmas.Nat.{and_shr}
use Rattle.numbers.specs.declared.Subchannel.{Subchannel}
use Rattle.store_search.specs.{declared.Found.Found, declared.Found.TheVariants.At, declared.Found.TheVariants.None, Search.is_for_word, Search.wanted, Search.search_queue, Search.search_queues, Search.left_at, Search.handed_at}

-- ---- a record is for a subchannel by one word of its slot, which is two halves
-- two words are equal where their halves are
word-halves : (x y w : ℕ) (s t : Bool) → y < 65536 → eqb x (w / 65536) ≡ s → eqb y (w % 65536) ≡ t → eqb (x * 65536 + y) w ≡ (s && t)
word-halves x y w true true h e f = eq-eqb (x * 65536 + y) w (omega (arith, h, eqb-true x (w / 65536) e, eqb-true y (w % 65536) f))
word-halves x y w true false h e f = ne_eqb (x * 65536 + y) w (λ k. eqb-false y (w % 65536) f (omega (arith, h, k)))
word-halves x y w false t h e f = ne_eqb (x * 65536 + y) w (λ k. eqb-false x (w / 65536) e (omega (arith, h, k)))

pub is-for-at : (b : List ℕ) (s w p v : ℕ) → p ≡ s * 72 + 8 → v ≡ field p 2 b * 65536 + field (p + 2) 2 b → field (p + 2) 2 b < 65536 → eqb v w ≡ is_for_word w (slot 72 b s)
unfolding slot
is-for-at b s w p v ep ev h =
    let z : s * 72 + 10 ≡ p + 2 = omega arith in
    rw (ev, field-part 8 2 72 (s * 72) b (omega arith), field-part 10 2 72 (s * 72) b (omega arith), z, ← ep) (word-halves _ _ w _ _ h refl refl)

-- ---- the search of the first eight, turn by turn
module _ (qs : List (List Record)) (f : Record → Bool) (subclasses i : ℕ) where
  pub search-over : 8 ≤ i → search_queues f subclasses i (drop i (take 8 qs)) ≡ None
  unfolding search_queues
  search-over h = rw (drop_of_length-le (take 8 qs) {i = i} (rw length-take (omega arith)))

  abbrev pub later : Found
  later = search_queues f subclasses (i + 1) (drop (i + 1) (take 8 qs))

  -- a subclass that is passed over, and one whose queue is searched
  pub search-turn : (t : Bool) → i < 8 → length qs ≡ 9 → t ≡ has_bit i subclasses
      → search_queues f subclasses i (drop i (take 8 qs)) ≡ choose t (search_queue f i 0 (get_or qs i []) later) later
  unfolding search_queues
  search-turn t h nine e =
      let n : i < length (take 8 qs) = rw length-take (omega arith) in
      rw (add-one, drop-cons (take 8 qs) i [] n, get_or-take 8 qs i [] h, e)

  module _ (k : ℕ) where
    pub search-end : length (get_or qs i []) ≤ k → search_queue f i k (drop k (get_or qs i [])) later ≡ later
    unfolding search_queue
    search-end l = rw (drop_of_length-le (get_or qs i []) {i = k} l)

    pub search-record : (x : Bool) → k < length (get_or qs i []) → f (get_or (get_or qs i []) k []) ≡ x
        → search_queue f i k (drop k (get_or qs i [])) later
        ≡ choose x (At (record { 0 = i }) k) (search_queue f i (k + 1) (drop (k + 1) (get_or qs i [])) later)
    unfolding search_queue
    search-record x l ex = rw (add-one k, drop-cons (get_or qs i []) k [] l, ex)

-- ---- what is found by a search that starts at subclass n is of a subclass from n on
abbrev From : ℕ → Found → Type 0
From n None = Unit {0}
From n (At s k) = n ≤ s.0

from-choose : (n : ℕ) (t : Bool) (v w : Found) → From n v → From n w → From n (choose t v w)
unfolding choose
from-choose n true v w h l = h
from-choose n false v w h l = l

from_less : (n : ℕ) (v : Found) → From (suc n) v → From n v
from_less n None h = tt
from_less n (At s k) h = omega (arith, h)

from-queue : (f : Record → Bool) (n k : ℕ) (q : List Record) (later : Found) → From n later → From n (search_queue f n k q later)
unfolding search_queue
from-queue f n k [] later h = h
from-queue f n k (r ∷ q) later h = from-choose n (f r) _ _ (omega arith) (from-queue f n (suc k) q later h)

from : (f : Record → Bool) (subclasses n : ℕ) (qs : List (List Record)) → From n (search_queues f subclasses n qs)
unfolding search_queues
from f subclasses n [] = tt
from f subclasses n (q ∷ qs) =
    let v = search_queues f subclasses (suc n) qs in
    let l = from_less n v (from f subclasses (suc n) qs) in
    from-choose n (has_bit n subclasses) (search_queue f n 0 q v) v (from-queue f n 0 q v l) l

-- the subclass counted from n on
abbrev past : ℕ → Found → Found
past n None = None
past n (At s k) = At (record { 0 = s.0 - n }) k

past-none : (v : Found) → past 0 v ≡ v
past-none None = refl
past-none (At s k) = ap (λ (i : ℕ). At (record { 0 = i }) k) (let z : s.0 - 0 ≡ s.0 = omega arith in z)

-- ---- the take
keep-next : (n : ℕ) (q : List Record) (qs : List (List Record)) (v : Found) → From (suc n) v → keep q (handed_at (past (suc n) v) qs) ≡ handed_at (past n v) (q ∷ qs)
unfolding without_at
keep-next n q qs None h = refl
keep-next n q qs (At s k) h = let e : s.0 - n ≡ suc (s.0 - suc n) = omega (arith, h) in rw e

take-here : (t : Bool) (n : ℕ) (r : Record) (q : List Record) (qs : List (List Record)) (v : Found) → From (suc n) v
    → choose t (some (record { given = r; left = q ∷ qs })) (keep (r ∷ q) (handed_at (past (suc n) v) qs))
    ≡ handed_at (past n (choose t (At (record { 0 = n }) 0) v)) ((r ∷ q) ∷ qs)
unfolding choose without_at remove_at
take-here true n r q qs v h = let e : n - n ≡ 0 = omega arith in rw e
take-here false n r q qs v h = keep-next n (r ∷ q) qs v h

choose-same : {A : Type 0} (t : Bool) (a : A) → choose t a a ≡ a
unfolding choose
choose-same true a = refl
choose-same false a = refl

take-from : (n subclasses : ℕ) (qs : List (List Record)) → first_allowed n subclasses qs ≡ handed_at (past n (search_queues (λ r. true) subclasses n qs)) qs
unfolding first_allowed search_queue search_queues choose
take-from n subclasses [] = refl
take-from n subclasses ([] ∷ qs) =
    rw (choose-same, take-from (suc n) subclasses qs) (keep-next n [] qs (search_queues (λ r. true) subclasses (suc n) qs) (from (λ r. true) subclasses (suc n) qs))
take-from n subclasses ((r ∷ q) ∷ qs) =
    rw (take-from (suc n) subclasses qs) (take-here (has_bit n subclasses) n r q qs (search_queues (λ r. true) subclasses (suc n) qs) (from (λ r. true) subclasses (suc n) qs))

-- ---- the clear
data Look (f : Record → Bool) (q : List Record) : Type 0 where
  nowhere : without f q ≡ none → ((i j : ℕ) (later : Found) → search_queue f i j q later ≡ later) → Look f q
  here : (k : ℕ) → without f q ≡ some (remove_at k q) → ((i j : ℕ) (later : Found) → search_queue f i j q later ≡ At (record { 0 = i }) (j + k)) → Look f q

look-on : (f : Record → Bool) (r : Record) (q : List Record) (t : Bool) → f r ≡ t → Look f q → Look f (r ∷ q)
unfolding without search_queue choose remove_at
look-on f r q true e l = here 0 (rw e) (λ i j later. let z : j + 0 ≡ j = omega arith in rw (e, z))
look-on f r q false e (nowhere a b) = nowhere (rw (e, a)) (λ i j later. rw e (b i (suc j) later))
look-on f r q false e (here k a b) =
    here (suc k) (let z : suc k + 1 ≡ suc (k + 1) = omega arith in rw (e, a, z))
    (λ i j later. let z : suc j + k ≡ j + suc k = omega arith in rw (e, ← z) (b i (suc j) later))

look : (f : Record → Bool) (q : List Record) → Look f q
unfolding without search_queue
look f [] = nowhere refl (λ i j later. refl)
look f (r ∷ q) = look-on f r q (f r) refl (look f q)

every-bit : (n : ℕ) → n ≤ 7 → has_bit n 255 ≡ true
unfolding has_bit
every-bit = each-subclass (λ n. has_bit n 255 ≡ true) refl refl refl refl refl refl refl refl

cons-next : (n : ℕ) (q : List Record) (qs : List (List Record)) (v : Found) → From (suc n) v → cons_to q (left_at (past (suc n) v) qs) ≡ left_at (past n v) (q ∷ qs)
unfolding without_at
cons-next n q qs None h = refl
cons-next n q qs (At s k) h = let e : s.0 - n ≡ suc (s.0 - suc n) = omega (arith, h) in rw e

clear-here : (f : Record → Bool) (n : ℕ) (q : List Record) (qs : List (List Record)) (v : Found) → From (suc n) v → Look f q
    → or_in (without f q) q qs (left_at (past (suc n) v) qs) ≡ left_at (past n (search_queue f n 0 q v)) (q ∷ qs)
unfolding without_at
clear-here f n q qs v h (nowhere a b) = rw (a, b) (cons-next n q qs v h)
clear-here f n q qs v h (here k a b) =
    let z : 0 + k ≡ k = omega arith in
    let e : n - n ≡ 0 = omega arith in
    rw (a, b, z, e)

clear-from : (f : Record → Bool) (n : ℕ) (qs : List (List Record)) → n + length qs ≤ 8 → without_first f qs ≡ left_at (past n (search_queues f 255 n qs)) qs
unfolding without_first search_queues choose
clear-from f n [] h = refl
clear-from f n (q ∷ qs) h =
    rw (every-bit n (omega arith), clear-from f (suc n) qs (omega arith))
    (clear-here f n q qs (search_queues f 255 (suc n) qs) (from f 255 (suc n) qs) (look f q))

-- what the rules do at what the search answers: the subchannel's first record, and any record of an allowed subclass
module _ (n : std.Option Subchannel) (subclasses : ℕ) (qs : List (List Record)) (v : Found) (e : v ≡ search_queues (wanted n) subclasses 0 (take 8 qs)) where
  pub cleared : (word : Subchannel) → n ≡ std.Some word → subclasses ≡ 255 → without_first (is_for_word word.0) (take 8 qs) ≡ left_at v (take 8 qs)
  cleared word a m =
      clear-from (is_for_word word.0) 0 (take 8 qs) (omega (arith, length-take 8 qs))
      ∙ ap (λ (u : Found). left_at u (take 8 qs)) (past-none _ ∙ sym (e ∙ (λ i. search_queues (wanted (a i)) (m i) 0 (take 8 qs))))

  pub handed_out : n ≡ std.None → first_allowed 0 subclasses (take 8 qs) ≡ handed_at v (take 8 qs)
  handed_out a =
      take-from 0 subclasses (take 8 qs)
      ∙ ap (λ (u : Found). handed_at u (take 8 qs)) (past-none _ ∙ sym (e ∙ (λ i. search_queues (wanted (a i)) subclasses 0 (take 8 qs))))

-- ---- a mask without the subclasses that have no records
digit_and : (k a b : ℕ) → bit_and a b / 2 ^ k % 2 ≡ min (a / 2 ^ k % 2) (b / 2 ^ k % 2)
digit_and k a b = rw and_shr (omega (arith, and_step (a / 2 ^ k) (b / 2 ^ k)))

bit-and : (a b i : ℕ) → i ≤ 7 → bit_and a b / bit i % 2 ≡ min (a / bit i % 2) (b / bit i % 2)
bit-and a b =
    each-subclass (λ i. bit_and a b / bit i % 2 ≡ min (a / bit i % 2) (b / bit i % 2))
    (digit_and 7 a b) (digit_and 6 a b) (digit_and 5 a b) (digit_and 4 a b) (digit_and 3 a b) (digit_and 2 a b) (digit_and 1 a b) (digit_and 0 a b)

-- a bit of two masks is that of the one where the other has it
pub has_both : (i a b : ℕ) → i ≤ 7 → has_bit i b ≡ true → has_bit i (bit_and a b) ≡ has_bit i a
unfolding has_bit
has_both i a b h k =
    let e : bit_and a b / bit i % 2 ≡ a / bit i % 2 = omega (arith, bit-and a b i h, eqb-true (b / bit i % 2) 1 k) in
    rw e

-- masks that agree on the subclasses that have records
pub same-mask : (n a b : ℕ) (qs : List (List Record)) → ((i : ℕ) → i < length qs → 0 < length (get_or qs i []) → has_bit (n + i) a ≡ has_bit (n + i) b)
    → first_allowed n a qs ≡ first_allowed n b qs
unfolding first_allowed
same-mask n a b [] h = refl
same-mask n a b ([] ∷ qs) h =
    ap (keep []) (same-mask (suc n) a b qs (λ i k l. rw (let z : n + suc i ≡ suc n + i = omega arith in z) at (h (suc i) (omega arith) l)))
same-mask n a b ((r ∷ q) ∷ qs) h =
    let z : n + 0 ≡ n = omega arith in
    let here : has_bit n a ≡ has_bit n b = rw z at (h 0 (omega arith) (omega arith)) in
    rw (here, same-mask (suc n) a b qs (λ i k l. rw (let z : n + suc i ≡ suc n + i = omega arith in z) at (h (suc i) (omega arith) l)))
