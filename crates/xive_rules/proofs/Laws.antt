-- What a reader of paper 02, ticket 1, asks of the rules, for any limits.
use Prim.Native.Nat.{ℕ, zero, suc, ◌+◌, ◌*◌, ◌%◌, ◌<◌, ◌≤◌, min}
use mathlib.Core.Path.{◌≡◌, refl, sym, ap, ◌∙◌}
use mathlib.Core.Bool.{Bool, true, false, true≢false}
use mathlib.Core.Option.{Option, none, some}
use mathlib.Core.List.{List, [], ◌∷◌, Memᴰ}
use native.Mathlib.Omega.{arith}
use native.Mathlib.Decide.{dec_lt}
use borrow.Author.Tests.{le-leb, lt-leb, lt-ltb, ltb-true, eqb-true}
use lib.ListN.{length, get_or, take, length-take, length-set}
use lib.Seq.{get_or-set_same, get_or-set_other}
use lib.Dec.{leb, ltb, eqb}
use Rattle.rules.specs.Bytes.{choose, bytes}
use Rattle.rules.specs.Outcome.{EINVAL, EFAULT, E2BIG, Outcome, refuse_with, accept, reset_with, need◌else◌⨾◌, present◌else◌⨾◌, Answer, result}
use Rattle.rules.proofs.Checks.{passes, Comes, need-comes, present-comes}
use Rattle.rules.proofs.Codec.{number-bytes}
use Rattle.xive_rules.specs.Words.{word_in, kind_in, level_in, priority_in, server_in, mask_in, effective_in, targeting_word}
use Rattle.xive_rules.specs.Sources.{ENOENT, Limits, Source, Sources, with_source, initial, targeted, initialises, targets, on_source, leaves, Ask, initialise, target, sync, reading, outcome, Call, step, fresh, values_of, source_at, reads}
use Rattle.xive_rules.proofs.Looks.{finding}

abbrev pub call : Ask → List ℕ → Call
call ask b = record { ask = ask; payload = b }

-- what is asked, by its number
abbrev pub number_of : Ask → ℕ
number_of (initialise n) = n
number_of (target n) = n
number_of (sync n) = n
number_of (reading n) = n

-- ---- every answer: a code that the ticket names for this call, count 0, the payload as it was; a refusal leaves every
-- source; an accepted call leaves all sources but its own, and how many there are
abbrev pub codes_of : Ask → List ℕ
codes_of (initialise n) = EFAULT ∷ E2BIG ∷ []
codes_of (target n) = EFAULT ∷ ENOENT ∷ EINVAL ∷ []
codes_of (sync n) = ENOENT ∷ EINVAL ∷ []
codes_of (reading n) = ENOENT ∷ EINVAL ∷ []

-- all sources but this one stay
abbrev pub OthersStay : ℕ → Sources → Sources → Type 0
OthersStay n s next = (length next ≡ length s) × ((m : ℕ) → (m ≡ n → ⊥) → get_or next m none ≡ get_or s m none)

one_set : (s : Sources) (n : ℕ) (x : Source) → OthersStay n s (with_source n x s)
one_set s n x = (length-set s n (some x), λ m h. get_or-set_other s n m (some x) none h)

none-set : (s : Sources) (n : ℕ) → OthersStay n s s
none-set s n = (refl, λ m h. refl)

-- no call is refused part-way
abbrev pub Never : ℕ → ℕ → ℕ → Type 0
Never code place further = ⊥

module _ (s : Sources) (n : ℕ) (codes : List ℕ) where
  abbrev Refuses : ℕ → ℕ → Type 0
  Refuses code count = Memᴰ code codes × (count ≡ 0)

  abbrev Accepts : ℕ → Sources → List ℕ → Type 0
  Accepts count next written = (count ≡ 0) × (written ≡ []) × OthersStay n s next

  abbrev Known : Outcome Sources → Type 0
  Known = Comes Refuses Accepts Never

  needs : (t : Bool) (code : ℕ) (o : Outcome Sources) → Memᴰ code codes → Known o → Known (need t else code ⨾ o)
  needs t code o k h = need-comes Refuses Accepts Never t code o (k, refl) (λ e. h)

  known_on : (L : Limits) (rest : Source → Outcome Sources) → Memᴰ ENOENT codes → Memᴰ EINVAL codes → ((x : Source) → Known (rest x))
      → Known (on_source L s n rest)
  unfolding on_source
  known_on L rest k l h =
      needs (ltb n L.sources) ENOENT _ k (present-comes Refuses Accepts Never (get_or s n none) EINVAL rest (l, refl) (λ x e. h x))

first : {a : ℕ} {l : List ℕ} → Memᴰ a (a ∷ l)
first = Memᴰ.head refl

second : {a b : ℕ} {l : List ℕ} → Memᴰ a (b ∷ a ∷ l)
second = Memᴰ.tail first

third : {a b c : ℕ} {l : List ℕ} → Memᴰ a (b ∷ c ∷ a ∷ l)
third = Memᴰ.tail second

known : (L : Limits) (s : Sources) (ask : Ask) (b : List ℕ) → Known s (number_of ask) (codes_of ask) (outcome L s ask b)
unfolding outcome initialises targets leaves
known L s (initialise n) b = needs s n _ _ EFAULT _ first (needs s n _ _ E2BIG _ second (refl, refl, one_set s n _))
known L s (target n) b =
    needs s n _ _ EFAULT _ first (known_on s n _ L _ second third (λ x. needs s n _ _ EINVAL _ third (refl, refl, one_set s n _)))
known L s (sync n) b = known_on s n _ L _ first second (λ x. (refl, refl, none-set s n))
known L s (reading n) b = known_on s n _ L _ first second (λ x. (refl, refl, none-set s n))

pub record EveryAnswer (s : Sources) (c : Call) (a : Answer Sources) : Type 0 where
  pub code : Memᴰ a.code (0 ∷ codes_of c.ask)
  pub count : a.count ≡ 0
  pub further : a.further ≡ 0
  pub payload : a.buffer ≡ c.payload
  pub refused : (a.code ≡ 0 → ⊥) → a.next ≡ s
  pub others : OthersStay (number_of c.ask) s a.next

pub every-answer : (L : Limits) (s : Sources) (c : Call) → EveryAnswer s c (step L s c)
unfolding step result
every-answer L s c = told (outcome L s c.ask c.payload) (known L s c.ask c.payload)
  where
    told : (o : Outcome Sources) → Known s (number_of c.ask) (codes_of c.ask) o → EveryAnswer s c (result (fresh L) s c.payload o)
    told (refuse_with code count) h =
        record { code = Memᴰ.tail h.0; count = h.1; further = refl; payload = refl; refused = λ k. refl; others = none-set s (number_of c.ask) }
    told (accept count next written) h =
        record { code = first; count = h.0; further = refl; payload = rw h.1; refused = λ k. absurd (k refl); others = h.2 }
    told (reset_with code place further) h = absurd h

-- ---- sync changes nothing, and a reading nothing
left_alone : (L : Limits) (s : Sources) (b : List ℕ) (t : Bool) (o : Option Source)
    → (result (fresh L) s b (need t else ENOENT ⨾ present o else EINVAL ⨾ λ x. accept 0 s [])).next ≡ s
unfolding result need◌else◌⨾◌ present◌else◌⨾◌
left_alone L s b false o = refl
left_alone L s b true none = refl
left_alone L s b true (some x) = refl

pub nothing-changes : (L : Limits) (s : Sources) (n : ℕ) (b : List ℕ) → ((step L s (call (sync n) b)).next ≡ s) × ((step L s (call (reading n) b)).next ≡ s)
unfolding step outcome leaves on_source
nothing-changes L s n b = let e = left_alone L s b (ltb n L.sources) (get_or s n none) in (e, e)

-- ---- payload bytes past the eighth decide nothing: payloads that begin with the same eight bytes, or the same fewer,
-- come to the same
eighth : (b c : List ℕ) → take 8 b ≡ take 8 c → leb 8 (length b) ≡ leb 8 (length c)
eighth b c h =
    let e : min 8 (length b) ≡ min 8 (length c) = sym (length-take 8 b) ∙ ap length h ∙ length-take 8 c in
    same_test (length b) (length c) e
  where
    same_test : (m n : ℕ) → min 8 m ≡ min 8 n → leb 8 m ≡ leb 8 n
    same_test m n e = elim (dec_lt m 8) [
      | yes p ↦ lt-leb 8 m p ∙ sym (lt-leb 8 n (omega arith))
      | no p ↦ le-leb 8 m (omega arith) ∙ sym (le-leb 8 n (omega arith))
    ]

pub past-eighth : (L : Limits) (s : Sources) (ask : Ask) (b c : List ℕ) → take 8 b ≡ take 8 c → outcome L s ask b ≡ outcome L s ask c
unfolding outcome initialises targets
past-eighth L s (initialise n) b c h = rw (eighth b c h, h)
past-eighth L s (target n) b c h = rw (eighth b c h, h)
past-eighth L s (sync n) b c h = refl
past-eighth L s (reading n) b c h = refl

-- ---- unused bits decide nothing: initialising words that agree in type and level come to the same, and so do those of
-- two MSIs, whatever their level bits
level-same : (t : Bool) (l m : ℕ) → (t ≡ true → l ≡ m) → choose t l 0 ≡ choose t m 0
unfolding choose
level-same true l m h = h refl
level-same false l m h = refl

same-initial : (v w : ℕ) → kind_in v ≡ kind_in w → (kind_in v ≡ 1 → level_in v ≡ level_in w) → initial v ≡ initial w
unfolding initial
same-initial v w k h = rw (← k, level-same (eqb (kind_in v) 1) (level_in v) (level_in w) (λ e. h (eqb-true (kind_in v) 1 e)))

pub unused-bits : (L : Limits) (s : Sources) (n : ℕ) (b c : List ℕ) → length b ≡ length c → kind_in (word_in b) ≡ kind_in (word_in c)
    → (kind_in (word_in b) ≡ 1 → level_in (word_in b) ≡ level_in (word_in c)) → outcome L s (initialise n) b ≡ outcome L s (initialise n) c
unfolding outcome initialises
unused-bits L s n b c e k h = rw (e, same-initial (word_in b) (word_in c) k h)

-- ---- what is accepted, and what is read then
pub initialise-accepted : (L : Limits) (s : Sources) (n : ℕ) (b : List ℕ) → 8 ≤ length b → n < L.sources
    → outcome L s (initialise n) b ≡ accept 0 (with_source n (initial (word_in b)) s) []
unfolding outcome initialises
initialise-accepted L s n b h k = passes _ _ _ (le-leb 8 (length b) h) ∙ passes _ _ _ (lt-ltb n L.sources k)

pub target-accepted : (L : Limits) (s : Sources) (n : ℕ) (b : List ℕ) (x : Source) → 8 ≤ length b → source_at L s n ≡ some x → server_in (word_in b) < L.servers
    → outcome L s (target n) b ≡ accept 0 (with_source n (targeted (word_in b) x) s) []
unfolding outcome targets
target-accepted L s n b x h e k =
    passes _ _ _ (le-leb 8 (length b) h) ∙ finding L s n _ x e ∙ passes _ _ _ (lt-ltb (server_in (word_in b)) L.servers k)

pub not_some : {X A : Type 0} (x : X) → none ≡ some x → A
not_some x h = absurd (true≢false (let z : true ≡ false = cc in z))

pub initialise-leaves : (L : Limits) (s : Sources) (n : ℕ) (b : List ℕ) → 8 ≤ length b → n < L.sources
    → (step L s (call (initialise n) b)).next ≡ with_source n (initial (word_in b)) s
unfolding step result
initialise-leaves L s n b h k = rw (initialise-accepted L s n b h k)

pub target-leaves : (L : Limits) (s : Sources) (n : ℕ) (b : List ℕ) (x : Source) → 8 ≤ length b → source_at L s n ≡ some x → server_in (word_in b) < L.servers
    → (step L s (call (target n) b)).next ≡ with_source n (targeted (word_in b) x) s
unfolding step result
target-leaves L s n b x h e k = rw (target-accepted L s n b x h e k)

-- the place of a source that is there
within : (s : Sources) (n : ℕ) (x : Source) → get_or s n none ≡ some x → n < length s
within [] n x h = not_some x h
within (y ∷ s) zero x h = omega arith
within (y ∷ s) (suc n) x h = omega (arith, within s n x h)

pub place_of : (L : Limits) (s : Sources) (n : ℕ) (x : Source) → source_at L s n ≡ some x → (n < L.sources) × (n < length s)
unfolding source_at choose
place_of L s n x h = by-test (ltb n L.sources) refl h
  where
    by-test : (t : Bool) → ltb n L.sources ≡ t → choose t (get_or s n none) none ≡ some x → (n < L.sources) × (n < length s)
    by-test true e k = (ltb-true n L.sources e, within s n x k)
    by-test false e k = not_some x k

pub at_set : (L : Limits) (s : Sources) (n : ℕ) (x : Source) → (n < L.sources) × (n < length s) → source_at L (with_source n x s) n ≡ some x
unfolding source_at choose
at_set L s n x h = rw (lt-ltb n L.sources h.0) (get_or-set_same s n (some x) none h.1)

-- 'A source is masked from initialising', 'initialising again drops the targeting', 'level is kept for an LSI and 0 for
-- an MSI'
pub initialise-masks : (L : Limits) (s : Sources) (n : ℕ) (b : List ℕ) → 8 ≤ length b → n < L.sources → n < length s
    → reads L (step L s (call (initialise n) b)).next n
    ≡ record { level = choose (eqb (kind_in (word_in b)) 1) (level_in (word_in b)) 0; kind = kind_in (word_in b); masked = true; word = 0 }
unfolding values_of initial
initialise-masks L s n b h k m = rw (initialise-leaves L s n b h k) (ap values_of (at_set L s n (initial (word_in b)) (k, m)))

-- '.. until it is targeted'; type and level stay; the word is read back, whatever it is: there is no premise on its
-- mask bit, and it may be 0
pub target-unmasks : (L : Limits) (s : Sources) (n : ℕ) (b : List ℕ) (x : Source) → 8 ≤ length b → source_at L s n ≡ some x → server_in (word_in b) < L.servers
    → reads L (step L s (call (target n) b)).next n ≡ record { level = x.level; kind = x.kind; masked = false; word = word_in b }
unfolding values_of targeted
target-unmasks L s n b x h e k = rw (target-leaves L s n b x h e k) (ap values_of (at_set L s n (targeted (word_in b) x) (place_of L s n x e)))

-- a word of 64 bits as a monitor gives it, big-endian
pub given_word : (w : ℕ) → w < 18446744073709551616 → word_in (bytes 8 w) ≡ w
unfolding bytes
given_word w h = number-bytes 8 w h

-- a targeting word is its four fields, and nothing else
low_half : (w : ℕ) → server_in w * 8 + priority_in w ≡ w % 4294967296
low_half w = omega arith

high_half : (w : ℕ) → w < 18446744073709551616 → effective_in w * 8589934592 + mask_in w * 4294967296 + w % 4294967296 ≡ w
high_half w h = omega arith

pub fields-whole : (w : ℕ) → w < 18446744073709551616 → targeting_word (priority_in w) (server_in w) (mask_in w) (effective_in w) ≡ w
fields-whole w h = sums _ _ _ _ _ _ (low_half w) (high_half w h)
  where
    sums : (a b c d e f : ℕ) → c + d ≡ e → a + b + e ≡ f → a + b + c + d ≡ f
    sums a b c d e f p q = omega arith

-- a reading that is refused gives 0 and false
pub refused-reads : (L : Limits) (s : Sources) (n : ℕ) (b : List ℕ) → ((step L s (call (reading n) b)).code ≡ 0 → ⊥)
    → reads L s n ≡ record { level = 0; kind = 0; masked = false; word = 0 }
unfolding step outcome leaves result values_of
refused-reads L s n b h = ap values_of (nothing (source_at L s n) refl)
  where
    nothing : (o : Option Source) → source_at L s n ≡ o → o ≡ none
    nothing none e = refl
    nothing (some x) e = absurd (h (rw (finding L s n (λ y. accept 0 s []) x e)))
