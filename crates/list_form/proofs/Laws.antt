-- Laws of a list's table: one entry more, where it stops, and that every payload lies within the list.
use Rattle.numbers.proofs.Basics.{◌≡◌, refl, Bool, true, false, ◌&&◌, List, [], ◌∷◌, ℕ, zero, suc, ◌+◌, ◌-◌, ◌*◌, ◌≤◌}
use Rattle.numbers.proofs.Basics.{◌<◌, not-suc-le-zero, le_of_suc-le-suc, arith, length, drop, drop-drop, leb, eqb}
use Rattle.numbers.proofs.Basics.{◌∙◌, eqb-true, leb-true, lt-leb, le-leb, eq-eqb, ne_eqb}
use Rattle.std.specs.Prelude.{Ok, Err}
use Rattle.answers.specs.declared.Refusal.{Refusal}
use Rattle.answers.specs.declared.Refusal.TheVariants.{Fault, Invalid, TooBig, NotSupported}
use Rattle.answers.specs.Answers.{code_of}
use Rattle.rules.specs.{Bytes.field, Requests.is_zero, State.Limits, State.State, State.fresh, Outcome.EINVAL, Outcome.EOPNOTSUPP, Outcome.refuse, Outcome.need◌else◌⨾◌}
use Rattle.rules.specs.MoveList.{one_if, header_bytes, table_entry_bytes, total_in, count_in, table_offset_in, payload_offset_in, payload_offset, ais_flag_in, TableEntry, table_entry_in, table_entries_in, movable, formed, requests_in, applies, most_requests, plays}
use Rattle.rules.proofs.Checks.{left, right, passes, fails}
use Rattle.list_form.specs.Form.{slot_at, slots_of, slot_formed, Formed, Form}

-- a field behind e bytes
pub inside : (e k n : ℕ) (b : List ℕ) → field (e + k) n b ≡ field k n (drop e b)
inside e k n b = rw (drop-drop k e b)

-- the words of a table entry
pub group-at : (place : ℕ) (b : List ℕ) → field (20 + 24 * place + 4) 4 b ≡ (slot_at place b).group
group-at place b = inside (20 + 24 * place) 4 4 b

pub zero-word-at : (place : ℕ) (b : List ℕ) → field (20 + 24 * place + 12) 4 b ≡ (slot_at place b).zero_word
zero-word-at place b = inside (20 + 24 * place) 12 4 b

pub ruleset words = (group-at, zero-word-at)

size-at : (place : ℕ) (b : List ℕ) → field (28 + 24 * place) 4 b ≡ (slot_at place b).size
size-at place b = let e : 28 + 24 * place ≡ 20 + 24 * place + 8 = omega arith in rw e (inside (20 + 24 * place) 8 4 b)

-- the entries of the table from a place on
abbrev pub slots_from : ℕ → ℕ → List ℕ → List TableEntry
slots_from place n b = table_entries_in (n - place) (drop (header_bytes + table_entry_bytes * place) b)

pub next-slot : (place n : ℕ) (b : List ℕ) → place < n → slots_from place n b ≡ slot_at place b ∷ slots_from (place + 1) n b
unfolding table_entries_in
next-slot place n b h =
    let e : n - place ≡ suc (n - (place + 1)) = omega arith in
    let f : header_bytes + table_entry_bytes * place + table_entry_bytes ≡ header_bytes + table_entry_bytes * (place + 1) = omega arith in
    rw (e, drop-drop table_entry_bytes (header_bytes + table_entry_bytes * place) b, f)

pub last-slot : (place n : ℕ) (b : List ℕ) → n ≤ place → slots_from place n b ≡ []
unfolding table_entries_in
last-slot place n b h = let e : n - place ≡ 0 = omega arith in rw e

pub slots-all : (n : ℕ) (b : List ℕ) → slots_from 0 n b ≡ table_entries_in n (drop header_bytes b)
slots-all n b = let e : n - 0 ≡ n = omega arith in rw e

-- a turn of the check, where an entry passes and where it does not
not-both : (a b c d : Bool) → (a && (b && c)) ≡ false → (a && (b && (c && d))) ≡ false
not-both true true true d h = cc
not-both true true false d h = refl
not-both true false c d h = refl
not-both false b c d h = refl

module _ (end at place n : ℕ) (b : List ℕ) (h : place < n) where
  pub formed-next : slot_formed at (slot_at place b) ≡ true
      → formed end at (slots_from place n b) ≡ formed end (at + field (28 + 24 * place) 4 b) (slots_from (place + 1) n b)
  unfolding formed
  formed-next e =
      let r = right (eqb (slot_at place b).at at) _ e in
      rw (size-at place b, next-slot place n b h, left (eqb (slot_at place b).at at) _ e, left (is_zero (slot_at place b).zero_word) _ r, right (is_zero (slot_at place b).zero_word) _ r)

  pub formed-stops : slot_formed at (slot_at place b) ≡ false → formed end at (slots_from place n b) ≡ false
  unfolding formed
  formed-stops e = rw (next-slot place n b h) (not-both (eqb (slot_at place b).at at) (is_zero (slot_at place b).zero_word) (movable (slot_at place b).group) _ e)

pub formed-ends : (end at place n : ℕ) (b : List ℕ) → n ≤ place → formed end at (slots_from place n b) ≡ eqb at end
unfolding formed
formed-ends end at place n b h = rw (last-slot place n b h)

pub ruleset turns = (formed-next, formed-stops, formed-ends)

-- what a well-formed table says of its first entry, and of the rest
parts : (end at : ℕ) (e : TableEntry) (es : List TableEntry) → formed end at (e ∷ es) ≡ true
    → (e.at ≡ at) × (movable e.group ≡ true) × (formed end (at + e.size) es ≡ true)
unfolding formed
parts end at e es h =
    let r = right (is_zero e.zero_word) _ (right (eqb e.at at) _ h) in
    (eqb-true e.at at (left (eqb e.at at) _ h), left (movable e.group) _ r, right (movable e.group) _ r)

reaches : (end at : ℕ) (es : List TableEntry) → formed end at es ≡ true → at ≤ end
unfolding formed
reaches end at [] h = let e = eqb-true at end h in omega arith
reaches end at (e ∷ es) h = let r = reaches end (at + e.size) es (parts end at e es h).2 in omega arith

within : (end at n place : ℕ) (b : List ℕ) → place < n → formed end at (table_entries_in n b) ≡ true
    → ((table_entry_in (drop (table_entry_bytes * place) b)).at + (table_entry_in (drop (table_entry_bytes * place) b)).size ≤ end) × (movable (table_entry_in (drop (table_entry_bytes * place) b)).group ≡ true)
unfolding table_entries_in
within end at zero place b p h = absurd (not-suc-le-zero p)
within end at (suc n) zero b p h =
    let t = parts end at (table_entry_in b) (table_entries_in n (drop table_entry_bytes b)) h in
    let r = reaches end (at + (table_entry_in b).size) (table_entries_in n (drop table_entry_bytes b)) t.2 in
    (omega arith, t.1)
within end at (suc n) (suc place) b p h =
    let e : table_entry_bytes * suc place ≡ table_entry_bytes + table_entry_bytes * place = omega arith in
    rw (e, ← drop-drop (table_entry_bytes * place) table_entry_bytes b)
    (within end (at + (table_entry_in b).size) n place (drop table_entry_bytes b) (le_of_suc-le-suc p) (parts end at (table_entry_in b) _ h).2)

-- the payload of a table entry lies within the list, and its group may be moved
pub slot-within : (b : List ℕ) (place : ℕ) → Formed b → place < count_in b
    → ((slot_at place b).at + (slot_at place b).size ≤ length b) × (movable (slot_at place b).group ≡ true)
slot-within b place h p =
    rw (← drop-drop (table_entry_bytes * place) header_bytes b) (within (length b) (payload_offset (count_in b)) (count_in b) place (drop header_bytes b) p h.slots)

-- what the offsets say where they pass
pub offsets-say : (t : Bool) (x y n : ℕ) → (t && (eqb x y && leb x n)) ≡ true → (x ≡ y) × (y ≤ n)
offsets-say t x y n h =
    let k = right t _ h in
    let e = eqb-true x y (left (eqb x y) _ k) in
    (e, omega (arith, leb-true x n (right (eqb x y) _ k)))

-- ---- the checks of a list in order: what is answered where the first fails, the second, .., and where all pass
abbrev offsets_of : List ℕ → Bool
offsets_of b = eqb (table_offset_in b) header_bytes && (eqb (payload_offset_in b) (payload_offset (count_in b)) && leb (payload_offset_in b) (length b))

abbrev well_formed : List ℕ → Bool
well_formed b = formed (length b) (payload_offset (count_in b)) (slots_of b)

module _ (ais : Bool) (b : List ℕ) where
  pub refused-with : (refusal : Refusal) → ((L : Limits) (s : State) → s.ais ≡ ais → plays L s b ≡ refuse (code_of refusal)) → Form ais b (Err refusal)
  refused-with refusal f = record { good = tt; played = tt; refused = f }

  pub short : length b < header_bytes → Form ais b (Err Fault)
  unfolding plays need◌else◌⨾◌
  short h = refused-with Fault (λ L s e. rw (lt-leb header_bytes (length b) h))

  module _ (long : header_bytes ≤ length b) where
    pub other_total : (total_in b ≡ length b → ⊥) → Form ais b (Err Invalid)
    unfolding plays need◌else◌⨾◌
    other_total h = refused-with Invalid (λ L s e. rw (le-leb header_bytes (length b) long, ne_eqb (total_in b) (length b) h))

    module _ (total : total_in b ≡ length b) where
      pub no_flag : 1 < ais_flag_in b → Form ais b (Err Invalid)
      unfolding plays need◌else◌⨾◌
      no_flag h = refused-with Invalid (λ L s e. rw (le-leb header_bytes (length b) long, eq-eqb (total_in b) (length b) total, lt-leb (ais_flag_in b) 1 h))

      module _ (flag : ais_flag_in b ≤ 1) where
        pub many : most_requests < count_in b → Form ais b (Err TooBig)
        unfolding plays need◌else◌⨾◌
        many h =
            refused-with TooBig
            (λ L s e. rw (le-leb header_bytes (length b) long, eq-eqb (total_in b) (length b) total, le-leb (ais_flag_in b) 1 flag, lt-leb (count_in b) most_requests h))

        module _ (few : count_in b ≤ most_requests) where
          past : (L : Limits) (s : State)
              → plays L s b ≡ (need offsets_of b else EINVAL ⨾ need formed (length b) (payload_offset_in b) (slots_of b) else EINVAL ⨾
              need eqb (ais_flag_in b) (one_if s.ais) else EOPNOTSUPP ⨾ applies L 0 (fresh L s.ais) (requests_in b (slots_of b)))
          unfolding plays need◌else◌⨾◌
          past L s = rw (le-leb header_bytes (length b) long, eq-eqb (total_in b) (length b) total, le-leb (ais_flag_in b) 1 flag, le-leb (count_in b) most_requests few)

          pub no_offsets : offsets_of b ≡ false → Form ais b (Err Invalid)
          no_offsets h = refused-with Invalid (λ L s e. past L s ∙ fails _ _ _ h)

          module _ (o : offsets_of b ≡ true) where
            start : (payload_offset_in b ≡ payload_offset (count_in b)) × (payload_offset (count_in b) ≤ length b)
            start = offsets-say (eqb (table_offset_in b) header_bytes) (payload_offset_in b) (payload_offset (count_in b)) (length b) o

            past-offsets : (L : Limits) (s : State)
                → plays L s b ≡ (need well_formed b else EINVAL ⨾ need eqb (ais_flag_in b) (one_if s.ais) else EOPNOTSUPP ⨾
                applies L 0 (fresh L s.ais) (requests_in b (slots_of b)))
            past-offsets L s = past L s ∙ passes _ _ _ o ∙ rw start.0

            pub ill_formed : well_formed b ≡ false → Form ais b (Err Invalid)
            ill_formed h = refused-with Invalid (λ L s e. past-offsets L s ∙ fails _ _ _ h)

            module _ (slots : well_formed b ≡ true) where
              onwards : (L : Limits) (s : State) → plays L s b ≡ (need eqb (ais_flag_in b) (one_if s.ais) else EOPNOTSUPP ⨾ applies L 0 (fresh L s.ais) (requests_in b (slots_of b)))
              onwards L s = past-offsets L s ∙ passes _ _ _ slots

              pub not_capable : (ais_flag_in b ≡ one_if ais → ⊥) → Form ais b (Err NotSupported)
              not_capable h = refused-with NotSupported (λ L s e. onwards L s ∙ fails _ _ _ (rw e (ne_eqb _ _ h)))

              pub good_form : ais_flag_in b ≡ one_if ais → Form ais b (Ok tt)
              good_form h = record {
                good = record { few = few; table = start.1; slots = slots };
                played = λ L s e. onwards L s ∙ passes _ _ _ (rw e (eq-eqb _ _ h)) ∙ rw e;
                refused = tt;
              }
