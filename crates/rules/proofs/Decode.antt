-- A move list as written reads back: the header, the table and the payloads say the entries that they were written from.
use Prim.Native.Nat.{ℕ, ◌+◌, ◌*◌, ◌^◌, ◌≤◌, ◌<◌}
use mathlib.Core.Path.{◌≡◌, refl, sym, ap, ◌∙◌}
use mathlib.Core.Bool.{Bool, true, false}
use mathlib.Core.List.{List, [], ◌∷◌, ◌++◌, append_assoc}
use native.Mathlib.Omega.{arith}
use lib.ListN.{length, drop, length-append}
use lib.Seq.{take_at, drop_at, drop-drop}
use borrow.Author.Tests.{le-leb, eq-eqb}
use Rattle.rules.specs.Bytes.{bytes, part, field}
use Rattle.rules.specs.State.{Limits, State, fresh}
use Rattle.rules.specs.MoveList.{ListRequest, one_if, header_bytes, table_entry_bytes, payloads, written_table, payload_offset, total, move_list, total_in, count_in, table_offset_in, payload_offset_in, ais_flag_in, TableEntry, table_entry_in, table_entries_in, movable, formed, requests_in, applies, most_requests, plays}
use Rattle.rules.proofs.Checks.{passes, both}
use Rattle.rules.specs.Invariant.{All}
use Rattle.rules.proofs.Codec.{length-bytes, field-here, field_past}

-- Four words, a number of w bytes and the rest. The header is such a list with w = 4, a table entry with w = 8.
abbrev five : (w a b c d e : ℕ) → List ℕ → List ℕ
five w a b c d e rest = bytes 4 a ++ (bytes 4 b ++ (bytes 4 c ++ (bytes 4 d ++ (bytes w e ++ rest))))

past : (at n v : ℕ) (rest : List ℕ) → field (4 + at) n (bytes 4 v ++ rest) ≡ field at n rest
past at n v rest = field_past at n 4 (bytes 4 v) rest (length-bytes 4 v)

module _ (w a b c d e : ℕ) (rest : List ℕ) where
  first : a < 2 ^ 32 → field 0 4 (five w a b c d e rest) ≡ a
  first h = field-here 4 a _ h

  second : b < 2 ^ 32 → field 4 4 (five w a b c d e rest) ≡ b
  second h = past 0 4 a _ ∙ field-here 4 b _ h

  third : c < 2 ^ 32 → field 8 4 (five w a b c d e rest) ≡ c
  third h = past 4 4 a _ ∙ past 0 4 b _ ∙ field-here 4 c _ h

  fourth : d < 2 ^ 32 → field 12 4 (five w a b c d e rest) ≡ d
  fourth h = past 8 4 a _ ∙ past 4 4 b _ ∙ past 0 4 c _ ∙ field-here 4 d _ h

  fifth : e < 256 ^ w → field 16 w (five w a b c d e rest) ≡ e
  fifth h = past 12 w a _ ∙ past 8 w b _ ∙ past 4 w c _ ∙ past 0 w d _ ∙ field-here w e _ h

  length-five : length (five w a b c d e rest) ≡ 16 + w + length rest
  length-five = simp (length-append, length-bytes) (omega arith)

  five-append : (more : List ℕ) → five w a b c d e rest ++ more ≡ five w a b c d e (rest ++ more)
  five-append more = simp append_assoc

drop-five : (w a b c d e : ℕ) (rest : List ℕ) → drop (16 + w) (five w a b c d e rest) ≡ rest
drop-five w a b c d e rest =
    rw (← five-append w a b c d e [] rest) (drop_at (five w a b c d e []) rest (16 + w) (length-five w a b c d e [] ∙ omega arith))

-- The slots that stand for entries whose payloads begin at a place.
abbrev pub slot_of : ℕ → ListRequest → TableEntry
slot_of at e = record { at = at; group = e.group; size = length e.payload; zero_word = 0; attr = e.attr }

unfoldable pub slots_of : ℕ → List ListRequest → List TableEntry
slots_of at [] = []
slots_of at (e ∷ es) = slot_of at e ∷ slots_of (at + length e.payload) es

-- What a slot has room for and a played list may ask.
pub record Fits (e : ListRequest) : Type 0 where
  pub moves : movable e.group ≡ true
  pub group : e.group < 2 ^ 32
  pub attr : e.attr < 2 ^ 64

-- lengths, and where the payloads stand
pub length-table : (at : ℕ) (es : List ListRequest) → length (written_table at es) ≡ table_entry_bytes * length es
unfolding written_table
length-table at [] = refl
length-table at (e ∷ es) = length-five 8 _ _ _ _ _ _ ∙ omega (arith, length-table (at + length e.payload) es)

pub length-move_list : (ais : Bool) (es : List ListRequest) → length (move_list ais es) ≡ total es
unfolding move_list
length-move_list ais es = length-five 4 _ _ _ _ _ _ ∙ simp (length-append, length-table) (omega arith)

pub drop-move_list : (ais : Bool) (es : List ListRequest) → drop (payload_offset (length es)) (move_list ais es) ≡ payloads es
unfolding move_list
drop-move_list ais es = rw (← drop-drop (table_entry_bytes * length es) header_bytes, drop-five 4) (drop_at (written_table _ es) _ _ (length-table _ es))

-- a table entry, then a whole table, then what its slots say
slot-back : (s : TableEntry) → s.at < 2 ^ 32 → s.group < 2 ^ 32 → s.size < 2 ^ 32 → s.zero_word < 2 ^ 32 → s.attr < 2 ^ 64
    → (rest : List ℕ) → table_entry_in (five 8 s.at s.group s.size s.zero_word s.attr rest) ≡ s
slot-back s p q r z t rest =
    rw (first 8 _ _ _ _ _ _ p, second 8 _ _ _ _ _ _ q, third 8 _ _ _ _ _ _ r, fourth 8 _ _ _ _ _ _ z, fifth 8 _ _ _ _ _ _ t)

slots-table : (at : ℕ) (es : List ListRequest) (more : List ℕ) → All Fits es → at + length (payloads es) < 2 ^ 32
    → table_entries_in (length es) (written_table at es ++ more) ≡ slots_of at es
unfolding written_table table_entries_in slots_of payloads
slots-table at [] more f h = refl
slots-table at (e ∷ es) more (f, fs) h =
    let size = length e.payload in
    let bound : at + size + length (payloads es) < 2 ^ 32 = omega (arith, length-append e.payload (payloads es)) in
    let here = slot-back (slot_of at e) (omega arith) f.group (omega arith) (omega arith) f.attr in
    rw (five-append, drop-five 8, here, slots-table (at + size) es more fs bound)

formed-slots : (end at : ℕ) (es : List ListRequest) → All Fits es → at + length (payloads es) ≡ end → formed end at (slots_of at es) ≡ true
unfolding formed slots_of payloads
formed-slots end at [] f h = eq-eqb at end (omega arith)
formed-slots end at (e ∷ es) (f, fs) h =
    rw (eq-eqb at at refl, f.moves, formed-slots end (at + length e.payload) es fs (omega (arith, length-append e.payload (payloads es))))

entries-slots : (b : List ℕ) (at : ℕ) (es : List ListRequest) → drop at b ≡ payloads es → requests_in b (slots_of at es) ≡ es
unfolding requests_in slots_of payloads
entries-slots b at [] h = refl
entries-slots b at (e ∷ es) h =
    let size = length e.payload in
    let here : part at size b ≡ e.payload = rw h (take_at e.payload (payloads es) size refl) in
    let rest : drop (at + size) b ≡ payloads es = rw (← drop-drop size at b, h) (drop_at e.payload (payloads es) size refl) in
    rw (here, entries-slots b (at + size) es rest)

pub flag-le : (ais : Bool) → one_if ais ≤ 1
flag-le true = omega arith
flag-le false = omega arith

-- the table's slots in a list
abbrev pub slots_there : List ℕ → List TableEntry
slots_there b = table_entries_in (count_in b) (drop header_bytes b)

-- The written list. Its total fits a word, so every other word of the header does.
module _ (ais : Bool) (es : List ListRequest) (h : total es < 2 ^ 32) where
  pub total-written : total_in (move_list ais es) ≡ total es
  unfolding move_list
  total-written = first 4 _ _ _ _ _ _ h

  pub count-written : count_in (move_list ais es) ≡ length es
  unfolding move_list
  count-written = second 4 _ _ _ _ _ _ (omega arith)

  pub table-written : table_offset_in (move_list ais es) ≡ header_bytes
  unfolding move_list
  table-written = third 4 _ _ _ _ _ _ (omega arith)

  pub payloads-written : payload_offset_in (move_list ais es) ≡ payload_offset (length es)
  unfolding move_list
  payloads-written = fourth 4 _ _ _ _ _ _ (omega arith)

  pub flag-written : ais_flag_in (move_list ais es) ≡ one_if ais
  unfolding move_list
  flag-written = fifth 4 _ _ _ _ _ _ (omega (arith, flag-le ais))

  module _ (fit : All Fits es) where
    pub slots-written : slots_there (move_list ais es) ≡ slots_of (payload_offset (length es)) es
    unfolding move_list
    slots-written = rw (count-written, drop-five 4) (slots-table (payload_offset (length es)) es (payloads es) fit h)

    pub formed-written : formed (length (move_list ais es)) (payload_offset_in (move_list ais es)) (slots_there (move_list ais es)) ≡ true
    formed-written = rw (slots-written, payloads-written) (formed-slots _ _ es fit (sym (length-move_list ais es)))

    pub entries-written : requests_in (move_list ais es) (slots_there (move_list ais es)) ≡ es
    entries-written = rw slots-written (entries-slots (move_list ais es) _ es (drop-move_list ais es))

-- Playing a written list passes every check and applies the entries that were written.
pub reads-back : (L : Limits) (t : State) (ais : Bool) (es : List ListRequest) → t.ais ≡ ais → All Fits es → total es < 2 ^ 32
    → length es ≤ most_requests → plays L t (move_list ais es) ≡ applies L 0 (fresh L ais) es
unfolding plays
reads-back L t ais es a fit h n =
    let b = move_list ais es in
    -- omega reads these
    let size = length-move_list ais es in
    let whole = total-written ais es h in
    let count = count-written ais es h in
    let start = payloads-written ais es h in
    let capable = flag-written ais es h in
    let offsets = both _ _ (eq-eqb (payload_offset_in b) (payload_offset (count_in b)) (omega arith)) (le-leb (payload_offset_in b) (length b) (omega arith)) in
    passes _ _ _ (le-leb header_bytes (length b) (omega arith))
    ∙ passes _ _ _ (eq-eqb (total_in b) (length b) (omega arith))
    ∙ passes _ _ _ (le-leb (ais_flag_in b) 1 (omega (arith, flag-le ais)))
    ∙ passes _ _ _ (le-leb (count_in b) most_requests (omega arith))
    ∙ passes _ _ _ (both _ _ (eq-eqb _ _ (table-written ais es h)) offsets)
    ∙ passes _ _ _ (formed-written ais es h fit)
    ∙ passes _ _ _ (eq-eqb _ _ (capable ∙ ap one_if (sym a)))
    ∙ rw (a, entries-written ais es h fit)
