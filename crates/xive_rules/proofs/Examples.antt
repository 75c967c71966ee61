-- Examples of paper 02, ticket 1, from 002's layouts, by computation: each line is a call on what the lines before it
-- left of fresh sources, and what its caller must see. Payloads are written out byte by byte. At the end the fields of
-- targeting words.
use Prim.Native.Nat.{ℕ, ◌+◌, ◌^◌}
use mathlib.Core.Path.{◌≡◌, refl}
use mathlib.Core.Bool.{Bool, true, false}
use mathlib.Core.List.{List, [], ◌∷◌, map}
use Rattle.rules.specs.Bytes.{choose, number}
use Rattle.rules.specs.Outcome.{need◌else◌⨾◌, present◌else◌⨾◌, result, Seen, seen}
use Rattle.xive_rules.specs.Words.{priority_in, server_in, mask_in, effective_in, targeting_word}
use Rattle.xive_rules.specs.Sources.{ticket_limits, Sources, fresh, initial, targeted, initialises, targets, on_source, leaves, Ask, initialise, target, sync, reading, outcome, step, Values, values_of, source_at, reads}

pub data Label : Type 0 where
  fresh_sources levels unused_bits first_source last_source wide_number last_server all_of_server lengths order word_zero mask_bit whole_word : Label
  again_as_msi again refused_keeps sync_keeps reading_keeps : Label

pub record Line : Type 0 where
  pub ask : Ask
  pub payload : List ℕ
  pub code : ℕ
  pub values : Values

-- what a call that is no reading gives, and a reading that is refused
unfoldable pub unread : Values
unread = record { level = 0; kind = 0; masked = false; word = 0 }

-- a call with this payload is answered with this code
unfoldable pub gets : Ask → List ℕ → ℕ → Line
gets ask b code = record { ask = ask; payload = b; code = code; values = unread }

-- a source is read: level, type, masked, word
unfoldable pub shows : ℕ → ℕ → ℕ → Bool → ℕ → Line
shows n level kind masked word =
    record { ask = reading n; payload = []; code = 0; values = record { level = level; kind = kind; masked = masked; word = word } }

pub record Example : Type 0 where
  pub label : Label
  pub lines : List Line

-- what the callers see of a list of calls: code, count and payload, and what is read
pub record Sight : Type 0 where
  pub seen : Seen
  pub values : Values

pub record Outlook : Type 0 where
  pub label : Label
  pub sights : List Sight

unfoldable pub gives : Sources → Ask → Values
gives s (initialise n) = unread
gives s (target n) = unread
gives s (sync n) = unread
gives s (reading n) = reads ticket_limits s n

unfoldable pub play : Sources → List Line → List Sight
play s [] = []
play s (l ∷ ls) =
    let a = step ticket_limits s (record { ask = l.ask; payload = l.payload }) in
    record { seen = seen a; values = gives s l.ask } ∷ play a.next ls

unfoldable pub given : Example → Outlook
given e = record { label = e.label; sights = play (fresh ticket_limits) e.lines }

unfoldable pub expected_of : Line → Sight
expected_of l = record { seen = record { code = l.code; count = 0; further = 0; buffer = l.payload }; values = l.values }

unfoldable pub expected : Example → Outlook
expected e = record { label = e.label; sights = map expected_of e.lines }

-- words of 002, group 2: an MSI; an LSI, its level 0 and 1
unfoldable pub msi : List ℕ
msi = 0 ∷ 0 ∷ 0 ∷ 0 ∷ 0 ∷ 0 ∷ 0 ∷ 0 ∷ []

unfoldable pub lsi_low : List ℕ
lsi_low = 0 ∷ 0 ∷ 0 ∷ 0 ∷ 0 ∷ 0 ∷ 0 ∷ 1 ∷ []

unfoldable pub lsi_high : List ℕ
lsi_high = 0 ∷ 0 ∷ 0 ∷ 0 ∷ 0 ∷ 0 ∷ 0 ∷ 3 ∷ []

-- a word of 002, group 3: effective number 0x1234, server 2, priority 5
unfoldable pub aimed : List ℕ
aimed = 0 ∷ 0 ∷ 0x24 ∷ 0x68 ∷ 0 ∷ 0 ∷ 0 ∷ 0x15 ∷ []

unfoldable pub examples : List Example
examples =
    record {
      label = fresh_sources;
      lines = gets (reading 0) [] 22 ∷ gets (sync 1023) [] 22 ∷ gets (target 7) aimed 22 ∷ gets (reading 7) [] 22 ∷ [];
    }
    ∷ record {
      label = levels;
      lines =
          gets (initialise 0) lsi_high 0
          ∷ shows 0 1 1 true 0
          ∷ gets (initialise 0) lsi_low 0
          ∷ shows 0 0 1 true 0
          ∷ gets (initialise 0) (0 ∷ 0 ∷ 0 ∷ 0 ∷ 0 ∷ 0 ∷ 0 ∷ 2 ∷ []) 0  -- an MSI with the level bit
          ∷ shows 0 0 0 true 0
          ∷ [];
    }
    ∷ record {
      label = unused_bits;
      lines =
          gets (initialise 3) (255 ∷ 255 ∷ 255 ∷ 255 ∷ 255 ∷ 255 ∷ 255 ∷ 255 ∷ []) 0
          ∷ shows 3 1 1 true 0
          ∷ gets (initialise 3) (255 ∷ 255 ∷ 255 ∷ 255 ∷ 255 ∷ 255 ∷ 255 ∷ 253 ∷ []) 0
          ∷ shows 3 0 1 true 0
          ∷ gets (initialise 3) (128 ∷ 0 ∷ 0 ∷ 0 ∷ 0 ∷ 0 ∷ 0 ∷ 4 ∷ []) 0
          ∷ shows 3 0 0 true 0
          ∷ [];
    }
    ∷ record {
      label = first_source;  -- what is read past the last one is not of the first
      lines =
          gets (initialise 0) lsi_high 0
          ∷ gets (target 0) aimed 0
          ∷ gets (sync 0) [] 0
          ∷ shows 0 1 1 false 0x246800000015
          ∷ gets (reading 1024) [] 2
          ∷ [];
    }
    ∷ record {
      label = last_source;
      lines =
          gets (initialise 1023) lsi_high 0
          ∷ gets (target 1023) aimed 0
          ∷ shows 1023 1 1 false 0x246800000015
          ∷ gets (sync 1023) [] 0
          ∷ gets (initialise 1024) lsi_high 7
          ∷ gets (target 1024) aimed 2
          ∷ gets (sync 1024) [] 2
          ∷ gets (reading 1024) [] 2
          ∷ gets (reading 1022) [] 22  -- its neighbour is not initialised
          ∷ [];
    }
    ∷ record {
      label = wide_number;  -- neither 2^32 + 5 nor 2^63 + 5 is source 5
      lines =
          gets (initialise 5) msi 0
          ∷ gets (initialise (2 ^ 32 + 5)) msi 7
          ∷ gets (target (2 ^ 32 + 5)) aimed 2
          ∷ gets (sync (2 ^ 32 + 5)) [] 2
          ∷ gets (reading (2 ^ 32 + 5)) [] 2
          ∷ gets (initialise (2 ^ 63 + 5)) msi 7
          ∷ gets (target (2 ^ 63 + 5)) aimed 2
          ∷ gets (sync (2 ^ 63 + 5)) [] 2
          ∷ gets (reading (2 ^ 63 + 5)) [] 2
          ∷ shows 5 0 0 true 0
          ∷ [];
    }
    ∷ record {
      label = last_server;  -- server 15, priority 7; then server 16, priority 0
      lines =
          gets (initialise 9) msi 0
          ∷ gets (target 9) (0 ∷ 0 ∷ 0 ∷ 0 ∷ 0 ∷ 0 ∷ 0 ∷ 0x7f ∷ []) 0
          ∷ shows 9 0 0 false 0x7f
          ∷ gets (target 9) (0 ∷ 0 ∷ 0 ∷ 0 ∷ 0 ∷ 0 ∷ 0 ∷ 0x80 ∷ []) 22
          ∷ [];
    }
    ∷ record {
      label = all_of_server;  -- server 2^28; server 2^28 + 1; server 2^29 - 1
      lines =
          gets (initialise 9) msi 0
          ∷ gets (target 9) (0 ∷ 0 ∷ 0 ∷ 0 ∷ 0x80 ∷ 0 ∷ 0 ∷ 0 ∷ []) 22
          ∷ gets (target 9) (0 ∷ 0 ∷ 0 ∷ 0 ∷ 0x80 ∷ 0 ∷ 0 ∷ 8 ∷ []) 22
          ∷ gets (target 9) (0 ∷ 0 ∷ 0 ∷ 0 ∷ 255 ∷ 255 ∷ 255 ∷ 255 ∷ []) 22
          ∷ shows 9 0 0 true 0
          ∷ [];
    }
    ∷ record {
      label = lengths;  -- no byte, 7 bytes, and 9 of which the last is not read
      lines =
          gets (initialise 2) [] 14
          ∷ gets (initialise 2) (0 ∷ 0 ∷ 0 ∷ 0 ∷ 0 ∷ 0 ∷ 1 ∷ []) 14
          ∷ gets (initialise 2) (0 ∷ 0 ∷ 0 ∷ 0 ∷ 0 ∷ 0 ∷ 0 ∷ 1 ∷ 2 ∷ []) 0
          ∷ shows 2 0 1 true 0
          ∷ gets (target 2) [] 14
          ∷ gets (target 2) (0 ∷ 0 ∷ 0 ∷ 0 ∷ 0 ∷ 0 ∷ 0x15 ∷ []) 14
          ∷ gets (target 2) (0 ∷ 0 ∷ 0 ∷ 0 ∷ 0 ∷ 0 ∷ 0 ∷ 0x15 ∷ 255 ∷ []) 0
          ∷ shows 2 0 1 false 0x15
          ∷ [];
    }
    ∷ record {
      label = order;  -- two things wrong at once
      lines =
          gets (initialise 5000) (0 ∷ 0 ∷ 0 ∷ 0 ∷ 0 ∷ 0 ∷ 0 ∷ []) 14
          ∷ gets (target 5000) (0 ∷ 0 ∷ 0 ∷ 0 ∷ 0 ∷ 0 ∷ 0 ∷ []) 14
          ∷ gets (target 4) (0 ∷ 0 ∷ 0 ∷ 0 ∷ 0 ∷ 0 ∷ 0 ∷ []) 14
          ∷ gets (target 5000) (0 ∷ 0 ∷ 0 ∷ 0 ∷ 0 ∷ 0 ∷ 0 ∷ 0x80 ∷ []) 2
          ∷ [];
    }
    ∷ record {
      label = word_zero;  -- it targets; the reading differs in masked alone
      lines =
          gets (initialise 6) msi 0
          ∷ shows 6 0 0 true 0
          ∷ gets (target 6) (0 ∷ 0 ∷ 0 ∷ 0 ∷ 0 ∷ 0 ∷ 0 ∷ 0 ∷ []) 0
          ∷ shows 6 0 0 false 0
          ∷ [];
    }
    ∷ record {
      label = mask_bit;  -- it is read back and does not mask
      lines =
          gets (initialise 6) lsi_high 0
          ∷ gets (target 6) (0 ∷ 0 ∷ 0 ∷ 1 ∷ 0 ∷ 0 ∷ 0 ∷ 0 ∷ []) 0
          ∷ shows 6 1 1 false 0x100000000
          ∷ [];
    }
    ∷ record {
      label = whole_word;  -- every bit that may be set
      lines =
          gets (initialise 6) msi 0
          ∷ gets (target 6) (255 ∷ 255 ∷ 255 ∷ 255 ∷ 0 ∷ 0 ∷ 0 ∷ 0x7f ∷ []) 0
          ∷ shows 6 0 0 false 0xffffffff0000007f
          ∷ [];
    }
    ∷ record {
      label = again_as_msi;  -- an LSI, targeted, is initialised again as an MSI
      lines =
          gets (initialise 8) lsi_high 0
          ∷ gets (target 8) aimed 0
          ∷ shows 8 1 1 false 0x246800000015
          ∷ gets (initialise 8) msi 0
          ∷ shows 8 0 0 true 0
          ∷ [];
    }
    ∷ record {
      label = again;  -- targeted twice; another source stays
      lines =
          gets (initialise 8) lsi_high 0
          ∷ gets (initialise 10) msi 0
          ∷ gets (target 8) aimed 0
          ∷ gets (target 8) (0 ∷ 0 ∷ 0 ∷ 0 ∷ 0 ∷ 0 ∷ 0 ∷ 1 ∷ []) 0
          ∷ shows 8 1 1 false 1
          ∷ shows 10 0 0 true 0
          ∷ [];
    }
    ∷ record {
      label = refused_keeps;  -- a refused call leaves the targeting
      lines =
          gets (initialise 8) lsi_high 0
          ∷ gets (target 8) aimed 0
          ∷ gets (target 8) (0 ∷ 0 ∷ 0 ∷ 0 ∷ 0 ∷ 0 ∷ 0 ∷ 0x80 ∷ []) 22
          ∷ gets (initialise 8) [] 14
          ∷ shows 8 1 1 false 0x246800000015
          ∷ [];
    }
    ∷ record {
      label = sync_keeps;  -- before and after the source is targeted; another source stays
      lines =
          gets (initialise 8) lsi_high 0
          ∷ gets (initialise 10) msi 0
          ∷ gets (sync 8) [] 0
          ∷ shows 8 1 1 true 0
          ∷ gets (target 8) aimed 0
          ∷ gets (sync 8) [] 0
          ∷ shows 8 1 1 false 0x246800000015
          ∷ shows 10 0 0 true 0
          ∷ [];
    }
    ∷ record {
      label = reading_keeps;  -- read twice it is the same, before and after the source is targeted; another source stays
      lines =
          gets (initialise 8) lsi_high 0
          ∷ gets (initialise 10) msi 0
          ∷ shows 8 1 1 true 0
          ∷ shows 8 1 1 true 0
          ∷ gets (target 8) aimed 0
          ∷ shows 8 1 1 false 0x246800000015
          ∷ shows 8 1 1 false 0x246800000015
          ∷ shows 10 0 0 true 0
          ∷ [];
    }
    ∷ []

pub examples-hold : map given examples ≡ map expected examples
unfolding choose number need◌else◌⨾◌ present◌else◌⨾◌ result initial targeted initialises targets on_source leaves outcome step values_of source_at fresh unread gets shows gives play given expected_of expected msi lsi_low lsi_high aimed examples
examples-hold = refl

-- what a word of 002, group 3, says
pub record Fields : Type 0 where
  pub word : ℕ
  pub priority : ℕ
  pub server : ℕ
  pub mask : ℕ
  pub effective : ℕ

unfoldable pub says : ℕ → ℕ → ℕ → ℕ → ℕ → Fields
says word priority server mask effective = record { word = word; priority = priority; server = server; mask = mask; effective = effective }

-- a word, then one for each field whose bits alone are set, all of them; then all
unfoldable pub words : List Fields
words =
    says 0x246800000015 5 2 0 0x1234
    ∷ says 0x7 7 0 0 0
    ∷ says 0xfffffff8 0 0x1fffffff 0 0
    ∷ says 0x100000000 0 0 1 0
    ∷ says 0xfffffffe00000000 0 0 0 0x7fffffff
    ∷ says 0xffffffffffffffff 7 0x1fffffff 1 0x7fffffff
    ∷ []

-- the word of the fields, and the fields of the word
unfoldable pub read_of : Fields → Fields
read_of f = says (targeting_word f.priority f.server f.mask f.effective) (priority_in f.word) (server_in f.word) (mask_in f.word) (effective_in f.word)

pub words-hold : map read_of words ≡ words
unfolding says words read_of
words-hold = refl
