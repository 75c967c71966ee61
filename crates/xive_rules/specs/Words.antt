-- Source document 002, groups 2 and 3: the words that a monitor gives. Bit 0 is the lowest.
use Rattle.std.specs.Prelude.{ℕ, ◌+◌, ◌*◌, ◌/◌, ◌%◌, ◌^◌, List}
use Rattle.rules.specs.Bytes.{field}

-- As many bits of a word as `size` says, from the bit `from` on.
abbrev pub bits : (from size : ℕ) → ℕ → ℕ
bits from size word = word / 2 ^ from % 2 ^ size

-- Ticket 1: a payload begins with a word of 8 bytes, big-endian as every field of paper 01. What comes after it is not
-- read.
abbrev pub word_bytes : ℕ
word_bytes = 8

abbrev pub word_in : List ℕ → ℕ
word_in b = field 0 word_bytes b

-- Group 2, the word that initialises a source:
--
--   bits     63 .. 2   1       0
--   values   unused    level   type (0 MSI, 1 LSI)
abbrev pub kind_in : ℕ → ℕ
kind_in word = bits 0 1 word

abbrev pub level_in : ℕ → ℕ
level_in word = bits 1 1 word

-- Group 3, the word that targets a source:
--
--   bits     63 .. 33           32     31 .. 3   2 .. 0
--   values   effective number   mask   server    priority
abbrev pub priority_in : ℕ → ℕ
priority_in word = bits 0 3 word

abbrev pub server_in : ℕ → ℕ
server_in word = bits 3 29 word

abbrev pub mask_in : ℕ → ℕ
mask_in word = bits 32 1 word

abbrev pub effective_in : ℕ → ℕ
effective_in word = bits 33 31 word

-- The word that has these four values.
abbrev pub targeting_word : (priority server mask effective : ℕ) → ℕ
targeting_word priority server mask effective = effective * 2 ^ 33 + mask * 2 ^ 32 + server * 2 ^ 3 + priority
