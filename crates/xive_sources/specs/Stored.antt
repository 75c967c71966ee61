-- A source as one stored number of 64 bits. A targeting word that was accepted has zeros in its bits 31 to 7, since the
-- server is below 16; four of them say what else there is to know:
--
--   bits     63 .. 33           32     31 .. 11   10      9      8          7             6 .. 3   2 .. 0
--   values   effective number   mask   not read   level   type   targeted   initialised   server   priority
--
-- A number whose bit 7 is 0, as 0 is, stands for a source that is not initialised, and every other one for a source
-- that calls can leave so (proofs/Any).
use Rattle.std.specs.Prelude.{ℕ, ◌<◌, ◌≡◌, List, map, eqb, ltb, Result, Ok, Err}
use mathlib.Core.Option.{Option, none, some}
use Rattle.rules.specs.Bytes.{choose}
use Rattle.rules.specs.Outcome.{EINVAL}
use Rattle.xive_rules.specs.Words.{bits, targeting_word}
use Rattle.xive_rules.specs.Sources.{ENOENT, ticket_limits, Source, Sources, source_at, Values}
use Rattle.answers.specs.declared.Refusal.{Refusal}
use Rattle.answers.specs.Answers.{code_of}
use Rattle.xive_sources.specs.declared.Reading.{Reading}

abbrev pub word_of : ℕ → ℕ
word_of v = targeting_word (bits 0 3 v) (bits 3 4 v) (bits 32 1 v) (bits 33 31 v)

unfoldable pub targeting_of : ℕ → Option ℕ
targeting_of v = choose (eqb (bits 8 1 v) 0) none (some (word_of v))

-- Whatever the number, the level of an MSI is 0.
unfoldable pub level_of : ℕ → ℕ
level_of v = choose (eqb (bits 9 1 v) 1) (bits 10 1 v) 0

unfoldable pub source_of : ℕ → Option Source
source_of v =
    choose (eqb (bits 7 1 v) 0) none
    (some (record { kind = bits 9 1 v; level = level_of v; targeting = targeting_of v }))

abbrev pub sources_of : List ℕ → Sources
sources_of l = map source_of l

-- What a look at the source of a number says: there is none that is initialised, and this is why; or this number is
-- stored there.
pub record Lacks (l : List ℕ) (n code : ℕ) : Type 0 where
  pub nothing : source_at ticket_limits (sources_of l) n ≡ none
  pub reason : code ≡ choose (ltb n ticket_limits.sources) EINVAL ENOENT

pub record Finds (l : List ℕ) (n v : ℕ) : Type 0 where
  pub known : n < ticket_limits.sources
  pub source : Source
  pub stored : source_of v ≡ some source
  pub there : source_at ticket_limits (sources_of l) n ≡ some source

abbrev pub Looked : List ℕ → ℕ → Result ℕ Refusal → Type 0
Looked l n (Err refusal) = Lacks l n (code_of refusal)
Looked l n (Ok v) = Finds l n v

-- What a reading gives beside its code and count.
abbrev pub values_in : Reading → Values
values_in r = record { level = r.level; kind = r.kind; masked = r.masked; word = r.word }
