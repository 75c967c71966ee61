-- Paper 02, ticket 1: what a source is, and the calls. The refusals are those that the ticket names, in its order, and
-- every count is 0. A text in quotes is the ticket's.
use Rattle.std.specs.Prelude.{ℕ, Bool, true, false, List, [], ◌∷◌, length, get_or, set, replicate, leb, ltb, eqb}
use mathlib.Core.Option.{Option, none, some}
use Rattle.rules.specs.Bytes.{choose}
use Rattle.rules.specs.Outcome.{EINVAL, EFAULT, E2BIG, Outcome, accept, need◌else◌⨾◌, present◌else◌⨾◌, Answer, result}
use Rattle.xive_rules.specs.Words.{word_bytes, word_in, kind_in, level_in, server_in}

-- Ticket 1, refusals: a payload that is too short gets paper 01's EFAULT, 14. A source number that is too large gets
-- its E2BIG, 7, on initialise, and 2 on every other call. 'not initialised' and 'server above 15' get its EINVAL, 22.
abbrev pub ENOENT : ℕ
ENOENT = 2

-- Ticket 1: how many sources and servers there are.
pub record Limits : Type 0 where
  pub sources : ℕ
  pub servers : ℕ

-- Ticket 1: 'source numbers 0 to 1,023 and servers 0 to 15'.
abbrev pub ticket_limits : Limits
ticket_limits = record { sources = 1024; servers = 16 }

-- Ticket 1: an initialised source has a type (0 MSI, 1 LSI) and a level, and a targeting word if it was targeted since.
pub record Source : Type 0 where
  pub kind : ℕ
  pub level : ℕ
  pub targeting : Option ℕ

-- Ticket 1: all sources, by number. `none`: not initialised.
abbrev pub Sources : Type 0
Sources = List (Option Source)

-- A fresh controller: no source is initialised.
unfoldable pub fresh : Limits → Sources
fresh L = replicate L.sources none

-- The sources with this one at a number; the others stay.
abbrev pub with_source : ℕ → Source → Sources → Sources
with_source n x s = set s n (some x)

-- Ticket 1: what is asked of the source of a number. Numbers have no bound here; in the code a source number has 64
-- bits.
pub data Ask : Type 0 where
  initialise target sync reading : (number : ℕ) → Ask

-- Ticket 1: 'Level is kept for an LSI and 0 for an MSI; unused bits are ignored; initialising again drops the
-- targeting.'
unfoldable pub initial : ℕ → Source
initial word = record { kind = kind_in word; level = choose (eqb (kind_in word) 1) (level_in word) 0; targeting = none }

-- Ticket 1: 'The mask bit in a targeting word is stored and has no effect.' The whole word is kept; type and level
-- stay.
unfoldable pub targeted : ℕ → Source → Source
targeted word x = record { kind = x.kind; level = x.level; targeting = some word }

-- Ticket 1 and 002, group 2: initialise. A source may be initialised again.
unfoldable pub initialises : Limits → Sources → ℕ → List ℕ → Outcome Sources
initialises L s n b =
    need leb word_bytes (length b) else EFAULT ⨾
    need ltb n L.sources else E2BIG ⨾
    accept 0 (with_source n (initial (word_in b)) s) []

-- Ticket 1: every other call is about an initialised source. It looks for the source after it has looked at the
-- payload's length.
unfoldable pub on_source : {A : Type 0} → Limits → Sources → ℕ → (Source → Outcome A) → Outcome A
on_source L s n rest =
    need ltb n L.sources else ENOENT ⨾
    present get_or s n none else EINVAL ⨾
    rest

-- Ticket 1 and 002, group 3: target. The server is all of its 29 bits.
unfoldable pub targets : Limits → Sources → ℕ → List ℕ → Outcome Sources
targets L s n b =
    need leb word_bytes (length b) else EFAULT ⨾
    on_source L s n λ x.
    need ltb (server_in (word_in b)) L.servers else EINVAL ⨾
    accept 0 (with_source n (targeted (word_in b) x) s) []

-- Ticket 1 and 002, group 5: sync, which has 'no effect'. A reading changes nothing either. Both are lent no payload.
unfoldable pub leaves : Limits → Sources → ℕ → Outcome Sources
leaves L s n = on_source L s n λ x. accept 0 s []

-- Ticket 1: what a call comes to.
unfoldable pub outcome : Limits → Sources → Ask → List ℕ → Outcome Sources
outcome L s (initialise n) b = initialises L s n b
outcome L s (target n) b = targets L s n b
outcome L s (sync n) b = leaves L s n
outcome L s (reading n) b = leaves L s n

-- A call is what is asked and the lent payload; a sync and a reading are lent none.
pub record Call : Type 0 where
  pub ask : Ask
  pub payload : List ℕ

-- One call: the answer, with the sources after it and the payload.
unfoldable pub step : Limits → Sources → Call → Answer Sources
step L s c = result (fresh L) s c.payload (outcome L s c.ask c.payload)

-- The sources after a list of calls.
unfoldable pub after : Limits → Sources → List Call → Sources
after L s [] = s
after L s (c ∷ cs) = after L (step L s c).next cs

-- Ticket 1: 'A reading gives level, type, masked and the targeting word (0 if none).'
pub record Values : Type 0 where
  pub level : ℕ
  pub kind : ℕ
  pub masked : Bool
  pub word : ℕ

-- Ticket 1: 'A source is masked from initialising until it is targeted.' Nothing else masks it.
abbrev pub is_masked : Option ℕ → Bool
is_masked none = true
is_masked (some word) = false

-- Ticket 1: '0 if none'.
abbrev pub word_or_zero : Option ℕ → ℕ
word_or_zero none = 0
word_or_zero (some word) = word

-- Ticket 1: what is read of a source. Without a source every value is 0 or false.
unfoldable pub values_of : Option Source → Values
values_of none = record { level = 0; kind = 0; masked = false; word = 0 }
values_of (some x) =
    record { level = x.level; kind = x.kind; masked = is_masked x.targeting; word = word_or_zero x.targeting }

-- The initialised source of a number, if there is one.
unfoldable pub source_at : Limits → Sources → ℕ → Option Source
source_at L s n = choose (ltb n L.sources) (get_or s n none) none

-- What a reading gives beside its answer. Where it is refused, there is no such source, and every value is 0 or false.
abbrev pub reads : Limits → Sources → ℕ → Values
reads L s n = values_of (source_at L s n)
