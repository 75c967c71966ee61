-- The search over queues, record by record, and what the rules do at the place that it finds.
use Rattle.std.specs.Prelude as std
use Rattle.std.specs.Prelude.{ℕ, suc, ◌/◌, ◌%◌, ◌<◌, Bool, true, List, [], ◌∷◌, get_or}
use mathlib.Core.Option.{Option, none, some}
use Rattle.numbers.specs.declared.Subchannel.{Subchannel}
use Rattle.rules.specs.Bytes.{choose}
use Rattle.rules.specs.State.{Record, has_bit}
use Rattle.rules.specs.Requests.{is_for}
use Rattle.rules.specs.Take.{Handed}
use Rattle.store_queues.specs.Queues.{without_at}
use Rattle.store_search.specs.declared.Found.{Found}
use Rattle.store_search.specs.declared.Found.TheVariants.{At, None}

-- a record is for the subchannel that a word says: its id is the word's first half, its number the second
abbrev pub is_for_word : ℕ → Record → Bool
is_for_word w r = is_for (w / 65536) (w % 65536) r

-- a record is wanted that is for the subchannel; where none is named, any is
abbrev pub wanted : std.Option Subchannel → Record → Bool
wanted std.None r = true
wanted (std.Some word) r = is_for_word word.0 r

-- A search over queues, the first of which is that of subclass isc: the first record that is wanted, of one of the
-- subclasses. Found are its subclass and its place in the queue. A queue is searched from place k on.
unfoldable pub search_queue : (Record → Bool) → ℕ → ℕ → List Record → Found → Found
search_queue f isc k [] later = later
search_queue f isc k (r ∷ q) later = choose (f r) (At (record { 0 = isc }) k) (search_queue f isc (suc k) q later)

unfoldable pub search_queues : (Record → Bool) → ℕ → ℕ → List (List Record) → Found
search_queues f subclasses isc [] = None
search_queues f subclasses isc (q ∷ qs) =
    let later = search_queues f subclasses (suc isc) qs in
    choose (has_bit isc subclasses) (search_queue f isc 0 q later) later

-- the record found is in the queue of its subclass
abbrev pub FoundIn : List ℕ → Found → Type 0
FoundIn counts None = Unit {0}
FoundIn counts (At s k) = (s.0 < 8) × (k < get_or counts s.0 0)

-- the queues without the record at the place found, if there is one; and the record with them
abbrev pub left_at : Found → List (List Record) → Option (List (List Record))
left_at None qs = none
left_at (At s k) qs = some (without_at s.0 k qs)

abbrev pub handed_at : Found → List (List Record) → Option (Handed (List (List Record)))
handed_at None qs = none
handed_at (At s k) qs = some (record { given = get_or (get_or qs s.0 []) k []; left = without_at s.0 k qs })
