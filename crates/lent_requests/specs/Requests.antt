-- What a request about the lent device record, or about the lent table, promises.
use Rattle.std.specs.Prelude.{ℕ, ◌≡◌, Bool, List, map, length, Result, OnErr}
use Rattle.rules.specs.State.{Limits, State, with_device}
use Rattle.rules.specs.State as rules
use Rattle.rules.specs.Requests.{set_request, request}
use Rattle.rules.specs.Invariant.{All}
use Rattle.answers.specs.declared.Refusal.{Refusal}
use Rattle.answers.specs.Answers.{Answers, as_answer}
use Rattle.adapters.specs.declared.Device.{Device}
use Rattle.adapters.specs.declared.Place.{Place}
use Rattle.adapters.specs.Values.{place_of, device_of, Canonical}
use Rattle.list_image.specs.Image.{image_size}

-- A request about the device record: the rules' answer, and nothing but the record changes; a refusal leaves it equal.
pub record ModesSet (ais : Bool) (group attr : ℕ) (d d' : Device) (b : List ℕ) (r : Result ℕ Refusal) : Type 0 where
  pub answer : (L : Limits) (s : State) → s.ais ≡ ais → s.device ≡ device_of d
      → Answers L s b (request L s (set_request group) attr b) (as_answer r) (with_device (device_of d') s) b
  pub kept : OnErr r (d' ≡ d)

-- a state with another table
abbrev pub with_table : List rules.Place → State → State
with_table t s = record { ais = s.ais; adapters = t; pending = s.pending; device = s.device }

-- A request about an adapter's place: the rules' answer, and nothing but the table changes; a refusal leaves it equal.
pub record PlaceSet (group attr : ℕ) (t t' : List Place) (b : List ℕ) (r : Result ℕ Refusal) : Type 0 where
  pub answer : (L : Limits) (s : State) → L.places ≡ image_size → s.adapters ≡ map place_of t
      → Answers L s b (request L s (set_request group) attr b) (as_answer r) (with_table (map place_of t') s) b
  pub kept : OnErr r (t' ≡ t)
  pub canonical : All Canonical t → All Canonical t'
  pub same_length : length t' ≡ length t
