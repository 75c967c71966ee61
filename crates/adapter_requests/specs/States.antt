-- Which adapter a set request is about, and what an accepted request leaves of its place or of the device record.
use Rattle.std.specs.Prelude.{ℕ, ◌^◌, ◌≤◌, ◌≡◌, Bool, true, ◌||◌, List, [], length, get_or, set, leb, eqb}
use Rattle.std.specs.Prelude.{Result, Ok, Err}
use Rattle.rules.specs.Bytes.{choose, byte, field}
use Rattle.rules.specs.State as rules
use Rattle.rules.specs.State.{Limits, State}
use Rattle.rules.specs.Outcome.{Outcome, refuse, accept}
use Rattle.rules.specs.Requests.{adapter_in, non_zero, set_request, request}
use Rattle.answers.specs.declared.Refusal.{Refusal}
use Rattle.answers.specs.Answers.{code_of}
use Rattle.adapters.specs.declared.Place.{Place}
use Rattle.adapters.specs.Values.{place_of, with_masked, masked_as, mode_set}

-- an id that no table has
abbrev pub no_adapter : ℕ
no_adapter = 2 ^ 32

-- the id in the payload of REGISTER and MODIFY; a payload too short for one names no adapter
unfoldable pub payload_id : List ℕ → ℕ
payload_id b = choose (leb 4 (length b)) (field 0 4 b) no_adapter

-- whether a set request is about an adapter's place: REGISTER, MODIFY
unfoldable pub on_place : ℕ → Bool
on_place group = eqb group 6 || eqb group 7

-- what a request comes to that is decided by this check: accepted, with count 0 and nothing written, or refused
abbrev pub decided : Result (Unit {0}) Refusal → State → Outcome State
decided (Ok _) next = accept 0 next []
decided (Err refusal) next = refuse (code_of refusal)

-- 01, groups 6 and 7: the place after an accepted request about it
unfoldable pub place_after : ℕ → List ℕ → rules.Place → rules.Place
place_after group b p =
    choose (eqb group 6) (rules.holds (adapter_in b))
    (choose (eqb (byte 4 b) 1) (masked_as p (non_zero (byte 5 b))) p)

-- what REGISTER and MODIFY store at an id where `old` is, if the place is to be `new`: MODIFY its masked field alone
abbrev pub stored_by : ℕ → (new old : Place) → Place
stored_by group new old = choose (eqb group 6) new (with_masked new.masked old)

-- a state with another place at an id
abbrev pub with_place : ℕ → rules.Place → State → State
with_place id p s = record { ais = s.ais; adapters = set s.adapters id p; pending = s.pending; device = s.device }

-- what is known of the payload of an accepted request about a place
pub record PlaceAsked (group : ℕ) (b : List ℕ) (p : Place) : Type 0 where
  pub long : 8 ≤ length b
  pub isc : group ≡ 6 → byte 4 b ≤ 7
  pub maskable : (group ≡ 6 → ⊥) → byte 4 b ≡ 1 → p.maskable ≡ true

-- a check decides a request about a place, in every state that has this place under the payload's id
abbrev pub DecidesPlace : (group places : ℕ) → Place → (attr : ℕ) → List ℕ → Result (Unit {0}) Refusal → Type 0
DecidesPlace group places p attr b check =
    (L : Limits) (s : State) → L.places ≡ places → get_or s.adapters (payload_id b) rules.free ≡ place_of p
    → request L s (set_request group) attr b
    ≡ decided check (with_place (payload_id b) (place_after group b (place_of p)) s)

-- 01, groups 4, 5, 9 and 11: the device record after an accepted request about it
unfoldable pub modes_after : ℕ → List ℕ → rules.Device → rules.Device
modes_after group b d =
    choose (eqb group 9) (mode_set d (byte 0 b) (eqb (field 2 2 b) 1))
    (choose (eqb group 11) (record { simm = byte 0 b; nimm = byte 1 b; apf = d.apf })
    (record { simm = d.simm; nimm = d.nimm; apf = eqb group 4 }))

-- what is known of the payload of an accepted request about the device record
pub record ModesAsked (group : ℕ) (b : List ℕ) : Type 0 where
  pub mode : group ≡ 9 → (4 ≤ length b) × (byte 0 b ≤ 7)
  pub masks : group ≡ 11 → 2 ≤ length b

-- a check decides a request about the device record, in every state of this capability
abbrev pub DecidesModes : (group : ℕ) → Bool → (attr : ℕ) → List ℕ → Result (Unit {0}) Refusal → Type 0
DecidesModes group ais attr b check =
    (L : Limits) (s : State) → s.ais ≡ ais
    → request L s (set_request group) attr b
    ≡ decided check (rules.with_device (modes_after group b s.device) s)
