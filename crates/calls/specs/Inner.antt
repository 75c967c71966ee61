-- What the functions here promise, of a controller and with one adapter's place by value.
use Rattle.std.specs.Prelude.{ℕ, ◌<◌, ◌≡◌, Bool, List, get_or, take, leb, eqb, Result, OnErr}
use Rattle.rules.specs.Bytes.{choose}
use Rattle.rules.specs.State.{Limits, State, Pending, free, with_pending, with_device}
use Rattle.rules.specs.Requests.{airq_inject, set_request, get_request, request}
use Rattle.answers.specs.declared.Answer.{Answer}
use Rattle.answers.specs.declared.Refusal.{Refusal}
use Rattle.answers.specs.Answers.{Answers, as_answer}
use Rattle.adapters.specs.declared.Device.{Device}
use Rattle.adapters.specs.declared.Place.{Place}
use Rattle.adapters.specs.Values.{place_of, device_of, injection_of, injected_device}
use Rattle.list_image.specs.Places.{places_of}
use Rattle.store.specs.declared.Controller.{Controller}
use Rattle.store.specs.Memory.{pending_in}
use Rattle.calls.specs.Limits.{limits_of}
use Rattle.calls.specs.Cases.{answer_for}

-- the device record after an injection: noted where a record was appended
abbrev pub noted_in : Bool → Device → Place → Answer → Device
noted_in ais d p r = choose (eqb r.count 1) (injected_device ais d p) d

-- INJECT of an adapter id whose place is p, where so many records are queued. `was` and `is` are what is pending before
-- and after, by the two single records, which stay. For an id in the table the answer is also given by the case of the
-- injection.
pub record Injected (places room id queued : ℕ) (ais : Bool) (d : Device) (p : Place) (was is : List ℕ → Pending)
    (r : Answer) : Type 0 where
  pub answer : (L : Limits) (s : State) (singles b : List ℕ) → L.places ≡ places → L.room ≡ room → s.ais ≡ ais
      → s.pending ≡ was singles
      → s.device ≡ device_of d → get_or s.adapters id free ≡ place_of p
      → Answers L s b (request L s airq_inject id b) r
      (with_device (device_of (noted_in ais d p r)) (with_pending (is singles) s)) b
  pub unnoted : (r.code ≡ 0 → ⊥) → noted_in ais d p r ≡ d
  pub told : id < places → r ≡ answer_for (injection_of ais d p (leb room queued))

-- A get request.
pub record Got (group attr : ℕ) (c : Controller) (d : Device) (b b' : List ℕ) (r : Result ℕ Refusal) : Type 0 where
  pub answer : (s : State) → s.ais ≡ c.ais → s.pending ≡ pending_in c → s.device ≡ device_of d
      → Answers (limits_of c) s b (request (limits_of c) s (get_request group) attr b) (as_answer r) s b'
  pub kept : OnErr r (b' ≡ b)

-- the limits that have the numbers which the code passes on
abbrev pub limits_from : (places room : ℕ) → Limits
limits_from places room = record { places = places; room = room }

-- a state from the capability, the first places of an image, the pending records and the device record
abbrev pub image_state : Bool → ℕ → List ℕ → Pending → Device → State
image_state ais places image pending device =
    record { ais = ais; adapters = take places (places_of image); pending = pending; device = device_of device }

-- A set request, from the image, the pending records and the device record before it to those after it.
abbrev pub SetTo : (places room : ℕ) → Bool → (group attr : ℕ) → (b image : List ℕ) → Pending → Device
    → (image' : List ℕ) → Pending → Device → Result ℕ Refusal → Type 0
SetTo places room ais group attr b image p d image' p' d' r =
    let L = limits_from places room in
    let s = image_state ais places image p d in
    Answers L s b (request L s (set_request group) attr b) (as_answer r) (image_state ais places image' p' d') b
