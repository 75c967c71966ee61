-- 01, 'Move list', played: what the requests of a list come to on an image of the table, the pending records and the
-- device record.
use Rattle.std.specs.Prelude.{ℕ, ◌≡◌, Bool, true, false, List, [], take, Result, Ok, Err}
use Rattle.rules.specs.Bytes.{choose, part}
use Rattle.rules.specs.State.{Limits, Pending, State}
use Rattle.rules.specs.Outcome.{Outcome, accept, refuse, reset, refuse_with}
use Rattle.rules.specs.MoveList.{TableEntry, requests_in, applies, plays}
use Rattle.answers.specs.declared.Answer.{Answer}
use Rattle.answers.specs.declared.Refusal.{Refusal}
use Rattle.answers.specs.Answers.{Answers, answered, code_of}
use Rattle.adapters.specs.declared.Device.{Device}
use Rattle.list_image.specs.Places.{AllCanonical}
use Rattle.list_form.specs.Form.{slots_of}
use Rattle.calls.specs.Inner.{limits_from, image_state, SetTo}
use Rattle.list_play.specs.declared.PlayError.{PlayError}
use Rattle.list_play.specs.declared.PlayError.TheVariants.{Form, Request}

-- the request of a table entry of the list b, from the values before it to those after it
abbrev pub SetByEntry : (places room : ℕ) → Bool → (b : List ℕ) → TableEntry → (image : List ℕ) → Pending → Device
    → (image' : List ℕ) → Pending → Device → Result ℕ Refusal → Type 0
SetByEntry places room ais b e image p d image' p' d' r =
    SetTo places room ais e.group e.attr (part e.at e.size b) image p d image' p' d' r

-- What an answer says of a list's requests. Accepted: all were applied, the count is their number, and `next` is the
-- next state. Refused: the request at this place was refused with this code.
abbrev pub ran_to : Result ℕ PlayError → State → Outcome State
ran_to (Ok count) next = accept count next []
ran_to (Err (Form refusal)) next = refuse (code_of refusal)
ran_to (Err (Request place refusal)) next = reset (code_of refusal) place

-- all requests of the list b
abbrev pub SetByEntries : (places room : ℕ) → Bool → (b image : List ℕ) → Pending → Device → (image' : List ℕ) → Pending
    → Device → Result ℕ PlayError → Type 0
SetByEntries places room ais b image p d image' p' d' r =
    applies (limits_from places room) 0 (image_state ais places image p d) (requests_in b (slots_of b))
    ≡ ran_to r (image_state ais places image' p' d')

-- why a list is refused
abbrev pub refusal_of : PlayError → Refusal
refusal_of (Form refusal) = refusal
refusal_of (Request place refusal) = refusal

-- the count that is told of a list that is refused: the place of the refused request
abbrev pub place_in : PlayError → ℕ
place_in (Form refusal) = 0
place_in (Request place refusal) = place

-- the answer to a list: its code and its count
abbrev pub told : Result ℕ PlayError → Answer
told (Ok count) = answered 0 count
told (Err error) = answered (code_of (refusal_of error)) (place_in error)

-- whether the controller was made fresh
abbrev pub made_fresh : Result ℕ PlayError → Bool
made_fresh (Ok count) = true
made_fresh (Err (Form refusal)) = false
made_fresh (Err (Request place refusal)) = true

-- A list that is played. Where its form is refused the state stays; otherwise the controller was made fresh, and its
-- next state is that of the image, the pending records and the device record.
pub record PlayedTo (places room : ℕ) (ais : Bool) (b image' : List ℕ) (p' : Pending) (d' : Device)
    (r : Result ℕ PlayError) : Type 0 where
  pub answer : (L : Limits) (s : State) → L.places ≡ places → L.room ≡ room → s.ais ≡ ais
      → Answers L s b (plays L s b) (told r) (choose (made_fresh r) (image_state ais places image' p' d') s) b
  pub canonical : AllCanonical (take places image')
  pub refused : (L : Limits) (s : State) → s.ais ≡ ais → (code count : ℕ) → plays L s b ≡ refuse_with code count
      → made_fresh r ≡ false
