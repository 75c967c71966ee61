-- 01, 'How much each promise says': lists of calls on the code's own controllers. Each step is what that function's
-- contract says of that call.
use Rattle.std.specs.Prelude.{ℕ, ◌≡◌, Bool, List, [], ◌∷◌, length}
use Rattle.rules.specs.State.{Limits}
use Rattle.rules.specs.Outcome.{Seen}
use Rattle.rules.specs.Machine.{Ask, set_attr, get_attr, guest_take, write_list, play_list, Call}
use Rattle.adapters.specs.declared.Device.{Device}
use Rattle.adapters.specs.declared.Place.{Place}
use Rattle.store.specs.declared.Controller.{Controller}
use Rattle.calls.specs.Limits.{limits_of}
use Rattle.flic.specs.Surface.{Ready, Premise, Requested, Taken}

-- A controller with its device record and its own table, as the calls before returned or left them.
pub record Host : Type 0 where
  pub ctl : Controller
  pub dev : Device
  pub tab : List Place

-- `lent` is the table that a call is lent, `left` what is in it afterwards. The last argument is what is then in the
-- host's own table. Either the call is lent the host's own table, and updates it; or it is lent a table of another
-- length, and the host's own table stays.
pub data Lends (L : Limits) (own lent left : List Place) : List Place → Type 0 where
  its_own : lent ≡ own → Lends L own lent left left
  another : (length lent ≡ L.places → ⊥) → Lends L own lent left own

abbrev pub asked : Ask → List ℕ → ℕ → Call
asked ask b n = record { ask = ask; buffer = b; table_length = n }

-- What a call that is lent a table leaves unchanged, because it borrows it shared. A set leaves its payload, the
-- playing of a list leaves the list, and a get and the writing of a list leave everything but the buffer. A take is
-- lent no table.
abbrev pub Leaves : Ask → (c c' : Controller) (d d' : Device) (t t' : List Place) (b b' : List ℕ) → Type 0
Leaves (set_attr group attr) c c' d d' t t' b b' = b' ≡ b
Leaves (get_attr group attr) c c' d d' t t' b b' = (c' ≡ c) × (d' ≡ d) × (t' ≡ t)
Leaves (guest_take subclasses external mcheck) c c' d d' t t' b b' = ⊥
Leaves write_list c c' d d' t t' b b' = (c' ≡ c) × (d' ≡ d) × (t' ≡ t)
Leaves play_list c c' d d' t t' b b' = b' ≡ b

-- A list of calls, with what each caller saw, from one host to another. The table of a take is not looked at.
pub data Ran : Host → List Call → List Seen → Host → Type 0 where
  end : {h : Host} → Ran h [] [] h
  asks : {h e : Host} {cs : List Call} {xs : List Seen} (ask : Ask) (b : List ℕ) (c' : Controller) (d' : Device)
      (t t' u : List Place) (x : Seen)
      → Leaves ask h.ctl c' h.dev d' t t' b x.buffer
      → Lends (limits_of h.ctl) h.tab t t' u
      → Requested ask h.ctl c' h.dev d' t t' b x
      → Ran (record { ctl = c'; dev = d'; tab = u }) cs xs e → Ran h (asked ask b (length t) ∷ cs) (x ∷ xs) e
  take : {h e : Host} {cs : List Call} {xs : List Seen} (subclasses : ℕ) (external mcheck : Bool) (b : List ℕ)
      (c' : Controller) (n : ℕ) (x : Seen)
      → Taken subclasses external mcheck h.ctl c' b x
      → Ran (record { ctl = c'; dev = h.dev; tab = h.tab }) cs xs e
      → Ran h (asked (guest_take subclasses external mcheck) b n ∷ cs) (x ∷ xs) e

-- The premise of each call of a chain, at the host and the table that the call is lent.
abbrev pub LentPremise : Host → List Place → Type 0
LentPremise h t = Premise h.ctl h.dev t

abbrev pub Premises : {h e : Host} {cs : List Call} {xs : List Seen} → Ran h cs xs e → Type 0
Premises end = Unit {0}
Premises (asks {h} ask b c' d' t t' u x k l f rest) = LentPremise h t × Premises rest
Premises (take {h} subclasses external mcheck b c' n x f rest) = Ready h.ctl × Premises rest
