-- What the public calls promise: the plain machine's step, through what a controller, a device record and a table stand
-- for.
use Rattle.std.specs.Prelude.{ℕ, ◌≡◌, Bool, List, map, length}
use Rattle.rules.specs.State.{Limits, State, fresh}
use Rattle.rules.specs.Outcome.{refuse_with, Seen, answering}
use Rattle.rules.specs.Machine.{Ask, guest_take, outcome, step}
use Rattle.rules.specs.Invariant.{All, Sound}
use Rattle.answers.specs.declared.Answer.{Answer}
use Rattle.adapters.specs.declared.Device.{Device}
use Rattle.adapters.specs.declared.Place.{Place}
use Rattle.adapters.specs.Values.{place_of, device_of, Canonical}
use Rattle.store_queues.specs.Queues.{Held}
use Rattle.store.specs.Memory.{pending_of}
use Rattle.store.specs.declared.Controller.{Controller}
use Rattle.calls.specs.Limits.{limits_of}
use Rattle.answers.specs.Answers.{answered}

-- 01, 'What it holds': the plain machine's state.
unfoldable pub state_of : Controller → Device → List Place → State
state_of c d t =
    record {
      ais = c.ais;
      adapters = map place_of t;
      pending = pending_of c.order c.counts c.slots c.singles;
      device = device_of d;
    }

-- 01, 'How much each promise says': the one premise is a record of facts that a fresh controller has and every call
-- keeps. `Ready` has the facts of the controller alone. The total is the sum of the nine counts, and at most the number
-- of slots. The mask has the bits of the subclasses that have records. The rows of the nine queues and of the free
-- slots, each as far as it is in use, name no slot twice. The rules leave open: in which slot a pending record lies;
-- what the other slots hold, and in which order they are free; the entries of a row behind those in use; which non-zero
-- number says that a service record or a machine check is present; the bytes of one that is absent. Nothing more holds
-- of these.
abbrev pub Ready : Controller → Type 0
Ready c = Held c.order c.counts

-- The facts of the controller with its device record and its table: an unused place has all fields 0 or false, and the
-- state has what every state has that a fresh one can reach.
pub record Valid (c : Controller) (d : Device) (t : List Place) : Type 0 where
  pub ready : Ready c
  pub places : All Canonical t
  pub sound : Sound (limits_of c) (state_of c d t)

-- The premise is asked only for a table with as many places as this controller has. For a table of another length there
-- is no premise.
abbrev pub Premise : Controller → Device → List Place → Type 0
Premise c d t = length t ≡ (limits_of c).places → Valid c d t

-- 01, 'How much each promise says': code, count, next state and each byte of the buffer are the plain machine's. What
-- the caller sees, x, is the code, the count and the buffer as the call left it.
abbrev pub Steps : Ask → (c c' : Controller) (d d' : Device) (t t' : List Place) (b : List ℕ) → Seen → Type 0
Steps ask c c' d d' t t' b x =
    step (limits_of c) (state_of c d t) (record { ask = ask; buffer = b; table_length = length t })
    ≡ answering x (state_of c' d' t')

-- The promise of every call that is lent a table and does not make a controller. It is about the controller, the device
-- record and the table before and after the call, the buffer before it, and what its caller sees. A refusal leaves each
-- lent value equal, not only what it stands for. (The refusal of a list part-way is no `refuse_with`: by the machine's
-- step it leaves a fresh controller.) The controller's limits stay.
pub record Requested (ask : Ask) (c c' : Controller) (d d' : Device) (t t' : List Place) (b : List ℕ) (x : Seen)
    : Type 0 where
  pub steps : Steps ask c c' d d' t t' b x
  pub kept : (code count : ℕ) → outcome (limits_of c) (state_of c d t) ask (length t) b ≡ refuse_with code count
      → (c' ≡ c) × (d' ≡ d) × (t' ≡ t) × (x.buffer ≡ b)
  pub valid : length t ≡ (limits_of c).places → Valid c' d' t'
  pub limits : limits_of c' ≡ limits_of c

-- What a guest take promises. It is lent no table and no device record, so it promises this for every one of them.
pub record Taken (subclasses : ℕ) (external mcheck : Bool) (c c' : Controller) (b : List ℕ) (x : Seen) : Type 0 where
  pub steps : (d : Device) (t : List Place) → Steps (guest_take subclasses external mcheck) c c' d d t t b x
  pub kept : (x.code ≡ 0 → ⊥) → (c' ≡ c) × (x.buffer ≡ b)
  pub ready : Ready c'
  pub limits : limits_of c' ≡ limits_of c

-- What making a fresh controller promises. With a table of the right length, the controller is the fresh one of these
-- limits and this capability. With another table the code is 14, and everything stays.
pub record Made (L : Limits) (ais : Bool) (c c' : Controller) (d d' : Device) (t t' : List Place) (r : Answer)
    : Type 0 where
  pub right : length t ≡ L.places
      → (r ≡ answered 0 0) × (limits_of c' ≡ L) × (state_of c' d' t' ≡ fresh L ais) × Valid c' d' t'
  pub wrong : (length t ≡ L.places → ⊥) → (r ≡ answered 14 0) × (c' ≡ c) × (d' ≡ d) × (t' ≡ t)
