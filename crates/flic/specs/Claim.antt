-- Demand 3 (paper 01, 'How much each promise says'): one claim about whole lists of calls on the code's own
-- controllers.
use Rattle.std.specs.Prelude.{ℕ, ◌≤◌, ◌≡◌, Bool, List, [], ◌∷◌, ◌++◌, length, take}
use Rattle.rules.specs.State.{Limits, State, fresh}
use Rattle.rules.specs.MoveList.{list_requests, total, count_in, most_requests}
use Rattle.rules.specs.Outcome.{Seen}
use Rattle.rules.specs.Machine.{write_list, play_list, Call, answers, after}
use Rattle.answers.specs.declared.Answer.{Answer}
use Rattle.adapters.specs.declared.Device.{Device}
use Rattle.adapters.specs.declared.Place.{Place}
use Rattle.store.specs.declared.Controller.{Controller}
use Rattle.flic.specs.Surface.{Made, Requested}
use Rattle.flic.specs.Chain.{Host, asked, Ran}

-- A host that the code made, with these limits and this capability.
pub record Fresh (L : Limits) (ais : Bool) (f : Host) : Type 0 where
  pub ctl : Controller
  pub dev : Device
  pub tab : List Place
  pub right : length tab ≡ L.places
  pub answer : Answer
  pub made : Made L ais ctl f.ctl dev f.dev tab f.tab answer

-- The plain machine with these limits and this capability, fresh at the start: its state after a list of calls, and its
-- answers to a further list.
abbrev pub machine : Limits → Bool → List Call → State
machine L ais cs = after L (fresh L ais) cs

abbrev pub machine_answers : Limits → Bool → List Call → List Call → List Seen
machine_answers L ais cs ds = answers L (machine L ais cs) ds

-- A move. Any list of calls on a fresh first host; the move list written into a buffer that is long enough; exactly as
-- many bytes as the count says played on a second host, which any list of calls on a fresh one of the same limits and
-- capability left. Both calls are lent their host's own table.
pub record Moved : Type 0 where
  pub limits : Limits
  pub ais : Bool
  pub start₁ : Host
  pub fresh₁ : Fresh limits ais start₁
  pub calls₁ : List Call
  pub seen₁ : List Seen
  pub first : Host
  pub ran₁ : Ran start₁ calls₁ seen₁ first
  pub buffer : List ℕ
  pub wrote : Seen
  pub writes : Requested write_list first.ctl first.ctl first.dev first.dev first.tab first.tab
      buffer wrote
  pub long : total (list_requests (machine limits ais calls₁)) ≤ length buffer
  pub start₂ : Host
  pub fresh₂ : Fresh limits ais start₂
  pub calls₂ : List Call
  pub seen₂ : List Seen
  pub before : Host
  pub ran₂ : Ran start₂ calls₂ seen₂ before
  pub second : Host
  pub played : Seen
  pub plays : Requested play_list before.ctl second.ctl before.dev second.dev before.tab second.tab
      (take wrote.count wrote.buffer) played

-- the bytes that are played; the calls on the first host, the writing included
abbrev pub list_of : Moved → List ℕ
list_of m = take m.wrote.count m.wrote.buffer

abbrev pub calls_of : Moved → List Call
calls_of m = m.calls₁ ++ (asked write_list m.buffer m.limits.places ∷ [])

-- Demand 3.
pub record Claim (m : Moved) : Type 0 where
  -- the first controller gives the plain machine's answers, counts and bytes, of the writing too
  pub first-seen : m.seen₁ ++ (m.wrote ∷ []) ≡ machine_answers m.limits m.ais [] (calls_of m)
  -- the writing is accepted, and its count is the list's length
  pub written : (m.wrote.code ≡ 0)
      × (m.wrote.count ≡ total (list_requests (machine m.limits m.ais m.calls₁)))
      × (length (list_of m) ≡ m.wrote.count)
  -- the second controller accepts exactly those bytes, whatever it held, and applies as many requests as they say, at
  -- most 131
  pub accepted : (m.played.code ≡ 0) × (m.played.count ≡ count_in (list_of m)) × (m.played.count ≤ most_requests)
  -- from then on both give the plain machine's answers, counts and bytes, for every further list of calls
  pub alike : (ds : List Call) (xs ys : List Seen) (e₁ e₂ : Host) → Ran m.first ds xs e₁ → Ran m.second ds ys e₂
      → (xs ≡ machine_answers m.limits m.ais (calls_of m) ds)
      × (ys ≡ machine_answers m.limits m.ais (calls_of m) ds)
