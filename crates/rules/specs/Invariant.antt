-- The invariant: what holds of every state that a fresh one can reach. Paper 01, 'How much each promise says', allows
-- the calls one premise: controller and table come from a fresh pair by these operations (`Reached`). The premise is
-- stated as facts of the state (`Sound`). It is proved that both say the same (`Premise.exactly` in proofs).
use Rattle.std.specs.Prelude.{ℕ, suc, ◌<◌, ◌≤◌, ◌≡◌, Bool, true, false, List, [], ◌∷◌, length}
use mathlib.Core.Option.{Option, none, some}
use Rattle.rules.specs.State.{Limits, Adapter, Place, free, holds, Record, record_bytes, Pending, State, fresh}
use Rattle.rules.specs.State.{Kind, kind, subclass, queued, listing}
use Rattle.rules.specs.Machine.{Call, after}

-- `All P`: P holds of every element of a list. `Maybe P`: P holds of what an option has. `A × B` says both A and B, and
-- `Unit` says nothing.
abbrev pub All {ℓ} : {A : Type ℓ} → (A → Type 0) → List A → Type 0
All P [] = Unit {0}
All P (x ∷ xs) = P x × All P xs

abbrev pub Maybe {ℓ} : {A : Type ℓ} → (A → Type 0) → Option A → Type 0
Maybe P none = Unit {0}
Maybe P (some a) = P a

-- 'What it holds': an adapter has a subclass 0 to 7, and only a maskable one is masked.
pub record SoundAdapter (x : Adapter) : Type 0 where
  pub subclass-small : x.isc ≤ 7
  pub masked-maskable : x.masked ≡ true → x.maskable ≡ true

abbrev pub SoundPlace : Place → Type 0
SoundPlace free = Unit {0}
SoundPlace (holds x) = SoundAdapter x

-- 'Pending records': a record has 72 bytes. A queue holds only records of its kind, and an I/O queue only those of its
-- subclass.
abbrev pub Whole : Record → Type 0
Whole r = length r ≡ record_bytes

pub record IsKind (k : Kind) (r : Record) : Type 0 where
  pub whole : Whole r
  pub is-kind : kind r ≡ k

pub record IsIo (isc : ℕ) (r : Record) : Type 0 where
  pub whole : Whole r
  pub is-io : kind r ≡ Kind.io
  pub is-subclass : subclass r ≡ isc

-- I/O queues; the first of them is that of subclass isc
abbrev pub IoQueues : ℕ → List (List Record) → Type 0
IoQueues isc [] = Unit {0}
IoQueues isc (q ∷ qs) = All (IsIo isc) q × IoQueues (suc isc) qs

pub record SoundPending (p : Pending) : Type 0 where
  pub eight : length p.io ≡ 8
  pub in-io : IoQueues 0 p.io
  pub in-done : All (IsKind Kind.done) p.done
  pub in-service : Maybe (IsKind Kind.service) p.service
  pub in-mchk : Maybe (IsKind Kind.mchk) p.mchk

-- 'What it holds': the limits say how many adapter places there are, and how many records the nine queues hold at most.
-- Without the AIS capability both masks are 0.
pub record Sound (L : Limits) (s : State) : Type 0 where
  pub table : length s.adapters ≡ L.places
  pub adapters : All SoundPlace s.adapters
  pub pending : SoundPending s.pending
  pub within : queued s.pending ≤ L.room
  pub no-masks : s.ais ≡ false → (s.device.simm ≡ 0) × (s.device.nimm ≡ 0)

-- A state that comes from a fresh one by these operations.
pub record Reached (L : Limits) (s : State) : Type 0 where
  pub ais : Bool
  pub calls : List Call
  pub is : after L (fresh L ais) calls ≡ s

-- 'What the controller is': bytes are below 256. `OfBytes`: the records and the masks of a state are bytes.
-- `LentBytes`: a call is lent bytes.
abbrev pub IsByte : ℕ → Type 0
IsByte n = n < 256

pub record OfBytes (s : State) : Type 0 where
  pub records : All (All IsByte) (listing s.pending)
  pub simm : IsByte s.device.simm
  pub nimm : IsByte s.device.nimm

abbrev pub LentBytes : Call → Type 0
LentBytes c = All IsByte c.buffer
