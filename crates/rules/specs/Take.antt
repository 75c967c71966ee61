-- Paper 01, the last paragraph of 'Request numbers and effects': the guest take. Its code 14 is from 'Codes and the
-- order of checks'.
use Rattle.std.specs.Prelude.{ℕ, suc, Bool, List, [], ◌∷◌, length, leb}
use mathlib.Core.Option.{Option, none, some}
use Rattle.rules.specs.Bytes.{choose}
use Rattle.rules.specs.State.{Record, record_bytes, Pending, State, with_pending, has_bit}
use Rattle.rules.specs.Outcome.{EFAULT, Outcome, accept, need◌else◌⨾◌}

-- A record that is handed out, and what is left without it.
pub record Handed (A : Type 0) : Type 0 where
  pub given : Record
  pub left : A

-- The first value where there is one, else the later.
unfoldable pub or_else {ℓ} : {A : Type ℓ} → Option A → Option A → Option A
or_else none later = later
or_else (some a) later = some a

-- The machine check is handed out, where there is one.
abbrev pub hand_mchk : Pending → Option Record → Option (Handed Pending)
hand_mchk p none = none
hand_mchk p (some r) =
    some (record { given = r; left = record { io = p.io; done = p.done; service = p.service; mchk = none } })

-- The service record is handed out, where there is one.
abbrev pub hand_service : Pending → Option Record → Option (Handed Pending)
hand_service p none = none
hand_service p (some r) =
    some (record { given = r; left = record { io = p.io; done = p.done; service = none; mchk = p.mchk } })

-- The oldest page fault done is handed out, where there is one.
abbrev pub hand_done : Pending → List Record → Option (Handed Pending)
hand_done p [] = none
hand_done p (r ∷ q) =
    some (record { given = r; left = record { io = p.io; done = q; service = p.service; mchk = p.mchk } })

-- A queue that nothing is taken from stays in front of what is left of the others.
abbrev pub keep : List Record → Option (Handed (List (List Record))) → Option (Handed (List (List Record)))
keep q none = none
keep q (some h) = some (record { given = h.given; left = q ∷ h.left })

-- I/O by subclass 0 to 7, oldest first: the first record of the first queue that is allowed and not empty. The queues
-- are those of subclass n, n + 1 and so on.
unfoldable pub first_allowed : ℕ → ℕ → List (List Record) → Option (Handed (List (List Record)))
first_allowed n allowed [] = none
first_allowed n allowed ([] ∷ qs) = keep [] (first_allowed (suc n) allowed qs)
first_allowed n allowed ((r ∷ q) ∷ qs) =
    choose (has_bit n allowed) (some (record { given = r; left = q ∷ qs }))
    (keep (r ∷ q) (first_allowed (suc n) allowed qs))

-- That record and the pending records without it.
abbrev pub hand_io : Pending → Option (Handed (List (List Record))) → Option (Handed Pending)
hand_io p none = none
hand_io p (some h) =
    some
    (record { given = h.given; left = record { io = h.left; done = p.done; service = p.service; mchk = p.mchk } })

-- The first allowed of: machine check, service, oldest page fault done, I/O. Service and page fault are external.
unfoldable pub handed : Pending → ℕ → Bool → Bool → Option (Handed Pending)
handed p subclasses external_allowed mchk_allowed =
    or_else (choose mchk_allowed (hand_mchk p p.mchk) none)
    (or_else (choose external_allowed (hand_service p p.service) none)
    (or_else (choose external_allowed (hand_done p p.done) none)
    (hand_io p (first_allowed 0 subclasses p.io))))

-- A record is handed out: count 1. None: code 0, count 0, buffer untouched.
unfoldable pub hands_out : State → Option (Handed Pending) → Outcome State
hands_out s none = accept 0 s []
hands_out s (some h) = accept 1 (with_pending h.left s) h.given

-- A guest take: a subclass byte (bits as in simm), external allowed, machine check allowed, an output buffer. A buffer
-- below 72 bytes is refused even where there is nothing to hand out.
unfoldable pub takes : State → ℕ → Bool → Bool → List ℕ → Outcome State
takes s subclasses external_allowed mchk_allowed b =
    need leb record_bytes (length b) else EFAULT ⨾
    hands_out s (handed s.pending subclasses external_allowed mchk_allowed)
