-- 01, guest take: the record of the nine queues that is handed out, by its queue and its place there.
use Rattle.std.specs.Prelude.{ℕ, ◌<◌, Bool, List, [], get_or, take, Option, Some, None}
use mathlib.Core.Option as rules
use mathlib.Core.Option.{none, some}
use Rattle.rules.specs.Bytes.{choose}
use Rattle.rules.specs.State.{Record, Pending}
use Rattle.rules.specs.Take.{Handed, or_else, hand_done, hand_io, first_allowed}
use Rattle.numbers.specs.declared.Queue.{Queue}
use Rattle.store_queues.specs.Queues.{without_at}

-- what the rules hand out of the queues, where neither machine check nor service record is handed out
abbrev pub hands_queued : Pending → ℕ → Bool → rules.Option (Handed Pending)
hands_queued p subclasses external =
    or_else (choose external (hand_done p p.done) none) (hand_io p (first_allowed 0 subclasses p.io))

-- the record is in its queue
abbrev pub NextIn : List ℕ → Option (Queue × ℕ) → Type 0
NextIn counts None = Unit {0}
NextIn counts (Some (q, at)) = (q.0 < 9) × (at < get_or counts q.0 0)

-- pending records with other queues
abbrev pub with_queues : List (List Record) → Pending → Pending
with_queues qs p = record { io = take 8 qs; done = get_or qs 8 []; service = p.service; mchk = p.mchk }

-- the record at that place and what is left without it
abbrev pub handed_next : Option (Queue × ℕ) → List (List Record) → Pending → rules.Option (Handed Pending)
handed_next None qs p = none
handed_next (Some (q, at)) qs p =
    some (record { given = get_or (get_or qs q.0 []) at []; left = with_queues (without_at q.0 at qs) p })
