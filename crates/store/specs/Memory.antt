-- The lent memory as the rules' pending records.
use Rattle.std.specs.Prelude.{ℕ, Bool, List, [], get_or, take}
use Rattle.rules.specs.State.{Pending}
use Rattle.store_queues.specs.Queues.{queues}
use Rattle.store_singles.specs.Singles.{service_of, mchk_of}
use Rattle.store.specs.declared.Controller.{Controller}

unfoldable pub pending_of : (order counts slots singles : List ℕ) → Pending
pending_of order counts slots singles =
    record {
      io = take 8 (queues order counts slots);
      done = get_or (queues order counts slots) 8 [];
      service = service_of singles;
      mchk = mchk_of singles;
    }

-- a controller from its arrays and its capability
abbrev pub controller : (slots order counts singles : List ℕ) → Bool → Controller
controller slots order counts singles ais =
    record { slots = slots; order = order; counts = counts; singles = singles; ais = ais }

-- the pending records of a controller
abbrev pub pending_in : Controller → Pending
pending_in c = pending_of c.order c.counts c.slots c.singles
