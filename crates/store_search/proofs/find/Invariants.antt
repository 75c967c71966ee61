-- Nothing is found so far, and the search of what is left is the search of the whole.
use Rattle.numbers.proofs.Basics.{◌≡◌, []}
use Rattle.numbers.proofs.Basics.{take, drop, get_or}
use Rattle.store_queues.specs.{Queues.queues}
use Rattle.store_search.specs.{declared.Found.TheVariants.None, Search.wanted, Search.search_queue, Search.search_queues}
use Rattle.store_search.proofs.{Laws.later}
use Rattle.store_search.proofs.find.Given as goal

abbrev pub invariant-loop-k : goal.invariant-loop-k
invariant-loop-k l =
    let f = wanted l.subchannel in
    let qs = queues l.o l.c l.b in
    (l.found ≡ None)
    × (search_queues f l.subclasses 0 (take 8 qs) ≡ search_queue f l.isc l.k (drop l.k (get_or qs l.isc [])) (later qs f l.subclasses l.isc))

abbrev pub invariant-search : goal.invariant-search
invariant-search l =
    let f = wanted l.subchannel in
    let qs = take 8 (queues l.o l.c l.b) in
    (l.found ≡ None) × (search_queues f l.subclasses 0 qs ≡ search_queues f l.subclasses l.isc (drop l.isc qs))
