use Rattle.numbers.proofs.Basics.{◌≡◌, List, ℕ, sym, ◌∙◌, Bool, true, false, [], ◌+◌, ◌*◌, ◌≤◌, ◌<◌, arith}
use Rattle.numbers.proofs.Basics.{length, get_or}
use Rattle.rules.specs.Bytes.{choose}
use Rattle.rules.specs.State.{Record}
use Rattle.store_queues.specs.{Slots.slot_count, Queues.queues, Queues.Held, Slots.slot}
use Rattle.store_search.specs.Search.{wanted}
use Rattle.store_queues.proofs.Laws.{count_fits, length-queues, length-queue, queue-record}
use Rattle.store_search.proofs.{Laws.search-over, Laws.search-turn, Laws.search-end, Laws.search-record, Laws.cleared, Laws.handed_out}
use Rattle.numbers.specs.declared.Queue.{Queue}
use Rattle.store_search.proofs.find.Goals as goal

-- the queue that is searched, with the number of its records
record Row (o c b : List ℕ) (isc n : ℕ) (q : Queue) : Type 0 where
  is : q ≡ record { 0 = isc }
  small : isc < 8
  counted : n ≡ get_or c isc 0
  size : length (get_or (queues o c b) isc []) ≡ n
  few : n ≤ slot_count

row : (o c b : List ℕ) (isc n : ℕ) (q : Queue) → Held o c → isc < 8 → q ≡ record { 0 = isc } → n ≡ get_or c q.0 0 → Row o c b isc n q
row o c b isc n q h small e k =
    let m : n ≡ get_or c isc 0 = rw e at k in
    record {
      is = e;
      small = small;
      counted = m;
      size = length-queue o c h b isc (omega arith) ∙ sym m;
      few = omega (arith, m, count_fits o c h isc (omega arith));
    }

-- the record that is looked at
looked : (o c b : List ℕ) (isc n : ℕ) (q : Queue) (z : Row o c b isc n q) → Held o c → (f : Record → Bool) (at s : ℕ) (x : Bool) → at < n
    → s ≡ get_or o (q.0 * slot_count + at) 0 → x ≡ f (slot 72 b s) → f (get_or (get_or (queues o c b) isc []) at []) ≡ x
looked o c b isc n q z h f at s x below es ex =
    let t = rw z.is at es in
    let r = queue-record o c h b isc at (omega arith) (omega arith) in
    sym (rw (t, ← r) at ex)

pub loop-k-init : goal.loop-k-init
unfolding choose
loop-k-init c =
    let a = c.args in
    (c.search.invariant.0, c.search.invariant.1 ∙ search-turn (queues a.o.now a.c.now a.b.now) _ _ _ true c.search-test.true (length-queues a.o.now a.c.now c.requires a.b.now) (sym c.if-not-has_bit.false ∙ c.has_bit.ensures))

pub loop-k-preserved : goal.loop-k-preserved
unfolding choose
loop-k-preserved c =
    let a = c.args in
    let z = row a.o.now a.c.now a.b.now _ _ _ c.requires c.search-test.true c.of-q.ensures c.count-k-end.ensures in
    (c.loop-k.invariant.0, c.loop-k.invariant.1 ∙ search-record (queues a.o.now a.c.now a.b.now) _ _ _ c.loop-k.k false (omega arith) (looked _ _ _ _ _ _ z c.requires (wanted a.subchannel) _ _ _ c.loop-k-test.true c.slot_of.ensures c.is_wanted.ensures ∙ c.if-is_wanted.false))

pub search-preserved-then-not-has_bit : goal.search-preserved-then-not-has_bit
unfolding choose
search-preserved-then-not-has_bit c =
    let a = c.args in
    (c.search.invariant.0, c.search.invariant.1 ∙ search-turn (queues a.o.now a.c.now a.b.now) _ _ _ false c.search-test.true (length-queues a.o.now a.c.now c.requires a.b.now) (sym c.if-not-has_bit.true ∙ c.has_bit.ensures))

pub search-preserved : goal.search-preserved
search-preserved c =
    let a = c.args in
    let z = row a.o.now a.c.now a.b.now _ _ _ c.requires c.search-test.true c.of-q.ensures c.count-k-end.ensures in
    (c.loop-k.invariant.0, c.loop-k.invariant.1 ∙ search-end (queues a.o.now a.c.now a.b.now) _ _ _ c.loop-k.k (omega arith))

pub returns-after-search : goal.returns-after-search
returns-after-search c =
    let a = c.args in
    let qs = queues a.o.now a.c.now a.b.now in
    let e = c.search.invariant.0 ∙ sym (c.search.invariant.1 ∙ search-over qs _ _ _ c.search-test.false) in
    record { clears = cleared _ _ qs _ e; hands = handed_out _ _ qs _ e; place = rw c.search.invariant.0 tt }

pub returns-then-is_wanted : goal.returns-then-is_wanted
unfolding choose
returns-then-is_wanted c =
    let a = c.args in
    let qs = queues a.o.now a.c.now a.b.now in
    let z = row a.o.now a.c.now a.b.now _ _ _ c.requires c.search-test.true c.of-q.ensures c.count-k-end.ensures in
    let w = looked _ _ _ _ _ _ z c.requires (wanted a.subchannel) _ _ _ c.loop-k-test.true c.slot_of.ensures c.is_wanted.ensures ∙ c.if-is_wanted.true in
    let e = sym (c.loop-k.invariant.1 ∙ search-record qs _ _ _ c.loop-k.k true (omega arith) w) in
    record { clears = cleared _ _ qs _ e; hands = handed_out _ _ qs _ e; place = (c.search-test.true, omega arith) }

pub slot_of-requires : goal.slot_of-requires
slot_of-requires c =
    let a = c.args in
    let z = row a.o.now a.c.now a.b.now _ _ _ c.requires c.search-test.true c.of-q.ensures c.count-k-end.ensures in
    (rw c.of-q.ensures (omega arith), omega arith)
