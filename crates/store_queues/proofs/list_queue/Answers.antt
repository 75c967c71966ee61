use Rattle.numbers.proofs.Basics.{◌≡◌, refl, sym, ◌∙◌, [], flatten, arith, length, get_or}
use Rattle.numbers.proofs.Basics.{paste-zero, take_all, rules}
use Rattle.store_queues.specs.Queues.{row, listed}
use Rattle.store_queues.proofs.{Laws.length-named, Laws.named-at, Laws.list-turn}
use Rattle.store_queues.proofs.list_queue.Goals as goal

pub loop-k-preserved : goal.loop-k-preserved
loop-k-preserved c =
    let r = c in
    let l = r.loop-k in
    let f = r in
    let a = f.args in
    let L = listed a.b.now (row a.o.now a.q.0 a.n) in
    let n = length-named a.b.now a.o.now a.q.0 (omega arith) a.n f.requires.1 in
    let at : r.read_slot.result ≡ get_or L l.k [] =
    rw r.slot_of.ensures at r.read_slot.ensures ∙ sym (named-at a.b.now a.o.now a.q.0 (omega arith) a.n f.requires.1 l.k (omega arith)) in
    let lr : length r.read_slot.result ≡ 72 = search rules in
    let t = list-turn L a.out.now l.out a.at l.k (omega arith) (rw at at lr) l.invariant.0 (omega arith) l.invariant.1 in
    (t.0, rw (at, t.1) at c.save.ensures)

pub returns : goal.returns
returns c =
    let l = c.loop-k in
    let f = c in
    let a = f.args in
    let n = length-named a.b.now a.o.now a.q.0 (omega arith) a.n f.requires.1 in
    let e : l.k ≡ a.n = omega arith in
    let z = take_all a.n (listed a.b.now (row a.o.now a.q.0 a.n)) (omega arith) in
    record { out_after = rw (e, z) at l.invariant.1; long = rw (e, z) at l.invariant.0 }

pub loop-k-init : goal.loop-k-init
loop-k-init c = unfold flatten in (refl, paste-zero c.args.out.now c.args.at [])
