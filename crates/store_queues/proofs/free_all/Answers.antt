use Rattle.numbers.proofs.Basics.{◌≡◌, refl, ◌∙◌, ◌*◌, zero-add, arith, paste-zero}
use Rattle.numbers.proofs.Laws.{paste_more}
use Rattle.store_queues.specs.{Slots.slot_count, Queues.up_from}
use Rattle.store_queues.proofs.{Laws.length_up, Laws.up_at}
use Rattle.store_queues.proofs.free_all.Goals as goal

pub loop-i-init : goal.loop-i-init
loop-i-init c = paste-zero c.args.o.now (9 * slot_count) (up_from 0 slot_count)

pub loop-i-preserved : goal.loop-i-preserved
loop-i-preserved c = let a = c.args in
    let l = c.loop-i in
    let v = up_at 0 slot_count l.i (omega arith) ∙ zero-add l.i in
    (rw v at (paste_more l.o a.o.now (9 * slot_count) (up_from 0 slot_count) l.i _ slot_count 0 refl (omega arith) (omega (arith, length_up 0 slot_count)) (omega arith) l.auto.o l.invariant)).2

pub returns : goal.returns
returns c = let e : c.loop-i.i ≡ slot_count = omega arith in rw e at c.loop-i.invariant
