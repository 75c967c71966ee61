-- The table entries of REGISTER, behind them those of MODIFY, and behind these the others.
use Rattle.numbers.proofs.Basics.{refl, sym, ◌*◌, arith}
use Rattle.list_write.specs.declared.Entry.TheVariants.{Register, Modify}
use Rattle.list_write.specs.{Parts.each, Write.adapter_entries, Write.other_entries}
use Rattle.list_write.proofs.{Laws.table-next, Laws.registers-size, Laws.adapters-count, Laws.adapters-size}
use Rattle.list_write.proofs.put_table.Goals as goal

pub returns : goal.returns
unfolding adapter_entries
returns c = λ rs simm nimm w.
    let a = c.args in
    let k = c.requires.0 in
    let g = table-next a.out.now _ _ 20 (each Register a.image.now) (each Modify a.image.now) a.start a.p.registers (8 * a.p.registers) _ _ (sym k.registers)
    (registers-size a.image.now a.p k) (omega (arith, c.requires.2)) refl refl c.put_slots.ensures c.put_slots-2.ensures in
    table-next a.out.now _ _ 20 (adapter_entries a.image.now) (other_entries rs a.p.masks simm nimm a.p.apf) a.start _ _ _ _
    (adapters-count a.image.now a.p k) (adapters-size a.image.now a.p k) (omega (arith, c.requires.2)) (omega arith) (omega arith) g (c.put_others.ensures rs simm nimm w)
