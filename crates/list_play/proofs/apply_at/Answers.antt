-- `list_play::apply_at` meets its contract: the numbers read are the table entry's, and its payload lies within the list.
use Rattle.numbers.proofs.Basics.{List, ℕ, ◌+◌, ◌*◌, ◌≡◌, sym, ap, ◌∙◌, arith, true≢false}
use Rattle.rules.specs.Bytes.{field}
use Rattle.rules.specs.MoveList.{movable}
use Rattle.list_form.specs.Form.{slot_at}
use Rattle.list_form.proofs.Laws.{inside, slot-within}
use Rattle.list_play.proofs.{Laws.as-slot}
use Rattle.list_play.proofs.apply_at.Goals as goal

-- the size that was read is the table entry's, and the payload ends within the list
size_is : (place n : ℕ) (b : List ℕ) → n ≡ field (20 + 24 * place + 8) 4 b → n ≡ (slot_at place b).size
size_is place n b e = e ∙ inside (20 + 24 * place) 8 4 b

pub returns : goal.returns
returns c =
    let r = c in
    let a = r.args in
    let e = 20 + 24 * a.place in
    let b = a.list.now in record {
      set_by_entry = as-slot _ _ _ b (slot_at a.place b) _ _ _ _ _ r.read_be-at.ensures.0 (size_is a.place _ b r.read_be.ensures.0) (r.read_be-group.ensures.0 ∙ inside e 4 4 b)
          (r.read_doubleword-attr.ensures.0 ∙ inside e 16 8 b) c.set_listed.ensures.set_to;
      held = c.set_listed.ensures.held;
    }

pub slice_bounds-set_listed-end : goal.slice_bounds-set_listed-end
slice_bounds-set_listed-end c =
    omega (arith, size_is c.args.place _ c.args.list.now c.read_be.ensures.0, c.read_be-at.ensures.0, (slot-within c.args.list.now c.args.place c.requires.2 c.requires.3).0)

pub set_listed-requires : goal.set_listed-requires
set_listed-requires c = let r = c in
    let f = r in
    let m = ap movable (r.read_be-group.ensures.0 ∙ inside (20 + 24 * f.args.place) 4 4 f.args.list.now) ∙ (slot-within f.args.list.now f.args.place f.requires.2 f.requires.3).1 in
    (f.requires.0, f.requires.1, λ z. true≢false (sym m ∙ ap movable z), λ z. true≢false (sym m ∙ ap movable z), λ z. true≢false (sym m ∙ ap movable z))
