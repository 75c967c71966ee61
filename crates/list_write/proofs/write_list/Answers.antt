-- The length is computed first; then the parts are put one behind the other.
use Rattle.std.proofs.Common.{rules}
use Rattle.numbers.proofs.Basics.{◌≡◌, refl, sym, ap, ◌∙◌, List, ℕ, ◌+◌, ◌*◌, arith, length}
use Rattle.rules.specs.{State.State, State.Record, State.listing, MoveList.ListRequest, MoveList.list_requests, MoveList.total}
use Rattle.rules.proofs.Reachable.{length-records}
use Rattle.store.specs.{Memory.pending_in}
use Rattle.numbers.proofs.Laws.{flag}
use Rattle.adapters.specs.{Values.device_of}
use Rattle.list_image.specs.{Places.places_of}
use Rattle.list_write.specs.{declared.Parts.Parts, Write.entries_from, Write.Counted, Write.WholeListing}
use Rattle.list_write.proofs.{Laws.entries-count, Laws.entries-size, Laws.entries-are, Laws.list_put, Laws.too_short, Laws.written}
use Rattle.list_write.proofs.write_list.Goals as goal
use Rattle.list_write.proofs.write_list.Goals.{After-payload_bytes}

-- what is counted, and the entries that are written
module _ (c : After-payload_bytes) where
  abbrev parts : Parts
  parts =
      record { registers = c.count.result; modifies = c.count-2.result; records = c.pending_whole.result; masks = c.has_masks.result; apf = c.args.device.apf }

  abbrev records : List Record
  records = listing (pending_in c.args.c.now)

  abbrev entries : List ListRequest
  entries = entries_from c.args.image.now records parts.masks c.args.device.simm c.args.device.nimm parts.apf

  counted : Counted c.args.image.now parts
  counted = record {
    whole = search rules;
    registers = c.count.ensures.0;
    modifies = c.count-2.ensures.0;
    few_registers = c.count.ensures.1;
    few_modifies = c.count-2.ensures.1;
    few_records = c.pending_whole.ensures.few;
  }

  whole : WholeListing records parts.records
  whole =
      let p = c.pending_whole.ensures in
      record { count = sym p.count; size = length-records _ p.whole ∙ ap (λ (n : ℕ). 72 * n) (sym p.count) }

  count-is : length entries ≡ c.entry_count-n.result
  count-is = entries-count _ parts counted _ _ _ whole ∙ sym c.entry_count-n.ensures.0

  total-is : 20 + 24 * c.entry_count-n.result + c.payload_bytes.result ≡ total entries
  total-is = rw (count-is, entries-size _ parts counted records c.args.device.simm c.args.device.nimm whole, ← c.payload_bytes.ensures.0)

  same : (s : State) → s.ais ≡ c.args.c.now.ais → s.adapters ≡ places_of c.args.image.now → s.pending ≡ pending_in c.args.c.now
      → s.device ≡ device_of c.args.device → entries ≡ list_requests s
  same s e1 e2 e3 e4 = sym (entries-are s _ _ _ c.args.device _ e1 e2 e3 e4 c.has_masks.ensures)

pub returns : goal.returns
returns c =
    let a = c.args in
    let p = (goal.at.returns c).After-payload_bytes in
    let g = list_put a.c.now.ais (entries p) a.out.now _ _ _ _ _ (count-is p) (total-is p) c.if-out-total.false (rw (c.from.ensures, flag a.c.now.ais) at c.put_five.ensures)
    (c.put_table.ensures _ a.device.simm a.device.nimm (whole p)) c.put_payloads.ensures in
    record { answer = λ L s e1 e2 e3 e4. written L s _ _ _ (same p s e1 e2 e3 e4) (total-is p) _ a.c.now.ais e1 c.if-out-total.false g; kept = tt }

pub returns-then-out-total : goal.returns-then-out-total
returns-then-out-total c =
    let p = (goal.at.returns-then-out-total c).After-payload_bytes in
    record { answer = λ L s e1 e2 e3 e4. too_short L s _ _ _ (same p s e1 e2 e3 e4) (total-is p) c.if-out-total.true; kept = refl }

pub put_payloads-requires : goal.put_payloads-requires
put_payloads-requires c =
    let p = (goal.at.put_payloads-requires c).After-payload_bytes in
    (c.requires, counted p, whole p, omega (arith, c.entry_count-n.ensures.1), rw (← c.payload_bytes.ensures.0) (omega (arith, c.if-out-total.false)))
