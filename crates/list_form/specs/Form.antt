-- 01, 'Move list', played: what is checked of a list before its requests are applied.
use Rattle.std.specs.Prelude.{ℕ, ◌+◌, ◌*◌, ◌≤◌, ◌≡◌, Bool, true, ◌&&◌, List, length, drop, eqb}
use Rattle.std.specs.Prelude.{Result, OnOk, IfErr}
use Rattle.rules.specs.State.{Limits, State, fresh}
use Rattle.rules.specs.Outcome.{refuse}
use Rattle.rules.specs.Requests.{is_zero}
use Rattle.rules.specs.MoveList.{header_bytes, table_entry_bytes, count_in, payload_offset, TableEntry, table_entry_in}
use Rattle.rules.specs.MoveList.{table_entries_in, movable, formed, requests_in, applies, most_requests, plays}
use Rattle.answers.specs.declared.Refusal.{Refusal}
use Rattle.answers.specs.Answers.{code_of}

-- the table entry at a place, counted from 0; all table entries
abbrev pub slot_at : ℕ → List ℕ → TableEntry
slot_at place b = table_entry_in (drop (header_bytes + table_entry_bytes * place) b)

abbrev pub slots_of : List ℕ → List TableEntry
slots_of b = table_entries_in (count_in b) (drop header_bytes b)

-- whether an entry's payload is at this offset, so that there is no gap, its zero word is 0, and its group is one that
-- a list may hold
abbrev pub slot_formed : ℕ → TableEntry → Bool
slot_formed at e = eqb e.at at && (is_zero e.zero_word && movable e.group)

-- what a list of good form has
pub record Formed (b : List ℕ) : Type 0 where
  pub few : count_in b ≤ most_requests
  pub table : payload_offset (count_in b) ≤ length b
  pub slots : formed (length b) (payload_offset (count_in b)) (slots_of b) ≡ true

-- What the answer says of a list. Ok: its form is good, and its requests are applied to a fresh controller. A refusal:
-- the list is refused with its number.
pub record Form (ais : Bool) (b : List ℕ) (r : Result (Unit {0}) Refusal) : Type 0 where
  pub good : OnOk r (Formed b)
  pub played : OnOk r ((L : Limits) (s : State) → s.ais ≡ ais
      → plays L s b ≡ applies L 0 (fresh L ais) (requests_in b (slots_of b)))
  pub refused : IfErr r (λ refusal. (L : Limits) (s : State) → s.ais ≡ ais → plays L s b ≡ refuse (code_of refusal))
