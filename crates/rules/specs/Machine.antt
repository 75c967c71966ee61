-- Paper 01, 'How much each promise says': the plain machine. It is one controller; that a guest has only one instance
-- (000) is the monitor's affair.
use Rattle.std.specs.Prelude.{ℕ, Bool, List, [], ◌∷◌, eqb}
use Rattle.rules.specs.State.{Limits, State, fresh}
use Rattle.rules.specs.Outcome.{EFAULT, Outcome, need◌else◌⨾◌, Answer, result, Seen, seen}
use Rattle.rules.specs.Requests.{set_request, get_request, request}
use Rattle.rules.specs.Take.{takes}
use Rattle.rules.specs.MoveList.{writes, plays}

-- What is asked: a request of 'Request numbers and effects', set or get, with group and attribute; a guest take, with
-- the subclasses that are allowed and whether external interrupts and machine checks are; the writing of a move list;
-- the playing of one. Numbers have no bound here; in the code a group has 32 bits and an attribute 64.
pub data Ask : Type 0 where
  set_attr get_attr : (group attr : ℕ) → Ask
  guest_take : (subclasses : ℕ) (external_allowed mchk_allowed : Bool) → Ask
  write_list play_list : Ask

-- Of a call the machine sees only what is asked, the lent payload or buffer, and the length of the lent adapter table.
pub record Call : Type 0 where
  pub ask : Ask
  pub buffer : List ℕ
  -- the length of the lent table; a take is lent none and ignores it
  pub table_length : ℕ

-- 'Codes and the order of checks': the adapter table is checked first (14), except at a take.
unfoldable pub outcome : Limits → State → Ask → ℕ → List ℕ → Outcome State
outcome L s (set_attr group attr) table_length b =
    need eqb table_length L.places else EFAULT ⨾ request L s (set_request group) attr b
outcome L s (get_attr group attr) table_length b =
    need eqb table_length L.places else EFAULT ⨾ request L s (get_request group) attr b
outcome L s (guest_take subclasses external_allowed mchk_allowed) table_length b =
    takes s subclasses external_allowed mchk_allowed b
outcome L s write_list table_length b = need eqb table_length L.places else EFAULT ⨾ writes s b
outcome L s play_list table_length b = need eqb table_length L.places else EFAULT ⨾ plays L s b

-- The answer to a caller who lent a buffer to a controller in this state.
abbrev pub answer_of : Limits → State → List ℕ → Outcome State → Answer State
answer_of L s b o = result (fresh L s.ais) s b o

-- One call: the answer, with the next state and the buffer.
unfoldable pub step : Limits → State → Call → Answer State
step L s c = answer_of L s c.buffer (outcome L s c.ask c.table_length c.buffer)

-- What the callers see of a list of calls, made one after another.
unfoldable pub answers : Limits → State → List Call → List Seen
answers L s [] = []
answers L s (c ∷ cs) = seen (step L s c) ∷ answers L (step L s c).next cs

-- The state after a list of calls.
unfoldable pub after : Limits → State → List Call → State
after L s [] = s
after L s (c ∷ cs) = after L (step L s c).next cs
