-- An outcome of the rules, told to a caller who lent b in state s, is this answer, this next state and these bytes.
use Rattle.std.specs.Prelude.{ℕ, ◌≡◌, List, Result, Ok, Err}
use Rattle.rules.specs.State.{Limits, State}
use Rattle.rules.specs.Outcome.{Outcome, Seen, sees, answering, EINVAL, EOPNOTSUPP, EFAULT, ENOMEM, EBUSY, E2BIG}
use Rattle.rules.specs.Machine.{answer_of}
use Rattle.answers.specs.declared.Answer.{Answer}
use Rattle.answers.specs.declared.Refusal.{Refusal}
use Rattle.answers.specs.declared.Refusal.TheVariants.{NoEntry, TooBig, NoMemory, Fault, Busy, Invalid, NotSupported}

-- A code and a count, as the code answers them.
abbrev pub answered : (code count : ℕ) → Answer
answered code count = record { code = code; count = count }

-- 'Codes and the order of checks', and of paper 02's ticket 1 the refusal of a source that is not there: the number of
-- each refusal.
abbrev pub code_of : Refusal → ℕ
code_of NoEntry = 2
code_of TooBig = E2BIG
code_of NoMemory = ENOMEM
code_of Fault = EFAULT
code_of Busy = EBUSY
code_of Invalid = EINVAL
code_of NotSupported = EOPNOTSUPP

-- What is answered to a call that was accepted with a count, or refused: then the count is 0.
abbrev pub as_answer : Result ℕ Refusal → Answer
as_answer (Ok count) = answered 0 count
as_answer (Err refusal) = answered (code_of refusal) 0

-- What a caller sees of an answer and of the buffer that the call left.
abbrev pub saw : Answer → List ℕ → Seen
saw a b = sees a.code a.count b

abbrev pub Answers : Limits → State → List ℕ → Outcome State → Answer → State → List ℕ → Type 0
Answers L s b o a next left = answer_of L s b o ≡ answering (saw a left) next
