-- Paper 01, 'Codes and the order of checks': the codes, what a call comes to, and how that is told. Everything but the
-- codes is for any controller: A is the type of its states. (000 also has ENOBUFS, where an allocation of the kernel
-- fails. Nothing is allocated here.)
use Rattle.std.specs.Prelude.{ℕ, Bool, true, false, List, ◌++◌, length, drop}
use mathlib.Core.Option.{Option, none, some}

abbrev pub EINVAL : ℕ
EINVAL = 22

abbrev pub EOPNOTSUPP : ℕ
EOPNOTSUPP = 95

abbrev pub EFAULT : ℕ
EFAULT = 14

abbrev pub ENOMEM : ℕ
ENOMEM = 12

abbrev pub EBUSY : ℕ
EBUSY = 16

abbrev pub E2BIG : ℕ
E2BIG = 7

-- What a call comes to. `refuse_with`: refused, and nothing changes; it holds neither a state nor bytes, so it cannot
-- change any. `accept`: accepted, with the next state and the bytes written from the buffer's start. `reset_with`
-- ('Move list'): a list refused part-way, with the code of the refused request, its place in the list, counted from 0,
-- and a further number; the controller is then fresh.
pub data Outcome (A : Type 0) : Type 0 where
  refuse_with : (code count : ℕ) → Outcome A
  accept : (count : ℕ) (next : A) (written : List ℕ) → Outcome A
  reset_with : (code place further : ℕ) → Outcome A

-- 'Request numbers and effects': the answer is a code and a count. Where a list is played there can be a further
-- number. Beside them stand the next state and the buffer as the call leaves it.
pub record Answer (A : Type 0) : Type 0 where
  pub code : ℕ
  pub count : ℕ
  pub further : ℕ
  pub next : A
  pub buffer : List ℕ

-- Answers of the machine are written out only here.
abbrev pub tell_with : {A : Type 0} → (code count further : ℕ) (next : A) (buffer : List ℕ) → Answer A
tell_with code count further next buffer =
    record { code = code; count = count; further = further; next = next; buffer = buffer }

-- In paper 01 a refusal that changes nothing has count 0, and no answer has a further number. The rules say this only
-- here: they use these three definitions.
abbrev pub refuse : {A : Type 0} → (code : ℕ) → Outcome A
refuse code = refuse_with code 0

abbrev pub reset : {A : Type 0} → (code place : ℕ) → Outcome A
reset code place = reset_with code place 0

abbrev pub tell : {A : Type 0} → (code count : ℕ) (next : A) (buffer : List ℕ) → Answer A
tell code count next buffer = tell_with code count 0 next buffer

-- Checks in order: where the test fails, the call is refused with the code, and the rest is not looked at.
infixr 10 need◌else◌⨾◌
unfoldable pub need◌else◌⨾◌ : {A : Type 0} → Bool → ℕ → Outcome A → Outcome A
need true else code ⨾ rest = rest
need false else code ⨾ rest = refuse code

-- The same for a value that may be missing. If there is none, the call is refused with the code. Otherwise the rest
-- gets the value.
infixr 10 present◌else◌⨾◌
unfoldable pub present◌else◌⨾◌ : {X A : Type 0} → Option X → ℕ → (X → Outcome A) → Outcome A
present none else code ⨾ rest = refuse code
present (some x) else code ⨾ rest = rest x

-- The answer to a caller who lent a buffer to a controller in this state. `afresh` is that controller made fresh. A
-- refusal changes nothing. `accept` writes at the buffer's start, and the bytes after that stay. `reset_with` has the
-- place of the refused request as count, and leaves the controller fresh and the buffer as it was.
unfoldable pub result : {A : Type 0} → (afresh state : A) → List ℕ → Outcome A → Answer A
result afresh state b (refuse_with code count) = tell code count state b
result afresh state b (accept count next written) = tell 0 count next (written ++ drop (length written) b)
result afresh state b (reset_with code place further) = tell_with code place further afresh b

-- What the caller of a call sees.
pub record Seen : Type 0 where
  pub code : ℕ
  pub count : ℕ
  pub further : ℕ
  pub buffer : List ℕ

abbrev pub seen : {A : Type 0} → Answer A → Seen
seen a = record { code = a.code; count = a.count; further = a.further; buffer = a.buffer }

-- What the caller sees of an answer with this code and count that leaves this buffer, whatever state comes next.
abbrev pub sees : (code count : ℕ) (buffer : List ℕ) → Seen
sees code count buffer = seen {A = Unit {0}} (tell code count tt buffer)

-- The answer of which the caller sees x. `next` is the state that comes next.
abbrev pub answering : {A : Type 0} → Seen → A → Answer A
answering x next = tell_with x.code x.count x.further next x.buffer
