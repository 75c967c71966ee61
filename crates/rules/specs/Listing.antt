-- Paper 01, the last paragraph of 'Move list' and the end of 'Checked examples': what the listing program prints.
use Rattle.std.specs.Prelude.{ℕ, zero, suc, ◌+◌, ◌/◌, ◌%◌, ◌^◌, List, [], ◌∷◌, ◌++◌, length, ltb, eqb}
use Prim.Native.Char.{code}
use Prim.Native.String.{String, [] as empty_text, ◌∷◌ as ◌then◌}
use Rattle.rules.specs.Bytes.{choose, field}
use Rattle.rules.specs.State.{paper_limits, Record, Kind, kind, subclass, interruption_word, State, fresh, listing}
use Rattle.rules.specs.Outcome.{E2BIG, Answer}
use Rattle.rules.specs.MoveList.{ais_flag_in, plays}
use Rattle.rules.specs.Machine.{answer_of}

-- A text as bytes.
unfoldable pub ascii : String → List ℕ
ascii empty_text = []
ascii (c then t) = code c ∷ ascii t

-- A digit as a character: 0 to 9, then a to f in lower case (48 is `0`, 87 + 10 is `a`).
unfoldable pub digit : ℕ → ℕ
digit d = choose (ltb d 10) (48 + d) (87 + d)

-- The n lowest digits of a number to a base. The highest of them comes first.
unfoldable pub digits : (base n v : ℕ) → List ℕ
digits base zero v = []
digits base (suc n) v = digit (v / base ^ n % base) ∷ digits base n v

-- How many decimal digits v has. n only bounds the steps; it is at least v.
unfoldable pub digit_count : ℕ → ℕ → ℕ
digit_count zero v = 1
digit_count (suc n) v = choose (ltb v 10) 1 (suc (digit_count n (v / 10)))

-- A number in decimal.
unfoldable pub decimal : ℕ → List ℕ
decimal v = digits 10 (digit_count v v) v

-- A number as eight hex digits.
abbrev pub hex8 : ℕ → List ℕ
hex8 v = digits 16 8 v

-- A line: words with one space between two, and a newline.
unfoldable pub line : List (List ℕ) → List ℕ
line [] = ascii "\n"
line (w ∷ []) = w ++ ascii "\n"
line (w ∷ x ∷ ws) = w ++ (ascii " " ++ line (x ∷ ws))

-- The word for a kind. A record of another type is never pending.
unfoldable pub name : Kind → List ℕ
name Kind.io = ascii "io"
name Kind.done = ascii "done"
name Kind.service = ascii "service"
name Kind.mchk = ascii "mchk"
name Kind.other = ascii "other"

-- Subclass and word are printed for I/O records; they are `-` for the other three.
unfoldable pub of_io : Kind → List ℕ → List ℕ
of_io Kind.io w = w
of_io Kind.done w = ascii "-"
of_io Kind.service w = ascii "-"
of_io Kind.mchk w = ascii "-"
of_io Kind.other w = ascii "-"

-- The line of a record: place from 0; kind; subclass; type; interruption word. The last two have eight hex digits.
unfoldable pub record_line : ℕ → Record → List ℕ
record_line place r =
    line (decimal place ∷ name (kind r) ∷ of_io (kind r) (decimal (subclass r)) ∷ hex8 (field 0 8 r)
    ∷ of_io (kind r) (hex8 (interruption_word r)) ∷ [])

-- The lines of records; the first has the place given.
unfoldable pub lines_from : ℕ → List Record → List ℕ
lines_from place [] = []
lines_from place (r ∷ rs) = record_line place r ++ lines_from (suc place) rs

-- The listing: first `pending ` and the number pending, then the lines.
unfoldable pub shown : List Record → List ℕ
shown rs = line (ascii "pending" ∷ decimal (length rs) ∷ []) ++ lines_from 0 rs

-- A refused list: `refused ` and the code, alone.
unfoldable pub refusal : ℕ → List ℕ
refusal code = line (ascii "refused" ∷ decimal code ∷ [])

-- The text for an answer.
unfoldable pub told : Answer State → List ℕ
told a = choose (eqb a.code 0) (shown (listing a.next.pending)) (refusal a.code)

-- A fresh controller of the list's flag. An input below 20 bytes may have no flag; then it does not matter, since the
-- input is refused with 14 whatever the controller.
abbrev pub fresh_for : List ℕ → State
fresh_for b = fresh paper_limits (eqb (ais_flag_in b) 1)

-- The longest input that is played.
abbrev pub most_bytes : ℕ
most_bytes = 65536

-- What the program prints for an input. More than 65,536 bytes are answered as code 7.
unfoldable pub printed : List ℕ → List ℕ
printed b =
    choose (ltb most_bytes (length b)) (refusal E2BIG)
    (told (answer_of paper_limits (fresh_for b) b (plays paper_limits (fresh_for b) b)))
