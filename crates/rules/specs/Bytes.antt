-- Paper 01, 'What the controller is': all multi-byte fields are big-endian. A byte is a number, and bytes are a list
-- of numbers. The numbers are not bounded by 256: no call looks at the bound (`Invariant.IsByte` says it).
use Rattle.std.specs.Prelude.{ℕ, zero, suc, ◌+◌, ◌*◌, ◌/◌, ◌%◌, ◌^◌, Bool, true, false, List, [], ◌∷◌, length}
use Rattle.std.specs.Prelude.{get_or, take, drop}

-- The first value where the test holds, the second where it fails.
unfoldable pub choose {ℓ} : {A : Type ℓ} → Bool → A → A → A
choose true a b = a
choose false a b = b

-- The number that bytes stand for. The first byte is the highest.
unfoldable pub number : List ℕ → ℕ
number [] = 0
number (b ∷ bs) = b * 256 ^ length bs + number bs

-- The n lowest bytes of a number. The highest of them comes first.
unfoldable pub bytes : ℕ → ℕ → List ℕ
bytes zero v = []
bytes (suc n) v = v / 256 ^ n % 256 ∷ bytes n v

-- The byte at a position; 0 past the end.
abbrev pub byte : ℕ → List ℕ → ℕ
byte at b = get_or b at 0

-- The n bytes from a position on; fewer where the list ends before.
abbrev pub part : ℕ → ℕ → List ℕ → List ℕ
part at n b = take n (drop at b)

-- The number that these bytes stand for.
abbrev pub field : ℕ → ℕ → List ℕ → ℕ
field at n b = number (part at n b)
