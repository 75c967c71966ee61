-- Big-endian numbers: what is written in n bytes reads back, at the start of a list and past other bytes.
use Prim.Native.Nat.{ℕ, zero, suc, ◌+◌, ◌%◌, ◌^◌, ◌<◌}
use mathlib.Core.Path.{◌≡◌, refl, sym, ap, ◌∙◌}
use mathlib.Core.List.{List, ◌++◌}
use native.Mathlib.Nat.{mod-one, mod-eq_of_lt, pow-succ', one-le-pow}
use native.Mathlib.Omega.{arith}
use lib.ListN.{length}
use lib.Arith.{mod-mul}
use lib.Seq.{take_at, drop-append-add}
use Rattle.rules.specs.Bytes.{number, bytes, field}

pub length-bytes : (n v : ℕ) → length (bytes n v) ≡ n
unfolding bytes
length-bytes zero v = refl
length-bytes (suc n) v = ap suc (length-bytes n v)

-- the n lowest bytes say the number modulo 256 ^ n
pub number-bytes-mod : (n v : ℕ) → number (bytes n v) ≡ v % 256 ^ n
unfolding bytes number
number-bytes-mod zero v = sym (mod-one v)
number-bytes-mod (suc n) v =
    rw (length-bytes n v, number-bytes-mod n v, pow-succ', mod-mul v {m = 256} {c = 256 ^ n} (omega arith) (one-le-pow n 256 (omega arith)))

pub number-bytes : (n v : ℕ) → v < 256 ^ n → number (bytes n v) ≡ v
number-bytes n v h = number-bytes-mod n v ∙ mod-eq_of_lt h

-- a field written at the start, and one behind k bytes
pub field-here : (n v : ℕ) (rest : List ℕ) → v < 256 ^ n → field 0 n (bytes n v ++ rest) ≡ v
field-here n v rest h = rw (take_at (bytes n v) rest n (length-bytes n v)) (number-bytes n v h)

pub field_past : (at n k : ℕ) (xs rest : List ℕ) → length xs ≡ k → field (k + at) n (xs ++ rest) ≡ field at n rest
field_past at n k xs rest h = rw (← h, drop-append-add xs rest at)
