-- What proofs name all the time: equations, truth values, lists, numbers, and the lists of facts for the tactics.
-- Proofs import it from here in one line.
pub use mathlib.Core.Path.{◌≡◌, refl, sym, ap, ◌∙◌, subst, ap₂}
pub use mathlib.Core.Bool.{true, Bool, false, ◌&&◌, not, true≢false, ◌||◌}
pub use mathlib.Core.Logic.{⊎_elim, ◌⊎◌, inl, inr}
pub use mathlib.Core.Option.{none, some, Option}
pub use mathlib.Core.List.{List, [], ◌∷◌, ◌++◌, append_assoc, append-nil, map, map-append}
unfoldable pub use mathlib.Core.List.{flatten, zip_with}
pub use Prim.Native.Nat.{ℕ, zero, suc, ◌+◌, ◌-◌, ◌*◌, ◌/◌, ◌%◌, ◌^◌, ◌≤◌, ◌<◌, min}
pub use native.Mathlib.Nat.{zero-add, suc-add, not-suc-le-zero, le_of_suc-le-suc, add-zero, pow-zero, pow-suc}
pub use native.Mathlib.Nat.{div-div-eq-div-mul, div-one, mul_comm, suc-mul, mul-le-mul_right, div-le_self, add_assoc}
pub use native.Mathlib.Nat.{mul-add, div-lt_iff_lt-mul, mod-lt, lt_of_lt_of_le}
pub use native.Mathlib.Numerals.{add-one}
pub use native.Mathlib.Decide.{dec_lt}
pub use native.Mathlib.Omega.{arith}
pub use lib.ListN.{length, take, drop, get_or, set, length-drop, length-append, drop_of_length-le, length-set}
pub use lib.ListN.{replicate, length-map, length-take, get_or-map as list-get_or-map, get_or-eq_default as list-get_or-eq-default, take-append-drop}
pub use lib.Seq.{take_at, drop_at, take-take, take_all, take-suc, take-add, drop-cons, drop-drop, drop-paste}
pub use lib.Seq.{get_or-drop, length-take-le, paste, paste-zero, take-set-lt, take-set-le, get_or-take, get_or-set_same}
pub use lib.Seq.{get_or-set_other, length-paste, take-paste, take-suc-set, drop-set-lt, drop-set-add, drop-append-le}
pub use lib.Seq.{split_at, set_out, take-length}
pub use lib.Dec.{eqb, leb, ltb}
pub use lib.Bits.{bit_and, and_step, bit_or}
pub use borrow.Author.Tests.{eq-eqb, eqb-true, ne_eqb, eqb-false, ltb-true, ltb-false, not-true, not-false, le-leb}
pub use borrow.Author.Tests.{lt-leb, leb-true, leb-false, lt-ltb, le-ltb}
pub use borrow.Author.Rules.{rules}
