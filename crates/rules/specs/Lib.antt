-- The plain machine of paper 01. The files follow the paper's order, but the codes (Outcome) come before the requests
-- that use them. Read them from the first to the last. What a reader has to believe is these files and the library
-- functions named below; everything else is proved from them.
--
-- Terms of paper 01, used here as the paper uses them: adapter place, AIS capability, claimed length, device record,
-- finished page faults, fresh, guest take, lent, listing, move list, pending record, plain machine, played.
--
-- Notation. `name : A → B → C` says that `name` takes an A and a B and gives a C; `name a b` is its value. A definition
-- by cases has a line for each case, and the first line that fits counts. ℕ is the type of the numbers 0, 1, 2, ..
-- without upper bound, Bool has true and false, `Option A` is `none` or `some` A. `abbrev` and `unfoldable` tell the
-- checker when it may compute a definition; both mean the same to a reader. `{A : Type 0} → ..` says that the rest is
-- for any type A, which a use does not write or writes as `{A = ..}`. `Unit {0}` is a type of one value, `tt`. `λ x. e`
-- is the function that takes x to e.
-- A list is `[]`, or `a ∷ l` for a in front of l; `++` joins two lists. `r.f` is the field f of the record r, and
-- `record { f = v; .. }` a record. `suc n` is n + 1 and `zero` is 0. `&&`, `||` and `not` are and, or and not.
--
-- Library functions. Positions in a list count from 0.
--   a - b           the difference, 0 where b is above a
--   a / b, a % b    quotient and remainder; no divisor here is 0
--   a ^ b           a to the power of b
--   leb a b, ltb a b, eqb a b    whether a is at most b, below b, equal to b
--   bit_or a b      OR of the binary digits
--   length l        how many elements l has
--   get_or l i d    the element of l at i; d where l has none there
--   set l i a       l with a at position i; l itself where it has no position i
--   take n l, drop n l    the first n elements of l (all of them where it has fewer); what is left without them
--   replicate n a   n times a
--   flatten l       the lists of the list l, joined in order
--   zip_with f l m  f of the elements of l and m, pair by pair, as long as both have one
--
-- Functions of these files that read like words: `choose test a b` (Bytes) is a where the test holds and b otherwise;
-- `need test else code ⨾ rest` (Outcome) refuses with the code where the test fails and otherwise goes on with the
-- rest; `present value else code ⨾ λ x. rest` (Outcome) does the same for a value that may be missing, and calls it x.
pub mod Bytes
pub mod State
pub mod Outcome
pub mod Requests
pub mod Take
pub mod MoveList
pub mod Machine
pub mod Listing
pub mod Invariant
