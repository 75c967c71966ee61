-- 01, the end of 'Checked examples': texts of the listing program, in full, by computation.
use Prim.Native.Nat.{ℕ}
use mathlib.Core.Path.{◌≡◌, refl}
use mathlib.Core.List.{List, [], ◌∷◌, ◌++◌}
use lib.ListN.{replicate}
use Rattle.rules.specs.Listing.{ascii, digit, digits, digit_count, decimal, line, name, of_io, record_line, lines_from, shown, refusal, told, printed}
use Rattle.rules.proofs.Examples.{shows, header_of, slot_of, airq_record, record_of, empty_list, after_p9}

unfoldable prints : Unit {0}
unfolding shows header_of slot_of ascii digit digits digit_count decimal line name of_io record_line lines_from shown refusal told printed
prints = tt

-- from the 174 bytes of the move list after P9
printed-p9 : printed after_p9 ≡ ascii "pending 1\n0 io 3 04000000 98000000\n"
unfolding prints after_p9
printed-p9 = refl

printed-empty : printed (empty_list 0) ≡ ascii "pending 0\n"
unfolding prints
printed-empty = refl

-- one of each kind
four_kinds : List ℕ
four_kinds =
    header_of 332 1 0
    ++ (slot_of 44 2 288 288 ++ (record_of 0xfffe1000 ++ (record_of 0xffff2401 ++ (record_of 0xfffe0005 ++ airq_record 0xb8000abc))))

printed-four : printed four_kinds ≡ ascii "pending 4\n0 io 7 04000000 b8000abc\n1 done - fffe0005 -\n2 service - ffff2401 -\n3 mchk - fffe1000 -\n"
unfolding prints four_kinds
printed-four = refl

-- fewer than 20 bytes; a list without the capability that sets AISM_ALL; as many bytes as are read, whose total is wrong; one byte too many
printed-short : printed (replicate 19 0) ≡ ascii "refused 14\n"
unfolding prints
printed-short = refl

printed-incapable : printed (header_of 46 1 0 ++ (slot_of 44 11 2 0 ++ (0 ∷ 0 ∷ []))) ≡ ascii "refused 95\n"
unfolding prints
printed-incapable = refl

printed-most : printed (replicate 65536 0) ≡ ascii "refused 22\n"
unfolding prints
printed-most = refl

printed-long : printed (replicate 65537 0) ≡ ascii "refused 7\n"
unfolding prints
printed-long = refl

-- places and codes of one, two and three digits
numbers : line (decimal 258 ∷ decimal 100 ∷ decimal 99 ∷ decimal 10 ∷ decimal 9 ∷ decimal 0 ∷ []) ≡ ascii "258 100 99 10 9 0\n"
unfolding prints
numbers = refl
