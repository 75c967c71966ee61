-- What a played list prints.
use Rattle.numbers.proofs.Basics.{◌≡◌, sym, ◌∙◌, List, ◌++◌, ℕ, ◌≤◌, ◌<◌, zero-add, length, take, drop, take-length}
use Rattle.numbers.proofs.Basics.{length-take-le, eqb, lt-ltb, le-ltb, arith, length-paste}
use Rattle.rules.specs.{Bytes.choose, State.Pending, State.listing, Listing.shown, Listing.refusal, Listing.told, Listing.most_bytes, Listing.printed}
use Rattle.rules.proofs.Checks.{chosen, passed}
use Rattle.list_fresh.specs.Fresh.{PlayedFresh}
use Rattle.answers.specs.declared.Answer.{Answer}
use Rattle.listing_text.specs.Wrote.{Wrote}

-- the buffer is as long as it was
pub wrote-long : {d e : List ℕ} {at : ℕ} {t : List ℕ} {i : ℕ} → Wrote d e at t i → length e ≡ length d
wrote-long {d} {e} {at} {t} w = rw w.now (length-paste d at t (length t) (omega (arith, w.ends, w.fits)) (omega arith))

-- text from the buffer's start
pub whole : {d e t : List ℕ} {n : ℕ} (u : List ℕ) → Wrote d e 0 t n → u ≡ t
    → ((n ≡ length u) × (e ≡ u ++ drop n d)) × ((n ≤ length e) × (n ≡ length (take n e)))
whole {e = e} {t = t} {n = n} u w k =
    let f : n ≤ length e = rw (wrote-long w) w.fits in
    ((rw (k, w.ends, zero-add), rw (k, w.now, w.ends, take-length t)), (f, sym (length-take-le n e f)))

pub too_long : (b : List ℕ) → most_bytes < length b → printed b ≡ refusal 7
unfolding printed
too_long b h = chosen _ _ _ (lt-ltb most_bytes (length b) h)

pub printed-is : (b : List ℕ) (p : Pending) (a : Answer) → length b ≤ most_bytes → PlayedFresh b p a
    → printed b ≡ choose (eqb a.code 0) (shown (listing p)) (refusal a.code)
unfolding printed told
printed-is b p a h e = passed _ _ _ (le-ltb most_bytes (length b) h) ∙ rw (e.code, e.pending)
