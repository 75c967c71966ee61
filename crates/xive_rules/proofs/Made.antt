-- The facts of Reachable say no more than what calls leave: whatever sources satisfy them, with words of 64 bits, are
-- made of fresh ones by calls, from what is read of each: it is initialised with its type and level, and targeted with
-- its word.
use Prim.Native.Nat.{ℕ, suc, ◌+◌, ◌*◌, ◌<◌, ◌≤◌}
use mathlib.Core.Path.{◌≡◌, refl, sym, ap, ◌∙◌}
use mathlib.Core.Option.{Option, none, some}
use mathlib.Core.List.{List, [], ◌∷◌, ◌++◌}
use native.Mathlib.Omega.{arith}
use native.Mathlib.Decide.{dec_lt}
use borrow.Author.Tests.{eq-eqb, ne_eqb}
use lib.ListN.{length, replicate, length-append}
use lib.Seq.{append_snoc, set-set, set_at}
use lib.Dec.{eqb}
use Rattle.rules.specs.Bytes.{choose, bytes}
use Rattle.rules.specs.Invariant.{All}
use Rattle.rules.proofs.Codec.{length-bytes}
use Rattle.xive_rules.specs.Words.{kind_in, level_in}
use Rattle.xive_rules.specs.Sources.{Limits, Source, Sources, fresh, with_source, initial, targeted, initialise, target, Call, step, after}
use Rattle.xive_rules.proofs.Laws.{call, at_set, given_word, initialise-leaves, target-leaves}
use Rattle.xive_rules.proofs.Reachable.{SoundSource, SoundPlace, Sound}

-- the calls that make a source, and all from a number on
unfoldable pub targeted_by : ℕ → Option ℕ → List Call
targeted_by n none = []
targeted_by n (some word) = call (target n) (bytes 8 word) ∷ []

unfoldable pub made_by : ℕ → Option Source → List Call
made_by n none = []
made_by n (some x) = call (initialise n) (bytes 8 (x.kind + 2 * x.level)) ∷ targeted_by n x.targeting

unfoldable pub all_made_by : ℕ → Sources → List Call
all_made_by n [] = []
all_made_by n (o ∷ s) = made_by n o ++ all_made_by (suc n) s

-- its word has 64 bits
abbrev pub Fits : Option Source → Type 0
Fits none = Unit {0}
Fits (some x) = (word : ℕ) → x.targeting ≡ some word → word < 18446744073709551616

-- the word that initialises a source again
made_again : (L : Limits) (x : Source) → SoundSource L x → initial (x.kind + 2 * x.level) ≡ record { kind = x.kind; level = x.level; targeting = none }
unfolding initial choose
made_again L x h =
    let k : kind_in (x.kind + 2 * x.level) ≡ x.kind = omega (arith, h.kind) in
    let l : level_in (x.kind + 2 * x.level) ≡ x.level = omega (arith, h.kind, h.level) in
    rw (k, l, kept-level x.kind x.level h.kind h.msi)
  where
    kept-level : (k l : ℕ) → k < 2 → (k ≡ 0 → l ≡ 0) → choose (eqb k 1) l 0 ≡ l
    kept-level k l p q = elim (dec_lt k 1) [
      | yes z ↦ rw (ne_eqb k 1 (λ e. omega (arith, e, z))) (sym (q (omega (arith, z))))
      | no z ↦ rw (eq-eqb k 1 (omega (arith, p, z)))
    ]

eight : (word : ℕ) → 8 ≤ length (bytes 8 word)
eight word = omega (arith, length-bytes 8 word)

module _ (L : Limits) (s : Sources) (n : ℕ) (here : (n < L.sources) × (n < length s)) (x : Source) (sound : SoundSource L x) where
  abbrev masked : Source
  masked = record { kind = x.kind; level = x.level; targeting = none }

  begun : (step L s (call (initialise n) (bytes 8 (x.kind + 2 * x.level)))).next ≡ with_source n masked s
  begun =
      initialise-leaves L s n _ (eight (x.kind + 2 * x.level)) here.0
      ∙ rw (given_word (x.kind + 2 * x.level) (omega (arith, sound.kind, sound.level)), made_again L x sound)

  goes_on : (o : Option ℕ) → x.targeting ≡ o → Fits (some x) → after L (with_source n masked s) (targeted_by n o) ≡ with_source n x s
  unfolding after targeted_by targeted
  goes_on none e h = rw (← e)
  goes_on (some word) e h =
      let w = given_word word (h word e) in
      target-leaves L (with_source n masked s) n (bytes 8 word) masked (eight word) (at_set L s n masked here) (rw w (sound.server word e))
      ∙ rw (w, set-set s n (some masked) (some (record { kind = x.kind; level = x.level; targeting = some word })), ← e)

  one-made : Fits (some x) → after L s (made_by n (some x)) ≡ with_source n x s
  unfolding after made_by
  one-made h = ap (λ (t : Sources). after L t (targeted_by n x.targeting)) begun ∙ goes_on x.targeting refl h

after-append : (L : Limits) (s : Sources) (cs ds : List Call) → after L s (cs ++ ds) ≡ after L (after L s cs) ds
unfolding after
after-append L s [] ds = refl
after-append L s (c ∷ cs) ds = after-append L (step L s c).next cs ds

-- behind sources that are made
place-made : (L : Limits) (p : Sources) (o : Option Source) (rest : Sources) (n : ℕ) → length p ≡ n → n < L.sources → SoundPlace L o → Fits o
    → after L (p ++ none ∷ rest) (made_by n o) ≡ p ++ o ∷ rest
unfolding after made_by
place-made L p none rest n e k h f = refl
place-made L p (some x) rest n e k h f =
    one-made L (p ++ none ∷ rest) n (k, omega (arith, length-append p (none ∷ rest), e)) x h f ∙ set_at p none rest (some x) n e

rest-made : (L : Limits) (p s : Sources) (n : ℕ) → length p ≡ n → n + length s ≤ L.sources → All (SoundPlace L) s → All Fits s
    → after L (p ++ replicate (length s) none) (all_made_by n s) ≡ p ++ s
unfolding after all_made_by
rest-made L p [] n e k h f = refl
rest-made L p (o ∷ s) n e k h f =
    after-append L (p ++ none ∷ replicate (length s) none) (made_by n o) (all_made_by (suc n) s)
    ∙ ap (λ (t : Sources). after L t (all_made_by (suc n) s)) (place-made L p o (replicate (length s) none) n e (omega arith) h.0 f.0 ∙ sym (append_snoc p o (replicate (length s) none)))
    ∙ rest-made L (p ++ (o ∷ [])) s (suc n) (length-append p (o ∷ []) ∙ omega (arith, e)) (omega arith) h.1 f.1
    ∙ append_snoc p o s

pub all_made : (L : Limits) (s : Sources) → Sound L s → All Fits s → after L (fresh L) (all_made_by 0 s) ≡ s
unfolding fresh
all_made L s h f =
    ap (λ (k : ℕ). after L (replicate k none) (all_made_by 0 s)) (sym h.number)
    ∙ rest-made L [] s 0 refl (omega (arith, h.number)) h.each f
