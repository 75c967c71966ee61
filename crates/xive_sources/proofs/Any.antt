-- Any array of 1,024 stored numbers will do: it stands for sources that satisfy the facts of Reachable, and calls on
-- fresh sources leave just these.
use Prim.Native.Nat.{ℕ, ◌<◌}
use mathlib.Core.Path.{◌≡◌, ◌∙◌, subst}
use mathlib.Core.Option.{Option, some}
use mathlib.Core.List.{List, [], ◌∷◌}
use native.Mathlib.Omega.{arith}
use lib.ListN.{length, length-map}
use lib.Dec.{eqb}
use Rattle.rules.specs.Invariant.{All}
use Rattle.xive_rules.specs.Words.{bits, server_in, targeting_word}
use Rattle.xive_rules.specs.Sources.{ticket_limits, Source, fresh, after}
use Rattle.xive_rules.proofs.Reachable.{SoundSource, SoundPlace, Sound, level-chosen, msi-level}
use Rattle.xive_rules.proofs.Made.{all_made_by, Fits, all_made}
use Rattle.xive_sources.specs.Stored.{word_of, targeting_of, level_of, source_of, sources_of}
use Rattle.xive_sources.proofs.Laws.{either, the_one}

-- a word's server is one that there is, and the word has 64 bits
word-facts : (p s m e : ℕ) → p < 8 → s < 16 → m < 2 → e < 2147483648
    → (server_in (targeting_word p s m e) < 16) × (targeting_word p s m e < 18446744073709551616)
word-facts p s m e h k l j = (omega arith, omega arith)

of_word : (v w : ℕ) → targeting_of v ≡ some w → (server_in w < 16) × (w < 18446744073709551616)
unfolding targeting_of
of_word v w h =
    subst (λ (u : ℕ). (server_in u < 16) × (u < 18446744073709551616)) (the_one (eqb (bits 8 1 v) 0) w (word_of v) h)
    (word-facts (bits 0 3 v) (bits 3 4 v) (bits 32 1 v) (bits 33 31 v) (omega arith) (omega arith) (omega arith) (omega arith))

of_number : (v : ℕ) → SoundSource ticket_limits (record { kind = bits 9 1 v; level = level_of v; targeting = targeting_of v })
unfolding level_of
of_number v =
    record {
      kind = omega arith;
      level = level-chosen (eqb (bits 9 1 v) 1) (bits 10 1 v) (omega arith);
      msi = msi-level (bits 9 1 v) (bits 10 1 v);
      server = λ w h. (of_word v w h).0;
    }

-- what holds of each number's source holds of all
of-all : (P : Option Source → Type 0) → ((v : ℕ) → P (source_of v)) → (l : List ℕ) → All P (sources_of l)
of-all P h [] = tt
of-all P h (v ∷ l) = (h v, of-all P h l)

pub any-sound : (l : List ℕ) → length l ≡ ticket_limits.sources → Sound ticket_limits (sources_of l)
any-sound l h =
    record { number = length-map l source_of ∙ h; each = of-all (SoundPlace ticket_limits) (λ v. either (SoundPlace ticket_limits) v tt (of_number v)) l }

-- these calls on fresh sources leave what the array stands for
pub any-made : (l : List ℕ) → length l ≡ ticket_limits.sources → after ticket_limits (fresh ticket_limits) (all_made_by 0 (sources_of l)) ≡ sources_of l
any-made l h =
    all_made ticket_limits (sources_of l) (any-sound l h) (of-all Fits (λ v. either Fits v tt (λ w e. (of_word v w e).1)) l)
