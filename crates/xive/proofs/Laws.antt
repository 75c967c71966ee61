-- From the tests and the inner calls of a public call to what it promises.
use Prim.Native.Nat.{ℕ, ◌<◌, ◌≤◌}
use mathlib.Core.Path.{◌≡◌, refl, sym, ap, ◌∙◌}
use Rattle.std.specs.{Prelude.Result, Prelude.Ok, Prelude.Err, Result.result_and}
use mathlib.Core.Bool.{true, false}
use mathlib.Core.Option.{some}
use mathlib.Core.List.{List, []}
use borrow.Author.Tests.{le-leb, lt-leb, lt-ltb, le-ltb}
use lib.ListN.{length, set}
use lib.Dec.{ltb}
use Rattle.std.proofs.lemmas.List.{map-set}
use Rattle.rules.specs.Outcome.{refuse, accept, result}
use Rattle.rules.proofs.Checks.{passes, fails}
use Rattle.answers.specs.declared.Refusal.{Refusal}
use Rattle.answers.specs.declared.Refusal.TheVariants.{TooBig, Fault, Invalid}
use Rattle.answers.specs.Answers.{code_of}
use Rattle.xive_rules.specs.Words.{word_in, server_in}
use Rattle.xive_rules.specs.Sources.{ticket_limits, Source, with_source, initial, targeted, initialises, targets, leaves, Ask, initialise, target, sync, reading, outcome, step, values_of}
use Rattle.xive_rules.proofs.Looks.{lacking, finding}
use Rattle.xive_sources.specs.declared.Reading.{Reading}
use Rattle.xive_sources.specs.Stored.{source_of, sources_of, Lacks, Finds, Looked, values_in}
use Rattle.xive.specs.Surface.{Ran, Read}

-- from an outcome to the promise: it is refused; one source is stored anew; nothing changes
module _ (ask : Ask) (l b : List ℕ) where
  refused : (e : Refusal) → outcome ticket_limits (sources_of l) ask b ≡ refuse (code_of e) → Ran ask l l b (Err e)
  unfolding step result
  refused e h = record { steps = rw h; kept = λ k. refl }

  stored-anew : (n v : ℕ) (x : Source) → outcome ticket_limits (sources_of l) ask b ≡ accept 0 (with_source n x (sources_of l)) []
      → source_of v ≡ some x → Ran ask l (set l n v) b (Ok 0)
  unfolding step result
  stored-anew n v x e k = record { steps = rw (e, map-set source_of l n v, k); kept = λ h. absurd (h refl) }

  unchanged : outcome ticket_limits (sources_of l) ask b ≡ accept 0 (sources_of l) [] → Ran ask l l b (Ok 0)
  unfolding step result
  unchanged e = record { steps = rw e; kept = λ k. refl }

module _ (n : ℕ) (l b : List ℕ) where
  pub initialise-short : length b < 8 → Ran (initialise n) l l b (Err Fault)
  unfolding outcome initialises
  initialise-short h = refused (initialise n) l b Fault (fails _ _ _ (lt-leb 8 _ h))

  pub initialise-unknown : 8 ≤ length b → 1024 ≤ n → Ran (initialise n) l l b (Err TooBig)
  unfolding outcome initialises
  initialise-unknown h k = refused (initialise n) l b TooBig (passes _ _ _ (le-leb 8 _ h) ∙ fails _ _ _ (le-ltb n 1024 k))

  pub initialise-done : 8 ≤ length b → n < 1024 → (v : ℕ) → source_of v ≡ some (initial (word_in b)) → Ran (initialise n) l (set l n v) b (Ok 0)
  unfolding outcome initialises
  initialise-done h k v = stored-anew (initialise n) l b n v _ (passes _ _ _ (le-leb 8 _ h) ∙ passes _ _ _ (lt-ltb n 1024 k))

  pub target-short : length b < 8 → Ran (target n) l l b (Err Fault)
  unfolding outcome targets
  target-short h = refused (target n) l b Fault (fails _ _ _ (lt-leb 8 _ h))

  pub target_lacks : 8 ≤ length b → (e : Refusal) → Lacks l n (code_of e) → Ran (target n) l l b (Err e)
  unfolding outcome targets
  target_lacks h e k =
      refused (target n) l b e
      (passes _ _ _ (le-leb 8 _ h) ∙ lacking ticket_limits (sources_of l) n _ k.nothing ∙ ap refuse (sym k.reason))

  pub target-no-server : 8 ≤ length b → (v : ℕ) → Finds l n v → ltb (server_in (word_in b)) 16 ≡ false → Ran (target n) l l b (Err Invalid)
  unfolding outcome targets
  target-no-server h v k t =
      refused (target n) l b Invalid
      (passes _ _ _ (le-leb 8 _ h) ∙ finding ticket_limits (sources_of l) n _ k.source k.there ∙ fails _ _ _ t)

  pub target-done : 8 ≤ length b → (u v : ℕ) → (k : Finds l n u) → ltb (server_in (word_in b)) 16 ≡ true
      → source_of v ≡ some (targeted (word_in b) k.source) → Ran (target n) l (set l n v) b (Ok 0)
  unfolding outcome targets
  target-done h u v k t =
      stored-anew (target n) l b n v _
      (passes _ _ _ (le-leb 8 _ h) ∙ finding ticket_limits (sources_of l) n _ k.source k.there ∙ passes _ _ _ t)

-- a sync, by what the look gives, and a reading
module _ (n : ℕ) (l : List ℕ) where
  pub synced : (r : Result ℕ Refusal) → Looked l n r → Ran (sync n) l l [] (result_and r (Ok 0))
  unfolding outcome leaves
  synced (Err e) k = refused (sync n) l [] e (lacking ticket_limits (sources_of l) n _ k.nothing ∙ ap refuse (sym k.reason))
  synced (Ok v) k = unchanged (sync n) l [] (finding ticket_limits (sources_of l) n _ k.source k.there)

  pub read-lacks : (r : Reading) (e : Refusal) → Lacks l n (code_of e)
      → r ≡ record { code = code_of e; level = 0; kind = 0; masked = false; count = 0; word = 0 } → Read n l r
  unfolding outcome leaves values_of
  read-lacks r e k f =
      record {
        called = rw f (refused (reading n) l [] e (lacking ticket_limits (sources_of l) n _ k.nothing ∙ ap refuse (sym k.reason)));
        values = rw (f, k.nothing);
      }

  pub read_done : (r : Reading) (v : ℕ) (k : Finds l n v) → r.code ≡ 0 → r.count ≡ 0 → values_in r ≡ values_of (some k.source) → Read n l r
  unfolding outcome leaves
  read_done r v k c d e =
      record {
        called = rw (c, d) (unchanged (reading n) l [] (finding ticket_limits (sources_of l) n _ k.source k.there));
        values = e ∙ ap values_of (sym k.there);
      }
