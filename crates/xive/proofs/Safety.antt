-- Demand 1 as one theorem, `safety`: from what each public function's own contract ensures, as the source states it,
-- follows what specs/Safety says of that call, for every input; and no contract requires anything. The theorem's
-- statement names the contracts themselves and nothing of Surface. So a promise of demand 1 that is dropped or
-- weakened, in Surface or in the source, is refused here, even where all other proofs are adapted to that.
use Prim.Native.Nat.{ℕ}
use mathlib.Core.Path.{◌≡◌, ap, sym, ◌∙◌, subst}
use mathlib.Core.Bool.{false}
use mathlib.Core.List.{List, [], ◌∷◌}
use lib.ListN.{replicate}
use mathlib.Core.Option.{none}
use seplogic.Ra.Ura.{Ura}
use base.Logic.{SProp, ent, emp, id⊢}
use prog.Memory.{Memory}
use prog.Routine.{Routine}
use types.Logic.{Logic}
use contract.Lifetimes.{Lfts}
use contract.Monad.{Fun, fact, fact_mono}
use denote.Triple.Entry.{Args, Res}
use denote.Triple.Clauses.{Ended, AtExit, Clauses}
use Rattle.rules.specs.Outcome.{Seen, sees, Answer}
use Rattle.xive_rules.specs.Sources.{ticket_limits, Sources, fresh, Ask, initialise, target, sync, reading, Values}
use Rattle.xive_rules.proofs.Laws.{call, number_of, codes_of, EveryAnswer, every-answer, refused-reads}
use Rattle.xive_sources.specs.declared.Reading.{Reading}
use Rattle.xive_sources.specs.Stored.{sources_of, values_in}
use Rattle.xive_sources.proofs.Laws.{zeros-stored}
use Rattle.xive.specs.Surface.{Called, Read}
use Rattle.xive.specs.Safety.{Safe, GivesNothing}
use Rattle.xive.specs.contracts.xive_make as xive-make
use Rattle.xive.specs.contracts.xive_initialise as xive-initialise
use Rattle.xive.specs.contracts.xive_target as xive-target
use Rattle.xive.specs.contracts.xive_sync as xive-sync
use Rattle.xive.specs.contracts.xive_read as xive-read

safe : (ask : Ask) (l l' b : List ℕ) (x : Seen) → Called ask l l' b x → Safe (codes_of ask) (number_of ask) l l' x.code x.count
safe ask l l' b x h =
    let a = subst (EveryAnswer (sources_of l) (call ask b)) h.steps (every-answer ticket_limits (sources_of l) (call ask b)) in
    record { known = a.code; no-count = a.count; refused = h.kept; others = a.others.1 }

gives_nothing : (n : ℕ) (l : List ℕ) (r : Reading) → Read n l r → GivesNothing r
gives_nothing n l r h k =
    let z = zeros k in
    (ap (λ (v : Values). v.level) z, ap (λ (v : Values). v.kind) z, ap (λ (v : Values). v.masked) z, ap (λ (v : Values). v.word) z)
  where
    zeros : (r.code ≡ 0 → ⊥) → values_in r ≡ record { level = 0; kind = 0; masked = false; word = 0 }
    zeros k = h.values ∙ refused-reads ticket_limits (sources_of l) n [] (λ e. k (ap (λ (a : Answer Sources). a.code) (sym h.called.steps) ∙ e))

safe-reading : (n : ℕ) (l : List ℕ) (r : Reading) → Read n l r → Safe (2 ∷ 22 ∷ []) n l l r.code r.count × GivesNothing r
safe-reading n l r h = (safe (reading n) l l [] (sees r.code r.count []) h.called, gives_nothing n l r h)

-- ---- the theorem
module _ {M : Type 1} (𝓤 : Ura M) where
  -- The contract requires nothing, for some ghost value; and what it ensures of the parameters at entry, the result and
  -- the parameters at exit has this consequence, for every ghost value.
  pub record Meets (T : Ended) (f : Clauses 𝓤 T) (P : (κs : Lfts T.signature.lifetimes) → Args T.signature κs → Res T.signature κs → AtExit T κs → Type 0)
      : Type 1 where
    pub always : (κs : Lfts T.signature.lifetimes) (a : Args T.signature κs) → (g : (f κs a).ghost) × ent 𝓤 (emp 𝓤) ((f κs a).requires g)
    pub ensures : (κs : Lfts T.signature.lifetimes) (a : Args T.signature κs) (g : (f κs a).ghost) (r : Res T.signature κs) (e : AtExit T κs)
        → ent 𝓤 ((f κs a).ensures g r e) (fact 𝓤 (P κs a r e))

module _ {M : Type 1} {𝓤 : Ura M} (𝓛 : Logic 𝓤) (mem : Memory → SProp 𝓤) (run : Routine → Fun 𝓤) where
  -- Demand 1, and that zeros are fresh. A parameter is named as at entry, and with a prime as at exit. A sync and a
  -- reading borrow the stored numbers shared.
  pub record Safety : Type 1 where
    pub zeros : sources_of (replicate 1024 0) ≡ replicate 1024 none
    pub make : Meets 𝓤 xive-make.ended (xive-make.clauses 𝓛 mem run) (λ κs a r (s', _). sources_of s'.now ≡ replicate 1024 none)
    pub initialise : Meets 𝓤 xive-initialise.ended (xive-initialise.clauses 𝓛 mem run)
        (λ κs (s, (n, _)) r (s', _). Safe (14 ∷ 7 ∷ []) n s.now s'.now r.code r.count)
    pub target : Meets 𝓤 xive-target.ended (xive-target.clauses 𝓛 mem run)
        (λ κs (s, (n, _)) r (s', _). Safe (14 ∷ 2 ∷ 22 ∷ []) n s.now s'.now r.code r.count)
    pub sync : Meets 𝓤 xive-sync.ended (xive-sync.clauses 𝓛 mem run)
        (λ κs (s, (n, _)) r e. Safe (2 ∷ 22 ∷ []) n s.now s.now r.code r.count)
    pub reading : Meets 𝓤 xive-read.ended (xive-read.clauses 𝓛 mem run)
        (λ κs (s, (n, _)) r e. Safe (2 ∷ 22 ∷ []) n s.now s.now r.code r.count × GivesNothing r)

  pub safety : Safety
  unfolding fresh
  safety =
      record {
        zeros = zeros-stored 1024;
        make = record { always = λ κs a. (tt, id⊢ 𝓤 (emp 𝓤)); ensures = λ κs a g r e. fact_mono 𝓤 _ _ (λ h. h) };
        initialise = record { always = λ κs a. (tt, id⊢ 𝓤 (emp 𝓤)); ensures = λ κs a g r e. fact_mono 𝓤 _ _ (safe (initialise _) _ _ _ _) };
        target = record { always = λ κs a. (tt, id⊢ 𝓤 (emp 𝓤)); ensures = λ κs a g r e. fact_mono 𝓤 _ _ (safe (target _) _ _ _ _) };
        sync = record { always = λ κs a. (tt, id⊢ 𝓤 (emp 𝓤)); ensures = λ κs a g r e. fact_mono 𝓤 _ _ (safe (sync _) _ _ _ _) };
        reading = record { always = λ κs a. (tt, id⊢ 𝓤 (emp 𝓤)); ensures = λ κs a g r e. fact_mono 𝓤 _ _ (safe-reading _ _ _) };
      }
