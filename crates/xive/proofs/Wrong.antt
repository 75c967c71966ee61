-- What the promises rule out, on one small controller: to refuse what is accepted, to accept what is refused, to invent a
-- count, to change nothing, to give a constant. Each claim says that a promise with such an answer cannot hold, whatever
-- else the call leaves. By computation.
use Prim.Native.Nat.{ℕ}
use mathlib.Core.Path.{◌≡◌, ap}
use mathlib.Core.Bool.{true, false}
use mathlib.Core.Option.{none, some}
use mathlib.Core.List.{List, [], ◌∷◌}
use native.Mathlib.Omega.{arith}
use lib.ListN.{replicate}
use Rattle.rules.specs.Bytes.{choose, number}
use Rattle.rules.specs.Outcome.{Answer, sees, result, need◌else◌⨾◌, present◌else◌⨾◌}
use Rattle.xive_rules.specs.Sources.{ticket_limits, Sources, fresh, initial, targeted, initialises, targets, on_source, leaves, initialise, target, sync, outcome, step, Values, values_of, source_at}
use Rattle.xive_sources.specs.Stored.{targeting_of, level_of, source_of, sources_of}
use Rattle.xive.specs.Surface.{Called, Read}

-- source 0 is an LSI of level 1, the others are not initialised
abbrev stored : List ℕ
stored = 1664 ∷ replicate 1023 0

-- initialises an LSI of level 0; targets at server 0, priority 1
abbrev word : List ℕ
word = 0 ∷ 0 ∷ 0 ∷ 0 ∷ 0 ∷ 0 ∷ 0 ∷ 1 ∷ []

-- the level of source 0, and 2 where there is none; whether it is targeted
abbrev first_level : Sources → ℕ
first_level [] = 2
first_level (none ∷ s) = 2
first_level (some x ∷ s) = x.level

abbrev first_masked : Sources → ℕ
first_masked s = choose (values_of (source_at ticket_limits s 0)).masked 1 0

make-changes : sources_of stored ≡ fresh ticket_limits → ⊥
unfolding fresh source_of choose level_of
make-changes h = let e = ap first_level h in omega (arith, e)

make-no-constant : sources_of (replicate 1024 128) ≡ fresh ticket_limits → ⊥
unfolding fresh source_of choose level_of
make-no-constant h = let e = ap first_level h in omega (arith, e)

module _ (after : List ℕ) where
  initialise-accepts : Called (initialise 0) stored after word (sees 22 0 word) → ⊥
  unfolding step outcome initialises result need◌else◌⨾◌ choose
  initialise-accepts h = let e = ap (λ (a : Answer Sources). a.code) h.steps in omega (arith, e)

  initialise-counts-none : Called (initialise 0) stored after word (sees 0 1 word) → ⊥
  unfolding step outcome initialises result need◌else◌⨾◌ choose
  initialise-counts-none h = let e = ap (λ (a : Answer Sources). a.count) h.steps in omega (arith, e)

  initialise-refuses : Called (initialise 1024) stored after word (sees 0 0 word) → ⊥
  unfolding step outcome initialises result need◌else◌⨾◌ choose
  initialise-refuses h = let e = ap (λ (a : Answer Sources). a.code) h.steps in omega (arith, e)

  target-accepts : Called (target 0) stored after word (sees 22 0 word) → ⊥
  unfolding step outcome targets on_source result need◌else◌⨾◌ present◌else◌⨾◌ choose number source_of
  target-accepts h = let e = ap (λ (a : Answer Sources). a.code) h.steps in omega (arith, e)

  target-counts-none : Called (target 0) stored after word (sees 0 1 word) → ⊥
  unfolding step outcome targets on_source result need◌else◌⨾◌ present◌else◌⨾◌ choose number source_of
  target-counts-none h = let e = ap (λ (a : Answer Sources). a.count) h.steps in omega (arith, e)

  target-refuses : Called (target 1) stored after word (sees 0 0 word) → ⊥
  unfolding step outcome targets on_source result need◌else◌⨾◌ present◌else◌⨾◌ choose source_of
  target-refuses h = let e = ap (λ (a : Answer Sources). a.code) h.steps in omega (arith, e)

initialise-changes : Called (initialise 0) stored stored word (sees 0 0 word) → ⊥
unfolding step outcome initialises result need◌else◌⨾◌ choose number initial source_of level_of
initialise-changes h = let e = ap (λ (a : Answer Sources). first_level a.next) h.steps in omega (arith, e)

target-changes : Called (target 0) stored stored word (sees 0 0 word) → ⊥
unfolding step outcome targets on_source result need◌else◌⨾◌ present◌else◌⨾◌ choose number targeted source_of targeting_of values_of source_at
target-changes h = let e = ap (λ (a : Answer Sources). first_masked a.next) h.steps in omega (arith, e)

sync-accepts : Called (sync 0) stored stored [] (sees 22 0 []) → ⊥
unfolding step outcome leaves on_source result need◌else◌⨾◌ present◌else◌⨾◌ choose source_of
sync-accepts h = let e = ap (λ (a : Answer Sources). a.code) h.steps in omega (arith, e)

sync-refuses : Called (sync 1) stored stored [] (sees 0 0 []) → ⊥
unfolding step outcome leaves on_source result need◌else◌⨾◌ present◌else◌⨾◌ choose source_of
sync-refuses h = let e = ap (λ (a : Answer Sources). a.code) h.steps in omega (arith, e)

sync-counts-none : Called (sync 0) stored stored [] (sees 0 1 []) → ⊥
unfolding step outcome leaves on_source result need◌else◌⨾◌ present◌else◌⨾◌ choose source_of
sync-counts-none h = let e = ap (λ (a : Answer Sources). a.count) h.steps in omega (arith, e)

reading-accepts : Read 0 stored (record { code = 22; level = 0; kind = 0; masked = false; count = 0; word = 0 }) → ⊥
unfolding step outcome leaves on_source result need◌else◌⨾◌ present◌else◌⨾◌ choose source_of
reading-accepts h = let e = ap (λ (a : Answer Sources). a.code) h.called.steps in omega (arith, e)

reading-no-constant : Read 0 stored (record { code = 0; level = 0; kind = 0; masked = true; count = 0; word = 0 }) → ⊥
unfolding choose source_of source_at values_of level_of
reading-no-constant h = let e = ap (λ (v : Values). v.level) h.values in omega (arith, e)
