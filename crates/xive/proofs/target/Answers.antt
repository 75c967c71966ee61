-- `xive::target` meets its contract.
use Prim.Native.Nat.{ℕ}
use mathlib.Core.Path.{◌≡◌, ◌∙◌, sym, ap}
use mathlib.Core.Bool.{Bool}
use lib.Dec.{ltb}
use borrow.Author.Tests.{ltb-true}
use Rattle.std.proofs.lemmas.Result.{err_from_is_err_and}
use Rattle.xive_rules.specs.Words.{server_in}
use Rattle.xive.proofs.Laws.{target-short, target_lacks, target-no-server, target-done}
use Rattle.xive.proofs.target.Goals as goal

-- whether there is such a server, by the inner calls
served : (word s : ℕ) (t : Bool) → s ≡ server_in word → t ≡ ltb s 16 → ltb (server_in word) 16 ≡ t
served word s t e f = ap (λ (n : ℕ). ltb n 16) (sym e) ∙ sym f

pub returns-then-payload-lt-WORD_BYTES : goal.returns-then-payload-lt-WORD_BYTES
returns-then-payload-lt-WORD_BYTES c = target-short _ _ _ c.if-payload-lt-WORD_BYTES.true

pub returns-in_err-stored : goal.returns-in_err-stored
returns-in_err-stored c =
    let p = err_from_is_err_and c.from_residual.result c.from_residual.ensures.1 in
    rw (p.1, p.2) (target_lacks _ _ _ c.if-payload-lt-WORD_BYTES.false _ c.in_err-stored.ensures)

pub returns-then-not-is_server : goal.returns-then-not-is_server
returns-then-not-is_server c =
    let none = served _ _ _ c.server_in.ensures c.is_server.ensures ∙ c.if-not-is_server.true in
    target-no-server _ _ _ c.if-payload-lt-WORD_BYTES.false _ c.in_ok-stored.ensures (rw (← c.read_doubleword-word.ensures.0) none)

pub targeted_with-requires : goal.targeted_with-requires
targeted_with-requires c = ltb-true _ _ (served _ _ _ c.server_in.ensures c.is_server.ensures ∙ c.if-not-is_server.false)

pub store-requires : goal.store-requires
store-requires c = c.in_ok-stored.ensures.known

pub returns : goal.returns
returns c =
    let found = c.in_ok-stored.ensures in
    let word = c.read_doubleword-word.ensures.0 in
    let stored = c.targeted_with.ensures found.source found.stored in
    let there = served _ _ _ c.server_in.ensures c.is_server.ensures ∙ c.if-not-is_server.false in
    rw c.store.ensures
    (target-done _ _ _ c.if-payload-lt-WORD_BYTES.false _ _ found (rw (← word) there) (rw (← word) stored))
