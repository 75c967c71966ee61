-- The table's length is looked at first; then the list is played as the machine plays it. Only where the controller was
-- made fresh are the device record and the table stored.
use Rattle.rules.specs.Machine.{play_list}
use Rattle.numbers.proofs.Basics.{sym, ◌∙◌}
use Rattle.calls.proofs.Limits.{right-length, wrong-length}
use Rattle.flic.proofs.Promises.{wrong-promises, same-promises, play-promises}
use Rattle.flic.proofs.flic_play_list.Goals as goal

pub returns-then-t-ne-PLACES : goal.returns-then-t-ne-PLACES
returns-then-t-ne-PLACES c =
    let a = c.args in
    rw c.from.ensures (wrong-promises a.c.now a.d.now a.t.now a.list.now (wrong-length a.c.now _ c.if-t-ne-PLACES.true) play_list tt)

pub play_list-played-requires : goal.play_list-played-requires
play_list-played-requires c = ((c.requires (right-length c.args.c.now _ c.if-t-ne-PLACES.false)).ready, c.empty-image.ensures)

pub returns : goal.returns
returns c =
    let a = c.args in
    let right = right-length a.c.now _ c.if-t-ne-PLACES.false in
    let f = c.play_list-played.ensures in
    rw (c.answer-2.ensures, c.restore.ensures)
    (play-promises a.c.now _ _ a.d.now _ a.t.now a.list.now c.play_list-played.result right (c.requires right) (record { played = f.played; held = f.held.0; ais = f.held.1; kept = f.kept })
    (sym c.made_fresh.ensures ∙ c.if-not-made_fresh.false))

pub returns-then-not-made_fresh : goal.returns-then-not-made_fresh
returns-then-not-made_fresh c =
    let a = c.args in
    let right = right-length a.c.now _ c.if-t-ne-PLACES.false in
    let f = c.play_list-played.ensures in
    rw c.answer.ensures
    (same-promises a.c.now _ _ a.d.now _ a.t.now a.list.now c.play_list-played.result right (c.requires right) (record { played = f.played; held = f.held.0; ais = f.held.1; kept = f.kept })
    (sym c.made_fresh.ensures ∙ c.if-not-made_fresh.true))
