use lib.ListN.{drop}
use lib.Seq.{drop-drop}
use Rattle.seq.specs.Lists.{every}
use Rattle.image.specs.declared.Kind.TheVariants.{Members, Owner}
use Rattle.image.specs.Image.{cut, session_formed, row_formed, formed, table_formed}
use Rattle.seq.proofs.Lists.{rest-size}
use mathlib.Core.Path.{◌≡◌, sym, ◌∙◌}
use Rattle.image.specs.Image.{formed, table_formed}
use Rattle.image.proofs.parts_formed.Goals as goal

pub returns-then-not-sessions_formed : goal.returns-then-not-sessions_formed
unfolding formed
returns-then-not-sessions_formed c =
    let s = c.args.s.now in
    let e : c.sessions_formed.result ≡ every session_formed (cut 25 8 s) = c.sessions_formed.ensures in
    rw (sym e ∙ c.if-not-sessions_formed.true)

pub returns-then-not-rows_formed : goal.returns-then-not-rows_formed
unfolding formed table_formed
returns-then-not-rows_formed c =
    let c3 = c in
    let c4 = c3 in
    let c6 = c4 in
    let s = c6.args.s.now in
    let e : c4.sessions_formed.result ≡ every session_formed (cut 25 8 s) = c4.sessions_formed.ensures in
    let f : c.rows_formed.result ≡ every (row_formed Members) (cut 139 32 (drop 8 (drop 200 s))) =
    rw (drop-drop 8 200 s) (rw (rest-size 208 s) at c.rows_formed.ensures) in
    rw (sym e ∙ c3.if-not-sessions_formed.false, sym f ∙ c.if-not-rows_formed.true)

pub returns : goal.returns
unfolding formed table_formed
returns c =
    let c2 = c in
    let c3 = c2 in
    let c5 = c3 in
    let c6 = c5 in
    let c8 = c6 in
    let s = c8.args.s.now in
    let e : c6.sessions_formed.result ≡ every session_formed (cut 25 8 s) = c6.sessions_formed.ensures in
    let f : c3.rows_formed.result ≡ every (row_formed Members) (cut 139 32 (drop 8 (drop 200 s))) =
    rw (drop-drop 8 200 s) (rw (rest-size 208 s) at c3.rows_formed.ensures) in
    let g : c.rows_formed-2.result ≡ every (row_formed Owner) (cut 139 32 (drop 8 (drop 4656 s))) =
    rw (drop-drop 8 4656 s) (rw (rest-size 4664 s) at c.rows_formed-2.ensures) in
    rw (sym e ∙ c5.if-not-sessions_formed.false, sym f ∙ c2.if-not-rows_formed.false) g
