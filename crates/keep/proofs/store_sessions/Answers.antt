use Rattle.model.specs.State.{no_session}
use Prim.Native.Nat.{◌*◌}
use mathlib.Core.Path.{◌≡◌, refl, sym, ◌∙◌}
use native.Mathlib.Omega.{arith}
use lib.ListN.{length}
use lib.Seq.{take_all}
use Rattle.seq.specs.Lists.{joined}
use Rattle.seq.proofs.Lists.{length-mapped}
use Rattle.image.specs.Image.{session_bytes}
use Rattle.image.proofs.Laws.{length-session, put-nil, put-more, length_more}
use borrow.Author.Rules.{rules}
use Rattle.keep.proofs.store_sessions.Goals as goal

pub loop-i-init : goal.loop-i-init
loop-i-init c = (refl, refl, sym (put-nil c.args.s.now c.args.at))

pub loop-i-preserved : goal.loop-i-preserved
loop-i-preserved c =
    let a = c.args in
    let i = c.loop-i.i in
    let n = c.loop-i.invariant.1 in
    let l : length a.rows ≡ 8 = search (rules, length-mapped) in (
      c.store_session.auto.s ∙ c.loop-i.invariant.0,
      length_more session_bytes 25 a.rows i no_session (omega arith) n (length-session _),
      c.store_session.ensures ∙ rw c.loop-i.invariant.2 (put-more session_bytes 25 a.rows i _ (omega arith) n a.s.now a.at (omega arith)),
    )

pub returns : goal.returns
returns c =
    let rows = c.args.rows in
    let l : length rows ≡ 8 = search (rules, length-mapped) in
    let e = take_all c.loop-i.i rows (omega arith) in
    let n : length (joined session_bytes rows) ≡ c.loop-i.i * 25 = rw e at c.loop-i.invariant.1 in
    (c.loop-i.invariant.2 ∙ rw e, omega arith)
