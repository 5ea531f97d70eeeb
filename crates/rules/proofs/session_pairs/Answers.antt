use Prim.Native.Nat.{◌+◌, ◌<◌}
use mathlib.Core.Path.{◌≡◌, sym, ap₂, ◌∙◌}
use native.Mathlib.Omega.{arith}
use lib.ListN.{length}
use Rattle.seq.proofs.Lists.{length-mapped, get_d_any, every-end}
use Rattle.seq.proofs.Loops.{pairs_start, pairs-fail, pairs-pass, pairs_next, pairs_end}
use Rattle.model.specs.Rules.{ids_apart}
use Rattle.model.specs.State.{no_session}
use borrow.Author.Rules.{rules}
use Rattle.rules.proofs.session_pairs.Goals as goal

pub loop-i-init : goal.loop-i-init
loop-i-init c = pairs_start ids_apart no_session c.args.sessions

pub returns-then-not-ids_apart : goal.returns-then-not-ids_apart
returns-then-not-ids_apart c =
    let xs = c.args.sessions in
    let l : length xs ≡ 8 = search (rules, length-mapped) in
    let i = c.loop-i.i in
    let j = c.loop-j.j in
    let h : i < length xs = omega arith in
    let k : j < length xs = omega arith in
    let s = ap₂ ids_apart (get_d_any xs i no_session _ h) (get_d_any xs j no_session _ k) ∙ sym c.ids_apart.ensures in
    sym (c.loop-j.invariant ∙ pairs-fail ids_apart no_session xs i j k (s ∙ c.if-not-ids_apart.true))

pub loop-j-preserved : goal.loop-j-preserved
loop-j-preserved c =
    let xs = c.args.sessions in
    let l : length xs ≡ 8 = search (rules, length-mapped) in
    let i = c.loop-i.i in
    let j = c.loop-j.j in
    let h : i < length xs = omega arith in
    let k : j < length xs = omega arith in
    let s = ap₂ ids_apart (get_d_any xs i no_session _ h) (get_d_any xs j no_session _ k) ∙ sym c.ids_apart.ensures in
    c.loop-j.invariant ∙ pairs-pass ids_apart no_session xs i j k (s ∙ c.if-not-ids_apart.false)

pub loop-i-preserved : goal.loop-i-preserved
loop-i-preserved c =
    let xs = c.args.sessions in
    let l : length xs ≡ 8 = search (rules, length-mapped) in
    let j = c.loop-j.j in
    c.loop-j.invariant ∙ pairs_next ids_apart no_session xs c.loop-i.i j (every-end _ xs j (omega arith))

pub returns : goal.returns
returns c =
    let xs = c.args.sessions in
    let l : length xs ≡ 8 = search (rules, length-mapped) in
    let i = c.loop-i.i in
    sym (c.loop-i.invariant ∙ pairs_end ids_apart no_session xs i (i + 1) (omega arith) (omega arith))
