use Prim.Native.Nat.{◌+◌, ◌<◌}
use mathlib.Core.Path.{◌≡◌, sym, ap, ap₂, ◌∙◌}
use native.Mathlib.Omega.{arith}
use borrow.Author.Tests.{eq-eqb}
use lib.ListN.{length}
use Rattle.seq.proofs.Lists.{length-mapped, get_d_any, every-end}
use Rattle.seq.proofs.Loops.{pairs_start, pairs-fail, pairs-pass, pairs_next, pairs_end}
use Rattle.model.specs.Rules.{calls_apart}
use Rattle.model.specs.State.{no_call, idle}
use Rattle.rules.proofs.Laws.{idle-apart}
use borrow.Author.Rules.{rules}
use Rattle.rules.proofs.call_pairs.Goals as goal

pub loop-i-init : goal.loop-i-init
loop-i-init c = pairs_start calls_apart no_call c.args.calls

pub loop-i-preserved-then-a-eq0 : goal.loop-i-preserved-then-a-eq0
unfolding idle
loop-i-preserved-then-a-eq0 c =
    let xs = c.args.calls in
    let l : length xs ≡ 32 = search (rules, length-mapped) in
    let i = c.loop-i.i in
    let h : i < length xs = omega arith in
    let u = ap idle (get_d_any xs i no_call _ h) ∙ eq-eqb _ _ c.if-a-eq0.true in
    c.loop-i.invariant ∙ pairs_next calls_apart no_call xs i (i + 1) (idle-apart _ u _)

pub returns-then-not-calls_apart : goal.returns-then-not-calls_apart
returns-then-not-calls_apart c =
    let xs = c.args.calls in
    let l : length xs ≡ 32 = search (rules, length-mapped) in
    let i = c.loop-i.i in
    let j = c.loop-j.j in
    let h : i < length xs = omega arith in
    let k : j < length xs = omega arith in
    let s = ap₂ calls_apart (get_d_any xs i no_call _ h) (get_d_any xs j no_call _ k) ∙ sym c.calls_apart.ensures in
    sym (c.loop-j.invariant ∙ pairs-fail calls_apart no_call xs i j k (s ∙ c.if-not-calls_apart.true))

pub loop-j-preserved : goal.loop-j-preserved
loop-j-preserved c =
    let xs = c.args.calls in
    let l : length xs ≡ 32 = search (rules, length-mapped) in
    let i = c.loop-i.i in
    let j = c.loop-j.j in
    let h : i < length xs = omega arith in
    let k : j < length xs = omega arith in
    let s = ap₂ calls_apart (get_d_any xs i no_call _ h) (get_d_any xs j no_call _ k) ∙ sym c.calls_apart.ensures in
    c.loop-j.invariant ∙ pairs-pass calls_apart no_call xs i j k (s ∙ c.if-not-calls_apart.false)

pub loop-i-preserved : goal.loop-i-preserved
loop-i-preserved c =
    let xs = c.args.calls in
    let l : length xs ≡ 32 = search (rules, length-mapped) in
    let j = c.loop-j.j in
    c.loop-j.invariant ∙ pairs_next calls_apart no_call xs c.loop-i.i j (every-end _ xs j (omega arith))

pub returns : goal.returns
returns c =
    let xs = c.args.calls in
    let l : length xs ≡ 32 = search (rules, length-mapped) in
    let i = c.loop-i.i in
    sym (c.loop-i.invariant ∙ pairs_end calls_apart no_call xs i (i + 1) (omega arith) (omega arith))
