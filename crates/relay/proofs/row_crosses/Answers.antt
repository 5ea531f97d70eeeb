use mathlib.Core.Bool.{true, false}
use mathlib.Core.Path.{◌≡◌, refl, sym, ap, ◌∙◌}
use native.Mathlib.Omega.{arith}
use lib.ListN.{length}
use Rattle.conversion.specs.Sources.{across}
use Rattle.outgoing.specs.Layout.{formats_of}
use Rattle.relay.proofs.Laws.{cross-hit, cross-miss, cross-skip, cross-end}
use borrow.Author.Rules.{rules}
use Rattle.relay.proofs.row_crosses.Goals.{else-holders-i, then-holders-i+else-not-same_format}
use Rattle.relay.proofs.row_crosses.Goals as goal

pub loop-i-init : goal.loop-i-init
loop-i-init c = refl

pub returns-then-not-same_format : goal.returns-then-not-same_format
returns-then-not-same_format c =
    let args = c.args in
    let loop = c.loop-i in
    let hs = args.holders in
    let m : length hs ≡ 8 = search rules in
    sym (loop.invariant ∙ cross-hit (formats_of args.packed) args.from hs loop.i (omega arith) c.if-holders-i.true
    (ap (λ g. across args.from g true false) (sym c.format_at.ensures) ∙ (sym c.same_format.ensures ∙ c.if-not-same_format.true)))

pub loop-i-preserved : goal.loop-i-preserved
loop-i-preserved c =
    let args = c.args in
    let loop = c.loop-i in
    let hs = args.holders in
    let m : length hs ≡ 8 = search rules in
    let fs = formats_of args.packed in
    loop.invariant ∙ elim c.if-holders-i.branch [
      | then-holders-i+else-not-same_format w ↦ cross-miss fs args.from hs loop.i (omega arith) w.if-holders-i.true
          (ap (λ g. across args.from g true false) (sym w.format_at.ensures) ∙ (sym w.same_format.ensures ∙ w.if-not-same_format.false))
      | else-holders-i w ↦ cross-skip fs args.from hs loop.i (omega arith) w.if-holders-i.false
    ]

pub returns : goal.returns
returns c =
    let args = c.args in
    let hs = args.holders in
    let m : length hs ≡ 8 = search rules in
    sym (c.loop-i.invariant ∙ cross-end (formats_of args.packed) args.from hs c.loop-i.i (omega arith))
