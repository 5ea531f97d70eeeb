use mathlib.Core.Path.{sym, ◌∙◌}
use Rattle.strings.proofs.Places.{heads-all, heads-apart}
use Rattle.strings.proofs.same_text.Goals as goal

pub returns-then-n-x : goal.returns-then-n-x
returns-then-n-x c =
    let args = c.args in
    sym (heads-apart args.x.now args.y.now _ c.alike-n.ensures
    (λ z. c.if-byte-eq92.false (c.byte.ensures ∙ z))
    (λ z. c.if-byte-eq92-2.false (c.byte-2.ensures ∙ z)) c.if-n-x.true)

pub returns : goal.returns
returns c =
    let args = c.args in
    sym (heads-all args.x.now args.y.now _ c.alike-n.ensures
    (λ z. c.if-byte-eq92.false (c.byte.ensures ∙ z))
    (λ z. c.if-byte-eq92-2.false (c.byte-2.ensures ∙ z)) c.if-n-x.false)
