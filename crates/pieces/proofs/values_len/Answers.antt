use mathlib.Core.Path.{ap, ◌∙◌}
use native.Mathlib.Omega.{arith}
use Rattle.buffer.specs.Capped.{capped}
use Rattle.buffer.proofs.Sums.{capped_is}
use Rattle.pieces.proofs.Values.{values-absent, values-list, values-both}
use Rattle.pieces.proofs.values_len.Goals as goal

pub returns-in-Absent : goal.returns-in-Absent
returns-in-Absent c = capped_is 0 (omega arith) ∙ ap capped (values-absent c.args.message.now _ c.in-Absent.is)

pub returns-in-Arguments : goal.returns-in-Arguments
returns-in-Arguments c =
    let s = c in
    let p = c.in-Arguments in
    capped_is _ (omega arith) ∙ ap capped (c.value_len.ensures ∙ values-list s.args.message.now _ _ p.is)

pub returns-in-Keywords : goal.returns-in-Keywords
returns-in-Keywords c =
    let s = c in
    let p2 = c.in-Keywords in
    let value-len2 = c.value_len-in-Keywords in
    let e = values-both s.args.message.now _ _ _ p2.is in
    c.plus.ensures ∙ ap capped (omega (arith, value-len2.ensures, c.value_len-in-Keywords-2.ensures))
