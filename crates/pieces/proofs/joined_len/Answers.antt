use mathlib.Core.Path.{ap, ◌∙◌}
use native.Mathlib.Omega.{arith}
use lib.ListN.{length}
use Rattle.buffer.specs.Capped.{capped}
use Rattle.buffer.proofs.Sums.{capped_is}
use Rattle.pieces.proofs.Values.{joined-absent, joined-list, joined-both-length}
use Rattle.pieces.proofs.joined_len.Goals as goal

pub returns-in-Absent : goal.returns-in-Absent
returns-in-Absent c = capped_is 0 (omega arith) ∙ ap (λ l. capped (length l)) (joined-absent c.args.message.now _ c.in-Absent.is)

pub returns-in-Arguments : goal.returns-in-Arguments
returns-in-Arguments c =
    let s = c in
    let p = c.in-Arguments in
    capped_is _ (omega arith) ∙ ap (λ l. capped (length l)) (c.text.ensures ∙ joined-list s.args.message.now _ _ p.is)

pub returns-in-Keywords : goal.returns-in-Keywords
returns-in-Keywords c =
    let s = c in
    let p2 = c.in-Keywords in
    let e = joined-both-length s.args.message.now _ _ _ p2.is in
    c.plus.ensures ∙ ap capped (omega (arith, ap length c.text-in-Keywords.ensures, ap length c.text-in-Keywords-2.ensures))
