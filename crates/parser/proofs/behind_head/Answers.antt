use mathlib.Core.Path.{ap, ◌∙◌}
use Prim.Native.Nat.{ℕ}
use mathlib.Core.List.{List}
use native.Mathlib.Omega.{arith}
use lib.ListN.{drop}
use Rattle.seq.specs.Bytes.{text_of}
use Rattle.msgpack.specs.declared.Head.{Head}
use Rattle.msgpack.specs.Head.{head_at}
use Rattle.parser.proofs.Laws.{behind-is, behind-in}
use Rattle.parser.proofs.behind_head.Goals as goal

pub overflow_add-result : goal.overflow_add-result
overflow_add-result c =
    let args = c.args in
    let in-text = rw c.text.ensures at c.head_at-h.ensures.placed.inside in
    let small = behind-in args.s.now args.p.from args.p.to _ in-text in
    omega (arith, small)

pub returns : goal.returns
returns c =
    let args = c.args in
    let head = c.head_at-h.ensures.means ∙ ap (λ (t : List ℕ). head_at t 0) c.text.ensures in
    behind-is args.s.now args.p.from args.p.to c.head_at-h.result.end
    ∙ ap (λ (h : Head). drop h.end (text_of args.s.now args.p)) head
