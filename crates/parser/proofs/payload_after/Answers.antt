use Prim.Native.Nat.{◌+◌, ◌*◌}
use borrow.Author.Tests.{ne_eqb, eq-eqb}
use Rattle.incoming.specs.Read.{with_payload}
use Rattle.parser.proofs.payload_after.Goals as goal

pub returns-then-kinds-shape : goal.returns-then-kinds-shape
unfolding with_payload
returns-then-kinds-shape c = λ s f. rw (eq-eqb _ _ c.if-kinds-shape.true)

pub returns-then-kinds-with_list : goal.returns-then-kinds-with_list
unfolding with_payload
returns-then-kinds-with_list c =
    let kinds = c.args.kinds in
    let shape = c.args.shape in
    let not-shape = ne_eqb kinds shape c.if-kinds-shape.false in
    λ s f. rw (not-shape, eq-eqb kinds (shape * 10 + 3) c.if-kinds-with_list.true)

pub returns-then-kinds-with_dict : goal.returns-then-kinds-with_dict
unfolding with_payload
returns-then-kinds-with_dict c =
    let kinds = c.args.kinds in
    let shape = c.args.shape in
    let not-shape = ne_eqb kinds shape c.if-kinds-shape.false in
    let not-list = ne_eqb kinds (shape * 10 + 3) c.if-kinds-with_list.false in
    λ s f. rw (not-shape, not-list, eq-eqb kinds ((shape * 10 + 3) * 10 + 4) c.if-kinds-with_dict.true)

pub returns : goal.returns
unfolding with_payload
returns c =
    let kinds = c.args.kinds in
    let shape = c.args.shape in
    let not-shape = ne_eqb kinds shape c.if-kinds-shape.false in
    let not-list = ne_eqb kinds (shape * 10 + 3) c.if-kinds-with_list.false in
    λ s f. rw (not-shape, not-list, ne_eqb kinds ((shape * 10 + 3) * 10 + 4) c.if-kinds-with_dict.false)
