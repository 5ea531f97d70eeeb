use Rattle.arrays.proofs.Laws.{id_other, id-large, id-is}
use Rattle.arrays.proofs.id.Goals as goal

pub returns-then-kind-ne-WHOLE : goal.returns-then-kind-ne-WHOLE
returns-then-kind-ne-WHOLE c =
    let head-at = c.head_at-h in
    let args = c.args in
    id_other args.t.now head-at.result head-at.ensures.means c.if-kind-ne-WHOLE.true

pub returns-then-n-gt-LAST_ID : goal.returns-then-n-gt-LAST_ID
returns-then-n-gt-LAST_ID c =
    let if1 = c.if-kind-ne-WHOLE in
    let head-at = c.head_at-h in
    let args = c.args in
    id-large args.t.now head-at.result head-at.ensures.means if1.false c.if-n-gt-LAST_ID.true

pub returns : goal.returns
returns c =
    let if1 = c.if-kind-ne-WHOLE in
    let head-at = c.head_at-h in
    let args = c.args in
    id-is args.t.now head-at.result head-at.ensures.means if1.false c.if-n-gt-LAST_ID.false
