use Rattle.arrays.proofs.Laws.{kind-string, kind-list, kind-dict, kind-other, kind-id}
use Rattle.arrays.proofs.kind.Goals as goal

pub returns-in-5 : goal.returns-in-5
returns-in-5 c =
    let head-at = c.head_at-h in
    let args = c.args in
    kind-string args.t.now head-at.result head-at.ensures.means c.in-5.is

pub returns-in-7 : goal.returns-in-7
returns-in-7 c =
    let head-at = c.head_at-h in
    let args = c.args in
    kind-list args.t.now head-at.result head-at.ensures.means c.in-7.is

pub returns-in-8 : goal.returns-in-8
returns-in-8 c =
    let head-at = c.head_at-h in
    let args = c.args in
    kind-dict args.t.now head-at.result head-at.ensures.means c.in-8.is

pub returns-then-id-eq0 : goal.returns-then-id-eq0
returns-then-id-eq0 c =
    let id = c.id in
    let match = c.in_default.in_default-own in
    let head-at = c.head_at-h in
    let args = c.args in
    kind-other args.t.now head-at.result head-at.ensures.means match.rest.0.0.1 match.rest.0.1 match.rest.1 _ id.ensures c.if-id-eq0.true

pub returns-else-id-eq0 : goal.returns-else-id-eq0
returns-else-id-eq0 c =
    let id = c.id in
    let match = c.in_default.in_default-own in
    let head-at = c.head_at-h in
    let args = c.args in
    kind-id args.t.now head-at.result head-at.ensures.means match.rest.0.0.1 match.rest.0.1 match.rest.1 _ id.ensures c.if-id-eq0.false
