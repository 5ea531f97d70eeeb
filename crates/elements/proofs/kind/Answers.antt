use mathlib.Core.Path.{sym}
use Rattle.elements.proofs.IdLaws.{kind-string, kind-list, kind-dict, kind-other, kind-id}
use Rattle.elements.proofs.kind.Goals as goal

pub returns-in-34 : goal.returns-in-34
returns-in-34 c = sym (kind-string c.args.t.now _ c.byte.ensures c.in-34.is)

pub returns-in-91 : goal.returns-in-91
returns-in-91 c = sym (kind-list c.args.t.now _ c.byte.ensures c.in-91.is)

pub returns-in-123 : goal.returns-in-123
returns-in-123 c = sym (kind-dict c.args.t.now _ c.byte.ensures c.in-123.is)

pub returns-then-id-eq0 : goal.returns-then-id-eq0
returns-then-id-eq0 c =
    let match = c.in_default.in_default-own in
    let args = c.args in
    sym (kind-other args.t.now _ c.byte.ensures match.rest.0.0.1 match.rest.0.1 match.rest.1 _
    c.id.ensures c.if-id-eq0.true)

pub returns-else-id-eq0 : goal.returns-else-id-eq0
returns-else-id-eq0 c =
    let match = c.in_default.in_default-own in
    let args = c.args in
    sym (kind-id args.t.now _ c.byte.ensures match.rest.0.0.1 match.rest.0.1 match.rest.1 _
    c.id.ensures c.if-id-eq0.false)
