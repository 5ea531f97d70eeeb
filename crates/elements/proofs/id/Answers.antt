use mathlib.Core.Path.{sym, ◌∙◌}
use native.Mathlib.Omega.{arith}
use Rattle.seq.specs.Bytes.{byte_at}
use Rattle.seq.proofs.Bytes.{digit-bounds}
use Rattle.elements.proofs.IdLaws.{id-large, id-end, id-digit, id_other, id-zero, id-from}
use Rattle.elements.proofs.id.Goals as goal

pub returns-then-byte-eq48 : goal.returns-then-byte-eq48
returns-then-byte-eq48 c = sym (id-zero c.args.t.now _ c.byte.ensures c.if-byte-eq48.true)

pub loop-b-init : goal.loop-b-init
loop-b-init c = (sym (id-from c.args.t.now _ c.byte.ensures c.if-byte-eq48.false), omega arith)

pub returns-then-not-is_digit : goal.returns-then-not-is_digit
returns-then-not-is_digit c =
    let loop = c.loop-b in
    let args = c.args in
    sym (id_other _ args.t.now loop.b-index (omega arith) (sym c.is_digit.ensures ∙ c.if-not-is_digit.true)) ∙ loop.invariant.0

pub overflow_add-v : goal.overflow_add-v
overflow_add-v c =
    let loop = c.loop-b in
    let args = c.args in
    let bounds = digit-bounds (byte_at args.t.now loop.b-index) (sym c.is_digit.ensures ∙ c.if-not-is_digit.false)
    in
    omega arith

pub returns-then-v-gt-LAST_ID : goal.returns-then-v-gt-LAST_ID
returns-then-v-gt-LAST_ID c =
    let digit = c.from in
    let loop = c.loop-b in
    let args = c.args in
    sym (id-large _ _ c.if-v-gt-LAST_ID.true) ∙ sym
    (id-digit loop.v args.t.now loop.b-index (omega arith) digit.result digit.ensures
    (sym c.is_digit.ensures ∙ c.if-not-is_digit.false)) ∙ loop.invariant.0

pub loop-b-preserved : goal.loop-b-preserved
loop-b-preserved c =
    let digit = c.from in
    let loop = c.loop-b in
    let args = c.args in (
      sym (id-digit loop.v args.t.now loop.b-index (omega arith) digit.result digit.ensures
          (sym c.is_digit.ensures ∙ c.if-not-is_digit.false)) ∙ loop.invariant.0,
      omega arith,
    )

pub returns : goal.returns
returns c =
    let loop = c.loop-b in
    let args = c.args in
    sym (id-end loop.v args.t.now loop.b-index (omega arith) (omega arith)) ∙ loop.invariant.0
