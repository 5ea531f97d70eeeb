use Prim.Native.Nat.{ℕ}
use mathlib.Core.Bool.{true, false}
use mathlib.Core.Path.{◌≡◌}
use borrow.Author.Tests.{eq-eqb, ne_eqb}
use lib.Dec.{eqb}
use Rattle.model.specs.declared.HeldCall.{HeldCall}
use Rattle.model.specs.State.{serves, idle}
use Rattle.lent.proofs.is_served.Goals as goal

-- ---- an unused row, another's call, and a call of the slot
module _ (call : HeldCall) (slot invocation : ℕ) where
  no-call : eqb call.request 0 ≡ true → false ≡ serves slot invocation call
  unfolding serves idle
  no-call t = rw t

  others : eqb call.request 0 ≡ false → eqb call.callee slot ≡ false → false ≡ serves slot invocation call
  unfolding serves idle
  others t u = rw (t, u)

  own : eqb call.request 0 ≡ false → eqb call.callee slot ≡ true → eqb call.invocation invocation ≡ serves slot invocation call
  unfolding serves idle
  own t u = rw (t, u)

pub returns-then-call-eq0 : goal.returns-then-call-eq0
returns-then-call-eq0 c =
    let args = c.args in
    no-call args.call args.slot args.invocation (eq-eqb _ _ c.if-call-eq0.true)

pub returns-then-call-slot : goal.returns-then-call-slot
returns-then-call-slot c =
    let args = c.args in
    others args.call args.slot args.invocation (ne_eqb _ _ c.if-call-eq0.false) (ne_eqb _ _ c.if-call-slot.true)

pub returns : goal.returns
returns c =
    let args = c.args in
    own args.call args.slot args.invocation (ne_eqb _ _ c.if-call-eq0.false) (eq-eqb _ _ c.if-call-slot.false)
