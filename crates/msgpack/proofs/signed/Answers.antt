use Rattle.msgpack.proofs.Heads.{sign-whole, sign_below}
use native.Mathlib.Omega.{arith}
use Rattle.msgpack.proofs.signed.Goals as goal

pub returns-then-u-h : goal.returns-then-u-h
returns-then-u-h c = sign-whole _ _ _ _ c.half-h.ensures c.if-u-h.true

pub returns : goal.returns
returns c = sign_below _ _ _ _ c.half-h.ensures c.if-u-h.false (omega (arith, c.half-h.ensures))
