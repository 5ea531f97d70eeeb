use mathlib.Core.Path.{sym, ap, ◌∙◌}
use Prim.Native.Nat.{◌≤◌}
use native.Mathlib.Omega.{arith}
use lib.ListN.{length}
use Rattle.parser.specs.Meaning.{meant}
use Rattle.parser.proofs.Laws.{read-empty, read-long, read-ill, read_is}
use Rattle.parser.proofs.parse.Goals as goal

pub returns-then-message-eq0 : goal.returns-then-message-eq0
returns-then-message-eq0 c =
    let args = c.args in
    rw c.plain.ensures (read-empty args.format args.message.now (omega (arith, c.if-message-eq0.true)))

pub returns-then-message-gt-MAX_BYTES : goal.returns-then-message-gt-MAX_BYTES
returns-then-message-gt-MAX_BYTES c =
    let args = c.args in
    let s = args.message.now in
    let some : 1 ≤ length s = omega (arith, c.if-message-eq0.false) in
    rw c.plain-then-message-gt-MAX_BYTES.ensures (read-long args.format s some c.if-message-gt-MAX_BYTES.true)

pub returns-then-not-is_encoded : goal.returns-then-not-is_encoded
returns-then-not-is_encoded c =
    let if1 = c.if-message-eq0 in
    let if2 = c.if-message-gt-MAX_BYTES in
    let args = c.args in
    let s = args.message.now in
    let some : 1 ≤ length s = omega (arith, if1.false) in
    rw c.plain-then-not-is_encoded.ensures
    (read-ill args.format s some if2.false (sym c.is_encoded.ensures ∙ c.if-not-is_encoded.true))

pub returns-in-Some : goal.returns-in-Some
returns-in-Some c =
    let s = c.args.message.now in
    let some : 1 ≤ length s = omega (arith, c.if-message-eq0.false) in
    let encoded = sym c.is_encoded.ensures ∙ c.if-not-is_encoded.false in
    ap (meant c.args.format s) (sym c.in-Some.is) ∙ c.interpret.ensures ∙ read_is c.args.format s some c.if-message-gt-MAX_BYTES.false encoded

pub returns-in-None : goal.returns-in-None
returns-in-None c =
    let s = c.args.message.now in
    let some : 1 ≤ length s = omega (arith, c.if-message-eq0.false) in
    let encoded = sym c.is_encoded.ensures ∙ c.if-not-is_encoded.false in
    rw c.plain-in-None.ensures
    (ap (meant c.args.format s) (sym c.in-None.is) ∙ c.interpret.ensures ∙ read_is c.args.format s some c.if-message-gt-MAX_BYTES.false encoded)
