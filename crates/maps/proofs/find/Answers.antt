use mathlib.Core.Path.{◌≡◌, sym, ap, ◌∙◌}
use Prim.Native.Nat.{ℕ, ◌+◌, ◌-◌}
use native.Mathlib.Omega.{arith}
use Rattle.msgpack.specs.MsgPack.{value}
use Rattle.msgpack.proofs.Laws.{at-short}
use Rattle.maps.specs.Maps.{pairs, value_of}
use Rattle.maps.proofs.Laws.{value-long, value_not, value-among, look-end, look-no-key, look-no-value, look_hit, look-goes}
use Rattle.maps.proofs.find.Goals as goal

pub returns-then-t-gt-MAX_BYTES : goal.returns-then-t-gt-MAX_BYTES
returns-then-t-gt-MAX_BYTES c =
    let args = c.args in
    value-long args.t.now args.key.now args.at c.if-t-gt-MAX_BYTES.true

pub returns-then-kind-ne-MAP : goal.returns-then-kind-ne-MAP
returns-then-kind-ne-MAP c =
    let head-at = c.head_at-h in
    let if1 = c.if-t-gt-MAX_BYTES in
    let args = c.args in
    value_not args.t.now args.key.now args.at head-at.result head-at.ensures.means if1.false c.if-kind-ne-MAP.true

pub loop-init : goal.loop-init
loop-init c =
    let head-at = c.head_at-h in
    let if1 = c.if-t-gt-MAX_BYTES in
    let args = c.args in
    let none : head-at.result.n - 0 ≡ head-at.result.n = omega arith in
    ap (λ (k : ℕ). value_of args.t.now args.key.now (pairs (value 6 args.t.now) k head-at.result.end)) none
    ∙ value-among args.t.now args.key.now args.at head-at.result head-at.ensures.means if1.false c.if-kind-ne-MAP.false

pub returns-in_default : goal.returns-in_default
returns-in_default c =
    let read = c.value in
    let loop-test = c.loop-test in
    let loop = c.loop in
    let if1 = c.if-t-gt-MAX_BYTES in
    let args = c.args in
    let t = args.t.now in
    let bad = sym (at-short 6 t loop.p if1.false) ∙ sym read.ensures.means ∙ c.in_default.is in
    look-no-key t args.key.now (value 6 t) _ _ (omega (arith, loop-test.true)) bad ∙ loop.invariant

pub returns-in_default-value : goal.returns-in_default-value
returns-in_default-value c =
    let read2 = c.value-in-loop in
    let of-e = c.in-Some in
    let read = c.value in
    let loop-test = c.loop-test in
    let loop = c.loop in
    let if1 = c.if-t-gt-MAX_BYTES in
    let args = c.args in
    let t = args.t.now in
    let key-read = sym (at-short 6 t loop.p if1.false) ∙ sym read.ensures.means ∙ of-e.is in
    let bad = sym (at-short 6 t of-e.e if1.false) ∙ sym read2.ensures.means ∙ c.in_default-value.is in
    look-no-value t args.key.now (value 6 t) loop.p of-e.e key-read _ (omega (arith, loop-test.true)) bad ∙ loop.invariant

pub returns-then-is_key : goal.returns-then-is_key
returns-then-is_key c =
    let is_key = c.is_key in
    let of-z = c.in-Some-value in
    let read2 = c.value-in-loop in
    let of-e = c.in-Some in
    let read = c.value in
    let loop-test = c.loop-test in
    let loop = c.loop in
    let if1 = c.if-t-gt-MAX_BYTES in
    let args = c.args in
    let t = args.t.now in
    let key-read = sym (at-short 6 t loop.p if1.false) ∙ sym read.ensures.means ∙ of-e.is in
    let value_read = sym (at-short 6 t of-e.e if1.false) ∙ sym read2.ensures.means ∙ of-z.is in
    look_hit t args.key.now (value 6 t) loop.p of-e.e key-read of-z.z value_read is_key.result is_key.ensures
    _ (omega (arith, loop-test.true)) c.if-is_key.true ∙ loop.invariant

pub loop-preserved : goal.loop-preserved
loop-preserved c =
    let is_key = c.is_key in
    let of-z = c.in-Some-value in
    let read2 = c.value-in-loop in
    let of-e = c.in-Some in
    let read = c.value in
    let loop-test = c.loop-test in
    let loop = c.loop in
    let if1 = c.if-t-gt-MAX_BYTES in
    let args = c.args in
    let t = args.t.now in
    let key-read = sym (at-short 6 t loop.p if1.false) ∙ sym read.ensures.means ∙ of-e.is in
    let value_read = sym (at-short 6 t of-e.e if1.false) ∙ sym read2.ensures.means ∙ of-z.is in
    let count = c.head_at-h.result.n in
    let less : count - (loop.counter + 1) ≡ count - loop.counter - 1 = omega arith in
    ap (λ (k : ℕ). value_of t args.key.now (pairs (value 6 t) k of-z.z)) less ∙ sym (look-goes t args.key.now (value 6 t) loop.p of-e.e key-read of-z.z value_read is_key.result
    is_key.ensures _ (omega (arith, loop-test.true)) c.if-is_key.false) ∙ loop.invariant

pub returns : goal.returns
returns c =
    let loop = c.loop in
    let args = c.args in
    let t = args.t.now in
    look-end t args.key.now (value 6 t) _ _ (omega (arith, c.loop-test.false)) ∙ loop.invariant
