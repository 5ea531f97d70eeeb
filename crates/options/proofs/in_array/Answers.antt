use mathlib.Core.Path.{◌≡◌, sym, ap, subst, ◌∙◌}
use Prim.Native.Nat.{ℕ, ◌+◌, ◌-◌}
use native.Mathlib.Omega.{arith}
use Rattle.seq.specs.declared.Format.TheVariants.{MsgPack}
use Rattle.msgpack.specs.MsgPack.{value, value_at}
use Rattle.msgpack.proofs.Laws.{at-short}
use Rattle.elements.specs.Elements.{span}
use Rattle.arrays.specs.Arrays.{id_of, spans, ended}
use Rattle.options.specs.Audience.{id_at, ids_in}
use Rattle.options.proofs.Laws.{array_long, array-not, array-is, array-many}
use Rattle.options.proofs.Laws.{Steps, steps-begin, steps-go, steps-stop, steps-fail, steps-end, steps-trail}
use Rattle.options.proofs.in_array.Goals as goal

pub returns-then-v-gt-MAX_BYTES : goal.returns-then-v-gt-MAX_BYTES
returns-then-v-gt-MAX_BYTES c =
    let if1 = c.if-v-gt-MAX_BYTES in
    let args = c.args in
    let v = args.v.now in
    sym (array_long v if1.true)

pub returns-then-kind-ne-ARRAY : goal.returns-then-kind-ne-ARRAY
returns-then-kind-ne-ARRAY c =
    let if2 = c.if-kind-ne-ARRAY in
    let head-at = c.head_at-h in
    let if1 = c.if-v-gt-MAX_BYTES in
    let args = c.args in
    let v = args.v.now in
    sym (array-not v head-at.result head-at.ensures.means if1.false if2.true)

pub returns-then-count-gt-MOST_ENTRIES : goal.returns-then-count-gt-MOST_ENTRIES
returns-then-count-gt-MOST_ENTRIES c =
    let if3 = c.if-count-gt-MOST_ENTRIES in
    let if2 = c.if-kind-ne-ARRAY in
    let head-at = c.head_at-h in
    let if1 = c.if-v-gt-MAX_BYTES in
    let args = c.args in
    let v = args.v.now in
    sym (array-many v head-at.result head-at.ensures.means if1.false if2.false if3.true)

pub loop-init : goal.loop-init
loop-init c =
    let if3 = c.if-count-gt-MOST_ENTRIES in
    let args = c.args in
    let v = args.v.now in
    let h = c.head_at-h.result in
    let all : h.n ≡ h.n - 0 = omega arith in
    subst (λ (k : ℕ). Steps v h.end k c.no_ids-r.result (ids_in MsgPack v (ended v (spans (value 7 v) h.n h.end)))) all
    (steps-begin v _ _ c.no_ids-r.result c.no_ids-r.ensures if3.false)

pub returns-in_err-e : goal.returns-in_err-e
returns-in_err-e c =
    let read = c.value in
    let loop-test = c.loop-test in
    let loop = c.loop in
    let count = c.head_at-h.result.n in
    let if2 = c.if-kind-ne-ARRAY in
    let head-at = c.head_at-h in
    let if1 = c.if-v-gt-MAX_BYTES in
    let args = c.args in
    let v = args.v.now in
    let opened = array-is v head-at.result head-at.ensures.means if1.false if2.false in
    let nests : read.result ≡ value_at 7 v loop.p = read.ensures.means in
    let bad = sym (at-short 7 v loop.p if1.false) ∙ sym nests ∙ c.in_err-e.was in
    rw c.from_residual.ensures (sym (opened ∙ steps-fail v loop.p (count - loop.counter) loop.r _ loop.invariant (omega (arith, loop-test.true)) bad))

pub returns-then-id-eq0 : goal.returns-then-id-eq0
returns-then-id-eq0 c =
    let if4 = c.if-id-eq0 in
    let id = c.id-id in
    let text = c.text in
    let of-e = c.in_ok-e in
    let read = c.value in
    let loop-test = c.loop-test in
    let loop = c.loop in
    let count = c.head_at-h.result.n in
    let if2 = c.if-kind-ne-ARRAY in
    let head-at = c.head_at-h in
    let if1 = c.if-v-gt-MAX_BYTES in
    let args = c.args in
    let v = args.v.now in
    let opened = array-is v head-at.result head-at.ensures.means if1.false if2.false in
    let nests : read.result ≡ value_at 7 v loop.p = read.ensures.means in
    let good = sym (at-short 7 v loop.p if1.false) ∙ sym nests ∙ of-e.was in
    let number : id.result ≡ id_at MsgPack v (span loop.p of-e.e) = id.ensures ∙ ap id_of text.ensures in
    sym (opened ∙ steps-stop v loop.p (count - loop.counter) loop.r _ loop.invariant _ _ (omega (arith, loop-test.true)) good number if4.true)

pub push-r-requires : goal.push-r-requires
push-r-requires c =
    let loop-test = c.loop-test in
    let loop = c.loop in
    let count = c.head_at-h.result.n in
    omega (arith, loop.invariant.room, loop-test.true)

pub loop-preserved : goal.loop-preserved
loop-preserved c =
    let if4 = c.if-id-eq0 in
    let id = c.id-id in
    let text = c.text in
    let of-e = c.in_ok-e in
    let read = c.value in
    let loop-test = c.loop-test in
    let loop = c.loop in
    let count = c.head_at-h.result.n in
    let if1 = c.if-v-gt-MAX_BYTES in
    let args = c.args in
    let v = args.v.now in
    let nests : read.result ≡ value_at 7 v loop.p = read.ensures.means in
    let good = sym (at-short 7 v loop.p if1.false) ∙ sym nests ∙ of-e.was in
    let number : id.result ≡ id_at MsgPack v (span loop.p of-e.e) = id.ensures ∙ ap id_of text.ensures in
    let less : count - loop.counter - 1 ≡ count - (loop.counter + 1) = omega arith in
    subst (λ (k : ℕ). Steps v of-e.e k c.push-r.result (ids_in MsgPack v (ended v (spans (value 7 v) count c.head_at-h.result.end)))) less
    (steps-go v loop.p (count - loop.counter) loop.r _ loop.invariant _ _ (omega (arith, loop-test.true)) good number c.push-r.result if4.false c.push-r.ensures)

pub returns-then-p-v : goal.returns-then-p-v
returns-then-p-v c =
    let loop-test = c.loop-test in
    let loop = c.loop in
    let count = c.head_at-h.result.n in
    let if2 = c.if-kind-ne-ARRAY in
    let head-at = c.head_at-h in
    let if1 = c.if-v-gt-MAX_BYTES in
    let args = c.args in
    let v = args.v.now in
    let opened = array-is v head-at.result head-at.ensures.means if1.false if2.false in
    steps-end v loop.p (count - loop.counter) loop.r _ loop.invariant (omega (arith, loop-test.false)) c.if-p-v.true ∙ sym opened

pub returns : goal.returns
returns c =
    let if5 = c.if-p-v in
    let loop-test = c.loop-test in
    let loop = c.loop in
    let count = c.head_at-h.result.n in
    let if2 = c.if-kind-ne-ARRAY in
    let head-at = c.head_at-h in
    let if1 = c.if-v-gt-MAX_BYTES in
    let args = c.args in
    let v = args.v.now in
    let opened = array-is v head-at.result head-at.ensures.means if1.false if2.false in
    sym (opened ∙ steps-trail v loop.p (count - loop.counter) loop.r _ loop.invariant (omega (arith, loop-test.false)) if5.false)
