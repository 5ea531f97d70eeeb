use native.Mathlib.Omega.{arith}
use Rattle.buffer.proofs.Wrote.{told, tells, wrote, wrote-both}
use Rattle.to_json.proofs.Laws.{plain-nil, plain-no, plain-yes, plain-whole, plain-below, is_below}
use Rattle.to_json.proofs.put_plain.Goals as goal

pub returns-then-kind-eq-NIL : goal.returns-then-kind-eq-NIL
returns-then-kind-eq-NIL c =
    tells (wrote (plain-nil _ _ c.if-kind-eq-NIL.true) (told _ _ _ c.put_bytes.ensures))

pub returns-then-kind-eq-NO : goal.returns-then-kind-eq-NO
returns-then-kind-eq-NO c =
    let if2 = c.if-kind-eq-NO in
    let put-bytes2 = c.put_bytes-then-kind-eq-NO in
    tells (wrote (plain-no _ _ if2.true) (told _ _ _ put-bytes2.ensures))

pub returns-then-kind-eq-YES : goal.returns-then-kind-eq-YES
returns-then-kind-eq-YES c =
    let if3 = c.if-kind-eq-YES in
    let put-bytes3 = c.put_bytes-then-kind-eq-YES in
    tells (wrote (plain-yes _ _ if3.true) (told _ _ _ put-bytes3.ensures))

pub returns-then-kind-eq-WHOLE : goal.returns-then-kind-eq-WHOLE
returns-then-kind-eq-WHOLE c =
    tells (wrote (plain-whole _ _ c.if-kind-eq-WHOLE.true) (told _ _ _ c.put_number.ensures))

pub overflow_add-n : goal.overflow_add-n
overflow_add-n c =
    let args = c.args in
    let if1 = c.if-kind-eq-NIL in
    let if2 = c.if-kind-eq-NO in
    let if3 = c.if-kind-eq-YES in
    let if4 = c.if-kind-eq-WHOLE in
    let p = c.requires in
    let k = is_below _ args.n p.0 if1.false if2.false if3.false if4.false in
    omega (arith, p.1 k)

pub returns : goal.returns
returns c =
    let args = c.args in
    let if1 = c.if-kind-eq-NIL in
    let if2 = c.if-kind-eq-NO in
    let if3 = c.if-kind-eq-YES in
    let if4 = c.if-kind-eq-WHOLE in
    let put_byte = c.put_byte-p in
    let put-number2 = c.put_number-2 in
    let p = c.requires in
    let k = is_below _ args.n p.0 if1.false if2.false if3.false if4.false in
    tells (wrote-both (plain-below _ _ k) (omega arith) (told _ _ _ put_byte.ensures) (told _ _ _ put-number2.ensures))
