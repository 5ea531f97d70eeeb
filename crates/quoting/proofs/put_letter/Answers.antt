use mathlib.Core.Path.{sym, ◌∙◌}
use native.Mathlib.Omega.{arith}
use Rattle.buffer.proofs.Wrote.{told, tells, wrote, wrote-both, wrote_then}
use Rattle.quoting.proofs.Laws.{spelled-marked, spelled-control, spelled-plain}
use Rattle.quoting.proofs.put_letter.Goals as goal

pub returns-then-is_marked : goal.returns-then-is_marked
returns-then-is_marked c =
    let is-marked = c.is_marked in
    let if1 = c.if-is_marked in
    let put_byte = c.put_byte-p in
    let put-byte2 = c.put_byte in
    tells
    (wrote-both (spelled-marked _ (sym is-marked.ensures ∙ if1.true)) (omega arith) (told _ _ _ put_byte.ensures)
    (told _ _ _ put-byte2.ensures))

pub returns-then-b-lt-CONTROLS : goal.returns-then-b-lt-CONTROLS
returns-then-b-lt-CONTROLS c =
    let is-marked = c.is_marked in
    let if1 = c.if-is_marked in
    let if2 = c.if-b-lt-CONTROLS in
    let put-bytes = c.put_bytes-p in
    let hex-digit = c.hex_digit in
    let put-byte3 = c.put_byte-q in
    let hex-digit2 = c.hex_digit-then-b-lt-CONTROLS in
    let put-byte4 = c.put_byte-then-b-lt-CONTROLS in
    tells
    (wrote-both (spelled-control _ (sym is-marked.ensures ∙ if1.false) if2.true _ _ hex-digit.ensures hex-digit2.ensures) (omega arith)
    (wrote_then (omega arith) (told _ _ _ put-bytes.ensures) (told _ _ _ put-byte3.ensures))
    (told _ _ _ put-byte4.ensures))

pub returns : goal.returns
returns c =
    let is-marked = c.is_marked in
    let if1 = c.if-is_marked in
    let if2 = c.if-b-lt-CONTROLS in
    let put-byte5 = c.put_byte-2 in
    tells (wrote (spelled-plain _ (sym is-marked.ensures ∙ if1.false) if2.false) (told _ _ _ put-byte5.ensures))
