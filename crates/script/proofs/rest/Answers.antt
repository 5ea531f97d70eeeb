use mathlib.Core.Path.{sym}
use native.Mathlib.Omega.{arith}
use Rattle.seq.proofs.Bytes.{byte-in}
use Rattle.script.proofs.Laws.{rest-none, rest-is}
use Rattle.script.proofs.rest.Goals as goal

pub returns-then-byte-ne32 : goal.returns-then-byte-ne32
returns-then-byte-ne32 c =
    let args = c.args in
    sym (rest-none args.s.now args.slot args.number args.at _ c.byte.ensures c.if-byte-ne32.true)

pub overflow_add-message : goal.overflow_add-message
overflow_add-message c = let h = byte-in c.args.s.now c.args.at (omega arith) in omega arith

pub returns : goal.returns
returns c =
    let args = c.args in
    sym (rest-is args.s.now args.slot args.number args.at _ c.byte.ensures c.if-byte-ne32.false)
