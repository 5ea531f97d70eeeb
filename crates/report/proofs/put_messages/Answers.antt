use Rattle.report.proofs.Laws.{messages-turn}
use Prim.Native.Nat.{◌-◌}
use mathlib.Core.Path.{◌≡◌, refl}
use native.Mathlib.Omega.{arith}
use Rattle.report.specs.Text.{messages_from, messages_text}
use Rattle.report.proofs.Puts.{begins, turns, ends}
use Rattle.report.proofs.put_messages.Goals as goal

pub loop-k-init : goal.loop-k-init
loop-k-init c =
    let args = c.args in
    let n = c.message_count-n.result in
    let e : n - 0 ≡ n = omega arith in
    (omega arith, refl, rw (e, c.message_count-n.ensures.means) (begins args.text.now args.at (messages_text args.out.now)))

pub overflow_add-end : goal.overflow_add-end
overflow_add-end c =
    omega (arith, c.message_count-n.ensures.short, c.entry_at-e.ensures.short)

pub loop-k-preserved : goal.loop-k-preserved
loop-k-preserved c =
    let args = c.args in
    let n = c.message_count-n.result in
    let loop = c.loop-k in
    let entry = c.entry_at-e in
    let e = entry.ensures.means in
    let turn = messages-turn args.out.now n loop.k loop.from (omega arith) in
    let left = rw (turn, ← e) at loop.invariant.2 in
    let said = rw c.text.ensures at c.put_message-to.ensures in
    (omega (arith, entry.ensures.short), omega (arith, c.put_message-to.auto), turns _ _ left said)

pub shape_of-text : goal.shape_of-text
shape_of-text c =
    omega arith

pub returns : goal.returns
unfolding messages_from
returns c =
    let args = c.args in
    let n = c.message_count-n.result in
    let e : n - c.loop-k.k ≡ 0 = omega arith in
    ends (rw e at c.loop-k.invariant.2)
