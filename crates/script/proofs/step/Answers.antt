use mathlib.Core.Path.{sym, ap, ◌∙◌}
use Rattle.std.specs.Prelude.{Ok, Err}
use Rattle.std.proofs.lemmas.Result.{err_from_is_err_and}
use Rattle.script.specs.declared.Line.TheVariants.{Attach, AttachMsgPack, Detach, Send}
use Rattle.script.specs.Script.{on_ok, in_hex}
use Rattle.script.proofs.Laws.{step-attach, step-msgpack, step-detach, step-send, step-bytes, step-unknown}
use Rattle.script.proofs.step.Goals as goal

pub returns-in_err-slot : goal.returns-in_err-slot
returns-in_err-slot c =
    let p = err_from_is_err_and c.from_residual.result c.from_residual.ensures.1 in
    p.1 ∙ ap Err p.2
    ∙ sym (step-attach c.args.s.now c.args.word _ c.text-name.ensures (sym c.same_bytes.ensures ∙ c.if-same_bytes.true)
    ∙ ap (λ r. on_ok r (λ k. Ok (Attach k))) (sym c.slot_alone.ensures ∙ c.in_err-slot.was))

pub returns-then-same_bytes : goal.returns-then-same_bytes
returns-then-same_bytes c =
    sym (step-attach c.args.s.now c.args.word _ c.text-name.ensures (sym c.same_bytes.ensures ∙ c.if-same_bytes.true)
    ∙ ap (λ r. on_ok r (λ k. Ok (Attach k))) (sym c.slot_alone.ensures ∙ c.in_ok-slot.was))

pub returns-in_err-slot-2 : goal.returns-in_err-slot-2
returns-in_err-slot-2 c =
    let p = err_from_is_err_and c.from_residual-in_err-slot-2.result c.from_residual-in_err-slot-2.ensures.1 in
    p.1 ∙ ap Err p.2
    ∙ sym (step-msgpack c.args.s.now c.args.word _ c.text-name.ensures (sym c.same_bytes.ensures ∙ c.if-same_bytes.false) (sym c.same_bytes-2.ensures ∙ c.if-same_bytes-2.true)
    ∙ ap (λ r. on_ok r (λ k. Ok (AttachMsgPack k))) (sym c.slot_alone-then-same_bytes-2.ensures ∙ c.in_err-slot-2.was))

pub returns-then-same_bytes-2 : goal.returns-then-same_bytes-2
returns-then-same_bytes-2 c =
    sym (step-msgpack c.args.s.now c.args.word _ c.text-name.ensures (sym c.same_bytes.ensures ∙ c.if-same_bytes.false) (sym c.same_bytes-2.ensures ∙ c.if-same_bytes-2.true)
    ∙ ap (λ r. on_ok r (λ k. Ok (AttachMsgPack k))) (sym c.slot_alone-then-same_bytes-2.ensures ∙ c.in_ok-slot-2.was))

pub returns-in_err-slot-3 : goal.returns-in_err-slot-3
returns-in_err-slot-3 c =
    let p = err_from_is_err_and c.from_residual-in_err-slot-3.result c.from_residual-in_err-slot-3.ensures.1 in
    p.1 ∙ ap Err p.2
    ∙ sym (step-detach c.args.s.now c.args.word _ c.text-name.ensures (sym c.same_bytes.ensures ∙ c.if-same_bytes.false) (sym c.same_bytes-2.ensures ∙ c.if-same_bytes-2.false) (sym c.same_bytes-3.ensures ∙ c.if-same_bytes-3.true)
    ∙ ap (λ r. on_ok r (λ k. Ok (Detach k))) (sym c.slot_alone-then-same_bytes-3.ensures ∙ c.in_err-slot-3.was))

pub returns-then-same_bytes-3 : goal.returns-then-same_bytes-3
returns-then-same_bytes-3 c =
    sym (step-detach c.args.s.now c.args.word _ c.text-name.ensures (sym c.same_bytes.ensures ∙ c.if-same_bytes.false) (sym c.same_bytes-2.ensures ∙ c.if-same_bytes-2.false) (sym c.same_bytes-3.ensures ∙ c.if-same_bytes-3.true)
    ∙ ap (λ r. on_ok r (λ k. Ok (Detach k))) (sym c.slot_alone-then-same_bytes-3.ensures ∙ c.in_ok-slot-3.was))

pub returns-in_err-sent : goal.returns-in_err-sent
returns-in_err-sent c =
    let p = err_from_is_err_and c.from_residual-in_err-sent.result c.from_residual-in_err-sent.ensures.1 in
    p.1 ∙ ap Err p.2
    ∙ sym (step-send c.args.s.now c.args.word _ c.text-name.ensures (sym c.same_bytes.ensures ∙ c.if-same_bytes.false) (sym c.same_bytes-2.ensures ∙ c.if-same_bytes-2.false) (sym c.same_bytes-3.ensures ∙ c.if-same_bytes-3.false) (sym c.same_bytes-4.ensures ∙ c.if-same_bytes-4.true)
    ∙ ap (λ r. on_ok r (λ sent. Ok (Send sent))) (sym c.message_at.ensures ∙ c.in_err-sent.was))

pub returns-then-same_bytes-4 : goal.returns-then-same_bytes-4
returns-then-same_bytes-4 c =
    sym (step-send c.args.s.now c.args.word _ c.text-name.ensures (sym c.same_bytes.ensures ∙ c.if-same_bytes.false) (sym c.same_bytes-2.ensures ∙ c.if-same_bytes-2.false) (sym c.same_bytes-3.ensures ∙ c.if-same_bytes-3.false) (sym c.same_bytes-4.ensures ∙ c.if-same_bytes-4.true)
    ∙ ap (λ r. on_ok r (λ sent. Ok (Send sent))) (sym c.message_at.ensures ∙ c.in_ok-sent.was))

pub returns-in_err-sent-2 : goal.returns-in_err-sent-2
returns-in_err-sent-2 c =
    let p = err_from_is_err_and c.from_residual-in_err-sent-2.result c.from_residual-in_err-sent-2.ensures.1 in
    p.1 ∙ ap Err p.2
    ∙ sym (step-bytes c.args.s.now c.args.word _ c.text-name.ensures (sym c.same_bytes.ensures ∙ c.if-same_bytes.false) (sym c.same_bytes-2.ensures ∙ c.if-same_bytes-2.false) (sym c.same_bytes-3.ensures ∙ c.if-same_bytes-3.false) (sym c.same_bytes-4.ensures ∙ c.if-same_bytes-4.false) (sym c.same_bytes-5.ensures ∙ c.if-same_bytes-5.true)
    ∙ ap (λ r. on_ok r (in_hex c.args.s.now)) (sym c.message_at-then-same_bytes-5.ensures ∙ c.in_err-sent-2.was))

pub returns-then-same_bytes-5 : goal.returns-then-same_bytes-5
returns-then-same_bytes-5 c =
    c.in_hex.ensures
    ∙ sym (step-bytes c.args.s.now c.args.word _ c.text-name.ensures (sym c.same_bytes.ensures ∙ c.if-same_bytes.false) (sym c.same_bytes-2.ensures ∙ c.if-same_bytes-2.false) (sym c.same_bytes-3.ensures ∙ c.if-same_bytes-3.false) (sym c.same_bytes-4.ensures ∙ c.if-same_bytes-4.false) (sym c.same_bytes-5.ensures ∙ c.if-same_bytes-5.true)
    ∙ ap (λ r. on_ok r (in_hex c.args.s.now)) (sym c.message_at-then-same_bytes-5.ensures ∙ c.in_ok-sent-2.was))

pub returns : goal.returns
returns c = sym (step-unknown c.args.s.now c.args.word _ c.text-name.ensures (sym c.same_bytes.ensures ∙ c.if-same_bytes.false) (sym c.same_bytes-2.ensures ∙ c.if-same_bytes-2.false) (sym c.same_bytes-3.ensures ∙ c.if-same_bytes-3.false) (sym c.same_bytes-4.ensures ∙ c.if-same_bytes-4.false) (sym c.same_bytes-5.ensures ∙ c.if-same_bytes-5.false))
