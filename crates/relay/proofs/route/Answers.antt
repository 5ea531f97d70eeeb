use mathlib.Core.List.{[]}
use mathlib.Core.Path.{◌≡◌, refl, sym, ap, ◌∙◌}
use native.Mathlib.Numerals.{add-one}
use borrow.Author.Tests.{lt-ltb, le-ltb}
use Rattle.seq.specs.Lists.{first}
use Rattle.seq.specs.declared.Format.TheVariants.{Json}
use Rattle.conversion.specs.Sources.{sources}
use Rattle.replies.specs.Meaning.{message_of}
use Rattle.model.specs.State.{session, idle}
use Rattle.model.specs.Step.{route, routed}
use Rattle.image.specs.Image.{held, with_sessions}
use Rattle.relay.proofs.Laws.{details-named, caller_held}
use Rattle.relay.proofs.route.Goals as goal

pub returns-then-last-ge-LAST_ID : goal.returns-then-last-ge-LAST_ID
unfolding route session
returns-then-last-ge-LAST_ID c =
    let args = c.args in
    let h = held args.state.now in
    let s = c.session_at-s.ensures ∙ ap (session (with_sessions h args.sessions)) c.owner-callee.ensures in
    λ m. rw (sym s, le-ltb _ _ c.if-last-ge-LAST_ID.true) (c.call_error.ensures h m)

pub returns-in_default : goal.returns-in_default
unfolding route session
returns-in_default c =
    let args = c.args in
    let h = held args.state.now in
    let s = c.session_at-s.ensures ∙ ap (session (with_sessions h args.sessions)) c.owner-callee.ensures in
    let f = c.free_call.ensures ∙ ap (first idle) c.calls-calls.ensures in
    λ m. rw (sym s, lt-ltb _ _ c.if-last-ge-LAST_ID.false, sym f ∙ c.in_default.is) (c.call_error-in_default.ensures h m)

pub returns : goal.returns
unfolding route routed message_of session
returns c =
    let args = c.args in
    let h = held args.state.now in
    let s = c.session_at-s.ensures ∙ ap (session (with_sessions h args.sessions)) c.owner-callee.ensures in
    let f = c.free_call.ensures ∙ ap (first idle) c.calls-calls.ensures in
    let t = lt-ltb _ _ c.if-last-ge-LAST_ID.false in
    let who : caller_held _ _ _ _ _ _ (c.holds.ensures h (sources Json [] [] [])) ≡ args.slot = refl in
    λ m. rw (sym s, t, sym f ∙ c.in-Some.is)
    (c.holds.ensures h m
    ∙ rw (c.issued-issued.ensures h, ← c.session_at-s.ensures, t, c.owner-callee.ensures, c.naming-details.ensures, details-named, add-one))
