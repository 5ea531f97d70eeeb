use mathlib.Core.Path.{◌≡◌, sym, ap, ◌∙◌}
use lib.ListN.{length, take, get_or}
use Rattle.seq.specs.Bytes.{source, text_of}
use Rattle.seq.proofs.Logic.{and_left, and_right}
use Rattle.strings.specs.Places.{most_kept}
use Rattle.incoming.specs.Read.{text_by}
use Rattle.parser.specs.Meaning.{told}
use Rattle.state.specs.Change.{formats_in}
use Rattle.model.specs.State.{phase, no_session, session, format_of, format_at}
use Rattle.model.specs.Rules.{rules}
use Rattle.model.specs.Step.{early, refused, fitted}
use Rattle.image.specs.Image.{load, held, with_sessions}
use Rattle.hub.specs.Answer.{given, answer_of, written, kept, event_bad, leads_to, early_of}
use Rattle.hub.proofs.Laws.{lent-bad, lent-formed, step-slot, step-time, step-number, step-leads, heard-bounded}
use Rattle.hub.proofs.Cut.{leads-cut, bad-cut}
use Rattle.hub.proofs.step.Goals as goal

pub returns-then-not-lawful : goal.returns-then-not-lawful
unfolding refused
returns-then-not-lawful c =
    let a = c.args in
    let s = a.state.now in
    let e = lent-bad s (given a.slot a.event a.message.now) (length a.out.now) (sym c.lawful.ensures ∙ c.if-not-lawful.true) in record {
      answer = c.refused.ensures (held s) ∙ ap answer_of (sym e);
      state = rw e;
      bytes = rw e;
    }

pub returns-then-slot-ge8 : goal.returns-then-slot-ge8
unfolding refused
returns-then-slot-ge8 c =
    let a = c.args in
    let s = a.state.now in
    let h = held s in
    let x = given a.slot a.event a.message.now in
    let room = length a.out.now in
    let both = sym c.lawful.ensures ∙ c.if-not-lawful.false in
    let ok = and_left (load s).ok (rules h) both in
    let lawful = and_right (load s).ok (rules h) both in
    let e = lent-formed s x room ok ∙ step-slot h a.slot a.message.now room lawful a.event c.if-slot-ge8.true in record {
      answer = c.refused-then-slot-ge8.ensures h ∙ ap answer_of (sym e);
      state = rw e;
      bytes = rw e;
    }

pub returns-then-wrong_time : goal.returns-then-wrong_time
unfolding refused session
returns-then-wrong_time c =
    let a = c.args in
    let s = a.state.now in
    let h = held s in
    let x = given a.slot a.event a.message.now in
    let room = length a.out.now in
    let both = sym c.lawful.ensures ∙ c.if-not-lawful.false in
    let ok = and_left (load s).ok (rules h) both in
    let lawful = and_right (load s).ok (rules h) both in
    let status = phase c.session_at-s.result.status in
    let is = ap (λ s. phase s.status) (c.session_at-s.ensures ∙ ap (λ l. get_or l a.slot no_session) c.sessions-sessions.ensures) in
    let e = lent-formed s x room ok ∙ step-time h a.slot a.message.now room lawful a.event status c.if-slot-ge8.false is
    (sym c.wrong_time.ensures ∙ c.if-wrong_time.true) in record {
      answer = c.refused-then-wrong_time.ensures h ∙ ap answer_of (sym e);
      state = rw e;
      bytes = rw e;
    }

pub returns-then-bad_event : goal.returns-then-bad_event
unfolding refused session format_at
returns-then-bad_event c =
    let a = c.args in
    let s = a.state.now in
    let h = held s in
    let m = a.message.now in
    let x = given a.slot a.event m in
    let room = length a.out.now in
    let both = sym c.lawful.ensures ∙ c.if-not-lawful.false in
    let ok = and_left (load s).ok (rules h) both in
    let lawful = and_right (load s).ok (rules h) both in
    let row = c.session_at-s.result in
    let status = phase row.status in
    let format = c.format_of-format.result in
    let read = c.sessions-sessions.ensures in
    let there = c.session_at-s.ensures ∙ ap (λ l. get_or l a.slot no_session) read in
    let is = ap (λ s. phase s.status) there in
    let own : format ≡ format_of row.status = c.format_of-format.ensures in
    let speaks = own ∙ ap (λ s. format_of s.status) there in
    let time = sym c.wrong_time.ensures ∙ c.if-wrong_time.false in
    let body = c.bounded-body.result.now in
    let heard = c.heard-h.result in
    let said = c.heard-h.ensures ∙ heard-bounded format a.event body m c.bounded-body.ensures.means in
    let whole = text_by format (text_of body heard.text) in
    let text = c.text-text.result.now in
    let cut : text ≡ take most_kept whole =
    c.text-text.ensures ∙ (c.undo-undone.ensures ∙ ap (λ t. take most_kept (text_by format t)) c.text-raw.ensures) in
    let early-is = c.early_of.result in
    let number = ap (event_bad h.sessions a.event status) (sym (c.early_of.ensures (source body whole) ∙ ap early said))
    ∙ (sym (bad-cut whole text cut h.sessions a.event status early-is)
    ∙ (ap (λ l. event_bad l a.event status (early_of text early-is)) (sym read) ∙ (sym c.bad_event.ensures ∙ c.if-bad_event.true))) in
    let e = lent-formed s x room ok ∙ step-number h a.slot m room lawful status format c.if-slot-ge8.false is speaks a.event time number in record {
      answer = c.refused-then-bad_event.ensures h ∙ ap answer_of (sym e);
      state = rw e;
      bytes = rw e;
    }

pub returns : goal.returns
unfolding session format_at
returns c =
    let a = c.args in
    let s = a.state.now in
    let h = held s in
    let m = a.message.now in
    let x = given a.slot a.event m in
    let room = length a.out.now in
    let both = sym c.lawful.ensures ∙ c.if-not-lawful.false in
    let ok = and_left (load s).ok (rules h) both in
    let lawful = and_right (load s).ok (rules h) both in
    let row = c.session_at-s.result in
    let status = phase row.status in
    let format = c.format_of-format.result in
    let read = c.sessions-sessions.ensures in
    let there = c.session_at-s.ensures ∙ ap (λ l. get_or l a.slot no_session) read in
    let is = ap (λ s. phase s.status) there in
    let own : format ≡ format_of row.status = c.format_of-format.ensures in
    let speaks = own ∙ ap (λ s. format_of s.status) there in
    let time = sym c.wrong_time.ensures ∙ c.if-wrong_time.false in
    let body = c.bounded-body.result.now in
    let heard = c.heard-h.result in
    let said = c.heard-h.ensures ∙ heard-bounded format a.event body m c.bounded-body.ensures.means in
    let whole = text_by format (text_of body heard.text) in
    let text = c.text-text.result.now in
    let cut : text ≡ take most_kept whole =
    c.text-text.ensures ∙ (c.undo-undone.ensures ∙ ap (λ t. take most_kept (text_by format t)) c.text-raw.ensures) in
    let early-is = c.early_of.result in
    let number = ap (event_bad h.sessions a.event status) (sym (c.early_of.ensures (source body whole) ∙ ap early said))
    ∙ (sym (bad-cut whole text cut h.sessions a.event status early-is)
    ∙ (ap (λ l. event_bad l a.event status (early_of text early-is)) (sym read) ∙ (sym c.bad_event.ensures ∙ c.if-bad_event.false))) in
    let l = ap (λ ss. leads_to (with_sessions h ss) a.slot a.event (told (source body text) heard.message) status) read
    ∙ (leads-cut whole text cut body h a.slot a.event heard.message status ∙ ap (λ i. leads_to h a.slot a.event i status) said) in
    let e = lent-formed s x room ok ∙ (step-leads h a.slot m room lawful status format c.if-slot-ge8.false is speaks a.event time number ∙ ap (fitted h room) (sym l)) in
    let all = ap formats_in read in
    let ran = c.conclude.ensures in record {
      answer = ran.answer all ∙ ap answer_of (sym e);
      state = ran.state all ok ∙ ap (λ t. kept t s) (sym e);
      bytes = ran.bytes all ∙ ap (λ t. written (format_at h) t a.out.now) (sym e);
    }
