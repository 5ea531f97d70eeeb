use mathlib.Core.Path.{refl, sym, ◌∙◌}
use Rattle.replay.specs.Replay.{played, action_of, action_text}
use Rattle.report.proofs.Puts.{after_none, written_none}
use Rattle.replay.proofs.play.Goals as goal

pub returns-in-Ok-Blank : goal.returns-in-Ok-Blank
unfolding played action_of action_text
returns-in-Ok-Blank c =
    let e = sym c.read_line-read.ensures ∙ c.in-Ok-Blank.is in
    let f = rw c.in-Ok-Blank.is at c.in-Ok-Blank.field-0-is in
    let text = c.args.text.now in
    record { run = rw e (rw f refl); place = rw e (rw f (sym (after_none text 0))); bytes = rw e (rw f (sym (written_none text 0))) }

pub returns-in-Ok-Attach : goal.returns-in-Ok-Attach
unfolding played action_of action_text
returns-in-Ok-Attach c =
    let e = sym c.read_line-read.ensures ∙ c.in-Ok-Attach.is in
    let f = rw c.in-Ok-Attach.is at c.in-Ok-Attach.field-0-is in
    let told = c.advance.ensures in
    record {
      run = rw e (rw f told.run);
      place = rw e (rw f (rw c.shown-s.ensures at told.place));
      bytes = rw e (rw f (rw c.shown-s.ensures at told.bytes));
    }

pub returns-in-Ok-AttachMsgPack : goal.returns-in-Ok-AttachMsgPack
unfolding played action_of action_text
returns-in-Ok-AttachMsgPack c =
    let e = sym c.read_line-read.ensures ∙ c.in-Ok-AttachMsgPack.is in
    let f = rw c.in-Ok-AttachMsgPack.is at c.in-Ok-AttachMsgPack.field-0-is in
    let told = c.advance-in-Ok-AttachMsgPack.ensures in
    record {
      run = rw e (rw f told.run);
      place = rw e (rw f (rw c.shown-s.ensures at told.place));
      bytes = rw e (rw f (rw c.shown-s.ensures at told.bytes));
    }

pub returns-in-Ok-Detach : goal.returns-in-Ok-Detach
unfolding played action_of action_text
returns-in-Ok-Detach c =
    let e = sym c.read_line-read.ensures ∙ c.in-Ok-Detach.is in
    let f = rw c.in-Ok-Detach.is at c.in-Ok-Detach.field-0-is in
    let told = c.advance-in-Ok-Detach.ensures in
    record {
      run = rw e (rw f told.run);
      place = rw e (rw f (rw c.shown-s.ensures at told.place));
      bytes = rw e (rw f (rw c.shown-s.ensures at told.bytes));
    }

pub returns-in-Ok-Send : goal.returns-in-Ok-Send
unfolding played action_of action_text
returns-in-Ok-Send c =
    let e = sym c.read_line-read.ensures ∙ c.in-Ok-Send.is in
    let f = rw c.in-Ok-Send.is at c.in-Ok-Send.field-0-is in
    let told = c.advance-in-Ok-Send.ensures in
    record {
      run = rw e (rw f (rw (c.text-message.ensures, c.shown-s.ensures) at told.run));
      place = rw e (rw f (rw (c.text-message.ensures, c.shown-s.ensures) at told.place));
      bytes = rw e (rw f (rw (c.text-message.ensures, c.shown-s.ensures) at told.bytes));
    }

pub returns-in-Ok-Bytes : goal.returns-in-Ok-Bytes
unfolding played action_of action_text
returns-in-Ok-Bytes c =
    let e = sym c.read_line-read.ensures ∙ c.in-Ok-Bytes.is in
    let f = rw c.in-Ok-Bytes.is at c.in-Ok-Bytes.field-0-is in
    let told = c.advance_bytes.ensures in
    record {
      run = rw e (rw f (rw c.shown-s.ensures at told.run));
      place = rw e (rw f (rw c.shown-s.ensures at told.place));
      bytes = rw e (rw f (rw c.shown-s.ensures at told.bytes));
    }

pub returns-in-Err : goal.returns-in-Err
unfolding played action_of action_text
returns-in-Err c =
    let e = sym c.read_line-read.ensures ∙ c.in-Err.is in
    record { run = rw e refl; place = rw e c.put_wrong-len.ensures.place; bytes = rw e c.put_wrong-len.ensures.bytes }
