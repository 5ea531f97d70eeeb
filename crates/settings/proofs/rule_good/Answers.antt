use borrow.Author.Tests.{lt-ltb, le-ltb}
use Rattle.uri.specs.Uri.{valid_topic}
use Rattle.settings.specs.Settings.{rule_good}
use Rattle.settings.specs.Lent.{rule_of}
use Rattle.settings.proofs.rule_good.Goals as goal

pub returns-then-byte-ge8 : goal.returns-then-byte-ge8
unfolding rule_good rule_of
returns-then-byte-ge8 c = rw (← c.byte.ensures, le-ltb _ 8 c.if-byte-ge8.true)

pub returns-then-byte-ge4 : goal.returns-then-byte-ge4
unfolding rule_good rule_of
returns-then-byte-ge4 c = rw (← c.byte.ensures, lt-ltb _ 8 c.if-byte-ge8.false, ← c.byte-2.ensures, le-ltb _ 4 c.if-byte-ge4.true)

pub returns-then-byte-ge2 : goal.returns-then-byte-ge2
unfolding rule_good rule_of
returns-then-byte-ge2 c = rw (← c.byte.ensures, lt-ltb _ 8 c.if-byte-ge8.false, ← c.byte-2.ensures, lt-ltb _ 4 c.if-byte-ge4.false, ← c.byte-3.ensures, le-ltb _ 2 c.if-byte-ge2.true)

pub returns : goal.returns
unfolding rule_good rule_of valid_topic
returns c =
    rw (
      c.valid_topic.ensures,
      c.prefix.ensures,
      ← c.byte.ensures,
      lt-ltb _ 8 c.if-byte-ge8.false,
      ← c.byte-2.ensures,
      lt-ltb _ 4 c.if-byte-ge4.false,
      ← c.byte-3.ensures,
      lt-ltb _ 2 c.if-byte-ge2.false,
    )
