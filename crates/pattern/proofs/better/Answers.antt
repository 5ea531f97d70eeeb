use mathlib.Core.Path.{sym, ◌∙◌}
use Rattle.pattern.specs.Match.{better_text}
use Rattle.pattern.proofs.better.Goals as goal

pub returns-then-beats : goal.returns-then-beats
unfolding better_text
returns-then-beats c = let w = sym c.beats.ensures ∙ c.if-beats.true in record {
  own = rw w;
  bytes = rw w;
}

pub returns : goal.returns
unfolding better_text
returns c = let w = sym c.beats.ensures ∙ c.if-beats.false in record {
  own = rw w;
  bytes = rw w;
}
