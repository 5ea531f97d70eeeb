use mathlib.Core.Path.{refl}
use native.Mathlib.Omega.{arith}
use Rattle.hub.proofs.Laws.{read_past}
use Rattle.hub.proofs.bounded.Goals as goal

pub returns-then-message-gt2048 : goal.returns-then-message-gt2048
returns-then-message-gt2048 c = record {
  means = (λ f. read_past f _ c.if-message-gt2048.true);
  short = omega arith;
}

pub returns : goal.returns
returns c = record {
  means = (λ f. refl);
  short = omega (arith, c.if-message-gt2048.false);
}
