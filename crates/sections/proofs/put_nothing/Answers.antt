use mathlib.Core.Path.{refl, sym, ◌∙◌}
use native.Mathlib.Omega.{arith}
use Rattle.buffer.proofs.Sums.{capped_is}
use Rattle.buffer.proofs.Wrote.{told}
use Rattle.outgoing.specs.Layout.{be16}
use Rattle.sections.proofs.Sections.{bytes-none, bytes-done}
use Rattle.sections.proofs.put_nothing.Goals as goal

pub returns-then-out-lt2 : goal.returns-then-out-lt2
returns-then-out-lt2 c = record {
  size = refl;
  bytes = bytes-none (be16 0) _ (omega arith);
}

pub returns : goal.returns
returns c =
    let w = told _ _ (be16 0) c.put_be16.ensures in record {
      size = w.ends ∙ sym (capped_is 2 (omega arith));
      bytes = bytes-done (be16 0) _ _ _ (omega (arith, c.if-out-lt2.false)) w;
    }
