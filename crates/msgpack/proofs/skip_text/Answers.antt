use mathlib.Core.Path.{sym, ap, ◌∙◌}
use mathlib.Core.List.{List}
use Prim.Native.Nat.{ℕ}
use Rattle.utf8.specs.Utf8.{well_formed}
use Rattle.lex.proofs.Laws.{from-to}
use Rattle.msgpack.proofs.Laws.{text-cut, text-is, text-not}
use Rattle.msgpack.proofs.skip_text.Goals as goal

pub returns-in_err-e-clause-means : goal.returns-in_err-e-clause-means
returns-in_err-e-clause-means c = rw c.from_residual.ensures (text-cut _ _ _ (sym c.skip_bytes.ensures.means ∙ c.in_err-e.was))

pub returns-then-well_formed : goal.returns-then-well_formed
returns-then-well_formed c =
    let skip = c.skip_bytes in
    let found = sym skip.ensures.means ∙ c.in_ok-e.was in
    let formed = sym (c.well_formed-2.ensures ∙ ap (λ (x : List ℕ). well_formed x) c.text.ensures) ∙ c.if-well_formed.true in record {
      means = text-is _ _ _ _ found formed;
      within = from-to _ _ c.in_ok-e.was skip.ensures.within;
    }

pub returns-else-well_formed : goal.returns-else-well_formed
returns-else-well_formed c =
    let skip = c.skip_bytes in
    let found = sym skip.ensures.means ∙ c.in_ok-e.was in
    let formed = sym (c.well_formed-2.ensures ∙ ap (λ (x : List ℕ). well_formed x) c.text.ensures) ∙ c.if-well_formed.false in record {
      means = text-not _ _ _ _ found formed;
      within = tt;
    }
