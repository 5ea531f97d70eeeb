use mathlib.Core.Path.{sym, ap, ◌∙◌}
use Prim.Native.Nat.{ℕ}
use lib.ListN.{length}
use lib.Dec.{eqb}
use Rattle.json_text.proofs.Laws.{text-not, text-is}
use Rattle.json_text.proofs.is_text.Goals as goal

pub returns-in_default : goal.returns-in_default
returns-in_default c =
    let args = c.args in
    sym (text-not args.s.now _ c.space.ensures.means
    (sym c.value.ensures.means ∙ c.in_default.is))

pub returns : goal.returns
returns c =
    let value = c.value in
    let space = c.space in
    let args = c.args in
    let s = args.s.now in
    ap (λ (n : ℕ). eqb n (length s)) c.space-2.ensures.means ∙ sym
    (text-is s _ space.ensures.means _ (sym value.ensures.means ∙ c.in-Some.is))
