use mathlib.Core.Path.{sym, ◌∙◌}
use Prim.Native.Nat.{◌-◌}
use native.Mathlib.Omega.{arith}
use Rattle.writing.proofs.Again.{copies, min-is, again, again-none}
use Rattle.writing.proofs.put_again.Goals.{then-m-gt0, else-m-gt0}
use Rattle.writing.proofs.put_again.Goals as goal

pub returns : goal.returns
returns c =
    let k = copies _ _ _ _ _ _ _ _ _ (c.min-end.ensures ∙ min-is _ _) c.saturating_sub.ensures (c.min-there.ensures ∙ min-is _ _) c.saturating_sub-2.ensures
    (c.min-m.ensures ∙ min-is _ _) in record {
      place = c.plus.ensures;
      bytes = elim c.if-m-gt0.branch [
        | then-m-gt0 v ↦ v.out-is ∙ again _ _ _ _ _ _ k v.if-m-gt0.true v.copy_within.ensures.after
        | else-m-gt0 v ↦ v.out-is ∙ again-none _ _ _ _ _ k (omega arith)
      ];
    }
