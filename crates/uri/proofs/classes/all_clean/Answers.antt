use Prim.Native.Nat.{ℕ, ◌<◌}
use mathlib.Core.Path.{◌≡◌, refl, sym, ap, ◌∙◌}
use mathlib.Core.Bool.{Bool, not}
use mathlib.Core.List.{List}
use native.Mathlib.Omega.{arith}
use lib.Dec.{eqb, eqb→eq}
use lib.ListN.{get_or}
use Rattle.seq.proofs.Lists.{every-fail, every-pass, every-end}
use Rattle.seq.proofs.Table.{at}
use Rattle.uri.specs.Uri.{class_of, is_clean}
use Rattle.uri.proofs.Laws.{is-refused, not-refused}
use Rattle.uri.proofs.classes.all_clean.Invariants.{classes}
use Rattle.uri.proofs.classes.all_clean.Goals as goal

right : ℕ → ℕ → Bool
right b c = eqb c (class_of b)

class-at : (b : ℕ) → b < 256 → get_or classes b 0 ≡ class_of b
unfolding classes right
class-at b h = eqb→eq (get_or classes b 0) (class_of b) (at right classes tt b h)

-- the entry that is read is that of the byte's class
module _ (table : List ℕ) (p b : ℕ) (t : table ≡ classes) (e : p ≡ b) (h : p < 256) where
  read-class : get_or table p 0 ≡ class_of b
  read-class = ap (λ x. get_or x p 0) t ∙ (class-at p h ∙ ap class_of e)

pub loop-b-init : goal.loop-b-init
unfolding classes
loop-b-init c = (refl, refl)

pub returns-then-classes-place-eq0 : goal.returns-then-classes-place-eq0
returns-then-classes-place-eq0 c =
    let loop = c.loop-b in
    let text = c.args.text.now in
    let place = c.place.ensures in
    sym (loop.invariant.1 ∙ every-fail is_clean text loop.b-index 0 (omega arith)
    (ap not (is-refused (get_or text loop.b-index 0) (sym (read-class _ _ _ loop.invariant.0 place.0 place.1) ∙ c.if-classes-place-eq0.true))))

pub loop-b-preserved : goal.loop-b-preserved
loop-b-preserved c =
    let loop = c.loop-b in
    let text = c.args.text.now in
    let place = c.place.ensures in (
      loop.invariant.0,
      loop.invariant.1 ∙ every-pass is_clean text loop.b-index 0 (omega arith)
          (ap not (not-refused (get_or text loop.b-index 0) (λ e. c.if-classes-place-eq0.false (read-class _ _ _ loop.invariant.0 place.0 place.1 ∙ e)))),
    )

pub returns : goal.returns
returns c = sym (c.loop-b.invariant.1 ∙ every-end is_clean c.args.text.now c.loop-b.b-index (omega arith))
