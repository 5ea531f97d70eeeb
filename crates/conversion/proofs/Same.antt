-- A payload that converts stands for the same values in the other format, by readers that are defined apart from what writes; one that
-- does not has a value that stands for none. Assumes nothing.
use Prim.Native.Nat.{ℕ}
use mathlib.Core.List.{List, [], ◌∷◌}
use mathlib.Core.Logic.{inl, inr}
use mathlib.Core.Path.{◌≡◌, refl, ap, ◌∙◌}
use native.Mathlib.Omega.{arith}
use lib.ListN.{length}
use Rattle.seq.specs.declared.Format.{Format}
use Rattle.seq.specs.Lists.{All, Both}
use Rattle.seq.specs.Bytes.{Payload}
use Rattle.elements.specs.Elements.{inner_depth}
use Rattle.values.specs.Value.{Value}
use Rattle.values.specs.Read.{Read, made}
use Rattle.values.specs.Read.Read.{Gives, Not}
use Rattle.values.specs.Write.{write}
use Rattle.values.specs.Stands.{stands}
use Rattle.values.specs.Whole.{Whole}
use Rattle.values.specs.Same.{SameValue, Unlike}
use Rattle.values.proofs.Both.{written_back, agree}
use Rattle.values.proofs.Good.{good}
use Rattle.conversion.specs.Converts.{convert}
use Rattle.conversion.specs.Carried.{Carried, As, NotConvertible, ahead, converted}

module _ (f g : Format) where
  same : (v : List ℕ) → Whole f v → (x : Value inner_depth) (e : ℕ) → stands f inner_depth v 0 ≡ Gives x e → SameValue f g v (write g inner_depth x)
  same v (k, r) x e q =
      let d : e ≡ length v = agree f v inner_depth 0 x e (length v) q k in
      record {
        value = x;
        came = q ∙ ap (Gives x) d;
        goes = written_back g inner_depth x (good f inner_depth v 0 e x (length v) r k q);
      }

  -- by what stands there, and what the rest comes to
  abbrev pub Comes : Payload → Carried → Type 0
  Comes p (As q) = Both (SameValue f g) p q
  Comes p NotConvertible = Unlike f p

  comes-ahead : (v : List ℕ) (p : Payload) → Whole f v → (r : Read (Value inner_depth)) → stands f inner_depth v 0 ≡ r
      → (c : Carried) → Comes p c → Comes (v ∷ p) (ahead (made (write g inner_depth) r) c)
  comes-ahead v p w (Gives x e) q (As s) b = (same v w x e q, b)
  comes-ahead v p w (Gives x e) q NotConvertible (u, i, n) = (u, inr i, n)
  comes-ahead v p w Not q c b = (v, inl refl, λ x e z. let y : ◌≡◌ {A = ℕ} 0 1 = cc in omega arith)

  pub comes : (p : Payload) → All (Whole f) p → Comes p (converted f g p)
  unfolding converted convert
  comes [] a = tt
  comes (v ∷ p) a = comes-ahead v p a.0 (stands f inner_depth v 0) refl (converted f g p) (comes p a.1)
