-- A text undone byte by byte. Assumes nothing.
use mathlib.Core.List.{List, [], ◌∷◌, ◌++◌, append_assoc, append-nil}
use mathlib.Core.Path.{◌≡◌, refl, sym, ap, ◌∙◌}
use Prim.Native.Nat.{ℕ, ◌≤◌}
use lib.ListN.{length}
use Rattle.strings.specs.Strings.{undone}
use Rattle.strings.specs.Places.{rest}
use Rattle.strings.proofs.Places.{rest_end}
use Rattle.buffer.specs.Capped.{largest}
use Rattle.buffer.proofs.Wrote.{Wrote, wrote, wrote_then}

-- so far as to the byte at a place: what was written, and what is left
pub record Begun (t : List ℕ) (old : List ℕ) (o : ℕ) (q at k : ℕ) (out : List ℕ) : Type 0 where
  pub taken : List ℕ
  pub whole : undone t ≡ taken ++ rest t at k
  pub wrote : Wrote old o taken q out

module _ {t old : List ℕ} {o : ℕ} where
  pub begun : {out : List ℕ} → Wrote old o [] o out → Begun t old o o 0 0 out
  begun w = record { taken = []; whole = refl; wrote = w }

  module _ {q at k : ℕ} {out : List ℕ} (g : Begun t old o q at k out) where
    pub begun-next : length old ≤ largest → {b q' at' k' : ℕ} {out' : List ℕ} → rest t at k ≡ b ∷ rest t at' k' → Wrote out q (b ∷ []) q' out'
        → Begun t old o q' at' k' out'
    begun-next l {b} {q'} {at'} {k'} e w = record {
      taken = g.taken ++ (b ∷ []);
      whole = g.whole ∙ ap (λ (r : List ℕ). g.taken ++ r) e ∙ sym (append_assoc g.taken (b ∷ []) (rest t at' k'));
      wrote = wrote_then l g.wrote w;
    }

    pub begun-end : length t ≤ at → Wrote old o (undone t) q out
    begun-end l =
        wrote (sym (g.whole ∙ ap (λ (r : List ℕ). g.taken ++ r) (rest_end t at k l) ∙ append-nil g.taken)) g.wrote
