-- A message that a client writes is read as that message, in either format, and no two messages are written alike. Assumes nothing.
use Prim.Native.Nat.{ℕ, ◌≤◌}
use mathlib.Core.List.{List}
use mathlib.Core.Path.{◌≡◌, sym, ap, subst, ◌∙◌}
use lib.ListN.{length}
use Rattle.seq.specs.declared.Format.{Format}
use Rattle.values.specs.Value.{GoodText}
use Rattle.incoming.specs.Incoming.{Incoming, Violation}
use Rattle.incoming.specs.Read.{read}
use Rattle.incoming.proofs.Shapes.{reading}
use Rattle.spoken.specs.Written.{written, Writable}
use Rattle.spoken.proofs.Shaped.{shaped}

module _ (f : Format) where
  pub read_back : (reason : List ℕ) → GoodText reason → (m : Incoming) → Writable f m → length (written f reason m) ≤ 2048
      → read f (written f reason m) ≡ m
  read_back reason g m w l =
      let some : ¬ (m ≡ Violation) = λ e. subst (Writable f) e w in
      (reading.message f (written f reason m) m some).1 (shaped f reason g m w l)

  -- whatever the reasons
  pub written_once : (reason other : List ℕ) → GoodText reason → GoodText other → (m n : Incoming) → Writable f m → Writable f n
      → length (written f reason m) ≤ 2048 → written f reason m ≡ written f other n → m ≡ n
  written_once reason other g h m n w x l e =
      sym (read_back reason g m w l) ∙ ap (read f) e
      ∙ read_back other h n x (subst (λ (t : List ℕ). length t ≤ 2048) e l)
