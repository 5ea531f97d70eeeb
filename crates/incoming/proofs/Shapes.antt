-- A message is read, in either format, exactly where its bytes have its shape (specs/Shapes.antt), and a violation where they have none. Assumes
-- nothing.
use Prim.Native.Nat.{ℕ}
use mathlib.Core.List.{List}
use mathlib.Core.Logic.{◌⊎◌, ⊎_elim, ◌↔◌}
use mathlib.Core.Path.{◌≡◌, sym, subst, ◌∙◌}
use Rattle.seq.specs.declared.Format.{Format}
use Rattle.seq.specs.declared.Format.TheVariants.{Json, MsgPack}
use Rattle.incoming.specs.Incoming.{Incoming, Violation}
use Rattle.incoming.specs.Read.{read}
use Rattle.incoming.specs.Shapes.{Shape}
use Rattle.incoming.proofs.Laws.{Laws}
use Rattle.incoming.proofs.JsonLaws.{json-laws}
use Rattle.incoming.proofs.PackLaws.{pack-laws}
use Rattle.incoming.proofs.Complete as Complete
use Rattle.incoming.proofs.Sound as Sound

laws : (f : Format) → Laws f
laws Json = json-laws
laws MsgPack = pack-laws

complete : (f : Format) (s : List ℕ) (m : Incoming) → Shape f m s → read f s ≡ m
complete f = Complete.complete f (laws f)

pub sound : (f : Format) (s : List ℕ) → (read f s ≡ Violation) ⊎ Shape f (read f s) s
sound f = Sound.sound f (laws f)

-- ---- the claims
pub record Reading : Type 0 where
  pub message : (f : Format) (s : List ℕ) (m : Incoming) → ¬ (m ≡ Violation) → (read f s ≡ m) ↔ Shape f m s
  pub violation : (f : Format) (s : List ℕ) → (read f s ≡ Violation) ↔ ((m : Incoming) → ¬ (Shape f m s))

pub reading : Reading
reading = record {
  message = λ f s m n. (
    λ e. ⊎_elim (λ v. absurd (n (sym e ∙ v))) (λ x. subst (λ (i : Incoming). Shape f i s) e x) (sound f s),
    complete f s m,
  );
  violation = λ f s. (
    λ e m x. subst (λ (i : Incoming). Shape f i s) (sym (complete f s m x) ∙ e) x,
    λ g. ⊎_elim (λ v. v) (λ x. absurd (g (read f s) x)) (sound f s),
  );
}
