-- What is sent on of a message that was read: its texts are UTF-8, an ERROR's URI keeps its rule, and its payload is one of its format. Assumes
-- nothing.
use Prim.Native.Nat.{ℕ, ◌-◌}
use mathlib.Core.Bool.{true}
use mathlib.Core.List.{List, [], ◌∷◌, ◌++◌}
use mathlib.Core.Logic.{⊎_elim}
use mathlib.Core.Path.{◌≡◌, sym, ap, subst, ◌∙◌}
use native.Mathlib.Omega.{arith}
use lib.ListN.{length, length-append}
use lib.Seq.{take_at}
use Rattle.seq.specs.declared.Format.{Format}
use Rattle.seq.specs.declared.Format.TheVariants.{Json, MsgPack}
use Rattle.uri.specs.declared.Policy.TheVariants.{Exact}
use Rattle.uri.specs.Rule.{UriText}
use Rattle.utf8.specs.Utf8.{well_formed}
use Rattle.utf8.proofs.Table.{utf8-table}
use Rattle.utf8.proofs.Cuts.{cut}
use Rattle.strings.specs.Strings.{undone, has_lone, inner}
use Rattle.strings.proofs.Spelling.{undoing}
use Rattle.values.specs.Whole.{Whole}
use Rattle.incoming.specs.Incoming.{Incoming, Hello, Abort, Goodbye, Error, Publish, Subscribe, Unsubscribe, Call, Register, Unregister, Yield, Violation}
use Rattle.incoming.specs.Read.{read}
use Rattle.incoming.specs.Shapes.{Says, Shape}
use Rattle.incoming.proofs.Shapes.{sound}
use Rattle.incoming.proofs.Whole.{made-whole}
use Rattle.sendable.proofs.Payloads.{Came}

-- ---- texts
-- what a string of UTF-8 stands for, where no half of a pair stands alone in it
string-formed : (text t : List ℕ) → well_formed t ≡ true → Says Json text t → well_formed text ≡ true
string-formed text t u ((a, b, e, p, (c, d, e₂, m, q)), l, k) =
    let whole : t ≡ 34 ∷ (c ++ (34 ∷ [])) = rw (e, e₂, p, q) in
    let between : inner t ≡ c =
    rw whole (take_at c (34 ∷ []) (length (34 ∷ (c ++ (34 ∷ []))) - 1 - 1) (omega (arith, length-append c (34 ∷ [])))) in
    let formed = (cut 34 (omega arith) [] c (cut 34 (omega arith) (c ++ (34 ∷ [])) [] (subst (λ (x : List ℕ). well_formed x ≡ true) whole u)).1).0 in
    let undoes = undoing.utf8 c m ((utf8-table c).0 formed) (sym (ap has_lone between) ∙ l) in
    subst (λ (x : List ℕ). well_formed x ≡ true) (sym (ap undone between) ∙ k) ((utf8-table (undone c)).1 undoes)

says-formed : (f : Format) (text t : List ℕ) → Whole f t → Says f text t → well_formed text ≡ true
says-formed Json text t w g = string-formed text t w.1.0 g
says-formed MsgPack text t w g = (utf8-table text).1 g.0

-- ---- the claim
abbrev pub Taken : Format → Incoming → Type 0
Taken f (Hello realm) = Unit {0}
Taken f Abort = Unit {0}
Taken f Goodbye = Unit {0}
Taken f (Error v uri p) = (well_formed uri ≡ true) × UriText Exact uri × Came f p
Taken f (Publish n acknowledge audience topic p) = (well_formed topic ≡ true) × Came f p
Taken f (Subscribe n policy topic) = Unit {0}
Taken f (Unsubscribe n id) = Unit {0}
Taken f (Call n procedure p) = (well_formed procedure ≡ true) × Came f p
Taken f (Register n policy procedure) = Unit {0}
Taken f (Unregister n id) = Unit {0}
Taken f (Yield v p) = Came f p
Taken f Violation = Unit {0}

shape-taken : (f : Format) (m : Incoming) (s : List ℕ) → Shape f m s → Taken f m
shape-taken f (Hello realm) s x = tt
shape-taken f Abort s x = tt
shape-taken f Goodbye s x = tt
shape-taken f (Error v uri p) s (a, b, c, d, e, ia, ib, ic, gd, ge, gu, gp, m) =
    let w = made-whole f (a ∷ b ∷ c ∷ d ∷ e ∷ p) s m in
    (says-formed f uri e w.1.1.1.1.0 ge, gu, (gp, w.1.1.1.1.1))
shape-taken f (Publish n k audience topic p) s (g, (a, b, c, d, ia, ib, gc, gd, m)) =
    let w = made-whole f (a ∷ b ∷ c ∷ d ∷ p) s m in (says-formed f topic d w.1.1.1.0 gd, (g, w.1.1.1.1))
shape-taken f (Subscribe n policy topic) s x = tt
shape-taken f (Unsubscribe n id) s x = tt
shape-taken f (Call n procedure p) s (g, (a, b, c, d, ia, ib, gc, gd, m)) =
    let w = made-whole f (a ∷ b ∷ c ∷ d ∷ p) s m in (says-formed f procedure d w.1.1.1.0 gd, (g, w.1.1.1.1))
shape-taken f (Register n policy procedure) s x = tt
shape-taken f (Unregister n id) s x = tt
shape-taken f (Yield v p) s (a, b, c, ia, ib, gc, gp, m) = (gp, (made-whole f (a ∷ b ∷ c ∷ p) s m).1.1.1)
shape-taken f Violation s x = absurd x

pub read_taken : (f : Format) (s : List ℕ) → Taken f (read f s)
read_taken f s = ⊎_elim (λ v. subst (Taken f) (sym v) tt) (shape-taken f (read f s) s) (sound f s)
