-- The elements of a message's list by their texts, and what a string among them stands for. Assumes nothing.
use Prim.Native.Nat.{ℕ, ◌<◌}
use mathlib.Core.Bool.{true}
use mathlib.Core.List.{List, [], map}
use mathlib.Core.Path.{◌≡◌, sym, ap, subst, ◌∙◌}
use lib.ListN.{length, get_or, get_or-map}
use Rattle.seq.specs.declared.Format.{Format}
use Rattle.seq.specs.declared.Span.{Span}
use Rattle.seq.specs.Bytes.{text_of}
use Rattle.elements.specs.Elements.{at, blank}
use Rattle.incoming.specs.Read.{spans_in, text_by, sound_by, text_in, sound_text}
use Rattle.incoming.specs.Shapes.{IsString, Says}
use Rattle.incoming.proofs.Laws.{Laws}

module _ (f : Format) (s : List ℕ) where
  abbrev pub spans : List Span
  spans = spans_in f s

  -- the text of element k
  abbrev pub text : ℕ → List ℕ
  text k = text_of s (at k spans)

  abbrev pub texts : List (List ℕ)
  texts = map (text_of s) spans

  pub text-is : (es : List (List ℕ)) → texts ≡ es → (k : ℕ) → text k ≡ get_or es k []
  text-is es e k = sym (get_or-map (text_of s) spans k blank) ∙ ap (λ l. get_or l k []) e

  -- ---- strings among them
  module _ (w : Laws f) (k : ℕ) (h : k < length spans) where
    pub says-found : IsString f (text k) → sound_text f s (at k spans) ≡ true → Says f (text_in f s (at k spans)) (text k)
    says-found g q =
        let e = w.within-at s k h in
        let a = w.sound-found (text k) (sym (ap (sound_by f) e) ∙ q) in
        subst (λ (u : List ℕ). Says f u (text k)) (sym (ap (text_by f) e)) (w.says-found (text k) g a)

    pub says_is : (t : List ℕ) → Says f t (text k) → text_in f s (at k spans) ≡ t
    says_is t a = ap (text_by f) (w.within-at s k h) ∙ w.says_is t (text k) a

    pub says-sound : (t : List ℕ) → Says f t (text k) → sound_text f s (at k spans) ≡ true
    says-sound t a = ap (sound_by f) (w.within-at s k h) ∙ w.sound-is (text k) (w.says-sound t (text k) a)
