-- The tests of the URI rule (specs/Uri.antt) pass exactly the texts of specs/Rule.antt. Assumes nothing.
use Prim.Native.Nat.{ℕ, ◌≤◌}
use mathlib.Core.Bool.{Bool, true, false, not, ◌&&◌, ◌||◌}
use mathlib.Core.List.{List, [], ◌∷◌, ◌++◌}
use mathlib.Core.Logic.{◌↔◌, ◌⊎◌, inl, inr, ⊎_elim}
use mathlib.Core.Path.{◌≡◌, refl, sym, ap, ◌∙◌}
use native.Mathlib.Omega.{arith}
use borrow.Author.Tests.{ne_eqb, le-leb, lt-leb, eqb-true, eqb-false, leb-true, leb-false}
use lib.Dec.{eqb, leb}
use lib.ListN.{length}
use Rattle.seq.specs.Lists.{every, first_part, rest_parts}
use Rattle.seq.specs.Bytes.{chars, same}
use Rattle.seq.proofs.Logic.{split, clash, and_left, and_right, and_both, or-false, not_is}
use Rattle.seq.proofs.Rules.{all_map, every-all, all-every}
use Rattle.seq.proofs.Bytes.{same-eq}
use Rattle.uri.specs.declared.Policy.{Policy}
use Rattle.uri.specs.declared.Policy.TheVariants.{Exact, Prefix, Wildcard}
use Rattle.uri.specs.Uri.{is_dot, is_clean, clean, components, filled, components_filled, valid_text, reserved_first}
use Rattle.uri.specs.Uri.{valid_topic, valid_procedure, valid_published, valid_called, valid_error}
use Rattle.uri.specs.Components.{joined}
use Rattle.uri.specs.Rule.{Clean, DotFirst, DotLast, DotsTogether, Dots, UriText, Reserved}
use Rattle.uri.proofs.Laws.{filled_parts, filled-go, filled-stop, filled-last, filled_none}
use Rattle.uri.proofs.Components.{components-of}

-- ---- bytes
clean-byte : (b : ℕ) → is_clean b ≡ true → Clean b
clean-byte b e =
    let both : (leb b 32 ≡ false) × (eqb b 35 ≡ false) = or-false (leb b 32) (eqb b 35) (not_is (leb b 32 || eqb b 35) e) in
    (leb-false b 32 both.0, eqb-false b 35 both.1)

byte-clean : (b : ℕ) → Clean b → is_clean b ≡ true
byte-clean b h = rw (lt-leb b 32 h.0, ne_eqb b 35 h.1)

-- ---- dots
-- the components after the first are filled, the last perhaps not: unlike the same of all components, a byte put before a text that fails it
-- never mends it
rest : Bool → List ℕ → Bool
rest o s = filled_parts o (rest_parts is_dot s)

rest-none : (o : Bool) → rest o [] ≡ true
unfolding rest rest_parts
rest-none o = filled_none o

module _ (o : Bool) (x : ℕ) (s : List ℕ) where
  rest-dot : is_dot x ≡ true → rest o (x ∷ s) ≡ filled_parts o (components s)
  unfolding rest rest_parts
  rest-dot t = rw t

  rest-byte : is_dot x ≡ false → rest o (x ∷ s) ≡ rest o s
  unfolding rest rest_parts
  rest-byte t = rw t

  -- all components of a text that begins with a dot, or with another byte
  all-dot : is_dot x ≡ true → filled_parts o (components (x ∷ s)) ≡ false
  unfolding first_part rest_parts
  all-dot t = rw t (filled-stop o [] (first_part is_dot s) (rest_parts is_dot s) refl)

  all-byte : is_dot x ≡ false → filled_parts o (components (x ∷ s)) ≡ rest o (x ∷ s)
  unfolding rest first_part rest_parts
  all-byte t = rw t (filled-go o (x ∷ first_part is_dot s) (rest_parts is_dot s) refl)

all_none : (o : Bool) → filled_parts o (components []) ≡ o
unfolding first_part rest_parts
all_none o = filled-last o [] refl

all_rest : (o : Bool) (s : List ℕ) → filled_parts o (components s) ≡ true → rest o s ≡ true
all_rest o [] e = rest-none o
all_rest o (x ∷ s) e = split (is_dot x) (λ t. clash e (all-dot o x s t)) (λ t. sym (all-byte o x s t) ∙ e)

rest-keeps : (o : Bool) (x : ℕ) (s : List ℕ) → rest o s ≡ false → rest o (x ∷ s) ≡ false
rest-keeps o x [] e = clash (rest-none o) e
rest-keeps o x (y ∷ s) e =
    split (is_dot x)
    (λ t. rest-dot o x (y ∷ s) t ∙ split (is_dot y) (λ d. all-dot o y s d) (λ d. all-byte o y s d ∙ e))
    (λ t. rest-byte o x (y ∷ s) t ∙ e)

rest-together : (o : Bool) (a b : List ℕ) → rest o (a ++ (46 ∷ 46 ∷ b)) ≡ false
rest-together o [] b = rest-dot o 46 (46 ∷ b) refl ∙ all-dot o 46 b refl
rest-together o (x ∷ a) b = rest-keeps o x _ (rest-together o a b)

rest-last : (a : List ℕ) → rest false (a ++ (46 ∷ [])) ≡ false
rest-last [] = rest-dot false 46 [] refl ∙ all_none false
rest-last (x ∷ a) = rest-keeps false x _ (rest-last a)

-- and nothing else breaks it
rest-good : (o : Bool) (s : List ℕ) → (o ≡ false → ¬ (DotLast s)) → ¬ (DotsTogether s) → rest o s ≡ true
rest-good o [] last together = rest-none o
rest-good o (x ∷ []) last together =
    split (is_dot x)
    (λ t.
    rest-dot o x [] t ∙ all_none o
    ∙ split o (λ e. e) (λ e. absurd (last e ([], ap (λ z. z ∷ []) (eqb-true x 46 t)))))
    (λ t. rest-byte o x [] t ∙ rest-none o)
rest-good o (x ∷ y ∷ s) last together =
    let r : rest o (y ∷ s) ≡ true = rest-good o (y ∷ s)
    (λ e p. last e (x ∷ p.0, ap (λ z. x ∷ z) p.1))
    (λ p. together (x ∷ p.0, p.1, ap (λ z. x ∷ z) p.2)) in
    split (is_dot x)
    (λ t.
    rest-dot o x (y ∷ s) t
    ∙ split (is_dot y)
    (λ d.
    let p : x ≡ 46 = eqb-true x 46 t in
    let q : y ≡ 46 = eqb-true y 46 d in
    absurd (together ([], s, cc)))
    (λ d. all-byte o y s d ∙ r))
    (λ t. rest-byte o x (y ∷ s) t ∙ r)

-- filled components, by where the dots stand
module _ (o : Bool) where
  filled-dots : (s : List ℕ) → filled o s ≡ true → ¬ (DotFirst s) × (o ≡ false → ¬ (DotLast s)) × ¬ (DotsTogether s)
  unfolding filled
  filled-dots s e =
      let r : rest o s ≡ true = all_rest o s e in (
        λ p. clash e (ap (λ l. filled_parts o (components l)) p.1 ∙ all-dot o 46 p.0 refl),
        λ z p. clash r (ap (λ b. rest b s) z ∙ ap (rest false) p.1 ∙ rest-last p.0),
        λ p. clash r (ap (rest o) p.2 ∙ rest-together o p.0 p.1),
      )

  dots-filled : (s : List ℕ) → 1 ≤ length s → ¬ (DotFirst s) → (o ≡ false → ¬ (DotLast s)) → ¬ (DotsTogether s) → filled o s ≡ true
  unfolding filled
  dots-filled [] h first last together = absurd (omega arith)
  dots-filled (x ∷ s) h first last together =
      split (is_dot x)
      (λ t. absurd (first (s, ap (λ z. z ∷ s) (eqb-true x 46 t))))
      (λ t. all-byte o x s t ∙ rest-good o (x ∷ s) last together)

components-dots : (p : Policy) (s : List ℕ) → components_filled p s ≡ true → Dots p s
unfolding components_filled
components-dots Exact s e = let d = filled-dots false s e in (d.0, d.1 refl, d.2)
components-dots Prefix s e = let d = filled-dots true s e in (d.0, d.2)
components-dots Wildcard s e = tt

dots-components : (p : Policy) (s : List ℕ) → 1 ≤ length s → Dots p s → components_filled p s ≡ true
unfolding components_filled
dots-components Exact s h d = dots-filled false s h d.0 (λ z. d.1) d.2
dots-components Prefix s h d = dots-filled true s h d.0 (λ z. clash refl z) d.1
dots-components Wildcard s h d = refl

-- ---- the rule of every text
module _ (s : List ℕ) (p : Policy) where
  text-uri : valid_text s p ≡ true → UriText p s
  unfolding valid_text
  text-uri e =
      let some : Bool = not (eqb (length s) 0) in
      let short : Bool = leb (length s) 128 in
      let both : (some && short && clean s) ≡ true = and_left (some && short && clean s) (components_filled p s) e in
      let sized : (some && short) ≡ true = and_left (some && short) (clean s) both in
      let filled_whole : length s ≡ 0 → ⊥ = eqb-false (length s) 0 (not_is _ (and_left some short sized)) in (
        omega arith,
        leb-true (length s) 128 (and_right some short sized),
        all_map _ Clean clean-byte s (every-all is_clean s (and_right (some && short) (clean s) both)),
        components-dots p s (and_right (some && short && clean s) (components_filled p s) e),
      )

  uri-text : UriText p s → valid_text s p ≡ true
  unfolding valid_text
  uri-text u =
      let c : every is_clean s ≡ true = all-every is_clean s (all_map Clean _ byte-clean s u.2) in
      rw (ne_eqb (length s) 0 (λ z. omega arith), le-leb (length s) 128 u.1, c) (dots-components p s u.0 u.3)

-- ---- the first component `wamp`
-- a text is its first component, or a dot follows that
first_then : (c : List ℕ) (cs : List (List ℕ)) (s : List ℕ) → joined (c ∷ cs) ≡ s → (s ≡ c) ⊎ ((t : List ℕ) × (s ≡ c ++ (46 ∷ t)))
unfolding joined
first_then c [] s e = inl (sym e)
first_then c (d ∷ cs) s e = inr (joined (d ∷ cs), sym e)

first-reserved : (s : List ℕ) → reserved_first s ≡ true → Reserved s
unfolding reserved_first
first-reserved s e =
    let q : first_part is_dot s ≡ chars "wamp" = same-eq (first_part is_dot s) (chars "wamp") e in
    ⊎_elim (λ w. inl (w ∙ q)) (λ w. inr (w.0, w.1 ∙ ap (λ c. c ++ (46 ∷ w.0)) q))
    (first_then (first_part is_dot s) (rest_parts is_dot s) s (components-of s).whole)

reserved-first : (s : List ℕ) → Reserved s → reserved_first s ≡ true
unfolding reserved_first first_part same
reserved-first s (inl e) = rw e
reserved-first s (inr w) = rw w.1

not-reserved : (s : List ℕ) → not (reserved_first s) ≡ true → ¬ (Reserved s)
not-reserved s e r = clash (reserved-first s r) (not_is _ e)

reserved-not : (s : List ℕ) → ¬ (Reserved s) → not (reserved_first s) ≡ true
reserved-not s n = split (reserved_first s) (λ e. absurd (n (first-reserved s e))) (λ e. rw e)

-- a text that is not reserved
module _ (s : List ℕ) (p : Policy) where
  free-uri : (valid_text s p && not (reserved_first s)) ≡ true → UriText p s × ¬ (Reserved s)
  free-uri e = (text-uri s p (and_left (valid_text s p) _ e), not-reserved s (and_right (valid_text s p) _ e))

  uri-free : UriText p s × ¬ (Reserved s) → (valid_text s p && not (reserved_first s)) ≡ true
  uri-free u = and_both (uri-text s p u.0) (reserved-not s u.1)

-- ---- the statements, of every text
pub record UriRule : Type 0 where
  pub text : (s : List ℕ) (p : Policy) → valid_text s p ≡ true ↔ UriText p s
  pub topic : (s : List ℕ) (p : Policy) → valid_topic s p ≡ true ↔ UriText p s
  pub procedure : (s : List ℕ) (p : Policy) → valid_procedure s p ≡ true ↔ (UriText p s × ¬ (Reserved s))
  pub published : (s : List ℕ) → valid_published s ≡ true ↔ (UriText Exact s × ¬ (Reserved s))
  pub called : (s : List ℕ) → valid_called s ≡ true ↔ UriText Exact s
  pub error : (s : List ℕ) → valid_error s ≡ true ↔ UriText Exact s

pub uri-rule : UriRule
unfolding valid_topic valid_procedure valid_published valid_called valid_error
uri-rule = record {
  text = λ s p. (text-uri s p, uri-text s p);
  topic = λ s p. (text-uri s p, uri-text s p);
  procedure = λ s p. (free-uri s p, uri-free s p);
  published = λ s. (free-uri s Exact, uri-free s Exact);
  called = λ s. (text-uri s Exact, uri-text s Exact);
  error = λ s. (text-uri s Exact, uri-text s Exact);
}
