-- The items of a JSON list or dict: `enclosed` of values/specs/Stands.antt gives the values of exactly the items that json/specs/Grammar.antt
-- encloses, where each item's value and text keep a rule. Assumes nothing.
use Prim.Native.Nat.{ℕ, zero, suc, ◌+◌, ◌<◌}
use Prim.Native.Char.{Char, code}
use mathlib.Core.List.{List, [], ◌∷◌, ◌++◌, map, append_assoc}
use mathlib.Core.Logic.{⊎_elim}
use mathlib.Core.Path.{◌≡◌, refl, sym, ap, subst, ◌∙◌}
use native.Mathlib.Omega.{arith}
use lib.ListN.{length, drop, length-append, length-map}
use Rattle.seq.specs.Bytes.{byte_at}
use Rattle.seq.specs.Lists.{Both}
use Rattle.lex.specs.declared.Mark.TheVariants.{Item, End}
use Rattle.lex.specs.Lex.{first, next}
use Rattle.lex.specs.Grammar.{Language, Is, ◌·◌}
use Rattle.lex.proofs.Stands.{reads_then}
use Rattle.lex.proofs.Tokens.{Ends, Reads, stands-next}
use Rattle.json_text.specs.Grammar.{Rest, Enclosed}
use Rattle.json_text.proofs.Items.{reads-with, stands-short, Begins, Closing}
use Rattle.json_text.proofs.Items.{last_found, next-found, none_found, first_found, rest-length, rest-ends, last-is, next-is, none_is, first-is}
use Rattle.values.specs.Read.{Read, made}
use Rattle.values.specs.Read.Read.{Gives}
use Rattle.values.specs.Stands.{onward, series, enclosed}
use Rattle.values.proofs.Given.{gives-not, then-gives, made-gives, onward-gives}

-- an item of X has a text, and keeps the rule R with its value
module _ {A X : Type 0} (item : ℕ → Read A) (text : X → List ℕ) (R : X → A → Type 0) {c : Char} (closing : Closing c) (s : List ℕ) where
  -- these values' items from the first one's first byte on
  abbrev Row : List A → Language
  Row vs u = (x : X) × (xs : List X) × Both R (x ∷ xs) vs × (Is (text x) · Rest c (map text xs)) u

  -- these values' items, enclosed
  abbrev pub Listed : Char → List A → Language
  Listed o vs t = (xs : List X) × Both R xs vs × Enclosed o c (map text xs) t

  -- ---- what is given
  module _ (found : (i e : ℕ) (v : A) → item i ≡ Gives v e → (x : X) × R x v × Reads (Is (text x)) s i e) where
    -- an item and the closing byte; an item and those after the comma
    last-item : (a j e : ℕ) (v : A) (x : X) → R x v → Reads (Is (text x)) s a j → next (code c) s j ≡ End e → Reads (Row (v ∷ [])) s a e
    last-item a j e v x g y h = let z = reads_then s a j e y (last_found closing s j e h) in reads-with z (x, [], (g, tt), z.good)

    one_more : (a j b e : ℕ) (v : A) (vs : List A) (x : X) → R x v → Reads (Is (text x)) s a j → next (code c) s j ≡ Item b → Reads (Row vs) s b e
        → Reads (Row (v ∷ vs)) s a e
    one_more a j b e v vs x g y h z =
        let (x', xs, gs, k) = z.good in
        let w = reads_then s a j e y (next-found closing s j b e (text x') (map text xs) h (reads-with z k)) in
        reads-with w (x, x' ∷ xs, (g, gs), w.good)

    item-found : (a j e : ℕ) (v : A) (us : List A) (more : ℕ → Read (List A)) → item a ≡ Gives v j → onward (next (code c) s j) more ≡ Gives us e
        → ((b : ℕ) → more b ≡ Gives us e → Reads (Row us) s b e) → Reads (Row (v ∷ us)) s a e
    item-found a j e v us more p r go =
        let (x, g, y) = found a j v p in
        ⊎_elim
        (λ (m, n). subst (λ (us : List A). Reads (Row (v ∷ us)) s a e) (sym n) (last-item a j e v x g y m))
        (λ (b, m, k). one_more a j b e v us x g y m (go b k))
        (onward-gives (next (code c) s j) more us e r)

    series-found : (f a e : ℕ) (vs : List A) → series item (code c) f s a ≡ Gives vs e → Reads (Row vs) s a e
    unfolding series
    series-found zero a e vs h = gives-not h refl
    series-found (suc f) a e vs h =
        let (v, j, p, q) = then-gives (item a) (λ v e. made (λ vs. v ∷ vs) (onward (next (code c) s e) (series item (code c) f s))) vs e h in
        let (us, r, w) = made-gives (λ vs. v ∷ vs) (onward (next (code c) s j) (series item (code c) f s)) vs e q in
        subst (λ (l : List A). Reads (Row l) s a e) (sym w)
        (item-found a j e v us (series item (code c) f s) p r (λ b k. series-found f b e us k))

    pub enclosed-found : (o : Char) → 0 < code o → (i e : ℕ) (vs : List A) → byte_at s i ≡ code o → enclosed item (code c) s (i + 1) ≡ Gives vs e
        → Reads (Listed o vs) s i e
    unfolding enclosed
    enclosed-found o l i e vs b h =
        ⊎_elim
        (λ (m, n). rw n (none m))
        (λ (a, m, k). some a m (series-found (length s) a e vs k))
        (onward-gives (first (code c) s (i + 1)) (series item (code c) (length s) s) vs e h)
      where
        none : first (code c) s (i + 1) ≡ End e → Reads (Listed o []) s i e
        none m = let y = none_found closing s o l i b e m in reads-with y ([], tt, y.good)

        some : (a : ℕ) → first (code c) s (i + 1) ≡ Item a → Reads (Row vs) s a e → Reads (Listed o vs) s i e
        some a m z =
            let (x, xs, gs, k) = z.good in
            let y = first_found closing s o l i b a e (text x) (map text xs) m (reads-with z k) in
            reads-with y (x ∷ xs, gs, y.good)

  -- ---- and back
  module _ (begins : (x : X) (v : A) → R x v → Begins (text x)) (shut : (t : List ℕ) (b : Begins t) → ¬ (b.0 ≡ code c))
      (is : (i : ℕ) (x : X) (v : A) (r : List ℕ) → drop i s ≡ text x ++ r → R x v → Ends r → item i ≡ Gives v (i + length (text x))) where
    series-is : (xs : List X) (x : X) (vs : List A) (v : A) (f a : ℕ) (u r : List ℕ) → drop a s ≡ u ++ r → R x v → Both R xs vs
        → (Is (text x) · Rest c (map text xs)) u → length xs < f → series item (code c) f s a ≡ Gives (v ∷ vs) (a + length u)
    unfolding series
    series-is xs x vs v zero a u r h g gs m l = absurd (omega arith)
    series-is [] x [] v (suc f) a u r h g gs (t, y, e, q, m) l = rw (
      is a x v (y ++ r) whole g (rest-ends closing [] y r m),
      last-is closing s (a + length (text x)) y r (stands-next s a (text x) (y ++ r) whole) m,
    ) (ap (λ n. Gives (v ∷ []) n) (rw (e, q, length-append (text x) y) (omega arith)))
      where
        whole : drop a s ≡ text x ++ (y ++ r)
        whole = h ∙ rw (e, q, append_assoc (text x) y r)
    series-is [] x (v' ∷ vs) v (suc f) a u r h g gs m l = absurd gs
    series-is (x' ∷ xs) x [] v (suc f) a u r h g gs m l = absurd gs
    series-is (x' ∷ xs) x (v' ∷ vs) v (suc f) a u r h g gs (t, y, e, q, m) l = rw (
      is a x v (y ++ r) whole g (rest-ends closing (map text (x' ∷ xs)) y r m),
      more.2,
      series-is xs x' vs v' f more.0 more.1 r more.3 gs.0 gs.1 more.4 (omega arith),
    ) (ap (λ n. Gives (v ∷ v' ∷ vs) n) (sym (long ∙ more.5)))
      where
        long : a + length u ≡ a + length (text x) + length y
        long = rw (e, q, length-append (text x) y) (omega arith)

        whole : drop a s ≡ text x ++ (y ++ r)
        whole = h ∙ rw (e, q, append_assoc (text x) y r)

        more : (b : ℕ) × (z : List ℕ) × (next (code c) s (a + length (text x)) ≡ Item b) × (drop b s ≡ z ++ r)
            × (Is (text x') · Rest c (map text xs)) z × (a + length (text x) + length y ≡ b + length z)
        more = next-is closing s (a + length (text x)) y r (stands-next s a (text x) (y ++ r) whole) (text x') (map text xs) (begins x' v' gs.0) m

    pub enclosed-is : (o : Char) (vs : List A) (i : ℕ) (t r : List ℕ) → drop i s ≡ t ++ r → Listed o vs t
        → enclosed item (code c) s (i + 1) ≡ Gives vs (i + length t)
    unfolding enclosed
    enclosed-is o [] i t r h ([], gs, m) = rw (none_is closing s i t r h o m)
    enclosed-is o (v ∷ vs) i t r h ([], gs, m) = absurd gs
    enclosed-is o [] i t r h (x ∷ xs, gs, m) = absurd gs
    enclosed-is o (v ∷ vs) i t r h (x ∷ xs, gs, m) =
        let b = begins x v gs.0 in
        let (a, u, p, q, k, n) = first-is closing s i t r h o (text x) (map text xs) b (shut (text x) b) m in
        let z = rest-length closing (map text xs) k.1 k.4 in
        let w = stands-short s a u r q in
        rw (
          p,
          series-is xs x vs v (length s) a u r q gs.0 gs.1 k (omega (arith, ap length k.2 ∙ length-append k.0 k.1, length-map xs text)),
        ) (ap (λ j. Gives (v ∷ vs) j) (sym n))
