-- specs/Json.antt and `stands` of values/specs/Stands.antt agree: what `stands` reads from a JSON text, from its first byte to its last, is what the
-- text means. Both ways, wherever a text stands. Assumes nothing.
use Prim.Native.Nat.{ℕ, zero, suc, ◌+◌}
use mathlib.Core.List.{List, [], ◌∷◌, ◌++◌, map, map-id, append_assoc, append-nil}
use mathlib.Core.Logic.{◌↔◌}
use mathlib.Core.Path.{◌≡◌, refl, sym, ap, subst, ◌∙◌}
use native.Mathlib.Nat.{zero-add}
use native.Mathlib.Omega.{arith}
use borrow.Author.Tests.{eqb-true}
use lib.ListN.{length, drop, length-append}
use Rattle.seq.specs.declared.Format.TheVariants.{Json}
use Rattle.seq.specs.Bytes.{is, byte_at}
use Rattle.seq.proofs.Logic.{split}
use Rattle.lex.specs.Grammar.{Language, Is, Ws}
use Rattle.lex.proofs.Stands.{reads_then, reads_all, stands-byte}
use Rattle.lex.proofs.Tokens.{Ends, Reads, stands-next, string-head, colon-is, colon-went}
use Rattle.json_text.specs.Grammar.{Array, Member as MemberText}
use Rattle.json_text.proofs.Items.{reads-with, reads-own, Begins, begins-space, bracket, brace, parted}
use Rattle.json_text.proofs.Grammar.{enclosed-begins}
use Rattle.values.specs.Value.{Scalar, Layer, Member, Value}
use Rattle.values.specs.Value.Layer.{Plain, Items, Members}
use Rattle.values.specs.Read.{Read}
use Rattle.values.specs.Read.Read.{Gives, Not}
use Rattle.values.specs.Stands.{enclosed, json_scalar_at, json_member_at, json_layer_at, stands}
use Rattle.values.proofs.Given.{same-value, same_place, gives-not}
use Rattle.values.proofs.GivenJson.{json-layer, json-member}
use Rattle.meanings.specs.Json.{Says, MeansMember, MeansLayer, Means}
use Rattle.meanings.proofs.JsonItems.{enclosed-found, enclosed-is}
use Rattle.meanings.proofs.JsonScalars.{says-found, scalar-found, says_is, scalar_is, scalar-begins}

-- ---- what is given
module _ {A : Type 0} (item : ℕ → Read A) (Inner : A → Language) (s : List ℕ)
    (found : (i e : ℕ) (v : A) → item i ≡ Gives v e → Reads (Inner v) s i e) where
  element-found : (i e : ℕ) (v : A) → item i ≡ Gives v e → (t : List ℕ) × Inner v t × Reads (Is t) s i e
  element-found i e v h = let x = found i e v h in (x.text, x.good, reads-own x)

  member-found : (i e : ℕ) (m : Member A) → json_member_at item s i ≡ Gives m e → (p : MemberText) × MeansMember Inner p m × Reads (Is p.text) s i e
  member-found i e m h =
      let (j, a, q, c, g) = json-member item s i m e h in
      let x = says-found s i j m.key q in
      let y = found a e m.value g in
      let (w, w', r, p, k, k', z) = colon-went s j a c in
      let l = reads_then s i j e (reads-own x) (parted ":" s j a e w w' r p k k' z (reads-own y)) in
      (record { key = x.text; value = y.text; text = l.text }, (x.good, (x.good.0, y.good, l.good)), reads-own l)

  layer-found : (i e : ℕ) (v : Layer A) → json_layer_at item s i ≡ Gives v e → Reads (MeansLayer Inner v) s i e
  layer-found i e v h = json-layer s i item (λ u k. Reads (MeansLayer Inner u) s i k) v e h
      (λ vs b g.
      let x = enclosed-found item (λ (t : List ℕ). t) (λ t v. Inner v t) bracket s element-found "[" (omega arith) i e vs b g in
      let (ts, gs, k) = x.good in
      reads-with x (ts, gs, subst (λ (us : List (List ℕ)). Array us x.text) (map-id ts) k))
      (λ ms b g.
      let x = enclosed-found (json_member_at item s) (λ p. p.text) (MeansMember Inner) brace s member-found "{" (omega arith) i e ms b g in
      reads-with x x.good)
      (λ u n m g. let x = scalar-found s i e u g in reads-with x x.good)

-- ---- what a value starts with
layer-begins : {A : Type 0} (Inner : A → Language) (v : Layer A) (t : List ℕ) → MeansLayer Inner v t → Begins t
layer-begins Inner (Plain v) t g = scalar-begins v t g
layer-begins Inner (Items vs) t (ts, gs, k) =
    let (u, e) = enclosed-begins "[" "]" ts t k in
    (91, u, e, refl, λ z. omega arith, λ z. omega arith, λ z. omega arith, λ z. omega arith)
layer-begins Inner (Members ms) t (ps, gs, k) =
    let (u, e) = enclosed-begins "{" "}" (map (λ p. p.text) ps) t k in
    (123, u, e, refl, λ z. omega arith, λ z. omega arith, λ z. omega arith, λ z. omega arith)

value-begins : (depth : ℕ) (v : Value depth) (t : List ℕ) → Means depth v t → Begins t
value-begins zero v t g = scalar-begins v t g
value-begins (suc depth) v t g = layer-begins (Means depth) v t g

-- ---- and back
module _ {A : Type 0} (item : ℕ → Read A) (s : List ℕ) (i : ℕ) where
  list-layer : byte_at s i ≡ 91 → {vs : List A} {e : ℕ} → enclosed item 93 s (i + 1) ≡ Gives vs e → json_layer_at item s i ≡ Gives (Items vs) e
  unfolding json_layer_at
  list-layer b h = rw (b, h)

  dict-layer : byte_at s i ≡ 123 → {ms : List (Member A)} {e : ℕ} → enclosed (json_member_at item s) 125 s (i + 1) ≡ Gives ms e
      → json_layer_at item s i ≡ Gives (Members ms) e
  unfolding json_layer_at
  dict-layer b h = rw (b, h)

  -- a scalar starts with neither bracket nor brace
  plain-layer : (v : Scalar) (e : ℕ) → json_scalar_at s i ≡ Gives v e → json_layer_at item s i ≡ Gives (Plain v) e
  unfolding json_layer_at json_scalar_at
  plain-layer v e h =
      split (is "[" (byte_at s i)) (λ a. gives-not h (rw (eqb-true (byte_at s i) 91 a))) λ a.
      split (is "{" (byte_at s i)) (λ b. gives-not h (rw (eqb-true (byte_at s i) 123 b))) λ b.
      rw (a, b, h)

module _ {A : Type 0} (item : ℕ → Read A) (Inner : A → Language) (s : List ℕ) (begins : (v : A) (t : List ℕ) → Inner v t → Begins t)
    (is : (i : ℕ) (v : A) (t r : List ℕ) → drop i s ≡ t ++ r → Inner v t → Ends r → item i ≡ Gives v (i + length t)) where
  -- a key's quote starts a member
  member-begins : (p : MemberText) (m : Member A) → MeansMember Inner p m → Begins p.text
  member-begins p m (g, (g', v, (k, y, e, q, c))) =
      let (u, z) = string-head p.key g' in
      (34, u ++ y, e ∙ ap (λ (l : List ℕ). l ++ y) (q ∙ z), refl, λ z. omega arith, λ z. omega arith, λ z. omega arith, λ z. omega arith)

  parts_is : (m : Member A) (key w w' v r : List ℕ) (i : ℕ) → drop i s ≡ key ++ (w ++ (58 ∷ (w' ++ (v ++ r)))) → Says m.key key → Ws w → Ws w'
      → Inner m.value v → Ends r → json_member_at item s i ≡ Gives m (i + length key + length w + 1 + length w' + length v)
  unfolding json_member_at
  parts_is m key w w' v r i h g gw gw' gv end = rw (
    says_is s i m.key key (w ++ (58 ∷ (w' ++ (v ++ r)))) h g,
    colon-is s (i + length key) w w' (v ++ r) after gw gw' (begins-space v r (begins m.value v gv)),
    is (i + length key + length w + 1 + length w') m.value v r there gv end,
  )
    where
      after : drop (i + length key) s ≡ w ++ (58 ∷ (w' ++ (v ++ r)))
      after = stands-next s i key (w ++ (58 ∷ (w' ++ (v ++ r)))) h

      there : drop (i + length key + length w + 1 + length w') s ≡ v ++ r
      there = stands-next s (i + length key + length w + 1) w' (v ++ r)
          (stands-next s (i + length key + length w) (58 ∷ []) (w' ++ (v ++ r))
          (stands-next s (i + length key) w (58 ∷ (w' ++ (v ++ r))) after))

  member_is : (i : ℕ) (p : MemberText) (m : Member A) (r : List ℕ) → drop i s ≡ p.text ++ r → MeansMember Inner p m → Ends r
      → json_member_at item s i ≡ Gives m (i + length p.text)
  member_is i p m r h (g, (g', gv, (k, y, e, q, (w, y1, e1, gw, (c, y2, e2, qc, (w', v, e3, gw', q')))))) end =
      parts_is m p.key w w' p.value r i (h ∙ ap (λ (l : List ℕ). l ++ r) all ∙ apart) g gw gw' gv end ∙ ap (λ (n : ℕ). Gives m n) (sym long)
    where
      all : p.text ≡ p.key ++ (w ++ (58 ∷ (w' ++ p.value)))
      all = e ∙ rw (q, e1, e2, qc, e3, q')

      apart : (p.key ++ (w ++ (58 ∷ (w' ++ p.value)))) ++ r ≡ p.key ++ (w ++ (58 ∷ (w' ++ (p.value ++ r))))
      apart = rw (append_assoc p.key (w ++ (58 ∷ (w' ++ p.value))) r, append_assoc w (58 ∷ (w' ++ p.value)) r, append_assoc w' p.value r)

      long : i + length p.text ≡ i + length p.key + length w + 1 + length w' + length p.value
      long = rw
          (all, length-append p.key (w ++ (58 ∷ (w' ++ p.value))), length-append w (58 ∷ (w' ++ p.value)), length-append w' p.value)
          (omega arith)

  layer-is : (i : ℕ) (v : Layer A) (t r : List ℕ) → drop i s ≡ t ++ r → MeansLayer Inner v t → Ends r → json_layer_at item s i ≡ Gives v (i + length t)
  layer-is i (Plain v) t r h g end = plain-layer item s i v (i + length t) (scalar_is s v i t r h g end)
  layer-is i (Items vs) t r h (ts, gs, k) end =
      let (u, e) = enclosed-begins "[" "]" ts t k in
      list-layer item s i (stands-byte s i _ h ∙ ap (λ (l : List ℕ). byte_at (l ++ r) 0) e)
      (enclosed-is item (λ (t : List ℕ). t) (λ t v. Inner v t) bracket s (λ t v. begins v t) (λ t b. b.4) (λ j t v. is j v t) "[" vs i t r h
      (ts, gs, subst (λ (us : List (List ℕ)). Array us t) (sym (map-id ts)) k))
  layer-is i (Members ms) t r h (ps, gs, k) end =
      let (u, e) = enclosed-begins "{" "}" (map (λ p. p.text) ps) t k in
      dict-layer item s i (stands-byte s i _ h ∙ ap (λ (l : List ℕ). byte_at (l ++ r) 0) e)
      (enclosed-is (json_member_at item s) (λ p. p.text) (MeansMember Inner) brace s member-begins (λ t b. b.5) member_is "{" ms i t r h (ps, gs, k))

-- ---- a value, wherever it stands
pub means-found : (s : List ℕ) (depth i e : ℕ) (v : Value depth) → stands Json depth s i ≡ Gives v e → Reads (Means depth v) s i e
unfolding stands
means-found s zero i e v h = scalar-found s i e v h
means-found s (suc depth) i e v h = layer-found (stands Json depth s) (Means depth) s (means-found s depth) i e v h

pub means_is : (s : List ℕ) (depth i : ℕ) (v : Value depth) (t r : List ℕ) → drop i s ≡ t ++ r → Means depth v t → Ends r
    → stands Json depth s i ≡ Gives v (i + length t)
unfolding stands
means_is s zero i v t r h g end = scalar_is s v i t r h g end
means_is s (suc depth) i v t r h g end = layer-is (stands Json depth s) (Means depth) s (value-begins depth) (means_is s depth) i v t r h g end

-- ---- the statement
pub json-means : (depth : ℕ) (t : List ℕ) (v : Value depth) → (stands Json depth t 0 ≡ Gives v (length t)) ↔ Means depth v t
json-means depth t v = (
  λ h. reads_all (means-found t depth 0 (length t) v h),
  λ g. means_is t depth 0 v t [] (sym (append-nil t)) g (refl, refl, refl, refl) ∙ ap (λ (n : ℕ). Gives v n) (zero-add (length t)),
)

-- so a text means one value at most, and nothing where nothing is read, or not all of it
pub means-once : (depth : ℕ) (t : List ℕ) (u v : Value depth) → Means depth u t → Means depth v t → u ≡ v
means-once depth t u v g h = same-value ((json-means depth t u).1 g) ((json-means depth t v).1 h)

pub means-none : (depth : ℕ) (t : List ℕ) → stands Json depth t 0 ≡ Not → (v : Value depth) → ¬ (Means depth v t)
means-none depth t h v g = gives-not ((json-means depth t v).1 g) h

pub means-whole : (depth : ℕ) (t : List ℕ) (u : Value depth) (e : ℕ) → stands Json depth t 0 ≡ Gives u e → ¬ (e ≡ length t)
    → (v : Value depth) → ¬ (Means depth v t)
means-whole depth t u e h n v g = n (same_place h ((json-means depth t v).1 g))
