-- JSON's scalars: `json_scalar_at` of values/specs/Stands.antt gives a scalar exactly where one of the texts that mean it stands. Assumes nothing.
use Prim.Native.Nat.{ℕ, ◌+◌, ◌*◌, ◌-◌, ◌^◌, ◌≤◌, ◌<◌}
use mathlib.Core.Bool.{true, false}
use mathlib.Core.List.{List, [], ◌∷◌, ◌++◌, append_assoc, append-nil}
use mathlib.Core.Logic.{inl, inr}
use mathlib.Core.Path.{◌≡◌, refl, sym, ap, ◌∙◌}
use native.Mathlib.Nat.{zero-add}
use native.Mathlib.Omega.{arith}
use borrow.Author.Tests.{eqb-true, eqb-false, eq-eqb, leb-true, le-leb}
use lib.Dec.{eqb, leb}
use lib.ListN.{length, drop, length-append, length-drop}
use Rattle.seq.specs.Bytes.{chars, byte_at}
use Rattle.seq.specs.Decimal.{decimal}
use Rattle.seq.specs.Lists.{All, joined}
use Rattle.seq.proofs.Bytes.{digit-bounds}
use Rattle.seq.proofs.Digits.{decimal_digit, decimal-digits}
use Rattle.seq.proofs.Holds.{Holds}
use Rattle.seq.proofs.Logic.{split}
use Rattle.strings.specs.Strings.{undone, has_lone}
use Rattle.lex.specs.Grammar.{Is, Sign, Digit, Int}
use Rattle.lex.proofs.Stands.{reads_then, stands-byte, tests-sign, one_found}
use Rattle.lex.proofs.Numbers.{digit, integer-reads}
use Rattle.lex.proofs.Tokens.{Ends, Reads, stands-next, string-head, quoted-found, quoted-is}
use Rattle.json_text.proofs.Items.{reads-with, reads-part, stands-inner, Begins}
use Rattle.json_text.proofs.Grammar.{literal-found, begins-with, value-head}
use Rattle.elements.specs.Kinds.{decimal as natural}
use Rattle.elements.proofs.IdLaws.{decimal-more as natural-most}
use Rattle.values.specs.Value.{Scalar, GoodScalar}
use Rattle.values.specs.Value.Scalar.{Null, Flag, Whole, Below, Text}
use Rattle.values.specs.Read.Read.{Gives}
use Rattle.values.specs.Write.{json_scalar, write}
use Rattle.values.specs.Stands.{quoted_at, whole_at, json_below_at, json_scalar_at, stands}
use Rattle.values.proofs.Given.{same-value, same_place, then-gives, picked}
use Rattle.values.proofs.GivenJson.{Quoted, Digits, whole-gives, positive, json-scalar}
use Rattle.values.proofs.Jsoned.{json-back}
use Rattle.values.proofs.Numbers.{Stops, decimal-first, whole_back}
use Rattle.meanings.specs.Json.{Says, MeansScalar}

-- ---- ints: an int in range has the shortest digits of its number
decimal-none : decimal 0 ≡ 48 ∷ []
decimal-none = decimal_digit 0 (omega arith)

-- digits that come after those of v
more-digits : (v : ℕ) (ts : List (List ℕ)) → 1 ≤ v → All Digit ts → natural v (joined (λ (t : List ℕ). t) ts) < 2 ^ 64
    → decimal (natural v (joined (λ (t : List ℕ). t) ts)) ≡ decimal v ++ joined (λ (t : List ℕ). t) ts
unfolding natural
more-digits v [] l g h = sym (append-nil (decimal v))
more-digits v (t ∷ ts) l (g, gs) h =
    let (b, e, d) = digit.takes t g in
    let (low, high) = digit-bounds b d in
    let rest : List ℕ = joined (λ (t : List ℕ). t) ts in
    let w : ℕ = v * 10 + (b - 48) in
    let k : natural w rest < 2 ^ 64 = rw e at h in
    let m = natural-most w rest in
    let q : 48 + (b - 48) ≡ b = omega arith in
    let one : decimal w ≡ decimal v ++ (b ∷ []) = decimal-digits v (b - 48) l (omega arith) (omega arith) ∙ rw q in
    rw e (more-digits w ts (omega arith) gs k ∙ ap (λ l. l ++ rest) one ∙ append_assoc (decimal v) (b ∷ []) rest)

natural-first : (b : ℕ) (u : List ℕ) → natural 0 (b ∷ u) ≡ natural (b - 48) u
unfolding natural
natural-first b u = ap (λ (v : ℕ). natural v u) (zero-add (b - 48))

natural-none : natural 0 (48 ∷ []) ≡ 0
unfolding natural
natural-none = refl

int-decimal : (t : List ℕ) → Int t → natural 0 t < 2 ^ 64 → t ≡ decimal (natural 0 t)
int-decimal t (inl e) h = rw (e, natural-none) (sym decimal-none)
int-decimal t (inr (a, u, e, (b, (low, high), p), (ts, gs, q))) h =
    let w : t ≡ b ∷ joined (λ (t : List ℕ). t) ts = e ∙ rw (p, q) in
    let n : natural 0 t ≡ natural (b - 48) (joined (λ (t : List ℕ). t) ts) = ap (natural 0) w ∙ natural-first b _ in
    let y : 48 + (b - 48) ≡ b = omega arith in
    let one : decimal (b - 48) ≡ b ∷ [] = decimal_digit (b - 48) (omega arith) ∙ rw y in
    w ∙ sym (ap decimal n ∙ more-digits (b - 48) ts (omega arith) gs (omega arith) ∙ ap (λ l. l ++ joined (λ (t : List ℕ). t) ts) one)

-- ---- what is given
module _ (s : List ℕ) (i e : ℕ) where
  pub says-found : (text : List ℕ) → Quoted s i text e → Reads (Says text) s i e
  says-found text q =
      let x = quoted-found s i e q.ends in
      let p = stands-inner s i e x.text x.rest x.stands x.ends in
      reads-with x (x.good, sym (ap has_lone p) ∙ q.lone, sym (q.is ∙ ap (λ (u : List ℕ). undone u) p))

  digits-found : (n : ℕ) → n < 2 ^ 64 → Digits s i n e → Reads (Is (decimal n)) s i e
  digits-found n l d =
      let x = integer-reads s i e d.ends in
      let p : n ≡ natural 0 x.text = d.is ∙ ap (natural 0) (reads-part x) in
      reads-with x (int-decimal x.text x.good (rw p at l) ∙ ap decimal (sym p))

below-found : (s : List ℕ) (i e : ℕ) (v : Scalar) → byte_at s i ≡ 45 → json_below_at s (i + 1) ≡ Gives v e → Reads (MeansScalar v) s i e
unfolding json_below_at
below-found s i e v b g =
    let (n, m, p, q) = then-gives (whole_at s (i + 1)) _ v e g in
    let told : m ≡ e → Digits s (i + 1) n e = λ d. whole-gives s (i + 1) n e (p ∙ ap (λ (j : ℕ). Gives n j) d) in
    split (eqb n 0)
    (λ z.
    let r = rw z at q in
    let y = digits-found s (i + 1) e n (let k = eqb-true n 0 z in omega arith) (told (same_place refl r)) in
    let x = reads_then s i (i + 1) e minus (reads-with {B = Sign "0"} y (y.good ∙ ap decimal (eqb-true n 0 z) ∙ decimal-none)) in
    rw (sym (same-value refl r)) (reads-with x (inr (refl, x.good))))
    (λ z.
    let (l, r) = picked (leb n (2 ^ 63)) _ v e (rw z at q) in
    let k = eqb-false n 0 z in
    let h = leb-true n (2 ^ 63) l in
    let f : n - 1 + 1 ≡ n = omega arith in
    let y = digits-found s (i + 1) e n (omega arith) (told (same_place refl r)) in
    let x = reads_then s i (i + 1) e minus (reads-with {B = Is (decimal (n - 1 + 1))} y (y.good ∙ ap decimal (sym f))) in
    rw (sym (same-value refl r)) (reads-with x (omega arith, x.good)))
  where
    minus : Reads (Sign "-") s i (i + 1)
    minus = one_found (tests-sign "-") s i (i + 1) refl refl (eq-eqb _ _ b)

pub scalar-found : (s : List ℕ) (i e : ℕ) (v : Scalar) → json_scalar_at s i ≡ Gives v e → Reads (MeansScalar v) s i e
scalar-found s i e v g = json-scalar s i (λ u k. Reads (MeansScalar u) s i k) v e g
    (λ text b q. says-found s i e text q)
    (λ b h. below-found s i e v b h)
    (λ b h. positive s i (λ u. Reads (MeansScalar u) s i e) v e h (λ n d l. let x = digits-found s i e n l d in reads-with x (inl (l, x.good))))
    (λ b h. literal-found (chars "true") s i e h)
    (λ b h. literal-found (chars "false") s i e h)
    (λ b h. literal-found (chars "null") s i e h)

-- ---- and back
module _ (s : List ℕ) where
  holds-from : (i : ℕ) (w r : List ℕ) → i ≤ length s → drop i s ≡ w ++ r → Holds s i w
  holds-from i [] r l h = l
  holds-from i (b ∷ w) r l h =
      let k : i < length s = omega (arith, sym (length-drop i s) ∙ ap length h) in
      (stands-byte s i (b ∷ (w ++ r)) h, k, holds-from (i + 1) w r (omega arith) (stands-next s i (b ∷ []) (w ++ r) h))

  holds_at : (i : ℕ) (w r : List ℕ) → 0 < length w → drop i s ≡ w ++ r → Holds s i w
  holds_at i w r l h = holds-from i w r (omega (arith, sym (length-drop i s) ∙ ap length h ∙ length-append w r)) h

  stops_at : (i : ℕ) (w r : List ℕ) → drop i s ≡ w ++ r → Ends r → Stops (byte_at s (i + length w))
  stops_at i w r h (d, p, e, E) = rw (stands-byte s (i + length w) r (stands-next s i w r h)) record { digit = d; rest = rw (p, e, E) }

  pub says_is : (i : ℕ) (text t r : List ℕ) → drop i s ≡ t ++ r → Says text t → quoted_at s i ≡ Gives text (i + length t)
  unfolding quoted_at
  says_is i text t r h (g, l, e) = rw (quoted-is s i t r h g, stands-inner s i (i + length t) t r h refl, l, e)

  -- the texts that are written
  written_is : (v : Scalar) → GoodScalar v → 0 < length (json_scalar v) → (i : ℕ) (t r : List ℕ) → drop i s ≡ t ++ r → t ≡ json_scalar v → Ends r
      → json_scalar_at s i ≡ Gives v (i + length t)
  unfolding stands write
  written_is v g l i t r h e end =
      let k : drop i s ≡ json_scalar v ++ r = h ∙ ap (λ (u : List ℕ). u ++ r) e in
      rw e (json-back s 0 v g i (holds_at i (json_scalar v) r l k) (stops_at i (json_scalar v) r k end))

decimal-some : (n : ℕ) → n < 10 ^ 20 → 0 < length (decimal n)
decimal-some n l = let d = decimal-first n l in rw d.is (omega arith)

module _ (s : List ℕ) (i : ℕ) (r : List ℕ) where
  text-is : (text t : List ℕ) → drop i s ≡ t ++ r → Says text t → json_scalar_at s i ≡ Gives (Text text) (i + length t)
  unfolding json_scalar_at
  text-is text t h g =
      let (u, e) = string-head t g.0 in
      let q : byte_at s i ≡ 34 = stands-byte s i _ h ∙ ap (λ (l : List ℕ). byte_at (l ++ r) 0) e in
      rw (q, says_is s i text t r h g)

  -- -0
  zero_is : drop i s ≡ 45 ∷ (48 ∷ r) → Ends r → json_scalar_at s i ≡ Gives (Whole 0) (i + 2)
  unfolding json_scalar_at json_below_at
  zero_is h end =
      let k : drop (i + 1) s ≡ decimal 0 ++ r = stands-next s i (45 ∷ []) (48 ∷ r) h ∙ rw decimal-none in
      let w = whole_back s (i + 1) 0 (omega arith) (holds_at s (i + 1) (decimal 0) r (decimal-some 0 (omega arith)) k) (stops_at s (i + 1) (decimal 0) r k end) in
      let z : i + 1 + length (decimal 0) ≡ i + 2 = omega (arith, ap length decimal-none) in
      rw (stands-byte s i _ h, w, z)

pub scalar_is : (s : List ℕ) (v : Scalar) (i : ℕ) (t r : List ℕ) → drop i s ≡ t ++ r → MeansScalar v t → Ends r → json_scalar_at s i ≡ Gives v (i + length t)
unfolding json_scalar
scalar_is s Null i t r h g end = written_is s Null tt (omega arith) i t r h g end
scalar_is s (Flag true) i t r h g end = written_is s (Flag true) tt (omega arith) i t r h g end
scalar_is s (Flag false) i t r h g end = written_is s (Flag false) tt (omega arith) i t r h g end
scalar_is s (Whole n) i t r h (inl (l, e)) end = written_is s (Whole n) l (decimal-some n (omega arith)) i t r h e end
scalar_is s (Whole n) i t r h (inr (z, (a, b, e, p, q))) end =
    let w : t ≡ 45 ∷ (48 ∷ []) = e ∙ rw (p, q) in
    rw (z, w) (zero_is s i r (h ∙ rw w) end)
scalar_is s (Below n) i t r h (l, (a, b, e, p, q)) end = written_is s (Below n) l (omega arith) i t r h (e ∙ rw (p, q)) end
scalar_is s (Text text) i t r h g end = text-is s i r text t h g

-- what a scalar starts with
pub scalar-begins : (v : Scalar) (t : List ℕ) → MeansScalar v t → Begins t
scalar-begins Null t e = value-head 0 t (inr (inl e))
scalar-begins (Flag true) t e = value-head 0 t (inr (inr (inl e)))
scalar-begins (Flag false) t e = value-head 0 t (inl e)
scalar-begins (Whole n) t (inl (l, e)) =
    let d = decimal-first n (omega arith) in
    let (low, high) = digit-bounds d.first d.so in
    begins-with t d.first d.rest (e ∙ d.is) (rw (le-leb 45 d.first (omega arith), le-leb d.first 57 high))
scalar-begins (Whole n) t (inr (z, (a, b, e, p, q))) = begins-with t 45 b (e ∙ rw p) refl
scalar-begins (Below n) t (l, (a, b, e, p, q)) = begins-with t 45 b (e ∙ rw p) refl
scalar-begins (Text text) t (g, l, e) = value-head 0 t (inr (inr (inr (inr g))))
