-- Heads: what specs/Head.antt reads as a head is one of specs/Grammar.antt, row by row, and back. Assumes nothing.
use Prim.Native.Nat.{ℕ, zero, suc, ◌+◌, ◌*◌, ◌-◌, ◌≤◌, ◌<◌}
use mathlib.Core.List.{List, [], ◌∷◌, ◌++◌, append_assoc}
use mathlib.Core.Logic.{inl, inr}
use mathlib.Core.Path.{◌≡◌, refl, sym, ap, subst, ◌∙◌}
use native.Mathlib.Omega.{arith}
use lib.ListN.{length, get_or, take, drop, length-append, length-drop, take-append-drop}
use lib.Seq.{length-take-le, take-suc, drop-cons, get_or-drop, get_or_at}
use lib.Dec.{eqb, leb, ltb, lit<}
use borrow.Author.Tests.{leb-true, eqb-true, eqb-false, ltb-true, ltb-false}
use Rattle.seq.specs.Bytes.{byte_at}
use Rattle.seq.proofs.Logic.{cond-case}
use Rattle.lex.specs.Grammar.{◌·◌}
use Rattle.lex.proofs.Stands.{stands-next, stands-byte}
use Rattle.msgpack.specs.declared.Form.{Form}
use Rattle.msgpack.specs.declared.Head.{Head}
use Rattle.msgpack.specs.Head.{nil, no, yes, whole, below, str, opaque, array, map, none, signed, form, forms, form_of, number, half, head}
use Rattle.msgpack.specs.Head.{signed_head, head_of, head_at}
use Rattle.msgpack.specs.Grammar.{Code, Any, Number, Fix, StrHead, BinHead, ExtHead, ArrayHead, MapHead, Integer, Scalar}
use Rattle.msgpack.proofs.Heads.{form-map, form-array, form-str, number-none, head-signed, head_plain}

-- ---- numbers
pub number-found : (s : List ℕ) (at w : ℕ) → at + w ≤ length s → Number w (number s at w) (take w (drop at s))
unfolding number
number-found s at zero l = (refl, refl)
number-found s at (suc w) l = (
  number s at w,
  byte_at s (at + w),
  refl,
  (
    take w (drop at s),
    byte_at s (at + w) ∷ [],
    take-suc (drop at s) w 0 (omega (arith, length-drop at s)) ∙ ap (λ (b : ℕ). take w (drop at s) ++ (b ∷ [])) (get_or-drop at s w 0),
    number-found s at w (omega arith),
    refl,
  ),
)

pub number_is : (s : List ℕ) (at w n : ℕ) (t r : List ℕ) → drop at s ≡ t ++ r → Number w n t → (length t ≡ w) × (number s at w ≡ n)
unfolding number
number_is s at zero n t r h (e, q) = (ap length q, sym e)
number_is s at (suc w) n t r h (high, low, e, (a, c, et, g, ec)) =
    let whole : t ≡ a ++ (low ∷ []) = et ∙ ap (λ (u : List ℕ). a ++ u) ec in
    let here : drop at s ≡ a ++ (low ∷ r) = h ∙ ap (λ (u : List ℕ). u ++ r) whole ∙ append_assoc a (low ∷ []) r in
    let (la, na) = number_is s at w high a (low ∷ r) here g in
    let last : byte_at s (at + w) ≡ low = sym (get_or-drop at s w 0) ∙ ap (λ (u : List ℕ). byte_at u w) here ∙ get_or_at a low r 0 w la in
    (omega (arith, ap length whole ∙ length-append a (low ∷ [])), rw (na, last) (sym e))

empty : (t : List ℕ) → length t ≡ 0 → t ≡ []
empty [] e = refl
empty (x ∷ t) e = absurd (omega arith)

-- ---- each row of the table makes texts of the grammar
record Row (b : ℕ) (f : Form) : Type 0 where
  flat : f.kind < str → (t : List ℕ) → length t ≡ f.width → Scalar (b ∷ t)
  sign : f.kind ≡ signed → (t : List ℕ) → length t ≡ f.width → Scalar (b ∷ t)
  text : f.kind ≡ str → (n : ℕ) (t : List ℕ) → Number f.width n t → StrHead (f.base + n) (b ∷ t)
  blob : f.kind ≡ opaque → (n : ℕ) (t u : List ℕ) → Number f.width n t → length u ≡ f.base + n → Scalar (b ∷ (t ++ u))
  list : f.kind ≡ array → (n : ℕ) (t : List ℕ) → Number f.width n t → ArrayHead (f.base + n) (b ∷ t)
  dict : f.kind ≡ map → (n : ℕ) (t : List ℕ) → Number f.width n t → MapHead (f.base + n) (b ∷ t)

row-flat : (b k w x : ℕ) → k < str → ((t : List ℕ) → length t ≡ w → Scalar (b ∷ t)) → Row b (form k w x)
row-flat b k w x l g = record {
  flat = λ q. g;
  sign = λ q. absurd (omega arith);
  text = λ q. absurd (omega arith);
  blob = λ q. absurd (omega arith);
  list = λ q. absurd (omega arith);
  dict = λ q. absurd (omega arith);
}

row-sign : (b w : ℕ) → ((t : List ℕ) → length t ≡ w → Scalar (b ∷ t)) → Row b (form signed w 0)
row-sign b w g = record {
  flat = λ q. absurd (omega arith);
  sign = λ q. g;
  text = λ q. absurd (omega arith);
  blob = λ q. absurd (omega arith);
  list = λ q. absurd (omega arith);
  dict = λ q. absurd (omega arith);
}

row-none : (b : ℕ) → Row b (form none 0 0)
row-none b = record {
  flat = λ q. absurd (omega arith);
  sign = λ q. absurd (omega arith);
  text = λ q. absurd (omega arith);
  blob = λ q. absurd (omega arith);
  list = λ q. absurd (omega arith);
  dict = λ q. absurd (omega arith);
}

row-text : (b w x : ℕ) → ((n : ℕ) (t : List ℕ) → Number w n t → StrHead (x + n) (b ∷ t)) → Row b (form str w x)
row-text b w x g = record {
  flat = λ q. absurd (omega arith);
  sign = λ q. absurd (omega arith);
  text = λ q. g;
  blob = λ q. absurd (omega arith);
  list = λ q. absurd (omega arith);
  dict = λ q. absurd (omega arith);
}

row_list : (b w x : ℕ) → ((n : ℕ) (t : List ℕ) → Number w n t → ArrayHead (x + n) (b ∷ t)) → Row b (form array w x)
row_list b w x g = record {
  flat = λ q. absurd (omega arith);
  sign = λ q. absurd (omega arith);
  text = λ q. absurd (omega arith);
  blob = λ q. absurd (omega arith);
  list = λ q. g;
  dict = λ q. absurd (omega arith);
}

row-dict : (b w x : ℕ) → ((n : ℕ) (t : List ℕ) → Number w n t → MapHead (x + n) (b ∷ t)) → Row b (form map w x)
row-dict b w x g = record {
  flat = λ q. absurd (omega arith);
  sign = λ q. absurd (omega arith);
  text = λ q. absurd (omega arith);
  blob = λ q. absurd (omega arith);
  list = λ q. absurd (omega arith);
  dict = λ q. g;
}

row-blob : (b w x : ℕ) → ((n : ℕ) (t u : List ℕ) → Number w n t → length u ≡ x + n → Scalar (b ∷ (t ++ u))) → Row b (form opaque w x)
row-blob b w x g = record {
  flat = λ q. absurd (omega arith);
  sign = λ q. absurd (omega arith);
  text = λ q. absurd (omega arith);
  blob = λ q. g;
  list = λ q. absurd (omega arith);
  dict = λ q. absurd (omega arith);
}

-- a first byte and the number behind it
coded : (b w n : ℕ) (t : List ℕ) → Number w n t → (Code b · Number w (0 + n)) (b ∷ t)
coded b w n t g = (b ∷ [], t, refl, refl, subst (λ (m : ℕ). Number w m t) (omega arith) g)

one_byte : (b : ℕ) (t : List ℕ) → length t ≡ 0 → Code b (b ∷ t)
one_byte b t e = ap (λ (u : List ℕ). b ∷ u) (empty t e)

-- a first byte that has its number in itself
fixed : (b first most n : ℕ) (t : List ℕ) → first ≤ b → b ≤ first + most → Number 0 n t → Fix first most (b - first + n) (b ∷ t)
fixed b first most n t l m (e, q) =
    (omega arith, let k : b ≡ first + (b - first + n) = omega arith in rw (q, ← k))

bin-found : (n : ℕ) (a u : List ℕ) → BinHead (0 + n) a → length u ≡ 0 + n → Scalar (a ++ u)
bin-found n a u g e = inr (inr (inr (inl (0 + n, (a, u, refl, g, e)))))

ext-found : (n : ℕ) (a u : List ℕ) → ExtHead n a → length u ≡ 1 + n → Scalar (a ++ u)
ext-found n a [] g e = absurd (omega arith)
ext-found n a (y ∷ u) g e = inr (inr (inr (inr (inl (n, (a, y ∷ u, refl, g, (y ∷ [], u, refl, refl, omega arith)))))))

ext-coded : (b w n : ℕ) (t u : List ℕ) → ((Code b · Number w n) (b ∷ t) → ExtHead n (b ∷ t)) → Number w n t → length u ≡ 1 + n → Scalar (b ∷ (t ++ u))
ext-coded b w n t u f g e = ext-found n (b ∷ t) u (f (b ∷ [], t, refl, refl, g)) e

fixext-found : (b x n : ℕ) (t u : List ℕ) → (Code b (b ∷ t) → ExtHead x (b ∷ t)) → Number 0 n t → length u ≡ 1 + x + n → Scalar (b ∷ (t ++ u))
fixext-found b x n t u f (e, q) l = ext-found x (b ∷ t) u (f (one_byte b t (ap length q))) (omega arith)

float-found : (n w : ℕ) (t u : List ℕ) → Number 0 n t → length u ≡ w + n → length (t ++ u) ≡ w
float-found n w t u (e, q) l = rw q (omega arith)

integer : {t : List ℕ} → Integer t → Scalar t
integer g = inr (inl g)

-- the rows from a first byte on
abbrev Rows : ℕ → List Form → Type 0
Rows b [] = Unit {0}
Rows b (f ∷ fs) = Row b f × Rows (b + 1) fs

infixr 20 ◌▹◌
abbrev ◌▹◌ : {P Q : Type 0} → P → Q → P × Q
p ▹ q = (p, q)

row-at : (fs : List Form) (b i : ℕ) → Rows b fs → i < length fs → Row (b + i) (get_or fs i (form none 0 0))
row-at [] b i g l = absurd (omega arith)
row-at (f ∷ fs) b zero g l = subst (λ (x : ℕ). Row x f) (omega arith) g.0
row-at (f ∷ fs) b (suc i) g l = subst (λ (x : ℕ). Row x (get_or fs i (form none 0 0))) (omega arith) (row-at fs (b + 1) i g.1 (omega arith))

listed-rows : Rows 0xc0 forms
unfolding forms
listed-rows =
    row-flat 0xc0 nil 0 0 (lit< tt) (λ t e. inl (inl (one_byte 0xc0 t e)))
    ▹ row-none 0xc1
    ▹ row-flat 0xc2 no 0 0 (lit< tt) (λ t e. inl (inr (inl (one_byte 0xc2 t e))))
    ▹ row-flat 0xc3 yes 0 0 (lit< tt) (λ t e. inl (inr (inr (one_byte 0xc3 t e))))
    ▹ row-blob 0xc4 1 0 (λ n t u g e. bin-found n (0xc4 ∷ t) u (inl (coded 0xc4 1 n t g)) e)
    ▹ row-blob 0xc5 2 0 (λ n t u g e. bin-found n (0xc5 ∷ t) u (inr (inl (coded 0xc5 2 n t g))) e)
    ▹ row-blob 0xc6 4 0 (λ n t u g e. bin-found n (0xc6 ∷ t) u (inr (inr (coded 0xc6 4 n t g))) e)
    ▹ row-blob 0xc7 1 1 (λ n t u. ext-coded 0xc7 1 n t u (λ c. inl c))
    ▹ row-blob 0xc8 2 1 (λ n t u. ext-coded 0xc8 2 n t u (λ c. inr (inl c)))
    ▹ row-blob 0xc9 4 1 (λ n t u. ext-coded 0xc9 4 n t u (λ c. inr (inr (inl c))))
    ▹ row-blob 0xca 0 4 (λ n t u g e. inr (inr (inl (inl (0xca ∷ [], t ++ u, refl, refl, float-found n 4 t u g e)))))
    ▹ row-blob 0xcb 0 8 (λ n t u g e. inr (inr (inl (inr (0xcb ∷ [], t ++ u, refl, refl, float-found n 8 t u g e)))))
    ▹ row-flat 0xcc whole 1 0 (lit< tt) (λ t e. integer (inr (inr (inl (0xcc ∷ [], t, refl, refl, e)))))
    ▹ row-flat 0xcd whole 2 0 (lit< tt) (λ t e. integer (inr (inr (inr (inl (0xcd ∷ [], t, refl, refl, e))))))
    ▹ row-flat 0xce whole 4 0 (lit< tt) (λ t e. integer (inr (inr (inr (inr (inl (0xce ∷ [], t, refl, refl, e)))))))
    ▹ row-flat 0xcf whole 8 0 (lit< tt) (λ t e. integer (inr (inr (inr (inr (inr (inl (0xcf ∷ [], t, refl, refl, e))))))))
    ▹ row-sign 0xd0 1 (λ t e. integer (inr (inr (inr (inr (inr (inr (inl (0xd0 ∷ [], t, refl, refl, e)))))))))
    ▹ row-sign 0xd1 2 (λ t e. integer (inr (inr (inr (inr (inr (inr (inr (inl (0xd1 ∷ [], t, refl, refl, e))))))))))
    ▹ row-sign 0xd2 4 (λ t e. integer (inr (inr (inr (inr (inr (inr (inr (inr (inl (0xd2 ∷ [], t, refl, refl, e)))))))))))
    ▹ row-sign 0xd3 8 (λ t e. integer (inr (inr (inr (inr (inr (inr (inr (inr (inr (0xd3 ∷ [], t, refl, refl, e)))))))))))
    ▹ row-blob 0xd4 0 2 (λ n t u. fixext-found 0xd4 1 n t u (λ c. inr (inr (inr (inl (refl, c))))))
    ▹ row-blob 0xd5 0 3 (λ n t u. fixext-found 0xd5 2 n t u (λ c. inr (inr (inr (inr (inl (refl, c)))))))
    ▹ row-blob 0xd6 0 5 (λ n t u. fixext-found 0xd6 4 n t u (λ c. inr (inr (inr (inr (inr (inl (refl, c))))))))
    ▹ row-blob 0xd7 0 9 (λ n t u. fixext-found 0xd7 8 n t u (λ c. inr (inr (inr (inr (inr (inr (inl (refl, c)))))))))
    ▹ row-blob 0xd8 0 17 (λ n t u. fixext-found 0xd8 16 n t u (λ c. inr (inr (inr (inr (inr (inr (inr (refl, c)))))))))
    ▹ row-text 0xd9 1 0 (λ n t g. inr (inl (coded 0xd9 1 n t g)))
    ▹ row-text 0xda 2 0 (λ n t g. inr (inr (inl (coded 0xda 2 n t g))))
    ▹ row-text 0xdb 4 0 (λ n t g. inr (inr (inr (coded 0xdb 4 n t g))))
    ▹ row_list 0xdc 2 0 (λ n t g. inr (inl (coded 0xdc 2 n t g)))
    ▹ row_list 0xdd 4 0 (λ n t g. inr (inr (coded 0xdd 4 n t g)))
    ▹ row-dict 0xde 2 0 (λ n t g. inr (inl (coded 0xde 2 n t g)))
    ▹ row-dict 0xdf 4 0 (λ n t g. inr (inr (coded 0xdf 4 n t g)))
    ▹ tt

listed-long : length forms ≡ 32
unfolding forms
listed-long = refl

listed-row : (b : ℕ) → 0xc0 ≤ b → b < 0xe0 → Row b (get_or forms (b - 0xc0) (form none 0 0))
listed-row b l m =
    subst (λ (x : ℕ). Row x (get_or forms (b - 0xc0) (form none 0 0))) (omega arith)
    (row-at forms 0xc0 (b - 0xc0) listed-rows (omega (arith, listed-long)))

row-of : (b : ℕ) → Row b (form_of b)
unfolding form_of
row-of b =
    cond-case (Row b) (ltb b 0x80) _ _
    (λ t. row-flat b whole 0 b (lit< tt) (λ u e. integer (inl (b, omega (arith, ltb-true b 0x80 t), one_byte b u e))))
    (λ t0. cond-case (Row b) (ltb b 0x90) _ _
    (λ t. row-dict b 0 (b - 0x80) (λ n u g. inl (fixed b 0x80 15 n u (ltb-false b 0x80 t0) (omega (arith, ltb-true b 0x90 t)) g)))
    (λ t1. cond-case (Row b) (ltb b 0xa0) _ _
    (λ t. row_list b 0 (b - 0x90) (λ n u g. inl (fixed b 0x90 15 n u (ltb-false b 0x90 t1) (omega (arith, ltb-true b 0xa0 t)) g)))
    (λ t2. cond-case (Row b) (ltb b 0xc0) _ _
    (λ t. row-text b 0 (b - 0xa0) (λ n u g. inl (fixed b 0xa0 31 n u (ltb-false b 0xa0 t2) (omega (arith, ltb-true b 0xc0 t)) g)))
    (λ t3. cond-case (Row b) (ltb b 0xe0) _ _
    (λ t. listed-row b (ltb-false b 0xc0 t3) (ltb-true b 0xe0 t))
    (λ t. row-flat b below 0 (0xff - b) (lit< tt) (λ u e. integer (inr (inl (b, ltb-false b 0xe0 t, one_byte b u e)))))))))

-- ---- a head that was read stands there, and is one of the grammar's
pub record Told (s : List ℕ) (i : ℕ) (h : Head) : Type 0 where
  pub bytes : List ℕ
  pub rest : List ℕ
  pub stands : drop i s ≡ bytes ++ rest
  pub ends : h.end ≡ i + length bytes
  pub flat : h.kind < str → Scalar bytes
  pub text : h.kind ≡ str → StrHead h.n bytes
  pub blob : h.kind ≡ opaque → (u : List ℕ) → length u ≡ h.n → Scalar (bytes ++ u)
  pub list : h.kind ≡ array → ArrayHead h.n bytes
  pub dict : h.kind ≡ map → MapHead h.n bytes

module _ (s : List ℕ) (i : ℕ) (f : Form) (l : i + 1 + f.width ≤ length s) (g : Row (byte_at s i) f) where
  here : drop i s ≡ (byte_at s i ∷ take f.width (drop (i + 1) s)) ++ drop f.width (drop (i + 1) s)
  here =
      let q : suc i ≡ i + 1 = omega arith in
      drop-cons s i 0 (omega arith)
      ∙ ap (λ (u : List ℕ). byte_at s i ∷ u) (ap (λ (k : ℕ). drop k s) q ∙ sym (take-append-drop f.width (drop (i + 1) s)))

  long : length (take f.width (drop (i + 1) s)) ≡ f.width
  long = length-take-le f.width (drop (i + 1) s) (omega (arith, length-drop (i + 1) s))

  told-plain : (f.kind ≡ signed → ⊥) → Told s i (head f.kind (f.base + number s (i + 1) f.width) (i + 1 + f.width))
  told-plain k =
      let num = number-found s (i + 1) f.width l in
      record {
        bytes = byte_at s i ∷ take f.width (drop (i + 1) s);
        rest = drop f.width (drop (i + 1) s);
        stands = here;
        ends = omega (arith, long);
        flat = λ q. g.flat q _ long;
        text = λ q. g.text q _ _ num;
        blob = λ q u e. g.blob q _ _ u num e;
        list = λ q. g.list q _ _ num;
        dict = λ q. g.dict q _ _ num;
      }

  told-signed : f.kind ≡ signed → (k n : ℕ) → k < str → Told s i (head k n (i + 1 + f.width))
  told-signed q k n m = record {
    bytes = byte_at s i ∷ take f.width (drop (i + 1) s);
    rest = drop f.width (drop (i + 1) s);
    stands = here;
    ends = omega (arith, long);
    flat = λ p. g.sign q _ long;
    text = λ p. absurd (omega arith);
    blob = λ p. absurd (omega arith);
    list = λ p. absurd (omega arith);
    dict = λ p. absurd (omega arith);
  }

  told-sign : f.kind ≡ signed → (u : ℕ) → Told s i (signed_head f.width u (i + 1 + f.width))
  unfolding signed_head
  told-sign q u =
      cond-case (Told s i) (ltb u (half f.width)) _ _ (λ t. told-signed q whole u (lit< tt))
      (λ t. told-signed q below (2 * half f.width - 1 - u) (lit< tt))

told_of : (s : List ℕ) (i : ℕ) (f : Form) → Row (byte_at s i) f → ((head_of f s i).kind ≡ none → ⊥) → Told s i (head_of f s i)
unfolding head_of
told_of s i f g =
    cond-case (λ (h : Head). (h.kind ≡ none → ⊥) → Told s i h) (leb (i + 1 + f.width) (length s)) _ _
    (λ t k. cond-case (Told s i) (eqb f.kind signed) _ _
    (λ q. told-sign s i f (leb-true (i + 1 + f.width) (length s) t) g (eqb-true f.kind signed q) (number s (i + 1) f.width))
    (λ q. told-plain s i f (leb-true (i + 1 + f.width) (length s) t) g (eqb-false f.kind signed q)))
    (λ t k. absurd (k refl))

pub told : (s : List ℕ) (i : ℕ) → ((head_at s i).kind ≡ none → ⊥) → Told s i (head_at s i)
unfolding head_at
told s i k = told_of s i (form_of (byte_at s i)) (row-of (byte_at s i)) k

-- ---- and a head of the grammar that stands there is read
pub stands-in : (s : List ℕ) (i : ℕ) (t r : List ℕ) → drop i s ≡ t ++ r → 0 < length t → i + length t ≤ length s
stands-in s i t r h l = omega (arith, sym (length-drop i s) ∙ ap length h ∙ length-append t r)

module _ (s : List ℕ) (i : ℕ) (t r : List ℕ) (h : drop i s ≡ t ++ r) where
  module _ (b : ℕ) (u : List ℕ) (et : t ≡ b ∷ u) where
    first-is : byte_at s i ≡ b
    first-is = stands-byte s i (t ++ r) h ∙ ap (λ (x : List ℕ). byte_at (x ++ r) 0) et

    within : i + 1 + length u ≤ length s
    within = let e = ap length et in let w = stands-in s i t r h (omega arith) in omega arith

    behind : drop (i + 1) s ≡ u ++ r
    behind = stands-next s i (b ∷ []) (u ++ r) (h ∙ ap (λ (x : List ℕ). x ++ r) et)

    row_is : (f : Form) → f ≡ form_of b → length u ≡ f.width → (f.kind ≡ signed → ⊥)
        → head_at s i ≡ head f.kind (f.base + number s (i + 1) f.width) (i + length t)
    row_is f ef l k =
        let e : i + length t ≡ i + 1 + f.width = omega (arith, ap length et) in
        sym (head_plain s i f (ef ∙ ap form_of (sym first-is)) _ (i + length t) (omega (arith, within)) refl e k)

    pub sign-is : (w : ℕ) → form signed w 0 ≡ form_of b → length u ≡ w → head_at s i ≡ signed_head w (number s (i + 1) w) (i + length t)
    sign-is w ef l =
        let e : i + length t ≡ i + 1 + w = omega (arith, ap length et) in
        sym (head-signed s i (form signed w 0) (ef ∙ ap form_of (sym first-is)) _ (i + length t) (omega (arith, within)) refl e refl)

  -- bytes behind the first that are not looked at
  pub any-is : (b k w : ℕ) → form k w 0 ≡ form_of b → (k ≡ signed → ⊥) → (Code b · Any w) t → (n : ℕ) × (head_at s i ≡ head k n (i + length t))
  any-is b k w ef nk (a, u, e, ea, l) =
      (_, row_is b u (e ∙ ap (λ (x : List ℕ). x ++ u) ea) (form k w 0) ef l nk)

  pub count-is : (b k w x n m : ℕ) → form k w x ≡ form_of b → (k ≡ signed → ⊥) → m ≡ x + n → (Code b · Number w n) t → head_at s i ≡ head k m (i + length t)
  count-is b k w x n m ef nk em (a, u, e, ea, g) =
      let et : t ≡ b ∷ u = e ∙ ap (λ (y : List ℕ). y ++ u) ea in
      let (lu, nu) = number_is s (i + 1) w n u r (behind b u et) g in
      row_is b u et (form k w x) ef lu nk ∙ rw (nu, em)

  pub fix_is : (first most k n : ℕ) → (n ≤ most → form k 0 n ≡ form_of (first + n)) → (k ≡ signed → ⊥) → Fix first most n t → head_at s i ≡ head k n (i + length t)
  fix_is first most k n ef nk (l, e) =
      let z : n + number s (i + 1) 0 ≡ n = omega (arith, number-none s (i + 1)) in
      row_is (first + n) [] e (form k 0 n) (ef l) refl nk ∙ rw z

  pub str-head-is : (n : ℕ) → StrHead n t → head_at s i ≡ head str n (i + length t)
  unfolding form_of forms
  str-head-is n (inl g) = fix_is 0xa0 31 str n (λ l. form-str (0xa0 + n) n (omega arith) (omega arith) (omega arith)) (λ q. omega arith) g
  str-head-is n (inr (inl g)) = count-is 0xd9 str 1 0 n n refl (λ q. omega arith) (omega arith) g
  str-head-is n (inr (inr (inl g))) = count-is 0xda str 2 0 n n refl (λ q. omega arith) (omega arith) g
  str-head-is n (inr (inr (inr g))) = count-is 0xdb str 4 0 n n refl (λ q. omega arith) (omega arith) g

  pub array-head-is : (n : ℕ) → ArrayHead n t → head_at s i ≡ head array n (i + length t)
  unfolding form_of forms
  array-head-is n (inl g) = fix_is 0x90 15 array n (λ l. form-array (0x90 + n) n (omega arith) (omega arith) (omega arith)) (λ q. omega arith) g
  array-head-is n (inr (inl g)) = count-is 0xdc array 2 0 n n refl (λ q. omega arith) (omega arith) g
  array-head-is n (inr (inr g)) = count-is 0xdd array 4 0 n n refl (λ q. omega arith) (omega arith) g

  pub map-head-is : (n : ℕ) → MapHead n t → head_at s i ≡ head map n (i + length t)
  unfolding form_of forms
  map-head-is n (inl g) = fix_is 0x80 15 map n (λ l. form-map (0x80 + n) n (omega arith) (omega arith) (omega arith)) (λ q. omega arith) g
  map-head-is n (inr (inl g)) = count-is 0xde map 2 0 n n refl (λ q. omega arith) (omega arith) g
  map-head-is n (inr (inr g)) = count-is 0xdf map 4 0 n n refl (λ q. omega arith) (omega arith) g

  pub bin-head-is : (n : ℕ) → BinHead n t → head_at s i ≡ head opaque n (i + length t)
  unfolding form_of forms
  bin-head-is n (inl g) = count-is 0xc4 opaque 1 0 n n refl (λ q. omega arith) (omega arith) g
  bin-head-is n (inr (inl g)) = count-is 0xc5 opaque 2 0 n n refl (λ q. omega arith) (omega arith) g
  bin-head-is n (inr (inr g)) = count-is 0xc6 opaque 4 0 n n refl (λ q. omega arith) (omega arith) g

  -- a first byte alone
  pub alone-is : (b k x m : ℕ) → form k 0 x ≡ form_of b → (k ≡ signed → ⊥) → m ≡ x → Code b t → head_at s i ≡ head k m (i + length t)
  alone-is b k x m ef nk em e =
      let z : x + number s (i + 1) 0 ≡ m = omega (arith, number-none s (i + 1)) in
      row_is b [] e (form k 0 x) ef refl nk ∙ rw z

  pub ext-head-is : (n : ℕ) → ExtHead n t → head_at s i ≡ head opaque (1 + n) (i + length t)
  unfolding form_of forms
  ext-head-is n (inl g) = count-is 0xc7 opaque 1 1 n (1 + n) refl (λ q. omega arith) refl g
  ext-head-is n (inr (inl g)) = count-is 0xc8 opaque 2 1 n (1 + n) refl (λ q. omega arith) refl g
  ext-head-is n (inr (inr (inl g))) = count-is 0xc9 opaque 4 1 n (1 + n) refl (λ q. omega arith) refl g
  ext-head-is n (inr (inr (inr (inl (e, g))))) = alone-is 0xd4 opaque 2 (1 + n) refl (λ q. omega arith) (omega arith) g
  ext-head-is n (inr (inr (inr (inr (inl (e, g)))))) = alone-is 0xd5 opaque 3 (1 + n) refl (λ q. omega arith) (omega arith) g
  ext-head-is n (inr (inr (inr (inr (inr (inl (e, g))))))) = alone-is 0xd6 opaque 5 (1 + n) refl (λ q. omega arith) (omega arith) g
  ext-head-is n (inr (inr (inr (inr (inr (inr (inl (e, g)))))))) = alone-is 0xd7 opaque 9 (1 + n) refl (λ q. omega arith) (omega arith) g
  ext-head-is n (inr (inr (inr (inr (inr (inr (inr (e, g)))))))) = alone-is 0xd8 opaque 17 (1 + n) refl (λ q. omega arith) (omega arith) g
