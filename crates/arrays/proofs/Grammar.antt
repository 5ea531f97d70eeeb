-- The elements of a message's array, its IDs and the kinds of values are those that the format's own table gives. Assumes nothing.
-- `outer-found`, `outer-is`: elements are found exactly where the text is an array, and their texts are that array's elements (`array_of`);
-- `found_in`, `is-in`: the same of texts of any length, and `texts-in` where there are at most 7.
-- `listed_found`, `listed-is`, `listed-stands`: the same of the elements that `split` hands out, and where each stands.
-- `id-is`: a value reads as an ID exactly where it is that integer in one of the table's forms (`id-read`, `id-kinded`).
-- `string-is`, `list-is`, `dict-is`, `id-kind`: a value's kind is that of a str, an array, a map or an ID exactly where it is one.
use Rattle.std.specs.Prelude.{Some, None, Option}
use Prim.Native.Nat.{ℕ, zero, suc, ◌+◌, ◌-◌, ◌*◌, ◌≤◌, ◌<◌}
use mathlib.Core.List.{List, [], ◌∷◌, ◌++◌, map, append_assoc, append-nil}
use mathlib.Core.Bool.{Bool, true, false, cond, ◌||◌}
use mathlib.Core.Logic.{inl, inr, ◌↔◌}
use mathlib.Core.Path.{◌≡◌, refl, sym, ap, ap₂, subst, ◌∙◌}
use native.Mathlib.Omega.{arith}
use lib.ListN.{length, drop, length-append, length-map}
use lib.Seq.{take_all, take_at}
use lib.Dec.{eqb, leb, ltb}
use borrow.Author.Tests.{le-leb, eq-eqb, leb-true, eqb-true, eqb-false, ltb-true}
use Rattle.seq.specs.declared.Span.{Span}
use Rattle.seq.specs.Bytes.{part, text_of}
use Rattle.seq.specs.Numbers.{last_id}
use Rattle.seq.specs.Lists.{All, joined}
use Rattle.seq.proofs.Logic.{split, clash}
use Rattle.seq.proofs.Rules.{all-image, all-inside}
use Rattle.lex.specs.Grammar.{Language, Is, ◌·◌}
use Rattle.lex.proofs.Stands.{Reads, stands-next, reads_then, reads_as, reads_none, reads_all}
use Rattle.json_text.specs.Json.{max_bytes}
use Rattle.json_text.proofs.Items.{reads-with, reads-part}
use Rattle.msgpack.specs.declared.Head.{Head}
use Rattle.msgpack.specs.Head.{nil, no, yes, whole, below, str, opaque, array, map as dict, signed, form, forms, form_of, number, half, head, signed_head, head_at}
use Rattle.msgpack.specs.MsgPack.{value}
use Rattle.msgpack.specs.Grammar.{Code, Any, Number, Integer, Text, Scalar, Array, Map, Value, ArrayHead}
use Rattle.msgpack.proofs.Heads.{form-whole, form-below, sign-whole}
use Rattle.msgpack.proofs.Rows.{number-found, number_is, told, sign-is, count-is, fix_is, alone-is, str-head-is, array-head-is, map-head-is, bin-head-is, ext-head-is}
use Rattle.msgpack.proofs.Grammar.{value_found, value-part, value-is}
use Rattle.elements.specs.Kinds.{an_id, a_string, a_list, a_dict, another}
use Rattle.elements.specs.Elements.{Items, Are, Not, after, span, on_to, few, at, blank}
use Rattle.arrays.specs.Arrays.{spans, ended, outer_in, outer, listed_in, listed, id_of, kind}
use Rattle.arrays.specs.Grammar.{ListIn, ListOf, Signed, Whole, Id}
use Rattle.arrays.proofs.Laws as Laws

-- ---- what is found is what the table gives
are-end : {ps qs : List Span} {d e : ℕ} → Are ps d ≡ Are qs e → d ≡ e
are-end h = cc

are-spans : {ps qs : List Span} {d e : ℕ} → Are ps d ≡ Are qs e → ps ≡ qs
are-spans h = cc

not-are : {A : Type 0} {ps : List Span} {e : ℕ} → Not ≡ Are ps e → A
not-are h = let z : ◌≡◌ {A = ℕ} 0 1 = cc in absurd (omega arith)

-- these texts, one after the other
abbrev Row : List (List ℕ) → Language
Row es = Is (joined (λ (e : List ℕ). e) es)

module _ (s : List ℕ) where
  abbrev texts : List Span → List (List ℕ)
  texts ps = map (text_of s) ps

  -- a value stands there
  abbrev Valued : Span → Type 0
  Valued p = value 7 s p.from ≡ Some p.to

  abbrev Spans : ℕ → ℕ → List Span → ℕ → Type 0
  Spans n a ps e = (length ps ≡ n) × All Valued ps × Reads (Row (texts ps)) s a e

  spans-cons : (n a m : ℕ) → value 7 s a ≡ Some m → (i : Items) → ((ps : List Span) (e : ℕ) → i ≡ Are ps e → Spans n m ps e) → (ps : List Span) (e : ℕ)
      → after (span a m ∷ []) i ≡ Are ps e → Spans (suc n) a ps e
  spans-cons n a m q (Are qs d) ih ps e h =
      let (l, vs, x) = ih qs e (ap (λ (z : ℕ). Are qs z) (are-end h)) in
      let y = value_found 7 s a m q in
      let own = reads-with {B = Is (part a m s)} y (sym (reads-part y)) in
      subst (λ (us : List Span). Spans (suc n) a us e) (are-spans h) (
        ap suc l,
        (q, vs),
        reads_as s a e (λ t (b, c, et, eb, ec). et ∙ rw (eb, ec)) (reads_then s a m e own x),
      )
  spans-cons n a m q Not ih ps e h = not-are h

  spans-found : (n a : ℕ) (ps : List Span) (e : ℕ) → spans (value 7 s) n a ≡ Are ps e → Spans n a ps e
  unfolding spans
  spans-found zero a ps e h = subst (λ (us : List Span). Spans 0 a us e) (are-spans h) (refl, tt, reads_none s a e (are-end h) refl)
  spans-found (suc n) a ps e h = go (spans-found n) (value 7 s a) refl h
    where
      go : ((b : ℕ) (us : List Span) (d : ℕ) → spans (value 7 s) n b ≡ Are us d → Spans n b us d) → (r : Option ℕ) → value 7 s a ≡ r
          → on_to r (λ m. after (span a m ∷ []) (spans (value 7 s) n m)) ≡ Are ps e → Spans (suc n) a ps e
      go ih (Some m) q h = spans-cons n a m q (spans (value 7 s) n m) (ih m) ps e h
      go ih None q h = not-are h

  ended_is : (i : Items) (ps : List Span) (e : ℕ) → ended s i ≡ Are ps e → (i ≡ Are ps e) × (e ≡ length s)
  ended_is (Are qs d) ps e h = go (eqb d (length s)) refl h
    where
      go : (b : Bool) → eqb d (length s) ≡ b → cond b (Are qs d) Not ≡ Are ps e → (Are qs d ≡ Are ps e) × (e ≡ length s)
      go true t h = (h, sym (are-end h) ∙ eqb-true d (length s) t)
      go false t h = not-are h
  ended_is Not ps e h = not-are h

  -- what the definition of `outer_in` tests
  outer-parts : (limit : ℕ) (ps : List Span) (e : ℕ) → outer_in limit s ≡ Are ps e
      → (length s ≤ limit) × ((head_at s 0).kind ≡ array) × (spans (value 7 s) (head_at s 0).n (head_at s 0).end ≡ Are ps e) × (e ≡ length s)
  outer-parts limit ps e h =
      split (leb (length s) limit)
      (λ l. split (eqb (head_at s 0).kind array)
      (λ k.
      let (i, q) = ended_is (spans (value 7 s) (head_at s 0).n (head_at s 0).end) ps e (rw (l, k) at h) in
      (leb-true (length s) limit l, eqb-true (head_at s 0).kind array k, i, q))
      (λ k. not-are (rw (l, k) at h)))
      (λ l. not-are (rw l at h))

pub found_in : (limit : ℕ) (s : List ℕ) (ps : List Span) (e : ℕ) → outer_in limit s ≡ Are ps e → ListIn limit (map (text_of s) ps) s
found_in limit s ps e h =
    let (short, k, i, q) = outer-parts s limit ps e h in
    let (l, vs, x) = spans-found s (head_at s 0).n (head_at s 0).end ps e i in
    let w = told s 0 (λ z. omega (arith, k, z)) in
    let es = map (text_of s) ps in
    let n : (head_at s 0).n ≡ length es = sym l ∙ sym (length-map ps (text_of s)) in
    let first : Reads (ArrayHead (length es)) s 0 (head_at s 0).end = record {
      text = w.bytes;
      rest = w.rest;
      stands = w.stands;
      ends = w.ends;
      good = subst (λ (m : ℕ). ArrayHead m w.bytes) n (w.list k);
    } in
    let all = subst (λ (m : ℕ). Reads (ArrayHead (length es) · Row es) s 0 m) q (reads_then s 0 (head_at s 0).end e first x) in
    (short, all-image (Valued s) (Value 7) (text_of s) (λ p v. value-part 7 s p.from p.to v) ps vs, reads_all all)

pub outer-found : (s : List ℕ) (ps : List Span) (e : ℕ) → outer s ≡ Are ps e → ListOf (map (text_of s) ps) s
unfolding outer
outer-found s ps e h = found_in max_bytes s ps e h

-- ---- what the table gives is found
spans-are : (s : List ℕ) (es : List (List ℕ)) (a : ℕ) (r : List ℕ) → drop a s ≡ joined (λ (e : List ℕ). e) es ++ r → All (Value 7) es
    → (ps : List Span) × (spans (value 7 s) (length es) a ≡ Are ps (a + length (joined (λ (e : List ℕ). e) es))) × (map (text_of s) ps ≡ es)
unfolding spans
spans-are s [] a r h vs = ([], let z : a ≡ a + 0 = omega arith in ap (λ (m : ℕ). Are [] m) z, refl)
spans-are s (t ∷ es) a r h vs =
    let more = joined (λ (e : List ℕ). e) es in
    let st : drop a s ≡ t ++ (more ++ r) = h ∙ append_assoc t more r in
    let (ps, q, p) = spans-are s es (a + length t) r (stands-next s a t (more ++ r) st) vs.1 in
    let n : a + length t + length more ≡ a + length (t ++ more) = let m = length-append t more in omega arith in (
      span a (a + length t) ∷ ps,
      rw (value-is 7 s a t (more ++ r) st vs.0, q) (ap (λ (m : ℕ). Are (span a (a + length t) ∷ ps) m) n),
      ap₂ ◌∷◌ (rw st (take_at t (more ++ r) (a + length t - a) (omega arith))) p,
    )

pub is-in : (limit : ℕ) (s : List ℕ) (es : List (List ℕ)) → ListIn limit es s
    → (ps : List Span) × (e : ℕ) × (outer_in limit s ≡ Are ps e) × (map (text_of s) ps ≡ es)
is-in limit s es (short, vs, (a, u, e, g, q)) =
    let row = joined (λ (e : List ℕ). e) es in
    let there : s ≡ a ++ row = e ∙ ap (λ (x : List ℕ). a ++ x) q in
    let h = array-head-is s 0 a row there (length es) g in
    let (ps, i, p) = spans-are s es (0 + length a) [] (stands-next s 0 a row there ∙ sym (append-nil row)) vs in
    let n : 0 + length a + length row ≡ length s = omega (arith, ap length there ∙ length-append a row) in
    (ps, 0 + length a + length row, rw (le-leb (length s) limit short, h, i, eq-eqb (0 + length a + length row) (length s) n), p)

pub outer-is : (s : List ℕ) (es : List (List ℕ)) → ListOf es s → (ps : List Span) × (e : ℕ) × (outer s ≡ Are ps e) × (map (text_of s) ps ≡ es)
unfolding outer
outer-is s es h = is-in max_bytes s es h

pub array_of : (s : List ℕ) (es : List (List ℕ)) → ((ps : List Span) × (e : ℕ) × (outer s ≡ Are ps e) × (map (text_of s) ps ≡ es)) ↔ ListOf es s
array_of s es = (λ (ps, e, h, q). subst (λ (us : List (List ℕ)). ListOf us s) q (outer-found s ps e h), outer-is s es)

-- ---- the elements, where there are at most 7
pub texts-in : (limit : ℕ) (s : List ℕ) (es : List (List ℕ)) → ListIn limit es s → length es ≤ 7 → map (text_of s) (listed_in limit s) ≡ es
texts-in limit s es h l =
    let (ps, e, o, t) = is-in limit s es h in
    let n : length ps ≡ length es = sym (length-map ps (text_of s)) ∙ ap length t in
    rw (o, le-leb (length ps) 7 (omega arith)) t

-- ---- and those that `split` hands out
pub listed_found : (s : List ℕ) → 0 < length (listed s) → ListOf (map (text_of s) (listed s)) s
unfolding listed
listed_found s = go (outer s) refl
  where
    go : (i : Items) → outer s ≡ i → 0 < length (few i) → ListOf (map (text_of s) (few i)) s
    go (Are ps e) h = split (leb (length ps) 7) (λ b. rw b (λ l. outer-found s ps e h)) (λ b. rw b (λ l. absurd (omega arith)))
    go Not h = λ l. absurd (omega arith)

pub listed-is : (s : List ℕ) (es : List (List ℕ)) → ListOf es s → length es ≤ 7 → map (text_of s) (listed s) ≡ es
unfolding listed
listed-is s es h l =
    let (ps, e, o, t) = outer-is s es h in
    let n : length ps ≡ length es = sym (length-map ps (text_of s)) ∙ ap length t in
    rw (o, le-leb (length ps) 7 (omega arith)) t

-- each stands in the text from where its span says on, up to where it says
listed-values : (s : List ℕ) → All (Valued s) (listed s)
unfolding outer listed
listed-values s = go (outer s) refl
  where
    go : (i : Items) → outer s ≡ i → All (Valued s) (few i)
    go (Are ps e) h =
        let (short, k, i, q) = outer-parts s max_bytes ps e h in
        let vs = (spans-found s (head_at s 0).n (head_at s 0).end ps e i).1 in
        split (leb (length ps) 7) (λ b. rw b vs) (λ b. rw b tt)
    go Not h = tt

pub listed-stands : (s : List ℕ) (k : ℕ) → k < length (listed s)
    → (r : List ℕ) × (drop (at k (listed s)).from s ≡ text_of s (at k (listed s)) ++ r)
    × ((at k (listed s)).to ≡ (at k (listed s)).from + length (text_of s (at k (listed s))))
listed-stands s k l =
    let p = at k (listed s) in
    let x = value_found 7 s p.from p.to (all-inside (Valued s) blank (listed s) (listed-values s) k l) in
    (x.rest, rw (reads-part x) x.stands, rw (reads-part x) x.ends)

-- ---- what the head of a text t says of it
record Says (Inner : Language) (t : List ℕ) (h : Head) : Type 0 where
  string : h.kind ≡ str → Text t
  list : h.kind ≡ array → Array Inner t
  mapped : h.kind ≡ dict → Map Inner t
  integer : h.kind ≡ whole → Whole h.n t

-- a kind of which `Says` has something
speaks : ℕ → Bool
speaks k = eqb k str || eqb k array || eqb k dict || eqb k whole

number_in : (w : ℕ) (u : List ℕ) → length u ≡ w → (n : ℕ) × Number w n u
number_in w u e =
    (number u 0 w, subst (Number w (number u 0 w)) (take_all w u (omega arith)) (number-found u 0 w (omega arith)))

-- the head of a text that has a number with a sign behind its first byte
sign-head : (t : List ℕ) (b w n : ℕ) → form signed w 0 ≡ form_of b → (Code b · Number w n) t → head_at t 0 ≡ signed_head w n (0 + length t)
sign-head t b w n ef (a, u, e, ea, g) =
    let et : t ≡ b ∷ u = e ∙ ap (λ (x : List ℕ). x ++ u) ea in
    let (lu, nu) = number_is t (0 + 1) w n u [] (ap (λ (x : List ℕ). drop 1 x) et ∙ sym (append-nil u)) g in
    sign-is t 0 t [] (sym (append-nil t)) b u et w ef lu ∙ ap (λ (x : ℕ). signed_head w x (0 + length t)) nu

module _ (Inner : Language) (t : List ℕ) where
  says_other : (k n e : ℕ) → speaks k ≡ false → head_at t 0 ≡ head k n e → Says Inner t (head_at t 0)
  unfolding speaks
  says_other k n e g q = subst (Says Inner t) (sym q) (record {
    string = λ p. clash refl (subst (λ (x : ℕ). speaks x ≡ false) p g);
    list = λ p. clash refl (subst (λ (x : ℕ). speaks x ≡ false) p g);
    mapped = λ p. clash refl (subst (λ (x : ℕ). speaks x ≡ false) p g);
    integer = λ p. clash refl (subst (λ (x : ℕ). speaks x ≡ false) p g);
  })

  says-whole : (n e : ℕ) → Whole n t → head_at t 0 ≡ head whole n e → Says Inner t (head_at t 0)
  says-whole n e g q = subst (Says Inner t) (sym q) (record {
    string = λ p. absurd (omega arith);
    list = λ p. absurd (omega arith);
    mapped = λ p. absurd (omega arith);
    integer = λ p. g;
  })

  says-string : (n e : ℕ) → Text t → head_at t 0 ≡ head str n e → Says Inner t (head_at t 0)
  says-string n e g q = subst (Says Inner t) (sym q) (record {
    string = λ p. g;
    list = λ p. absurd (omega arith);
    mapped = λ p. absurd (omega arith);
    integer = λ p. absurd (omega arith);
  })

  says-list : (n e : ℕ) → Array Inner t → head_at t 0 ≡ head array n e → Says Inner t (head_at t 0)
  says-list n e g q = subst (Says Inner t) (sym q) (record {
    string = λ p. absurd (omega arith);
    list = λ p. g;
    mapped = λ p. absurd (omega arith);
    integer = λ p. absurd (omega arith);
  })

  says-dict : (n e : ℕ) → Map Inner t → head_at t 0 ≡ head dict n e → Says Inner t (head_at t 0)
  says-dict n e g q = subst (Says Inner t) (sym q) (record {
    string = λ p. absurd (omega arith);
    list = λ p. absurd (omega arith);
    mapped = λ p. g;
    integer = λ p. absurd (omega arith);
  })

  all : drop 0 t ≡ t ++ []
  all = sym (append-nil t)

  -- a first byte alone, and one with a number of w bytes behind it, without a sign and with one
  alone-says : (b k x : ℕ) → speaks k ≡ false → form k 0 x ≡ form_of b → (k ≡ signed → ⊥) → Code b t → Says Inner t (head_at t 0)
  alone-says b k x g ef nk e = says_other k x (0 + length t) g (alone-is t 0 t [] all b k x x ef nk refl e)

  uint_says : (b w : ℕ) → form whole w 0 ≡ form_of b → ((n : ℕ) → (Code b · Number w n) t → Whole n t) → (Code b · Any w) t → Says Inner t (head_at t 0)
  uint_says b w ef f (a, u, e, ea, l) =
      let (n, g) = number_in w u l in
      let c : (Code b · Number w n) t = (a, u, e, ea, g) in
      says-whole n (0 + length t) (f n c) (count-is t 0 t [] all b whole w 0 n n ef (λ z. omega arith) (omega arith) c)

  sign-says : (b w h : ℕ) → h ≡ half w → form signed w 0 ≡ form_of b → ((n : ℕ) → Signed b w h n t → Whole n t) → (Code b · Any w) t
      → Says Inner t (head_at t 0)
  unfolding signed_head speaks
  sign-says b w h eh ef f (a, u, e, ea, l) =
      let (n, g) = number_in w u l in
      let c : (Code b · Number w n) t = (a, u, e, ea, g) in
      let q = sign-head t b w n ef c in
      split (ltb n (half w))
      (λ k. says-whole n (0 + length t) (f n (rw eh (ltb-true n (half w) k), c)) (q ∙ rw k))
      (λ k. says_other below (2 * half w - 1 - n) (0 + length t) refl (q ∙ rw k))

  says-integer : Integer t → Says Inner t (head_at t 0)
  unfolding form_of forms half speaks
  says-integer (inl (b, l, e)) =
      let z : b ≡ 0 + b = omega arith in
      says-whole b (0 + length t) (inl (l, e ∙ ap (λ (x : ℕ). x ∷ []) z))
      (alone-is t 0 t [] all b whole b b (form-whole b b (omega arith) refl) (λ z. omega arith) refl e)
  says-integer (inr (inl (b, l, e))) = alone-says b below (0xff - b) refl (form-below b (0xff - b) l refl) (λ z. omega arith) e
  says-integer (inr (inr (inl g))) = uint_says 0xcc 1 refl (λ n c. inr (inl c)) g
  says-integer (inr (inr (inr (inl g)))) = uint_says 0xcd 2 refl (λ n c. inr (inr (inl c))) g
  says-integer (inr (inr (inr (inr (inl g))))) = uint_says 0xce 4 refl (λ n c. inr (inr (inr (inl c)))) g
  says-integer (inr (inr (inr (inr (inr (inl g)))))) = uint_says 0xcf 8 refl (λ n c. inr (inr (inr (inr (inl c))))) g
  says-integer (inr (inr (inr (inr (inr (inr (inl g))))))) = sign-says 0xd0 1 0x80 refl refl (λ n c. inr (inr (inr (inr (inr (inl c)))))) g
  says-integer (inr (inr (inr (inr (inr (inr (inr (inl g)))))))) =
      sign-says 0xd1 2 0x8000 refl refl (λ n c. inr (inr (inr (inr (inr (inr (inl c))))))) g
  says-integer (inr (inr (inr (inr (inr (inr (inr (inr (inl g))))))))) =
      sign-says 0xd2 4 0x80000000 refl refl (λ n c. inr (inr (inr (inr (inr (inr (inr (inl c)))))))) g
  says-integer (inr (inr (inr (inr (inr (inr (inr (inr (inr g))))))))) =
      sign-says 0xd3 8 0x8000000000000000 refl refl (λ n c. inr (inr (inr (inr (inr (inr (inr (inr c)))))))) g

  says-scalar : Scalar t → Says Inner t (head_at t 0)
  unfolding form_of forms speaks
  says-scalar (inl (inl e)) = alone-says 0xc0 nil 0 refl refl (λ z. omega arith) e
  says-scalar (inl (inr (inl e))) = alone-says 0xc2 no 0 refl refl (λ z. omega arith) e
  says-scalar (inl (inr (inr e))) = alone-says 0xc3 yes 0 refl refl (λ z. omega arith) e
  says-scalar (inr (inl g)) = says-integer g
  says-scalar (inr (inr (inl (inl (a, u, e, ea, l))))) =
      says_other opaque 4 (0 + length a) refl (alone-is t 0 a u e 0xca opaque 4 4 refl (λ z. omega arith) refl ea)
  says-scalar (inr (inr (inl (inr (a, u, e, ea, l))))) =
      says_other opaque 8 (0 + length a) refl (alone-is t 0 a u e 0xcb opaque 8 8 refl (λ z. omega arith) refl ea)
  says-scalar (inr (inr (inr (inl (n, (a, u, e, g, l)))))) = says_other opaque n (0 + length a) refl (bin-head-is t 0 a u e n g)
  says-scalar (inr (inr (inr (inr (inl (n, (a, u, e, g, l))))))) = says_other opaque (1 + n) (0 + length a) refl (ext-head-is t 0 a u e n g)
  says-scalar (inr (inr (inr (inr (inr g))))) =
      let (u, k, (a, v, e, h, q)) = g in
      says-string (length u) (0 + length a) g (str-head-is t 0 a v e (length u) h)

says : (d : ℕ) (t : List ℕ) → Value (suc d) t → Says (Value d) t (head_at t 0)
says d t (inl g) = says-scalar (Value d) t g
says d t (inr (inl g)) =
    let (es, gs, (a, u, e, h, q)) = g in
    says-list (Value d) t (length es) (0 + length a) g (array-head-is t 0 a u e (length es) h)
says d t (inr (inr g)) =
    let (ps, gs, apart, (a, u, e, h, q)) = g in
    says-dict (Value d) t (length ps) (0 + length a) g (map-head-is t 0 a u e (length ps) h)

-- ---- IDs
-- the head of an integer
signed_is : (t : List ℕ) (b w h n : ℕ) → h ≡ half w → form signed w 0 ≡ form_of b → Signed b w h n t → head_at t 0 ≡ head whole n (0 + length t)
signed_is t b w h n eh ef (m, g) = sign-head t b w n ef g ∙ sym (sign-whole w n (0 + length t) h eh m)

whole_is : (t : List ℕ) (n : ℕ) → Whole n t → head_at t 0 ≡ head whole n (0 + length t)
unfolding form_of forms half
whole_is t n (inl g) =
    fix_is t 0 t [] (sym (append-nil t)) 0 127 whole n (λ l. form-whole (0 + n) n (omega arith) (omega arith)) (λ z. omega arith) g
whole_is t n (inr (inl g)) = count-is t 0 t [] (sym (append-nil t)) 0xcc whole 1 0 n n refl (λ z. omega arith) (omega arith) g
whole_is t n (inr (inr (inl g))) = count-is t 0 t [] (sym (append-nil t)) 0xcd whole 2 0 n n refl (λ z. omega arith) (omega arith) g
whole_is t n (inr (inr (inr (inl g)))) = count-is t 0 t [] (sym (append-nil t)) 0xce whole 4 0 n n refl (λ z. omega arith) (omega arith) g
whole_is t n (inr (inr (inr (inr (inl g))))) = count-is t 0 t [] (sym (append-nil t)) 0xcf whole 8 0 n n refl (λ z. omega arith) (omega arith) g
whole_is t n (inr (inr (inr (inr (inr (inl g)))))) = signed_is t 0xd0 1 0x80 n refl refl g
whole_is t n (inr (inr (inr (inr (inr (inr (inl g))))))) = signed_is t 0xd1 2 0x8000 n refl refl g
whole_is t n (inr (inr (inr (inr (inr (inr (inr (inl g)))))))) = signed_is t 0xd2 4 0x80000000 n refl refl g
whole_is t n (inr (inr (inr (inr (inr (inr (inr (inr g)))))))) = signed_is t 0xd3 8 0x8000000000000000 n refl refl g

-- an ID other than 0 is the number of a head that tells an integer
id-head : (t : List ℕ) (n : ℕ) → id_of t ≡ n → 1 ≤ n → ((head_at t 0).kind ≡ whole) × ((head_at t 0).n ≡ n) × (n ≤ last_id)
unfolding id_of
id-head t n h l =
    split (eqb (head_at t 0).kind whole)
    (λ k. split (leb (head_at t 0).n last_id)
    (λ m.
    let q : (head_at t 0).n ≡ n = rw (k, m) at h in
    let small = leb-true (head_at t 0).n last_id m in
    (eqb-true (head_at t 0).kind whole k, q, subst (λ (x : ℕ). x ≤ last_id) q small))
    (λ m. let z : 0 ≡ n = rw (k, m) at h in absurd (omega arith)))
    (λ k. let z : 0 ≡ n = rw k at h in absurd (omega arith))

-- every value, of whatever depth, that its head tells to be an integer
integer-of : (d : ℕ) (t : List ℕ) → Value d t → (head_at t 0).kind ≡ whole → Whole (head_at t 0).n t
integer-of zero t g = (says-scalar (Value 0) t g).integer
integer-of (suc d) t g = (says d t g).integer

-- an ID is read as it, and is of that kind
pub id-read : (t : List ℕ) (n : ℕ) → Id n t → id_of t ≡ n
id-read t n (l, m, g) = sym (Laws.id-is t (head whole n (0 + length t)) (sym (whole_is t n g)) refl m)

pub id-kinded : (t : List ℕ) (n : ℕ) → Id n t → kind t ≡ an_id
id-kinded t n (l, m, g) =
    let q = id-read t n (l, m, g) in
    sym (Laws.kind-id t (head whole n (0 + length t)) (sym (whole_is t n g)) (λ z. omega arith) (λ z. omega arith) (λ z. omega arith) n (sym q) (λ z. omega arith))

pub id-is : (d : ℕ) (t : List ℕ) (n : ℕ) → Value d t → ((id_of t ≡ n) × (1 ≤ n)) ↔ Id n t
id-is d t n v = (
  λ (h, l). let (k, q, m) = id-head t n h l in (l, m, subst (λ (x : ℕ). Whole x t) q (integer-of d t v k)),
  λ g. (id-read t n g, g.0),
)

-- ---- kinds
-- which test a kind tells of, in either format
abbrev pub Tells : Bool → Bool → Bool → Bool → ℕ → Type 0
Tells a b c d k = (k ≡ a_string → a ≡ true) × (k ≡ a_list → b ≡ true) × (k ≡ a_dict → c ≡ true) × (k ≡ an_id → d ≡ false)

pub tells : (a b c d : Bool) → Tells a b c d (cond a a_string (cond b a_list (cond c a_dict (cond d another an_id))))
tells true b c d = (λ z. refl, λ z. absurd (omega arith), λ z. absurd (omega arith), λ z. absurd (omega arith))
tells false true c d = (λ z. absurd (omega arith), λ z. refl, λ z. absurd (omega arith), λ z. absurd (omega arith))
tells false false true d = (λ z. absurd (omega arith), λ z. absurd (omega arith), λ z. refl, λ z. absurd (omega arith))
tells false false false true = (λ z. absurd (omega arith), λ z. absurd (omega arith), λ z. absurd (omega arith), λ z. absurd (omega arith))
tells false false false false = (λ z. absurd (omega arith), λ z. absurd (omega arith), λ z. absurd (omega arith), λ z. refl)

kind-tells : (t : List ℕ) → Tells (eqb (head_at t 0).kind str) (eqb (head_at t 0).kind array) (eqb (head_at t 0).kind dict) (eqb (id_of t) 0) (kind t)
unfolding kind
kind-tells t = tells (eqb (head_at t 0).kind str) (eqb (head_at t 0).kind array) (eqb (head_at t 0).kind dict) (eqb (id_of t) 0)

string-of : (d : ℕ) (t : List ℕ) → Value d t → (head_at t 0).kind ≡ str → Text t
string-of zero t g = (says-scalar (Value 0) t g).string
string-of (suc d) t g = (says d t g).string

pub string-is : (d : ℕ) (t : List ℕ) → Value d t → (kind t ≡ a_string) ↔ Text t
string-is d t v = (
  λ h. string-of d t v (eqb-true (head_at t 0).kind str ((kind-tells t).0 h)),
  λ (u, k, (a, x, e, g, q)). sym (Laws.kind-string t _ (sym (str-head-is t 0 a x e (length u) g)) refl),
)

pub list-is : (d : ℕ) (t : List ℕ) → Value (suc d) t → (kind t ≡ a_list) ↔ Array (Value d) t
list-is d t v = (
  λ h. (says d t v).list (eqb-true (head_at t 0).kind array ((kind-tells t).1 h)),
  λ (es, gs, (a, x, e, g, q)). sym (Laws.kind-list t _ (sym (array-head-is t 0 a x e (length es) g)) refl),
)

pub dict-is : (d : ℕ) (t : List ℕ) → Value (suc d) t → (kind t ≡ a_dict) ↔ Map (Value d) t
dict-is d t v = (
  λ h. (says d t v).mapped (eqb-true (head_at t 0).kind dict ((kind-tells t).2 h)),
  λ (ps, gs, apart, (a, x, e, g, q)). sym (Laws.kind-dict t _ (sym (map-head-is t 0 a x e (length ps) g)) refl),
)

pub id-kind : (d : ℕ) (t : List ℕ) → Value d t → (kind t ≡ an_id) ↔ ((n : ℕ) × Id n t)
id-kind d t v = (
  λ h. let k = eqb-false (id_of t) 0 ((kind-tells t).3 h) in (id_of t, (id-is d t (id_of t) v).0 (refl, omega arith)),
  λ (n, g). id-kinded t n g,
)
