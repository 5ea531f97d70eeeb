-- The shortest forms of MessagePack are the shortest of the format's own table (specs/Sent.antt). Assumes nothing.
use Prim.Native.Nat.{ℕ, zero, suc, ◌+◌, ◌*◌, ◌/◌, ◌%◌, ◌≤◌, ◌<◌}
use mathlib.Core.Bool.{cond}
use mathlib.Core.List.{List, [], ◌∷◌, ◌++◌}
use mathlib.Core.Logic.{◌⊎◌, inl, inr}
use mathlib.Core.Path.{◌≡◌, refl, ap, subst, ◌∙◌}
use native.Mathlib.Omega.{arith}
use borrow.Author.Tests.{ltb-true, ltb-false}
use lib.Dec.{ltb}
use lib.ListN.{length, length-append}
use Rattle.seq.specs.Lists.{All}
use Rattle.seq.proofs.Logic.{split}
use Rattle.lex.specs.Grammar.{Language, ◌·◌, ◌∪◌}
use Rattle.msgpack.specs.Grammar.{Code, Number, Fix, StrHead, ArrayHead, MapHead}
use Rattle.values.specs.Write.{wide, pack_whole, pack_str, pack_array, pack_map}
use Rattle.values.proofs.PackLengths.{wide-length}
use Rattle.outgoing.specs.Sent.{Shortest, Unsigned}

abbrev Bytes : List ℕ → Type 0
Bytes t = All (λ b. b < 256) t

-- ---- numbers in so many bytes
-- how many numbers w bytes tell apart
abbrev room : ℕ → ℕ
room zero = 1
room (suc w) = room w * 256

bytes-snoc : (a : List ℕ) (b : ℕ) → Bytes a → b < 256 → Bytes (a ++ (b ∷ []))
bytes-snoc [] b h l = (l, tt)
bytes-snoc (x ∷ a) b h l = (h.0, bytes-snoc a b h.1 l)

bytes-last : (a : List ℕ) (b : ℕ) → Bytes (a ++ (b ∷ [])) → Bytes a × (b < 256)
bytes-last [] b h = (tt, h.0)
bytes-last (x ∷ a) b h = let r = bytes-last a b h.1 in ((h.0, r.0), r.1)

wide-number : (w n : ℕ) → n < room w → Number w n (wide w n)
unfolding wide
wide-number zero n h = (omega arith, refl)
wide-number (suc w) n h =
    (n / 256, n % 256, omega arith, (wide w (n / 256), n % 256 ∷ [], refl, wide-number w (n / 256) (omega arith), refl))

pub wide-bytes : (w n : ℕ) → Bytes (wide w n)
unfolding wide
wide-bytes zero n = tt
wide-bytes (suc w) n = bytes-snoc (wide w (n / 256)) (n % 256) (wide-bytes w (n / 256)) (omega arith)

-- w bytes tell a number that has room in them
number-room : (w n : ℕ) (t : List ℕ) → Number w n t → Bytes t → (n < room w) × (length t ≡ w)
number-room zero n t (e, d) b = (omega arith, ap length d)
number-room (suc w) n t (high, low, e, (a, c, d, h, k)) b =
    let t-is : t ≡ a ++ (low ∷ []) = d ∙ ap (λ (l : List ℕ). a ++ l) k in
    let s = bytes-last a low (subst (λ (l : List ℕ). Bytes l) t-is b) in
    let r = number-room w high a h s.0 in
    let small = s.1 in
    let below = r.0 in
    (omega arith, ap length t-is ∙ length-append a (low ∷ []) ∙ (let l = r.1 in omega arith))

-- ---- forms: a first byte, and a number behind it
form-room : (b w n : ℕ) (t : List ℕ) → (Code b · Number w n) t → Bytes t → (n < room w) × (length t ≡ suc w)
form-room b w n t (a, c, d, h, k) bs =
    let t-is : t ≡ b ∷ c = d ∙ ap (λ (l : List ℕ). l ++ c) h in
    let r = number-room w n c k (subst (λ (l : List ℕ). Bytes l) t-is bs).1 in
    (r.0, ap length t-is ∙ ap suc r.1)

form_of : (b w n : ℕ) → n < room w → (Code b · Number w n) (b ∷ wide w n)
form_of b w n h = (b ∷ [], wide w n, refl, refl, wide-number w n h)

fix_one : (b most n : ℕ) (t : List ℕ) → Fix b most n t → (n ≤ most) × (length t ≡ 1)
fix_one b most n t (l, e) = (l, ap length e)

-- ---- integers
-- what a text of the table tells, by its length
abbrev WholeSized : ℕ → ℕ → Type 0
WholeSized n l =
    ((n ≤ 127) × (l ≡ 1))
    ⊎ ((n < room 1) × (l ≡ 2))
    ⊎ ((n < room 2) × (l ≡ 3))
    ⊎ ((n < room 4) × (l ≡ 5))
    ⊎ ((n < room 8) × (l ≡ 9))

whole-sized : (n : ℕ) (u : List ℕ) → Unsigned n u → Bytes u → WholeSized n (length u)
whole-sized n u (inl h) b = inl (fix_one 0x00 127 n u h)
whole-sized n u (inr (inl h)) b = inr (inl (form-room 0xcc 1 n u h b))
whole-sized n u (inr (inr (inl h))) b = inr (inr (inl (form-room 0xcd 2 n u h b)))
whole-sized n u (inr (inr (inr (inl h)))) b = inr (inr (inr (inl (form-room 0xce 4 n u h b))))
whole-sized n u (inr (inr (inr (inr h)))) b = inr (inr (inr (inr (form-room 0xcf 8 n u h b))))

whole-two : (n l : ℕ) → 0x80 ≤ n → WholeSized n l → 2 ≤ l
whole-two n l h (inl t) = omega arith
whole-two n l h (inr (inl t)) = omega arith
whole-two n l h (inr (inr (inl t))) = omega arith
whole-two n l h (inr (inr (inr (inl t)))) = omega arith
whole-two n l h (inr (inr (inr (inr t)))) = omega arith

whole-three : (n l : ℕ) → 0x100 ≤ n → WholeSized n l → 3 ≤ l
whole-three n l h (inl t) = omega arith
whole-three n l h (inr (inl t)) = omega arith
whole-three n l h (inr (inr (inl t))) = omega arith
whole-three n l h (inr (inr (inr (inl t)))) = omega arith
whole-three n l h (inr (inr (inr (inr t)))) = omega arith

whole-five : (n l : ℕ) → 0x10000 ≤ n → WholeSized n l → 5 ≤ l
whole-five n l h (inl t) = omega arith
whole-five n l h (inr (inl t)) = omega arith
whole-five n l h (inr (inr (inl t))) = omega arith
whole-five n l h (inr (inr (inr (inl t)))) = omega arith
whole-five n l h (inr (inr (inr (inr t)))) = omega arith

whole-nine : (n l : ℕ) → 0x100000000 ≤ n → WholeSized n l → 9 ≤ l
whole-nine n l h (inl t) = omega arith
whole-nine n l h (inr (inl t)) = omega arith
whole-nine n l h (inr (inr (inl t))) = omega arith
whole-nine n l h (inr (inr (inr (inl t)))) = omega arith
whole-nine n l h (inr (inr (inr (inr t)))) = omega arith

whole-one : (n l : ℕ) → WholeSized n l → 1 ≤ l
whole-one n l (inl t) = omega arith
whole-one n l (inr (inl t)) = omega arith
whole-one n l (inr (inr (inl t))) = omega arith
whole-one n l (inr (inr (inr (inl t)))) = omega arith
whole-one n l (inr (inr (inr (inr t)))) = omega arith

whole-fix : (n : ℕ) → n < 0x80 → Shortest (Unsigned n) (n ∷ [])
whole-fix n h = record {
  one = inl (omega arith, ap (λ (b : ℕ). b ∷ []) (omega arith));
  bytes = (omega arith, tt);
  least = λ u a b. whole-one n (length u) (whole-sized n u a b);
}

whole-form-1 : (n : ℕ) → 0x80 ≤ n → n < 0x100 → Shortest (Unsigned n) (0xcc ∷ wide 1 n)
whole-form-1 n h l = record {
  one = inr (inl (form_of 0xcc 1 n l));
  bytes = (omega arith, wide-bytes 1 n);
  least = λ u a b. rw (wide-length 1 n) (whole-two n (length u) h (whole-sized n u a b));
}

whole-form-2 : (n : ℕ) → 0x100 ≤ n → n < 0x10000 → Shortest (Unsigned n) (0xcd ∷ wide 2 n)
whole-form-2 n h l = record {
  one = inr (inr (inl (form_of 0xcd 2 n l)));
  bytes = (omega arith, wide-bytes 2 n);
  least = λ u a b. rw (wide-length 2 n) (whole-three n (length u) h (whole-sized n u a b));
}

whole-form-4 : (n : ℕ) → 0x10000 ≤ n → n < 0x100000000 → Shortest (Unsigned n) (0xce ∷ wide 4 n)
whole-form-4 n h l = record {
  one = inr (inr (inr (inl (form_of 0xce 4 n l))));
  bytes = (omega arith, wide-bytes 4 n);
  least = λ u a b. rw (wide-length 4 n) (whole-five n (length u) h (whole-sized n u a b));
}

whole-form-8 : (n : ℕ) → 0x100000000 ≤ n → n < 0x10000000000000000 → Shortest (Unsigned n) (0xcf ∷ wide 8 n)
whole-form-8 n h l = record {
  one = inr (inr (inr (inr (form_of 0xcf 8 n l))));
  bytes = (omega arith, wide-bytes 8 n);
  least = λ u a b. rw (wide-length 8 n) (whole-nine n (length u) h (whole-sized n u a b));
}

pub shortest-whole : (n : ℕ) → n < 0x10000000000000000 → Shortest (Unsigned n) (pack_whole n)
unfolding pack_whole
shortest-whole n h =
    split (ltb n 0x80)
    (λ t. rw t (let f = ltb-true n 0x80 t in whole-fix n f))
    (λ t0. split (ltb n 0x100)
    (λ p. rw (t0, p) (whole-form-1 n (ltb-false n 0x80 t0) (ltb-true n 0x100 p)))
    (λ t1. split (ltb n 0x10000)
    (λ p. rw (t0, t1, p) (whole-form-2 n (ltb-false n 0x100 t1) (ltb-true n 0x10000 p)))
    (λ t2. split (ltb n 0x100000000)
    (λ p. rw (t0, t1, t2, p) (whole-form-4 n (ltb-false n 0x10000 t2) (ltb-true n 0x100000000 p)))
    (λ t3. rw (t0, t1, t2, t3) (whole-form-8 n (ltb-false n 0x100000000 t3) h)))))

-- ---- strs
-- what a text of the table tells, by its length
abbrev StrSized : ℕ → ℕ → Type 0
StrSized n l =
    ((n ≤ 31) × (l ≡ 1))
    ⊎ ((n < room 1) × (l ≡ 2))
    ⊎ ((n < room 2) × (l ≡ 3))
    ⊎ ((n < room 4) × (l ≡ 5))

str-sized : (n : ℕ) (u : List ℕ) → StrHead n u → Bytes u → StrSized n (length u)
str-sized n u (inl h) b = inl (fix_one 0xa0 31 n u h)
str-sized n u (inr (inl h)) b = inr (inl (form-room 0xd9 1 n u h b))
str-sized n u (inr (inr (inl h))) b = inr (inr (inl (form-room 0xda 2 n u h b)))
str-sized n u (inr (inr (inr h))) b = inr (inr (inr (form-room 0xdb 4 n u h b)))

str-two : (n l : ℕ) → 0x20 ≤ n → StrSized n l → 2 ≤ l
str-two n l h (inl t) = omega arith
str-two n l h (inr (inl t)) = omega arith
str-two n l h (inr (inr (inl t))) = omega arith
str-two n l h (inr (inr (inr t))) = omega arith

str-three : (n l : ℕ) → 0x100 ≤ n → StrSized n l → 3 ≤ l
str-three n l h (inl t) = omega arith
str-three n l h (inr (inl t)) = omega arith
str-three n l h (inr (inr (inl t))) = omega arith
str-three n l h (inr (inr (inr t))) = omega arith

str-five : (n l : ℕ) → 0x10000 ≤ n → StrSized n l → 5 ≤ l
str-five n l h (inl t) = omega arith
str-five n l h (inr (inl t)) = omega arith
str-five n l h (inr (inr (inl t))) = omega arith
str-five n l h (inr (inr (inr t))) = omega arith

str-one : (n l : ℕ) → StrSized n l → 1 ≤ l
str-one n l (inl t) = omega arith
str-one n l (inr (inl t)) = omega arith
str-one n l (inr (inr (inl t))) = omega arith
str-one n l (inr (inr (inr t))) = omega arith

str-fix : (n : ℕ) → n < 0x20 → Shortest (StrHead n) ((0xa0 + n) ∷ [])
str-fix n h = record {
  one = inl (omega arith, refl);
  bytes = (omega arith, tt);
  least = λ u a b. str-one n (length u) (str-sized n u a b);
}

str-form-1 : (n : ℕ) → 0x20 ≤ n → n < 0x100 → Shortest (StrHead n) (0xd9 ∷ wide 1 n)
str-form-1 n h l = record {
  one = inr (inl (form_of 0xd9 1 n l));
  bytes = (omega arith, wide-bytes 1 n);
  least = λ u a b. rw (wide-length 1 n) (str-two n (length u) h (str-sized n u a b));
}

str-form-2 : (n : ℕ) → 0x100 ≤ n → n < 0x10000 → Shortest (StrHead n) (0xda ∷ wide 2 n)
str-form-2 n h l = record {
  one = inr (inr (inl (form_of 0xda 2 n l)));
  bytes = (omega arith, wide-bytes 2 n);
  least = λ u a b. rw (wide-length 2 n) (str-three n (length u) h (str-sized n u a b));
}

str-form-4 : (n : ℕ) → 0x10000 ≤ n → n < 0x100000000 → Shortest (StrHead n) (0xdb ∷ wide 4 n)
str-form-4 n h l = record {
  one = inr (inr (inr (form_of 0xdb 4 n l)));
  bytes = (omega arith, wide-bytes 4 n);
  least = λ u a b. rw (wide-length 4 n) (str-five n (length u) h (str-sized n u a b));
}

pub shortest-str : (n : ℕ) → n < 0x100000000 → Shortest (StrHead n) (pack_str n)
unfolding pack_str
shortest-str n h =
    split (ltb n 0x20)
    (λ t. rw t (let f = ltb-true n 0x20 t in str-fix n f))
    (λ t0. split (ltb n 0x100)
    (λ p. rw (t0, p) (str-form-1 n (ltb-false n 0x20 t0) (ltb-true n 0x100 p)))
    (λ t1. split (ltb n 0x10000)
    (λ p. rw (t0, t1, p) (str-form-2 n (ltb-false n 0x100 t1) (ltb-true n 0x10000 p)))
    (λ t2. rw (t0, t1, t2) (str-form-4 n (ltb-false n 0x10000 t2) h))))

-- ---- arrays and maps: three forms, whose first bytes are those of fixed heads from b on, c and d
abbrev Counted : ℕ → ℕ → ℕ → ℕ → Language
Counted b c d n = Fix b 15 n ∪ Code c · Number 2 n ∪ Code d · Number 4 n

abbrev CountedSized : ℕ → ℕ → Type 0
CountedSized n l =
    ((n ≤ 15) × (l ≡ 1))
    ⊎ ((n < room 2) × (l ≡ 3))
    ⊎ ((n < room 4) × (l ≡ 5))

counted-three : (n l : ℕ) → 0x10 ≤ n → CountedSized n l → 3 ≤ l
counted-three n l h (inl t) = omega arith
counted-three n l h (inr (inl t)) = omega arith
counted-three n l h (inr (inr t)) = omega arith

counted-five : (n l : ℕ) → 0x10000 ≤ n → CountedSized n l → 5 ≤ l
counted-five n l h (inl t) = omega arith
counted-five n l h (inr (inl t)) = omega arith
counted-five n l h (inr (inr t)) = omega arith

counted-one : (n l : ℕ) → CountedSized n l → 1 ≤ l
counted-one n l (inl t) = omega arith
counted-one n l (inr (inl t)) = omega arith
counted-one n l (inr (inr t)) = omega arith

module _ (b c d : ℕ) (inside : b + 15 < 256) (low : c < 256) (high : d < 256) (n : ℕ) where
  counted-sized : (u : List ℕ) → Counted b c d n u → Bytes u → CountedSized n (length u)
  counted-sized u (inl h) k = inl (fix_one b 15 n u h)
  counted-sized u (inr (inl h)) k = inr (inl (form-room c 2 n u h k))
  counted-sized u (inr (inr h)) k = inr (inr (form-room d 4 n u h k))

  counted-fix : n < 0x10 → Shortest (Counted b c d n) ((b + n) ∷ [])
  counted-fix h = record {
    one = inl (omega arith, refl);
    bytes = (omega arith, tt);
    least = λ u a k. counted-one n (length u) (counted-sized u a k);
  }

  counted-form-2 : 0x10 ≤ n → n < 0x10000 → Shortest (Counted b c d n) (c ∷ wide 2 n)
  counted-form-2 h l = record {
    one = inr (inl (form_of c 2 n l));
    bytes = (low, wide-bytes 2 n);
    least = λ u a k. rw (wide-length 2 n) (counted-three n (length u) h (counted-sized u a k));
  }

  counted-form-4 : 0x10000 ≤ n → n < 0x100000000 → Shortest (Counted b c d n) (d ∷ wide 4 n)
  counted-form-4 h l = record {
    one = inr (inr (form_of d 4 n l));
    bytes = (high, wide-bytes 4 n);
    least = λ u a k. rw (wide-length 4 n) (counted-five n (length u) h (counted-sized u a k));
  }

  counted : n < 0x100000000
      → Shortest (Counted b c d n) (cond (ltb n 0x10) ((b + n) ∷ []) (cond (ltb n 0x10000) (c ∷ wide 2 n) (d ∷ wide 4 n)))
  counted h =
      split (ltb n 0x10) (λ t. rw t (counted-fix (ltb-true n 0x10 t)))
      (λ t. split (ltb n 0x10000)
      (λ p. rw (t, p) (counted-form-2 (ltb-false n 0x10 t) (ltb-true n 0x10000 p)))
      (λ p. rw (t, p) (counted-form-4 (ltb-false n 0x10000 p) h)))

pub shortest-array : (n : ℕ) → n < 0x100000000 → Shortest (ArrayHead n) (pack_array n)
unfolding pack_array
shortest-array n h = counted 0x90 0xdc 0xdd (omega arith) (omega arith) (omega arith) n h

pub shortest-map : (n : ℕ) → n < 0x100000000 → Shortest (MapHead n) (pack_map n)
unfolding pack_map
shortest-map n h = counted 0x80 0xde 0xdf (omega arith) (omega arith) (omega arith) n h
