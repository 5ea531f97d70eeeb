-- UTF-8 put together: texts one after the other, ASCII, what stands for a text between quotes, and lists and dicts of JSON. Assumes nothing.
use Prim.Native.Nat.{ℕ, ◌/◌, ◌%◌, ◌≤◌, ◌<◌}
use mathlib.Core.Bool.{true}
use mathlib.Core.List.{List, [], ◌∷◌, ◌++◌, append-nil}
use mathlib.Core.Logic.{inl}
use mathlib.Core.Path.{◌≡◌, refl, sym, ap, ap₂, ◌∙◌}
use native.Mathlib.Decide.{dec_lt}
use native.Mathlib.Omega.{arith}
use borrow.Author.Tests.{lt-ltb, le-ltb, ne_eqb, ltb-true}
use lib.Dec.{ltb}
use Rattle.seq.specs.Bytes.{is_digit}
use Rattle.seq.specs.Lists.{All, joined}
use Rattle.seq.specs.Decimal.{decimal}
use Rattle.seq.proofs.Bytes.{digit-bounds}
use Rattle.seq.proofs.Joined.{joined-append}
use Rattle.seq.proofs.Logic.{split, cond-case}
use Rattle.seq.proofs.Rules.{all_map, all_append, every-all}
use Rattle.utf8.specs.Utf8.{is_ascii}
use Rattle.utf8.specs.Table.{Scalar, encoding, Encoded}
use Rattle.utf8.proofs.Table.{utf8-table}
use Rattle.strings.specs.Strings.{is_marked}
use Rattle.values.specs.Value.{Member, GoodMember}
use Rattle.values.specs.Write.{hex_digit, spelled, quoted_text, commaed, separated, json_member, json_list, json_dict}
use Rattle.values.proofs.Numbers.{decimal-all}

pub encoded-append : (a b : List ℕ) → Encoded a → Encoded b → Encoded (a ++ b)
encoded-append a b (cs, p, e) (ds, q, h) = (cs ++ ds, all_append Scalar cs ds p q, ap₂ ◌++◌ e h ∙ sym (joined-append encoding cs ds))

pub encoded-joined : {A : Type 0} (f : A → List ℕ) (xs : List A) → All (λ x. Encoded (f x)) xs → Encoded (joined f xs)
encoded-joined f [] g = ([], tt, refl)
encoded-joined f (x ∷ xs) g = encoded-append (f x) (joined f xs) g.0 (encoded-joined f xs g.1)

-- ---- ASCII
abbrev pub Ascii : ℕ → Type 0
Ascii b = b < 0x80

one_byte : (b : ℕ) → b < 0x80 → encoding b ≡ b ∷ []
unfolding encoding
one_byte b h = rw (lt-ltb b 0x80 h)

ascii-same : (t : List ℕ) → All Ascii t → t ≡ joined encoding t
ascii-same [] a = refl
ascii-same (b ∷ t) a = rw (one_byte b a.0) (ap (λ (u : List ℕ). b ∷ u) (ascii-same t a.1))

pub ascii-encoded : (t : List ℕ) → All Ascii t → Encoded t
ascii-encoded t a = (t, all_map Ascii Scalar (λ b h. inl (omega arith)) t a, ascii-same t a)

pub tested : (t : List ℕ) → is_ascii t ≡ true → Encoded t
tested t e = ascii-encoded t (all_map (λ b. ltb b 0x80 ≡ true) Ascii (λ b h. ltb-true b 0x80 h) t (every-all (λ b. ltb b 0x80) t e))

pub decimal-encoded : (n : ℕ) → Encoded (decimal n)
decimal-encoded n =
    ascii-encoded (decimal n) (all_map (λ b. is_digit b ≡ true) Ascii (λ b h. let d = (digit-bounds b h).1 in omega arith) (decimal n) (decimal-all n))

-- ---- between quotes
hex-ascii : (n : ℕ) → n < 16 → Ascii (hex_digit n)
unfolding hex_digit
hex-ascii n h = split (ltb n 10) (λ t. let l = ltb-true n 10 t in rw t (omega arith)) (λ t. rw t (omega arith))

spelled-ascii : (b : ℕ) → b < 0x80 → All Ascii (spelled b)
unfolding spelled
spelled-ascii b h =
    cond-case (All Ascii) (is_marked b) _ _ (λ t. (omega arith, (h, tt)))
    (λ t. cond-case (All Ascii) (ltb b 0x20) _ _
    (λ u.
    let l = ltb-true b 0x20 u in
    (omega arith, (omega arith, (omega arith, (omega arith, (hex-ascii (b / 16) (omega arith), (hex-ascii (b % 16) (omega arith), tt)))))))
    (λ u. (h, tt)))

-- a byte that is no ASCII stands for itself
abbrev High : ℕ → Type 0
High b = 0x80 ≤ b

spelled-high : (b : ℕ) → 0x80 ≤ b → spelled b ≡ b ∷ []
unfolding spelled
spelled-high b h = rw (ne_eqb b 34 (λ e. omega arith), ne_eqb b 92 (λ e. omega arith), le-ltb b 0x20 (omega arith))

all-high : (t : List ℕ) → All High t → joined spelled t ≡ t
all-high [] a = refl
all-high (b ∷ t) a = rw (spelled-high b a.0) (ap (λ (u : List ℕ). b ∷ u) (all-high t a.1))

encoding-high : (c : ℕ) → 0x80 ≤ c → All High (encoding c)
unfolding encoding
encoding-high c h =
    rw (le-ltb c 0x80 h)
    (cond-case (All High) (ltb c 0x800) _ _ (λ t. (omega arith, (omega arith, tt)))
    (λ t. cond-case (All High) (ltb c 0x10000) _ _ (λ u. (omega arith, (omega arith, (omega arith, tt))))
    (λ u. (omega arith, (omega arith, (omega arith, (omega arith, tt)))))))

character-encoded : (c : ℕ) → Scalar c → Encoded (joined spelled (encoding c))
character-encoded c s = elim (dec_lt c 0x80) [
  | yes l ↦ rw (one_byte c l, append-nil (spelled c)) (ascii-encoded (spelled c) (spelled-ascii c l))
  | no l ↦ rw (all-high (encoding c) (encoding-high c (omega arith))) (c ∷ [], (s, tt), sym (append-nil (encoding c)))
]

characters-encoded : (cs : List ℕ) → All Scalar cs → Encoded (joined spelled (joined encoding cs))
characters-encoded [] a = ([], tt, refl)
characters-encoded (c ∷ cs) a =
    rw (joined-append spelled (encoding c) (joined encoding cs))
    (encoded-append (joined spelled (encoding c)) (joined spelled (joined encoding cs)) (character-encoded c a.0) (characters-encoded cs a.1))

pub quoted-encoded : (t : List ℕ) → Encoded t → Encoded (quoted_text t)
unfolding quoted_text
quoted-encoded t (cs, a, e) =
    let quote : Encoded (34 ∷ []) = ascii-encoded (34 ∷ []) (omega arith, tt) in
    let inside : Encoded (joined spelled t) = rw e (characters-encoded cs a) in
    encoded-append (34 ∷ []) (joined spelled t ++ (34 ∷ [])) quote (encoded-append (joined spelled t) (34 ∷ []) inside quote)

-- ---- lists and dicts, whose items are UTF-8
sign-encoded : (b : ℕ) → b < 0x80 → Encoded (b ∷ [])
sign-encoded b l = ascii-encoded (b ∷ []) (l, tt)

module _ {A : Type 0} (f : A → List ℕ) where
  commaed-encoded : (xs : List A) → All (λ x. Encoded (f x)) xs → Encoded (commaed f xs)
  unfolding commaed
  commaed-encoded [] a = ascii-encoded [] tt
  commaed-encoded (x ∷ xs) a =
      encoded-append (44 ∷ []) (f x ++ commaed f xs) (sign-encoded 44 (omega arith))
      (encoded-append (f x) (commaed f xs) a.0 (commaed-encoded xs a.1))

  separated-encoded : (xs : List A) → All (λ x. Encoded (f x)) xs → Encoded (separated f xs)
  unfolding separated
  separated-encoded [] a = ascii-encoded [] tt
  separated-encoded (x ∷ xs) a = encoded-append (f x) (commaed f xs) a.0 (commaed-encoded xs a.1)

  -- between two signs
  enclosed-encoded : (b c : ℕ) → b < 0x80 → c < 0x80 → (xs : List A) → All (λ x. Encoded (f x)) xs → Encoded (b ∷ separated f xs ++ (c ∷ []))
  enclosed-encoded b c l m xs a =
      encoded-append (b ∷ []) (separated f xs ++ (c ∷ [])) (sign-encoded b l)
      (encoded-append (separated f xs) (c ∷ []) (separated-encoded xs a) (sign-encoded c m))

  pub list-encoded : (xs : List A) → All (λ x. Encoded (f x)) xs → Encoded (json_list f xs)
  list-encoded xs a = enclosed-encoded 91 93 (omega arith) (omega arith) xs a

module _ {A : Type 0} (f : A → List ℕ) where
  member-encoded : (m : Member A) → GoodMember (λ v. Encoded (f v)) m → Encoded (json_member f m)
  unfolding json_member
  member-encoded m g =
      encoded-append (quoted_text m.key) (58 ∷ f m.value) (quoted-encoded m.key ((utf8-table m.key).0 g.key.utf8))
      (encoded-append (58 ∷ []) (f m.value) (sign-encoded 58 (omega arith)) g.value)

  pub dict-encoded : (ms : List (Member A)) → All (GoodMember (λ v. Encoded (f v))) ms → Encoded (json_dict f ms)
  dict-encoded ms a =
      enclosed-encoded (json_member f) 123 125 (omega arith) (omega arith) ms
      (all_map (GoodMember (λ v. Encoded (f v))) (λ m. Encoded (json_member f m)) member-encoded ms a)
