-- The members of a dict that is an element of a message are those that the grammar of RFC 8259 gives. Assumes nothing.
-- `members-are`: where a dict stands in a text, its members' keys and values are found, all of them and in order; `are-in`: in texts of any length.
-- `option_is`, `option-none`: the value found under a text is that of the member whose key stands for it, and nothing where there is none.
-- `member-found`, `member-none`: the same of a text of any length that is a dict.
-- `keys-sound`: the keys pass exactly where no half of a surrogate pair stands alone in one.
use mathlib.Core.Path.{◌≡◌, refl, sym, ap, ap₂, subst, ◌∙◌}
use mathlib.Core.Bool.{Bool, true, false, not}
use mathlib.Core.Logic.{inl, inr, ◌↔◌}
use Prim.Native.Nat.{ℕ, zero, suc, ◌+◌, ◌-◌, ◌≤◌, ◌<◌}
use mathlib.Core.List.{List, [], ◌∷◌, ◌++◌, map, append_assoc, append-nil}
use native.Mathlib.Omega.{arith}
use lib.ListN.{length, drop, length-append, length-map}
use lib.Seq.{take_at}
use Rattle.seq.specs.Bytes.{part, text_of}
use Rattle.seq.specs.Lists.{every, All, Pairs, In}
use Rattle.seq.proofs.Logic.{and_left, and_right, not_is}
use Rattle.seq.proofs.Rules.{all_in}
use Rattle.seq.proofs.Bytes.{same_refl, same-ne}
use Rattle.strings.specs.Strings.{has_lone, inner, meant}
use Rattle.lex.specs.declared.Mark.TheVariants.{Item}
use Rattle.lex.specs.Lex.{close_dict, first, next}
use Rattle.lex.specs.Grammar.{Is, ◌·◌}
use Rattle.lex.proofs.Stands.{stands-byte}
use Rattle.lex.proofs.Tokens.{Ends, stands-next, quoted-is, colon-is}
use Rattle.json_text.specs.Json.{max_bytes, value}
use Rattle.json_text.specs.Grammar.{Rest, Enclosed, Member, IsMember, Object, Value}
use Rattle.json_text.proofs.Items.{stands-inner, stands-short, Begins, begins-space, brace, rest-length, rest-ends, last-is, next-is, none_is, first-is}
use Rattle.json_text.proofs.Grammar.{value-is, value-head}
use Rattle.members.specs.Members.{Pair, member_of, member_at, pairs, members_in, members_at, key_in, value_of, sound_keys, member_in, blank}
use Rattle.members.proofs.Laws.{member_is, members-in, pairs_end}

-- what stands between the keys' quotes, and the values, of these pairs are those of these members
abbrev pub Holds : List ℕ → List Pair → List Member → Type 0
Holds s ps ms =
    (map (λ p. key_in s p) ps ≡ map (λ m. inner m.key) ms)
    × (map (λ p. text_of s p.value) ps ≡ map (λ m. m.value) ms)

abbrev texts : List Member → List (List ℕ)
texts ms = map (λ m. m.text) ms

-- a member's text starts with its key's quote, a dict's with its brace
member-begins : (m : Member) → IsMember (Value 6) m → Begins m.text
member-begins m ((a, b, p, q, g), v, (k, y, e, r, c)) =
    (34, b ++ y, rw (e, r, p, q), refl, λ z. omega arith, λ z. omega arith, λ z. omega arith, λ z. omega arith)

dict-head : (es : List (List ℕ)) (t : List ℕ) → Enclosed "{" "}" es t → (u : List ℕ) × (t ≡ 123 ∷ u)
dict-head [] t h = (h.1, rw (h.2, h.3))
dict-head (e ∷ es) t h = (h.1, rw (h.2, h.3))

-- ---- all members are found
-- the member m at place k, with x behind it
one-is : (s : List ℕ) (k : ℕ) (m : Member) (x : List ℕ) → IsMember (Value 6) m → drop k s ≡ m.text ++ x → Ends x
    → (q a e : ℕ) × (member_at (value 6 s) s k ≡ member_of q a e) × (part (k + 1) (q - 1) s ≡ inner m.key) × (part a e s ≡ m.value) × (e ≡ k + length m.text)
one-is s k m x (g, h, (k', y, e, p, (w, y₁, e₁, b, (c, y₂, e₂, p₂, (v, z, e₃, b₃, p₃))))) d n =
    let key = m.key in
    let val = m.value in
    let all : m.text ≡ key ++ (w ++ (58 ∷ (v ++ val))) = e ∙ rw (p, e₁, e₂, p₂, e₃, p₃) in
    let r = w ++ (58 ∷ (v ++ (val ++ x))) in
    let apart : (key ++ (w ++ (58 ∷ (v ++ val)))) ++ x ≡ key ++ r =
    rw (append_assoc key (w ++ (58 ∷ (v ++ val))) x, append_assoc w (58 ∷ (v ++ val)) x, append_assoc v val x) in
    let d₀ : drop k s ≡ key ++ r = d ∙ ap (λ (l : List ℕ). l ++ x) all ∙ apart in
    let q = k + length key in
    let d₁ = stands-next s k key r d₀ in
    let a = q + length w + 1 + length v in
    let d₂ = stands-next s (q + length w + 1) v (val ++ x)
    (stands-next s (q + length w) (58 ∷ []) (v ++ (val ++ x)) (stands-next s q w (58 ∷ (v ++ (val ++ x))) d₁)) in
    let o = colon-is s q w v (val ++ x) d₁ b b₃ (begins-space val x (value-head 6 val h)) in
    let long : a + length val ≡ k + length m.text =
    sym (ap (λ (l : List ℕ). k + length l) all ∙ rw (length-append key (w ++ (58 ∷ (v ++ val))), length-append w (58 ∷ (v ++ val)), length-append v val)
    (omega arith)) in (
      q,
      a,
      a + length val,
      member_is (value 6 s) s k q (quoted-is s k key r d₀ g) a o (a + length val) (value-is 6 s a val x d₂ h n),
      stands-inner s k q key r d₀ refl,
      rw d₂ (take_at val x (a + length val - a) (omega arith)),
      long,
    )

-- it is the first pair, and the others come from behind it
pairs-go : (s : List ℕ) (k : ℕ) (m : Member) (ms : List Member) (f : ℕ) (x : List ℕ) → IsMember (Value 6) m → drop k s ≡ m.text ++ x → Ends x
    → Holds s (pairs (value 6 s) f s (next close_dict s (k + length m.text))) ms → Holds s (pairs (value 6 s) (suc f) s (Item k)) (m ∷ ms)
unfolding pairs
pairs-go s k m ms f x g d n r =
    let (q, a, e, o, i, j, z) = one-is s k m x g d n in
    let (keys, values) = subst (λ (b : ℕ). Holds s (pairs (value 6 s) f s (next close_dict s b)) ms) (sym z) r in
    rw o (ap₂ ◌∷◌ i keys, ap₂ ◌∷◌ j values)

-- the member m at place k, the members ms after it, and x after the dict
pairs-are : (s : List ℕ) (ms : List Member) (m : Member) (f k : ℕ) (y x : List ℕ) → length ms < f → All (IsMember (Value 6)) (m ∷ ms)
    → drop k s ≡ y ++ x → (Is m.text · Rest "}" (texts ms)) y → Holds s (pairs (value 6 s) f s (Item k)) (m ∷ ms)
pairs-are s [] m zero k y x l gs h c = absurd (omega arith)
pairs-are s (n ∷ ms) m zero k y x l gs h c = absurd (omega arith)
pairs-are s [] m (suc f) k y x l gs h (t, u, p, q, c) =
    let z : drop k s ≡ m.text ++ (u ++ x) = h ∙ rw (p, q) (append_assoc m.text u x) in
    let w = last-is brace s (k + length m.text) u x (stands-next s k m.text (u ++ x) z) c in
    pairs-go s k m [] f (u ++ x) gs.0 z (rest-ends brace [] u x c) (rw (w, pairs_end (value 6 s) s f (k + length m.text + length u)) (refl, refl))
pairs-are s (n ∷ ms) m (suc f) k y x l gs h (t, u, p, q, c) =
    let z : drop k s ≡ m.text ++ (u ++ x) = h ∙ rw (p, q) (append_assoc m.text u x) in
    let d = stands-next s k m.text (u ++ x) z in
    let (b, v, w, h', c', i) = next-is brace s (k + length m.text) u x d n.text (texts ms) (member-begins n gs.1.0) c in
    pairs-go s k m (n ∷ ms) f (u ++ x) gs.0 z (rest-ends brace (texts (n ∷ ms)) u x c)
    (rw w (pairs-are s ms n f b v x (omega arith) gs.1 h' c'))

pub are-in : (limit : ℕ) (s : List ℕ) (i : ℕ) (t r : List ℕ) (ms : List Member) → length s ≤ limit → drop i s ≡ t ++ r → Object (Value 6) ms t
    → Holds s (members_in limit s i) ms
are-in limit s i t r ms l h o =
    let (u, p) = dict-head (texts ms) t o.whole in
    let b = stands-byte s i (123 ∷ (u ++ r)) (h ∙ ap (λ (x : List ℕ). x ++ r) p) in
    rw (members-in limit s i 123 (sym b) l refl) (go ms o.each o.whole)
  where
    go : (ms : List Member) → All (IsMember (Value 6)) ms → Enclosed "{" "}" (texts ms) t
        → Holds s (pairs (value 6 s) (length s) s (first close_dict s (i + 1))) ms
    go [] gs w = rw (none_is brace s i t r h "{" w, pairs_end (value 6 s) s (length s) (i + length t)) (refl, refl)
    go (m ∷ ms) gs w =
        let b = member-begins m gs.0 in
        let (k, y, q, h', c, n) = first-is brace s i t r h "{" m.text (texts ms) b b.5 w in
        let count = rest-length brace (texts ms) c.1 c.4 in
        let bytes = ap length c.2 ∙ length-append c.0 c.1 in
        let fuel : length ms < length s = omega (arith, count, bytes, stands-short s k y r h', length-map ms (λ (m : Member). m.text)) in
        rw q (pairs-are s ms m (length s) k y r fuel gs h' c)

pub members-are : (s : List ℕ) (i : ℕ) (t r : List ℕ) (ms : List Member) → length s ≤ 2048 → drop i s ≡ t ++ r → Object (Value 6) ms t
    → Holds s (members_at s i) ms
unfolding members_at
members-are s i t r ms l h o = are-in max_bytes s i t r ms l h o

-- ---- the value of a key
cons-first : {A : Type 0} {x y : A} {xs ys : List A} → x ∷ xs ≡ y ∷ ys → x ≡ y
cons-first h = cc

cons-rest : {A : Type 0} {x y : A} {xs ys : List A} → x ∷ xs ≡ y ∷ ys → xs ≡ ys
cons-rest h = cc

no-cons : {A B : Type 0} {x : B} {xs : List B} → [] ≡ x ∷ xs → A
no-cons h = let z : ◌≡◌ {A = ℕ} 0 1 = cc in absurd (omega arith)

module _ (s : List ℕ) where
  abbrev Keys : List Pair → List Member → Type 0
  Keys ps ms = map (λ p. key_in s p) ps ≡ map (λ m. inner m.key) ms

  looked-up : (ps : List Pair) (ms : List Member) → Holds s ps ms → Pairs (λ m n. ¬ (meant m.key ≡ meant n.key)) ms → (m : Member) → In m ms
      → text_of s (value_of s (meant m.key) ps) ≡ m.value
  unfolding value_of
  looked-up [] [] h a m i = absurd i
  looked-up [] (n ∷ ms) h a m i = no-cons h.0
  looked-up (p ∷ ps) [] h a m i = absurd i
  looked-up (p ∷ ps) (n ∷ ms) h a m (inl e) = rw (cons-first h.0, e, same_refl (meant n.key)) (cons-first h.1)
  looked-up (p ∷ ps) (n ∷ ms) h a m (inr i) =
      let d : ¬ (meant n.key ≡ meant m.key) = all_in (λ (x : Member). ¬ (meant n.key ≡ meant x.key)) ms m a.0 i in
      rw (cons-first h.0, same-ne (meant n.key) (meant m.key) d) (looked-up ps ms (cons-rest h.0, cons-rest h.1) a.1 m i)

  not_there : (key : List ℕ) (ps : List Pair) (ms : List Member) → Keys ps ms → ((m : Member) → In m ms → ¬ (meant m.key ≡ key))
      → value_of s key ps ≡ blank
  unfolding value_of
  not_there key [] [] h n = refl
  not_there key [] (m ∷ ms) h n = refl
  not_there key (p ∷ ps) [] h n = no-cons (sym h)
  not_there key (p ∷ ps) (m ∷ ms) h n =
      rw (cons-first h, same-ne (meant m.key) key (n m (inl refl))) (not_there key ps ms (cons-rest h) (λ x i. n x (inr i)))

  sound-all : (ps : List Pair) (ms : List Member) → Keys ps ms → sound_keys s ps ≡ true → All (λ m. has_lone (inner m.key) ≡ false) ms
  unfolding every
  sound-all ps [] h g = tt
  sound-all [] (m ∷ ms) h g = no-cons h
  sound-all (p ∷ ps) (m ∷ ms) h g =
      let good : Bool = not (has_lone (key_in s p)) in (
        rw (cons-first h) at (not_is (has_lone (key_in s p)) (and_left good (sound_keys s ps) g)),
        sound-all ps ms (cons-rest h) (and_right good (sound_keys s ps) g),
      )

  all_sound : (ps : List Pair) (ms : List Member) → Keys ps ms → All (λ m. has_lone (inner m.key) ≡ false) ms → sound_keys s ps ≡ true
  unfolding every
  all_sound [] ms h g = refl
  all_sound (p ∷ ps) [] h g = no-cons (sym h)
  all_sound (p ∷ ps) (m ∷ ms) h g = rw (cons-first h, g.0) (all_sound ps ms (cons-rest h) g.1)

-- a text of so many bytes at most that is a dict
module _ (limit : ℕ) (t : List ℕ) (ms : List Member) (l : length t ≤ limit) (o : Object (Value 6) ms t) where
  pub member-found : (key : List ℕ) (m : Member) → In m ms → meant m.key ≡ key → member_in limit key t ≡ m.value
  unfolding member_in
  member-found key m k e =
      rw (sym e) (looked-up t (members_in limit t 0) ms (are-in limit t 0 t [] ms l (sym (append-nil t)) o) o.apart m k)

  pub member-none : (key : List ℕ) → ((m : Member) → In m ms → ¬ (meant m.key ≡ key)) → member_in limit key t ≡ []
  unfolding member_in
  member-none key n = rw (not_there t key (members_in limit t 0) ms (are-in limit t 0 t [] ms l (sym (append-nil t)) o).0 n)

-- a dict t that stands in s at i
module _ (s : List ℕ) (i : ℕ) (t r : List ℕ) (ms : List Member) (l : length s ≤ 2048) (h : drop i s ≡ t ++ r) (o : Object (Value 6) ms t) where
  pub option_is : (key : List ℕ) (m : Member) → In m ms → meant m.key ≡ key → text_of s (value_of s key (members_at s i)) ≡ m.value
  option_is key m k e = rw (sym e) (looked-up s (members_at s i) ms (members-are s i t r ms l h o) o.apart m k)

  pub option-none : (key : List ℕ) → ((m : Member) → In m ms → ¬ (meant m.key ≡ key)) → text_of s (value_of s key (members_at s i)) ≡ []
  option-none key n = rw (not_there s key (members_at s i) ms (members-are s i t r ms l h o).0 n)

  pub keys-sound : sound_keys s (members_at s i) ≡ true ↔ All (λ m. has_lone (inner m.key) ≡ false) ms
  keys-sound = let keys = (members-are s i t r ms l h o).0 in (sound-all s (members_at s i) ms keys, all_sound s (members_at s i) ms keys)
