-- The items of a list or dict, with commas between them, where they stand in a text: `first` and `next` of lex give an item's place exactly where
-- specs/Grammar.antt has one. Both ways, one item at a time. Assumes nothing.
use Prim.Native.Nat.{ℕ, suc, ◌+◌, ◌-◌, ◌≤◌, ◌<◌}
use Prim.Native.Char.{Char, code}
use mathlib.Core.List.{List, [], ◌∷◌, ◌++◌, append_assoc}
use mathlib.Core.Bool.{false}
use mathlib.Core.Logic.{inl, inr}
use mathlib.Core.Path.{◌≡◌, refl, sym, ap, ◌∙◌}
use native.Mathlib.Omega.{arith}
use lib.ListN.{length, drop, length-append, length-drop}
use lib.Seq.{drop-cons, take_at, take-append-le}
use Rattle.seq.specs.Lists.{All, joined}
use Rattle.seq.specs.Bytes.{byte_at, part}
use Rattle.seq.proofs.Bytes.{byte-in}
use Rattle.strings.specs.Strings.{undone, inner, meant}
use Rattle.lex.specs.declared.Mark.TheVariants.{Item, End}
use Rattle.lex.specs.Lex.{is_space, first, next}
use Rattle.lex.specs.Grammar.{Language, Is, Sign, OneOf, ◌·◌, Ws}
use Rattle.lex.proofs.Stands.{reads_then}
use Rattle.lex.proofs.Tokens.{NoSpace, Ends, Reads, stands-next, first-end, first-item, next-end, next-item, first_ended, first-went, next-ended, next-went}
use Rattle.json_text.specs.Json.{key_from}
use Rattle.json_text.specs.Grammar.{Rest, Enclosed}

-- ---- texts that stand in a text
pub reads_at : {A : Language} (s : List ℕ) (i : ℕ) (t r : List ℕ) → drop i s ≡ t ++ r → A t → Reads A s i (i + length t)
reads_at s i t r h g = record { text = t; rest = r; stands = h; ends = refl; good = g }

pub reads-with : {A B : Language} {s : List ℕ} {i e : ℕ} (x : Reads A s i e) → B x.text → Reads B s i e
reads-with x g = record { text = x.text; rest = x.rest; stands = x.stands; ends = x.ends; good = g }

pub reads-own : {A : Language} {s : List ℕ} {i e : ℕ} (x : Reads A s i e) → Reads (Is x.text) s i e
reads-own x = reads-with x refl

-- the bytes of a text that stands in s
pub reads-part : {A : Language} {s : List ℕ} {i e : ℕ} (x : Reads A s i e) → part i e s ≡ x.text
reads-part {A} {s} {i} {e} x = rw x.stands (take_at x.text x.rest (e - i) (let p = x.ends in omega arith))

-- what stands between the quotes of a string that stands in s
pub stands-inner : (s : List ℕ) (i e : ℕ) (t r : List ℕ) → drop i s ≡ t ++ r → e ≡ i + length t → part (i + 1) (e - 1) s ≡ inner t
stands-inner s i e [] r h q = let n : e - 1 - (i + 1) ≡ 0 = omega arith in rw n
stands-inner s i e (b ∷ t) r h q =
    let n : e - 1 - (i + 1) ≡ suc (length t) - 1 - 1 = omega arith in
    rw (stands-next s i (b ∷ []) (t ++ r) h, n) (take-append-le (suc (length t) - 1 - 1) t r (omega arith))

-- and what a string that was read there stands for
pub reads-meant : {A : Language} {s : List ℕ} {i e : ℕ} (x : Reads A s i e) → key_from s i e ≡ meant x.text
reads-meant {A} {s} {i} {e} x = ap (λ (u : List ℕ). undone u) (stands-inner s i e x.text x.rest x.stands x.ends)

-- no more stands from a place on than the text has
pub stands-short : (s : List ℕ) (i : ℕ) (t r : List ℕ) → drop i s ≡ t ++ r → length t ≤ length s
stands-short s i t r h = omega (arith, sym (length-drop i s) ∙ ap length h ∙ length-append t r)

-- white space ends a number
pub ws-ends : (w r : List ℕ) → Ws w → Ends r → Ends (w ++ r)
ws-ends w r (ts, g, e) h = go ts g e
  where
    one : (t x : List ℕ) → OneOf " \t\n\r" t → Ends (t ++ x ++ r)
    one t x (inl q) = rw q (refl, refl, refl, refl)
    one t x (inr (inl q)) = rw q (refl, refl, refl, refl)
    one t x (inr (inr (inl q))) = rw q (refl, refl, refl, refl)
    one t x (inr (inr (inr (inl q)))) = rw q (refl, refl, refl, refl)
    one t x (inr (inr (inr (inr z)))) = absurd z

    go : (ts : List (List ℕ)) → All (OneOf " \t\n\r") ts → w ≡ joined (λ (part : List ℕ). part) ts → Ends (w ++ r)
    go [] g e = rw e h
    go (t ∷ ts) g e = rw e (one t (joined (λ (part : List ℕ). part) ts) g.0)

-- ---- an item's first byte: no white space, and none of the bytes between items
abbrev pub Begins : List ℕ → Type 0
Begins t = (b : ℕ) × (u : List ℕ) × (t ≡ b ∷ u) × (is_space b ≡ false) × ¬ (b ≡ 93) × ¬ (b ≡ 125) × ¬ (b ≡ 44) × ¬ (b ≡ 58)

pub begins-space : (t r : List ℕ) → Begins t → NoSpace (t ++ r)
begins-space t r h = rw h.2 h.3

-- ---- a byte that closes a list or a dict
pub record Closing (c : Char) : Type 0 where
  pub byte : 0 < code c
  pub space : is_space (code c) ≡ false
  pub other : ¬ (code c ≡ 44)
  pub ends : (r : List ℕ) → Ends (code c ∷ r)

pub bracket : Closing "]"
bracket = record { byte = omega arith; space = refl; other = λ e. omega arith; ends = λ r. (refl, refl, refl, refl) }

pub brace : Closing "}"
brace = record { byte = omega arith; space = refl; other = λ e. omega arith; ends = λ r. (refl, refl, refl, refl) }

-- ---- an item found: a text of the items from there on makes one of the items from the comma, or from the opening byte, on
module _ (c : Char) (s : List ℕ) where
  closed : (i e : ℕ) (w r : List ℕ) → drop i s ≡ w ++ (code c ∷ r) → Ws w → e ≡ i + length w + 1 → Reads (Ws · Sign c) s i e
  closed i e w r h g he = reads_then s _ _ _ (reads_at s i w (code c ∷ r) h g)
      record { text = code c ∷ []; rest = r; stands = stands-next s i w (code c ∷ r) h; ends = he; good = refl }

  -- white space, a comma or colon, and white space before what stands there
  pub parted : {B : Language} (i a e : ℕ) (w v r : List ℕ) → drop i s ≡ w ++ (code c ∷ (v ++ r)) → Ws w → Ws v → a ≡ i + length w + 1 + length v
      → Reads B s a e → Reads (Ws · Sign c · Ws · B) s i e
  parted i a e w v r h g k ha x = reads_then s _ _ _ (reads_at s i w (code c ∷ (v ++ r)) h g) (reads_then s _ _ _ here (reads_then s _ _ _ there x))
    where
      after : drop (i + length w) s ≡ code c ∷ (v ++ r)
      after = stands-next s i w (code c ∷ (v ++ r)) h

      here : Reads (Sign c) s (i + length w) (i + length w + 1)
      here = reads_at s (i + length w) (code c ∷ []) (v ++ r) after refl

      there : Reads Ws s (i + length w + 1) a
      there = record { text = v; rest = r; stands = stands-next s (i + length w) (code c ∷ []) (v ++ r) after; ends = ha; good = k }

module _ {c : Char} (closing : Closing c) (s : List ℕ) where
  pub last_found : (i e : ℕ) → next (code c) s i ≡ End e → Reads (Rest c []) s i e
  last_found i e h = let (w, r, p, g, q) = next-ended (code c) s i e closing.byte h in closed c s i e w r p g q

  pub next-found : (i a e : ℕ) (t : List ℕ) (ts : List (List ℕ)) → next (code c) s i ≡ Item a → Reads (Is t · Rest c ts) s a e
      → Reads (Rest c (t ∷ ts)) s i e
  next-found i a e t ts h x = let (w, v, r, p, g, k, q) = next-went (code c) s i a h in parted "," s i a e w v r p g k q x

  module _ (o : Char) (some : 0 < code o) (i : ℕ) (h : byte_at s i ≡ code o) where
    opening : Reads (Sign o) s i (i + 1)
    opening = reads_at s i (code o ∷ []) (drop (suc i) s) (drop-cons s i 0 (byte-in s i (rw h some)) ∙ ap (λ b. b ∷ drop (suc i) s) h) refl

    pub none_found : (e : ℕ) → first (code c) s (i + 1) ≡ End e → Reads (Enclosed o c []) s i e
    none_found e f = let (w, r, p, g, q) = first_ended (code c) s (i + 1) e closing.byte f in reads_then s _ _ _ opening (closed c s (i + 1) e w r p g q)

    pub first_found : (a e : ℕ) (t : List ℕ) (ts : List (List ℕ)) → first (code c) s (i + 1) ≡ Item a → Reads (Is t · Rest c ts) s a e
        → Reads (Enclosed o c (t ∷ ts)) s i e
    first_found a e t ts f x = reads_then s _ _ _ opening (reads_then s _ _ _ (first-went (code c) s (i + 1) a f) x)

-- ---- and back
module _ {c : Char} (closing : Closing c) where
  -- each item that follows takes a byte, and the closing byte one more
  pub rest-length : (ts : List (List ℕ)) (t : List ℕ) → Rest c ts t → length ts < length t
  rest-length [] t (w, z, e, g, q) = rw (e, q, length-append w (code c ∷ [])) (omega arith)
  rest-length (x ∷ ts) t (w, y, e, g, (k, y', e', q, (v, u, e'', g', (x', z, e''', q', m)))) =
      let l : length ts < length z = rest-length ts z m in
      rw (e, length-append w y, e', length-append k y', q, e'', length-append v u, e''', length-append x' z) (omega arith)

  -- what follows an item does not go on with it
  pub rest-ends : (ts : List (List ℕ)) (t r : List ℕ) → Rest c ts t → Ends (t ++ r)
  rest-ends [] t r (w, z, e, g, q) = rw (e, q, append_assoc w (code c ∷ []) r) (ws-ends w (code c ∷ r) g (closing.ends r))
  rest-ends (x ∷ ts) t r (w, y, e, g, (k, u, e', q, m)) = rw (e, e', q, append_assoc w (44 ∷ u) r) (ws-ends w (44 ∷ (u ++ r)) g (refl, refl, refl, refl))

  module _ (s : List ℕ) (i : ℕ) (t r : List ℕ) (h : drop i s ≡ t ++ r) where
    pub last-is : Rest c [] t → next (code c) s i ≡ End (i + length t)
    last-is (w, z, e, g, q) =
        next-end (code c) s i w r closing.space (h ∙ rw (e, q, append_assoc w (code c ∷ []) r)) g
        ∙ ap End (rw (e, q, length-append w (code c ∷ [])) (omega arith))

    -- the next item, and where its text and the rest stand
    pub next-is : (x : List ℕ) (ts : List (List ℕ)) → Begins x → Rest c (x ∷ ts) t
        → (a : ℕ) × (u : List ℕ) × (next (code c) s i ≡ Item a) × (drop a s ≡ u ++ r) × (Is x · Rest c ts) u × (i + length t ≡ a + length u)
    next-is x ts b (w, y, e, g, (k, y', e', q, (v, u, e'', g', m))) = (
      i + length w + 1 + length v,
      u,
      next-item (code c) s i w v (u ++ r) closing.other whole g g' (rw (m.2, m.3, append_assoc) (begins-space x (m.1 ++ r) b)),
      stands-next s (i + length w + 1) v (u ++ r) (stands-next s (i + length w) (44 ∷ []) (v ++ (u ++ r)) (stands-next s i w (44 ∷ (v ++ (u ++ r))) whole)),
      m,
      rw (e, length-append w y, e', q, e'', length-append v u) (omega arith),
    )
      where
        whole : drop i s ≡ w ++ (44 ∷ (v ++ (u ++ r)))
        whole = h ∙ rw (e, e', q, e'', append_assoc w (44 ∷ (v ++ u)) r, append_assoc v u r)

    module _ (o : Char) where
      pub none_is : Enclosed o c [] t → first (code c) s (i + 1) ≡ End (i + length t)
      none_is (k, y, e, q, (w, z, e', g, q')) =
          first-end (code c) s (i + 1) w r closing.space
          (stands-next s i (code o ∷ []) (w ++ (code c ∷ r)) (h ∙ rw (e, q, e', q', append_assoc w (code c ∷ []) r))) g
          ∙ ap End (rw (e, q, e', q', length-append w (code c ∷ [])) (omega arith))

      pub first-is : (x : List ℕ) (ts : List (List ℕ)) → (b : Begins x) → ¬ (b.0 ≡ code c) → Enclosed o c (x ∷ ts) t
          → (a : ℕ) × (u : List ℕ) × (first (code c) s (i + 1) ≡ Item a) × (drop a s ≡ u ++ r) × (Is x · Rest c ts) u × (i + length t ≡ a + length u)
      first-is x ts b n (k, y, e, q, (w, u, e', g, m)) = (
        i + 1 + length w,
        u,
        first-item (code c) s (i + 1) w (u ++ r) after g (rw (m.2, m.3, append_assoc) (begins-space x (m.1 ++ r) b))
            (λ z. n (rw (m.2, m.3, b.2) at z)),
        stands-next s (i + 1) w (u ++ r) after,
        m,
        rw (e, q, e', length-append w u) (omega arith),
      )
        where
          after : drop (i + 1) s ≡ w ++ (u ++ r)
          after = stands-next s i (code o ∷ []) (w ++ (u ++ r)) (h ∙ rw (e, q, e', append_assoc w u r))
