-- The members of a map that is an element of a message are the pairs that the format's own table gives. Assumes nothing.
-- `value-is`, `value_none`: the value found under a text is that of the pair whose key is a str of it, and nothing where there is none.
-- `map_of`, `value-in`, `none_in`: the same of a map that is a text of its own; each is one of some pairs. `member-found`, `member-none`: of one of any
-- length.
use Rattle.std.specs.Prelude.{Some, None}
use Prim.Native.Nat.{ℕ, ◌+◌, ◌-◌, ◌≤◌}
use mathlib.Core.List.{List, [], ◌∷◌, ◌++◌, append_assoc, append-nil}
use mathlib.Core.Bool.{true, false}
use mathlib.Core.Logic.{inl, inr, ◌↔◌}
use mathlib.Core.Path.{◌≡◌, refl, sym, ap, subst, ◌∙◌}
use native.Mathlib.Omega.{arith}
use lib.ListN.{length, drop}
use lib.Seq.{take_at}
use lib.Dec.{eqb}
use borrow.Author.Tests.{le-leb, eqb-true}
use Rattle.seq.specs.Bytes.{part, text_of}
use Rattle.seq.specs.Lists.{All, Pairs, In, joined}
use Rattle.seq.proofs.Logic.{split}
use Rattle.seq.proofs.Rules.{all_in}
use Rattle.seq.proofs.Bytes.{same_refl, same-ne}
use Rattle.lex.proofs.Stands.{stands-next}
use Rattle.json_text.specs.Json.{max_bytes}
use Rattle.msgpack.specs.Head.{str, head_at}
use Rattle.msgpack.specs.MsgPack.{text, value}
use Rattle.msgpack.specs.Grammar.{Str, Pair, IsPair, Apart, Map, Value, both}
use Rattle.msgpack.proofs.Laws.{head-str, value-flat}
use Rattle.msgpack.proofs.Rows.{map-head-is}
use Rattle.msgpack.proofs.Items.{str-told, str-read}
use Rattle.msgpack.proofs.Grammar.{value-is as value-ends}
use Rattle.members.specs.Members.{pair, blank}
use Rattle.maps.specs.Maps.{pairs, members_in, members_at, is_key, value_of, member_in, value_in}
use Rattle.maps.specs.Grammar.{MapOf}

-- ---- a key at place a, with r behind it
module _ (s key : List ℕ) (a : ℕ) (k r : List ℕ) (st : drop a s ≡ k ++ r) (v : Value 6 k) where
  key-text : (head_at s a).kind ≡ str → text s (head_at s a).end (head_at s a).n ≡ Some (a + length k)
  key-text q =
      head-str (λ n e. None) (λ n e. None) s (head_at s a) q ∙ value-flat 6 s a (head_at s a) refl (λ z. omega (arith, q)) (λ z. omega (arith, q))
      ∙ value-ends 6 s a k r st v

  key-is : (x y : ℕ) → Str key k → is_key s key (pair a (a + length k) x y) ≡ true
  unfolding is_key
  key-is x y g = let (q, p) = str-told s a k r st key g in rw (q, p) (same_refl key)

  key-not : (x y : ℕ) → ¬ Str key k → is_key s key (pair a (a + length k) x y) ≡ false
  unfolding is_key
  key-not x y n =
      split (eqb (head_at s a).kind str)
      (λ t.
      let q = eqb-true (head_at s a).kind str t in
      let g = str-read s a k r st (a + length k) refl q (key-text q) in
      rw t (same-ne (part (head_at s a).end (a + length k) s) key (λ e. n (subst (λ (u : List ℕ). Str u k) e g))))
      (λ t. rw t)

-- ---- the search through the pairs ps from place a on
module _ (s key : List ℕ) where
  -- the first of them: its key, its value, and what stands behind it
  module _ (a : ℕ) (p : Pair) (ps : List Pair) (r : List ℕ) (st : drop a s ≡ joined both (p ∷ ps) ++ r) (g : IsPair (Value 6) p) where
    abbrev mid : ℕ
    mid = a + length p.key

    abbrev past : ℕ
    past = a + length p.key + length p.value

    key-stands : drop a s ≡ p.key ++ (p.value ++ (joined both ps ++ r))
    key-stands = st ∙ append_assoc (both p) (joined both ps) r ∙ append_assoc p.key p.value (joined both ps ++ r)

    value-stands : drop mid s ≡ p.value ++ (joined both ps ++ r)
    value-stands = stands-next s a p.key _ key-stands

    rest-stands : drop past s ≡ joined both ps ++ r
    rest-stands = stands-next s mid p.value _ value-stands

    pairs_first : pairs (value 6 s) (length (p ∷ ps)) a ≡ pair a mid mid past ∷ pairs (value 6 s) (length ps) past
    unfolding pairs
    pairs_first = rw (value-ends 6 s a p.key _ key-stands g.0, value-ends 6 s mid p.value _ value-stands g.1)

    value-hit : Str key p.key → text_of s (value_of s key (pairs (value 6 s) (length (p ∷ ps)) a)) ≡ p.value
    unfolding value_of
    value-hit h =
        rw (pairs_first, key-is s key a p.key _ key-stands g.0 mid past h, value-stands)
        (take_at p.value (joined both ps ++ r) (past - mid) (omega arith))

    value-goes : ¬ Str key p.key
        → value_of s key (pairs (value 6 s) (length (p ∷ ps)) a) ≡ value_of s key (pairs (value 6 s) (length ps) past)
    unfolding value_of
    value-goes n = rw (pairs_first, key-not s key a p.key _ key-stands g.0 mid past n)

  looked-up : (ps : List Pair) (a : ℕ) (r : List ℕ) → drop a s ≡ joined both ps ++ r → All (IsPair (Value 6)) ps → Pairs Apart ps → (p : Pair) → In p ps
      → Str key p.key → text_of s (value_of s key (pairs (value 6 s) (length ps) a)) ≡ p.value
  looked-up [] a r st gs apart p i h = absurd i
  looked-up (q ∷ ps) a r st gs apart p (inl e) h =
      value-hit a q ps r st gs.0 (subst (λ (x : Pair). Str key x.key) e h) ∙ ap (λ (x : Pair). x.value) (sym e)
  looked-up (q ∷ ps) a r st gs apart p (inr i) h =
      let other : ¬ Str key q.key = λ g. all_in (Apart q) ps p apart.0 i key g h in
      rw (value-goes a q ps r st gs.0 other) (looked-up ps (past a q ps r st gs.0) r (rest-stands a q ps r st gs.0) gs.1 apart.1 p i h)

  not_there : (ps : List Pair) (a : ℕ) (r : List ℕ) → drop a s ≡ joined both ps ++ r → All (IsPair (Value 6)) ps
      → ((p : Pair) → In p ps → ¬ Str key p.key) → value_of s key (pairs (value 6 s) (length ps) a) ≡ blank
  unfolding pairs value_of
  not_there [] a r st gs n = refl
  not_there (q ∷ ps) a r st gs n =
      value-goes a q ps r st gs.0 (n q (inl refl))
      ∙ not_there ps (past a q ps r st gs.0) r (rest-stands a q ps r st gs.0) gs.1 (λ p i. n p (inr i))

-- ---- a map t of the pairs ps, which stands in s at i
module _ (s : List ℕ) (i : ℕ) (t r : List ℕ) (ps : List Pair) (st : drop i s ≡ t ++ r) (m : MapOf ps t) where
  -- the place behind its head
  inside : (limit : ℕ) → length s ≤ limit → (a : ℕ) × (members_in limit s i ≡ pairs (value 6 s) (length ps) a) × (drop a s ≡ joined both ps ++ r)
  inside limit l =
      let (gs, apart, (a, u, e, g, q)) = m in
      let whole : t ≡ a ++ joined both ps = e ∙ ap (λ (x : List ℕ). a ++ x) q in
      let there : drop i s ≡ a ++ (joined both ps ++ r) = st ∙ ap (λ (x : List ℕ). x ++ r) whole ∙ append_assoc a (joined both ps) r in
      let h = map-head-is s i a (joined both ps ++ r) there (length ps) g in
      (i + length a, rw (le-leb (length s) limit l, h), stands-next s i a (joined both ps ++ r) there)

  pub is-in : (limit : ℕ) → length s ≤ limit → (key : List ℕ) (p : Pair) → In p ps → Str key p.key
      → text_of s (value_of s key (members_in limit s i)) ≡ p.value
  is-in limit l key p k h =
      let (a, q, d) = inside limit l in
      rw q (looked-up s key ps a r d m.0 m.1 p k h)

  pub not_in : (limit : ℕ) → length s ≤ limit → (key : List ℕ) → ((p : Pair) → In p ps → ¬ Str key p.key)
      → text_of s (value_of s key (members_in limit s i)) ≡ []
  not_in limit l key n =
      let (a, q, d) = inside limit l in
      rw (q, not_there s key ps a r d m.0 n)

module _ (s : List ℕ) (i : ℕ) (t r : List ℕ) (ps : List Pair) (l : length s ≤ 2048) (st : drop i s ≡ t ++ r) (m : MapOf ps t) where
  pub value-is : (key : List ℕ) (p : Pair) → In p ps → Str key p.key → text_of s (value_of s key (members_at s i)) ≡ p.value
  unfolding members_at
  value-is = is-in s i t r ps st m max_bytes l

  pub value_none : (key : List ℕ) → ((p : Pair) → In p ps → ¬ Str key p.key) → text_of s (value_of s key (members_at s i)) ≡ []
  unfolding members_at
  value_none = not_in s i t r ps st m max_bytes l

-- ---- a map that a text is, of so many bytes at most
module _ (limit : ℕ) (t : List ℕ) (ps : List Pair) (l : length t ≤ limit) (m : MapOf ps t) where
  pub member-found : (key : List ℕ) (p : Pair) → In p ps → Str key p.key → member_in limit key t ≡ p.value
  unfolding member_in
  member-found = is-in t 0 t [] ps (sym (append-nil t)) m limit l

  pub member-none : (key : List ℕ) → ((p : Pair) → In p ps → ¬ Str key p.key) → member_in limit key t ≡ []
  unfolding member_in
  member-none = not_in t 0 t [] ps (sym (append-nil t)) m limit l

pub map_of : (t : List ℕ) → Map (Value 6) t ↔ ((ps : List Pair) × MapOf ps t)
map_of t = (λ (ps, gs, apart, g). (ps, (gs, apart, g)), λ (ps, (gs, apart, g)). (ps, gs, apart, g))

module _ (t : List ℕ) (ps : List Pair) (l : length t ≤ 2048) (m : MapOf ps t) where
  pub value-in : (key : List ℕ) (p : Pair) → In p ps → Str key p.key → value_in key t ≡ p.value
  unfolding value_in
  value-in = value-is t 0 t [] ps l (sym (append-nil t)) m

  pub none_in : (key : List ℕ) → ((p : Pair) → In p ps → ¬ Str key p.key) → value_in key t ≡ []
  unfolding value_in
  none_in = value_none t 0 t [] ps l (sym (append-nil t)) m
