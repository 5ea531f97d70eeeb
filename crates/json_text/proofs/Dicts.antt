-- A dict's members: `braced` of specs/Json.antt reads exactly the dicts of specs/Grammar.antt, where each value is read as a text of a set.
-- Assumes nothing.
use Rattle.std.specs.Prelude.{Some, Option}
use Prim.Native.Nat.{ℕ, zero, suc, ◌+◌, ◌<◌}
use mathlib.Core.List.{List, [], ◌∷◌, ◌++◌, map, append_assoc}
use mathlib.Core.Bool.{false}
use mathlib.Core.Logic.{⊎_elim}
use mathlib.Core.Path.{◌≡◌, refl, sym, ap, subst, ◌∙◌}
use native.Mathlib.Omega.{arith}
use lib.ListN.{length, drop, length-append, length-map}
use Rattle.seq.specs.Lists.{All, Pairs}
use Rattle.seq.specs.Bytes.{byte_at, among}
use Rattle.seq.proofs.Logic.{split, clash}
use Rattle.seq.proofs.Bytes.{among-here, among_there}
use Rattle.seq.proofs.Rules.{all_true}
use Rattle.strings.specs.Strings.{undone, meant}
use Rattle.lex.specs.declared.Mark.TheVariants.{Item, End}
use Rattle.lex.specs.Lex.{quoted, first, next, colon}
use Rattle.lex.specs.Grammar.{Language, Is, ◌·◌, Ws, String}
use Rattle.lex.proofs.Stands.{reads_then, to-bad, and-then}
use Rattle.lex.proofs.Tokens.{string-head, Ends, Reads, stands-next, quoted-found, quoted-is, colon-is, colon-went}
use Rattle.json_text.specs.Json.{follow, key_from, members, braced}
use Rattle.json_text.specs.Grammar.{Rest, Member, IsMember, Object}
use Rattle.json_text.proofs.Items.{reads-with, reads-own, stands-inner, reads-meant, stands-short, Begins, begins-space}
use Rattle.json_text.proofs.Items.{brace, parted, last_found, next-found, none_found, first_found, rest-length, rest-ends, last-is, next-is, none_is, first-is}
use Rattle.json_text.proofs.Lists.{follow-to}

-- ---- a dict's members, of which each has a value of A
module _ (A : Language) (inner : ℕ → Option ℕ) (s : List ℕ) where
  abbrev Apart : Member → Member → Type 0
  Apart m n = ¬ (meant m.key ≡ meant n.key)

  abbrev New : List (List ℕ) → Member → Type 0
  New seen m = among (meant m.key) seen ≡ false

  abbrev texts : List Member → List (List ℕ)
  texts ms = map (λ m. m.text) ms

  -- the members from the first one's first byte on, with keys that are none of those seen
  abbrev Members : List (List ℕ) → Language
  Members seen u =
      (m : Member) × (ms : List Member) × All (IsMember A) (m ∷ ms) × Pairs Apart (m ∷ ms) × All (New seen) (m ∷ ms)
      × (Is m.text · Rest "}" (texts ms)) u

  -- a key's text that is none of those seen and not the one before
  new_apart : (key : List ℕ) (seen : List (List ℕ)) (ms : List Member) → All (New (key ∷ seen)) ms
      → All (λ m. ¬ (key ≡ meant m.key)) ms × All (New seen) ms
  new_apart key seen [] h = (tt, tt)
  new_apart key seen (m ∷ ms) h =
      let r = new_apart key seen ms h.1 in
      let n : ¬ (key ≡ meant m.key) = λ e. clash (among-here (meant m.key) key seen e) h.0 in
      ((n, r.0), (sym (among_there (meant m.key) key seen n) ∙ h.0, r.1))

  apart-new : (key : List ℕ) (seen : List (List ℕ)) (ms : List Member) → All (λ m. ¬ (key ≡ meant m.key)) ms → All (New seen) ms
      → All (New (key ∷ seen)) ms
  apart-new key seen [] h k = tt
  apart-new key seen (m ∷ ms) h k = (among_there (meant m.key) key seen h.0 ∙ k.0, apart-new key seen ms h.1 k.1)

  -- a member and the closing byte; a member and those after the comma
  module _ (seen : List (List ℕ)) (a z e : ℕ) (key : List ℕ) (new : among key seen ≡ false) (m : Member) (p : key ≡ meant m.key)
      (good : IsMember A m) (x : Reads (Is m.text) s a z) where
    member-last : next 125 s z ≡ End e → Reads (Members seen) s a e
    member-last h = let u = reads_then s a z e x (last_found brace s z e h) in reads-with u (m, [], (good, tt), (tt, tt), (rw p at new, tt), u.good)

    member-next : (b : ℕ) → next 125 s z ≡ Item b → Reads (Members (key ∷ seen)) s b e → Reads (Members seen) s a e
    member-next b h y =
        let (m', ms, goods, apart, news, c) = y.good in
        let (apart', news') = new_apart (meant m.key) seen (m' ∷ ms) (subst (λ (k : List ℕ). All (New (k ∷ seen)) (m' ∷ ms)) p news) in
        let u = reads_then s a z e x (next-found brace s z b e m'.text (texts ms) h (reads-with y c)) in
        reads-with u (m, m' ∷ ms, (good, goods), (apart', apart), (rw p at new, news'), u.good)

  module _ (found : (i e : ℕ) → inner i ≡ Some e → Reads A s i e) where
    -- one member, whose key ends at k
    member-found : (a k v z : ℕ) → quoted s a ≡ Some k → colon s k ≡ Some v → inner v ≡ Some z
        → (m : Member) × (key_from s a k ≡ meant m.key) × IsMember A m × Reads (Is m.text) s a z
    member-found a k v z hk hv hz =
        let x = quoted-found s a k hk in
        let y = found v z hz in
        let (w, w', r, p, g, g', q) = colon-went s k v hv in
        let l = reads_then s a k z (reads-own x) (parted ":" s k v z w w' r p g g' q (reads-own y)) in
        (record { key = x.text; value = y.text; text = l.text }, reads-meant x, (x.good, y.good, l.good), reads-own l)

    members-found : (f : ℕ) (seen : List (List ℕ)) (a e : ℕ) → members inner seen f s a ≡ Some e → Reads (Members seen) s a e
    unfolding members
    members-found zero seen a e h = to-bad h refl
    members-found (suc f) seen a e h =
        let (k, hk, h1) = and-then (quoted s a) _ e h in
        split (among (key_from s a k) seen) (λ t. to-bad (rw t at h1) refl) λ new.
        let (v, hv, h2) = and-then (colon s k) _ e (rw new at h1) in
        let (z, hz, h3) = and-then (inner v) _ e h2 in
        let (m, p, good, x) = member-found a k v z hk hv hz in
        ⊎_elim
        (member-last seen a z e (key_from s a k) new m p good x)
        (λ (b, n, g). member-next seen a z e (key_from s a k) new m p good x b n (members-found f (key_from s a k ∷ seen) b e g))
        (follow-to (next 125 s z) _ e h3)

    pub dict-found : (i e : ℕ) → byte_at s i ≡ 123 → braced inner s (i + 1) ≡ Some e → Reads (λ t. (ms : List Member) × Object A ms t) s i e
    unfolding braced
    dict-found i e b h = ⊎_elim none (λ (a, n, g). some a n (members-found (length s) [] a e g)) (follow-to (first 125 s (i + 1)) _ e h)
      where
        none : first 125 s (i + 1) ≡ End e → Reads (λ t. (ms : List Member) × Object A ms t) s i e
        none n = let y = none_found brace s "{" (omega arith) i b e n in reads-with y ([], record { each = tt; apart = tt; whole = y.good })

        some : (a : ℕ) → first 125 s (i + 1) ≡ Item a → Reads (Members []) s a e → Reads (λ t. (ms : List Member) × Object A ms t) s i e
        some a n z =
            let (m, ms, goods, apart, news, c) = z.good in
            let y = first_found brace s "{" (omega arith) i b a e m.text (texts ms) n (reads-with z c) in
            reads-with y (m ∷ ms, record { each = goods; apart = apart; whole = y.good })

  module _ (begins : (t : List ℕ) → A t → Begins t) (is : (i : ℕ) (t r : List ℕ) → drop i s ≡ t ++ r → A t → Ends r → inner i ≡ Some (i + length t)) where
    -- a key's quote starts a member
    member-begins : (m : Member) → IsMember A m → Begins m.text
    member-begins m (g, g', (k, y, e, q, c)) =
        let (u, p) = string-head m.key g in
        (34, u ++ y, e ∙ ap (λ (l : List ℕ). l ++ y) (q ∙ p), refl, λ z. omega arith, λ z. omega arith, λ z. omega arith, λ z. omega arith)

    -- one member, and what follows it
    member_is : (key w w' v r : List ℕ) (seen : List (List ℕ)) (f a : ℕ) → drop a s ≡ key ++ (w ++ (58 ∷ (w' ++ (v ++ r)))) → String key → Ws w → Ws w'
        → A v → Ends r → among (meant key) seen ≡ false
        → members inner seen (suc f) s a ≡ follow (next 125 s (a + length key + length w + 1 + length w' + length v)) (members inner (meant key ∷ seen) f s)
    unfolding members
    member_is key w w' v r seen f a h g gw gw' gv end new = rw (
      quoted-is s a key (w ++ (58 ∷ (w' ++ (v ++ r)))) h g,
      mine,
      new,
      colon-is s (a + length key) w w' (v ++ r) after gw gw' (begins-space v r (begins v gv)),
      is (a + length key + length w + 1 + length w') v r there gv end,
    )
      where
        mine : key_from s a (a + length key) ≡ meant key
        mine = ap (λ (u : List ℕ). undone u) (stands-inner s a (a + length key) key (w ++ (58 ∷ (w' ++ (v ++ r)))) h refl)

        after : drop (a + length key) s ≡ w ++ (58 ∷ (w' ++ (v ++ r)))
        after = stands-next s a key (w ++ (58 ∷ (w' ++ (v ++ r)))) h

        there : drop (a + length key + length w + 1 + length w') s ≡ v ++ r
        there = stands-next s (a + length key + length w + 1) w' (v ++ r)
            (stands-next s (a + length key + length w) (58 ∷ []) (w' ++ (v ++ r))
            (stands-next s (a + length key) w (58 ∷ (w' ++ (v ++ r))) after))

    member-goes : (m : Member) (seen : List (List ℕ)) (f a : ℕ) (r : List ℕ) → drop a s ≡ m.text ++ r → IsMember A m → New seen m → Ends r
        → members inner seen (suc f) s a ≡ follow (next 125 s (a + length m.text)) (members inner (meant m.key ∷ seen) f s)
    member-goes m seen f a r h (g, g', (k, y, e, q, (w, y1, e1, gw, (c, y2, e2, qc, (w', v, e3, gw', q'))))) new end =
        member_is m.key w w' m.value r seen f a (h ∙ ap (λ (l : List ℕ). l ++ r) all ∙ apart) g gw gw' g' end new
        ∙ ap (λ (n : ℕ). follow (next 125 s n) (members inner (meant m.key ∷ seen) f s)) (sym long)
      where
        all : m.text ≡ m.key ++ (w ++ (58 ∷ (w' ++ m.value)))
        all = e ∙ rw (q, e1, e2, qc, e3, q')

        apart : (m.key ++ (w ++ (58 ∷ (w' ++ m.value)))) ++ r ≡ m.key ++ (w ++ (58 ∷ (w' ++ (m.value ++ r))))
        apart = rw (append_assoc m.key (w ++ (58 ∷ (w' ++ m.value))) r, append_assoc w (58 ∷ (w' ++ m.value)) r, append_assoc w' m.value r)

        long : a + length m.text ≡ a + length m.key + length w + 1 + length w' + length m.value
        long = rw
            (all, length-append m.key (w ++ (58 ∷ (w' ++ m.value))), length-append w (58 ∷ (w' ++ m.value)), length-append w' m.value)
            (omega arith)

    members-is : (ms : List Member) (m : Member) (seen : List (List ℕ)) (f a : ℕ) (u r : List ℕ) → drop a s ≡ u ++ r → All (IsMember A) (m ∷ ms)
        → Pairs Apart (m ∷ ms) → All (New seen) (m ∷ ms) → (Is m.text · Rest "}" (texts ms)) u → length ms < f
        → members inner seen f s a ≡ Some (a + length u)
    members-is ms m seen zero a u r h gs ps ns c l = absurd (omega arith)
    members-is [] m seen (suc f) a u r h gs ps ns (x, y, e, q, c) l =
        member-goes m seen f a (y ++ r) whole gs.0 ns.0 (rest-ends brace [] y r c)
        ∙ rw (last-is brace s (a + length m.text) y r (stands-next s a m.text (y ++ r) whole) c)
        (ap Some (rw (e, q, length-append m.text y) (omega arith)))
      where
        whole : drop a s ≡ m.text ++ (y ++ r)
        whole = h ∙ rw (e, q, append_assoc m.text y r)
    members-is (m' ∷ ms) m seen (suc f) a u r h gs ps ns (x, y, e, q, c) l =
        member-goes m seen f a (y ++ r) whole gs.0 ns.0 (rest-ends brace (texts (m' ∷ ms)) y r c)
        ∙ rw more.2 (members-is ms m' (meant m.key ∷ seen) f more.0 more.1 r more.3 gs.1 ps.1
        (apart-new (meant m.key) seen (m' ∷ ms) ps.0 ns.1) more.4 (omega arith))
        ∙ ap Some (sym (long ∙ more.5))
      where
        whole : drop a s ≡ m.text ++ (y ++ r)
        whole = h ∙ rw (e, q, append_assoc m.text y r)

        long : a + length u ≡ a + length m.text + length y
        long = rw (e, q, length-append m.text y) (omega arith)

        more : (b : ℕ) × (z : List ℕ) × (next 125 s (a + length m.text) ≡ Item b) × (drop b s ≡ z ++ r) × (Is m'.text · Rest "}" (texts ms)) z
            × (a + length m.text + length y ≡ b + length z)
        more = next-is brace s (a + length m.text) y r (stands-next s a m.text (y ++ r) whole) m'.text (texts ms)
            (member-begins m' gs.1.0) c

    pub dict-is : (ms : List Member) (i : ℕ) (t r : List ℕ) → drop i s ≡ t ++ r → Object A ms t → braced inner s (i + 1) ≡ Some (i + length t)
    unfolding braced among
    dict-is [] i t r h o = rw (none_is brace s i t r h "{" o.whole)
    dict-is (m ∷ ms) i t r h o =
        let b = member-begins m o.each.0 in
        let (a, u, p, q, k, n) = first-is brace s i t r h "{" m.text (texts ms) b b.5 o.whole in
        let z = rest-length brace (texts ms) k.1 k.4 in
        let w = stands-short s a u r q in
        rw (
          p,
          members-is ms m [] (length s) a u r q o.each o.apart (all_true (New []) (λ x. refl) (m ∷ ms)) k
              (omega (arith, ap length k.2 ∙ length-append k.0 k.1, length-map ms (λ (m : Member). m.text))),
        ) (ap Some (sym n))
