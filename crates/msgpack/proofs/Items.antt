-- What an array and a map hold: `times` and `pairs` of specs/MsgPack.antt read exactly the elements and pairs of specs/Grammar.antt, where each
-- value is read as a text of a set. Assumes nothing.
use Rattle.std.specs.Prelude.{Some, Option}
use Prim.Native.Nat.{ℕ, zero, suc, ◌+◌, ◌-◌, ◌≤◌}
use mathlib.Core.List.{List, [], ◌∷◌, ◌++◌, append_assoc}
use mathlib.Core.Bool.{true, false}
use mathlib.Core.Path.{◌≡◌, refl, sym, ap, subst, ◌∙◌}
use native.Mathlib.Nat.{add-zero}
use native.Mathlib.Omega.{arith}
use lib.ListN.{length, take, drop, length-append, length-drop, take-append-drop}
use lib.Seq.{length-take-le, take_at}
use lib.Dec.{eqb, leb}
use borrow.Author.Tests.{eqb-true, eqb-false, leb-true, le-leb}
use Rattle.seq.specs.Lists.{All, Pairs, joined}
use Rattle.seq.specs.Bytes.{part, among}
use Rattle.seq.proofs.Logic.{split, clash}
use Rattle.seq.proofs.Bytes.{among-here, among_there}
use Rattle.utf8.specs.Utf8.{well_formed}
use Rattle.lex.specs.Grammar.{Language, Is}
use Rattle.lex.proofs.Stands.{Reads, stands-next, reads_then, reads_as, reads_none, to_same, to-bad, and-then}
use Rattle.json_text.proofs.Items.{reads-own, reads-part}
use Rattle.msgpack.specs.declared.Head.{Head}
use Rattle.msgpack.specs.Head.{str, head_at}
use Rattle.msgpack.specs.MsgPack.{bytes, text, times, with_key, again, pairs}
use Rattle.msgpack.specs.Grammar.{Any, Str, StrHead, Pair, IsPair, Apart, both}
use Rattle.msgpack.proofs.Rows.{told, str-head-is}

-- ---- n bytes
pub bytes-found : (s : List ℕ) (a n e : ℕ) → bytes s a n ≡ Some e → Reads (Any n) s a e
unfolding bytes
bytes-found s a n e h = split (leb (a + n) (length s)) fits (λ t. to-bad (rw t at h) refl)
  where
    fits : leb (a + n) (length s) ≡ true → Reads (Any n) s a e
    fits t =
        let l = leb-true (a + n) (length s) t in
        let w : length (take n (drop a s)) ≡ n = length-take-le n (drop a s) (omega (arith, length-drop a s)) in
        record {
          text = take n (drop a s);
          rest = drop n (drop a s);
          stands = sym (take-append-drop n (drop a s));
          ends = sym (to_same refl (rw t at h)) ∙ rw w;
          good = w;
        }

pub bytes-is : (s : List ℕ) (a : ℕ) (u r : List ℕ) → a ≤ length s → drop a s ≡ u ++ r → bytes s a (length u) ≡ Some (a + length u)
unfolding bytes
bytes-is s a u r l h = rw (le-leb (a + length u) (length s) (omega (arith, sym (length-drop a s) ∙ ap length h ∙ length-append u r)))

pub text-found : (s : List ℕ) (a n e : ℕ) → text s a n ≡ Some e → (well_formed (part a (a + n) s) ≡ true) × (bytes s a n ≡ Some e)
unfolding text
text-found s a n e h = split (well_formed (part a (a + n) s)) (λ t. (t, rw t at h)) (λ t. to-bad (rw t at h) refl)

pub text-stands : (s : List ℕ) (a : ℕ) (u r : List ℕ) → a ≤ length s → drop a s ≡ u ++ r → well_formed u ≡ true → text s a (length u) ≡ Some (a + length u)
unfolding text
text-stands s a u r l h g =
    let q : part a (a + length u) s ≡ u = rw h (take_at u r (a + length u - a) (omega arith)) in
    rw (q, g) (bytes-is s a u r l h)

-- two texts that stand one after the other
joint : (s : List ℕ) (x y : List ℕ) (i m e : ℕ) → Reads (Is x) s i m → Reads (Is y) s m e → part i e s ≡ x ++ y
joint s x y i m e a b =
    let w = reads_then s i m e a b in
    let (p, q, r, ep, eq) = w.good in
    reads-part w ∙ r ∙ rw (ep, eq)

-- ---- a str that is a key: its bytes are those from behind its head on
module _ (s : List ℕ) (a : ℕ) (t r : List ℕ) (h : drop a s ≡ t ++ r) where
  pub str-told : (u : List ℕ) → Str u t → ((head_at s a).kind ≡ str) × (part (head_at s a).end (a + length t) s ≡ u)
  str-told u (b, v, e, g, q) =
      let whole : t ≡ b ++ u = e ∙ ap (λ (x : List ℕ). b ++ x) q in
      let st : drop a s ≡ b ++ (u ++ r) = h ∙ ap (λ (x : List ℕ). x ++ r) whole ∙ append_assoc b u r in
      let hd = str-head-is s a b (u ++ r) st (length u) g in
      let n : length u ≡ a + length t - (a + length b) = omega (arith, ap length whole ∙ length-append b u) in (
        ap (λ (x : Head). x.kind) hd,
        rw (hd, stands-next s a b (u ++ r) st) (take_at u r (a + length t - (a + length b)) n),
      )

  pub str-read : (e : ℕ) → e ≡ a + length t → (head_at s a).kind ≡ str → text s (head_at s a).end (head_at s a).n ≡ Some e
      → Str (part (head_at s a).end e s) t
  str-read e ee k x =
      let w = told s a (λ z. omega (arith, k, z)) in
      let y = bytes-found s _ _ e (text-found s _ _ e x).1 in
      let own : Reads (Is t) s a e = record { text = t; rest = r; stands = h; ends = ee; good = refl } in
      let first : Reads (Is w.bytes) s a (head_at s a).end =
      record { text = w.bytes; rest = w.rest; stands = w.stands; ends = w.ends; good = refl } in
      let p : part (head_at s a).end e s ≡ y.text = reads-part y in (
        w.bytes,
        part (head_at s a).end e s,
        sym (reads-part own) ∙ joint s w.bytes y.text a _ e first (reads-own y) ∙ ap (λ (x : List ℕ). w.bytes ++ x) (sym p),
        subst (λ (n : ℕ). StrHead n w.bytes) (sym (ap length p ∙ y.good)) (w.text k),
        refl,
      )

-- ---- values one after the other, of which each is of A
module _ (A : Language) (item : ℕ → Option ℕ) (s : List ℕ) where
  abbrev Times : ℕ → Language
  Times n t = (es : List (List ℕ)) × (length es ≡ n) × All A es × (t ≡ joined (λ (e : List ℕ). e) es)

  abbrev New : List (List ℕ) → Pair → Type 0
  New seen p = (u : List ℕ) → Str u p.key → among u seen ≡ false

  abbrev PairsOf : List (List ℕ) → ℕ → Language
  PairsOf seen n t = (ps : List Pair) × (length ps ≡ n) × All (IsPair A) ps × Pairs Apart ps × All (New seen) ps × (t ≡ joined both ps)

  module _ (found : (i e : ℕ) → item i ≡ Some e → Reads A s i e) where
    pub times-found : (n a e : ℕ) → times item n a ≡ Some e → Reads (Times n) s a e
    unfolding times
    times-found zero a e h = reads_none s a e (to_same refl h) ([], refl, tt, refl)
    times-found (suc n) a e h =
        let (m, p, q) = and-then (item a) _ e h in
        let x = reads_then s a m e (found a m p) (times-found n m e q) in
        reads_as s a e (λ t (b, c, et, gb, (es, l, gs, ec)). (b ∷ es, ap suc l, (gb, gs), et ∙ ap (λ (y : List ℕ). b ++ y) ec)) x

    -- the key at a, up to k, and the keys behind it
    module _ (a k : ℕ) (seen : List (List ℕ)) (x : Reads A s a k) where
      str-here : (u : List ℕ) → Str u x.text → ((head_at s a).kind ≡ str) × (part (head_at s a).end k s ≡ u)
      str-here u g =
          let (kind, p) = str-told s a x.text x.rest x.stands u g in
          (kind, ap (λ (e : ℕ). part (head_at s a).end e s) x.ends ∙ p)

      key-new : again s (head_at s a) k seen ≡ false → (u : List ℕ) → Str u x.text → among u seen ≡ false
      unfolding again
      key-new f u g = let (kind, p) = str-here u g in sym (ap (λ (v : List ℕ). among v seen) p) ∙ rw kind at f ∙ refl

      keys-behind : (v : List ℕ) (ps : List Pair) → All (New (with_key s (head_at s a) k seen)) ps
          → All (Apart (record { key = x.text; value = v })) ps × All (New seen) ps
      unfolding with_key
      keys-behind v [] g = (tt, tt)
      keys-behind v (p ∷ ps) g =
          let (apart, new) = keys-behind v ps g.1 in
          split (eqb (head_at s a).kind str)
          (λ t.
          let here : (u : List ℕ) → Str u p.key → among u (part (head_at s a).end k s ∷ seen) ≡ false = rw t at g.0 in
          let other : (u : List ℕ) → Str u p.key → part (head_at s a).end k s ≡ u → ⊥ = λ u q e. clash (among-here u _ seen e) (here u q) in (
            (λ u q q'. other u q' (str-here u q).1, apart),
            (λ u q. sym (among_there u _ seen (other u q)) ∙ here u q, new),
          ))
          (λ t.
          let here : (u : List ℕ) → Str u p.key → among u seen ≡ false = rw t at g.0 in
          ((λ u q q'. eqb-false (head_at s a).kind str t (str-here u q).0, apart), (here, new)))

    pub pairs-found : (n : ℕ) (seen : List (List ℕ)) (a e : ℕ) → pairs item s seen n a ≡ Some e → Reads (PairsOf seen n) s a e
    unfolding pairs
    pairs-found zero seen a e h = reads_none s a e (to_same refl h) ([], refl, tt, tt, tt, refl)
    pairs-found (suc n) seen a e h =
        let (k, p, q) = and-then (item a) _ e h in
        split (again s (head_at s a) k seen) (λ t. to-bad (rw t at q) refl) λ t.
        let (v, p', q') = and-then (item k) _ e (rw t at q) in
        let x = found a k p in
        let y = found k v p' in
        let z = pairs-found n (with_key s (head_at s a) k seen) v e q' in
        let w = reads_then s a k e (reads-own x) (reads_then s k v e (reads-own y) z) in
        reads_as s a e (λ u (b, c, eu, eb, (b', c', ec, eb', (ps, l, gs, apart, news, ez))).
        let (apart', news') = keys-behind a k seen x y.text ps news in (
          record { key = x.text; value = y.text } ∷ ps,
          ap suc l,
          ((x.good, y.good), gs),
          (apart', apart),
          (key-new a k seen x t, news'),
          eu ∙ rw (eb, ec, eb', ez) (sym (append_assoc x.text y.text (joined both ps))),
        )) w

  module _ (is : (i : ℕ) (t r : List ℕ) → drop i s ≡ t ++ r → A t → item i ≡ Some (i + length t)) where
    pub times-is : (es : List (List ℕ)) (a : ℕ) (r : List ℕ) → drop a s ≡ joined (λ (e : List ℕ). e) es ++ r → All A es
        → times item (length es) a ≡ Some (a + length (joined (λ (e : List ℕ). e) es))
    unfolding times
    times-is [] a r h g = ap Some (sym (add-zero a))
    times-is (t ∷ es) a r h g =
        let st : drop a s ≡ t ++ (joined (λ (e : List ℕ). e) es ++ r) = h ∙ append_assoc t (joined (λ (e : List ℕ). e) es) r in
        rw (is a t _ st g.0, times-is es (a + length t) r (stands-next s a t _ st) g.1) (
        ap Some (let q = length-append t (joined (λ (e : List ℕ). e) es) in omega arith)
        )

    -- a str that the reader took ends where its text does
    module _ (texts : (a e : ℕ) → item a ≡ Some e → (head_at s a).kind ≡ str → text s (head_at s a).end (head_at s a).n ≡ Some e) where
      module _ (a : ℕ) (seen : List (List ℕ)) (p : Pair) (r : List ℕ) (st : drop a s ≡ p.key ++ r) (g : A p.key) where
        key-read : (head_at s a).kind ≡ str → Str (part (head_at s a).end (a + length p.key) s) p.key
        key-read k = str-read s a p.key r st (a + length p.key) refl k (texts a (a + length p.key) (is a p.key r st g) k)

        key-fresh : New seen p → again s (head_at s a) (a + length p.key) seen ≡ false
        unfolding again
        key-fresh new = split (eqb (head_at s a).kind str) (λ t. rw t (new _ (key-read (eqb-true (head_at s a).kind str t)))) (λ t. rw t)

        new-behind : (ps : List Pair) → All (Apart p) ps → All (New seen) ps → All (New (with_key s (head_at s a) (a + length p.key) seen)) ps
        unfolding with_key
        new-behind [] apart news = tt
        new-behind (q ∷ ps) apart news = (
          split (eqb (head_at s a).kind str)
              (λ t. rw t (λ u w.
              among_there u _ seen (λ e. apart.0 u (subst (λ (x : List ℕ). Str x p.key) e (key-read (eqb-true (head_at s a).kind str t))) w) ∙ news.0 u w))
              (λ t. rw t news.0),
          new-behind ps apart.1 news.1,
        )

      pub pairs_is : (ps : List Pair) (seen : List (List ℕ)) (a : ℕ) (r : List ℕ) → drop a s ≡ joined both ps ++ r → All (IsPair A) ps → Pairs Apart ps
          → All (New seen) ps → pairs item s seen (length ps) a ≡ Some (a + length (joined both ps))
      unfolding pairs
      pairs_is [] seen a r h g apart news = ap Some (sym (add-zero a))
      pairs_is (p ∷ ps) seen a r h g apart news =
          let more = joined both ps in
          let st : drop a s ≡ p.key ++ (p.value ++ (more ++ r)) =
          h ∙ append_assoc (both p) more r ∙ append_assoc p.key p.value (more ++ r) in
          let st' : drop (a + length p.key) s ≡ p.value ++ (more ++ r) = stands-next s a p.key _ st in
          rw (
            is a p.key _ st g.0.0,
            key-fresh a seen p _ st g.0.0 news.0,
            is (a + length p.key) p.value _ st' g.0.1,
            pairs_is ps (with_key s (head_at s a) (a + length p.key) seen) (a + length p.key + length p.value) r
                (stands-next s (a + length p.key) p.value _ st') g.1 apart.1 (new-behind a seen p _ st g.0.0 ps apart.0 news.1),
          ) (ap Some (let q = length-append (both p) more in let q' = length-append p.key p.value in omega arith))
