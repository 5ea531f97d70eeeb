-- Laws of specs/Audience.antt and of what the code holds: an ID in a list, and one turn of the walk over a list's elements in either format.
-- Assumes nothing.
-- `lists-in`: a list's test for an ID passes exactly where the ID is one of its elements.
use Rattle.std.specs.Prelude.{Some, None, Option}
use Rattle.std.specs.List.{list_any}
use Prim.Native.Nat.{ℕ, zero, suc, ◌+◌, ◌-◌, ◌≤◌, ◌<◌}
use mathlib.Core.List.{List, [], ◌∷◌, ◌++◌, map, append_assoc, append-nil}
use mathlib.Core.Bool.{Bool, true, false, cond, ◌||◌}
use mathlib.Core.Logic.{◌↔◌, inl, inr}
use mathlib.Core.Path.{◌≡◌, refl, sym, ap, subst, ◌∙◌}
use native.Mathlib.Numerals.{add-one}
use native.Mathlib.Omega.{arith}
use borrow.Author.Tests.{eq-eqb, ne_eqb, eqb-true, le-leb, lt-leb}
use lib.Dec.{eqb, leb}
use lib.ListN.{length, take, drop, get_or, set, replicate, length-append, drop_of_length-le}
use lib.Seq.{drop-cons, take_at}
use Rattle.seq.specs.declared.Format.{Format}
use Rattle.seq.specs.declared.Format.TheVariants.{Json, MsgPack}
use Rattle.seq.specs.declared.Span.{Span}
use Rattle.seq.specs.Bytes.{byte_at}
use Rattle.seq.specs.Lists.{In, every}
use Rattle.seq.proofs.Lists.{every-snoc, every_front}
use Rattle.seq.proofs.Logic.{split, clash, or-given, or_right, and-false}
use Rattle.lex.specs.declared.Mark.{Mark}
use Rattle.lex.specs.declared.Mark.TheVariants.{Item, End, Neither}
use Rattle.lex.specs.Lex.{space, first, next, Marked}
use Rattle.json_text.specs.Json.{max_bytes, value}
use Rattle.json_text.proofs.Laws.{Fuel}
use Rattle.msgpack.specs.declared.Head.{Head}
use Rattle.msgpack.specs.Head.{array, head_at}
use Rattle.msgpack.specs.MsgPack.{value as packed}
use Rattle.elements.specs.Elements.{Items, Are, Not, after, span, on_to, on_mark, items, elements, whole, outer}
use Rattle.elements.proofs.Laws.{items-go, items-bad}
use Rattle.arrays.proofs.Laws.{spans-end, spans-bad, spans-go}
use Rattle.arrays.specs.Arrays.{spans, ended, outer as outer_array}
use Rattle.options.specs.Audience.{OptionValue, Wrong, Given, id_at, is_id, listed, ids_in, lists}
use Rattle.options.specs.Meaning.{ids_before, list_meant, no_ids, held_ids, pushed}
use Rattle.options.specs.declared.Ids.{Ids}

-- ---- an ID in a list
lists-found : (id : ℕ) (ns : List ℕ) → lists id ns ≡ true → In id ns
unfolding lists
lists-found id [] h = clash h refl
lists-found id (n ∷ ns) h =
    split (eqb n id) (λ t. inl (sym (eqb-true n id t))) (λ t. inr (lists-found id ns (or_right (eqb n id) (lists id ns) h t)))

lists-is : (id : ℕ) (ns : List ℕ) → In id ns → lists id ns ≡ true
unfolding lists
lists-is id [] i = absurd i
lists-is id (n ∷ ns) (inl e) = rw (eq-eqb n id (sym e))
lists-is id (n ∷ ns) (inr i) = or-given (eqb n id) (lists id ns) (λ t. lists-is id ns i)

pub lists-in : (id : ℕ) (ns : List ℕ) → (lists id ns ≡ true) ↔ In id ns
lists-in id ns = (lists-found id ns, lists-is id ns)

-- the test is that of `any`
pub lists-any : (id : ℕ) (ns : List ℕ) → list_any (λ n. eqb n id) ns ≡ lists id ns
unfolding lists
lists-any id [] = refl
lists-any id (n ∷ ns) = ap (λ (b : Bool). eqb n id || b) (lists-any id ns)

-- ---- what the code holds
made : {a b : ℕ} {u v : List ℕ} → a ≡ b → u ≡ v → ◌≡◌ {A = Ids} (record { count = a; ids = u }) (record { count = b; ids = v })
made p q = cc

set-zero : (ns : List ℕ) (n m : ℕ) → set (ns ++ replicate (suc m) 0) (length ns) n ≡ (ns ++ (n ∷ [])) ++ replicate m 0
set-zero [] n m = refl
set-zero (x ∷ ns) n m = ap (λ (l : List ℕ). x ∷ l) (set-zero ns n m)

held_more : (ns : List ℕ) (n : ℕ) → length ns < 8 → pushed (held_ids ns) n ≡ held_ids (ns ++ (n ∷ []))
held_more ns n h =
    let l : length (ns ++ (n ∷ [])) ≡ length ns + 1 = simp length-append in
    let m : 8 - length ns ≡ suc (8 - length (ns ++ (n ∷ []))) = omega arith in
    made (sym l) (rw m (set-zero ns n (8 - length (ns ++ (n ∷ [])))))

held-are : (ns : List ℕ) → ids_before (held_ids ns) ≡ ns
held-are ns = take_at ns (replicate (8 - length ns) 0) (length ns) refl

-- r holds these IDs
pub record Holds (r : Ids) (ns : List ℕ) : Type 0 where
  pub are : r ≡ held_ids ns
  pub count : length ns ≡ r.count
  pub ids : every is_id ns ≡ true

holds-none : (r : Ids) → r ≡ no_ids → Holds r []
unfolding every
holds-none r e = record { are = e; count = ap (λ (x : Ids). x.count) (sym e); ids = refl }

holds_more : (r q : Ids) (ns : List ℕ) (n : ℕ) → Holds r ns → r.count < 8 → (n ≡ 0 → ⊥) → q ≡ pushed r n → Holds q (ns ++ (n ∷ []))
holds_more r q ns n h l z e = record {
  are = e ∙ ap (λ (x : Ids). pushed x n) h.are ∙ held_more ns n (omega (arith, h.count));
  count = rw e (simp length-append (omega (arith, h.count)));
  ids = every-snoc is_id ns n h.ids ∙ rw (ne_eqb n 0 z);
}

-- ---- the IDs of the elements that are still to come, after those so far: f is the format, `done` says where nothing follows the list
module _ (f : Format) (v : List ℕ) (done : ℕ → Bool) where
  abbrev pub read : List ℕ → Items → OptionValue (List ℕ)
  read ns (Are ps e) = cond (done e) (listed (ns ++ map (id_at f v) ps)) Wrong
  read ns Not = Wrong

  read_more : (ns : List ℕ) (p : Span) (i : Items) → read ns (after (p ∷ []) i) ≡ read (ns ++ (id_at f v p ∷ [])) i
  read_more ns p (Are ps e) =
      ap (λ (l : List ℕ). cond (done e) (listed l) Wrong) (sym (append_assoc ns (id_at f v p ∷ []) (map (id_at f v) ps)))
  read_more ns p Not = refl

  read-wrong : (ns : List ℕ) (i : Items) → ((ms : List ℕ) → listed (ns ++ ms) ≡ Wrong) → read ns i ≡ Wrong
  read-wrong ns (Are ps e) h = split (done e) (λ t. rw t (h (map (id_at f v) ps))) (λ t. rw t)
  read-wrong ns Not h = refl

  -- more than 8
  read-many : (ns : List ℕ) (i : Items) → 8 < length ns → read ns i ≡ Wrong
  unfolding listed
  read-many ns i h = read-wrong ns i (λ ms. rw (lt-leb (length (ns ++ ms)) 8 (simp length-append (omega arith))))

  -- one that is no ID
  read-zero : (ns : List ℕ) (p : Span) (i : Items) → every is_id ns ≡ true → id_at f v p ≡ 0 → read ns (after (p ∷ []) i) ≡ Wrong
  unfolding listed
  read-zero ns p i h z =
      let b : every is_id (ns ++ (id_at f v p ∷ [])) ≡ false = every-snoc is_id ns (id_at f v p) h ∙ rw z in
      read_more ns p i
      ∙ read-wrong (ns ++ (id_at f v p ∷ [])) i
      (λ ms. rw (and-false (leb (length ((ns ++ (id_at f v p ∷ [])) ++ ms)) 8) (every is_id ((ns ++ (id_at f v p ∷ [])) ++ ms))
      (every_front is_id (ns ++ (id_at f v p ∷ [])) ms b)))

  -- the last one was read
  read-end : (r : Ids) (ns : List ℕ) (e : ℕ) → Holds r ns → r.count ≤ 8 → done e ≡ true → list_meant (Some r) ≡ read ns (Are [] e)
  unfolding listed
  read-end r ns e h l t =
      ap (λ (x : Ids). Given (ids_before x)) h.are ∙ ap Given (held-are ns)
      ∙ rw (t, append-nil ns, le-leb (length ns) 8 (omega (arith, h.count)), h.ids)

  read-trails : (ns : List ℕ) (e : ℕ) → done e ≡ false → read ns (Are [] e) ≡ Wrong
  read-trails ns e t = rw t

-- ---- JSON
-- only white space follows
abbrev pub spaced : List ℕ → ℕ → Bool
spaced v e = eqb (space v e) (length v)

read_whole : (v : List ℕ) (i : Items) → ids_in Json v (whole v i) ≡ read Json v (spaced v) [] i
read_whole v (Are ps e) = split (spaced v e) (λ t. rw t) (λ t. rw t)
read_whole v Not = refl

-- the walk: from the mark m on, with the IDs so far in r, the list's IDs are w
pub record Walk (v : List ℕ) (m : Mark) (r : Ids) (w : OptionValue (List ℕ)) : Type 0 where
  pub ns : List ℕ
  pub holds : Holds r ns
  pub limit : r.count ≤ 8
  pub fuel : ℕ
  pub rest : read Json v (spaced v) ns (on_mark m (items (value 7 v) fuel v)) ≡ w
  pub enough : Fuel fuel (length v) m

pub walk_begins : (v : List ℕ) (m : Mark) (r : Ids) (i : ℕ) → m ≡ first 93 v i → r ≡ no_ids
    → Walk v m r (ids_in Json v (whole v (elements 7 v i)))
unfolding elements
walk_begins v m r i e h = record {
  ns = [];
  holds = holds-none r h;
  limit = rw h (omega arith);
  fuel = length v;
  rest =
      ap (λ (x : Mark). read Json v (spaced v) [] (on_mark x (items (value 7 v) (length v) v))) e
      ∙ sym (read_whole v (on_mark (first 93 v i) (items (value 7 v) (length v) v)));
  enough = full m;
}
  where
    full : (x : Mark) → Fuel (length v) (length v) x
    full (Item a) = omega arith
    full (End e) = tt
    full Neither = tt

module _ (v : List ℕ) (m : Mark) (r : Ids) (w : OptionValue (List ℕ)) (k : Walk v m r w) where
  -- what is read from a mark on
  abbrev from-mark : Mark → OptionValue (List ℕ)
  from-mark x = read Json v (spaced v) k.ns (on_mark x (items (value 7 v) k.fuel v))

  at_mark : (x : Mark) → m ≡ x → w ≡ from-mark x
  at_mark x e = sym k.rest ∙ ap from-mark e

  pub walk-goes : (m' : Mark) (r' : Ids) (a e n : ℕ) → m ≡ Item a → value 7 v a ≡ Some e → (a < e) × (e ≤ length v) → n ≡ id_at Json v (span a e)
      → (n ≡ 0 → ⊥) → r.count < 8 → r' ≡ pushed r n → m' ≡ next 93 v e → Marked e (length v) m' → Walk v m' r' w
  walk-goes m' r' a e n h b i q z room p u j =
      let f : length v ≤ k.fuel + a = subst (λ (x : Mark). Fuel k.fuel (length v) x) h k.enough in
      let g = items-go (value 7 v) v k.fuel a e b i.0 i.1 f m' u j in
      let rest = on_mark m' (items (value 7 v) g.0 v) in
      record {
        ns = k.ns ++ (n ∷ []);
        holds = holds_more r r' k.ns n k.holds room z p;
        limit = rw p (omega arith);
        fuel = g.0;
        rest =
            ap (λ (x : ℕ). read Json v (spaced v) (k.ns ++ (x ∷ [])) rest) q
            ∙ sym (read_more Json v (spaced v) k.ns (span a e) rest)
            ∙ ap (read Json v (spaced v) k.ns) (sym g.1) ∙ sym (at_mark (Item a) h);
        enough = g.2;
      }

  -- an element that is no ID
  none-at : (f a e : ℕ) → value 7 v a ≡ Some e → id_at Json v (span a e) ≡ 0 → read Json v (spaced v) k.ns (items (value 7 v) f v a) ≡ Wrong
  unfolding items
  none-at zero a e b z = refl
  none-at (suc f) a e b z =
      rw b (read-zero Json v (spaced v) k.ns (span a e) (on_mark (next 93 v e) (items (value 7 v) f v)) k.holds.ids z)

  pub walk-stops : (a e n : ℕ) → m ≡ Item a → value 7 v a ≡ Some e → n ≡ id_at Json v (span a e) → n ≡ 0 → w ≡ Wrong
  walk-stops a e n h b q z = at_mark (Item a) h ∙ none-at k.fuel a e b (sym q ∙ z)

  pub walk_ends : (e : ℕ) → m ≡ End e → space v e ≡ length v → list_meant (Some r) ≡ w
  walk_ends e h z = read-end Json v (spaced v) r k.ns e k.holds k.limit (eq-eqb (space v e) (length v) z) ∙ sym (at_mark (End e) h)

  pub walk-trails : (e : ℕ) → m ≡ End e → (space v e ≡ length v → ⊥) → w ≡ Wrong
  walk-trails e h z = at_mark (End e) h ∙ read-trails Json v (spaced v) k.ns e (ne_eqb (space v e) (length v) z)

  pub walk-breaks : m ≡ Neither → w ≡ Wrong
  walk-breaks h = at_mark Neither h

  pub walk-fails : (a : ℕ) → m ≡ Item a → value 7 v a ≡ None → w ≡ Wrong
  walk-fails a h b = at_mark (Item a) h ∙ ap (read Json v (spaced v) k.ns) (items-bad (value 7 v) v k.fuel a b)

  -- a ninth
  over : (f a : ℕ) → 8 ≤ length k.ns → read Json v (spaced v) k.ns (items (value 7 v) f v a) ≡ Wrong
  unfolding items
  over zero a h = refl
  over (suc f) a h = go (value 7 v a)
    where
      go : (x : Option ℕ)
          → read Json v (spaced v) k.ns (on_to x (λ e. after (span a e ∷ []) (on_mark (next 93 v e) (items (value 7 v) f v)))) ≡ Wrong
      go (Some e) =
          let rest = on_mark (next 93 v e) (items (value 7 v) f v) in
          read_more Json v (spaced v) k.ns (span a e) rest
          ∙ read-many Json v (spaced v) (k.ns ++ (id_at Json v (span a e) ∷ [])) rest (simp length-append (omega arith))
      go None = refl

  pub walk-overflows : (a : ℕ) → m ≡ Item a → 8 ≤ r.count → w ≡ Wrong
  walk-overflows a h n = at_mark (Item a) h ∙ over k.fuel a (omega (arith, k.holds.count))

-- the whole value
pub list-long : (v : List ℕ) → max_bytes < length v → ids_in Json v (outer v) ≡ Wrong
unfolding outer
list-long v h = rw (lt-leb (length v) max_bytes h)

module _ (v : List ℕ) (a b : ℕ) (l : length v ≤ max_bytes) (ea : a ≡ space v 0) (eb : b ≡ byte_at v a) where
  pub list-not : (b ≡ 91 → ⊥) → ids_in Json v (outer v) ≡ Wrong
  unfolding outer
  list-not h = rw (le-leb (length v) max_bytes l, sym ea, sym eb, ne_eqb b 91 h)

  pub list-is : b ≡ 91 → ids_in Json v (outer v) ≡ ids_in Json v (whole v (elements 7 v (a + 1)))
  unfolding outer
  list-is h = rw (le-leb (length v) max_bytes l, sym ea, sym eb, h)

-- ---- MessagePack
-- nothing follows
abbrev pub last : List ℕ → ℕ → Bool
last v e = eqb e (length v)

read-ended : (v : List ℕ) (i : Items) → ids_in MsgPack v (ended v i) ≡ read MsgPack v (last v) [] i
read-ended v (Are ps e) = split (last v e) (λ t. rw t) (λ t. rw t)
read-ended v Not = refl

-- more elements than 8, with those so far
pub read-over : (v : List ℕ) (item : ℕ → Option ℕ) (n p : ℕ) (ns : List ℕ) → 8 < length ns + n
    → read MsgPack v (last v) ns (spans item n p) ≡ Wrong
unfolding spans
read-over v item zero p ns l = read-many MsgPack v (last v) ns (Are [] p) (omega arith)
read-over v item (suc n) p ns l = go (item p) (λ e ms. read-over v item n e ms)
  where
    go : (x : Option ℕ) → ((e : ℕ) (ms : List ℕ) → 8 < length ms + n → read MsgPack v (last v) ms (spans item n e) ≡ Wrong)
        → read MsgPack v (last v) ns (on_to x (λ e. after (span p e ∷ []) (spans item n e))) ≡ Wrong
    go (Some e) h =
        read_more MsgPack v (last v) ns (span p e) (spans item n e)
        ∙ h e (ns ++ (id_at MsgPack v (span p e) ∷ [])) (simp length-append (omega arith))
    go None h = refl

-- the walk: from place p on `left` elements are to come, with the IDs so far in r the array's IDs are w
pub record Steps (v : List ℕ) (p left : ℕ) (r : Ids) (w : OptionValue (List ℕ)) : Type 0 where
  pub ns : List ℕ
  pub holds : Holds r ns
  pub room : r.count + left ≤ 8
  pub rest : read MsgPack v (last v) ns (spans (packed 7 v) left p) ≡ w

pub steps-begin : (v : List ℕ) (p n : ℕ) (r : Ids) → r ≡ no_ids → n ≤ 8
    → Steps v p n r (ids_in MsgPack v (ended v (spans (packed 7 v) n p)))
steps-begin v p n r e l =
    record { ns = []; holds = holds-none r e; room = rw e (omega arith); rest = sym (read-ended v (spans (packed 7 v) n p)) }

module _ (v : List ℕ) (p left : ℕ) (r : Ids) (w : OptionValue (List ℕ)) (k : Steps v p left r w) where
  so_far : (i : Items) → spans (packed 7 v) left p ≡ i → w ≡ read MsgPack v (last v) k.ns i
  so_far i e = sym k.rest ∙ ap (read MsgPack v (last v) k.ns) e

  module _ (e n : ℕ) (l : 0 < left) (b : packed 7 v p ≡ Some e) (q : n ≡ id_at MsgPack v (span p e)) where
    one_more : w ≡ read MsgPack v (last v) k.ns (after (span p e ∷ []) (spans (packed 7 v) (left - 1) e))
    one_more = so_far _ (spans-go (packed 7 v) left p e l b)

    pub steps-go : (r' : Ids) → (n ≡ 0 → ⊥) → r' ≡ pushed r n → Steps v e (left - 1) r' w
    steps-go r' z u = record {
      ns = k.ns ++ (n ∷ []);
      holds = holds_more r r' k.ns n k.holds (omega (arith, k.room)) z u;
      room = rw u (omega (arith, k.room));
      rest =
          ap (λ (x : ℕ). read MsgPack v (last v) (k.ns ++ (x ∷ [])) (spans (packed 7 v) (left - 1) e)) q
          ∙ sym (read_more MsgPack v (last v) k.ns (span p e) (spans (packed 7 v) (left - 1) e)) ∙ sym one_more;
    }

    -- an element that is no ID
    pub steps-stop : n ≡ 0 → w ≡ Wrong
    steps-stop z =
        one_more ∙ read-zero MsgPack v (last v) k.ns (span p e) (spans (packed 7 v) (left - 1) e) k.holds.ids (sym q ∙ z)

  pub steps-fail : 0 < left → packed 7 v p ≡ None → w ≡ Wrong
  steps-fail l b = so_far Not (spans-bad (packed 7 v) left p l b)

  module _ (z : left ≡ 0) where
    at-end : w ≡ read MsgPack v (last v) k.ns (Are [] p)
    at-end = so_far (Are [] p) (spans-end (packed 7 v) left p z)

    pub steps-end : p ≡ length v → list_meant (Some r) ≡ w
    steps-end e = read-end MsgPack v (last v) r k.ns p k.holds (omega (arith, k.room)) (eq-eqb p (length v) e) ∙ sym at-end

    pub steps-trail : (p ≡ length v → ⊥) → w ≡ Wrong
    steps-trail e = at-end ∙ read-trails MsgPack v (last v) k.ns p (ne_eqb p (length v) e)

-- the whole value: h is its head
pub array_long : (v : List ℕ) → max_bytes < length v → ids_in MsgPack v (outer_array v) ≡ Wrong
unfolding outer_array
array_long v l = rw (lt-leb (length v) max_bytes l)

module _ (v : List ℕ) (h : Head) (eh : h ≡ head_at v 0) (l : length v ≤ max_bytes) where
  pub array-not : (h.kind ≡ array → ⊥) → ids_in MsgPack v (outer_array v) ≡ Wrong
  unfolding outer_array
  array-not k = rw (le-leb (length v) max_bytes l, sym eh, ne_eqb h.kind array k)

  pub array-is : h.kind ≡ array → ids_in MsgPack v (outer_array v) ≡ ids_in MsgPack v (ended v (spans (packed 7 v) h.n h.end))
  unfolding outer_array
  array-is k = rw (le-leb (length v) max_bytes l, sym eh, k)

  -- more than 8 elements
  pub array-many : h.kind ≡ array → 8 < h.n → ids_in MsgPack v (outer_array v) ≡ Wrong
  array-many k m =
      array-is k ∙ read-ended v (spans (packed 7 v) h.n h.end) ∙ read-over v (packed 7 v) h.n h.end [] (omega arith)
