-- Lists and dicts: the loop over their items, and a value by its first byte. Assumes nothing.
use Rattle.std.specs.Prelude.{Option, Some, None}
use Prim.Native.Nat.{ℕ, zero, suc, ◌+◌, ◌-◌, ◌≤◌, ◌<◌}
use mathlib.Core.List.{List, [], ◌∷◌, ◌++◌, append_assoc, append-nil}
use mathlib.Core.Path.{◌≡◌, refl, sym, ap, subst, ◌∙◌}
use native.Mathlib.Omega.{arith}
use borrow.Author.Tests.{ne_eqb}
use lib.ListN.{length, length-append}
use Rattle.seq.specs.declared.Format.TheVariants.{Json, MsgPack}
use Rattle.seq.specs.Bytes.{byte_at}
use Rattle.seq.specs.Lists.{joined}
use Rattle.lex.specs.declared.Mark.{Mark}
use Rattle.lex.specs.declared.Mark.TheVariants.{Item, End, Neither}
use Rattle.lex.specs.Lex.{Marked, close_list, close_dict, first, next, colon}
use Rattle.json_text.proofs.Laws.{Fuel}
use Rattle.buffer.specs.Capped.{largest}
use Rattle.buffer.proofs.Wrote.{Wrote, wrote, wrote_then}
use Rattle.values.specs.Value.{Layer, Member, Value}
use Rattle.values.specs.Value.Layer.{Plain, Items, Members}
use Rattle.values.specs.Read.{Read, made}
use Rattle.values.specs.Read.Read.{Gives, Not}
use Rattle.values.specs.Write.{pack_scalar, pack_text, pack_member, pack_array, pack_map, pack_layer, write}
use Rattle.values.specs.Stands.{member, onward, series, enclosed, quoted_at, json_scalar_at, json_member_at, json_layer_at, stands}
use Rattle.conversion.specs.declared.Converted.{Converted}
use Rattle.conversion.specs.Converts.{Converts}
use Rattle.conversion.proofs.Conv.{Took, made-id, made-made, conv-made, conv-behind, conv-same}

-- ---- the loop: from the mark m on the items that are left are read; the others are written
pub record Going {A : Type 0} (item : ℕ → Read A) (f : A → List ℕ) (close : ℕ) (s : List ℕ) (at : ℕ) (old : List ℕ) (o q n : ℕ) (m : Mark) (out : List ℕ) : Type 0 where
  pub done : List A
  pub counted : n ≡ length done
  pub fuel : ℕ
  pub enough : Fuel fuel (length s) m
  pub read : enclosed item close s at ≡ made (λ vs. done ++ vs) (onward m (series item close fuel s))
  pub wrote : Wrote old o (joined f done) q out

joined_snoc : {A : Type 0} (f : A → List ℕ) (xs : List A) (v : A) → joined f xs ++ f v ≡ joined f (xs ++ (v ∷ []))
joined_snoc f [] v = sym (append-nil (f v))
joined_snoc f (x ∷ xs) v = append_assoc (f x) (joined f xs) (f v) ∙ ap (λ (l : List ℕ). f x ++ l) (joined_snoc f xs v)

module _ {A : Type 0} (item : ℕ → Read A) (close : ℕ) (s : List ℕ) where
  series-not : (fuel i : ℕ) → item i ≡ Not → series item close fuel s i ≡ Not
  unfolding series
  series-not zero i e = refl
  series-not (suc fuel) i e = rw e

  series-go : (fuel i : ℕ) (v : A) (e : ℕ) → item i ≡ Gives v e → 0 < fuel
      → series item close fuel s i ≡ made (λ vs. v ∷ vs) (onward (next close s e) (series item close (fuel - 1) s))
  unfolding series
  series-go zero i v e h l = absurd (omega arith)
  series-go (suc fuel) i v e h l = let d : suc fuel - 1 ≡ fuel = omega arith in rw (h, d)

module _ {A : Type 0} {item : ℕ → Read A} {f : A → List ℕ} {close : ℕ} {s : List ℕ} {at : ℕ} {old : List ℕ} {o : ℕ} where
  pub going_start : {q : ℕ} {out : List ℕ} (m : Mark) → m ≡ first close s at → Wrote old o [] q out → Going item f close s at old o q 0 m out
  unfolding enclosed
  going_start m e w = record {
    done = [];
    counted = refl;
    fuel = length s;
    enough = all m;
    read = ap (λ (k : Mark). onward k (series item close (length s) s)) (sym e) ∙ made-id (onward m (series item close (length s) s));
    wrote = w;
  }
    where
      all : (m : Mark) → Fuel (length s) (length s) m
      all (Item i) = omega arith
      all (End e) = tt
      all Neither = tt

  module _ {q n : ℕ} {m : Mark} {out : List ℕ} (g : Going item f close s at old o q n m out) where
    at_mark : (k : Mark) → m ≡ k → enclosed item close s at ≡ made (λ vs. g.done ++ vs) (onward k (series item close g.fuel s))
    at_mark k e = g.read ∙ ap (λ (x : Mark). made (λ vs. g.done ++ vs) (onward x (series item close g.fuel s))) e

    pub going-not : (i : ℕ) → m ≡ Item i → item i ≡ Not → enclosed item close s at ≡ Not
    going-not i e h = at_mark (Item i) e ∙ ap (made (λ vs. g.done ++ vs)) (series-not item close s g.fuel i h)

    pub going-neither : m ≡ Neither → enclosed item close s at ≡ Not
    going-neither e = at_mark Neither e

    pub going_end : (e : ℕ) → m ≡ End e → enclosed item close s at ≡ Gives g.done e
    going_end e h = at_mark (End e) h ∙ ap (λ (l : List A). Gives l e) (append-nil g.done)

    pub going-go : length old ≤ largest → (i : ℕ) → m ≡ Item i → {e z : ℕ} {out' : List ℕ} → Took out q f (item i) e z out' → i < e → e ≤ length s
        → (m' : Mark) → m' ≡ next close s e → Marked e (length s) m' → Going item f close s at old o z (n + 1) m' out'
    going-go l i h {e} t lo hi m' k w =
        let b : length s ≤ g.fuel + i = subst (Fuel g.fuel (length s)) h g.enough in
        let c = length-append g.done (t.value ∷ []) in
        let d = g.counted in
        record {
          done = g.done ++ (t.value ∷ []);
          counted = omega arith;
          fuel = g.fuel - 1;
          enough = enough m' w b;
          read =
              at_mark (Item i) h
              ∙ ap (made (λ vs. g.done ++ vs)) (series-go item close s g.fuel i t.value e t.read (omega arith)
              ∙ ap (λ (x : Mark). made (λ vs. t.value ∷ vs) (onward x (series item close (g.fuel - 1) s))) (sym k))
              ∙ made-made g.done t.value (onward m' (series item close (g.fuel - 1) s));
          wrote = wrote (joined_snoc f g.done t.value) (wrote_then l g.wrote t.wrote);
        }
      where
        enough : (x : Mark) → Marked e (length s) x → length s ≤ g.fuel + i → Fuel (g.fuel - 1) (length s) x
        enough (Item b) w r = omega arith
        enough (End b) w r = tt
        enough Neither w r = tt

-- n items end before the next begins
abbrev pub Few : ℕ → Mark → Type 0
Few n (Item i) = n ≤ i
Few n (End e) = Unit {0}
Few n Neither = Unit {0}

pub few-none : (m : Mark) → Few 0 m
few-none (Item i) = omega arith
few-none (End e) = tt
few-none Neither = tt

pub few-item : (n : ℕ) (m : Mark) {i : ℕ} → m ≡ Item i → Few n m → n ≤ i
few-item n m e f = subst (Few n) e f

pub few-more : (n l i e : ℕ) (m : Mark) → n ≤ i → i < e → Marked e l m → Few (n + 1) m
few-more n l i e (Item b) h k w = omega arith
few-more n l i e (End b) h k w = tt
few-more n l i e Neither h k w = tt

-- ---- a value by its first byte
module _ {A : Type 0} (item : ℕ → Read A) (s : List ℕ) (at : ℕ) where
  layer-list : byte_at s at ≡ 91 → json_layer_at item s at ≡ made Items (enclosed item close_list s (at + 1))
  unfolding json_layer_at
  layer-list e = rw e

  layer-dict : byte_at s at ≡ 123 → json_layer_at item s at ≡ made Members (enclosed (json_member_at item s) close_dict s (at + 1))
  unfolding json_layer_at
  layer-dict e = rw e

  layer-plain : (byte_at s at ≡ 91 → ⊥) → (byte_at s at ≡ 123 → ⊥) → json_layer_at item s at ≡ made Plain (json_scalar_at s at)
  unfolding json_layer_at
  layer-plain p q = rw (ne_eqb (byte_at s at) 91 p, ne_eqb (byte_at s at) 123 q)

abbrev pub listed : {A : Type 0} → (A → List ℕ) → List A → List ℕ
listed f vs = pack_array (length vs) ++ joined f vs

abbrev pub mapped : {A : Type 0} → (A → List ℕ) → List (Member A) → List ℕ
mapped f ms = pack_map (length ms) ++ joined (pack_member f) ms

module _ (old : List ℕ) (o : ℕ) (s : List ℕ) (at : ℕ) (c : Option Converted) (left : List ℕ) where
  conv-layer : {B : Type 0} (d : ℕ) (w : B → List ℕ) (r : Read B) (g : B → Layer (Value d)) → ((v : B) → w v ≡ pack_layer (write MsgPack d) (g v))
      → json_layer_at (stands Json d s) s at ≡ made g r → Converts old o w r c left → Converts old o (write MsgPack (suc d)) (stands Json (suc d) s at) c left
  unfolding write stands
  conv-layer d w r g u e k = conv-same e (conv-made old o w (pack_layer (write MsgPack d)) g u r c left k)

  pub conv-flat : (depth : ℕ) → depth ≡ 0 → Converts old o pack_scalar (json_scalar_at s at) c left → Converts old o (write MsgPack depth) (stands Json depth s at) c left
  unfolding write stands
  conv-flat zero e k = k
  conv-flat (suc d) e k = absurd (omega arith)

  pub conv-scalar : (depth : ℕ) → (depth ≡ 0 → ⊥) → (byte_at s at ≡ 91 → ⊥) → (byte_at s at ≡ 123 → ⊥) → Converts old o pack_scalar (json_scalar_at s at) c left
      → Converts old o (write MsgPack depth) (stands Json depth s at) c left
  unfolding pack_layer
  conv-scalar zero n p q k = absurd (n refl)
  conv-scalar (suc d) n p q k = conv-layer d pack_scalar (json_scalar_at s at) Plain (λ v. refl) (layer-plain (stands Json d s) s at p q) k

  pub conv-list : (depth : ℕ) → (depth ≡ 0 → ⊥) → byte_at s at ≡ 91
      → Converts old o (listed (write MsgPack (depth - 1))) (enclosed (stands Json (depth - 1) s) close_list s (at + 1)) c left
      → Converts old o (write MsgPack depth) (stands Json depth s at) c left
  unfolding pack_layer
  conv-list zero n e k = absurd (n refl)
  conv-list (suc d) n e k =
      let p : suc d - 1 ≡ d = omega arith in
      conv-layer d (listed (write MsgPack d)) (enclosed (stands Json d s) close_list s (at + 1)) Items (λ v. refl) (layer-list (stands Json d s) s at e)
      (subst (λ (x : ℕ). Converts old o (listed (write MsgPack x)) (enclosed (stands Json x s) close_list s (at + 1)) c left) p k)

  pub conv-dict : (depth : ℕ) → (depth ≡ 0 → ⊥) → byte_at s at ≡ 123
      → Converts old o (mapped (write MsgPack (depth - 1))) (enclosed (json_member_at (stands Json (depth - 1) s) s) close_dict s (at + 1)) c left
      → Converts old o (write MsgPack depth) (stands Json depth s at) c left
  unfolding pack_layer
  conv-dict zero n e k = absurd (n refl)
  conv-dict (suc d) n e k =
      let p : suc d - 1 ≡ d = omega arith in
      conv-layer d (mapped (write MsgPack d)) (enclosed (json_member_at (stands Json d s) s) close_dict s (at + 1)) Members (λ v. refl)
      (layer-dict (stands Json d s) s at e)
      (subst (λ (x : ℕ). Converts old o (mapped (write MsgPack x)) (enclosed (json_member_at (stands Json x s) s) close_dict s (at + 1)) c left) p k)

-- ---- a member
module _ (s : List ℕ) {A : Type 0} (item : ℕ → Read A) (at : ℕ) where
  pub member-no-key : quoted_at s at ≡ Not → json_member_at item s at ≡ Not
  unfolding json_member_at
  member-no-key e = rw e

  pub member-no-colon : (k : List ℕ) (e : ℕ) → quoted_at s at ≡ Gives k e → colon s e ≡ None → json_member_at item s at ≡ Not
  unfolding json_member_at
  member-no-colon k e h c = rw (h, c)

  member_is : (k : List ℕ) (e a : ℕ) → quoted_at s at ≡ Gives k e → colon s e ≡ Some a → json_member_at item s at ≡ made (member k) (item a)
  unfolding json_member_at
  member_is k e a h c = rw (h, c)

  pub conv-member : {old : List ℕ} {o : ℕ} (f : A → List ℕ) {mid : List ℕ} {e p a : ℕ} {c : Option Converted} {left : List ℕ} → length old ≤ largest
      → Took old o pack_text (quoted_at s at) e p mid → colon s e ≡ Some a → Converts mid p f (item a) c left
      → Converts old o (pack_member f) (json_member_at item s at) c left
  unfolding pack_member
  conv-member {old} {o} f {mid} {e} {p} {a} {c} {left} l t h m =
      conv-same (member_is t.value e a t.read h)
      (conv-made old o (λ v. pack_text t.value ++ f v) (pack_member f) (member t.value) (λ v. refl) (item a) c left
      (conv-behind old o (pack_text t.value) mid p f (item a) c left l t.wrote m))
