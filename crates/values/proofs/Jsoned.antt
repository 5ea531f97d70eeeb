-- JSON: a value that was written reads back. Assumes nothing.
use Rattle.std.specs.Prelude.{Some}
use lib.Dec.{lit<}
use Prim.Native.Nat.{ℕ, zero, suc, ◌+◌, ◌-◌, ◌^◌, ◌≤◌, ◌<◌}
use mathlib.Core.Bool.{true, false}
use mathlib.Core.List.{List, [], ◌∷◌, ◌++◌, append_assoc}
use mathlib.Core.Path.{◌≡◌, refl, sym, ap, ◌∙◌, subst}
use native.Mathlib.Omega.{arith}
use borrow.Author.Tests.{ne_eqb, eq-eqb, lt-ltb, le-leb}
use lib.ListN.{length, length-append}
use Rattle.seq.specs.Bytes.{is_digit, chars, byte_at}
use Rattle.seq.specs.Lists.{All}
use Rattle.seq.proofs.Bytes.{digit-bounds, same_refl}
use Rattle.lex.specs.declared.Mark.TheVariants.{Item, End}
use Rattle.lex.specs.Lex.{is_space, space, first, next, colon}
use Rattle.lex.proofs.Laws.{past_stop}
use Rattle.json_text.specs.Json.{literal}
use Rattle.seq.specs.Decimal.{decimal}
use Rattle.values.specs.Value.{Scalar, Layer, Member, Value, GoodScalar, GoodMember, GoodLayer, Good}
use Rattle.values.specs.Value.Scalar.{Null, Flag, Whole, Below, Text}
use Rattle.values.specs.Value.Layer.{Plain, Items, Members}
use Rattle.values.specs.Read.{Read, made}
use Rattle.values.specs.Read.Read.{Gives}
use Rattle.values.specs.Write.{quoted_text, json_scalar, commaed, separated, json_member, json_layer, write}
use Rattle.seq.specs.declared.Format.TheVariants.{Json}
use Rattle.values.specs.Stands.{json_whole_at, json_below_at, json_scalar_at, series, enclosed, json_member_at, json_layer_at, stands}
use Rattle.seq.proofs.Holds.{Holds, holds-end, holds-left, holds-right, holds-part}
use Rattle.values.proofs.Strings.{quoted-back}
use Rattle.values.proofs.Numbers.{Starts, Stops, decimal-first, whole_back}

-- where w stands, and behind it nothing that a number could go on with, x is read
abbrev pub Back : {A : Type 0} → List ℕ → (ℕ → Read A) → List ℕ → A → Type 0
Back s item w x = (at : ℕ) → Holds s at w → Stops (byte_at s (at + length w)) → item at ≡ Gives x (at + length w)

-- the first byte of an item: no white space, and no closing byte
pub record Opens (b : ℕ) : Type 0 where
  pub seen : 33 < b
  pub list : b ≡ 93 → ⊥
  pub dict : b ≡ 125 → ⊥

-- the first byte of an item that is no list and no dict
pub record Plainly (b : ℕ) : Type 0 where
  pub opens : Opens b
  pub list : b ≡ 91 → ⊥
  pub dict : b ≡ 123 → ⊥

holds-first : (P : ℕ → Type 0) (s : List ℕ) (at : ℕ) (w : List ℕ) → Starts P w → Holds s at w → P (byte_at s at)
holds-first P s at w b h =
    let g : Holds s at (b.first ∷ b.rest) = subst (Holds s at) b.is h in subst P (sym g.0) b.so

-- ---- white space: none
not-space : (b : ℕ) → 33 < b → is_space b ≡ false
not-space b l = rw (ne_eqb b 32 (λ e. omega arith), ne_eqb b 9 (λ e. omega arith), ne_eqb b 10 (λ e. omega arith), ne_eqb b 13 (λ e. omega arith))

here : (s : List ℕ) (at : ℕ) → 33 < byte_at s at → space s at ≡ at
here s at l = past_stop is_space s at (not-space (byte_at s at) l)

module _ (s : List ℕ) (close : ℕ) (shut : 44 < close) where
  first-end : (at : ℕ) → byte_at s at ≡ close → first close s at ≡ End (at + 1)
  unfolding first
  first-end at e = rw (here s at (omega arith), eq-eqb (byte_at s at) close e)

  first-item : (at : ℕ) → 33 < byte_at s at → (byte_at s at ≡ close → ⊥) → first close s at ≡ Item at
  unfolding first
  first-item at l n = rw (here s at l, ne_eqb (byte_at s at) close n)

  next-end : (at : ℕ) → byte_at s at ≡ close → next close s at ≡ End (at + 1)
  unfolding next
  next-end at e = rw (here s at (omega arith), eq-eqb (byte_at s at) close e)

  next-item : (at : ℕ) → byte_at s at ≡ 44 → 33 < byte_at s (at + 1) → next close s at ≡ Item (at + 1)
  unfolding next
  next-item at e l = rw (here s at (omega arith), ne_eqb (byte_at s at) close (λ q. omega arith), e, here s (at + 1) l)

colon-back : (s : List ℕ) (at : ℕ) → byte_at s at ≡ 58 → 33 < byte_at s (at + 1) → colon s at ≡ Some (at + 1)
unfolding colon
colon-back s at e l = rw (here s at (omega arith), e, here s (at + 1) l)

-- ---- scalars
literal-back : (w s : List ℕ) (at : ℕ) → Holds s at w → literal w s at ≡ Some (at + length w)
unfolding literal
literal-back w s at h = rw (holds-part s at w h, same_refl w)

stops-comma : Stops 44
stops-comma = record { digit = refl; rest = refl }

below_in : (n : ℕ) → n < 0x8000000000000000 → n + 1 < 10 ^ 20
below_in n l = omega arith

plain-digit : (b : ℕ) → is_digit b ≡ true → Plainly b
plain-digit b e =
    let (l, m) = digit-bounds b e in
    record {
      opens = record { seen = omega arith; list = λ q. omega arith; dict = λ q. omega arith };
      list = λ q. omega arith;
      dict = λ q. omega arith;
    }

plain_of : (b : ℕ) (w r : List ℕ) → w ≡ b ∷ r → 33 < b → (b ≡ 93 → ⊥) → (b ≡ 125 → ⊥) → (b ≡ 91 → ⊥) → (b ≡ 123 → ⊥) → Starts Plainly w
plain_of b w r e l p q x y =
    record { first = b; rest = r; is = e; so = record { opens = record { seen = l; list = p; dict = q }; list = x; dict = y } }

scalar-starts : (v : Scalar) → GoodScalar v → Starts Plainly (json_scalar v)
unfolding json_scalar quoted_text
scalar-starts Null g = plain_of 110 _ _ refl (lit< tt) (λ e. omega arith) (λ e. omega arith) (λ e. omega arith) (λ e. omega arith)
scalar-starts (Flag true) g = plain_of 116 _ _ refl (lit< tt) (λ e. omega arith) (λ e. omega arith) (λ e. omega arith) (λ e. omega arith)
scalar-starts (Flag false) g = plain_of 102 _ _ refl (lit< tt) (λ e. omega arith) (λ e. omega arith) (λ e. omega arith) (λ e. omega arith)
scalar-starts (Whole n) g =
    let d = decimal-first n (omega arith) in record { first = d.first; rest = d.rest; is = d.is; so = plain-digit d.first d.so }
scalar-starts (Below n) g = plain_of 45 _ _ refl (lit< tt) (λ e. omega arith) (λ e. omega arith) (λ e. omega arith) (λ e. omega arith)
scalar-starts (Text t) g = plain_of 34 _ _ refl (lit< tt) (λ e. omega arith) (λ e. omega arith) (λ e. omega arith) (λ e. omega arith)

module _ (s : List ℕ) where
  digit-scalar : (at : ℕ) → is_digit (byte_at s at) ≡ true → json_scalar_at s at ≡ json_whole_at s at
  unfolding json_scalar_at
  digit-scalar at e =
      let (l, m) = digit-bounds (byte_at s at) e in
      rw (ne_eqb (byte_at s at) 34 (λ q. omega arith), ne_eqb (byte_at s at) 45 (λ q. omega arith), e)

  scalar-back : (v : Scalar) → GoodScalar v → Back s (json_scalar_at s) (json_scalar v) v
  unfolding json_scalar json_scalar_at json_whole_at json_below_at quoted_text
  scalar-back Null g at h e = rw (h.0, literal-back (chars "null") s at h)
  scalar-back (Flag true) g at h e = rw (h.0, literal-back (chars "true") s at h)
  scalar-back (Flag false) g at h e = rw (h.0, literal-back (chars "false") s at h)
  scalar-back (Whole n) g at h e =
      digit-scalar at (holds-first (λ b. is_digit b ≡ true) s at (decimal n) (decimal-first n (omega arith)) h)
      ∙ rw (whole_back s at n (omega arith) h e, lt-ltb n 0x10000000000000000 g)
  scalar-back (Below n) g at h e =
      let z : at + suc (length (decimal (n + 1))) ≡ at + 1 + length (decimal (n + 1)) = omega arith in
      let q : n + 1 - 1 ≡ n = omega arith in
      let k = whole_back s (at + 1) (n + 1) (below_in n g) h.2 (rw z at e) in
      rw (h.0, k, ne_eqb (n + 1) 0 (λ q. omega arith), le-leb (n + 1) 0x8000000000000000 (omega arith), q, z)
  scalar-back (Text t) g at h e = rw (h.0, quoted-back s t at h)

-- ---- lists and dicts
-- a closing byte
pub record Closes (close : ℕ) : Type 0 where
  pub late : 44 < close
  pub stops : Stops close

module _ (s : List ℕ) {A : Type 0} (item : ℕ → Read A) (f : A → List ℕ) (P : A → Type 0) (b : (x : A) → P x → Back s item (f x) x)
    (o : (x : A) → P x → Starts (λ c. 33 < c) (f x)) (close : ℕ) (k : Closes close) where
  -- an item with the others behind it
  series-back : (x : A) (xs : List A) (fuel at : ℕ) → P x → All P xs → length xs < fuel → Holds s at (f x ++ (commaed f xs ++ (close ∷ [])))
      → series item close fuel s at ≡ Gives (x ∷ xs) (at + length (f x ++ (commaed f xs ++ (close ∷ []))))
  unfolding series commaed
  series-back x xs zero at g a l h = absurd (omega arith)
  series-back x [] (suc fuel) at g a l h =
      let r : Holds s (at + length (f x)) (close ∷ []) = holds-right s at (f x) (close ∷ []) h in
      let e : at + length (f x) + 1 ≡ at + length (f x ++ (close ∷ [])) = simp length-append (omega arith) in
      rw (
        b x g at (holds-left s at (f x) (close ∷ []) h) (subst Stops (sym r.0) k.stops),
        next-end s close k.late (at + length (f x)) r.0,
        e,
      )
  series-back x (y ∷ ys) (suc fuel) at g a l h =
      let w : List ℕ = f y ++ (commaed f ys ++ (close ∷ [])) in
      let q : (f y ++ commaed f ys) ++ (close ∷ []) ≡ f y ++ (commaed f ys ++ (close ∷ [])) = append_assoc (f y) (commaed f ys) (close ∷ []) in
      let h' : Holds s at (f x ++ (44 ∷ (f y ++ (commaed f ys ++ (close ∷ []))))) = subst (λ l. Holds s at (f x ++ (44 ∷ l))) q h in
      let r : Holds s (at + length (f x)) (44 ∷ w) = holds-right s at (f x) (44 ∷ w) h' in
      let m : 33 < byte_at s (at + length (f x) + 1) =
      holds-first (λ c. 33 < c) s (at + length (f x) + 1) (f y) (o y a.0) (holds-left s (at + length (f x) + 1) (f y) (commaed f ys ++ (close ∷ [])) r.2) in
      let t = series-back y ys fuel (at + length (f x) + 1) a.0 a.1 (omega arith) r.2 in
      let e : at + length (f x) + 1 + length (f y ++ (commaed f ys ++ (close ∷ []))) ≡ at + length (f x ++ (44 ∷ ((f y ++ commaed f ys) ++ (close ∷ [])))) =
      simp length-append (omega arith) in
      rw (
        b x g at (holds-left s at (f x) (44 ∷ w) h') (subst Stops (sym r.0) stops-comma),
        next-item s close k.late (at + length (f x)) r.0 m,
        t,
        e,
      )

  commaed-long : (xs : List A) → length xs ≤ length (commaed f xs)
  unfolding commaed
  commaed-long [] = omega arith
  commaed-long (x ∷ xs) = simp length-append (let r = commaed-long xs in omega arith)

  enclosed-back : (n : (x : A) → P x → Starts (λ c. c ≡ close → ⊥) (f x)) (xs : List A) → All P xs → (at : ℕ)
      → Holds s at (separated f xs ++ (close ∷ [])) → enclosed item close s at ≡ Gives xs (at + length (separated f xs ++ (close ∷ [])))
  unfolding enclosed separated
  enclosed-back n [] a at h = rw (first-end s close k.late at h.0)
  enclosed-back n (x ∷ xs) a at h =
      let q : (f x ++ commaed f xs) ++ (close ∷ []) ≡ f x ++ (commaed f xs ++ (close ∷ [])) = append_assoc (f x) (commaed f xs) (close ∷ []) in
      let h' : Holds s at (f x ++ (commaed f xs ++ (close ∷ []))) = subst (Holds s at) q h in
      let hx : Holds s at (f x) = holds-left s at (f x) (commaed f xs ++ (close ∷ [])) h' in
      let m : 33 < byte_at s at = holds-first (λ c. 33 < c) s at (f x) (o x a.0) hx in
      let d : byte_at s at ≡ close → ⊥ = holds-first (λ c. c ≡ close → ⊥) s at (f x) (n x a.0) hx in
      let l : length xs < length s = (
      let z = holds-end s at (f x ++ (commaed f xs ++ (close ∷ []))) h' in
      let y = length-append (f x) (commaed f xs ++ (close ∷ [])) in
      let v = length-append (commaed f xs) (close ∷ []) in
      let u = commaed-long xs in
      omega arith) in
      rw (first-item s close k.late at m d, series-back x xs (length s) at a.0 a.1 l h', ← q)

closes-list : Closes 93
closes-list = record { late = lit< tt; stops = record { digit = refl; rest = refl } }

closes-dict : Closes 125
closes-dict = record { late = lit< tt; stops = record { digit = refl; rest = refl } }

module _ (s : List ℕ) {A : Type 0} (item : ℕ → Read A) (f : A → List ℕ) (P : A → Type 0) (b : (x : A) → P x → Back s item (f x) x)
    (o : (x : A) → P x → Starts Opens (f x)) where
  seen : (x : A) → P x → Starts (λ c. 33 < c) (f x)
  seen x g = let r = o x g in record { first = r.first; rest = r.rest; is = r.is; so = r.so.seen }

  no-close : (x : A) → P x → Starts (λ c. c ≡ 93 → ⊥) (f x)
  no-close x g = let r = o x g in record { first = r.first; rest = r.rest; is = r.is; so = r.so.list }

  member_seen : (m : Member A) → GoodMember P m → Starts (λ c. 33 < c) (json_member f m)
  unfolding json_member quoted_text
  member_seen m g = record { first = 34; rest = _; is = refl; so = lit< tt }

  member-no-close : (m : Member A) → GoodMember P m → Starts (λ c. c ≡ 125 → ⊥) (json_member f m)
  unfolding json_member quoted_text
  member-no-close m g = record { first = 34; rest = _; is = refl; so = λ e. omega arith }

  member_back : (m : Member A) → GoodMember P m → Back s (json_member_at item s) (json_member f m) m
  unfolding json_member json_member_at
  member_back m g at h e =
      let q : List ℕ = quoted_text m.key in
      let w : List ℕ = f m.value in
      let r : Holds s (at + length q) (58 ∷ w) = holds-right s at q (58 ∷ w) h in
      let l : 33 < byte_at s (at + length q + 1) = holds-first (λ c. 33 < c) s (at + length q + 1) w (seen m.value g.value) r.2 in
      let z : at + length (quoted_text m.key) + 1 + length (f m.value) ≡ at + length (quoted_text m.key ++ (58 ∷ f m.value)) =
      simp length-append (omega arith) in
      rw (
        quoted-back s m.key at (holds-left s at q (58 ∷ w) h),
        colon-back s (at + length (quoted_text m.key)) r.0 l,
        b m.value g.value (at + length (quoted_text m.key) + 1) r.2 (subst (λ n. Stops (byte_at s n)) (sym z) e),
        z,
      )

  plain-layer : (at : ℕ) → Plainly (byte_at s at) → json_layer_at item s at ≡ made Plain (json_scalar_at s at)
  unfolding json_layer_at
  plain-layer at p = rw (ne_eqb (byte_at s at) 91 p.list, ne_eqb (byte_at s at) 123 p.dict)

  layer-back : (v : Layer A) → GoodLayer P v → Back s (json_layer_at item s) (json_layer f v) v
  unfolding json_layer json_layer_at
  layer-back (Plain v) g at h e =
      plain-layer at (holds-first Plainly s at (json_scalar v) (scalar-starts v g) h) ∙ ap (made Plain) (scalar-back s v g at h e)
  layer-back (Items vs) g at h e =
      let z : at + 1 + length (separated f vs ++ (93 ∷ [])) ≡ at + suc (length (separated f vs ++ (93 ∷ []))) = omega arith in
      rw (h.0, enclosed-back s item f P b seen 93 closes-list no-close vs g.1 (at + 1) h.2, z)
  layer-back (Members ms) g at h e =
      let z : at + 1 + length (separated (json_member f) ms ++ (125 ∷ [])) ≡ at + suc (length (separated (json_member f) ms ++ (125 ∷ []))) = omega arith in
      rw (
        h.0,
        enclosed-back s (json_member_at item s) (json_member f) (GoodMember P) member_back member_seen 125 closes-dict member-no-close ms g.1
            (at + 1) h.2,
        z,
      )

layer-opens : {A : Type 0} (f : A → List ℕ) (P : A → Type 0) (v : Layer A) → GoodLayer P v → Starts Opens (json_layer f v)
unfolding json_layer
layer-opens f P (Plain v) g = let r = scalar-starts v g in record { first = r.first; rest = r.rest; is = r.is; so = r.so.opens }
layer-opens f P (Items vs) g =
    record { first = 91; rest = _; is = refl; so = record { seen = lit< tt; list = λ e. omega arith; dict = λ e. omega arith } }
layer-opens f P (Members ms) g =
    record { first = 123; rest = _; is = refl; so = record { seen = lit< tt; list = λ e. omega arith; dict = λ e. omega arith } }

-- a value's bytes, wherever they stand
json-opens : (depth : ℕ) (v : Value depth) → Good depth v → Starts Opens (write Json depth v)
unfolding write
json-opens zero v g = let r = scalar-starts v g in record { first = r.first; rest = r.rest; is = r.is; so = r.so.opens }
json-opens (suc depth) v g = layer-opens (write Json depth) (Good depth) v g

pub json-back : (s : List ℕ) (depth : ℕ) (v : Value depth) → Good depth v → Back s (stands Json depth s) (write Json depth v) v
unfolding write stands
json-back s zero v g at h e = scalar-back s v g at h e
json-back s (suc depth) v g at h e =
    layer-back s (stands Json depth s) (write Json depth) (Good depth) (json-back s depth) (json-opens depth) v g at h e
