-- Laws of specs/Members.antt. Assumes nothing.
use Rattle.std.specs.Prelude.{Some, None, Option}
use mathlib.Core.Path.{◌≡◌, refl, sym, ap, subst, ◌∙◌}
use Prim.Native.Nat.{ℕ, zero, suc, ◌+◌, ◌-◌, ◌≤◌, ◌<◌}
use mathlib.Core.List.{List, [], ◌∷◌}
use mathlib.Core.Bool.{true, false}
use native.Mathlib.Omega.{arith}
use lib.ListN.{length}
use borrow.Author.Tests.{le-leb, lt-leb, ne_eqb}
use Rattle.seq.specs.Lists.{every}
use Rattle.seq.specs.Bytes.{byte_at, part, same}
use Rattle.seq.proofs.Lists.{every-part}
use Rattle.strings.specs.Strings.{undone, has_lone, is_plain}
use Rattle.strings.proofs.Plain.{plain-lone}
use Rattle.lex.specs.declared.Mark.{Mark}
use Rattle.lex.specs.declared.Mark.TheVariants.{Item, End, Neither}
use Rattle.lex.specs.Lex.{first, next, quoted, colon, Marked}
use Rattle.json_text.specs.Json.{max_bytes, value}
use Rattle.json_text.proofs.Laws.{Fuel}
use Rattle.members.specs.declared.Member.{Member}
use Rattle.members.specs.Members.{Pair, pair, member_of, member_at, pairs, members_in, members_at, key_in, value_of, sound_keys, blank, Beyond}

module _ (v : ℕ → Option ℕ) (t : List ℕ) (k : ℕ) where
  pub no_key : quoted t k ≡ None → member_at v t k ≡ None
  unfolding member_at
  no_key h = rw h

  module _ (q : ℕ) (hq : quoted t k ≡ Some q) where
    pub no-colon : colon t q ≡ None → member_at v t k ≡ None
    unfolding member_at
    no-colon h = rw (hq, h)

    module _ (a : ℕ) (ha : colon t q ≡ Some a) where
      pub no_value : v a ≡ None → member_at v t k ≡ None
      unfolding member_at
      no_value h = rw (hq, ha, h)

      pub member_is : (e : ℕ) → v a ≡ Some e → member_at v t k ≡ member_of q a e
      unfolding member_at
      member_is e h = rw (hq, ha, h)

pub ends-behind : {r : Option Member} (k n : ℕ) {q a e : ℕ} → r ≡ member_of q a e → Beyond k n r → (k < e) × (e ≤ n)
ends-behind k n h w = subst (λ (r : Option Member). Beyond k n r) h w

-- ---- the members of a dict, and of what is none
pub members-long : (t : List ℕ) (at : ℕ) → max_bytes < length t → members_at t at ≡ []
unfolding members_at
members-long t at h = rw (lt-leb (length t) max_bytes h)

pub members-not : (t : List ℕ) (at b : ℕ) → b ≡ byte_at t at → length t ≤ max_bytes → (b ≡ 123 → ⊥) → members_at t at ≡ []
unfolding members_at
members-not t at b eb l h = rw (le-leb (length t) max_bytes l, sym eb, ne_eqb b 123 h)

pub members-in : (limit : ℕ) (t : List ℕ) (at b : ℕ) → b ≡ byte_at t at → length t ≤ limit → b ≡ 123
    → members_in limit t at ≡ pairs (value 6 t) (length t) t (first 125 t (at + 1))
members-in limit t at b eb l h = rw (le-leb (length t) limit l, sym eb, h)

pub members-is : (t : List ℕ) (at b : ℕ) → b ≡ byte_at t at → length t ≤ max_bytes → b ≡ 123
    → members_at t at ≡ pairs (value 6 t) (length t) t (first 125 t (at + 1))
unfolding members_at
members-is t at b eb l h = members-in max_bytes t at b eb l h

-- ---- the members from a mark on
module _ (v : ℕ → Option ℕ) (t : List ℕ) where
  pub pairs_end : (f e : ℕ) → pairs v f t (End e) ≡ []
  unfolding pairs
  pairs_end zero e = refl
  pairs_end (suc f) e = refl

  pairs-neither : (f : ℕ) → pairs v f t Neither ≡ []
  unfolding pairs
  pairs-neither zero = refl
  pairs-neither (suc f) = refl

  pairs-bad : (f k : ℕ) → member_at v t k ≡ None → pairs v f t (Item k) ≡ []
  unfolding pairs
  pairs-bad zero k h = refl
  pairs-bad (suc f) k h = rw h

  pairs-member : (f k q a e : ℕ) → member_at v t k ≡ member_of q a e → k < length t → length t ≤ f + k
      → (g : ℕ) × (f ≡ suc g) × (pairs v f t (Item k) ≡ pair k q a e ∷ pairs v g t (next 125 t e))
  unfolding pairs
  pairs-member zero k q a e h i u = absurd (omega arith)
  pairs-member (suc g) k q a e h i u = (g, refl, rw h)

-- ---- a question on the members: its answer is x, as the members from the mark m on give it
pub record Look {A : Type 0} (ask : List Pair → A) (t : List ℕ) (m : Mark) (x : A) : Type 0 where
  pub fuel : ℕ
  pub rest : ask (pairs (value 6 t) fuel t m) ≡ x
  pub enough : Fuel fuel (length t) m

pub look-begins : {A : Type 0} (ask : List Pair → A) (t : List ℕ) (at b : ℕ) (m : Mark) → b ≡ byte_at t at → length t ≤ max_bytes → b ≡ 123
    → m ≡ first 125 t (at + 1) → Look ask t m (ask (members_at t at))
look-begins ask t at b m eb l h e = record {
  fuel = length t;
  rest = ap (λ (x : Mark). ask (pairs (value 6 t) (length t) t x)) e ∙ sym (ap ask (members-is t at b eb l h));
  enough = full m;
}
  where
    full : (x : Mark) → Fuel (length t) (length t) x
    full (Item a) = omega arith
    full (End e) = tt
    full Neither = tt

module _ {A : Type 0} (ask : List Pair → A) (t : List ℕ) (m : Mark) (x : A) (l : Look ask t m x) where
  at_mark : (y : Mark) → m ≡ y → ask (pairs (value 6 t) l.fuel t y) ≡ x
  at_mark y e = ap (λ (z : Mark). ask (pairs (value 6 t) l.fuel t z)) (sym e) ∙ l.rest

  look-end : (e : ℕ) → m ≡ End e → ask [] ≡ x
  look-end e h = ap ask (sym (pairs_end (value 6 t) t l.fuel e)) ∙ at_mark (End e) h

  look-neither : m ≡ Neither → ask [] ≡ x
  look-neither h = ap ask (sym (pairs-neither (value 6 t) t l.fuel)) ∙ at_mark Neither h

  -- no member is left
  pub look-last : ((k : ℕ) → m ≡ Item k → ⊥) → ask [] ≡ x
  look-last n = go m refl
    where
      go : (y : Mark) → m ≡ y → ask [] ≡ x
      go (Item k) h = absurd (n k h)
      go (End e) h = look-end e h
      go Neither h = look-neither h

  pub look-bad : (k : ℕ) → m ≡ Item k → member_at (value 6 t) t k ≡ None → ask [] ≡ x
  look-bad k h b = ap ask (sym (pairs-bad (value 6 t) t l.fuel k b)) ∙ at_mark (Item k) h

  module _ (k q a e : ℕ) (h : m ≡ Item k) (b : member_at (value 6 t) t k ≡ member_of q a e) (i : (k < e) × (e ≤ length t)) where
    enough-at : length t ≤ l.fuel + k
    enough-at = subst (λ (y : Mark). Fuel l.fuel (length t) y) h l.enough

    more : (g : ℕ) × (l.fuel ≡ suc g) × (pairs (value 6 t) l.fuel t (Item k) ≡ pair k q a e ∷ pairs (value 6 t) g t (next 125 t e))
    more = pairs-member (value 6 t) t l.fuel k q a e b (omega (arith, i.0, i.1)) enough-at

    -- the member decides it
    pub look_hit : (y : A) → ((ps : List Pair) → ask (pair k q a e ∷ ps) ≡ y) → y ≡ x
    look_hit y c = sym (ap ask more.2 ∙ c (pairs (value 6 t) more.0 t (next 125 t e))) ∙ at_mark (Item k) h

    -- the members behind it do
    pub look-goes : ((ps : List Pair) → ask (pair k q a e ∷ ps) ≡ ask ps) → (m' : Mark) → m' ≡ next 125 t e → Marked e (length t) m' → Look ask t m' x
    look-goes c m' n w =
        let (g, z, p) = more in
        record {
          fuel = g;
          rest = ap (λ (y : Mark). ask (pairs (value 6 t) g t y)) n ∙ sym (ap ask p ∙ c (pairs (value 6 t) g t (next 125 t e))) ∙ at_mark (Item k) h;
          enough = left_over g z m' w;
        }
      where
        left_over : (g : ℕ) → l.fuel ≡ suc g → (y : Mark) → Marked e (length t) y → Fuel g (length t) y
        left_over g z (Item b) w = omega (arith, enough-at, z, i.0)
        left_over g z (End b) w = tt
        left_over g z Neither w = tt

-- ---- the value of a key
pub value_none : (t key : List ℕ) {ps : List Pair} → ps ≡ [] → blank ≡ value_of t key ps
unfolding value_of
value_none t key e = rw e

module _ (t key : List ℕ) (k q a e : ℕ) where
  pub value-hit : same (undone (part (k + 1) (q - 1) t)) key ≡ true → (ps : List Pair) → value_of t key (pair k q a e ∷ ps) ≡ record { from = a; to = e }
  unfolding value_of
  value-hit h ps = rw h

  pub value-other : same (undone (part (k + 1) (q - 1) t)) key ≡ false → (ps : List Pair) → value_of t key (pair k q a e ∷ ps) ≡ value_of t key ps
  unfolding value_of
  value-other h ps = rw h

-- ---- keys without lone halves
pub sound_none : (t : List ℕ) {ps : List Pair} → ps ≡ [] → true ≡ sound_keys t ps
unfolding every
sound_none t e = rw e

module _ (t : List ℕ) (k q a e : ℕ) where
  pub sound-lone : has_lone (part (k + 1) (q - 1) t) ≡ true → (ps : List Pair) → sound_keys t (pair k q a e ∷ ps) ≡ false
  unfolding every
  sound-lone h ps = rw h

  pub sound-good : has_lone (part (k + 1) (q - 1) t) ≡ false → (ps : List Pair) → sound_keys t (pair k q a e ∷ ps) ≡ sound_keys t ps
  unfolding every
  sound-good h ps = rw h

-- a text without a backslash has no half in a key
pub sound-plain : (t : List ℕ) → is_plain t ≡ true → (ps : List Pair) → sound_keys t ps ≡ true
unfolding every
sound-plain t h [] = refl
sound-plain t h (p ∷ ps) = rw (plain-lone (key_in t p) (every-part _ (p.key.from + 1) (p.key.to - 1 - (p.key.from + 1)) t h)) (sound-plain t h ps)
