-- What the choice gives, for every list of rows and every URI: the claims of specs/Right.antt. Assumes nothing.
use Rattle.std.specs.Prelude.{Some, None, Option}
use Prim.Native.Nat.{ℕ, zero, suc, ◌≤◌, ◌<◌}
use mathlib.Core.Bool.{true, false, not}
use mathlib.Core.List.{List}
use mathlib.Core.Logic.{◌↔◌, ⊎_elim}
use mathlib.Core.Path.{◌≡◌, refl, sym, ap, ◌∙◌}
use native.Mathlib.Decide.{dec_lt}
use native.Mathlib.Nat.{eq-or-lt_of_le}
use native.Mathlib.Omega.{arith}
use borrow.Author.Tests.{ltb-false}
use lib.ListN.{length, get_or-eq_default}
use Rattle.seq.proofs.Logic.{split, clash, and_left, and_right, and_both, and-false}
use Rattle.uri.specs.declared.Policy.{Policy}
use Rattle.uri.specs.declared.Policy.TheVariants.{Exact, Prefix, Wildcard}
use Rattle.uri.specs.Uri.{same_policy}
use Rattle.uri.proofs.Laws.{policy-same, policy-refl}
use Rattle.pattern.specs.declared.Row.{Row}
use Rattle.pattern.specs.Match.{fits_text, wins_text}
use Rattle.pattern.specs.Choice.{no_row, row_at, row_text, is_used, fits_row, candidate, preferred, considered, best_among, best_of, place_of}
use Rattle.pattern.specs.Choice.{or_else, choice, row_of, chosen}
use Rattle.pattern.specs.Right.{Fits, NoneFits, text_at, Right, exact, prefix, wildcard, nothing, Within, SameRows, SameChoice, Distinct, Matching}
use Rattle.pattern.proofs.Order.{no_tie, one-prefix, more_bytes, wins-trans, wins-same, wins-neither}

-- ---- candidates
module _ (p : Policy) (u : List ℕ) where
  pub candidate-policy : (r : Row) → candidate p u r ≡ true → r.policy ≡ p
  unfolding candidate
  candidate-policy r h = policy-same r.policy p (and_left (same_policy r.policy p) _ h)

  pub candidate-row : (r : Row) → candidate p u r ≡ true → fits_row u r ≡ true
  unfolding candidate
  candidate-row r h = and_right (same_policy r.policy p) _ h

  pub candidate-used : (r : Row) → candidate p u r ≡ true → is_used r ≡ true
  unfolding fits_row
  candidate-used r h = and_left (is_used r) _ (candidate-row r h)

  pub candidate-fits : (r : Row) → candidate p u r ≡ true → fits_text p (row_text r) u ≡ true
  unfolding fits_row
  candidate-fits r h = ap (λ q. fits_text q (row_text r) u) (sym (candidate-policy r h)) ∙ and_right (is_used r) _ (candidate-row r h)

  pub candidate-none : candidate p u no_row ≡ false
  unfolding candidate fits_row
  candidate-none = and-false (same_policy Exact p) false refl

pub row-candidate : (u : List ℕ) (r : Row) → fits_row u r ≡ true → candidate r.policy u r ≡ true
unfolding candidate
row-candidate u r h = and_both (policy-refl r.policy) h

-- a place past the last row holds no candidate
pub fits-within : (rows : List Row) (p : Policy) (u : List ℕ) (k : ℕ) → Fits rows p u k → k < length rows
fits-within rows p u k f =
    elim (dec_lt k (length rows)) [
      | yes h ↦ h
      | no h ↦ clash f (ap (candidate p u) (get_or-eq_default rows no_row {n = k} (omega arith)) ∙ candidate-none p u)
    ]

-- ---- the best row of a policy
-- a number below suc n is below n, or n
last : {A : Type 0} (n j : ℕ) → j < suc n → (j < n → A) → (j ≡ n → A) → A
last n j h f g = let k : j ≤ n = omega arith in ⊎_elim g f (eq-or-lt_of_le k)

module _ (rows : List Row) (p : Policy) (u : List ℕ) where
  -- row k is a candidate among the first n, and no candidate among them wins over it
  record Best (n k : ℕ) : Type 0 where
    below : k < n
    fits : Fits rows p u k
    top : (j : ℕ) → j < n → Fits rows p u j → wins_text p (text_at rows j) (text_at rows k) ≡ false

  Good : ℕ → Option ℕ → Type 0
  Good n (Some k) = Best n k
  Good n None = (j : ℕ) → j < n → candidate p u (row_at rows j) ≡ false

  -- row n is no candidate
  good-miss : (n : ℕ) (b : Option ℕ) → candidate p u (row_at rows n) ≡ false → Good n b → Good (suc n) b
  unfolding Good
  good-miss n (Some k) t g =
      let h = g.below in
      record {
        below = omega arith;
        fits = g.fits;
        top = λ j l f. last n j l (λ q. g.top j q f) (λ q. clash (rw q at f) t);
      }
  good-miss n None t g = λ j l. last n j l (λ q. g j q) (λ q. rw q t)

  -- it is the first
  good-first : (n : ℕ) → Fits rows p u n → Good n None → Best (suc n) n
  unfolding Good
  good-first n t g = record {
    below = omega arith;
    fits = t;
    top = λ j l f. last n j l (λ q. clash f (g j q)) (λ q. rw q (wins-same p (text_at rows n)));
  }

  -- it wins over the best so far
  good_new : (n k : ℕ) → Fits rows p u n → wins_text p (text_at rows n) (text_at rows k) ≡ true → Best n k → Best (suc n) n
  good_new n k t w g = record {
    below = omega arith;
    fits = t;
    top =
        λ j l f.
        last n j l
        (λ q.
        split (wins_text p (text_at rows j) (text_at rows n))
        (λ s. clash (wins-trans p (text_at rows j) (text_at rows n) (text_at rows k) s w) (g.top j q f))
        (λ s. s))
        (λ q. rw q (wins-same p (text_at rows n)));
  }

  -- it does not
  good_old : (n k : ℕ) → wins_text p (text_at rows n) (text_at rows k) ≡ false → Best n k → Best (suc n) k
  good_old n k w g =
      let h = g.below in
      record {
        below = omega arith;
        fits = g.fits;
        top = λ j l f. last n j l (λ q. g.top j q f) (λ q. rw q w);
      }

  good-step : (n : ℕ) (b : Option ℕ) → Good n b → Good (suc n) (considered p u b (row_at rows (place_of b)) (row_at rows n) n)
  unfolding Good considered preferred
  good-step n (Some k) g =
      split (candidate p u (row_at rows n))
      (λ t.
      split (wins_text p (text_at rows n) (text_at rows k))
      (λ w. rw (t, w) (good_new n k t w g))
      (λ w. rw (t, w) (good_old n k w g)))
      (λ t. rw t (good-miss n (Some k) t g))
  good-step n None g =
      split (candidate p u (row_at rows n))
      (λ t. rw t (good-first n t g))
      (λ t. rw t (good-miss n None t g))

  good : (n : ℕ) → Good n (best_among rows p u n)
  unfolding Good best_among
  good zero = λ j l. absurd (omega arith)
  good (suc n) = good-step n (best_among rows p u n) (good n)

  -- the same with all rows considered: row k is a candidate and none wins over it; or there is no candidate
  record Top (k : ℕ) : Type 0 where
    fits : Fits rows p u k
    top : (j : ℕ) → Fits rows p u j → wins_text p (text_at rows j) (text_at rows k) ≡ false

  Said : Option ℕ → Type 0
  Said (Some k) = Top k
  Said None = NoneFits rows p u

  said_of : (b : Option ℕ) → Good (length rows) b → Said b
  unfolding Good Said
  said_of (Some k) g = record { fits = g.fits; top = λ j f. g.top j (fits-within rows p u j f) f }
  said_of None g = λ j. split (candidate p u (row_at rows j)) (λ t. clash t (g j (fits-within rows p u j t))) (λ t. t)

  said : Said (best_of rows p u)
  said = said_of (best_of rows p u) (good (length rows))

-- ---- the choice is right
module _ (rows : List Row) (u : List ℕ) where
  right_of : (e x w : Option ℕ) → Said rows Exact u e → Said rows Prefix u x → Said rows Wildcard u w → Right rows u (or_else e (or_else x w))
  unfolding Said wins_text
  right_of (Some k) x w g h i = exact k g.fits
  right_of None (Some k) w g h i =
      let fits = candidate-fits Prefix u in
      let most : (j : ℕ) → Fits rows Prefix u j → length (text_at rows j) ≤ length (text_at rows k) = λ j f. ltb-false _ _ (h.top j f) in
      prefix k g h.fits most
      (λ j f. more_bytes (text_at rows j) (text_at rows k) u (fits (row_at rows j) f) (fits (row_at rows k) h.fits) (most j f))
  right_of None None (Some k) g h i =
      let fits = candidate-fits Wildcard u in
      wildcard k g h i.fits
      (λ j f n. no_tie (text_at rows k) (text_at rows j) u (fits (row_at rows k) i.fits) (fits (row_at rows j) f) n ∙ ap not (i.top j f))
  right_of None None None g h i = nothing g h i

  choice-right : Right rows u (choice rows u)
  unfolding choice
  choice-right = right_of _ _ _ (said rows Exact u) (said rows Prefix u) (said rows Wildcard u)

  none_of : (p : Policy) → Right rows u None → NoneFits rows p u
  none_of Exact (nothing a b c) = a
  none_of Prefix (nothing a b c) = b
  none_of Wildcard (nothing a b c) = c

  -- nothing is chosen: no row fits
  none-fits : choice rows u ≡ None → (k : ℕ) → fits_row u (row_at rows k) ≡ false
  none-fits e k =
      split (fits_row u (row_at rows k))
      (λ t. clash (row-candidate u (row_at rows k) t) (none_of (row_at rows k).policy (rw e at choice-right) k))
      (λ t. t)

  -- no row fits: nothing is chosen
  chosen_none : {f : Option ℕ} → Right rows u f → ((k : ℕ) → fits_row u (row_at rows k) ≡ false) → f ≡ None
  chosen_none (exact k f) n = clash (candidate-row Exact u (row_at rows k) f) (n k)
  chosen_none (prefix k a f b c) n = clash (candidate-row Prefix u (row_at rows k) f) (n k)
  chosen_none (wildcard k a b f c) n = clash (candidate-row Wildcard u (row_at rows k) f) (n k)
  chosen_none (nothing a b c) n = refl

  nothing-exactly : (choice rows u ≡ None) ↔ ((k : ℕ) → fits_row u (row_at rows k) ≡ false)
  nothing-exactly = (none-fits, chosen_none choice-right)

-- ---- the order of the rows
-- a candidate of the first table is one of the second
carried :
    (xs ys : List Row) (p : Policy) (u : List ℕ) (k : ℕ) → Within xs ys → Fits xs p u k
    → (j : ℕ) × Fits ys p u j × (j < length ys) × (row_at ys j ≡ row_at xs k)
carried xs ys p u k w f =
    let j = w k (fits-within xs p u k f) in
    (j.0, ap (candidate p u) j.2 ∙ f, j.1, j.2)

module _ (xs ys : List Row) (u : List ℕ) (s : SameRows xs ys) where
  -- used rows with the same policy and text
  record Twins (j k : ℕ) : Type 0 where
    used : is_used (row_at xs j) ≡ true
    used-too : is_used (row_at ys k) ≡ true
    within : k < length ys
    policy : (row_at xs j).policy ≡ (row_at ys k).policy
    text : text_at xs j ≡ text_at ys k

  Agree : Option ℕ → Option ℕ → Type 0
  Agree (Some j) (Some k) = Twins j k
  Agree (Some j) None = ⊥
  Agree None (Some k) = ⊥
  Agree None None = Unit {0}

  twins : (p : Policy) (j k : ℕ) → Top xs p u j → Top ys p u k → Twins j k
  twins p j k g h =
      let there = carried xs ys p u j s.there g.fits in
      let back = carried ys xs p u k s.back h.fits in
      let lost : wins_text p (text_at xs j) (text_at ys k) ≡ false =
      ap (λ r. wins_text p (row_text r) (text_at ys k)) (sym there.3) ∙ h.top there.0 there.1 in
      let lost-too : wins_text p (text_at ys k) (text_at xs j) ≡ false =
      ap (λ r. wins_text p (row_text r) (text_at xs j)) (sym back.3) ∙ g.top back.0 back.1 in
      record {
        used = candidate-used p u (row_at xs j) g.fits;
        used-too = candidate-used p u (row_at ys k) h.fits;
        within = fits-within ys p u k h.fits;
        policy = candidate-policy p u (row_at xs j) g.fits ∙ sym (candidate-policy p u (row_at ys k) h.fits);
        text =
            wins-neither p (text_at xs j) (text_at ys k) u (candidate-fits p u (row_at xs j) g.fits)
            (candidate-fits p u (row_at ys k) h.fits) lost lost-too;
      }

  agree_of : (p : Policy) (e f : Option ℕ) → Said xs p u e → Said ys p u f → Agree e f
  unfolding Agree Said
  agree_of p (Some j) (Some k) g h = twins p j k g h
  agree_of p (Some j) None g h = let c = carried xs ys p u j s.there g.fits in clash c.1 (h c.0)
  agree_of p None (Some k) g h = let c = carried ys xs p u k s.back h.fits in clash c.1 (g c.0)
  agree_of p None None g h = tt

  agree-best : (p : Policy) → Agree (best_of xs p u) (best_of ys p u)
  agree-best p = agree_of p _ _ (said xs p u) (said ys p u)

  agree-else : (e f x y : Option ℕ) → Agree e f → Agree x y → Agree (or_else e x) (or_else f y)
  unfolding Agree
  agree-else (Some j) (Some k) x y a b = a
  agree-else (Some j) None x y a b = absurd a
  agree-else None (Some k) x y a b = absurd a
  agree-else None None x y a b = b

  agree : Agree (choice xs u) (choice ys u)
  unfolding choice
  agree = agree-else _ _ _ _ (agree-best Exact) (agree-else _ _ _ _ (agree-best Prefix) (agree-best Wildcard))

  no-place : {A : Type 0} (k : ℕ) → Some k ≡ None → A
  no-place k e = let z : ◌≡◌ {A = ℕ} 0 1 = cc in absurd (omega arith)

  both-nothing : (e f : Option ℕ) → Agree e f → (e ≡ None) ↔ (f ≡ None)
  unfolding Agree
  both-nothing (Some j) (Some k) a = (λ e. no-place j e, λ e. no-place k e)
  both-nothing (Some j) None a = absurd a
  both-nothing None (Some k) a = absurd a
  both-nothing None None a = (λ e. e, λ e. e)

  same-policy : (e f : Option ℕ) → Agree e f → (row_of xs e).policy ≡ (row_of ys f).policy
  unfolding Agree
  same-policy (Some j) (Some k) a = a.policy
  same-policy (Some j) None a = absurd a
  same-policy None (Some k) a = absurd a
  same-policy None None a = refl

  same-text : (e f : Option ℕ) → Agree e f → row_text (row_of xs e) ≡ row_text (row_of ys f)
  unfolding Agree
  same-text (Some j) (Some k) a = a.text
  same-text (Some j) None a = absurd a
  same-text None (Some k) a = absurd a
  same-text None None a = refl

  any_order : SameChoice xs ys u
  any_order = record {
    nothing = both-nothing _ _ agree;
    policy = same-policy _ _ agree;
    text = same-text _ _ agree;
  }

  one-row : Distinct xs → (e f : Option ℕ) → Agree e f → row_of xs e ≡ row_of ys f
  unfolding Agree
  one-row d (Some j) (Some k) a =
      let b = s.back k a.within in
      let e : row_at xs b.0 ≡ row_at ys k = b.2 in
      d j b.0 a.used (ap is_used e ∙ a.used-too) (a.policy ∙ sym (ap (λ r. r.policy) e)) (a.text ∙ sym (ap row_text e)) ∙ e
  one-row d (Some j) None a = absurd a
  one-row d None (Some k) a = absurd a
  one-row d None None a = refl

  same_row : Distinct xs → chosen xs u ≡ chosen ys u
  same_row d = one-row d _ _ agree

-- ---- the claims
pub matching : Matching
matching = record {
  no_tie = no_tie;
  one-prefix = one-prefix;
  more_bytes = more_bytes;
  choice-right = choice-right;
  nothing-exactly = nothing-exactly;
  any_order = any_order;
  same_row = same_row;
}
