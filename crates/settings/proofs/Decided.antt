-- The longest rule that fits decides. Assumes nothing.
use Prim.Native.Nat.{ℕ, ◌≤◌, ◌<◌}
use mathlib.Core.Bool.{Bool, true, false, ◌&&◌}
use mathlib.Core.List.{List, [], ◌∷◌}
use mathlib.Core.Logic.{◌↔◌, ◌⊎◌, inl, inr, ⊎_elim}
use mathlib.Core.Path.{◌≡◌, refl, sym, ap, ◌∙◌}
use native.Mathlib.Omega.{arith}
use borrow.Author.Tests.{eqb-true, eqb-false, eq-eqb, ltb-true, ltb-false}
use lib.Dec.{eqb, ltb}
use lib.ListN.{length}
use Rattle.seq.specs.Lists.{Pairs, In}
use Rattle.seq.proofs.Logic.{split, clash, and_left, and_right}
use Rattle.seq.proofs.Rules.{all_in}
use Rattle.seq.proofs.Bytes.{same_refl}
use Rattle.uri.specs.declared.Policy.TheVariants.{Prefix}
use Rattle.pattern.specs.Match.{fits_text}
use Rattle.pattern.proofs.Order.{one-prefix}
use Rattle.settings.specs.declared.Action.{Action}
use Rattle.settings.specs.Settings.{Rule, Settings, action_no, rules_apart, keeps_rules, fits, decided, allowed, Denied}
use Rattle.settings.proofs.Kept.{RuleKept, rules-distinct, rules-kept}

-- ---- what is decided: as before, where no rule that fits is longer; else as the longest that fits says
data Outcome (fit : Rule → Bool) (best : ℕ) (said : Bool) (rs : List Rule) (out : Bool) : Type 0 where
  kept : out ≡ said → ((r : Rule) → In r rs → fit r ≡ true → length r.prefix ≤ best) → Outcome fit best said rs out
  told : (rule : Rule) → In rule rs → fit rule ≡ true → best < length rule.prefix → out ≡ eqb rule.verdict 1
      → ((r : Rule) → In r rs → fit r ≡ true → length r.prefix ≤ length rule.prefix)
      → Outcome fit best said rs out

-- a rule that fits and does not decide is not longer than the one that does
shorter : (fit : Rule → Bool) (best : ℕ) (x : Rule) → (fit x && ltb best (length x.prefix)) ≡ false → fit x ≡ true → length x.prefix ≤ best
shorter fit best x t f = ltb-false best (length x.prefix) (rw f at t)

module _ (fit : Rule → Bool) (best : ℕ) (said : Bool) (x : Rule) (rs : List Rule) (out : Bool) where
  -- a rule that does not decide comes before the others
  passed : (fit x && ltb best (length x.prefix)) ≡ false → Outcome fit best said rs out → Outcome fit best said (x ∷ rs) out
  passed t (kept e low) =
      kept e (λ r i f. ⊎_elim (λ (q : r ≡ x). rw q (shorter fit best x t (rw q at f))) (λ j. low r j f) i)
  passed t (told rule i f more e low) =
      told rule (inr i) f more e
      (λ r j g.
      ⊎_elim (λ (q : r ≡ x). (let h = shorter fit best x t (rw q at g) in let k : length x.prefix ≤ length rule.prefix = omega arith in rw q k)) (λ k. low r k g) j)

  -- one that does
  replaced : (fit x && ltb best (length x.prefix)) ≡ true → Outcome fit (length x.prefix) (eqb x.verdict 1) rs out
      → Outcome fit best said (x ∷ rs) out
  replaced t (kept e low) =
      told x (inl refl) (and_left (fit x) _ t) (ltb-true best (length x.prefix) (and_right (fit x) _ t)) e
      (λ r i f. ⊎_elim (λ (q : r ≡ x). (let k : length x.prefix ≤ length x.prefix = omega arith in rw q k)) (λ j. low r j f) i)
  replaced t (told rule i f more e low) =
      let l = ltb-true best (length x.prefix) (and_right (fit x) _ t) in
      told rule (inr i) f (omega arith) e
      (λ r j g. ⊎_elim (λ (q : r ≡ x). (let k : length x.prefix ≤ length rule.prefix = omega arith in rw q k)) (λ k. low r k g) j)

outcome : (fit : Rule → Bool) (best : ℕ) (said : Bool) (rs : List Rule) → Outcome fit best said rs (decided fit best said rs)
unfolding decided
outcome fit best said [] = kept refl (λ r i f. absurd i)
outcome fit best said (x ∷ rs) =
    split (fit x && ltb best (length x.prefix))
    (λ t. rw t (replaced fit best said x rs _ t (outcome fit (length x.prefix) (eqb x.verdict 1) rs)))
    (λ t. rw t (passed fit best said x rs _ t (outcome fit best said rs)))

-- ---- two rules that fit and have as many bytes are one rule
pairs-in : {A : Type 0} (R : A → A → Type 0) (l : List A) (a b : A) → Pairs R l → In a l → In b l → (a ≡ b) ⊎ (R a b ⊎ R b a)
pairs-in R [] a b p i j = absurd i
pairs-in R (x ∷ l) a b p (inl e) (inl f) = inl (e ∙ sym f)
pairs-in R (x ∷ l) a b p (inl e) (inr j) = inr (inl (rw e (all_in (R x) l b p.0 j)))
pairs-in R (x ∷ l) a b p (inr i) (inl f) = inr (inr (rw f (all_in (R x) l a p.0 i)))
pairs-in R (x ∷ l) a b p (inr i) (inr j) = pairs-in R l a b p.1 i j

alike : (r q : Rule) → r.slot ≡ q.slot → r.action ≡ q.action → r.prefix ≡ q.prefix → rules_apart r q ≡ false
unfolding rules_apart
alike r q s a p = rw (eq-eqb r.slot q.slot s, eq-eqb r.action q.action a, p, same_refl q.prefix)

module _ (slot action : ℕ) (text : List ℕ) (r : Rule) (f : fits slot action text r ≡ true) where
  fits-slot : r.slot ≡ slot
  unfolding fits
  fits-slot = eqb-true r.slot slot (and_left (eqb r.slot slot) _ f)

  fits-action : r.action ≡ action
  unfolding fits
  fits-action = eqb-true r.action action (and_left (eqb r.action action) _ (and_right (eqb r.slot slot) _ f))

  fits-prefix : fits_text Prefix r.prefix text ≡ true
  unfolding fits
  fits-prefix = and_right (eqb r.action action) _ (and_right (eqb r.slot slot) _ f)

abbrev fitting : ℕ → Action → List ℕ → Rule → Bool
fitting slot action text = fits slot (action_no action) text

module _ (x : Settings) (e : keeps_rules x ≡ true) (slot : ℕ) (action : Action) (text : List ℕ) where
  one-rule : (r q : Rule) → In r x.rules → In q x.rules → fitting slot action text r ≡ true → fitting slot action text q ≡ true
      → length r.prefix ≡ length q.prefix → r ≡ q
  one-rule r q i j f g n =
      let s = fits-slot slot (action_no action) text r f ∙ sym (fits-slot slot (action_no action) text q g) in
      let a = fits-action slot (action_no action) text r f ∙ sym (fits-action slot (action_no action) text q g) in
      let p = one-prefix r.prefix q.prefix text (fits-prefix slot (action_no action) text r f) (fits-prefix slot (action_no action) text q g) n in
      ⊎_elim (λ t. t) (⊎_elim (λ t. clash t (alike r q s a p)) (λ t. clash t (alike q r (sym s) (sym a) (sym p))))
      (pairs-in (λ b c. rules_apart b c ≡ true) x.rules r q (rules-distinct x e) i j)

  -- what the outcome says of a denial, and what a denial says of the outcome
  says-no : (out : Bool) → Outcome (fitting slot action text) 0 true x.rules out → out ≡ false → Denied x slot action text
  says-no out (kept t low) n = clash refl (sym t ∙ n)
  says-no out (told rule i f more t low) n =
      let v = (all_in RuleKept x.rules rule (rules-kept x e) i).verdict in
      let w = eqb-false rule.verdict 1 (sym t ∙ n) in
      record { rule = rule; among = i; fitting = f; no = omega arith; longest = low }

  said-no : (out : Bool) → Outcome (fitting slot action text) 0 true x.rules out → Denied x slot action text → out ≡ false
  said-no out (kept t low) d =
      let s = (all_in RuleKept x.rules d.rule (rules-kept x e) d.among).prefix.some in
      let l = low d.rule d.among d.fitting in
      absurd (omega arith)
  said-no out (told rule i f more t low) d =
      let a = low d.rule d.among d.fitting in
      let b = d.longest rule i f in
      let q = one-rule rule d.rule i d.among f d.fitting (omega arith) in
      t ∙ ap (λ r. eqb r.verdict 1) q ∙ ap (λ v. eqb v 1) d.no

  pub denied-is : (allowed x slot action text ≡ false) ↔ Denied x slot action text
  unfolding allowed
  denied-is =
      let o = outcome (fitting slot action text) 0 true x.rules in
      (says-no _ o, said-no _ o)
