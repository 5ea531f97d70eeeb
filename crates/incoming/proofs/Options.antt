-- The options of a message are read as specs/Shapes.antt says, from the members of its dict. Assumes nothing.
use Rattle.std.specs.Prelude.{Some, None, Option}
use Prim.Native.Nat.{ℕ, ◌≤◌}
use mathlib.Core.Bool.{Bool, true, false}
use mathlib.Core.List.{List, [], ◌∷◌}
use mathlib.Core.Logic.{◌⊎◌, inl, inr, ⊎_elim, ◌↔◌}
use mathlib.Core.Path.{◌≡◌, refl, sym, ap, subst, ◌∙◌}
use native.Mathlib.Omega.{arith}
use borrow.Author.Tests.{ne_eqb}
use lib.Dec.{eqb}
use lib.ListN.{length}
use Rattle.seq.specs.declared.Format.{Format}
use Rattle.seq.specs.declared.Format.TheVariants.{Json, MsgPack}
use Rattle.seq.specs.declared.Span.{Span}
use Rattle.seq.specs.Bytes.{chars, text_of, same}
use Rattle.seq.proofs.Logic.{split, clash}
use Rattle.seq.proofs.Bytes.{same-eq, same_refl, same-ne}
use Rattle.uri.specs.declared.Policy.{Policy}
use Rattle.uri.specs.declared.Policy.TheVariants.{Exact, Prefix, Wildcard}
use Rattle.msgpack.specs.Head.{form_of, head_of, head_at}
use Rattle.options.specs.Audience.{OptionValue, Absent, Given, Wrong, Audience, bool_text, flag_of, ids_of}
use Rattle.options.specs.Grammar.{IsFlag, IsIds}
use Rattle.options.proofs.Cases.{not-wrong}
use Rattle.options.proofs.Grammar.{flag_is, flag-absent, ids-is, ids-absent}
use Rattle.incoming.specs.Read.{option, policy_named, is_string, inside, text_by, policy_of, sound_value, match_in, sound_match, acknowledge_in, audience_in}
use Rattle.incoming.specs.Shapes.{IsString, Sound, Says, Options, Has, Lacks, true_text, Acknowledges, Chooses, Publishes, Matches}
use Rattle.incoming.proofs.Laws.{Laws}

length_none : (u : List ℕ) → length u ≡ 0 → u ≡ []
length_none [] z = refl
length_none (b ∷ u) z = absurd (omega arith)

differs : (u w : List ℕ) → same u w ≡ false → ¬ (u ≡ w)
differs u w q z = clash (rw z (same_refl w)) q

-- ---- what names a policy
policy-none : (f : Format) → policy_of f [] ≡ Some Exact
unfolding policy_of
policy-none f = refl

none-sound : (f : Format) → sound_value f [] ≡ true
unfolding head_at head_of form_of
none-sound Json = refl
none-sound MsgPack = refl

-- ---- the options that choose receivers
audience-made : {m n : OptionValue Bool} {e e' l l' : OptionValue (List ℕ)} → m ≡ n → e ≡ e' → l ≡ l'
    → ◌≡◌ {A = Audience} (record { exclude_me = m; exclude = e; eligible = l }) (record { exclude_me = n; exclude = e'; eligible = l' })
audience-made p q r = cc

-- what a value that is there leads to
module _ (f : Format) (v : List ℕ) (n : ¬ (v ≡ [])) where
  some : eqb (length v) 0 ≡ false
  some = ne_eqb (length v) 0 (λ z. n (length_none v z))

  policy-string : is_string f v ≡ true → policy_of f v ≡ policy_named (text_by f (inside f v))
  unfolding policy_of
  policy-string q = rw (some, q)

  policy-other : is_string f v ≡ false → policy_of f v ≡ None
  unfolding policy_of
  policy-other q = rw (some, q)

-- the options, which are the element of s that has the span p
module _ (f : Format) (w : Laws f) (s : List ℕ) (l : length s ≤ 2048) (p : Span) where
  abbrev t : List ℕ
  t = text_of s p

  has-option : (key v : List ℕ) → Has f key v t → option f key s p ≡ v
  has-option key v h = w.has-is s p l key v h

  lacks-option : (key : List ℕ) → Lacks f key t → option f key s p ≡ []
  lacks-option key (d, n) = ⊎_elim (λ h. absurd (n (option f key s p) h)) (λ e. e) (w.has-found s p l key d)

  option-found : (key : List ℕ) → Options f t → Has f key (option f key s p) t ⊎ Lacks f key t
  option-found key d =
      ⊎_elim (λ h. inl h) (λ e. inr (d, λ v h. w.has_some key v t h (sym (has-option key v h) ∙ e))) (w.has-found s p l key d)

  -- ---- `acknowledge`
  pub acknowledge-found : Options f t → Acknowledges f (acknowledge_in f s p) t
  unfolding acknowledge_in
  acknowledge-found d = go (same (option f (chars "acknowledge") s p) (bool_text f true)) refl
    where
      go : (b : Bool) → same (option f (chars "acknowledge") s p) (bool_text f true) ≡ b → Acknowledges f b t
      go true q =
          let e : option f (chars "acknowledge") s p ≡ true_text f = same-eq _ _ q ∙ w.true-is in
          ⊎_elim (λ h. subst (λ (v : List ℕ). Has f (chars "acknowledge") v t) e h)
          (λ n. absurd (w.true-some (sym e ∙ lacks-option _ n)))
          (option-found (chars "acknowledge") d)
      go false q = (d, λ h. clash (rw (has-option _ _ h, w.true-is) (same_refl (true_text f))) q)

  pub acknowledge-is : (b : Bool) → Acknowledges f b t → acknowledge_in f s p ≡ b
  unfolding acknowledge_in
  acknowledge-is true h = rw (has-option _ _ h, w.true-is) (same_refl (true_text f))
  acknowledge-is false (d, n) =
      split (acknowledge_in f s p) (λ q. absurd (n (subst (λ (b : Bool). Acknowledges f b t) q (acknowledge-found d)))) (λ q. q)

  -- ---- the options that choose receivers
  -- one of them, whose values are read as the kind that they are
  module _ {A : Type 0} (of : List ℕ → OptionValue A) (Kind : A → List ℕ → Type 0) (given : (v : List ℕ) (a : A) → (of v ≡ Given a) ↔ Kind a v)
      (absent : (v : List ℕ) → (of v ≡ Absent) ↔ (v ≡ [])) (key : List ℕ) where
    by_value : (v : List ℕ) → Has f key v t → (o : OptionValue A) → of v ≡ o → Chooses f Kind key o t
    by_value v h Absent q = absurd (w.has_some key v t h ((absent v).0 q))
    by_value v h (Given a) q = (v, h, (given v a).0 q)
    by_value v h Wrong q = (v, h, λ a k. not-wrong (sym q ∙ (given v a).1 k))

    chooses-found : Options f t → Chooses f Kind key (of (option f key s p)) t
    chooses-found d =
        ⊎_elim (λ h. by_value (option f key s p) h (of (option f key s p)) refl)
        (λ n. subst (λ (o : OptionValue A). Chooses f Kind key o t) (sym (ap of (lacks-option key n) ∙ (absent []).1 refl)) n)
        (option-found key d)

    not-given : (v : List ℕ) → ¬ (v ≡ []) → ((a : A) → ¬ (Kind a v)) → (o : OptionValue A) → of v ≡ o → o ≡ Wrong
    not-given v n k Absent q = absurd (n ((absent v).0 q))
    not-given v n k (Given a) q = absurd (k a ((given v a).0 q))
    not-given v n k Wrong q = refl

    chooses-is : (o : OptionValue A) → Chooses f Kind key o t → of (option f key s p) ≡ o
    chooses-is Absent n = ap of (lacks-option key n) ∙ (absent []).1 refl
    chooses-is (Given a) (v, h, k) = ap of (has-option key v h) ∙ (given v a).1 k
    chooses-is Wrong (v, h, k) = ap of (has-option key v h) ∙ not-given v (w.has_some key v t h) k (of v) refl

  pub publishes-found : Options f t → Publishes f (acknowledge_in f s p) (audience_in f s p) t
  unfolding audience_in
  publishes-found d = (
    acknowledge-found d,
    chooses-found (flag_of f) (IsFlag f) (flag_is f) (flag-absent f) _ d,
    chooses-found (ids_of f) (IsIds f) (ids-is f) (ids-absent f) _ d,
    chooses-found (ids_of f) (IsIds f) (ids-is f) (ids-absent f) _ d,
  )

  pub audience-is : (b : Bool) (a : Audience) → Publishes f b a t → audience_in f s p ≡ a
  unfolding audience_in
  audience-is b a (x, m, e, l) =
      audience-made (chooses-is (flag_of f) (IsFlag f) (flag_is f) (flag-absent f) _ a.exclude_me m)
      (chooses-is (ids_of f) (IsIds f) (ids-is f) (ids-absent f) _ a.exclude e)
      (chooses-is (ids_of f) (IsIds f) (ids-is f) (ids-absent f) _ a.eligible l)

  -- ---- `match`
  abbrev value-is : List ℕ → Type 0
  value-is v = Has f (chars "match") v t

  -- the text found is none of the three, or one of them
  named-found : (v : List ℕ) → value-is v → IsString f v → Sound f v → Matches f (policy_named (text_by f (inside f v))) t
  unfolding policy_named
  named-found v h g a =
      let u = text_by f (inside f v) in
      let x = w.says-found v g a in
      let not : (text : List ℕ) → same u text ≡ false → ¬ (Says f text v) = λ text q y. differs u text q (w.says_is text v y) in
      split (same u (chars "exact"))
      (λ q. rw q (inr (v, h, subst (λ (y : List ℕ). Says f y v) (same-eq _ _ q) x)))
      (λ n₁.
      split (same u (chars "prefix"))
      (λ q. rw (n₁, q) (v, h, subst (λ (y : List ℕ). Says f y v) (same-eq _ _ q) x))
      (λ n₂.
      split (same u (chars "wildcard"))
      (λ q. rw (n₁, n₂, q) (v, h, subst (λ (y : List ℕ). Says f y v) (same-eq _ _ q) x))
      (λ n₃. rw (n₁, n₂, n₃) (v, h, λ z. a, not _ n₁, not _ n₂, not _ n₃))))

  policy-found : (v : List ℕ) → value-is v → sound_value f v ≡ true → Matches f (policy_of f v) t
  policy-found v h c =
      let n = w.has_some _ v t h in
      split (is_string f v)
      (λ q.
      let a = w.sound-found v (rw q at c) in
      rw (policy-string f v n q) (named-found v h (w.has-string _ v t h q) a))
      (λ q.
      let no : ¬ (IsString f v) = λ g. clash (w.string-is v g) q in
      let other : (text : List ℕ) → ¬ (Says f text v) = λ text y. no (w.says-string text v y) in
      rw (policy-other f v n q) (v, h, λ g. absurd (no g), other _, other _, other _))

  pub match-found : Options f t → sound_match f s p ≡ true → Matches f (match_in f s p) t
  unfolding match_in sound_match
  match-found d c =
      ⊎_elim (λ h. policy-found (option f (chars "match") s p) h c)
      (λ n. subst (λ (v : List ℕ). Matches f (policy_of f v) t) (sym (lacks-option _ n)) (rw policy-none (inl n)))
      (option-found (chars "match") d)

  -- the policy that is named, and that no half stands alone where it is
  string-names : (v : List ℕ) → value-is v → IsString f v → Sound f v
      → (match_in f s p ≡ policy_named (text_by f (inside f v))) × (sound_match f s p ≡ true)
  unfolding match_in sound_match
  string-names v h g a = (
    ap (policy_of f) (has-option _ v h) ∙ policy-string f v (w.has_some _ v t h) (w.string-is v g),
    ap (sound_value f) (has-option _ v h) ∙ rw (w.string-is v g) (w.sound-is v a),
  )

  names-is : (v text : List ℕ) → value-is v → Says f text v → (match_in f s p ≡ policy_named text) × (sound_match f s p ≡ true)
  names-is v text h y =
      let (q, c) = string-names v h (w.says-string text v y) (w.says-sound text v y) in
      (q ∙ ap policy_named (w.says_is text v y), c)

  pub match_is : (m : Option Policy) → Matches f m t → (match_in f s p ≡ m) × (sound_match f s p ≡ true)
  unfolding match_in sound_match policy_named same
  match_is (Some Exact) m =
      ⊎_elim (λ n. (ap (policy_of f) (lacks-option _ n) ∙ policy-none f, ap (sound_value f) (lacks-option _ n) ∙ none-sound f)) (λ (v, h, y). names-is v _ h y) m
  match_is (Some Prefix) (v, h, y) = names-is v _ h y
  match_is (Some Wildcard) (v, h, y) = names-is v _ h y
  match_is None (v, h, a, x, y, z) =
      split (is_string f v)
      (λ q.
      let g = w.has-string _ v t h q in
      let (e, c) = string-names v h g (a g) in
      let u = text_by f (inside f v) in
      let says : (text : List ℕ) → u ≡ text → Says f text v = λ text k. subst (λ (r : List ℕ). Says f r v) k (w.says-found v g (a g)) in (
        e ∙ rw (
          same-ne u (chars "exact") (λ k. x (says _ k)),
          same-ne u (chars "prefix") (λ k. y (says _ k)),
          same-ne u (chars "wildcard") (λ k. z (says _ k)),
        ),
        c,
      ))
      (λ q. (
        ap (policy_of f) (has-option _ v h) ∙ policy-other f v (w.has_some _ v t h) q,
        ap (sound_value f) (has-option _ v h) ∙ rw q,
      ))
