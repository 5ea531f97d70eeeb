-- Whom the options of a PUBLISH leave, as the step tests it and as specs/Demands.antt says it of session IDs. Assumes nothing.
use Prim.Native.Nat.{ℕ}
use mathlib.Core.Bool.{Bool, true, false, not, ◌||◌}
use mathlib.Core.List.{List}
use mathlib.Core.Logic.{◌⊎◌, inl, inr, ◌↔◌}
use mathlib.Core.Path.{◌≡◌, refl, sym, ap, subst}
use lib.Dec.{eqb}
use borrow.Author.Tests.{eqb-true, eq-eqb}
use Rattle.seq.proofs.Logic.{split, clash, and_left, and_right, not_is}
use Rattle.seq.proofs.Rules.{all-at}
use Rattle.pattern.specs.Choice.{no_row, fits_row}
use Rattle.options.specs.Audience.{OptionValue, Absent, Given, Wrong, Audience, lists, keeps_me, excludes, admits, leaves, is_wrong, any_wrong}
use Rattle.options.proofs.Cases.{given_is, not-wrong as no-wrong, not-absent}
use Rattle.options.proofs.Laws.{lists-in}
use Rattle.uri.specs.Uri.{valid_topic}
use Rattle.model.specs.declared.Hub.{Hub}
use Rattle.model.specs.State.{session, unused, holds, row_at}
use Rattle.model.specs.Rules.{OpenAt, UsedRow, SomeMember, Lawful}
use Rattle.model.specs.Run.{In}
use Rattle.model.specs.Demands.{id_at, Leaves, Proper, Improper}

-- ---- what each says
keeps-is : (o : OptionValue Bool) → (keeps_me o ≡ true) ↔ (o ≡ Given false)
keeps-is Absent = (λ q. clash q refl, λ e. not-absent e)
keeps-is Wrong = (λ q. clash q refl, λ e. no-wrong e)
keeps-is (Given true) = (λ q. clash q refl, λ e. let z : true ≡ false = given_is e in clash refl z)
keeps-is (Given false) = (λ q. refl, λ e. refl)

excludes-is : (o : OptionValue (List ℕ)) (id : ℕ) → (not (excludes o id) ≡ true) ↔ ((ids : List ℕ) → o ≡ Given ids → ¬ (In id ids))
excludes-is Absent id = (λ q ids e. not-absent e, λ n. refl)
excludes-is Wrong id = (λ q ids e. no-wrong e, λ n. refl)
excludes-is (Given ns) id = (
  λ q ids e k. clash ((lists-in id ns).1 (subst (In id) (sym (given_is e)) k)) (not_is (lists id ns) q),
  λ n. split (lists id ns) (λ t. absurd (n ns refl ((lists-in id ns).0 t))) (λ t. rw t),
)

admits-is : (o : OptionValue (List ℕ)) (id : ℕ) → (admits o id ≡ true) ↔ ((ids : List ℕ) → o ≡ Given ids → In id ids)
admits-is Absent id = (λ q ids e. not-absent e, λ n. refl)
admits-is Wrong id = (λ q ids e. no-wrong e, λ n. refl)
admits-is (Given ns) id = (λ q ids e. subst (In id) (given_is e) ((lists-in id ns).0 q), λ n. (lists-in id ns).1 (n ns refl))

-- ---- one of them is wrong, or none
wrong-is : {A : Type 0} (o : OptionValue A) → is_wrong o ≡ true → o ≡ Wrong
wrong-is Absent q = clash q refl
wrong-is Wrong q = refl
wrong-is (Given a) q = clash q refl

not-wrong : {A : Type 0} (o : OptionValue A) → is_wrong o ≡ false → ¬ (o ≡ Wrong)
not-wrong o q e = clash (ap is_wrong e) q

right_is : {A : Type 0} (o : OptionValue A) → ¬ (o ≡ Wrong) → is_wrong o ≡ false
right_is o n = split (is_wrong o) (λ t. absurd (n (wrong-is o t))) (λ t. t)

pub improper-is : (a : Audience) → Improper a → any_wrong a ≡ true
unfolding any_wrong
improper-is a (inl e) = rw e
improper-is a (inr (inl e)) = split (is_wrong a.exclude_me) (λ t. rw t) (λ t. rw (t, e))
improper-is a (inr (inr e)) =
    split (is_wrong a.exclude_me) (λ t. rw t) (λ t. split (is_wrong a.exclude) (λ u. rw (t, u)) (λ u. rw (t, u, e)))

pub proper-is : (a : Audience) → Proper a → any_wrong a ≡ false
unfolding any_wrong
proper-is a (m, e, l) = rw (right_is a.exclude_me m, right_is a.exclude e, right_is a.eligible l)

pub proper-or : (a : Audience) → (Improper a) ⊎ (Proper a)
proper-or a =
    split (is_wrong a.exclude_me) (λ t. inl (inl (wrong-is a.exclude_me t)))
    (λ m.
    split (is_wrong a.exclude) (λ t. inl (inr (inl (wrong-is a.exclude t))))
    (λ e.
    split (is_wrong a.eligible) (λ t. inl (inr (inr (wrong-is a.eligible t))))
    (λ l. inr (not-wrong a.exclude_me m, not-wrong a.exclude e, not-wrong a.eligible l))))

-- ---- whom they leave
-- a member's slot is one of the hub's, and its session is open
module _ (h : Hub) (lawful : Lawful h) (topic : List ℕ) (k j : ℕ) (fits : fits_row topic (row_at h.subscriptions k) ≡ true)
    (member : holds j (row_at h.subscriptions k) ≡ true) where
  used : unused (row_at h.subscriptions k) ≡ false
  unfolding fits_row
  used = not_is (unused (row_at h.subscriptions k)) (and_left _ _ fits)

  pub member-open : OpenAt h j
  member-open =
      (all-at (λ r. unused r ≡ false → UsedRow h h.subscriptions.counter valid_topic SomeMember r) no_row h.subscriptions.rows k
      (λ f. clash refl f) lawful.subscriptions.each used).holding j member

-- the options leave an open session: by its slot and its ID, or by IDs alone
module _ (h : Hub) (lawful : Lawful h) (i : ℕ) (a : Audience) (me : OpenAt h i) (j : ℕ) (it : OpenAt h j) where
  abbrev id : ℕ
  id = id_at h j

  pub leaves-is : leaves a (eqb j i) id ≡ true → Leaves h i a j
  unfolding leaves
  leaves-is q =
      let own = and_left (not (eqb j i) || keeps_me a.exclude_me) _ q in
      let lists = and_right (not (eqb j i) || keeps_me a.exclude_me) _ q in (
        λ e.
            let same : j ≡ i = lawful.ids_distinct j i it me e in
            (keeps-is a.exclude_me).0 (rw (eq-eqb j i same) at own),
        (excludes-is a.exclude id).0 (and_left (not (excludes a.exclude id)) _ lists),
        (admits-is a.eligible id).0 (and_right (not (excludes a.exclude id)) _ lists),
      )

  pub is-leaves : Leaves h i a j → leaves a (eqb j i) id ≡ true
  unfolding leaves
  is-leaves (m, e, l) =
      let own : (not (eqb j i) || keeps_me a.exclude_me) ≡ true =
      split (eqb j i) (λ t. rw (t, (keeps-is a.exclude_me).1 (m (ap (id_at h) (eqb-true j i t))))) (λ t. rw t) in
      rw (own, (excludes-is a.exclude id).1 e, (admits-is a.eligible id).1 l)
