-- Each test of a file passes exactly where its proposition holds, and each outcome is told exactly where its own holds. Assumes nothing.
use Rattle.std.specs.Prelude.{⊤, Result, Ok, Err}
use Prim.Native.Nat.{ℕ, ◌+◌, ◌≤◌, ◌<◌}
use mathlib.Core.Bool.{Bool, true, false, not, ◌&&◌}
use mathlib.Core.List.{List, [], ◌∷◌}
use mathlib.Core.Logic.{inl, inr, ◌↔◌}
use mathlib.Core.Path.{◌≡◌, refl, sym, ap, subst, ◌∙◌}
use native.Mathlib.Omega.{arith}
use borrow.Author.Tests.{eqb-true, eq-eqb, ltb-true, ltb-false, leb-true, leb-false, le-leb, lt-leb, not-true, not-false}
use lib.Dec.{eqb, leb}
use lib.ListN.{length}
use Rattle.seq.specs.Lists.{every, pairwise, is_empty, Pairs}
use Rattle.seq.specs.Bytes.{same}
use Rattle.seq.proofs.Logic.{Decides, passes, fails, split, clash, and_left, and_right, and_both, or_right, or-given, cond-case, not-both, both-not}
use Rattle.seq.proofs.Rules.{all-every, every-all, pairwise-pairs, pairs-pairwise, pairs-map}
use Rattle.seq.proofs.Bytes.{same-eq, same_refl}
use Rattle.contents.specs.Contents.{version, cut_short, overlaps, kinds_good, body_of}
use Rattle.contents.specs.Claims.{Kinds}
use Rattle.contents.proofs.Tests.{kinds}
use Rattle.settings.specs.Settings.{Rule, Settings, most_rules, realm_good, rule_good, rules_apart, wait_good, values_good, keeps_rules}
use Rattle.settings_file.specs.declared.Version.{Version}
use Rattle.settings_file.specs.declared.Refusal.{Refusal}
use Rattle.settings_file.specs.declared.Refusal.TheVariants.{BadState, NoRoom, UnknownVersion, CutShort, Overlap, WrongKinds, WrongLength, TooManyRules, RuleTwice, OutsideRule}
use Rattle.settings_file.specs.File.{version_no, realm_kind, rules_kind, wait_kind, kind_count, has_wait, rules_in, whole_rules, settings_in, unknown_version, wrong_kinds, realm_fits, wait_fits, wrong_length, too_many_rules, rule_twice, outside_rule, judged}
use Rattle.settings_file.specs.Claims.{Bodies, Apart, Values, Unknown, Known, Whole, Clear, Sorted, Fitted, Few, Distinct, Refusals}
use Rattle.settings_file.proofs.Written.{whole_back, rules-same}

-- ---- a test that passes exactly if a proposition does not hold
record Denies (t : Bool) (P : Type 0) : Type 0 where
  holds : t ≡ false → P
  breaks : t ≡ true → ¬ P

denies : {t : Bool} {P : Type 0} → Decides t P → Denies (not t) P
denies {t} d = record { holds = λ e. d.yes (not-false t e); breaks = λ e. d.no (not-true t e) }

module _ {t : Bool} {P : Type 0} (d : Denies t P) where
  past : P → t ≡ false
  past p = split t (λ e. absurd (d.breaks e p)) (λ e. e)

  caught : ¬ P → t ≡ true
  caught n = split t (λ e. e) (λ e. absurd (n (d.holds e)))

-- ---- what each test decides
-- 6
module _ (v : Version) (s : List ℕ) where
  unknown : Decides (unknown_version v s) (Unknown v s)
  unfolding unknown_version
  unknown = record { yes = told s; no = λ e h. clash (is s h) e }
    where
      known : List ℕ → Bool
      known s = leb 1 (version s) && leb (version s) (version_no v)

      told : (s : List ℕ) → (not (is_empty s) && not (known s)) ≡ true → Unknown v s
      told [] e = clash e refl
      told (x ∷ s) e = (
        omega arith,
        split (leb 1 x) (λ t. inr (leb-false x (version_no v) (not-true (leb x (version_no v)) (rw t at e)))) (λ t. let l = leb-false 1 x t in inl (omega arith)),
      )

      is : (s : List ℕ) → Unknown v s → (not (is_empty s) && not (known s)) ≡ true
      is [] h = let l = h.0 in absurd (omega arith)
      is (x ∷ s) (l, inl e) = rw e
      is (x ∷ s) (l, inr h) = rw (le-leb 1 x (omega arith), lt-leb x (version_no v) h)

-- 9
kinds-right : (s : List ℕ) → Decides (kinds_good (kind_count s) s) (Kinds (kind_count s) s)
kinds-right s = record { yes = (kinds (kind_count s) s).0; no = λ e h. clash ((kinds (kind_count s) s).1 h) e }

-- 10
realm-told : (b : List ℕ) → realm_fits b ≡ true → (t : List ℕ) × (b ≡ length t ∷ t)
unfolding realm_fits
realm-told [] e = let z = eqb-true 0 1 e in absurd (omega arith)
realm-told (n ∷ t) e = let l = eqb-true (length (n ∷ t)) (1 + n) e in let m : n ≡ length t = omega arith in (t, ap (λ k. k ∷ t) m)

realm-is : (b t : List ℕ) → b ≡ length t ∷ t → realm_fits b ≡ true
unfolding realm_fits
realm-is b t e = rw e (eq-eqb (length (length t ∷ t)) (1 + length t) (omega arith))

module _ (s : List ℕ) where
  wait-told : wait_fits s ≡ true → has_wait s ≡ true → length (body_of wait_kind s) ≡ 4
  unfolding wait_fits
  wait-told e h = eqb-true (length (body_of wait_kind s)) 4 (or_right (not (has_wait s)) _ e (ap not h))

  wait-is : (has_wait s ≡ true → length (body_of wait_kind s) ≡ 4) → wait_fits s ≡ true
  unfolding wait_fits
  wait-is f = or-given (not (has_wait s)) _ (λ e. eq-eqb (length (body_of wait_kind s)) 4 (f (not-false (has_wait s) e)))

  abbrev fitting : Bool
  fitting = realm_fits (body_of realm_kind s) && (whole_rules (body_of rules_kind s) && wait_fits s)

  bodies_right : Decides fitting (Bodies s)
  bodies_right = record { yes = told; no = λ e h. clash (is h) e }
    where
      told : fitting ≡ true → Bodies s
      told e =
          let f = and_right (realm_fits (body_of realm_kind s)) _ e in
          record {
            realm = realm-told (body_of realm_kind s) (and_left (realm_fits (body_of realm_kind s)) _ e);
            rules = (rules_in (body_of rules_kind s), sym (rules-same (body_of rules_kind s) (and_left (whole_rules (body_of rules_kind s)) _ f)));
            wait = wait-told (and_right (whole_rules (body_of rules_kind s)) _ f);
          }

      is : Bodies s → fitting ≡ true
      is h =
          and_both (realm-is (body_of realm_kind s) h.realm.0 h.realm.1)
          (and_both (ap whole_rules h.rules.1 ∙ whole_back h.rules.0) (wait-is h.wait))

-- 12
apart-told : (r q : Rule) → rules_apart r q ≡ true → Apart r q
unfolding rules_apart
apart-told r q e h =
    both-not (eqb r.slot q.slot) _ e (eq-eqb r.slot q.slot h.0)
    (and_both (eq-eqb r.action q.action h.1) (ap (same r.prefix) (sym h.2) ∙ same_refl r.prefix))

apart-is : (r q : Rule) → Apart r q → rules_apart r q ≡ true
unfolding rules_apart
apart-is r q f =
    not-both (eqb r.slot q.slot) (eqb r.action q.action && same r.prefix q.prefix) (λ a e.
    f (
      eqb-true r.slot q.slot a,
      eqb-true r.action q.action (and_left (eqb r.action q.action) _ e),
      same-eq r.prefix q.prefix (and_right (eqb r.action q.action) _ e),
    ))

pub rules-right : (rs : List Rule) → Decides (pairwise rules_apart rs) (Pairs Apart rs)
rules-right rs =
    record {
      yes = λ e. pairs-map (λ r q. rules_apart r q ≡ true) Apart apart-told rs (pairwise-pairs rules_apart rs e);
      no = λ e h. clash (pairs-pairwise rules_apart rs (pairs-map Apart (λ r q. rules_apart r q ≡ true) apart-is rs h)) e;
    }

-- 13
pub values-right : (x : Settings) → Decides (values_good x) (Values x)
unfolding values_good wait_good
values-right x = record { yes = told; no = λ e h. clash (is h) e }
  where
    told : (realm_good x.realm && (every rule_good x.rules && (leb 1 x.wait && leb x.wait 60000))) ≡ true → Values x
    told e =
        let f = and_right (realm_good x.realm) _ e in
        let g = and_right (every rule_good x.rules) _ f in
        record {
          realm = and_left (realm_good x.realm) _ e;
          rules = every-all rule_good x.rules (and_left (every rule_good x.rules) _ f);
          wait = (leb-true 1 x.wait (and_left (leb 1 x.wait) _ g), leb-true x.wait 60000 (and_right (leb 1 x.wait) _ g));
        }

    is : Values x → (realm_good x.realm && (every rule_good x.rules && (leb 1 x.wait && leb x.wait 60000))) ≡ true
    is h =
        and_both h.realm
        (and_both (all-every rule_good x.rules h.rules) (and_both (le-leb 1 x.wait h.wait.0) (le-leb x.wait 60000 h.wait.1)))

-- ---- the tests of a file
module _ (s : List ℕ) where
  wrong-kinds : Denies (wrong_kinds s) (Kinds (kind_count s) s)
  unfolding wrong_kinds
  wrong-kinds = denies (kinds-right s)

  wrong-length : Denies (wrong_length s) (Bodies s)
  unfolding wrong_length
  wrong-length = denies (bodies_right s)

  too_many : Denies (too_many_rules s) (length (settings_in s).rules ≤ most_rules)
  unfolding too_many_rules
  too_many =
      record {
        holds = ltb-false most_rules (length (settings_in s).rules);
        breaks = λ e h. let l = ltb-true most_rules (length (settings_in s).rules) e in omega arith;
      }

  rule-twice : Denies (rule_twice s) (Pairs Apart (settings_in s).rules)
  unfolding rule_twice
  rule-twice = denies (rules-right (settings_in s).rules)

  outside-rule : Denies (outside_rule s) (Values (settings_in s))
  unfolding outside_rule
  outside-rule = denies (values-right (settings_in s))

-- ---- the outcome
module _ (v : Version) (s : List ℕ) where
  -- what holds where an outcome is told
  abbrev Holding : Result ⊤ Refusal → Type 0
  Holding (Ok _) = Distinct v s × Values (settings_in s)
  Holding (Err r) =
      elim r [
        | BadState ↦ ⊥
        | NoRoom ↦ ⊥
        | UnknownVersion ↦ Unknown v s
        | CutShort ↦ Known v s × (cut_short s ≡ true)
        | Overlap ↦ Whole v s × (overlaps s ≡ true)
        | WrongKinds ↦ Clear v s × ¬ (Kinds (kind_count s) s)
        | WrongLength ↦ Sorted v s × ¬ (Bodies s)
        | TooManyRules ↦ Fitted v s × (most_rules < length (settings_in s).rules)
        | RuleTwice ↦ Few v s × ¬ (Pairs Apart (settings_in s).rules)
        | OutsideRule ↦ Distinct v s × ¬ (Values (settings_in s))
      ]

  told : Holding (judged v s)
  unfolding judged
  told =
      cond-case Holding (unknown_version v s) (Err UnknownVersion) _ (unknown v s).yes (λ t.
      let known : Known v s = (unknown v s).no t in
      cond-case Holding (cut_short s) (Err CutShort) _ (λ e. (known, e)) (λ e.
      let whole : Whole v s = (known, e) in
      cond-case Holding (overlaps s) (Err Overlap) _ (λ e. (whole, e)) (λ e.
      let clear : Clear v s = (whole, e) in
      cond-case Holding (wrong_kinds s) (Err WrongKinds) _ (λ e. (clear, (wrong-kinds s).breaks e)) (λ e.
      let sorted : Sorted v s = (clear, (wrong-kinds s).holds e) in
      cond-case Holding (wrong_length s) (Err WrongLength) _ (λ e. (sorted, (wrong-length s).breaks e)) (λ e.
      let fitted : Fitted v s = (sorted, (wrong-length s).holds e) in
      cond-case Holding (too_many_rules s) (Err TooManyRules) _ (λ e. let n = (too_many s).breaks e in (fitted, omega arith)) (λ e.
      let few : Few v s = (fitted, (too_many s).holds e) in
      cond-case Holding (rule_twice s) (Err RuleTwice) _ (λ e. (few, (rule-twice s).breaks e)) (λ e.
      let distinct : Distinct v s = (few, (rule-twice s).holds e) in
      cond-case Holding (outside_rule s) (Err OutsideRule) (Ok tt) (λ e. (distinct, (outside-rule s).breaks e)) (λ e. (distinct, (outside-rule s).holds e)))))))))

  only : (o : Result ⊤ Refusal) → Holding o → judged v s ≡ o
  unfolding judged
  only (Err UnknownVersion) h = rw (passes (unknown v s) h)
  only (Err CutShort) (k, h) = rw (fails (unknown v s) k, h)
  only (Err Overlap) ((k, c), h) = rw (fails (unknown v s) k, c, h)
  only (Err WrongKinds) (((k, c), o), h) = rw (fails (unknown v s) k, c, o, caught (wrong-kinds s) h)
  only (Err WrongLength) ((((k, c), o), w), h) = rw (fails (unknown v s) k, c, o, past (wrong-kinds s) w, caught (wrong-length s) h)
  only (Err TooManyRules) (((((k, c), o), w), b), h) =
      rw (fails (unknown v s) k, c, o, past (wrong-kinds s) w, past (wrong-length s) b, caught (too_many s) (λ n. omega arith))
  only (Err RuleTwice) ((((((k, c), o), w), b), f), h) =
      rw (fails (unknown v s) k, c, o, past (wrong-kinds s) w, past (wrong-length s) b, past (too_many s) f, caught (rule-twice s) h)
  only (Err OutsideRule) (((((((k, c), o), w), b), f), a), h) =
      rw (
        fails (unknown v s) k,
        c,
        o,
        past (wrong-kinds s) w,
        past (wrong-length s) b,
        past (too_many s) f,
        past (rule-twice s) a,
        caught (outside-rule s) h,
      )
  only (Ok tt) (((((((k, c), o), w), b), f), a), h) =
      rw (
        fails (unknown v s) k,
        c,
        o,
        past (wrong-kinds s) w,
        past (wrong-length s) b,
        past (too_many s) f,
        past (rule-twice s) a,
        past (outside-rule s) h,
      )
  only (Err BadState) h = elim h [ ]
  only (Err NoRoom) h = elim h [ ]

  pub first-told : (o : Result ⊤ Refusal) → judged v s ≡ o ↔ Holding o
  first-told o = (λ e. subst Holding e told, only o)

  pub refusals : Refusals v s
  refusals =
      record {
        unknown_version = first-told (Err UnknownVersion);
        cut_short = first-told (Err CutShort);
        overlap = first-told (Err Overlap);
        wrong_kinds = first-told (Err WrongKinds);
        wrong_length = first-told (Err WrongLength);
        too_many_rules = first-told (Err TooManyRules);
        rule_twice = first-told (Err RuleTwice);
        outside_rule = first-told (Err OutsideRule);
        done = first-told (Ok tt);
      }

  -- what is read keeps the rules
  pub kept : judged v s ≡ Ok tt → keeps_rules (settings_in s) ≡ true
  unfolding keeps_rules
  kept e =
      let h = (first-told (Ok tt)).0 e in
      and_both (le-leb (length (settings_in s).rules) most_rules h.0.0.1)
      (and_both (passes (rules-right (settings_in s).rules) h.0.1) (passes (values-right (settings_in s)) h.1))
