-- What settings that keep the rules keep, part by part. Assumes nothing.
use Prim.Native.Nat.{ℕ, ◌≤◌, ◌<◌}
use mathlib.Core.Bool.{Bool, true, not, ◌&&◌}
use mathlib.Core.List.{List}
use mathlib.Core.Path.{◌≡◌}
use native.Mathlib.Omega.{arith}
use borrow.Author.Tests.{eqb-false, ltb-true, leb-true}
use lib.Dec.{eqb, leb, ltb}
use lib.ListN.{length}
use Rattle.seq.specs.Lists.{every, pairwise, All, Pairs}
use Rattle.seq.proofs.Logic.{and_left, and_right, not_is}
use Rattle.seq.proofs.Rules.{all_map, every-all, pairwise-pairs}
use Rattle.uri.specs.declared.Policy.{Policy}
use Rattle.uri.specs.declared.Policy.TheVariants.{Exact, Prefix}
use Rattle.uri.specs.Uri.{longest, clean, components_filled, valid_text}
use Rattle.settings.specs.Settings.{Rule, Settings, most_rules, longest_wait, realm_good, rule_good, rules_apart, wait_good, values_good, keeps_rules}

-- a text that keeps the URI rule has from 1 to 128 bytes
pub record Sized (t : List ℕ) : Type 0 where
  pub some : 0 < length t
  pub short : length t ≤ longest

valid-sized : (t : List ℕ) (policy : Policy) → valid_text t policy ≡ true → Sized t
unfolding valid_text
valid-sized t policy e =
    let some : Bool = not (eqb (length t) 0) in
    let short : Bool = leb (length t) longest in
    let both = and_left (some && short) (clean t) (and_left (some && short && clean t) (components_filled policy t) e) in
    let n = eqb-false (length t) 0 (not_is _ (and_left some short both)) in
    record { some = omega arith; short = leb-true (length t) longest (and_right some short both) }

pub record RuleKept (r : Rule) : Type 0 where
  pub verdict : r.verdict < 2
  pub prefix : Sized r.prefix

rule-kept : (r : Rule) → rule_good r ≡ true → RuleKept r
unfolding rule_good
rule-kept r e =
    let a = and_right (ltb r.slot 8) _ e in
    let b = and_right (ltb r.action 4) _ a in
    record {
      verdict = ltb-true r.verdict 2 (and_left (ltb r.verdict 2) _ b);
      prefix = valid-sized r.prefix Prefix (and_right (ltb r.verdict 2) _ b);
    }

module _ (x : Settings) (e : keeps_rules x ≡ true) where
  pub few-rules : length x.rules ≤ most_rules
  unfolding keeps_rules
  few-rules = leb-true (length x.rules) most_rules (and_left (leb (length x.rules) most_rules) _ e)

  pub rules-distinct : Pairs (λ r q. rules_apart r q ≡ true) x.rules
  unfolding keeps_rules
  rules-distinct =
      pairwise-pairs rules_apart x.rules
      (and_left (pairwise rules_apart x.rules) _ (and_right (leb (length x.rules) most_rules) _ e))

  values-kept : values_good x ≡ true
  unfolding keeps_rules
  values-kept = and_right (pairwise rules_apart x.rules) _ (and_right (leb (length x.rules) most_rules) _ e)

  pub realm-sized : Sized x.realm
  unfolding values_good realm_good
  realm-sized = valid-sized x.realm Exact (and_left (realm_good x.realm) _ values-kept)

  pub rules-kept : All RuleKept x.rules
  unfolding values_good
  rules-kept =
      all_map (λ r. rule_good r ≡ true) RuleKept rule-kept x.rules
      (every-all rule_good x.rules (and_left (every rule_good x.rules) _ (and_right (realm_good x.realm) _ values-kept)))

  pub wait-low : x.wait ≤ longest_wait
  unfolding values_good wait_good
  wait-low =
      leb-true x.wait longest_wait
      (and_right (leb 1 x.wait) _ (and_right (every rule_good x.rules) _ (and_right (realm_good x.realm) _ values-kept)))
