-- Permissions, and settings on either side of each rule, computed: cases that wrong definitions get wrong. Assumes nothing.
use Prim.Native.Nat.{ℕ, zero, suc}
use mathlib.Core.Bool.{true, false}
use mathlib.Core.List.{List, [], ◌∷◌, ◌++◌}
use mathlib.Core.Path.{◌≡◌, refl}
use lib.ListN.{take, drop, replicate}
use Rattle.seq.specs.Lists.{every, pairwise, but_last, first_part, rest_parts}
use Rattle.seq.specs.Bytes.{chars, same}
use Rattle.seq.specs.BigEndian.{number, digits, cut}
use Rattle.uri.specs.Uri.{filled, components_filled, valid_text}
use Rattle.pattern.specs.Match.{starts_with, covers, fits_parts, fits_text}
use Rattle.settings.specs.declared.Action.TheVariants.{Register, Call}
use Rattle.settings.specs.Settings.{Rule, Settings, usual_wait, realm_good, rule_good, rules_apart, wait_good, values_good, keeps_rules, fits, decided, allowed, default_settings}
use Rattle.settings.specs.Lent.{text_in, padded, text_bytes, rule_of, rule_bytes, unused, rows, used_rows, row_formed, settings_of, formed, lawful, lent}

abbrev rule : ℕ → ℕ → ℕ → List ℕ → Rule
rule slot action verdict prefix = record { slot = slot; action = action; verdict = verdict; prefix = prefix }

-- the usual settings with these rules
abbrev with : List Rule → Settings
with rules = record { realm = chars "hub.bus"; rules = rules; wait = usual_wait }

-- slot 1 may register nothing under `hub.don`, but what stands under `hub.donor.`, and of that not `hub.donor.x`
abbrev short_first : Settings
short_first = with (rule 1 0 0 (chars "hub.don") ∷ rule 1 0 1 (chars "hub.donor.") ∷ rule 1 0 0 (chars "hub.donor.x") ∷ [])

abbrev long_first : Settings
long_first = with (rule 1 0 0 (chars "hub.donor.x") ∷ rule 1 0 1 (chars "hub.donor.") ∷ rule 1 0 0 (chars "hub.don") ∷ [])

-- n rules, whose prefixes are of the bytes `a`, n to 1 of them
abbrev many : ℕ → List Rule
many zero = []
many (suc n) = rule 7 3 1 (replicate (suc n) 97) ∷ many n

-- the bytes of the usual settings, with a rule's bytes in the second row behind an unused one
abbrev gap : List ℕ
gap = take 261 (lent default_settings) ++ (rule_bytes (rule 1 0 0 (chars "hub")) ++ drop 393 (lent default_settings))

pub record Examples : Type 0 where
  -- permissions
  pub under-short : allowed short_first 1 Register (chars "hub.donut") ≡ false
  pub under-long : allowed short_first 1 Register (chars "hub.donor.y") ≡ true
  pub under-longest : allowed short_first 1 Register (chars "hub.donor.xy") ≡ false
  pub any_order : allowed long_first 1 Register (chars "hub.donor.y") ≡ true
  pub whole : allowed short_first 1 Register (chars "hub.don") ≡ false
  pub none : allowed short_first 1 Register (chars "hub.do") ≡ true
  pub other-slot : allowed short_first 2 Register (chars "hub.don") ≡ true
  pub other-action : allowed short_first 1 Call (chars "hub.don") ≡ true
  -- rules of settings
  pub last-numbers : rule_good (rule 7 3 1 (chars "hub.")) ≡ true
  pub slot-8 : rule_good (rule 8 3 1 (chars "hub.")) ≡ false
  pub action-4 : rule_good (rule 7 4 1 (chars "hub.")) ≡ false
  pub verdict-2 : rule_good (rule 7 3 2 (chars "hub.")) ≡ false
  pub no-prefix : rule_good (rule 7 3 1 []) ≡ false
  pub other-verdict : rules_apart (rule 1 2 0 (chars "hub")) (rule 1 2 1 (chars "hub")) ≡ false
  pub slots_apart : rules_apart (rule 1 2 0 (chars "hub")) (rule 2 2 0 (chars "hub")) ≡ true
  pub actions-apart : rules_apart (rule 1 2 0 (chars "hub")) (rule 1 1 0 (chars "hub")) ≡ true
  pub prefixes-apart : rules_apart (rule 1 2 0 (chars "hub")) (rule 1 2 0 (chars "hub.")) ≡ true
  pub realm-open : realm_good (chars "hub.") ≡ false
  pub realm-reserved : realm_good (chars "wamp") ≡ true
  pub wait-0 : wait_good 0 ≡ false
  pub wait-1 : wait_good 1 ≡ true
  pub wait-60000 : wait_good 60000 ≡ true
  pub wait-60001 : wait_good 60001 ≡ false
  pub rules-32 : keeps_rules (with (many 32)) ≡ true
  pub rules-33 : keeps_rules (with (many 33)) ≡ false
  -- bytes
  pub zeros-behind : padded (2 ∷ 104 ∷ 98 ∷ 0 ∷ []) ≡ true
  pub byte-behind : padded (2 ∷ 104 ∷ 98 ∷ 1 ∷ []) ≡ false
  pub usual : lawful (lent default_settings) ≡ true
  pub used-behind : lawful gap ≡ false

pub examples : Examples
unfolding every pairwise but_last first_part rest_parts same number digits cut filled components_filled valid_text starts_with covers fits_parts fits_text realm_good
    rule_good rules_apart wait_good values_good keeps_rules fits decided allowed default_settings text_in padded text_bytes rule_of rule_bytes unused rows
    used_rows row_formed settings_of formed lawful lent
examples = record {
  under-short = refl;
  under-long = refl;
  under-longest = refl;
  any_order = refl;
  whole = refl;
  none = refl;
  other-slot = refl;
  other-action = refl;
  last-numbers = refl;
  slot-8 = refl;
  action-4 = refl;
  verdict-2 = refl;
  no-prefix = refl;
  other-verdict = refl;
  slots_apart = refl;
  actions-apart = refl;
  prefixes-apart = refl;
  realm-open = refl;
  realm-reserved = refl;
  wait-0 = refl;
  wait-1 = refl;
  wait-60000 = refl;
  wait-60001 = refl;
  rules-32 = refl;
  rules-33 = refl;
  zeros-behind = refl;
  byte-behind = refl;
  usual = refl;
  used-behind = refl;
}
