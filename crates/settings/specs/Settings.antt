-- What the depot sets (PROTOCOL, "Settings"): the realm, which slots may do what under which prefixes, and how long a call may wait. Fixed
-- for a run.
use Rattle.std.specs.Prelude.{ℕ, ◌≤◌, Bool, true, not, cond, ◌&&◌, List, [], ◌∷◌, ◌≡◌, eqb, leb, ltb, length}
use Rattle.seq.specs.Lists.{every, pairwise, In}
use Rattle.seq.specs.Bytes.{chars, same}
use Rattle.uri.specs.declared.Policy.TheVariants.{Exact, Prefix}
use Rattle.uri.specs.Uri.{valid_text}
use Rattle.pattern.specs.Match.{fits_text}
use Rattle.settings.specs.declared.Action.{Action}
use Rattle.settings.specs.declared.Action.TheVariants.{Register, Call, Publish, Subscribe}

-- a rule: slot and action by their numbers, the verdict 0 for no and 1 for yes, and the prefix that it speaks of
pub record Rule : Type 0 where
  pub slot : ℕ
  pub action : ℕ
  pub verdict : ℕ
  pub prefix : List ℕ

pub record Settings : Type 0 where
  pub realm : List ℕ
  pub rules : List Rule
  pub wait : ℕ

-- ---- sizes and numbers
abbrev pub most_rules : ℕ
most_rules = 32

-- the longest wait, in milliseconds
abbrev pub longest_wait : ℕ
longest_wait = 60000

-- the wait where none is set
abbrev pub usual_wait : ℕ
usual_wait = 30000

-- the number of an action
abbrev pub action_no : Action → ℕ
action_no a = elim a [ Register ↦ 0 | Call ↦ 1 | Publish ↦ 2 | Subscribe ↦ 3 ]

-- ---- the rules that settings keep (PROTOCOL, "Settings rules")
-- the realm is an exact text
unfoldable pub realm_good : List ℕ → Bool
realm_good t = valid_text t Exact

-- a rule names a slot, an action and a verdict, and its prefix is a prefix text
unfoldable pub rule_good : Rule → Bool
rule_good r = ltb r.slot 8 && (ltb r.action 4 && (ltb r.verdict 2 && valid_text r.prefix Prefix))

-- two rules differ in slot, action or prefix
unfoldable pub rules_apart : Rule → Rule → Bool
rules_apart r q = not (eqb r.slot q.slot && (eqb r.action q.action && same r.prefix q.prefix))

-- the wait is from 1 to 60,000 ms
unfoldable pub wait_good : ℕ → Bool
wait_good n = leb 1 n && leb n longest_wait

-- every text and number is as its rule says
unfoldable pub values_good : Settings → Bool
values_good x = realm_good x.realm && (every rule_good x.rules && wait_good x.wait)

unfoldable pub keeps_rules : Settings → Bool
keeps_rules x = leb (length x.rules) most_rules && (pairwise rules_apart x.rules && values_good x)

-- ---- what a slot may do (PROTOCOL, "Permissions")
-- a rule speaks of a slot's action on a text: its prefix begins the text, byte for byte
unfoldable pub fits : ℕ → ℕ → List ℕ → Rule → Bool
fits slot action text r = eqb r.slot slot && (eqb r.action action && fits_text Prefix r.prefix text)

-- the verdict of the longest rule that fits; of the rules so far one of `best` bytes decides, and said `said`
unfoldable pub decided : (Rule → Bool) → ℕ → Bool → List Rule → Bool
decided fit best said [] = said
decided fit best said (r ∷ rs) =
    cond (fit r && ltb best (length r.prefix))
    (decided fit (length r.prefix) (eqb r.verdict 1) rs)
    (decided fit best said rs)

-- "the longest fitting one for slot and action decides, with none it is yes"
unfoldable pub allowed : Settings → ℕ → Action → List ℕ → Bool
allowed x slot action text = decided (fits slot (action_no action) text) 0 true x.rules

-- the same as a proposition: a rule that fits says no, and none that fits is longer
pub record Denied (x : Settings) (slot : ℕ) (action : Action) (text : List ℕ) : Type 0 where
  pub rule : Rule
  pub among : In rule x.rules
  pub fitting : fits slot (action_no action) text rule ≡ true
  pub no : rule.verdict ≡ 0
  pub longest : (r : Rule) → In r x.rules → fits slot (action_no action) text r ≡ true → length r.prefix ≤ length rule.prefix

-- ---- what is set where nothing else is
unfoldable pub default_settings : Settings
default_settings = record { realm = chars "hub.bus"; rules = []; wait = usual_wait }
