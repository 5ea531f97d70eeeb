-- What is claimed of the settings file: each refusal is given exactly when its rule is the first that applies, said a second time in
-- propositions; reading what was written gives the settings back; what is read keeps the rules; what is written is packed and by kind.
use Rattle.std.specs.Prelude.{ℕ, Ok, Err, ◌≤◌, ◌<◌, true, false, List, [], ◌∷◌, ◌⊎◌, ◌↔◌, ◌≡◌, length}
use Rattle.seq.specs.Lists.{All, Pairs, joined}
use Rattle.contents.specs.Contents.{version, cut_short, overlaps, body_of}
use Rattle.contents.specs.Claims.{Kinds, Back}
use Rattle.settings.specs.Settings.{Rule, Settings, most_rules, keeps_rules, realm_good, rule_good}
use Rattle.settings_file.specs.declared.Version.{Version}
use Rattle.settings_file.specs.declared.Version.TheVariants.{First, Second}
use Rattle.settings_file.specs.declared.Refusal.TheVariants.{UnknownVersion, CutShort, Overlap, WrongKinds, WrongLength, TooManyRules, RuleTwice, OutsideRule}
use Rattle.settings_file.specs.File.{refusal_no, version_no, realm_kind, rules_kind, wait_kind, kind_count, has_wait, file_rule, settings_in, judged, reads, writes, bodies, file, kept_by}

-- 10: each body is one text behind its length, or rules one after the other, or 4 bytes
pub record Bodies (s : List ℕ) : Type 0 where
  pub realm : (t : List ℕ) × (body_of realm_kind s ≡ length t ∷ t)
  pub rules : (rs : List Rule) × (body_of rules_kind s ≡ joined file_rule rs)
  pub wait : has_wait s ≡ true → length (body_of wait_kind s) ≡ 4

-- 12: two rules differ in slot, action or prefix
abbrev pub Apart : Rule → Rule → Type 0
Apart r q = ¬ ((r.slot ≡ q.slot) × (r.action ≡ q.action) × (r.prefix ≡ q.prefix))

-- 13: every text and number is as its rule says
pub record Values (x : Settings) : Type 0 where
  pub realm : realm_good x.realm ≡ true
  pub rules : All (λ r. rule_good r ≡ true) x.rules
  pub wait : (1 ≤ x.wait) × (x.wait ≤ 60000)

module _ (v : Version) (s : List ℕ) where
  -- 6: there is a version byte, and it is 0 or above those that the reader knows
  abbrev pub Unknown : Type 0
  Unknown = (0 < length s) × ((version s ≡ 0) ⊎ (version_no v < version s))

  -- the file passes the tests up to a refusal
  abbrev pub Known : Type 0
  Known = ¬ Unknown

  -- 7 and 8 are `Claims.cut` and `Claims.overlap` of the contents page
  abbrev pub Whole : Type 0
  Whole = Known × (cut_short s ≡ false)

  abbrev pub Clear : Type 0
  Clear = Whole × (overlaps s ≡ false)

  abbrev pub Sorted : Type 0
  Sorted = Clear × Kinds (kind_count s) s

  abbrev pub Fitted : Type 0
  Fitted = Sorted × Bodies s

  abbrev pub Few : Type 0
  Few = Fitted × (length (settings_in s).rules ≤ most_rules)

  abbrev pub Distinct : Type 0
  Distinct = Few × Pairs Apart (settings_in s).rules

  -- each refusal exactly when its rule is the first that applies
  pub record Refusals : Type 0 where
    pub unknown_version : judged v s ≡ Err UnknownVersion ↔ Unknown
    pub cut_short : judged v s ≡ Err CutShort ↔ (Known × (cut_short s ≡ true))
    pub overlap : judged v s ≡ Err Overlap ↔ (Whole × (overlaps s ≡ true))
    pub wrong_kinds : judged v s ≡ Err WrongKinds ↔ (Clear × ¬ (Kinds (kind_count s) s))
    pub wrong_length : judged v s ≡ Err WrongLength ↔ (Sorted × ¬ (Bodies s))
    pub too_many_rules : judged v s ≡ Err TooManyRules ↔ (Fitted × (most_rules < length (settings_in s).rules))
    pub rule_twice : judged v s ≡ Err RuleTwice ↔ (Few × ¬ (Pairs Apart (settings_in s).rules))
    pub outside_rule : judged v s ≡ Err OutsideRule ↔ (Distinct × ¬ (Values (settings_in s)))
    pub done : judged v s ≡ Ok tt ↔ (Distinct × Values (settings_in s))

pub record Claims : Type 0 where
  -- the numbers (PROTOCOL, "The refusals of a file")
  pub numbers : (refusal_no UnknownVersion ≡ 6) × (refusal_no CutShort ≡ 7) × (refusal_no Overlap ≡ 8) × (refusal_no WrongKinds ≡ 9)
      × (refusal_no WrongLength ≡ 10) × (refusal_no TooManyRules ≡ 11) × (refusal_no RuleTwice ≡ 12) × (refusal_no OutsideRule ≡ 13)
  pub refusals : (v : Version) (s : List ℕ) → Refusals v s
  -- reading what was written gives the settings back, but for the wait of version 1; by both readers, but that the first knows no version 2
  pub back : (reader v : Version) (x : Settings) → keeps_rules x ≡ true → version_no v ≤ version_no reader
      → (judged reader (file v x) ≡ Ok tt) × (settings_in (file v x) ≡ kept_by v x)
  pub newer : (x : Settings) → judged First (file Second x) ≡ Err UnknownVersion
  -- what is read keeps the rules
  pub kept : (v : Version) (s : List ℕ) → judged v s ≡ Ok tt → keeps_rules (settings_in s) ≡ true
  -- what is written is packed and by kind
  pub packed : (v : Version) (x : Settings) → keeps_rules x ≡ true → Back (version_no v) (bodies v x)
  -- a refused call writes nothing
  pub refused_read : (v : Version) (s : List ℕ) (room : ℕ) → ¬ ((reads v s room).outcome ≡ Ok tt) → (reads v s room).bytes ≡ []
  pub refused_write : (v : Version) (s : List ℕ) (room : ℕ) → ¬ ((writes v s room).outcome ≡ Ok tt) → (writes v s room).bytes ≡ []
