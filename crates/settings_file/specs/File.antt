-- The settings file (PROTOCOL, "The settings file"): reading it, by its eight refusals in their order, and writing it.
use Rattle.std.specs.Result.{result_and}
use Rattle.std.specs.Prelude.{ℕ, zero, suc, ◌+◌, ⊤, Result, Ok, Err, Bool, true, not, cond, ◌&&◌, ◌||◌, List, [], ◌∷◌, eqb, leb, ltb, length, drop}
use Rattle.seq.specs.Lists.{pairwise, is_empty, joined}
use Rattle.seq.specs.Bytes.{byte_at}
use Rattle.seq.specs.BigEndian.{number, digits}
use Rattle.contents.specs.Contents.{version, cut_short, overlaps, kinds_good, body_of, packed}
use Rattle.settings.specs.Settings.{Rule, Settings, most_rules, usual_wait, rules_apart, values_good}
use Rattle.settings.specs.Lent.{text_in, rule_of, lawful, settings_of, lent}
use Rattle.settings_file.specs.declared.Version.{Version}
use Rattle.settings_file.specs.declared.Version.TheVariants.{First, Second}
use Rattle.settings_file.specs.declared.Refusal.{Refusal}
use Rattle.settings_file.specs.declared.Refusal.TheVariants.{BadState, NoRoom, UnknownVersion, CutShort, Overlap, WrongKinds, WrongLength, TooManyRules, RuleTwice, OutsideRule}

-- the number of a refusal (PROTOCOL, "The refusals of a file")
abbrev pub refusal_no : Refusal → ℕ
refusal_no r =
    elim r [
      | BadState ↦ 1
      | NoRoom ↦ 5
      | UnknownVersion ↦ 6
      | CutShort ↦ 7
      | Overlap ↦ 8
      | WrongKinds ↦ 9
      | WrongLength ↦ 10
      | TooManyRules ↦ 11
      | RuleTwice ↦ 12
      | OutsideRule ↦ 13
    ]

-- the number of an outcome: 0 where nothing is refused
abbrev pub refusal : Result ⊤ Refusal → ℕ
refusal (Ok _) = 0
refusal (Err r) = refusal_no r

-- ---- versions
abbrev pub version_no : Version → ℕ
version_no v = elim v [ First ↦ 1 | Second ↦ 2 ]

-- the kinds of sections: realm 0, permissions 1, and, in version 2 alone, wait 2
abbrev pub realm_kind : ℕ
realm_kind = 0

abbrev pub rules_kind : ℕ
rules_kind = 1

abbrev pub wait_kind : ℕ
wait_kind = 2

-- how many kinds a file's version has; each of them is wanted
unfoldable pub kind_count : List ℕ → ℕ
kind_count s = cond (eqb (version s) 1) 2 3

abbrev pub has_wait : List ℕ → Bool
has_wait s = not (eqb (version s) 1)

-- ---- the body of permissions: rules one after the other, each slot, action, verdict, prefix length, prefix
-- how many bytes the rule has that stands first
unfoldable pub rule_length : List ℕ → ℕ
rule_length b = 4 + byte_at b 3

-- the rules of a body, at most n
unfoldable pub rules_from : ℕ → List ℕ → List Rule
rules_from zero b = []
rules_from (suc n) b = cond (is_empty b) [] (rule_of b ∷ rules_from n (drop (rule_length b) b))

-- a body of at most n rules has each of them whole
unfoldable pub whole_from : ℕ → List ℕ → Bool
whole_from zero b = true
whole_from (suc n) b = is_empty b || (leb (rule_length b) (length b) && whole_from n (drop (rule_length b) b))

-- a body has fewer rules than bytes
unfoldable pub rules_in : List ℕ → List Rule
rules_in b = rules_from (length b) b

unfoldable pub whole_rules : List ℕ → Bool
whole_rules b = whole_from (length b) b

-- ---- what a file holds
unfoldable pub wait_in : List ℕ → ℕ
wait_in s = cond (has_wait s) (number 4 (body_of wait_kind s)) usual_wait

unfoldable pub settings_in : List ℕ → Settings
settings_in s =
    record { realm = text_in (body_of realm_kind s); rules = rules_in (body_of rules_kind s); wait = wait_in s }

-- ---- the refusals of a file, in their order
-- 6: a version that the reader does not know; a version 1 reader knows no other
unfoldable pub unknown_version : Version → List ℕ → Bool
unknown_version v s = not (is_empty s) && not (leb 1 (version s) && leb (version s) (version_no v))

-- 7, 8 are `cut_short` and `overlaps` of the contents page
-- 9: a kind unknown to the version, missing or twice
unfoldable pub wrong_kinds : List ℕ → Bool
wrong_kinds s = not (kinds_good (kind_count s) s)

-- a body is as long as what it holds
unfoldable pub realm_fits : List ℕ → Bool
realm_fits b = eqb (length b) (1 + byte_at b 0)

unfoldable pub wait_fits : List ℕ → Bool
wait_fits s = not (has_wait s) || eqb (length (body_of wait_kind s)) 4

-- 10: a body whose length is not that of what it holds
unfoldable pub wrong_length : List ℕ → Bool
wrong_length s = not (realm_fits (body_of realm_kind s) && (whole_rules (body_of rules_kind s) && wait_fits s))

-- 11: more than 32 rules
unfoldable pub too_many_rules : List ℕ → Bool
too_many_rules s = ltb most_rules (length (settings_in s).rules)

-- 12: two rules of one slot, action and prefix
unfoldable pub rule_twice : List ℕ → Bool
rule_twice s = not (pairwise rules_apart (settings_in s).rules)

-- 13: a text or a number outside its rule
unfoldable pub outside_rule : List ℕ → Bool
outside_rule s = not (values_good (settings_in s))

-- the first that applies, if any does
unfoldable pub judged : Version → List ℕ → Result ⊤ Refusal
judged v s =
    cond (unknown_version v s) (Err UnknownVersion)
    (cond (cut_short s) (Err CutShort)
    (cond (overlaps s) (Err Overlap)
    (cond (wrong_kinds s) (Err WrongKinds)
    (cond (wrong_length s) (Err WrongLength)
    (cond (too_many_rules s) (Err TooManyRules)
    (cond (rule_twice s) (Err RuleTwice)
    (cond (outside_rule s) (Err OutsideRule)
    (Ok tt))))))))

-- ---- a call: its outcome, and what it writes
pub record Told : Type 0 where
  pub outcome : Result ⊤ Refusal
  pub bytes : List ℕ

-- a refused call writes nothing
abbrev pub refused : Refusal → Told
refused r = record { outcome = Err r; bytes = [] }

-- what a call answers: how many bytes it wrote, or why it is refused
abbrev pub answer : Told → Result ℕ Refusal
answer t = result_and t.outcome (Ok (length t.bytes))

-- "too little room NO ROOM, last"
unfoldable pub given : ℕ → List ℕ → Told
given room bytes = cond (leb (length bytes) room) (record { outcome = Ok tt; bytes = bytes }) (refused NoRoom)

-- what a call does where nothing is refused
abbrev pub unless : Result ⊤ Refusal → Told → Told
unless (Ok _) t = t
unless (Err r) t = refused r

-- a file read: the lent settings
unfoldable pub reads : Version → List ℕ → ℕ → Told
reads v s room = unless (judged v s) (given room (lent (settings_in s)))

-- ---- written: version 2, or 1, which leaves the wait out
unfoldable pub file_rule : Rule → List ℕ
file_rule r = r.slot ∷ r.action ∷ r.verdict ∷ length r.prefix ∷ r.prefix

unfoldable pub realm_body : Settings → List ℕ
realm_body x = length x.realm ∷ x.realm

unfoldable pub rules_body : Settings → List ℕ
rules_body x = joined file_rule x.rules

-- the bodies, by kind
unfoldable pub bodies : Version → Settings → List (List ℕ)
bodies v x = realm_body x ∷ rules_body x ∷ elim v [ First ↦ [] | Second ↦ digits 4 x.wait ∷ [] ]

unfoldable pub file : Version → Settings → List ℕ
file v x = packed (version_no v) (bodies v x)

-- lent settings written: "settings .. lent that break a rule are BAD STATE, first"
unfoldable pub writes : Version → List ℕ → ℕ → Told
writes v s room = cond (lawful s) (given room (file v (settings_of s))) (refused BadState)

-- what a version keeps of settings: version 1 has no wait, and is read with the usual one
unfoldable pub kept_by : Version → Settings → Settings
kept_by v x = record { realm = x.realm; rules = x.rules; wait = elim v [ First ↦ usual_wait | Second ↦ x.wait ] }
