-- Small settings files, computed: as they are written, and beside files that are taken their neighbours that are refused. Assumes nothing.
use Rattle.std.specs.Prelude.{Ok, Err}
use Prim.Native.Nat.{ℕ, zero, suc}
use mathlib.Core.List.{List, [], ◌∷◌, ◌++◌}
use mathlib.Core.Path.{◌≡◌, refl}
use lib.ListN.{length, replicate}
use Rattle.seq.specs.Lists.{every, pairwise, first_from, tally, joined, but_last, first_part, rest_parts, All}
use Rattle.seq.specs.Bytes.{chars, same}
use Rattle.seq.specs.BigEndian.{number, digits, cut}
use Rattle.uri.specs.Uri.{filled, components_filled, valid_text}
use Rattle.contents.specs.declared.Section.{Section}
use Rattle.contents.specs.Contents.{section_of, sections, inside, cut_short, shares, apart, page, parts, overlaps, of_kind, below, kinds_good, body_at, body_of, entry, entries, packed}
use Rattle.settings.specs.Settings.{Settings, realm_good, rule_good, rules_apart, wait_good, values_good}
use Rattle.settings.specs.Lent.{text_in, rule_of}
use Rattle.settings_file.specs.declared.Version.TheVariants.{First, Second}
use Rattle.settings_file.specs.declared.Refusal.TheVariants.{NoRoom, UnknownVersion, CutShort, Overlap, WrongKinds, WrongLength, TooManyRules, RuleTwice, OutsideRule}
use Rattle.settings_file.specs.File.{kind_count, rule_length, rules_from, whole_from, rules_in, whole_rules, wait_in, settings_in, unknown_version, wrong_kinds, realm_fits, wait_fits, wrong_length, too_many_rules, rule_twice, outside_rule, judged, given, file_rule, realm_body, rules_body, bodies, file, kept_by}

-- ---- one settings, as both versions write it
abbrev example : Settings
example =
    record { realm = chars "hub"; rules = record { slot = 2; action = 1; verdict = 0; prefix = chars "b." } ∷ []; wait = 300 }

abbrev first-bytes : List ℕ
first-bytes =
    1 ∷ 2 ∷ 0 ∷ 0 ∷ 0 ∷ 0 ∷ 20 ∷ 0 ∷ 0 ∷ 0 ∷ 4 ∷ 1 ∷ 0 ∷ 0 ∷ 0 ∷ 24 ∷ 0 ∷ 0 ∷ 0 ∷ 6 ∷ (3 ∷ chars "hub") ++ (2 ∷ 1 ∷ 0 ∷ 2 ∷ chars "b.")

abbrev second-bytes : List ℕ
second-bytes =
    2 ∷ 3 ∷ 0 ∷ 0 ∷ 0 ∷ 0 ∷ 29 ∷ 0 ∷ 0 ∷ 0 ∷ 4 ∷ 1 ∷ 0 ∷ 0 ∷ 0 ∷ 33 ∷ 0 ∷ 0 ∷ 0 ∷ 6 ∷ 2 ∷ 0 ∷ 0 ∷ 0 ∷ 39 ∷ 0 ∷ 0 ∷ 0 ∷ 4 ∷ (3 ∷ chars "hub")
    ++ ((2 ∷ 1 ∷ 0 ∷ 2 ∷ chars "b.") ++ (0 ∷ 0 ∷ 1 ∷ 44 ∷ []))

pub written : (file First example ≡ first-bytes) × (file Second example ≡ second-bytes)
unfolding digits entry entries packed file_rule realm_body rules_body bodies file
written = (refl, refl)

-- a file of version 1 has the usual wait
pub read : ((settings_in first-bytes).wait ≡ 30000) × (settings_in first-bytes ≡ kept_by First example) × (settings_in second-bytes ≡ example)
unfolding first_from number cut section_of sections of_kind body_at body_of text_in rule_of rule_length rules_from rules_in wait_in settings_in kept_by
read = (refl, refl, refl)

-- ---- files with a page of any sections
abbrev at : ℕ → ℕ → ℕ → Section
at kind place len = record { kind = kind; place = place; len = len }

-- a version, the page of some sections, and n zeros behind it. Two sections' page has 20 bytes, three sections' 29
abbrev paged : ℕ → List Section → ℕ → List ℕ
paged v xs n = v ∷ length xs ∷ (joined (λ (x : Section). x.kind ∷ (digits 4 x.place ++ digits 4 x.len)) xs ++ replicate n 0)

-- 6: version 0, and the one above the last known. They come first: there is no page
pub unknown-files : (judged Second (0 ∷ []) ≡ Err UnknownVersion) × (judged Second (3 ∷ []) ≡ Err UnknownVersion) × (judged First second-bytes ≡ Err UnknownVersion)
unfolding unknown_version judged
unknown-files = (refl, refl, refl)

-- 7: no byte at all; a version alone; a section that ends one byte past the end, which overlaps too
pub cut-files : All (λ s. judged Second s ≡ Err CutShort) ([] ∷ (2 ∷ []) ∷ (1 ∷ []) ∷ paged 1 (at 0 20 1 ∷ at 1 20 5 ∷ []) 4 ∷ [])
unfolding every number digits cut section_of sections inside cut_short unknown_version judged
cut-files = (refl, (refl, (refl, (refl, tt))))

-- 8: two sections that share a byte, both of kind 0; one that begins in the page
pub overlapping-files : All (λ s. judged First s ≡ Err Overlap) (paged 1 (at 0 20 2 ∷ at 0 21 2 ∷ []) 3 ∷ paged 1 (at 0 19 2 ∷ at 1 21 2 ∷ []) 3 ∷ [])
unfolding every pairwise number digits cut section_of sections inside cut_short shares apart page parts overlaps unknown_version judged
overlapping-files = (refl, (refl, tt))

-- 9: version 2 without a wait, version 1 with one; a kind twice; one that no version knows. The bodies are no good either
pub wrong-kinds : All (λ s. judged Second s ≡ Err WrongKinds) (
    paged 2 (at 0 20 0 ∷ at 1 20 0 ∷ []) 0
    ∷ paged 1 (at 0 29 0 ∷ at 1 29 0 ∷ at 2 29 0 ∷ []) 0
    ∷ paged 1 (at 0 20 0 ∷ at 0 20 0 ∷ []) 0
    ∷ paged 2 (at 0 29 0 ∷ at 1 29 0 ∷ at 3 29 0 ∷ []) 0
    ∷ [])
unfolding every pairwise tally number digits cut section_of sections inside cut_short shares apart page parts overlaps of_kind below kinds_good kind_count unknown_version wrong_kinds judged
wrong-kinds = (refl, (refl, (refl, (refl, tt))))

-- ---- files of good pages
abbrev realm : List ℕ
realm = 3 ∷ chars "hub"

-- a rule of slot 2
abbrev rule : ℕ → ℕ → List ℕ → List ℕ
rule action verdict prefix = 2 ∷ action ∷ verdict ∷ length prefix ∷ prefix

-- n rules, whose prefixes are of the bytes `a`, n to 1 of them
abbrev many : ℕ → List ℕ
many zero = []
many (suc n) = rule 3 1 (replicate (suc n) 97) ++ many n

-- as files of version 1
abbrev first : List ℕ → List ℕ → List ℕ
first realm rules = packed 1 (realm ∷ rules ∷ [])

-- and of version 2, with a good realm
abbrev second : List ℕ → List ℕ → List ℕ
second rules wait = packed 2 (realm ∷ rules ∷ wait ∷ [])

abbrev wait-of : ℕ → List ℕ
wait-of n = digits 4 n

-- 10: a realm one byte too long, one too short, and without its length; a rule without its last byte; a wait of 3 and of 5 bytes.
-- There are two equal rules besides
pub wrong-lengths : All (λ s. judged Second s ≡ Err WrongLength) (
    first (realm ++ (0 ∷ [])) (rule 0 0 (chars "a") ++ rule 0 0 (chars "a"))
    ∷ first (3 ∷ chars "hu") []
    ∷ first [] []
    ∷ first realm (rule 0 0 (chars "a") ++ (2 ∷ 0 ∷ 0 ∷ 2 ∷ chars "a"))
    ∷ first realm (2 ∷ 0 ∷ 0 ∷ [])
    ∷ second [] (0 ∷ 1 ∷ 0 ∷ [])
    ∷ second [] (0 ∷ 0 ∷ 0 ∷ 1 ∷ 0 ∷ [])
    ∷ [])
unfolding every pairwise first_from tally number digits cut section_of sections inside cut_short shares apart page parts overlaps of_kind below kinds_good body_at body_of entry entries packed kind_count rule_length whole_from whole_rules unknown_version wrong_kinds realm_fits wait_fits wrong_length judged
wrong-lengths = (refl, (refl, (refl, (refl, (refl, (refl, (refl, tt)))))))

-- 11: 33 rules, two of them equal
pub too_many : judged First (first realm (many 32 ++ rule 3 1 (chars "a"))) ≡ Err TooManyRules
unfolding every pairwise first_from tally number digits cut section_of sections inside cut_short shares apart page parts overlaps of_kind below kinds_good body_at body_of entry entries packed rule_of kind_count rule_length rules_from whole_from rules_in whole_rules settings_in unknown_version wrong_kinds realm_fits wait_fits wrong_length too_many_rules judged
too_many = refl

-- 12: two rules that differ in the verdict alone, with another between them; and the realm breaks its rule
pub rule-twice : All (λ s. judged First s ≡ Err RuleTwice) (
    first realm (rule 0 0 (chars "a") ++ (rule 1 0 (chars "a") ++ rule 0 1 (chars "a")))
    ∷ first (0 ∷ []) (rule 0 0 (chars "a") ++ rule 0 1 (chars "a"))
    ∷ [])
unfolding every pairwise first_from tally same number digits cut section_of sections inside cut_short shares apart page parts overlaps of_kind below kinds_good body_at body_of entry entries packed rules_apart text_in rule_of kind_count rule_length rules_from whole_from rules_in whole_rules settings_in unknown_version wrong_kinds realm_fits wait_fits wrong_length too_many_rules rule_twice judged
rule-twice = (refl, (refl, tt))

-- 13: no realm; a realm that ends with a dot; an action that there is not; no wait, and one that is too long
pub outside-files : All (λ s. judged Second s ≡ Err OutsideRule) (
    first (0 ∷ []) []
    ∷ first (4 ∷ chars "hub.") []
    ∷ first realm (rule 4 0 (chars "a"))
    ∷ second [] (wait-of 0)
    ∷ second [] (wait-of 60001)
    ∷ [])
unfolding every pairwise first_from tally but_last first_part rest_parts same number digits cut filled components_filled valid_text section_of sections inside cut_short shares apart page parts overlaps of_kind below kinds_good body_at body_of entry entries packed realm_good rule_good rules_apart wait_good values_good text_in rule_of kind_count rule_length rules_from whole_from rules_in whole_rules wait_in settings_in unknown_version wrong_kinds realm_fits wait_fits wrong_length too_many_rules rule_twice outside_rule judged
outside-files = (refl, (refl, (refl, (refl, (refl, tt)))))

-- none of them: the shortest and the longest wait, 32 rules, no rule
pub good-files :
    (judged First first-bytes ≡ Ok tt)
    × All (λ s. judged Second s ≡ Ok tt) (
    first-bytes
    ∷ second-bytes
    ∷ first realm []
    ∷ second (rule 0 0 (chars "a") ++ (rule 1 0 (chars "a") ++ rule 0 0 (chars "b"))) (wait-of 1)
    ∷ second (many 32) (wait-of 60000)
    ∷ [])
unfolding every pairwise first_from tally but_last first_part rest_parts same number digits cut filled components_filled valid_text section_of sections inside cut_short shares apart page parts overlaps of_kind below kinds_good body_at body_of entry entries packed realm_good rule_good rules_apart wait_good values_good text_in rule_of kind_count rule_length rules_from whole_from rules_in whole_rules wait_in settings_in unknown_version wrong_kinds realm_fits wait_fits wrong_length too_many_rules rule_twice outside_rule judged
good-files = (refl, (refl, (refl, (refl, (refl, (refl, tt))))))

-- ---- as much room as bytes, and one less
pub rooms : (given 2 (7 ∷ 8 ∷ []) ≡ record { outcome = Ok tt; bytes = 7 ∷ 8 ∷ [] }) × (given 1 (7 ∷ 8 ∷ []) ≡ record { outcome = Err NoRoom; bytes = [] })
unfolding given
rooms = (refl, refl)
