-- Settings written as a file, and read: the file is packed and by kind, nothing is refused, and they come back. Assumes nothing.
use Prim.Native.Nat.{◌≤◌, ◌<◌}
use mathlib.Core.Bool.{true}
use mathlib.Core.List.{[], ◌∷◌, ◌++◌, append-nil}
use mathlib.Core.Logic.{inl, inr}
use mathlib.Core.Path.{◌≡◌, refl, sym, ap, ◌∙◌}
use native.Mathlib.Omega.{arith}
use lib.Dec.{leb}
use lib.ListN.{length, length-append}
use Rattle.seq.specs.Lists.{pairwise, joined, Pairs}
use Rattle.seq.specs.BigEndian.{number, digits}
use Rattle.seq.proofs.BigEndian.{length_digits, number_digits}
use Rattle.seq.proofs.Logic.{clash, and_left, and_right}
use Rattle.contents.specs.Contents.{version, kinds_good, packed, body_of}
use Rattle.contents.specs.Claims.{Kinds, Back}
use Rattle.contents.proofs.Tests.{kinds}
use Rattle.contents.proofs.Written.{Fits}
use Rattle.contents.proofs.Claims.{back}
use Rattle.settings.specs.Settings.{Settings, most_rules, rules_apart, keeps_rules}
use Rattle.settings.specs.Lent.{text_in}
use Rattle.settings.proofs.Kept.{few-rules, realm-sized, rules-kept, wait-low}
use Rattle.settings_file.specs.declared.Version.{Version}
use Rattle.settings_file.specs.declared.Version.TheVariants.{First, Second}
use Rattle.settings_file.specs.declared.Refusal.TheVariants.{UnknownVersion}
use Rattle.std.specs.Prelude.{Ok, Err}
use Rattle.settings_file.specs.File.{version_no, realm_kind, rules_kind, wait_kind, kind_count, has_wait, rules_in, wait_in, settings_in, judged, file_rule, realm_body, rules_body, bodies, file, kept_by}
use Rattle.settings_file.specs.Claims.{Bodies, Apart, Values, Unknown, Sorted, Few, Distinct}
use Rattle.settings_file.proofs.Written.{rules-back, text-back, rules-short}
use Rattle.settings_file.proofs.Refusals.{rules-right, values-right, first-told}

-- ---- the file is packed
fits : (v : Version) (x : Settings) → keeps_rules x ≡ true → Fits (bodies v x)
unfolding bodies realm_body rules_body
fits First x k =
    let r = (realm-sized x k).short in
    let f = few-rules x k in
    let l = rules-short x.rules (rules-kept x k) in
    let b = joined file_rule x.rules in
    omega (arith, length-append x.realm (b ++ []), length-append b [])
fits Second x k =
    let r = (realm-sized x k).short in
    let f = few-rules x k in
    let l = rules-short x.rules (rules-kept x k) in
    let b = joined file_rule x.rules in
    let w = digits 4 x.wait in
    omega (arith, length-append x.realm (b ++ (w ++ [])), length-append b (w ++ []), length-append w [], length_digits 4 x.wait)

pub packed-is : (v : Version) (x : Settings) → keeps_rules x ≡ true → Back (version_no v) (bodies v x)
packed-is v x k = back (version_no v) (bodies v x) (fits v x k)

-- ---- its version
version-is : (v : Version) (x : Settings) → version (file v x) ≡ version_no v
unfolding file packed
version-is v x = refl

some_byte : (v : Version) (x : Settings) → 0 < length (file v x)
unfolding file packed
some_byte v x = omega arith

kind-count-is : (v : Version) (x : Settings) → kind_count (file v x) ≡ length (bodies v x)
unfolding kind_count bodies
kind-count-is First x = rw (version-is First x)
kind-count-is Second x = rw (version-is Second x)

-- no version is 0
some-version : (v : Version) → 0 < version_no v
some-version First = omega arith
some-version Second = omega arith

known : (reader v : Version) (x : Settings) → version_no v ≤ version_no reader → ¬ (Unknown reader (file v x))
known reader v x h (l, inl e) = let z = version-is v x in let n = some-version v in omega arith
known reader v x h (l, inr m) = let z = version-is v x in omega arith

-- ---- its bodies
module _ (x : Settings) (k : keeps_rules x ≡ true) where
  realm-back : (v : Version) → body_of realm_kind (file v x) ≡ length x.realm ∷ x.realm
  unfolding file bodies realm_body
  realm-back First = (packed-is First x k).bodies 0 (omega arith)
  realm-back Second = (packed-is Second x k).bodies 0 (omega arith)

  rules-body-back : (v : Version) → body_of rules_kind (file v x) ≡ joined file_rule x.rules
  unfolding file bodies rules_body
  rules-body-back First = (packed-is First x k).bodies 1 (omega arith)
  rules-body-back Second = (packed-is Second x k).bodies 1 (omega arith)

  wait-body-back : body_of wait_kind (file Second x) ≡ digits 4 x.wait
  unfolding file bodies
  wait-body-back = (packed-is Second x k).bodies 2 (omega arith)

  wait-back : (v : Version) → wait_in (file v x) ≡ (kept_by v x).wait
  unfolding wait_in kept_by
  wait-back First = rw (version-is First x)
  wait-back Second =
      let l = wait-low x k in
      rw (version-is Second x, wait-body-back) (ap (number 4) (sym (append-nil (digits 4 x.wait))) ∙ number_digits 4 x.wait [] (omega arith))

  pub settings-back : (v : Version) → settings_in (file v x) ≡ kept_by v x
  unfolding settings_in kept_by
  settings-back v =
      let r : text_in (body_of realm_kind (file v x)) ≡ x.realm = ap text_in (realm-back v) ∙ text-back x.realm in
      let p : rules_in (body_of rules_kind (file v x)) ≡ x.rules = ap rules_in (rules-body-back v) ∙ rules-back x.rules in
      rw (r, p, wait-back v)

  wait-length : (v : Version) → has_wait (file v x) ≡ true → length (body_of wait_kind (file v x)) ≡ 4
  wait-length First e = clash e (rw (version-is First x))
  wait-length Second e = ap length wait-body-back ∙ length_digits 4 x.wait

  bodies-back : (v : Version) → Bodies (file v x)
  bodies-back v = record { realm = (x.realm, realm-back v); rules = (x.rules, rules-body-back v); wait = wait-length v }

  -- ---- what a version keeps of settings keeps the rules
  values-kept : (v : Version) → Values (kept_by v x)
  unfolding kept_by keeps_rules
  values-kept v =
      let g = (values-right x).yes (and_right (pairwise rules_apart x.rules) _ (and_right (leb (length x.rules) most_rules) _ k)) in
      let w = g.wait in
      record { realm = g.realm; rules = g.rules; wait = elim v as (λ v. (1 ≤ (kept_by v x).wait) × ((kept_by v x).wait ≤ 60000)) [ First ↦ (omega arith, omega arith) | Second ↦ w ] }

  kinds-back : (v : Version) → Kinds (kind_count (file v x)) (file v x)
  unfolding file
  kinds-back v = (kinds (kind_count (file v x)) (file v x)).0 (ap (λ n. kinds_good n (file v x)) (kind-count-is v x) ∙ (packed-is v x k).right)

  apart-back : Pairs Apart x.rules
  unfolding keeps_rules
  apart-back = (rules-right x.rules).yes (and_left (pairwise rules_apart x.rules) _ (and_right (leb (length x.rules) most_rules) _ k))

  pub judged-back : (reader v : Version) → version_no v ≤ version_no reader → judged reader (file v x) ≡ Ok tt
  unfolding file kept_by
  judged-back reader v h =
      let p = packed-is v x k in
      let sorted : Sorted reader (file v x) = (((known reader v x h, p.wholly), p.apart), kinds-back v) in
      let few : Few reader (file v x) = ((sorted, bodies-back v), rw (settings-back v) (few-rules x k)) in
      let distinct : Distinct reader (file v x) = (few, rw (settings-back v) apart-back) in
      (first-told reader (file v x) (Ok tt)).1 (distinct, rw (settings-back v) (values-kept v))

-- a reader of the first version knows no other
pub newer : (x : Settings) → judged First (file Second x) ≡ Err UnknownVersion
newer x = let e = version-is Second x in (first-told First (file Second x) (Err UnknownVersion)).1 (some_byte Second x, inr (omega arith))
