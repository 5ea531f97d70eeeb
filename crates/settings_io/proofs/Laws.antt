-- Laws for the functions that write: zeros, texts that are short, and a body's rules written one after the other. Assumes nothing.
use Prim.Native.Nat.{ℕ, zero, suc, ◌+◌, ◌*◌, ◌-◌, ◌≤◌, ◌<◌}
use mathlib.Core.Bool.{Bool, true, false, ◌&&◌}
use mathlib.Core.List.{List, [], ◌∷◌, ◌++◌, append-nil, append_assoc}
use mathlib.Core.Path.{◌≡◌, refl, sym, ap, ◌∙◌}
use native.Mathlib.Nat.{suc-mul}
use native.Mathlib.Omega.{arith}
use borrow.Author.Tests.{ltb-false, leb-true, eqb-true, le-leb, lt-leb, not-false}
use lib.Dec.{eqb, leb, ltb}
use lib.ListN.{length, take, drop, get_or, replicate, length-drop, length-append, length-replicate}
use lib.Seq.{drop-drop, length-take-le, get_or-take, get_or-drop, take_all}
use Rattle.seq.specs.Bytes.{is_zero, chars, byte_at, part}
use Rattle.seq.specs.Lists.{every, joined}
use Rattle.seq.proofs.Lists.{every-at}
use Rattle.seq.proofs.Logic.{split, and_left, and_right}
use Rattle.seq.proofs.BigEndian.{Bytes, bytes_drop, row-length, length_digits, digits_number}
use Rattle.uri.specs.declared.Policy.TheVariants.{Exact, Prefix}
use Rattle.uri.specs.Uri.{longest, valid_topic, valid_text}
use Rattle.uri.proofs.Uses.{short-topic}
use Rattle.buffer.specs.Capped.{capped, largest}
use Rattle.buffer.specs.Over.{over}
use Rattle.buffer.proofs.Sums.{capped_is}
use Rattle.buffer.proofs.Wrote.{Wrote, wrote, wrote_none, wrote_then}
use Rattle.seq.specs.BigEndian.{digits}
use Rattle.contents.specs.Contents.{cut_short, overlaps, body_of, entry, entries, packed}
use Rattle.settings.specs.Settings.{Rule, Settings, most_rules, realm_good, rule_good, wait_good, values_good, keeps_rules, default_settings}
use Rattle.settings.specs.Lent.{rule_size, rules_at, wait_at, settings_size, text_in, padded, text_bytes, rule_of, rule_bytes, used_rows, row_formed, settings_of, formed, lawful, lent}
use Rattle.settings.proofs.Laws.{rule_row, used-most, used-row, used-rule}
use Rattle.settings_file.specs.declared.Version.{Version}
use Rattle.settings_file.specs.declared.Version.TheVariants.{First, Second}
use Rattle.settings_file.specs.declared.Refusal.TheVariants.{NoRoom}
use Rattle.std.specs.Prelude.{Ok}
use Rattle.settings_file.specs.File.{refusal, unknown_version, wrong_kinds, rule_twice, judged, given, refused, realm_body, rules_body, bodies, file, realm_kind, rules_kind, rule_length, rules_in, whole_rules, wait_in, settings_in, wrong_length, too_many_rules, outside_rule, file_rule}
use Rattle.settings.proofs.Kept.{few-rules, realm-sized, rules-kept}
use Rattle.settings_file.proofs.Written.{rules-short}
use Rattle.settings.proofs.Claims.{claims}
use Rattle.settings.proofs.RoundTrip.{size_is}
use Rattle.settings.proofs.Texts.{text-size, rule-size}
use Rattle.settings_file.proofs.Body.{rules-at, rules-past, whole-next}
use Rattle.settings_io.specs.Written.{entry_bytes, page_bytes, wait_body}

pub take-zeros : (n m : ℕ) → n ≤ m → take {A = ℕ} n (replicate m 0) ≡ replicate n 0
take-zeros zero m h = refl
take-zeros (suc n) zero h = absurd (omega arith)
take-zeros (suc n) (suc m) h = ap (λ l. 0 ∷ l) (take-zeros n m (omega arith))

-- what was written at the start, and is not longer than any slice
pub exact : {old new left : List ℕ} {past : ℕ} → length new ≤ largest → Wrote old 0 new past left
    → record { place : past ≡ length new; bytes : left ≡ over old 0 new }
exact {old} {new} {left} {past} h w =
    let e : 0 + length new ≡ length new = omega arith in
    record { place = w.ends ∙ ap capped e ∙ sym (capped_is (length new) h); bytes = w.leaves }

-- what was written into no room is measured
pub measured : (b : List ℕ) {past : ℕ} → length b ≤ 4386 → past ≡ capped (0 + length b) → past ≡ length b
measured b {past} h e =
    let z : 0 + length b ≡ length b = omega arith in
    e ∙ ap capped z ∙ sym (capped_is (length b) (omega arith))

-- a write at the start, by the place past it
pub at-start : (old new : List ℕ) {past : ℕ} {left : List ℕ} → length new ≤ 4386
    → record { place : past ≡ length new; bytes : left ≡ over old 0 new }
    → Wrote old 0 new past left
at-start old new {past} {left} h e =
    let z : length new ≡ 0 + length new = omega arith in
    record { ends = e.place ∙ capped_is (length new) (omega arith) ∙ ap capped z; leaves = e.bytes }

-- ---- the contents page
pub page-length : (v : Version) (r p : ℕ) → length (page_bytes v r p) ≤ 29
unfolding page_bytes entry_bytes digits
page-length First r p = omega arith
page-length Second r p = omega arith

-- ---- texts that are as their rule says have room
pub realm-short : (t : List ℕ) → realm_good t ≡ true → length t ≤ 128
unfolding realm_good valid_topic
realm-short t h = short-topic t Exact h

pub rule-short : (r : Rule) → rule_good r ≡ true → length r.prefix ≤ 128
unfolding rule_good valid_topic
rule-short r h =
    let a = ltb r.slot 8 in
    let b = ltb r.action 4 in
    let d = ltb r.verdict 2 in
    let t = valid_text r.prefix Prefix in
    short-topic r.prefix Prefix (and_right d t (and_right b (d && t) (and_right a (b && (d && t)) h)))

-- ---- a loop over the rules of a body, at the rule at place i: the bytes of those before it are written
pub record Putting (body old : List ℕ) (at o i : ℕ) (out : List ℕ) : Type 0 where
  pub whole : whole_rules (drop i body) ≡ true
  pub good : every rule_good (rules_in (drop i body)) ≡ true
  pub bytes : List ℕ
  pub wrote : Wrote old at bytes o out
  pub rest : bytes ++ joined rule_bytes (rules_in (drop i body)) ≡ joined rule_bytes (rules_in body)

pub putting-begins : (body old : List ℕ) (at : ℕ) → at ≤ largest → whole_rules body ≡ true → every rule_good (rules_in body) ≡ true
    → Putting body old at at 0 old
putting-begins body old at h w g =
    record { whole = w; good = g; bytes = []; wrote = wrote_none old at h; rest = refl }

module _ {body old : List ℕ} {at o i : ℕ} {out : List ℕ} (p : Putting body old at o i out) where
  pub putting-ends : length body ≤ i → Wrote old at (joined rule_bytes (rules_in body)) o out
  putting-ends h =
      let e : joined rule_bytes (rules_in (drop i body)) ≡ [] = rw (rules-past body i h) refl in
      wrote (sym (append-nil p.bytes) ∙ ap (λ l. p.bytes ++ l) (sym e) ∙ p.rest) p.wrote

  module _ (h : i < length body) where
    abbrev here : Rule
    here = rule_of (drop i body)

    abbrev next : ℕ
    next = i + rule_length (drop i body)

    tests : (rule_good here && every rule_good (rules_in (drop next body))) ≡ true
    unfolding every
    tests = let e = rules-at body i h in rw e at p.good

    pub putting-good : rule_good here ≡ true
    putting-good = and_left (rule_good here) (every rule_good (rules_in (drop next body))) tests

    pub putting-goes : {q : ℕ} {left : List ℕ} → length old ≤ largest → Wrote out o (rule_bytes here) q left → Putting body old at q next left
    putting-goes {q} {left} f w =
        let rest = joined rule_bytes (rules_in (drop next body)) in
        let e : joined rule_bytes (rules_in (drop i body)) ≡ rule_bytes here ++ rest = ap (joined rule_bytes) (rules-at body i h) in
        record {
          whole = (whole-next body i h p.whole).1;
          good = and_right (rule_good here) (every rule_good (rules_in (drop next body))) tests;
          bytes = p.bytes ++ rule_bytes here;
          wrote = wrote_then f p.wrote w;
          rest = append_assoc p.bytes (rule_bytes here) rest ∙ ap (λ l. p.bytes ++ l) (sym e) ∙ p.rest;
        }

-- ---- lent settings that are formed, as they lie
-- the first four bytes, and the rest
first-four : (b : List ℕ) → 4 ≤ length b → b ≡ byte_at b 0 ∷ byte_at b 1 ∷ byte_at b 2 ∷ byte_at b 3 ∷ drop 4 b
first-four [] h = absurd (omega arith)
first-four (x ∷ []) h = absurd (omega arith)
first-four (x ∷ (y ∷ [])) h = absurd (omega arith)
first-four (x ∷ (y ∷ (z ∷ []))) h = absurd (omega arith)
first-four (x ∷ (y ∷ (z ∷ (w ∷ b)))) h = refl

-- a used row's rule, without the zeros behind it
pub file-rule : (b : List ℕ) → length b ≡ rule_size → row_formed b ≡ true → part 0 (4 + byte_at b 3) b ≡ file_rule (rule_of b)
unfolding row_formed padded rule_of text_in file_rule
file-rule b l f =
    let n = byte_at (drop 3 b) 0 in
    let e : n ≡ byte_at b 3 = get_or-drop 3 b 0 0 in
    let h = leb-true n longest (and_left (leb n longest) (every is_zero (drop n (drop 1 (drop 3 b)))) f) in
    let d : drop 1 (drop 3 b) ≡ drop 4 b = drop-drop 1 3 b in
    let z : 4 + byte_at b 3 - 0 ≡ suc (suc (suc (suc (byte_at b 3)))) = omega arith in
    let q : length (take (byte_at b 3) (drop 4 b)) ≡ byte_at b 3 = length-take-le (byte_at b 3) (drop 4 b) (simp length-drop (omega arith)) in
    rw (e, d, q, z)
    (ap (take (suc (suc (suc (suc (byte_at b 3)))))) (first-four b (omega arith)))

-- of lawful settings
module _ (s : List ℕ) (e : lawful s ≡ true) where
  is-formed : formed s ≡ true
  unfolding lawful
  is-formed = and_left (formed s) (keeps_rules (settings_of s)) e

  pub keeps : keeps_rules (settings_of s) ≡ true
  unfolding lawful
  keeps = and_right (formed s) (keeps_rules (settings_of s)) e

  abbrev rest-zero : Bool
  rest-zero = every is_zero (part (rules_at + length (used_rows s) * rule_size) wait_at s)

  behind-realm : (every row_formed (used_rows s) && rest-zero) ≡ true
  unfolding formed
  behind-realm =
      and_right (padded (take rules_at s)) (every row_formed (used_rows s) && rest-zero)
      (and_right (eqb (length s) settings_size) (padded (take rules_at s) && (every row_formed (used_rows s) && rest-zero)) is-formed)

  pub size : length s ≡ settings_size
  unfolding formed
  size =
      eqb-true (length s) settings_size
      (and_left (eqb (length s) settings_size) (padded (take rules_at s) && (every row_formed (used_rows s) && rest-zero)) is-formed)

  -- the realm's length is no longer than its room
  pub realm-room : byte_at s 0 ≤ longest
  unfolding formed padded
  realm-room =
      let r = take rules_at s in
      let b : byte_at r 0 ≡ byte_at s 0 = get_or-take rules_at s 0 0 (omega arith) in
      let p =
      and_left (padded r) (every row_formed (used_rows s) && rest-zero)
      (and_right (eqb (length s) settings_size) (padded r && (every row_formed (used_rows s) && rest-zero)) is-formed) in
      rw b at (leb-true (byte_at r 0) longest (and_left (leb (byte_at r 0) longest) (every is_zero (drop (byte_at r 0) (drop 1 r))) p))

  -- the k-th used row, without the zeros behind its rule
  pub file-row : (k : ℕ) → k < length (used_rows s)
      → part 0 (4 + byte_at (rule_row s k) 3) (rule_row s k) ≡ file_rule (get_or (settings_of s).rules k (rule_of []))
  file-row k h =
      let m = used-most s in
      let l : length (rule_row s k) ≡ rule_size = row-length rule_size k (drop rules_at s) (simp length-drop (omega (arith, size))) in
      let f : row_formed (rule_row s k) ≡ true =
      rw (sym (used-row s k h)) (every-at row_formed (used_rows s) [] (and_left (every row_formed (used_rows s)) rest-zero behind-realm) k h) in
      file-rule (rule_row s k) l f ∙ ap file_rule (sym (used-rule s k h))

-- ---- a file in which nothing is wrong
pub length-rules : (rs : List Rule) → every rule_good rs ≡ true → length (joined rule_bytes rs) ≡ length rs * rule_size
unfolding every
length-rules [] h = refl
length-rules (r ∷ rs) h =
    let a = rule-size r (rule-short r (and_left (rule_good r) (every rule_good rs) h)) in
    let b = length-rules rs (and_right (rule_good r) (every rule_good rs) h) in
    omega (arith, a, b, length-append (rule_bytes r) (joined rule_bytes rs), suc-mul (length rs) rule_size)

-- where the rules end
pub ends_at : (o p a b n : ℕ) → o ≡ capped (0 + a) → a ≡ rules_at → p ≡ capped (o + b) → b ≡ n * rule_size → n ≤ most_rules → p ≡ rules_at + n * rule_size
unfolding capped
ends_at o p a b n e f g k h = omega arith

module _ (s : List ℕ) (inside : outside_rule s ≡ false) where
  abbrev values : Bool
  values = every rule_good (settings_in s).rules && wait_good (settings_in s).wait

  good-values : (realm_good (settings_in s).realm && values) ≡ true
  unfolding outside_rule values_good
  good-values = not-false (realm_good (settings_in s).realm && values) inside

  pub realm-fits : length (text_in (body_of realm_kind s)) ≤ 128
  unfolding settings_in
  realm-fits = realm-short (settings_in s).realm (and_left (realm_good (settings_in s).realm) values good-values)

  pub rules-good : every rule_good (rules_in (body_of rules_kind s)) ≡ true
  unfolding settings_in
  rules-good =
      and_left (every rule_good (settings_in s).rules) (wait_good (settings_in s).wait)
      (and_right (realm_good (settings_in s).realm) values good-values)

pub rules-few : (s : List ℕ) → too_many_rules s ≡ false → length (rules_in (body_of rules_kind s)) ≤ most_rules
unfolding too_many_rules settings_in
rules-few s h = ltb-false most_rules (length (settings_in s).rules) h

-- the lent settings of a file are as many bytes as settings have
pub length-lent : (s : List ℕ) → (wrong_length s ≡ false) × (too_many_rules s ≡ false) × (outside_rule s ≡ false)
    → length (lent (settings_in s)) ≡ settings_size
unfolding lent settings_in digits
length-lent s h =
    let rs = rules_in (body_of rules_kind s) in
    let t = text_in (body_of realm_kind s) in
    let zeros : List ℕ = replicate ((most_rules - length rs) * rule_size) 0 in
    let wait = digits 4 (wait_in s) in
    omega (
      arith,
      text-size t (realm-fits s h.2),
      length-rules rs (rules-good s h.2),
      rules-few s h.1,
      length-replicate {A = ℕ} ((most_rules - length rs) * rule_size) 0,
      length-append (text_bytes t) (joined rule_bytes rs ++ (zeros ++ wait)),
      length-append (joined rule_bytes rs) (zeros ++ wait),
      length-append zeros wait,
      length_digits 4 (wait_in s),
    )

-- ---- calls
-- a refused call, and one for which there is too little room or enough
pub given-no : (room : ℕ) (b : List ℕ) → room < length b → given room b ≡ refused NoRoom
unfolding given
given-no room b h = rw (lt-leb (length b) room h) refl

pub given_yes : (room : ℕ) (b : List ℕ) → length b ≤ room → given room b ≡ record { outcome = Ok tt; bytes = b }
unfolding given
given_yes room b h = rw (le-leb (length b) room h) refl

-- the tests that a file passed in which nothing is wrong
pub passed : (v : Version) (s : List ℕ) → refusal (judged v s) ≡ 0 → (wrong_length s ≡ false) × (too_many_rules s ≡ false) × (outside_rule s ≡ false)
unfolding judged
passed v s h =
    split (unknown_version v s) (λ t. absurd (let e : 6 ≡ 0 = rw t at h in omega arith)) λ t6.
    split (cut_short s) (λ t. absurd (let e : 7 ≡ 0 = rw (t6, t) at h in omega arith)) λ t7.
    split (overlaps s) (λ t. absurd (let e : 8 ≡ 0 = rw (t6, t7, t) at h in omega arith)) λ t8.
    split (wrong_kinds s) (λ t. absurd (let e : 9 ≡ 0 = rw (t6, t7, t8, t) at h in omega arith)) λ t9.
    split (wrong_length s) (λ t. absurd (let e : 10 ≡ 0 = rw (t6, t7, t8, t9, t) at h in omega arith)) λ t10.
    split (too_many_rules s) (λ t. absurd (let e : 11 ≡ 0 = rw (t6, t7, t8, t9, t10, t) at h in omega arith)) λ t11.
    split (rule_twice s) (λ t. absurd (let e : 12 ≡ 0 = rw (t6, t7, t8, t9, t10, t11, t) at h in omega arith)) λ t12.
    split (outside_rule s) (λ t. absurd (let e : 13 ≡ 0 = rw (t6, t7, t8, t9, t10, t11, t12, t) at h in omega arith)) λ t13.
    (t10, t11, t13)

-- ---- a file
-- its page and its bodies
pub file-parts : (v : Version) (x : Settings)
    → page_bytes v (length (realm_body x)) (length (rules_body x)) ++ (realm_body x ++ (rules_body x ++ wait_body v x)) ≡ file v x
unfolding file packed bodies entries entry page_bytes entry_bytes wait_body digits
file-parts First x =
    let a = realm_body x in
    let b = rules_body x in
    let first = entry_bytes 0 20 (length a) in
    ap (λ l. 1 ∷ 2 ∷ ((first ++ l) ++ (a ++ (b ++ [])))) (sym (append-nil (entry_bytes 1 (20 + length a) (length b))))
file-parts Second x =
    let a = realm_body x in
    let b = rules_body x in
    let w = digits 4 x.wait in
    let first = entry_bytes 0 29 (length a) in
    let second = entry_bytes 1 (29 + length a) (length b) in
    let third = entry_bytes 2 (29 + length a + length b) 4 in
    ap (λ l. 2 ∷ 3 ∷ ((first ++ (second ++ l)) ++ (a ++ (b ++ w)))) (sym (append-nil third))
    ∙ ap (λ l. 2 ∷ 3 ∷ ((first ++ (second ++ (third ++ []))) ++ (a ++ (b ++ l)))) (sym (append-nil w))

pub realm-size : (x : Settings) → 1 + length x.realm ≡ length (realm_body x)
unfolding realm_body
realm-size x = omega arith

wait-length : (v : Version) (x : Settings) → length (wait_body v x) ≤ 4
unfolding wait_body digits
wait-length First x = omega arith
wait-length Second x = omega arith

-- of lawful settings: the realm's body and the wait's, as they lie, and how long the bodies are
module _ (s : List ℕ) (e : lawful s ≡ true) where
  abbrev x : Settings
  x = settings_of s

  pub realm-lies : part 0 (1 + length x.realm) s ≡ realm_body x
  unfolding realm_body settings_of text_in
  realm-lies =
      let n = byte_at s 0 in
      let q : length (take n (drop 1 s)) ≡ n =
      length-take-le n (drop 1 s) (simp length-drop (omega (arith, realm-room s e, size s e))) in
      let z : 1 + n - 0 ≡ suc n = omega arith in
      let f = first-four s (omega (arith, size s e)) in
      let d : drop 1 s ≡ byte_at s 1 ∷ byte_at s 2 ∷ byte_at s 3 ∷ drop 4 s = ap (drop 1) f in
      rw (q, z) (ap (take (suc n)) f ∙ ap (λ l. n ∷ take n l) (sym d))

  pub realm-length : 1 + length x.realm ≤ 129
  realm-length = omega (arith, (realm-sized x (keeps s e)).short)

  realm-body : length (realm_body x) ≤ 129
  realm-body = omega (arith, realm-size x, realm-length)

  pub rules-length : length (rules_body x) ≤ 4224
  unfolding rules_body
  rules-length =
      let k = keeps s e in
      omega (arith, rules-short x.rules (rules-kept x k), few-rules x k)

  pub wait-lies : Bytes s → drop wait_at s ≡ digits 4 x.wait
  unfolding settings_of
  wait-lies f =
      let l : length (drop wait_at s) ≡ 4 = simp length-drop (omega (arith, size s e)) in
      sym (digits_number 4 (drop wait_at s) (bytes_drop wait_at s f) (omega arith) ∙ take_all 4 (drop wait_at s) (omega arith))

  pub file-length : (v : Version) → length (file v x) ≤ 4386
  file-length v =
      let page = page_bytes v (length (realm_body x)) (length (rules_body x)) in
      let rest = rules_body x ++ wait_body v x in
      let r : length (realm_body x) ≤ 129 = realm-body in
      rw (sym (file-parts v x))
      (omega (
        arith,
        page-length v (length (realm_body x)) (length (rules_body x)),
        rules-length,
        wait-length v x,
        length-append page (realm_body x ++ rest),
        length-append (realm_body x) rest,
        length-append (rules_body x) (wait_body v x),
      ))

-- ---- what is set where nothing else is
pub default-length : length (lent default_settings) ≡ settings_size
default-length = size_is default_settings claims.usual

pub default-is : text_bytes (chars "hub.bus") ++ (replicate 4224 0 ++ digits 4 30000) ≡ lent default_settings
unfolding lent default_settings
default-is = refl
