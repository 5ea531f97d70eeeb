-- Laws of the rules' tests, for the functions' proofs. Assumes nothing.
use Prim.Native.Nat.{ℕ, ◌+◌, ◌≤◌, ◌<◌}
use mathlib.Core.Bool.{Bool, true, false, not, ◌&&◌, ◌||◌}
use mathlib.Core.List.{List, [], map}
use mathlib.Core.Path.{◌≡◌, refl, ap, ap₂, ◌∙◌}
use native.Mathlib.Numerals.{add-one}
use borrow.Author.Tests.{eqb-true, eq-eqb, ne_eqb}
use lib.Dec.{eqb, leb}
use lib.ListN.{length, drop, get_or, drop_of_length-le, length-map}
use lib.Seq.{drop-cons}
use Rattle.seq.specs.Lists.{every}
use Rattle.seq.specs.Bytes.{same}
use Rattle.seq.proofs.Logic.{split, and_left, and_right}
use Rattle.seq.proofs.Bytes.{same-eq}
use Rattle.seq.proofs.Lists.{get_d_any}
use Rattle.seq.proofs.Loops.{map-at}
use Rattle.seq.proofs.Rules.{all-every, all_true}
use Rattle.uri.specs.Uri.{policy_no, same_policy}
use Rattle.uri.proofs.Laws.{policy-same}
use Rattle.pattern.specs.declared.Row.{Row}
use Rattle.pattern.specs.Choice.{no_row, row_text}
use Rattle.model.specs.declared.Session.{Session}
use Rattle.model.specs.declared.HeldCall.{HeldCall}
use Rattle.model.specs.State.{row_count, is_open, unused, holder_count, idle}
use Rattle.model.specs.Rules.{zero_row, session_zero, id_in_range, ids_apart, holders_open, text_good, used_row, rows_apart, calls_apart, counters_low}
use Rattle.image.specs.declared.Kind.{Kind}
use Rattle.image.specs.declared.Kind.TheVariants.{Members, Owner}
use Rattle.image.specs.Image.{held, table_in}
use Rattle.image.proofs.RoundTrip.{load_sized}
use Rattle.rules.specs.ByTable.{session_lawful, rule_of, wanted_of, held_lawful, row_lawful}
use Rattle.rules.specs.Mark.{mark_of, mark, same_text}

pub and_no : (a : Bool) → (a && false) ≡ false
and_no true = refl
and_no false = refl

pub and_yes : (a : Bool) → (a && true) ≡ a
and_yes true = refl
and_yes false = refl

or_yes : (a : Bool) → (a || true) ≡ true
or_yes true = refl
or_yes false = refl

or_no : (a : Bool) → (a || false) ≡ a
or_no true = refl
or_no false = refl

-- ---- sessions
-- a slot without a session, whose ID and request number are 0: the last number decides
pub session-closed : (s : Session) → is_open s ≡ false → s.id ≡ 0 → s.request ≡ 0 → eqb s.invocation 0 ≡ session_lawful s
unfolding session_lawful session_zero id_in_range counters_low
session-closed s o i r =
    split (eqb s.invocation 0)
    (λ t. let z : s.invocation ≡ 0 = eqb-true _ _ t in rw (t, o, i, r, z))
    (λ t. rw (t, o, i, r))

-- two sessions of different IDs, and of one
pub ids-other : (s t : Session) → (s.id ≡ t.id → ⊥) → ids_apart s t ≡ true
unfolding ids_apart
ids-other s t n = rw (ne_eqb s.id t.id n) (or_yes (not (is_open s && is_open t)))

pub ids-same : (s t : Session) → s.id ≡ t.id → ids_apart s t ≡ not (is_open s && is_open t)
unfolding ids_apart
ids-same s t e = rw (eq-eqb s.id t.id e) (or_no (not (is_open s && is_open t)))

-- ---- holders
module _ (ss : List Session) (hs : List Bool) (i : ℕ) (d : Session) (h : i < length ss) (k : i < length hs) where
  pub holder-fail : get_or hs i false ≡ true → is_open (get_or ss i d) ≡ false → holders_open (drop i ss) (drop i hs) ≡ false
  unfolding holders_open
  holder-fail b o = rw (drop-cons ss i d h, drop-cons hs i false k, b, o)

  pub holder-pass :
      get_or hs i false ≡ true → is_open (get_or ss i d) ≡ true
      → holders_open (drop i ss) (drop i hs) ≡ holders_open (drop (i + 1) ss) (drop (i + 1) hs)
  unfolding holders_open
  holder-pass b o = rw (add-one, drop-cons ss i d h, drop-cons hs i false k, b, o)

  pub holder-skip : get_or hs i false ≡ false → holders_open (drop i ss) (drop i hs) ≡ holders_open (drop (i + 1) ss) (drop (i + 1) hs)
  unfolding holders_open
  holder-skip b = rw (add-one, drop-cons ss i d h, drop-cons hs i false k, b)

pub holders-end : (ss : List Session) (hs : List Bool) (i : ℕ) → length hs ≤ i → holders_open (drop i ss) (drop i hs) ≡ true
unfolding holders_open
holders-end ss hs i k = rw (drop_of_length-le hs k)

-- ---- rows
reorder : (a b c d : Bool) → (a && (b && (c && d))) ≡ (a && (d && (c && b)))
reorder false b c d = refl
reorder true false c d = simp and_no
reorder true true false d = simp and_no
reorder true true true false = refl
reorder true true true true = refl

-- a used row, its text tested last
pub used-order : (ss : List Session) (counter : ℕ) (kind : Kind) (r : Row)
    → used_row ss counter (rule_of kind) (wanted_of kind) r ≡ (leb r.number counter && held_lawful ss kind r)
unfolding used_row held_lawful
used-order ss counter kind r =
    reorder (leb r.number counter) (text_good (rule_of kind) r) (holders_open ss r.holders) (wanted_of kind (holder_count r))

-- an unused row is apart from every other
pub unused-apart : (r : Row) → unused r ≡ true → (rs : List Row) → every (rows_apart r) rs ≡ true
unfolding rows_apart
unused-apart r u rs = all-every (rows_apart r) rs (all_true (λ s. rows_apart r s ≡ true) (λ s. rw u) rs)

-- ---- held calls
pub idle-apart : (c : HeldCall) → idle c ≡ true → (cs : List HeldCall) → every (calls_apart c) cs ≡ true
unfolding calls_apart
idle-apart c u cs = all-every (calls_apart c) cs (all_true (λ d. calls_apart c d ≡ true) (λ d. rw u) cs)

-- two held calls of one caller and request number
pub first_way : (c d : HeldCall) → idle c ≡ false → idle d ≡ false → c.caller ≡ d.caller → c.request ≡ d.request → calls_apart c d ≡ false
unfolding calls_apart
first_way c d i j p q = rw (i, j, eq-eqb c.caller d.caller p, eq-eqb c.request d.request q)

-- two held calls that differ in caller or request number: callee and invocation number decide
pub second_way : (c d : HeldCall) → idle c ≡ false → idle d ≡ false
    → (eqb c.caller d.caller && eqb c.request d.request) ≡ false
    → calls_apart c d ≡ not (eqb c.callee d.callee && eqb c.invocation d.invocation)
unfolding calls_apart
second_way c d i j e = rw (i, j, e)

pub both-ne : (a b m n : ℕ) → (m ≡ n → ⊥) → (eqb a b && eqb m n) ≡ false
both-ne a b m n h = rw (ne_eqb m n h) (and_no (eqb a b))

pub left-ne : (a b m n : ℕ) → (a ≡ b → ⊥) → (eqb a b && eqb m n) ≡ false
left-ne a b m n h = rw (ne_eqb a b h)

-- ---- marks
-- rows of two marks have not one policy and text
pub marks-differ : (a b : Row) → (mark a ≡ mark b → ⊥) → same_text a b ≡ false
unfolding mark
marks-differ a b n =
    split (same_policy a.policy b.policy && same (row_text a) (row_text b))
    (λ t.
    let p = policy-same _ _ (and_left _ _ t) in
    let q = same-eq _ _ (and_right (same_policy a.policy b.policy) _ t) in
    absurd (n (ap₂ mark_of (ap policy_no p) q)))
    (λ t. t)

-- what is noted of a row
pub noted-at : (f : Row → ℕ) (xs : List Row) (i : ℕ) → i < length xs → get_or (map f xs) i 0 ≡ f (get_or xs i no_row)
noted-at f xs i h =
    let l : i < length (map f xs) = rw (length-map xs f) h in
    get_d_any (map f xs) i 0 (f no_row) l ∙ map-at f no_row xs i h

-- ---- lent tables
pub rows-length : (kind : Kind) (s : List ℕ) → length (table_in kind (held s)).rows ≡ row_count
rows-length Members s = (load_sized s).subscriptions
rows-length Owner s = (load_sized s).registrations

pub unused-lawful : (ss : List Session) (counter : ℕ) (kind : Kind) → row_lawful ss counter kind no_row ≡ true
unfolding row_lawful zero_row every
unused-lawful ss counter kind = refl
