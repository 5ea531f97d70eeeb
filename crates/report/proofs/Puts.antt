-- Texts put into a buffer one behind the other are put as one; and a loop that puts one text more each turn. Assumes nothing.
use mathlib.Core.Path.{◌≡◌, refl, sym, ap, ◌∙◌}
use Prim.Native.Nat.{ℕ, ◌-◌}
use native.Mathlib.Nat.{add-zero}
use mathlib.Core.List.{List, [], ◌++◌, append-nil}
use lib.ListN.{length, take, take-append-drop}
use lib.Seq.{take-nil}
use Rattle.show.specs.Buffer.{fitting, after, written}
use Rattle.show.proofs.Joined.{after_then, written_then}

-- what a function that puts a text says
abbrev pub Said : List ℕ → ℕ → List ℕ → ℕ → List ℕ → Type 0
Said old at new past left = record { place : past ≡ after old at new; bytes : left ≡ written old at new }

pub record Puts (old : List ℕ) (at : ℕ) (new : List ℕ) (past : ℕ) (left : List ℕ) : Type 0 where
  pub place : past ≡ after old at new
  pub bytes : left ≡ written old at new

pub first : (old : List ℕ) (at : ℕ) (new : List ℕ) {past : ℕ} {left : List ℕ} → Said old at new past left → Puts old at new past left
first old at new s = record { place = s.place; bytes = s.bytes }

pub then : {old : List ℕ} {at : ℕ} {one : List ℕ} {p : ℕ} {l : List ℕ} → Puts old at one p l
    → (two : List ℕ) {past : ℕ} {left : List ℕ} → Said l p two past left → Puts old at (one ++ two) past left
then {old} {at} {one} {p} {l} r two s =
    record {
      place = s.place ∙ rw (r.place, r.bytes) (after_then old at one two);
      bytes = s.bytes ∙ rw (r.place, r.bytes) (written_then old at one two);
    }

pub whole : {old : List ℕ} {at : ℕ} {new : List ℕ} {past : ℕ} {left : List ℕ} → Puts old at new past left → (text : List ℕ) → new ≡ text
    → Said old at text past left
whole r text e = record { place = r.place ∙ ap (after _ _) e; bytes = r.bytes ∙ ap (written _ _) e }

-- ---- a loop: with the rest put from here on, the whole is put
pub record Remains (old : List ℕ) (at : ℕ) (new text : List ℕ) (to : ℕ) (rest : List ℕ) : Type 0 where
  pub place : after text to rest ≡ after old at new
  pub bytes : written text to rest ≡ written old at new

pub begins : (old : List ℕ) (at : ℕ) (new : List ℕ) → Remains old at new old at new
begins old at new = record { place = refl; bytes = refl }

pub turns : {old : List ℕ} {at : ℕ} {new text : List ℕ} {to : ℕ} (one two : List ℕ) → Remains old at new text to (one ++ two)
    → {past : ℕ} {left : List ℕ} → Said text to one past left → Remains old at new left past two
turns {old} {at} {new} {text} {to} one two r s =
    record {
      place = rw (s.place, s.bytes) (after_then text to one two) ∙ r.place;
      bytes = rw (s.place, s.bytes) (written_then text to one two) ∙ r.bytes;
    }

-- an empty text changes nothing
pub after_none : (text : List ℕ) (to : ℕ) → after text to [] ≡ to
unfolding after fitting
after_none text to = rw (take-nil (length text - to)) (add-zero to)

pub written_none : (text : List ℕ) (to : ℕ) → written text to [] ≡ text
unfolding written after fitting
written_none text to = rw (take-nil (length text - to), add-zero to, append-nil (take to text), take-append-drop to text)

pub ends : {old : List ℕ} {at : ℕ} {new text : List ℕ} {to : ℕ} → Remains old at new text to [] → Said old at new to text
ends {old} {at} {new} {text} {to} r = record { place = sym (after_none text to) ∙ r.place; bytes = sym (written_none text to) ∙ r.bytes }
