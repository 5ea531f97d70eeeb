-- Laws of the URI rule and of its uses: a text that obeys one has at most `longest` bytes. Assumes nothing.
use Prim.Native.Nat.{ℕ, ◌≤◌}
use mathlib.Core.Bool.{Bool, true, not, ◌&&◌}
use mathlib.Core.List.{List}
use mathlib.Core.Path.{◌≡◌}
use borrow.Author.Tests.{leb-true}
use lib.Dec.{eqb, leb}
use lib.ListN.{length}
use Rattle.seq.proofs.Logic.{and_left, and_right}
use Rattle.uri.specs.declared.Policy.{Policy}
use Rattle.uri.specs.declared.Policy.TheVariants.{Exact}
use Rattle.uri.specs.Uri.{longest, clean, components_filled, valid_text, TextRule}
use Rattle.uri.specs.Uri.{valid_topic, valid_procedure, valid_published, valid_called, valid_error}

valid-short : (s : List ℕ) (policy : Policy) → valid_text s policy ≡ true → length s ≤ longest
unfolding valid_text
valid-short s policy e =
    let some : Bool = not (eqb (length s) 0) in
    let short : Bool = leb (length s) longest in
    leb-true (length s) longest
    (and_right some short
    (and_left (some && short) (clean s)
    (and_left (some && short && clean s) (components_filled policy s) e)))

-- a rule whose texts are that short: what a table asks of the rule of its rows
abbrev pub Short : TextRule → Type 0
Short rule = (s : List ℕ) (policy : Policy) → rule s policy ≡ true → length s ≤ longest

pub short-topic : Short valid_topic
unfolding valid_topic
short-topic s policy e = valid-short s policy e

pub short-procedure : Short valid_procedure
unfolding valid_procedure
short-procedure s policy e = valid-short s policy (and_left (valid_text s policy) _ e)

pub short-published : (s : List ℕ) → valid_published s ≡ true → length s ≤ longest
unfolding valid_published
short-published s e = valid-short s Exact (and_left (valid_text s Exact) _ e)

pub short-called : (s : List ℕ) → valid_called s ≡ true → length s ≤ longest
unfolding valid_called
short-called s e = valid-short s Exact e

pub short-error : (s : List ℕ) → valid_error s ≡ true → length s ≤ longest
unfolding valid_error
short-error s e = valid-short s Exact e
