-- Laws of a new row's place, number and text. Assumes nothing.
use Rattle.std.specs.Prelude.{Some}
use Prim.Native.Nat.{ℕ, ◌<◌}
use mathlib.Core.Bool.{true}
use mathlib.Core.List.{List}
use mathlib.Core.Path.{◌≡◌}
use native.Mathlib.Omega.{arith}
use borrow.Author.Tests.{ltb-true}
use lib.ListN.{take}
use lib.Seq.{take_all}
use Rattle.seq.specs.Lists.{on_found}
use Rattle.seq.proofs.Logic.{split}
use Rattle.uri.specs.declared.Policy.{Policy}
use Rattle.uri.specs.Uri.{longest, TextRule}
use Rattle.model.specs.declared.Table.{Table}
use Rattle.seq.specs.Numbers.{last_id}
use Rattle.uri.proofs.Uses.{Short}
use Rattle.model.specs.Step.{Next, on_place, has_number}
use Rattle.rows.specs.Place.{place_in}

pub on-place : (t : Table) (found : ℕ → Next) (none : Next) → on_place t found none ≡ on_found (place_in t) found none
unfolding on_place place_in
on-place t found none = split (has_number t) (λ e. rw e) (λ e. rw e)

place-numbered : (t : Table) (k : ℕ) → place_in t ≡ Some k → has_number t ≡ true
unfolding place_in
place-numbered t k p =
    split (has_number t) (λ e. e) (λ e. let q = rw e at p in let z : ◌≡◌ {A = ℕ} 0 1 = cc in absurd (omega arith))

pub place-low : (t : Table) (k : ℕ) → place_in t ≡ Some k → t.counter < last_id
unfolding has_number
place-low t k p = ltb-true _ _ (place-numbered t k p)

-- a text that obeys such a rule is not cut
pub valid-whole : (rule : TextRule) → Short rule → (t : List ℕ) (policy : Policy) → rule t policy ≡ true → take longest t ≡ t
valid-whole rule short t policy e = take_all longest t (short t policy e)
