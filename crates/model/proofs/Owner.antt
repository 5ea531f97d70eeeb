-- A registration's owner: the one slot that holds the row, and an open session's. Assumes nothing.
use Prim.Native.Nat.{ℕ}
use mathlib.Core.Bool.{true, false}
use mathlib.Core.Path.{◌≡◌, refl}
use native.Mathlib.Omega.{arith}
use Rattle.seq.specs.Lists.{first}
use Rattle.seq.proofs.Logic.{clash}
use Rattle.seq.proofs.Rules.{all-at}
use Rattle.seq.proofs.Search.{found-passes, missed-all, found-case, tally-missed, tally-one}
use Rattle.uri.specs.Uri.{valid_procedure, TextRule}
use Rattle.pattern.specs.declared.Row.{Row}
use Rattle.pattern.specs.Choice.{no_row}
use Rattle.model.specs.declared.Hub.{Hub}
use Rattle.model.specs.State.{slots, unused, holds, is_holder, holder_count, owner, row_at}
use Rattle.model.specs.Rules.{OpenAt, UsedRow, OneOwner, Lawful}

-- the owner holds the row
pub owner-holds : (r : Row) → holder_count r ≡ 1 → holds (owner r) r ≡ true
unfolding owner
owner-holds r e =
    found-case (λ i. holds i r ≡ true) (first is_holder r.holders) (λ i. i) slots
    (λ k f. found-passes is_holder false r.holders k f)
    (λ f. absurd (let z = tally-missed is_holder r.holders (missed-all is_holder r.holders f) in omega arith))

-- no other slot does
pub owner-only : (r : Row) → holder_count r ≡ 1 → (i : ℕ) → holds i r ≡ true → i ≡ owner r
owner-only r e i q = tally-one is_holder false refl r.holders e i (owner r) q (owner-holds r e)

-- the owner's session is open, by rule 3
pub owner-open : (h : Hub) (counter : ℕ) (rule : TextRule) (r : Row) → UsedRow h counter rule OneOwner r → OpenAt h (owner r)
owner-open h counter rule r u = u.holding (owner r) (owner-holds r u.wanted)

pub registered-open : (h : Hub) (k : ℕ) → Lawful h → unused (row_at h.registrations k) ≡ false → OpenAt h (owner (row_at h.registrations k))
registered-open h k l e =
    owner-open h h.registrations.counter valid_procedure (row_at h.registrations k)
    (all-at (λ r. unused r ≡ false → UsedRow h h.registrations.counter valid_procedure OneOwner r) no_row h.registrations.rows k
    (λ f. clash refl f)
    l.registrations.each e)
