-- Laws of the test of a request's number, and of the formats of numbered sessions. Assumes nothing.
use Prim.Native.Nat.{ℕ, suc, ◌+◌, ◌≤◌, ◌<◌}
use mathlib.Core.Bool.{false}
use mathlib.Core.List.{List}
use mathlib.Core.Path.{◌≡◌, ap, fun_ext, ◌∙◌}
use native.Mathlib.Omega.{arith}
use native.Mathlib.Numerals.{add-one}
use borrow.Author.Tests.{eqb-true, le-leb, lt-leb}
use lib.Dec.{eqb}
use Rattle.seq.proofs.Logic.{split}
use Rattle.seq.specs.Numbers.{last_id}
use Rattle.model.specs.declared.Session.{Session}
use Rattle.model.specs.declared.Hub.{Hub}
use Rattle.model.specs.State.{empty_hub, session, format_at}
use Rattle.model.specs.Step.{follows, numbered}
use Rattle.model.proofs.Formats.{numbered-format}
use Rattle.image.specs.Image.{with_sessions}
use Rattle.state.specs.Change.{formats_in}

pub follows-end : (last n : ℕ) → last_id ≤ last → follows last n ≡ false
unfolding follows
follows-end last n h =
    split (eqb n (suc last))
    (λ e. let d = eqb-true n (suc last) e in rw (e, lt-leb n last_id (omega arith)))
    (λ e. rw e)

pub follows_next : (last n : ℕ) → last < last_id → eqb n (last + 1) ≡ follows last n
unfolding follows
follows_next last n h =
    rw (add-one last)
    (split (eqb n (suc last))
    (λ e. let d = eqb-true n (suc last) e in rw (e, le-leb n last_id (omega arith)))
    (λ e. rw e))

-- a request's number moves no format
pub formats-numbered : (r ss : List Session) (i n : ℕ) → ((h : Hub) → with_sessions h r ≡ numbered (with_sessions h ss) i n) → formats_in r ≡ formats_in ss
unfolding format_at session
formats-numbered r ss i n e =
    fun_ext (λ j. ap (λ g. format_at g j) (e empty_hub) ∙ numbered-format (with_sessions empty_hub ss) i n j)
