-- Row i is the one that is sought, or the search goes on from the next, or no row is left.
use native.Mathlib.Omega.{arith}
use mathlib.Core.Path.{sym, ◌∙◌}
use Rattle.seq.proofs.Search.{first-hit, first-miss, first-end}
use Rattle.model.specs.State.{serves, no_call}
use Rattle.lent.proofs.find.Goals as goal

pub returns-then-is_served : goal.returns-then-is_served
returns-then-is_served c =
    sym (first-hit (serves c.args.slot c.args.invocation) c.args.calls.now c.loop-i.i no_call (omega arith) (sym c.if-is_served.ensures))
    ∙ c.loop-i.invariant

pub loop-i-preserved : goal.loop-i-preserved
loop-i-preserved c =
    sym (first-miss (serves c.args.slot c.args.invocation) c.args.calls.now c.loop-i.i no_call (omega arith) (sym c.if-is_served.ensures))
    ∙ c.loop-i.invariant

pub returns : goal.returns
returns c = sym (first-end (serves c.args.slot c.args.invocation) c.args.calls.now c.loop-i.i (omega arith)) ∙ c.loop-i.invariant
