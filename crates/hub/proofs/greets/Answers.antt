use Rattle.model.specs.Step.{accepts}
use Rattle.hub.proofs.greets.Goals as goal

pub returns-in-Greets : goal.returns-in-Greets
unfolding accepts
returns-in-Greets c = rw c.in-Greets.is c.is_realm.ensures

pub returns-in-Leaves : goal.returns-in-Leaves
unfolding accepts
returns-in-Leaves c = rw c.in-Leaves.is

pub returns-in-Wrong : goal.returns-in-Wrong
unfolding accepts
returns-in-Wrong c = rw c.in-Wrong.is
