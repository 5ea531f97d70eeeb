use mathlib.Core.Path.{◌∙◌}
use Rattle.rules.specs.Mark.{mark_of, mark}
use Rattle.rules.proofs.mark.Goals as goal

pub returns : goal.returns
unfolding mark mark_of
returns c =
    let policy = c.policy-policy in
    let text = c.text-text in
    let policy-number = c.policy_number in
    let from-end = c.from_end in
    c.packed.ensures
    ∙ rw (policy-number.ensures, policy.ensures, from-end.ensures, c.from_end-2.ensures, text.ensures)
