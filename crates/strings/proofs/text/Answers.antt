use mathlib.Core.Path.{◌∙◌}
use Rattle.strings.proofs.Places.{part-first}
use Rattle.strings.proofs.text.Goals as goal

pub returns-in-AsItIs : goal.returns-in-AsItIs
returns-in-AsItIs c = rw c.in-AsItIs.is c.text.ensures

pub returns-in-Kept : goal.returns-in-Kept
returns-in-Kept c =
    let args = c.args in
    let u = c.in-Kept in
    rw u.is (c.text-in-Kept.ensures ∙ part-first args.stored.now u.n)
