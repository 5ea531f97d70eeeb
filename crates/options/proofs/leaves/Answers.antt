use mathlib.Core.Bool.{true, not, ◌||◌}
use mathlib.Core.Path.{◌≡◌, sym, ◌∙◌}
use Rattle.seq.proofs.Logic.{and-false, or-given}
use Rattle.options.specs.Audience.{keeps_me, excludes, leaves}
use Rattle.options.specs.Meaning.{flag_meant, ids_meant}
use Rattle.options.proofs.leaves.Goals.{then-own+else-not-keeps_me, else-own}
use Rattle.options.proofs.leaves.Goals as goal

pub returns-then-not-keeps_me : goal.returns-then-not-keeps_me
unfolding leaves
returns-then-not-keeps_me c =
    let keeps-me = c.keeps_me in
    rw (c.if-own.true, sym keeps-me.ensures, c.if-not-keeps_me.true)

pub returns-then-excludes : goal.returns-then-excludes
unfolding leaves
returns-then-excludes c =
    let args = c.args in
    let gone : excludes (ids_meant args.o.exclude) args.id ≡ true = sym c.excludes.ensures ∙ c.if-excludes.true in
    sym (and-false (not args.own || keeps_me (flag_meant args.o.publisher)) _ (rw gone))

pub returns : goal.returns
unfolding leaves
returns c =
    let args = c.args in
    let stays : (not args.own || keeps_me (flag_meant args.o.publisher)) ≡ true =
    elim c.if-own.branch [
      | then-own+else-not-keeps_me w ↦ or-given (not args.own) _ (λ t. sym w.keeps_me.ensures ∙ w.if-not-keeps_me.false)
      | else-own w ↦ rw w.if-own.false
    ] in
    rw (stays, sym c.excludes.ensures, c.if-excludes.false) c.admits.ensures
