use mathlib.Core.Path.{ap, ◌∙◌}
use mathlib.Core.Bool.{not}
use Rattle.seq.specs.Bytes.{same}
use Rattle.pattern.proofs.Laws.{winner-tells}
use Rattle.pattern.proofs.wildcard_wins.Goals as goal

pub returns : goal.returns
returns c =
    let x = c.args in
    ap not (c.same_bytes.ensures ∙ ap (λ l. same l x.old.now) c.better-winner.ensures.bytes) ∙ winner-tells x.old.now x.new.now
