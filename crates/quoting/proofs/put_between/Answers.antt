use mathlib.Core.Path.{sym, ◌∙◌}
use Rattle.buffer.proofs.Wrote.{told, tells, wrote}
use Rattle.quoting.proofs.Laws.{bare-spelled}
use Rattle.quoting.proofs.put_between.Goals as goal

pub returns-then-is_bare : goal.returns-then-is_bare
returns-then-is_bare c =
    let is-bare = c.is_bare in
    let if1 = c.if-is_bare in
    let put-bytes = c.put_bytes in
    tells (wrote (bare-spelled _ (sym is-bare.ensures ∙ if1.true)) (told _ _ _ put-bytes.ensures))

pub returns : goal.returns
returns c =
    c.put_letters.ensures
