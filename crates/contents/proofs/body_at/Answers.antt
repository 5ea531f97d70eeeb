use mathlib.Core.Path.{◌∙◌}
use Rattle.contents.proofs.Laws.{body_is}
use Rattle.contents.proofs.body_at.Goals as goal

pub returns : goal.returns
returns c =
    let args = c.args in
    c.text.ensures ∙ body_is args.file.now args.x
