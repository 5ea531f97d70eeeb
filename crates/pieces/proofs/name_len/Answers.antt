use mathlib.Core.Path.{ap, ◌∙◌}
use native.Mathlib.Omega.{arith}
use Rattle.buffer.specs.Capped.{capped}
use Rattle.strings.proofs.Written.{escaped-length}
use Rattle.pieces.proofs.name_len.Goals as goal

pub returns : goal.returns
returns c =
    let e = escaped-length c.args.text.now in
    c.plus.ensures ∙ ap capped (omega (arith, c.marked.ensures.means))
