use mathlib.Core.Path.{ap, ◌∙◌}
use native.Mathlib.Omega.{arith}
use lib.ListN.{length, length-append}
use Rattle.buffer.specs.Capped.{capped}
use Rattle.values.specs.Write.{pack_str, pack_text}
use Rattle.pieces.proofs.str_len.Goals as goal

pub returns : goal.returns
unfolding pack_text
returns c =
    let t = c.args.text.now in
    let e = length-append (pack_str (length t)) t in
    c.plus.ensures ∙ ap capped (omega (arith, c.head_len.ensures))
