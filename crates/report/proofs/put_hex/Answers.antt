use Rattle.seq.specs.Bytes.{chars}
use Rattle.hex_text.specs.Hex.{hex_of}
use mathlib.Core.Path.{refl}
use Rattle.report.specs.Text.{hex_text}
use Rattle.report.proofs.Puts.{first, then, whole}
use Rattle.report.proofs.put_hex.Goals as goal

pub returns : goal.returns
unfolding hex_text
returns c =
    let a = first c.args.text.now c.args.at (chars "hex ") c.put-a.ensures in
    whole (then a (hex_of c.args.body.now) c.put_digits.ensures) (hex_text c.args.body.now) refl
