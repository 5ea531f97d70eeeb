use Prim.Native.Nat.{◌+◌, ◌*◌}
use mathlib.Core.Path.{◌∙◌}
use lib.Seq.{drop-drop}
use Rattle.seq.proofs.BigEndian.{part-size}
use Rattle.settings.proofs.row.Goals as goal

pub returns : goal.returns
returns c =
    let s = c.args.settings.now in
    let k = c.args.k in
    c.text.ensures ∙ rw (part-size (129 + k * 132) 132, drop-drop (k * 132) 129 s)
