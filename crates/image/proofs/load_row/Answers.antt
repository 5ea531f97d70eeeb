use native.Mathlib.Omega.{arith}
use lib.ListN.{length-drop}
use Rattle.seq.proofs.Lists.{rest-size}
use Rattle.image.specs.Image.{row_of}
use Rattle.image.proofs.load_row.Goals as goal

pub load_text-text-requires : goal.load_text-text-requires
load_text-text-requires c =
    let c9 = c in
    rw (rest-size 11 c9.args.s.now) (simp length-drop (omega arith))

pub returns : goal.returns
unfolding row_of
returns c =
    let c2 = c in
    let c4 = c2 in
    let c6 = c4 in
    let c8 = c6 in
    let c10 = c8 in
    rw (
      c6.load_policy-policy.ensures,
      c4.load_holders-holders.ensures,
      c8.load_number-number.ensures,
      c2.size-len.ensures,
      c.load_text-text.ensures,
      rest-size 11 c10.args.s.now,
    )
