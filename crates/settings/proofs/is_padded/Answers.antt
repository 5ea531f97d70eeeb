use Prim.Native.Nat.{◌+◌}
use mathlib.Core.Path.{sym, ap, ◌∙◌}
use borrow.Author.Tests.{lt-leb, le-leb}
use lib.ListN.{drop}
use lib.Seq.{drop-drop}
use Rattle.seq.specs.Lists.{every}
use Rattle.seq.specs.Bytes.{is_zero, byte_at}
use Rattle.uri.specs.Uri.{longest}
use Rattle.settings.specs.Lent.{padded}
use Rattle.settings.proofs.is_padded.Goals as goal

pub returns-then-n-gt-LONGEST : goal.returns-then-n-gt-LONGEST
unfolding padded
returns-then-n-gt-LONGEST c =
    let n = c.size-n.ensures ∙ c.byte.ensures in
    rw (lt-leb _ longest (rw n at c.if-n-gt-LONGEST.true))

pub returns : goal.returns
unfolding padded
returns c =
    let n = c.size-n.ensures ∙ c.byte.ensures in
    let s = c.args.b.now in
    let rest = c.from.ensures ∙ ap (λ k. drop (1 + k) s) n in
    rw (le-leb _ longest (rw n at c.if-n-gt-LONGEST.false))
    (c.all_zero.ensures ∙ ap (every is_zero) (rest ∙ sym (drop-drop (byte_at s 0) 1 s)))
