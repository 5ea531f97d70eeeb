use mathlib.Core.Path.{sym}
use lib.ListN.{length}
use lib.Seq.{length-take-le}
use Rattle.pattern.specs.Match.{starts_with}
use Rattle.pattern.proofs.Laws.{starts-long}
use Rattle.pattern.proofs.begins.Goals as goal

pub returns-then-uri-n : goal.returns-then-uri-n
returns-then-uri-n c = sym (starts-long c.args.text.now c.args.uri.now c.if-uri-n.true)

pub slice_bounds-same_bytes-end : goal.slice_bounds-same_bytes-end
slice_bounds-same_bytes-end c =
    let args = c.args in
    let if1 = c.if-uri-n in
    sym (length-take-le (length args.text.now) args.uri.now if1.false)

pub returns : goal.returns
unfolding starts_with
returns c = c.same_bytes.ensures
