use mathlib.Core.Path.{sym}
use Rattle.report.proofs.Laws.{entry-bytes}
use Rattle.report.proofs.entry_at.Goals as goal

pub returns : goal.returns
returns c =
    let s = c.args.out.now in
    let k = c.args.k in record {
      means = rw (c.number.ensures.means, c.byte-3.ensures, c.byte-2.ensures, c.wide.ensures, c.byte.ensures) (sym (entry-bytes s k));
      short = c.number.ensures.short;
    }
