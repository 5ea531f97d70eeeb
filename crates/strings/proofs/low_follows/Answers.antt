use mathlib.Core.Path.{sym}
use Rattle.strings.proofs.Laws.{low-plain, low-short, low_below, low-from}
use Rattle.strings.proofs.low_follows.Goals as goal

pub returns-then-byte-ne92 : goal.returns-then-byte-ne92
returns-then-byte-ne92 c = sym (low-plain _ _ c.byte.ensures c.if-byte-ne92.true)

pub returns-then-byte-ne117 : goal.returns-then-byte-ne117
returns-then-byte-ne117 c =
    sym (low-short _ _ _ c.byte.ensures c.byte-2.ensures c.if-byte-ne92.false c.if-byte-ne117.true)

pub returns-then-low-lt56320 : goal.returns-then-low-lt56320
returns-then-low-lt56320 c =
    let byte = c.byte in
    let if1 = c.if-byte-ne92 in
    let byte2 = c.byte-2 in
    let if2 = c.if-byte-ne117 in
    sym (low_below _ _ _ byte.ensures byte2.ensures if1.false _ c.unit-low.ensures.means if2.false c.if-low-lt56320.true)

pub returns : goal.returns
returns c =
    let byte = c.byte in
    let if1 = c.if-byte-ne92 in
    let byte2 = c.byte-2 in
    let if2 = c.if-byte-ne117 in
    sym (low-from _ _ _ byte.ensures byte2.ensures if1.false _ c.unit-low.ensures.means if2.false c.if-low-lt56320.false)
