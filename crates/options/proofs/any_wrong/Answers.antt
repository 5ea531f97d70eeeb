use mathlib.Core.Path.{sym}
use Rattle.options.specs.Audience.{any_wrong}
use Rattle.options.proofs.any_wrong.Goals as goal

pub returns-then-is_wrong_flag : goal.returns-then-is_wrong_flag
unfolding any_wrong
returns-then-is_wrong_flag c = rw (sym c.is_wrong_flag.ensures, c.if-is_wrong_flag.true)

pub returns-then-is_wrong_list : goal.returns-then-is_wrong_list
unfolding any_wrong
returns-then-is_wrong_list c =
    let flag = c.is_wrong_flag in
    rw (sym flag.ensures, c.if-is_wrong_flag.false, sym c.is_wrong_list.ensures, c.if-is_wrong_list.true)

pub returns : goal.returns
unfolding any_wrong
returns c =
    let flag = c.is_wrong_flag in
    let list = c.is_wrong_list in
    rw (sym flag.ensures, c.if-is_wrong_flag.false, sym list.ensures, c.if-is_wrong_list.false) c.is_wrong_list-2.ensures
