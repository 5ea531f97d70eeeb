use mathlib.Core.Path.{sym}
use borrow.Author.Tests.{eq-eqb, ne_eqb}
use Rattle.options.specs.Audience.{flag_of}
use Rattle.options.proofs.read_flag.Goals as goal

pub returns-then-v-eq0 : goal.returns-then-v-eq0
unfolding flag_of
returns-then-v-eq0 c = rw (eq-eqb _ 0 c.if-v-eq0.true)

pub returns-then-is_bool : goal.returns-then-is_bool
unfolding flag_of
returns-then-is_bool c = rw (ne_eqb _ 0 c.if-v-eq0.false, sym c.is_bool.ensures, c.if-is_bool.true)

pub returns-then-is_bool-2 : goal.returns-then-is_bool-2
unfolding flag_of
returns-then-is_bool-2 c =
    let some = ne_eqb _ 0 c.if-v-eq0.false in
    let is_true = c.is_bool in
    rw (some, sym is_true.ensures, c.if-is_bool.false, sym c.is_bool-2.ensures, c.if-is_bool-2.true)

pub returns : goal.returns
unfolding flag_of
returns c =
    let some = ne_eqb _ 0 c.if-v-eq0.false in
    let is_true = c.is_bool in
    rw (some, sym is_true.ensures, c.if-is_bool.false, sym c.is_bool-2.ensures, c.if-is_bool-2.false)
