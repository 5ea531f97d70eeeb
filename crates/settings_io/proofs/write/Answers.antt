use mathlib.Core.Bool.{true, false}
use mathlib.Core.Path.{◌≡◌, refl, sym, ap, ◌∙◌}
use Rattle.std.specs.Prelude.{Ok}
use native.Mathlib.Omega.{arith}
use lib.ListN.{length}
use Rattle.buffer.proofs.Over.{over_none}
use Rattle.settings.specs.Lent.{settings_of, lawful}
use Rattle.settings_file.specs.File.{writes, file}
use Rattle.settings_io.proofs.Laws.{given-no, given_yes}
use Rattle.settings_io.proofs.write.Goals as goal

pub returns-then-not-lawful : goal.returns-then-not-lawful
unfolding writes
returns-then-not-lawful c =
    let args = c.args in
    let f : lawful args.settings.now ≡ false = sym c.lawful.ensures ∙ c.if-not-lawful.true in
    rw f (record { answer = refl; bytes = sym (over_none _ 0) })

pub put_file-count-requires : goal.put_file-count-requires
put_file-count-requires c = sym c.lawful.ensures ∙ c.if-not-lawful.false

pub returns-then-out-count : goal.returns-then-out-count
unfolding writes
returns-then-out-count c =
    let args = c.args in
    let s = args.settings.now in
    let t : lawful s ≡ true = sym c.lawful.ensures ∙ c.if-not-lawful.false in
    let n = c.put_file-count.ensures.place in
    let g = given-no (length args.out.now) (file args.version (settings_of s)) (omega arith) in
    rw (t, g)
    (record { answer = refl; bytes = sym (over_none _ 0) })

pub put_file-requires : goal.put_file-requires
put_file-requires c = sym c.lawful.ensures ∙ c.if-not-lawful.false

pub returns : goal.returns
unfolding writes
returns c =
    let args = c.args in
    let s = args.settings.now in
    let t : lawful s ≡ true = sym c.lawful.ensures ∙ c.if-not-lawful.false in
    let n = c.put_file-count.ensures.place in
    let g = given_yes (length args.out.now) (file args.version (settings_of s)) (omega arith) in
    rw (t, g) (record { answer = ap Ok n; bytes = c.put_file.ensures.bytes })
