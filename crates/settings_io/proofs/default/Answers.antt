use mathlib.Core.Path.{refl, sym, ap}
use Rattle.std.specs.Prelude.{Ok}
use native.Mathlib.Omega.{arith}
use lib.ListN.{length}
use Rattle.buffer.proofs.Over.{over_none}
use Rattle.buffer.proofs.Wrote.{told, wrote-both, wrote_then}
use Rattle.settings.specs.Settings.{default_settings}
use Rattle.settings.specs.Lent.{lent}
use Rattle.settings_io.proofs.Laws.{exact, given-no, given_yes, default-length, default-is}
use Rattle.settings_io.proofs.default.Goals as goal

pub returns-then-out-lt4357 : goal.returns-then-out-lt4357
returns-then-out-lt4357 c =
    let g = given-no (length c.args.out.now) (lent default_settings) (omega (arith, default-length)) in
    rw g (record { answer = refl; bytes = sym (over_none _ 0) })

pub returns : goal.returns
returns c =
    let g = given_yes (length c.args.out.now) (lent default_settings) (omega (arith, default-length)) in
    let w =
    exact (omega (arith, default-length))
    (wrote-both default-is (omega arith) (told _ _ _ c.put_text-o.ensures)
    (wrote_then (omega arith) (told _ _ _ c.put_zeros-p.ensures) (told _ _ _ c.put_number32.ensures))) in
    rw g (record { answer = ap Ok w.place; bytes = w.bytes })
