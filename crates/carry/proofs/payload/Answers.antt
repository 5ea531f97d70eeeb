use mathlib.Core.Path.{sym}
use native.Mathlib.Omega.{arith}
use lib.ListN.{length}
use Rattle.conversion.proofs.Conv.{took, refused}
use Rattle.carry.specs.Carries.{Near}
use Rattle.carry.proofs.Laws.{absent, first-not, rest-not, near-done, one, both}
use Rattle.carry.proofs.payload.Goals as goal

pub returns-in_err-first-in-Arguments : goal.returns-in_err-first-in-Arguments
returns-in_err-first-in-Arguments c =
    rw (c.in-Arguments.is, c.from_residual.ensures) (first-not _ _ _ _ (refused c.put_value.ensures.means c.in_err-first-in-Arguments.was))

pub returns-in_err-first-in-Keywords : goal.returns-in_err-first-in-Keywords
returns-in_err-first-in-Keywords c =
    rw (c.in-Keywords.is, c.from_residual-in_err-first-in-Keywords.ensures) (first-not _ _ _ _ (refused c.put_value-in-Keywords.ensures.means c.in_err-first-in-Keywords.was))

pub returns-in_err-second-in-Keywords : goal.returns-in_err-second-in-Keywords
returns-in_err-second-in-Keywords c =
    let t = took c.put_value-in-Keywords.ensures.means c.in_ok-first-in-Keywords.was in
    let n = refused c.put_value-in-Keywords-2.ensures.means c.in_err-second-in-Keywords.was in
    rw (c.in-Keywords.is, c.from_residual-in_err-second-in-Keywords.ensures) (rest-not _ _ _ _ t.value _ t.read (sym (first-not _ _ _ _ n)))

pub returns-in-Absent : goal.returns-in-Absent
returns-in-Absent c = rw c.in-Absent.is (absent _ _)

pub returns-in_ok-first-in-Arguments : goal.returns-in_ok-first-in-Arguments
returns-in_ok-first-in-Arguments c =
    let put = c.put_value.ensures in
    let z = c.in_ok-first-in-Arguments.was in
    rw c.in-Arguments.is (one _ _ _ _ _ (omega (arith, c.well_formed.1.1.1.0)) c.requires _ _ _ (took put.means z) (near-done _ _ z put.near))

pub returns-in_ok-second-in-Keywords : goal.returns-in_ok-second-in-Keywords
returns-in_ok-second-in-Keywords c =
    let list = c.put_value-in-Keywords.ensures in
    let dict = c.put_value-in-Keywords-2.ensures in
    let m = c.in_ok-first-in-Keywords.was in
    let z = c.in_ok-second-in-Keywords.was in
    let place = c.in_ok-first-in-Keywords.first.written in
    let behind : Near (length c.args.message.now) place c.put_value-in-Keywords-2.result = dict.near in
    rw c.in-Keywords.is
    (both _ _ _ _ _ (omega (arith, c.well_formed.1.1.1.0)) c.requires _ _ _ _ _ _ _ (took list.means m) (near-done _ _ m list.near) (took dict.means z) (near-done _ _ z behind))
