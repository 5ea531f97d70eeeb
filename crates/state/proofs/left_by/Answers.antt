use mathlib.Core.Path.{◌≡◌, refl}
use native.Mathlib.Omega.{arith}
use lib.Dec.{eqb}
use lib.ListN.{get_or}
use Rattle.options.specs.Audience.{leaves}
use Rattle.options.specs.Meaning.{audience_of}
use Rattle.model.specs.State.{no_session}
use Rattle.state.proofs.Laws.{stored-none, stored_more, stored-left}
use borrow.Author.Rules.{rules}
use Rattle.state.proofs.left_by.Goals as goal

pub loop-i-init : goal.loop-i-init
loop-i-init c = (refl, stored-none _ 8)

pub loop-i-preserved : goal.loop-i-preserved
loop-i-preserved c =
    let args = c.args in
    let loop = c.loop-i in
    let n = loop.invariant.0 in
    let said : c.leaves.result ≡ leaves (audience_of args.o) (eqb loop.i args.slot) (get_or args.sessions loop.i no_session).id =
    c.leaves.ensures in
    (search rules, stored_more _ loop.all loop.i _ (omega arith) said loop.invariant.1)

pub returns : goal.returns
returns c =
    let args = c.args in
    let loop = c.loop-i in
    let e : loop.i ≡ 8 = omega arith in
    stored-left args.sessions args.slot (audience_of args.o) loop.all (rw e at loop.invariant.1)
