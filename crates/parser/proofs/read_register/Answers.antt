use mathlib.Core.Path.{sym, ◌∙◌}
use Rattle.incoming.specs.Read.{register}
use Rattle.parser.proofs.Laws.{sound-match, match_is}
use Rattle.parser.proofs.read_register.Goals as goal

pub returns-then-not-is_request : goal.returns-then-not-is_request
unfolding register
returns-then-not-is_request c =
    let args = c.args in
    let option = c.option-v in
    let s = args.s.now in
    let v = option.ensures in
    let other = sym c.is_request.ensures ∙ c.if-not-is_request.true in
    rw (sound-match args.format s args.options _ v, other)

pub returns : goal.returns
unfolding register
returns c =
    let args = c.args in
    let option = c.option-v in
    let is-request = c.is_request in
    let if1 = c.if-not-is_request in
    let s = args.s.now in
    let v = option.ensures in
    let policy = c.policy.ensures ∙ match_is args.format s args.options _ v in
    let fits = sym is-request.ensures ∙ if1.false in
    rw (c.within.ensures, policy, c.id.ensures, sound-match args.format s args.options _ v, fits)
