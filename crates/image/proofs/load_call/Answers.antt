use Rattle.seq.proofs.Lists.{rest-size}
use Rattle.image.specs.Image.{call_of}
use Rattle.image.proofs.load_call.Goals as goal

pub returns : goal.returns
unfolding call_of
returns c =
    let c2 = c in
    let c4 = c2 in
    let c6 = c4 in
    let c9 = c6 in
    let s = c9.args.s.now in
    rw (c6.size-caller.ensures, c4.load_number-request.ensures, c2.size-callee.ensures, c.load_number-invocation.ensures, rest-size 1 s, rest-size 10 s)
