use Rattle.seq.proofs.Lists.{rest-size}
use Rattle.image.specs.Image.{session_of}
use Rattle.image.proofs.load_session.Goals as goal

pub returns : goal.returns
unfolding session_of
returns c =
    let c2 = c in
    let c4 = c2 in
    let c6 = c4 in
    let c9 = c6 in
    let s = c9.args.s.now in
    rw (
      c6.load_status-status.ensures,
      c4.load_number-id.ensures,
      c2.load_number-request.ensures,
      c.load_number-invocation.ensures,
      rest-size 1 s,
      rest-size 9 s,
      rest-size 17 s,
    )
