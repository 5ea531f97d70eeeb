use mathlib.Core.Path.{◌≡◌, sym, ◌∙◌}
use Rattle.state.specs.Change.{receivers}
use Rattle.relay.specs.Relay.{event_of}
use Rattle.relay.proofs.event.Goals as goal

pub returns-then-not-row_fits : goal.returns-then-not-row_fits
unfolding event_of
returns-then-not-row_fits c = rw (sym c.row_fits.ensures ∙ c.if-not-row_fits.true)

pub returns : goal.returns
unfolding event_of
returns c =
    let row_fits = c.row_fits in
    let if1 = c.if-not-row_fits in
    let naming = c.naming in
    let args = c.args in
    let others : c.receivers.result ≡ receivers args.to args.row = c.receivers.ensures in
    rw (sym row_fits.ensures ∙ if1.false, naming.ensures, others)
