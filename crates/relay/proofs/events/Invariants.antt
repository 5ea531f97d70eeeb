use mathlib.Core.Path.{◌≡◌}
use mathlib.Core.List.{map}
use Rattle.seq.proofs.Loops.{filled_to}
use Rattle.image.specs.Image.{held}
use Rattle.relay.specs.Relay.{event_of, no_event}
use Rattle.relay.proofs.events.Given as goal

abbrev pub invariant-loop-i : goal.invariant-loop-i
invariant-loop-i l = l.all ≡ filled_to 32 no_event (map (event_of l.to l.topic) (held l.state).subscriptions.rows) l.i
