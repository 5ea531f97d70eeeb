use Rattle.std.specs.Prelude.{None}
use mathlib.Core.List.{[]}
use mathlib.Core.Path.{sym, ap}
use Rattle.conversion.specs.Sources.{sources}
use Rattle.outgoing.specs.Layout.{formats_of}
use Rattle.buffer.proofs.Wrote.{told, tells, wrote}
use Rattle.sections.specs.Sections.{put_to_each, event_in}
use Rattle.sections.proofs.events_within.Goals as goal

pub returns-in-Entries : goal.returns-in-Entries
returns-in-Entries c =
    let x = c.args in
    let m = sources x.format x.message.now [] x.text.now in
    let e = ap (λ s. put_to_each (event_in s (formats_of x.packed) m x.e None) 0 x.holders) (sym c.in-Entries.is) in
    tells (wrote e (told _ _ _ c.entries_within.ensures))

pub returns-in-Bodies : goal.returns-in-Bodies
returns-in-Bodies c =
    let x = c.args in
    let m = sources x.format x.message.now [] x.text.now in
    let e = ap (λ s. put_to_each (event_in s (formats_of x.packed) m x.e None) 0 x.holders) (sym c.in-Bodies.is) in
    tells (wrote e (told _ _ _ c.bodies_within.ensures))
