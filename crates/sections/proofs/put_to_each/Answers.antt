use mathlib.Core.Path.{sym, ap}
use Rattle.conversion.specs.Sources.{sources}
use Rattle.outgoing.specs.Layout.{formats_of}
use Rattle.buffer.proofs.Wrote.{told, tells, wrote}
use Rattle.sections.specs.Sections.{put_to_each, event_in}
use Rattle.sections.proofs.put_to_each.Goals as goal

pub returns-in-None : goal.returns-in-None
returns-in-None c =
    let x = c.args in
    let m = sources x.from x.message.now x.converted.now x.text.now in
    let e = ap (λ o. put_to_each (event_in x.s (formats_of x.packed) m x.e o) 0 x.holders) (sym c.in-None.is) in
    tells (wrote e (told _ _ _ c.events_within.ensures))

pub returns-in-Some : goal.returns-in-Some
returns-in-Some c =
    let x = c.args in
    let m = sources x.from x.message.now x.converted.now x.text.now in
    let e = ap (λ o. put_to_each (event_in x.s (formats_of x.packed) m x.e o) 0 x.holders) (sym c.in-Some.is) in
    tells (wrote e (told _ _ _ c.events_across.ensures))
