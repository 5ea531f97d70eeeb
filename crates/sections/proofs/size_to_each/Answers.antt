use Rattle.std.specs.Prelude.{Some, None}
use Prim.Native.Nat.{◌+◌}
use mathlib.Core.List.{[]}
use mathlib.Core.Path.{◌≡◌, sym, ap, ap₂, ◌∙◌}
use native.Mathlib.Omega.{arith}
use Rattle.conversion.specs.Converts.{other}
use Rattle.conversion.specs.Sources.{sources}
use Rattle.outgoing.specs.Layout.{formats_of}
use Rattle.buffer.specs.Capped.{capped}
use Rattle.buffer.proofs.Sums.{sum_more}
use Rattle.sections.specs.Sections.{event_adds, sizes, with_payload}
use Rattle.sections.proofs.Sections.{sizes-parts, one-part}
use Rattle.sections.proofs.size_to_each.Goals as goal

pub returns-in_default : goal.returns-in_default
returns-in_default c =
    let x = c.args in
    let m = sources x.from x.message.now x.converted.now x.text.now in
    c.size_within-near.ensures
    ∙ ap (λ o. capped (x.at + sizes (event_adds (formats_of x.packed) m x.e o) 0 x.holders)) (sym c.in_default.is)

pub returns : goal.returns
returns c =
    let x = c.args in
    let f = formats_of x.packed in
    let p = c.in-Some.p in
    let m = sources x.from x.message.now x.converted.now x.text.now in
    let near = sizes (event_adds f (sources x.from x.message.now [] x.text.now) x.e None) 0 x.holders in
    let far = sizes (event_adds f (sources c.other_format.result x.converted.now [] x.text.now)
    c.with_payload-far.result None) 0 x.holders in
    let all = sizes (event_adds f m x.e (Some p)) 0 x.holders in
    let as_stated = sizes (event_adds f (sources (other x.from) x.converted.now [] x.text.now) (with_payload x.e p) None) 0 x.holders in
    let turned : far ≡ as_stated = ap₂ (λ h r. sizes (event_adds f (sources h x.converted.now [] x.text.now) r None) 0 x.holders)
    c.other_format.ensures c.with_payload-far.ensures in
    let parts : all ≡ near + as_stated =
    sizes-parts _ _ _ (λ j. one-part x.message.now x.converted.now x.text.now x.e j x.from (f j) p) 0 x.holders in
    let sum : x.at + all ≡ (x.at + near) + far = omega (arith, parts, turned) in
    let both = sum_more c.size_within-near.result far (x.at + near) (x.at + all)
    c.size_within-near.ensures sum in
    let past : c.size_within.result ≡ capped (c.size_within-near.result + far) = c.size_within.ensures in
    past ∙ both ∙ ap (λ o. capped (x.at + sizes (event_adds f m x.e o) 0 x.holders)) (sym c.in-Some.is)
