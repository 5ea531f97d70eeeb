use Prim.Native.Nat.{◌-◌}
use mathlib.Core.Path.{◌≡◌}
use native.Mathlib.Omega.{arith}
use lib.ListN.{length, take, get_or}
use lib.Seq.{length-take-le, get_or-take}
use Rattle.uri.specs.Components.{most_components}
use Rattle.uri.proofs.Places.{ends_of, told-short}
use borrow.Author.Rules.{rules}
use Rattle.vectors.proofs.components.Goals as goal

pub overflow_add-from : goal.overflow_add-from
overflow_add-from o c =
    let text = c.args.text.now in
    let split = c.split-split in
    let loop = c.loop-k in
    let n = split.result.count in
    let l : length split.result.places ≡ 129 = search rules in
    let told : length (take n split.result.places) ≡ n = length-take-le n split.result.places (omega (arith, split.ensures.most)) in
    let here : get_or (take n split.result.places) loop.k 0 ≡ get_or split.result.places loop.k 0 =
    get_or-take n split.result.places loop.k 0 (omega arith) in
    omega (arith, here, told-short text _ (ends_of _ _ most_components split.ensures.spans) loop.k (omega (arith, told)))
