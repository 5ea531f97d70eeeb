use mathlib.Core.Path.{◌≡◌}
use lib.ListN.{length}
use Prim.Native.Nat.{◌<◌}
use native.Mathlib.Omega.{arith}
use Rattle.seq.specs.Bytes.{part}
use Rattle.seq.proofs.Rules.{all-of-at}
use Rattle.elements.specs.Elements.{inner_depth}
use Rattle.conversion.specs.Converts.{convert, other, answer}
use Rattle.carry.proofs.Laws.{conv-of, near, all-part, part-short}
use Rattle.carry.proofs.put_value.Goals as goal

pub returns : goal.returns
returns c =
    let x = c.args in
    let s = x.message.now in
    let from = x.value.from in
    let to = x.value.to in
    let known = all-of-at (λ b. b < 256) 0 s (λ k. omega (arith, c.shared_slice_known-1.given k)) in
    let e = rw c.text.ensures at c.convert.ensures in
    let nests : c.convert.result ≡ answer x.o (convert x.from (other x.from) inner_depth (part from to s) 0) = e.answer in
    let k = conv-of _ _ _ _ _ nests e.bytes in record {
      means = k;
      near = near x.from _ (all-part (λ b. b < 256) s from to known) (length s) (omega (arith, part-short s from to)) _ _ _ _ e.within k;
    }
