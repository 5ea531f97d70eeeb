use native.Mathlib.Omega.{arith}
use lib.ListN.{length}
use mathlib.Core.Path.{◌≡◌, ap, ◌∙◌}
use Rattle.hex_text.specs.Hex.{hex_value}
use Rattle.hex_text.proofs.Laws.{begins, high-stops, low-stops, full, more}
use Rattle.hex_text.proofs.unhex.Goals as goal

pub loop-n-init : goal.loop-n-init
loop-n-init c = begins _ _

pub returns-then-high-gt15 : goal.returns-then-high-gt15
returns-then-high-gt15 c =
    let high : c.digit-high.result ≡ _ = c.digit-high.ensures ∙ ap hex_value c.byte.ensures in
    let e = high-stops _ _ _ _ c.loop-n.invariant (rw high at c.if-high-gt15.true) in record {
      count = e.count;
      bytes = e.bytes;
    }

pub returns-then-low-gt15 : goal.returns-then-low-gt15
returns-then-low-gt15 c =
    let high : c.digit-high.result ≡ _ = c.digit-high.ensures ∙ ap hex_value c.byte.ensures in
    let low : c.digit-low.result ≡ _ = c.digit-low.ensures ∙ ap hex_value c.byte-in-loop-n.ensures in
    let e = low-stops _ _ _ _ c.loop-n.invariant (rw high at c.if-high-gt15.false) (rw low at c.if-low-gt15.true) in record {
      count = e.count;
      bytes = e.bytes;
    }

pub loop-n-preserved : goal.loop-n-preserved
loop-n-preserved c =
    let high : c.digit-high.result ≡ _ = c.digit-high.ensures ∙ ap hex_value c.byte.ensures in
    let low : c.digit-low.result ≡ _ = c.digit-low.ensures ∙ ap hex_value c.byte-in-loop-n.ensures in
    more _ _ _ _ c.loop-n.invariant _ (omega arith) (rw high at c.if-high-gt15.false) (rw low at c.if-low-gt15.false) (rw (high, low))

pub returns : goal.returns
returns c =
    let e = full _ _ _ _ c.loop-n.invariant (omega arith) in
    let n : length c.loop-n.out ≡ c.loop-n.n = omega arith in record {
      count = n ∙ e.count;
      bytes = e.bytes;
    }
