use mathlib.Core.Path.{sym, ap, ◌∙◌}
use mathlib.Core.List.{◌∷◌, [], ◌++◌}
use Prim.Native.Nat.{◌/◌}
use native.Mathlib.Omega.{arith}
use Rattle.buffer.proofs.Wrote.{told, tells, wrote, wrote-both}
use Rattle.seq.specs.Decimal.{decimal}
use Rattle.seq.proofs.Digits.{decimal-small, decimal-more}
use Rattle.buffer.proofs.+put_number.Goals as goal

pub returns-then-n-lt10 : goal.returns-then-n-lt10
returns-then-n-lt10 t c =
    tells
    (wrote (ap (λ d. d ∷ []) c.digit.ensures ∙ sym (decimal-small c.args.n c.if-n-lt10.true))
    (told _ _ _ c.put_byte.ensures))

pub returns-else-n-lt10 : goal.returns-else-n-lt10
returns-else-n-lt10 t c =
    let n = c.args.n in
    let e = decimal-more n c.ranges.n.fits c.if-n-lt10.false in
    tells
    (wrote-both (ap (λ d. decimal (n / 10) ++ (d ∷ [])) c.digit-else-n-lt10.ensures ∙ sym e) (omega arith)
    (told _ _ _ c.put_number-o.ensures) (told _ _ _ c.put_byte-else-n-lt10.ensures))
