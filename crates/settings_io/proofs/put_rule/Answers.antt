use mathlib.Core.List.{◌∷◌}
use mathlib.Core.Path.{◌≡◌, refl}
use native.Mathlib.Omega.{arith}
use Rattle.buffer.proofs.Wrote.{told, tells, wrote-both, wrote_then}
use Rattle.settings.specs.Lent.{text_bytes, rule_of, rule_bytes}
use Rattle.settings_io.proofs.Laws.{rule-short}
use Rattle.settings_io.proofs.put_rule.Goals as goal

pub put_text-requires : goal.put_text-requires
put_text-requires c =
    let r = rule_of c.args.b.now in
    rw c.prefix.ensures (rule-short r c.requires)

pub returns : goal.returns
unfolding rule_bytes rule_of
returns c =
    let b = c.args.b.now in
    let e : c.byte.result ∷ c.byte-2.result ∷ c.byte-3.result ∷ text_bytes c.prefix.result.now ≡ rule_bytes (rule_of b) =
    rw (c.byte.ensures, c.byte-2.ensures, c.byte-3.ensures, c.prefix.ensures) refl in
    tells
    (wrote-both e (omega arith)
    (wrote_then (omega arith)
    (wrote_then (omega arith) (told _ _ _ c.put_byte-o.ensures) (told _ _ _ c.put_byte-p.ensures))
    (told _ _ _ c.put_byte-q.ensures))
    (told _ _ _ c.put_text.ensures))
