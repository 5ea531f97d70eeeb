use Rattle.packing.proofs.Laws.{text-is}
use Rattle.buffer.proofs.Wrote.{told, tells, wrote-both}
use Rattle.strings.proofs.Plain.{plain}
use mathlib.Core.Path.{refl, sym, ◌∙◌}
use native.Mathlib.Omega.{arith}
use Rattle.packing.proofs.put_string.Goals as goal

pub returns-then-is_plain : goal.returns-then-is_plain
returns-then-is_plain c = let t = c.args.t.now in
    tells (wrote-both (text-is t _ _ _ refl refl (sym (plain t (sym c.is_plain.ensures ∙ c.if-is_plain.true)))) (omega arith) (told _ _ _ c.put_str-p.ensures) (told _ _ _ c.put_bytes.ensures))

pub returns : goal.returns
returns c =
    tells (wrote-both (text-is _ _ _ _ refl c.undone_len.ensures refl) (omega arith) (told _ _ _ c.put_str-p-2.ensures) (told _ _ _ c.put_undone.ensures))
