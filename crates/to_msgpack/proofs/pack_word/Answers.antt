use Rattle.to_msgpack.proofs.Scalars.{word_cut, word-not, word-gives}
use Rattle.conversion.proofs.Conv.{converts, converts-not}
use Rattle.buffer.proofs.Wrote.{told, wrote}
use Rattle.values.specs.Write.{pack_scalar}
use Rattle.seq.specs.Bytes.{same}
use mathlib.Core.Path.{sym, ap, ◌∙◌}
use mathlib.Core.List.{List}
use Prim.Native.Nat.{ℕ}
use native.Mathlib.Omega.{arith}
use Rattle.to_msgpack.proofs.pack_word.Goals as goal

pub returns-then-s-at : goal.returns-then-s-at
returns-then-s-at c = record {
  means = λ v e. converts-not _ _ pack_scalar _ _ (word-not c.args.name.now v c.args.s.now c.args.at (word_cut c.args.name.now c.args.s.now c.args.at (omega arith)));
  within = tt;
}

pub returns-then-not-same_bytes : goal.returns-then-not-same_bytes
returns-then-not-same_bytes c = record {
  means = λ v e. converts-not _ _ pack_scalar _ _ (word-not _ v _ _ (ap (λ (l : List ℕ). same l c.args.name.now) (sym c.text.ensures) ∙ sym c.same_bytes.ensures ∙ c.if-not-same_bytes.true));
  within = tt;
}

pub returns : goal.returns
returns c = record {
  means = λ v e. converts _ _ pack_scalar _ _ (word-gives _ v _ _ (ap (λ (l : List ℕ). same l c.args.name.now) (sym c.text.ensures) ∙ sym c.same_bytes.ensures ∙ c.if-not-same_bytes.false)) (wrote (sym e) (told _ _ _ c.put_byte-written.ensures));
  within = omega arith;
}
