use Rattle.to_msgpack.proofs.Scalars.{text-none, text-lone, text-gives}
use Rattle.conversion.proofs.Conv.{converts, converts-not}
use Rattle.buffer.proofs.Wrote.{told}
use Rattle.values.specs.Write.{pack_text}
use Rattle.lex.proofs.Laws.{within-to}
use Prim.Native.Nat.{◌+◌}
use native.Mathlib.Omega.{arith}
use mathlib.Core.Path.{sym, ◌∙◌}
use lib.ListN.{length}
use Rattle.to_msgpack.proofs.pack_text.Goals as goal

pub returns-in_err-read : goal.returns-in_err-read
returns-in_err-read c = rw c.from_residual.ensures (record {
  means = converts-not _ _ pack_text _ _ (text-none _ _ (sym c.quoted.ensures.means ∙ c.in_err-read.was));
  within = tt;
})

pub returns-then-has_lone : goal.returns-then-has_lone
returns-then-has_lone c = record {
  means = converts-not _ _ pack_text _ _ (text-lone _ _ _ (sym c.quoted.ensures.means ∙ c.in_ok-read.was) _ c.between-t.ensures (sym c.has_lone.ensures ∙ c.if-has_lone.true));
  within = tt;
}

pub returns : goal.returns
returns c = record {
  means = converts _ _ pack_text _ _ (text-gives _ _ _ (sym c.quoted.ensures.means ∙ c.in_ok-read.was) _ c.between-t.ensures (sym c.has_lone.ensures ∙ c.if-has_lone.false)) (told _ _ _ c.put_string-written.ensures);
  within = (let w = within-to (c.args.at + 1) (length c.args.s.now) c.in_ok-read.was c.quoted.ensures.within in omega arith);
}
