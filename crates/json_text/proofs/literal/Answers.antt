use mathlib.Core.Path.{refl, sym, ap, ◌∙◌}
use mathlib.Core.List.{List}
use Prim.Native.Nat.{ℕ, ◌+◌}
use native.Mathlib.Omega.{arith}
use lib.ListN.{length}
use Rattle.seq.specs.Bytes.{same}
use Rattle.json_text.proofs.Laws.{literal-is, literal-not, literal-in}
use Rattle.json_text.proofs.literal.Goals as goal

pub returns-then-same_bytes : goal.returns-then-same_bytes
returns-then-same_bytes c =
    let args = c.args in
    let word = args.word.now in
    let s = args.s.now in
    let found = (sym (c.same_bytes.ensures ∙ ap (λ (x : List ℕ). same x word) c.text.ensures) ∙ c.if-same_bytes.true) in
    let within = literal-in word s args.at (args.at + length word) refl found (omega arith) in record {
      means = sym (literal-is word s args.at (args.at + length word) refl found);
      within = omega arith;
    }

pub returns-else-same_bytes : goal.returns-else-same_bytes
returns-else-same_bytes c =
    let args = c.args in
    let word = args.word.now in
    let args = args in record {
      means = sym (literal-not word args.s.now args.at (args.at + length word) refl
          (sym (c.same_bytes.ensures ∙ ap (λ (x : List ℕ). same x word) c.text.ensures) ∙ c.if-same_bytes.false));
      within = tt;
    }
