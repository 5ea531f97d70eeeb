use mathlib.Core.Path.{refl, sym, ap, ◌∙◌}
use Prim.Native.Nat.{ℕ, ◌+◌}
use native.Mathlib.Omega.{arith}
use lib.ListN.{length}
use Rattle.seq.proofs.Bytes.{byte-in}
use Rattle.json_text.specs.Json.{value}
use Rattle.json_text.proofs.Laws.{value-dict, flat-dict, dict-empty, marked-end}
use Rattle.json_text.proofs.braced.Goals as goal

pub returns-then-depth-eq0 : goal.returns-then-depth-eq0
returns-then-depth-eq0 c =
    let start = c in
    let args = start.args in record {
      means = sym (ap (λ (d : ℕ). value d args.s.now args.at) c.if-depth-eq0.true ∙ flat-dict args.s.now args.at _ refl start.requires.1);
      within = tt;
    }

pub overflow_add-at : goal.overflow_add-at
overflow_add-at c =
    let start = c in
    let here = byte-in start.args.s.now start.args.at (omega (arith, start.requires.1)) in
    omega arith

pub returns-in-End : goal.returns-in-End
returns-in-End c =
    let of-m = c.in-End in
    let first_member = c.first_member-m in
    let if1 = c.if-depth-eq0 in
    let start = c in
    let args = start.args in
    let s = args.s.now in
    let empty = dict-empty args.depth s (args.at + 1) _ first_member.result if1.false first_member.ensures.means of-m.is in
    let past = marked-end (args.at + 1) (length s) first_member.result of-m.is first_member.ensures.marked in record {
      means = empty ∙ sym (value-dict args.depth s args.at _ refl start.requires.1);
      within = (omega (arith, past.0), past.1);
    }
