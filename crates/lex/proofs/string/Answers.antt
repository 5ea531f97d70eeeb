use mathlib.Core.Path.{refl, sym, ◌∙◌}
use native.Mathlib.Omega.{arith}
use lib.ListN.{length}
use Rattle.seq.proofs.Bytes.{byte-in}
use Rattle.lex.proofs.Laws.{string-quote, string-control, string-bad, string-go, within-to}
use Rattle.lex.proofs.string.Goals as goal

pub loop-at-init : goal.loop-at-init
loop-at-init c = ((_, refl, omega arith), omega arith)

pub overflow_add-result : goal.overflow_add-result
overflow_add-result c = let h = byte-in c.args.s.now c.loop-at.i (omega arith) in omega arith

pub returns-then-b-eq34 : goal.returns-then-b-eq34
returns-then-b-eq34 c =
    let loop = c.loop-at in
    let args = c.args in
    let s = args.s.now in
    let v = loop.invariant.0 in
    let h = byte-in s loop.i (omega arith) in record {
      means = sym (string-quote v.0 s loop.i v.2 (sym c.byte-b.ensures ∙ c.if-b-eq34.true)) ∙ v.1;
      within = omega arith;
    }

pub returns-then-b-lt32 : goal.returns-then-b-lt32
returns-then-b-lt32 c =
    let loop = c.loop-at in
    let args = c.args in
    let v = loop.invariant.0 in record {
      means = sym (string-control v.0 args.s.now loop.i (omega arith)) ∙ v.1;
      within = tt;
    }

pub character-requires : goal.character-requires
character-requires c = byte-in c.args.s.now c.loop-at.i (omega arith)

pub returns-in_err-e-clause-means : goal.returns-in_err-e-clause-means
returns-in_err-e-clause-means c =
    let loop = c.loop-at in
    let v = loop.invariant.0 in
    rw c.from_residual.ensures
    (sym (string-bad v.0 c.args.s.now loop.i (λ e. c.if-b-eq34.false (c.byte-b.ensures ∙ e)) (omega arith)
    (sym c.character.ensures.means ∙ c.in_err-e.was)) ∙ v.1)

pub loop-at-smaller : goal.loop-at-smaller
loop-at-smaller c =
    let w = within-to c.loop-at.i (length c.args.s.now) c.in_ok-e.was c.character.ensures.within in
    omega arith

pub loop-at-preserved : goal.loop-at-preserved
loop-at-preserved c =
    let loop = c.loop-at in
    let s = c.args.s.now in
    let v = loop.invariant.0 in
    let w = within-to loop.i (length s) c.in_ok-e.was c.character.ensures.within in
    let g = string-go v.0 s loop.i _ v.2 (λ e. c.if-b-eq34.false (c.byte-b.ensures ∙ e)) (omega arith)
    (sym c.character.ensures.means ∙ c.in_ok-e.was) w.0 in
    ((g.0, sym g.1 ∙ v.1, g.2), omega arith)
