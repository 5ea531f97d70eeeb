use mathlib.Core.Path.{◌≡◌, refl, sym, ap, ◌∙◌}
use native.Mathlib.Omega.{arith}
use lib.ListN.{length}
use Rattle.std.specs.Prelude.{⊤, Ok, Err}
use Rattle.std.proofs.lemmas.Result.{err_from_is_err_and}
use Rattle.buffer.proofs.Over.{over_none}
use Rattle.settings.specs.Lent.{lent}
use Rattle.settings_file.specs.File.{refusal, settings_in, judged, answer, given, unless, reads}
use Rattle.settings_io.proofs.Laws.{length-lent, given-no, given_yes, passed}
use Rattle.settings_io.proofs.read.Goals as goal

pub returns-in_err-judge : goal.returns-in_err-judge
unfolding reads
returns-in_err-judge c =
    let args = c.args in
    let p = err_from_is_err_and c.from_residual.result c.from_residual.ensures.1 in
    let s = args.file.now in
    let j : judged args.reader s ≡ Err c.in_err-judge.field-0.0 = sym c.judge.ensures ∙ c.in_err-judge.was in
    let told = given (length args.out.now) (lent (settings_in s)) in record {
      answer = p.1 ∙ ap Err p.2 ∙ sym (ap (λ o. answer (unless o told)) j);
      bytes = rw j (sym (over_none _ 0));
    }

pub returns-then-out-lt4357 : goal.returns-then-out-lt4357
unfolding reads
returns-then-out-lt4357 c =
    let args = c.args in
    let s = args.file.now in
    let j : judged args.reader s ≡ Ok tt = sym c.judge.ensures ∙ c.in_ok-judge.was in
    let g = given-no (length args.out.now) (lent (settings_in s)) (omega (arith, length-lent s (passed args.reader s (ap refusal j)))) in
    rw (j, g) (record { answer = refl; bytes = sym (over_none _ 0) })

pub put_settings-requires : goal.put_settings-requires
put_settings-requires c =
    let args = c.args in
    let j : judged args.reader args.file.now ≡ Ok tt = sym c.judge.ensures ∙ c.in_ok-judge.was in
    passed args.reader args.file.now (ap refusal j)

pub returns : goal.returns
unfolding reads
returns c =
    let args = c.args in
    let s = args.file.now in
    let j : judged args.reader s ≡ Ok tt = sym c.judge.ensures ∙ c.in_ok-judge.was in
    let g = given_yes (length args.out.now) (lent (settings_in s)) (omega (arith, length-lent s (passed args.reader s (ap refusal j)))) in
    rw (j, g) (record { answer = ap Ok c.put_settings.ensures.place; bytes = c.put_settings.ensures.bytes })
