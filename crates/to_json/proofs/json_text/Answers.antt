use Rattle.to_json.proofs.Packs.{text-not, text-gives}
use Rattle.conversion.proofs.Conv.{converts, converts-not}
use Rattle.lex.proofs.Laws.{from-to}
use Rattle.buffer.proofs.Wrote.{told, wrote}
use Rattle.values.specs.Stands.{text_at}
use Rattle.values.specs.Write.{quoted_text}
use mathlib.Core.Path.{sym, ap, ◌∙◌}
use Rattle.to_json.proofs.json_text.Goals as goal

pub returns-in_err-read : goal.returns-in_err-read
returns-in_err-read c =
    let a = c.args in
    let n = sym c.skip_text.ensures.means ∙ c.in_err-read.was in rw c.from_residual.ensures (record {
      means = converts-not _ _ quoted_text (text_at a.s.now a.at a.n) _ (text-not a.s.now a.at a.n n);
      within = tt;
    })

pub returns : goal.returns
returns c =
    let skip-text = c.skip_text in
    let e = c.in_ok-read in
    let text = c.text in
    let a = c.args in
    let q = sym skip-text.ensures.means ∙ e.was in record {
      means = converts _ _ quoted_text (text_at a.s.now a.at a.n) _ (text-gives a.s.now a.at a.n e.read q)
          (wrote (ap quoted_text text.ensures) (told _ _ _ c.put_quoted-written.ensures));
      within = from-to _ _ e.was skip-text.ensures.within;
    }
