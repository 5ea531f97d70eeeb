use mathlib.Core.Path.{ap, ◌∙◌}
use Rattle.show.specs.Buffer.{after, written}
use Rattle.show.proofs.put_number.Goals as goal

pub returns : goal.returns
returns c =
    let put = c.put in
    let decimal = c.decimal-digits in
    let e = c.text.ensures ∙ decimal.ensures in record {
      place = put.ensures.place ∙ ap (after _ _) e;
      bytes = put.ensures.bytes ∙ ap (written _ _) e;
    }
