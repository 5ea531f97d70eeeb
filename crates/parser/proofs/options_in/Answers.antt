use Prim.Native.Nat.{ℕ}
use mathlib.Core.List.{List}
use mathlib.Core.Path.{◌≡◌}
use Rattle.seq.specs.Bytes.{chars}
use Rattle.incoming.specs.Read.{option, audience_in}
use Rattle.parser.proofs.options_in.Goals as goal

pub returns : goal.returns
unfolding audience_in
returns c =
    let c3 = c in
    let c6 = c3 in
    let a = c6.args in
    let value : List ℕ → List ℕ = λ key. option a.format key a.s.now a.options in
    -- each is looked for under its own key
    let me : c6.option.result.now ≡ value (chars "exclude_me") = c6.option.ensures in
    let out : c3.option-2.result.now ≡ value (chars "exclude") = c3.option-2.ensures in
    let only : c.option-3.result.now ≡ value (chars "eligible") = c.option-3.ensures in
    rw (c.read_ids-eligible.ensures, only, c3.read_ids-exclude.ensures, out, c6.read_flag-publisher.ensures, me)
