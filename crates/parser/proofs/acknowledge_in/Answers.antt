use mathlib.Core.Bool.{true}
use mathlib.Core.Path.{ap, ◌∙◌}
use mathlib.Core.List.{List}
use Prim.Native.Nat.{ℕ}
use Rattle.seq.specs.Bytes.{same}
use Rattle.options.specs.Audience.{bool_text}
use Rattle.incoming.specs.Read.{acknowledge_in}
use Rattle.parser.proofs.acknowledge_in.Goals as goal

pub returns : goal.returns
unfolding acknowledge_in
returns c =
    let yes = bool_text c.args.format true in
    c.is_bool.ensures ∙ ap (λ (x : List ℕ). same x yes) c.option.ensures
