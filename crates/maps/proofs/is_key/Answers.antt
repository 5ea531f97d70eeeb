use mathlib.Core.Path.{ap, ◌∙◌}
use mathlib.Core.List.{List}
use Prim.Native.Nat.{ℕ}
use Rattle.seq.specs.Bytes.{same}
use Rattle.maps.proofs.Laws.{key-other, key-str}
use Rattle.maps.proofs.is_key.Goals as goal

pub returns-then-kind-ne-STR : goal.returns-then-kind-ne-STR
returns-then-kind-ne-STR c =
    let head-at = c.head_at-h in
    let args = c.args in
    key-other args.t.now args.key.now args.from args.to head-at.result head-at.ensures.means c.if-kind-ne-STR.true

pub returns : goal.returns
returns c =
    let text = c.text in
    let if1 = c.if-kind-ne-STR in
    let head-at = c.head_at-h in
    let args = c.args in
    let key = args.key.now in
    c.same_bytes.ensures ∙ ap (λ (x : List ℕ). same x key) text.ensures
    ∙ key-str args.t.now key args.from args.to head-at.result head-at.ensures.means if1.false
