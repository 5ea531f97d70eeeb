use mathlib.Core.Bool.{true, false}
use mathlib.Core.Path.{◌≡◌, refl, ◌∙◌}
use native.Mathlib.Omega.{arith}
use lib.ListN.{length}
use borrow.Author.Tests.{eq-eqb, ne_eqb}
use Rattle.seq.specs.Bytes.{byte_at}
use Rattle.seq.specs.Lists.{is_empty}
use Rattle.seq.proofs.Lists.{empty-length}
use Rattle.settings_file.specs.File.{unknown_version}
use Rattle.settings_file.proofs.Tests.{above}
use Rattle.settings_file.proofs.is_unknown.Goals as goal

pub returns-then-file-eq0 : goal.returns-then-file-eq0
unfolding unknown_version
returns-then-file-eq0 c =
    let file = c.args.file.now in
    let e : is_empty file ≡ true = empty-length file ∙ eq-eqb (length file) 0 (omega arith) in
    rw e refl

pub returns-then-file-eq0-2 : goal.returns-then-file-eq0-2
unfolding unknown_version
returns-then-file-eq0-2 c =
    let file = c.args.file.now in
    let e : is_empty file ≡ false = empty-length file ∙ ne_eqb (length file) 0 (λ z. c.if-file-eq0.false z) in
    rw (e, c.if-file-eq0-2.true) refl

pub returns : goal.returns
unfolding unknown_version
returns c =
    let start = c in
    let file = start.args.file.now in
    let e : is_empty file ≡ false = empty-length file ∙ ne_eqb (length file) 0 (λ z. c.if-file-eq0.false z) in
    rw (e, c.version_number.ensures) (above (byte_at file 0) _ (λ z. c.if-file-eq0-2.false z))
