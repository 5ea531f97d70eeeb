use mathlib.Core.Path.{sym, ◌∙◌}
use Prim.Native.Nat.{◌+◌}
use native.Mathlib.Omega.{arith}
use lib.ListN.{length}
use Rattle.json_text.specs.Json.{value}
use Rattle.json_text.proofs.Laws.{at-short}
use Rattle.lex.proofs.Laws.{within-to, behind-to}
use Rattle.members.proofs.Laws.{no_key, no-colon, no_value, member_is}
use Rattle.members.proofs.member_at.Goals as goal

pub returns-in_err-key_end-clause-means : goal.returns-in_err-key_end-clause-means
returns-in_err-key_end-clause-means c =
    let t = c.args.t.now in
    rw c.from_residual.ensures (sym (no_key (value 6 t) t c.args.k (sym c.quoted.ensures.means ∙ c.in_err-key_end.was)))

pub returns-in_err-from-clause-means : goal.returns-in_err-from-clause-means
returns-in_err-from-clause-means c =
    let t = c.args.t.now in
    rw c.from_residual-in_err-from.ensures
    (sym (no-colon (value 6 t) t c.args.k c.in_ok-key_end.key_end (sym c.quoted.ensures.means ∙ c.in_ok-key_end.was)
    (sym c.colon.ensures.means ∙ c.in_err-from.was)))

pub returns-in_err-to-clause-means : goal.returns-in_err-to-clause-means
returns-in_err-to-clause-means c =
    let t = c.args.t.now in
    let from = c.in_ok-from.from in
    rw c.from_residual-in_err-to.ensures
    (sym (no_value (value 6 t) t c.args.k c.in_ok-key_end.key_end (sym c.quoted.ensures.means ∙ c.in_ok-key_end.was) from
    (sym c.colon.ensures.means ∙ c.in_ok-from.was)
    (sym (at-short 6 t from c.requires) ∙ sym c.value.ensures.means ∙ c.in_err-to.was)))

pub returns : goal.returns
returns c =
    let t = c.args.t.now in
    let key_end = c.in_ok-key_end.key_end in
    let from = c.in_ok-from.from in
    let key = within-to (c.args.k + 1) (length t) c.in_ok-key_end.was c.quoted.ensures.within in
    let start = behind-to key_end c.in_ok-from.was c.colon.ensures.onward in
    let end = within-to from (length t) c.in_ok-to.was c.value.ensures.within in record {
      means = sym (member_is (value 6 t) t c.args.k key_end (sym c.quoted.ensures.means ∙ c.in_ok-key_end.was) from
          (sym c.colon.ensures.means ∙ c.in_ok-from.was) c.in_ok-to.to
          (sym (at-short 6 t from c.requires) ∙ sym c.value.ensures.means ∙ c.in_ok-to.was));
      beyond = omega arith;
    }
