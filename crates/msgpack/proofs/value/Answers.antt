use Rattle.std.specs.Prelude.{None}
use mathlib.Core.Path.{sym, ◌∙◌}
use native.Mathlib.Omega.{arith}
use lib.ListN.{length}
use Rattle.msgpack.proofs.Laws.{at_long, at-short, value-flat, flat-within}
use mathlib.Core.Path.{◌≡◌}
use Rattle.msgpack.specs.MsgPack.{by_head, value}
use Rattle.msgpack.proofs.value.Goals.{in_default-via-then-h-lt7, in_default-via-else-h-lt7+else-h-lt9}
use Rattle.msgpack.proofs.value.Goals as goal

pub returns-then-s-gt-MAX_BYTES : goal.returns-then-s-gt-MAX_BYTES
returns-then-s-gt-MAX_BYTES c =
    let args = c.args in record {
      means = sym (at_long args.depth args.s.now args.at c.if-s-gt-MAX_BYTES.true);
      within = tt;
    }

pub opened-requires : goal.opened-requires
opened-requires c =
    let head-at = c.head_at-h in
    (c.if-s-gt-MAX_BYTES.false, head-at.ensures.means, omega arith, omega arith, head-at.ensures.placed)

pub flat-requires : goal.flat-requires
flat-requires c = c.head_at-h.ensures.placed.inside

pub returns-in-7 : goal.returns-in-7
returns-in-7 c =
    let args = c.args in
    let short = at-short args.depth args.s.now args.at c.if-s-gt-MAX_BYTES.false in record {
      means = c.opened.ensures.means ∙ sym short;
      within = c.opened.ensures.within;
    }

pub returns-in_default : goal.returns-in_default
returns-in_default c =
    let args = c.args in
    let s = args.s.now in
    let short = at-short args.depth s args.at c.if-s-gt-MAX_BYTES.false in
    let head-at = c.head_at-h in
    let flat = value-flat args.depth s args.at head-at.result head-at.ensures.means in
    let is-flat : by_head (λ n e. None) (λ n e. None) s head-at.result ≡ value args.depth s args.at = elim c.in_default.branch [
      | in_default-via-then-h-lt7 w ↦ flat (λ k. omega arith) (λ k. omega arith)
      | in_default-via-else-h-lt7+else-h-lt9 w ↦ flat (λ k. omega arith) (λ k. omega arith)
    ] in record {
      means = c.flat.ensures.means ∙ is-flat ∙ sym short;
      within = flat-within s head-at.result args.at (length s) c.flat.result head-at.ensures.placed c.flat.ensures.means c.flat.ensures.within;
    }
