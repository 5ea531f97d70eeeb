use mathlib.Core.Path.{ap, ◌∙◌}
use mathlib.Core.List.{List}
use Prim.Native.Nat.{ℕ, ◌-◌}
use native.Mathlib.Omega.{arith}
use Rattle.strings.specs.Places.{mark_of}
use Rattle.json_text.specs.Keys.{table}
use Rattle.json_text.proofs.Laws.{seen-is}
use Rattle.msgpack.specs.Keys.{texts}
use Rattle.msgpack.proofs.Keys.{kept-none, entered-kept-all, noting-none, noting-again, noting-key}
use Rattle.msgpack.proofs.note.Goals as goal

pub returns-then-kind-ne-STR : goal.returns-then-kind-ne-STR
returns-then-kind-ne-STR c =
    let args = c.args in
    let pre = c.requires in
    let old = table args.starts.now args.ends.now args.marks.now in record {
      noted = noting-none args.s.now args.h args.e args.n args.z old pre.n_le_z.0 c.if-kind-ne-STR.true pre.sized.1;
      kept = kept-none args.z old;
    }

pub seen-requires : goal.seen-requires
seen-requires c =
    let pre = c.requires in record {
      n_le_z = (pre.n_le_z.0, omega (arith, pre.n_le_z), c.mark-m.ensures);
      entered = pre.sized.1;
    }

pub returns-then-seen : goal.returns-then-seen
returns-then-seen c =
    let args = c.args in
    let pre = c.requires in
    let s = args.s.now in
    let old = table args.starts.now args.ends.now args.marks.now in
    let text = c.text-key in
    let is-str = c.if-kind-ne-STR.false in
    let again = seen-is (texts s old args.n (args.z - args.n)) c.seen.ensures text.ensures c.if-seen.true in record {
      noted = noting-again s args.h args.e args.n args.z old pre.n_le_z.0 is-str again;
      kept = kept-none args.z old;
    }

pub returns : goal.returns
returns c =
    let args = c.args in
    let pre = c.requires in
    let s = args.s.now in
    let old = table args.starts.now args.ends.now args.marks.now in
    let text = c.text-key in
    let seen = c.seen in
    let is-str = c.if-kind-ne-STR.false in
    let new = seen-is (texts s old args.n (args.z - args.n)) seen.ensures text.ensures c.if-seen.false in
    let mark-is = c.mark-m.ensures ∙ ap (λ (x : List ℕ). mark_of x) text.ensures in record {
      noted = noting-key s args.h args.e args.n args.z old pre.n_le_z.0 is-str _ _ c.enter.ensures pre.sized.0 pre.n_le_z.1
          mark-is pre.sized.1 new;
      kept = entered-kept-all old _ args.z _ _ _ c.enter.ensures;
    }
