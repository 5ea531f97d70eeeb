use mathlib.Core.Bool.{true, false}
use Prim.Native.Nat.{◌+◌, ◌-◌}
use mathlib.Core.Path.{◌≡◌, sym, ◌∙◌}
use native.Mathlib.Omega.{arith}
use Rattle.seq.specs.Bytes.{same}
use Rattle.strings.specs.Strings.{undone}
use Rattle.json_text.specs.Keys.{table, key_at}
use Rattle.json_text.proofs.Laws.{seen_here, seen-there, among_none, among-more, other-mark, mark-new}
use Rattle.json_text.proofs.seen.Goals.{else-marks-j-via-then-marks-j+else-same_key, else-marks-j-via-else-marks-j}
use Rattle.json_text.proofs.seen.Goals as goal

pub returns-then-is_new : goal.returns-then-is_new
returns-then-is_new c =
    let args = c.args in
    let t = table args.starts.now args.ends.now args.marks.now in
    let pre = c.requires in
    sym (mark-new args.s.now (undone args.key.now) t args.n args.z pre.entered args.mark pre.n_le_z.2 pre.n_le_z.0 (omega arith) (sym c.is_new.ensures ∙ c.if-is_new.true))

pub loop-j-init : goal.loop-j-init
loop-j-init c =
    let args = c.args in
    among_none (undone args.key.now) args.s.now (table args.starts.now args.ends.now args.marks.now) args.n args.n (omega arith)

pub returns-then-same_key : goal.returns-then-same_key
returns-then-same_key c =
    let args = c.args in
    let s = args.s.now in
    let t = table args.starts.now args.ends.now args.marks.now in
    let j = c.loop-j.j in
    let hit : same (key_at s t j) (undone args.key.now) ≡ true =
    rw (sym c.from.ensures, sym c.from-then-marks-j.ensures) (sym c.same_key.ensures ∙ c.if-same_key.true) in
    let e : j + 1 - 1 ≡ j = omega arith in
    sym (among-more (undone args.key.now) s t args.n (j + 1) args.z (omega arith) (omega arith) (seen_here (undone args.key.now) s t args.n (j + 1) (omega arith) (rw e hit)))

pub loop-j-preserved : goal.loop-j-preserved
loop-j-preserved c =
    let args = c.args in
    let s = args.s.now in
    let t = table args.starts.now args.ends.now args.marks.now in
    let pre = c.requires in
    let j = c.loop-j.j in
    let other : same (key_at s t j) (undone args.key.now) ≡ false = elim c.else-marks-j.branch [
      | else-marks-j-via-then-marks-j+else-same_key w ↦
          rw (sym w.from.ensures, sym w.from-then-marks-j.ensures) (sym w.same_key.ensures ∙ w.if-same_key.false)
      | else-marks-j-via-else-marks-j w ↦
          other-mark s (undone args.key.now) t args.n args.z pre.entered args.mark pre.n_le_z.2 j (omega arith) (omega arith) w.if-marks-j.false
    ] in
    let e : j + 1 - 1 ≡ j = omega arith in
    seen-there (undone args.key.now) s t args.n (j + 1) (omega arith) (rw e other) ∙ rw e c.loop-j.invariant
