use mathlib.Core.Path.{◌≡◌, sym, ap, ◌∙◌}
use mathlib.Core.List.{List}
use Prim.Native.Nat.{◌+◌, ◌-◌}
use native.Mathlib.Omega.{arith}
use lib.ListN.{length}
use Rattle.lex.proofs.Laws.{within-to, within-after}
use Rattle.json_text.specs.Keys.{table}
use Rattle.msgpack.specs.MsgPack
use Rattle.msgpack.specs.Keys.{texts}
use Rattle.msgpack.proofs.Laws.{array-deep, array-opens, map-deep, map-opens, times-end, times-bad, times-go}
use Rattle.msgpack.proofs.Laws.{pairs_end, no_key, key-again, no_value, pairs-go}
use Rattle.msgpack.proofs.Laws.{value-array, value-map, value-flat, flat-within}
use Rattle.msgpack.proofs.Keys.{texts-none, kept-none, kept_then, entered-none, entered-kept}
use Rattle.msgpack.proofs.Keys.{turn-again, turn-room, turn-new, turn-kept, turn-entered, turn-texts}
use Prim.Native.Nat.{ℕ}
use Rattle.msgpack.proofs.+value.Goals as goal

pub read_array-returns-then-depth-eq0 : goal.read_array-returns-then-depth-eq0
read_array-returns-then-depth-eq0 t c =
    let if1 = c.if-depth-eq0 in
    let args = c.args in
    let old = table args.starts.now args.ends.now args.marks.now in record {
      means = array-deep _ _ _ _ if1.true;
      within = tt;
      kept = kept-none args.n old;
    }

pub read_array-loop-init : goal.read_array-loop-init
read_array-loop-init t c =
    let if1 = c.if-depth-eq0 in
    let args = c.args in
    let pre = c.requires in
    let old = table args.starts.now args.ends.now args.marks.now in
    let val = MsgPack.value (args.depth - 1) args.s.now in
    let none : args.count - 0 ≡ args.count = omega arith in
    (ap (λ (k : ℕ). MsgPack.times val k args.at) none ∙ array-opens _ _ _ _ if1.false, omega arith, omega (arith, pre.s_len_bound), kept-none args.n old)

pub read_array-overflow_sub-depth : goal.read_array-overflow_sub-depth
read_array-overflow_sub-depth t c =
    let if1 = c.if-depth-eq0 in
    omega (arith, if1.false)

pub read_array-read_value-requires : goal.read_array-read_value-requires
read_array-read_value-requires t c =
    let loop = c.loop in
    let pre = c.requires in (omega arith, (omega (arith, pre.s_len_bound), loop.invariant.3.sized pre.sized))

pub read_array-returns-in_err-p-clause-means : goal.read_array-returns-in_err-p-clause-means
read_array-returns-in_err-p-clause-means t c =
    let told = c.in_err-p in
    let read-value = c.read_value in
    let loop-test = c.loop-test in
    let loop = c.loop in
    let args = c.args in
    let s = args.s.now in
    let val = MsgPack.value (args.depth - 1) s in
    rw c.from_residual.ensures (sym (times-bad val _ _ (omega (arith, loop-test.true)) (sym read-value.ensures.means ∙ told.was)) ∙ loop.invariant.0)

pub read_array-loop-preserved : goal.read_array-loop-preserved
read_array-loop-preserved t c =
    let e = c.in_ok-p in
    let read-value = c.read_value in
    let loop-test = c.loop-test in
    let loop = c.loop in
    let args = c.args in
    let s = args.s.now in
    let val = MsgPack.value (args.depth - 1) s in
    let w = within-to loop.p (length s) e.was read-value.ensures.within in
    let key = sym read-value.ensures.means ∙ e.was in
    let kept = read-value.ensures.kept in (
      sym (times-go val _ (args.count - (loop.counter + 1)) _ _ (omega (arith, loop-test.true)) key) ∙ loop.invariant.0,
      omega (arith, w),
      w.1,
      kept_then (omega arith) loop.invariant.3 kept,
    )

pub read_array-returns : goal.read_array-returns
read_array-returns t c =
    let loop-test = c.loop-test in
    let loop = c.loop in
    let args = c.args in
    let s = args.s.now in
    let val = MsgPack.value (args.depth - 1) s in record {
      means = sym (times-end val _ _ (omega (arith, loop-test.false))) ∙ loop.invariant.0;
      within = omega arith;
      kept = loop.invariant.3;
    }

pub read_map-returns-then-depth-eq0 : goal.read_map-returns-then-depth-eq0
read_map-returns-then-depth-eq0 t c =
    let if1 = c.if-depth-eq0 in
    let args = c.args in
    let old = table args.starts.now args.ends.now args.marks.now in record {
      means = map-deep _ _ _ _ if1.true;
      within = tt;
      kept = kept-none args.n old;
    }

pub read_map-loop-init : goal.read_map-loop-init
read_map-loop-init t c =
    let if1 = c.if-depth-eq0 in
    let args = c.args in
    let pre = c.requires in
    let s = args.s.now in
    let old = table args.starts.now args.ends.now args.marks.now in
    let val = MsgPack.value (args.depth - 1) s in
    let none : args.count - 0 ≡ args.count = omega arith in (
      ap (λ (k : ℕ). MsgPack.pairs val s (texts s old args.n (args.n - args.n)) k args.at) none
          ∙ ap (λ (q : List (List ℕ)). MsgPack.pairs val s q args.count args.at) (texts-none s old args.n)
          ∙ map-opens args.depth s args.count args.at if1.false,
      omega arith,
      omega (arith, pre.s_len_bound),
      omega (arith, pre.s_len_bound),
      omega arith,
      entered-none s old args.n,
      kept-none args.n old,
    )

pub read_map-overflow_sub-depth : goal.read_map-overflow_sub-depth
read_map-overflow_sub-depth t c =
    let if1 = c.if-depth-eq0 in
    omega (arith, if1.false)

pub read_map-read_value-requires : goal.read_map-read_value-requires
read_map-read_value-requires t c =
    let loop = c.loop in
    let pre = c.requires in (omega arith, (omega (arith, pre.s_len_bound), loop.invariant.6.sized pre.sized))

pub read_map-returns-in_err-e-clause-means : goal.read_map-returns-in_err-e-clause-means
read_map-returns-in_err-e-clause-means t c =
    let told = c.in_err-e in
    let read-value = c.read_value in
    let loop-test = c.loop-test in
    let loop = c.loop in
    let args = c.args in
    let s = args.s.now in
    let now = table loop.starts loop.ends loop.marks in
    let val = MsgPack.value (args.depth - 1) s in
    let ks = texts s now args.n (loop.z - args.n) in
    let kept = read-value.ensures.kept in
    rw c.from_residual.ensures (sym (no_key val s ks _ _ (omega (arith, loop-test.true)) (sym read-value.ensures.means ∙ told.was)) ∙ loop.invariant.0)

pub read_map-note-requires : goal.read_map-note-requires
read_map-note-requires t c =
    let e = c.in_ok-e in
    let read-value = c.read_value in
    let head-at = c.head_at-h in
    let loop = c.loop in
    let args = c.args in
    let pre = c.requires in
    let s = args.s.now in
    let now = table loop.starts loop.ends loop.marks in
    let w = within-to loop.p (length s) e.was read-value.ensures.within in
    let kept = read-value.ensures.kept in
    let inside = head-at.ensures.placed.inside in record {
      n_le_z = (loop.invariant.4, omega (arith, pre.s_len_bound, w), omega (arith, pre.s_len_bound), omega (arith, pre.s_len_bound, w));
      sized = (kept.sized (loop.invariant.6.sized pre.sized), entered-kept s now _ args.n loop.z kept loop.invariant.5);
    }

pub read_map-returns-in_err-z-clause-means : goal.read_map-returns-in_err-z-clause-means
read_map-returns-in_err-z-clause-means t c =
    let told = c.in_err-z in
    let note = c.note in
    let e = c.in_ok-e in
    let read-value = c.read_value in
    let head-at = c.head_at-h in
    let loop-test = c.loop-test in
    let loop = c.loop in
    let args = c.args in
    let s = args.s.now in
    let now = table loop.starts loop.ends loop.marks in
    let val = MsgPack.value (args.depth - 1) s in
    let ks = texts s now args.n (loop.z - args.n) in
    let key = sym read-value.ensures.means ∙ e.was in
    let kept = read-value.ensures.kept in
    rw c.from_residual-in_err-z.ensures (sym (key-again val s ks _ _ head-at.result head-at.ensures.means key _ (omega (arith, loop-test.true))
    (turn-again loop.invariant.4 loop.invariant.6 kept note.ensures.noted told.was)) ∙ loop.invariant.0)

pub read_map-overflow_sub-depth-in-loop : goal.read_map-overflow_sub-depth-in-loop
read_map-overflow_sub-depth-in-loop t c =
    let if1 = c.if-depth-eq0 in
    omega (arith, if1.false)

pub read_map-read_value-requires-in-loop : goal.read_map-read_value-requires-in-loop
read_map-read_value-requires-in-loop t c =
    let k = c.in_ok-z in
    let note = c.note in
    let e = c.in_ok-e in
    let read-value = c.read_value in
    let loop = c.loop in
    let args = c.args in
    let pre = c.requires in
    let s = args.s.now in
    let w = within-to loop.p (length s) e.was read-value.ensures.within in
    let kept = read-value.ensures.kept in
    let room = turn-room loop.invariant.4 loop.invariant.6 (kept) note.ensures.noted k.was in (omega (arith, w), (omega (arith, pre.s_len_bound, w, room), note.ensures.kept.sized (kept.sized (loop.invariant.6.sized pre.sized))))

pub read_map-returns-in_err-p-clause-means : goal.read_map-returns-in_err-p-clause-means
read_map-returns-in_err-p-clause-means t c =
    let told = c.in_err-p in
    let read-value2 = c.read_value-in-loop in
    let k = c.in_ok-z in
    let note = c.note in
    let e = c.in_ok-e in
    let read-value = c.read_value in
    let head-at = c.head_at-h in
    let loop-test = c.loop-test in
    let loop = c.loop in
    let args = c.args in
    let s = args.s.now in
    let now = table loop.starts loop.ends loop.marks in
    let val = MsgPack.value (args.depth - 1) s in
    let ks = texts s now args.n (loop.z - args.n) in
    let key = sym read-value.ensures.means ∙ e.was in
    let kept = read-value.ensures.kept in
    let new = turn-new loop.invariant.4 loop.invariant.6 (kept) note.ensures.noted k.was in
    rw c.from_residual-in_err-p.ensures (sym (no_value val s ks _ _ head-at.result head-at.ensures.means key _ (omega (arith, loop-test.true)) new
    (sym read-value2.ensures.means ∙ told.was)) ∙ loop.invariant.0)

pub read_map-loop-preserved : goal.read_map-loop-preserved
read_map-loop-preserved t c =
    let v = c.in_ok-p in
    let read-value2 = c.read_value-in-loop in
    let k = c.in_ok-z in
    let note = c.note in
    let e = c.in_ok-e in
    let read-value = c.read_value in
    let head-at = c.head_at-h in
    let loop-test = c.loop-test in
    let loop = c.loop in
    let args = c.args in
    let s = args.s.now in
    let now = table loop.starts loop.ends loop.marks in
    let val = MsgPack.value (args.depth - 1) s in
    let ks = texts s now args.n (loop.z - args.n) in
    let w = within-to loop.p (length s) e.was read-value.ensures.within in
    let key = sym read-value.ensures.means ∙ e.was in
    let kept = read-value.ensures.kept in
    let room = turn-room loop.invariant.4 loop.invariant.6 (kept) note.ensures.noted k.was in
    let new = turn-new loop.invariant.4 loop.invariant.6 (kept) note.ensures.noted k.was in
    let y = within-to e.e (length s) v.was read-value2.ensures.within in (
      ap (λ (q : List (List ℕ)). MsgPack.pairs val s q (args.count - (loop.counter + 1)) v.p)
          (turn-texts loop.invariant.4 loop.invariant.6 kept note.ensures.noted k.was note.ensures.kept read-value2.ensures.kept)
          ∙ sym (pairs-go val s ks _ _ head-at.result head-at.ensures.means key _ (args.count - (loop.counter + 1)) _ (omega (arith, loop-test.true)) new
          (sym read-value2.ensures.means ∙ v.was)) ∙ loop.invariant.0,
      omega (arith, w, y),
      y.1,
      omega (arith, w, y, room),
      omega (arith, room),
      turn-entered loop.invariant.4 loop.invariant.6 kept note.ensures.noted k.was note.ensures.kept read-value2.ensures.kept,
      turn-kept loop.invariant.4 loop.invariant.6 kept note.ensures.noted k.was note.ensures.kept read-value2.ensures.kept,
    )

pub read_map-returns : goal.read_map-returns
read_map-returns t c =
    let loop-test = c.loop-test in
    let loop = c.loop in
    let args = c.args in
    let s = args.s.now in
    let now = table loop.starts loop.ends loop.marks in
    let val = MsgPack.value (args.depth - 1) s in
    let ks = texts s now args.n (loop.z - args.n) in record {
      means = sym (pairs_end val s ks _ _ (omega (arith, loop-test.false))) ∙ loop.invariant.0;
      within = omega arith;
      kept = loop.invariant.6;
    }

pub read_value-read_array-requires : goal.read_value-read_array-requires
read_value-read_array-requires t c =
    let match = c.in-7 in
    let head-at = c.head_at-h in
    let pre = c.requires in
    let b = head-at.ensures.placed.behind (λ k. omega (arith, match)) in
    let inside = head-at.ensures.placed.inside in (omega (arith, b), ((omega (arith, pre.s_len_bound), inside, omega (arith, pre.s_len_bound, b)), pre.sized))

pub read_value-read_map-requires : goal.read_value-read_map-requires
read_value-read_map-requires t c =
    let match = c.in-8 in
    let head-at = c.head_at-h in
    let pre = c.requires in
    let b = head-at.ensures.placed.behind (λ k. omega (arith, match)) in
    let inside = head-at.ensures.placed.inside in (omega (arith, b), ((omega (arith, pre.s_len_bound), inside, omega (arith, pre.s_len_bound, b)), pre.sized))

pub read_value-flat-requires : goal.read_value-flat-requires
read_value-flat-requires t c =
    let head-at = c.head_at-h in
    head-at.ensures.placed.inside

pub read_value-returns-in-7 : goal.read_value-returns-in-7
read_value-returns-in-7 t c =
    let read-array = c.read_array in
    let match = c.in-7 in
    let head-at = c.head_at-h in
    let args = c.args in
    let s = args.s.now in
    let b = head-at.ensures.placed.behind (λ k. omega (arith, match)) in record {
      means = read-array.ensures.means ∙ value-array args.depth s args.at head-at.result head-at.ensures.means match.is;
      within = within-after read-array.result args.at head-at.result.end (length s) b read-array.ensures.within;
      kept = read-array.ensures.kept;
    }

pub read_value-returns-in-8 : goal.read_value-returns-in-8
read_value-returns-in-8 t c =
    let read-map = c.read_map in
    let match = c.in-8 in
    let head-at = c.head_at-h in
    let args = c.args in
    let s = args.s.now in
    let b = head-at.ensures.placed.behind (λ k. omega (arith, match)) in record {
      means = read-map.ensures.means ∙ value-map args.depth s args.at head-at.result head-at.ensures.means match.is;
      within = within-after read-map.result args.at head-at.result.end (length s) b read-map.ensures.within;
      kept = read-map.ensures.kept;
    }

pub read_value-returns-in_default : goal.read_value-returns-in_default
read_value-returns-in_default t c =
    let flat = c.flat in
    let head-at = c.head_at-h in
    let args = c.args in
    let s = args.s.now in
    let old = table args.starts.now args.ends.now args.marks.now in record {
      means = flat.ensures.means ∙ value-flat args.depth s args.at head-at.result head-at.ensures.means (λ e. omega arith) (λ e. omega arith);
      within = flat-within s head-at.result args.at (length s) flat.result head-at.ensures.placed flat.ensures.means flat.ensures.within;
      kept = kept-none args.n old;
    }
