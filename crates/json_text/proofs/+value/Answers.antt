use Rattle.std.specs.Prelude.{Some, Option}
use mathlib.Core.Path.{◌≡◌, sym, ap, subst, ◌∙◌}
use mathlib.Core.List.{List}
use Prim.Native.Nat.{◌+◌, ◌*◌, ◌-◌, ◌≤◌}
use native.Mathlib.Omega.{arith}
use lib.ListN.{length}
use Rattle.seq.proofs.Bytes.{byte-in}
use Rattle.strings.specs.Strings.{undone}
use Rattle.strings.specs.Places.{mark_of}
use Rattle.lex.specs.Lex.{Within}
use Rattle.lex.specs.declared.Mark.{Mark}
use Rattle.lex.specs.declared.Mark.TheVariants.{Item}
use Rattle.lex.proofs.Laws.{within-to, within-from, behind-to}
use Rattle.json_text.specs.Json
use Rattle.json_text.specs.Keys.{Table, table, Sized, texts, Kept}
use Rattle.json_text.proofs.Laws.{list-deep, list-opens, begins, ends, breaks, fails, goes, falls-mark, marked-item, marked-end}
use Rattle.json_text.proofs.Laws.{marked_from, value-list, value-dict, value-flat}
use Rattle.json_text.proofs.Laws.{MReads, Room, dict-deep, dict-opens, d-begins, d-ends, d-breaks, d-fails, d-goes}
use Rattle.json_text.proofs.Laws.{no_key, key-again, no-colon, no_value, room-item, room-first, room-more, seen-is, texts-none}
use Rattle.json_text.proofs.Laws.{kept-none, kept_then, entered-none, with-sized, turn-kept, turn-entered, turn-texts}
use Prim.Native.Nat.{ℕ, ◌<◌}
use Rattle.json_text.proofs.+value.Goals as goal

-- the key that was read stands in the text, and behind four bytes for each key before it
key-here : (z k q size : ℕ) (m : Mark) (r : Option ℕ) → m ≡ Item k → Room z m → r ≡ Some q → Within (k + 1) size r →
    (4 * z ≤ k) × (k + 1 < q) × (q ≤ size)
key-here z k q size m r is room to within =
    let key = within-to (k + 1) size to within in
    (room-item z m is room, key.0, key.1)

pub read_dict-returns-then-depth-eq0 : goal.read_dict-returns-then-depth-eq0
read_dict-returns-then-depth-eq0 t c =
    let args = c.args in record {
      means = sym (dict-deep _ args.s.now args.at c.if-depth-eq0.true);
      within = tt;
      kept = kept-none args.n (table args.starts.now args.ends.now args.marks.now);
    }

pub read_dict-loop-m-init : goal.read_dict-loop-m-init
read_dict-loop-m-init t c =
    let args = c.args in
    let s = args.s.now in
    let first_member = c.first_member-m in
    let pre = c.requires in (
      d-begins (Json.value (args.depth - 1) s) s _ _ _ args.at
          (texts-none s (table args.starts.now args.ends.now args.marks.now) args.n) first_member.ensures.means
          (dict-opens args.depth s args.at c.if-depth-eq0.false),
      first_member.ensures.marked,
      room-first args.n (length s) args.at first_member.result pre.s_len_bound.1 first_member.ensures.marked,
      omega arith,
      entered-none s (table args.starts.now args.ends.now args.marks.now) args.n,
      kept-none args.n (table args.starts.now args.ends.now args.marks.now),
    )

pub read_dict-returns-in_err-q-in-Item-clause-means : goal.read_dict-returns-in_err-q-in-Item-clause-means
read_dict-returns-in_err-q-in-Item-clause-means t c =
    let args = c.args in
    let s = args.s.now in
    let loop = c.loop-m in
    let k = c.in-Item.k in
    let v = Json.value (args.depth - 1) s in
    let ks = texts s (table loop.starts loop.ends loop.marks) args.n (loop.z - args.n) in
    rw c.from_residual.ensures (d-fails v s ks _ _ _ c.in-Item.is
    (no_key v s ks k (sym c.quoted.ensures.means ∙ c.in_err-q-in-Item.was)) loop.invariant.0)

pub read_dict-seen-requires : goal.read_dict-seen-requires
read_dict-seen-requires t c =
    let loop = c.loop-m in
    let here = key-here c.loop-m.z c.in-Item.k c.in_ok-q-in-Item.q (length c.args.s.now) c.loop-m.m c.quoted.result c.in-Item.is c.loop-m.invariant.2 c.in_ok-q-in-Item.was c.quoted.ensures.within in
    let pre = c.requires in record {
      n_le_z = (loop.invariant.3, omega (arith, pre.s_len_bound), c.mark-mark.ensures);
      entered = loop.invariant.4;
    }

pub read_dict-returns-then-seen : goal.read_dict-returns-then-seen
read_dict-returns-then-seen t c =
    let args = c.args in
    let s = args.s.now in
    let loop = c.loop-m in
    let k = c.in-Item.k in
    let v = Json.value (args.depth - 1) s in
    let ks = texts s (table loop.starts loop.ends loop.marks) args.n (loop.z - args.n) in
    let q = c.in_ok-q-in-Item.q in record {
      means = d-fails v s ks _ _ _ c.in-Item.is
          (key-again v s ks k q (sym c.quoted.ensures.means ∙ c.in_ok-q-in-Item.was)
          (seen-is ks c.seen.ensures (ap undone c.between-key.ensures) c.if-seen.true)) loop.invariant.0;
      within = tt;
      kept = loop.invariant.5;
    }

pub read_dict-returns-in_err-a-in-Item-clause-means : goal.read_dict-returns-in_err-a-in-Item-clause-means
read_dict-returns-in_err-a-in-Item-clause-means t c =
    let args = c.args in
    let s = args.s.now in
    let loop = c.loop-m in
    let k = c.in-Item.k in
    let v = Json.value (args.depth - 1) s in
    let ks = texts s (table loop.starts loop.ends loop.marks) args.n (loop.z - args.n) in
    let q = c.in_ok-q-in-Item.q in
    rw c.from_residual-in_err-a-in-Item.ensures (d-fails v s ks _ _ _ c.in-Item.is
    (no-colon v s ks k q (sym c.quoted.ensures.means ∙ c.in_ok-q-in-Item.was)
    (seen-is ks c.seen.ensures (ap undone c.between-key.ensures) c.if-seen.false)
    (sym c.colon.ensures.means ∙ c.in_err-a-in-Item.was)) loop.invariant.0)

pub read_dict-enter-requires : goal.read_dict-enter-requires
read_dict-enter-requires t c =
    let here = key-here c.loop-m.z c.in-Item.k c.in_ok-q-in-Item.q (length c.args.s.now) c.loop-m.m c.quoted.result c.in-Item.is c.loop-m.invariant.2 c.in_ok-q-in-Item.was c.quoted.ensures.within in
    let pre = c.requires in
    (omega (arith, pre.s_len_bound), omega (arith, pre.s_len_bound), omega (arith, pre.s_len_bound))

pub read_dict-overflow_add-z : goal.read_dict-overflow_add-z
read_dict-overflow_add-z t c =
    let here = key-here c.loop-m.z c.in-Item.k c.in_ok-q-in-Item.q (length c.args.s.now) c.loop-m.m c.quoted.result c.in-Item.is c.loop-m.invariant.2 c.in_ok-q-in-Item.was c.quoted.ensures.within in
    let pre = c.requires in
    omega (arith, pre.s_len_bound)

pub read_dict-overflow_sub-depth : goal.read_dict-overflow_sub-depth
read_dict-overflow_sub-depth t c =
    let below : 1 ≤ c.args.depth = omega (arith, c.if-depth-eq0.false) in
    below

pub read_dict-read_value-requires : goal.read_dict-read_value-requires
read_dict-read_value-requires t c =
    let args = c.args in
    let s = args.s.now in
    let loop = c.loop-m in
    let q = c.in_ok-q-in-Item.q in
    let here = key-here c.loop-m.z c.in-Item.k c.in_ok-q-in-Item.q (length c.args.s.now) c.loop-m.m c.quoted.result c.in-Item.is c.loop-m.invariant.2 c.in_ok-q-in-Item.was c.quoted.ensures.within in
    let pre = c.requires in
    let mark = marked-item args.at (length s) _ c.in-Item.is loop.invariant.1 in
    let value = behind-to q c.in_ok-a-in-Item.was c.colon.ensures.onward in (
      omega arith,
      (
        omega (arith, pre.s_len_bound),
        subst Sized (sym c.enter.ensures)
            (with-sized (table loop.starts loop.ends loop.marks) loop.z c.in-Item.k q
            c.mark-mark.result (loop.invariant.5.sized pre.sized)),
      ),
    )

pub read_dict-returns-in_err-e-in-Item-clause-means : goal.read_dict-returns-in_err-e-in-Item-clause-means
read_dict-returns-in_err-e-in-Item-clause-means t c =
    let args = c.args in
    let s = args.s.now in
    let loop = c.loop-m in
    let k = c.in-Item.k in
    let v = Json.value (args.depth - 1) s in
    let now = table loop.starts loop.ends loop.marks in
    let ks = texts s now args.n (loop.z - args.n) in
    let q = c.in_ok-q-in-Item.q in
    let quoted-is = sym c.quoted.ensures.means ∙ c.in_ok-q-in-Item.was in
    let here = key-here c.loop-m.z c.in-Item.k c.in_ok-q-in-Item.q (length c.args.s.now) c.loop-m.m c.quoted.result c.in-Item.is c.loop-m.invariant.2 c.in_ok-q-in-Item.was c.quoted.ensures.within in
    let pre = c.requires in
    let after = table c.read_value.new.starts c.read_value.new.ends c.read_value.new.marks in
    let kept = subst (λ (x : Table). Kept (loop.z + 1) x after) c.enter.ensures
    c.read_value.ensures.kept in
    let size = loop.invariant.5.sized pre.sized in
    let below : loop.z < 512 = omega (arith, pre.s_len_bound) in
    let new = seen-is ks c.seen.ensures (ap undone c.between-key.ensures)
    c.if-seen.false in
    let mark = c.mark-mark.result in
    let mark-is = c.mark-mark.ensures ∙ ap (λ (x : List ℕ). mark_of (undone x)) c.between-key.ensures in
    let to-value = sym c.colon.ensures.means ∙ c.in_ok-a-in-Item.was in
    rw c.from_residual-in_err-e-in-Item.ensures (d-fails v s ks _ _ _ c.in-Item.is
    (no_value v s ks k q quoted-is new _ to-value (sym c.read_value.ensures.means ∙ c.in_err-e-in-Item.was)) loop.invariant.0)

pub read_dict-loop-m-smaller : goal.read_dict-loop-m-smaller
read_dict-loop-m-smaller t c =
    let args = c.args in
    let s = args.s.now in
    let q = c.in_ok-q-in-Item.q in
    let here = key-here c.loop-m.z c.in-Item.k c.in_ok-q-in-Item.q (length c.args.s.now) c.loop-m.m c.quoted.result c.in-Item.is c.loop-m.invariant.2 c.in_ok-q-in-Item.was c.quoted.ensures.within in
    let value = behind-to q c.in_ok-a-in-Item.was
    c.colon.ensures.onward in
    let end = within-to c.in_ok-a-in-Item.a (length s) c.in_ok-e-in-Item.was
    c.read_value.ensures.within in
    falls-mark (length s) _ c.next_member-m.result _ _ c.in-Item.is (omega arith, end.1) c.next_member-m.ensures.marked

pub read_dict-loop-m-preserved : goal.read_dict-loop-m-preserved
read_dict-loop-m-preserved t c =
    let args = c.args in
    let s = args.s.now in
    let loop = c.loop-m in
    let k = c.in-Item.k in
    let v = Json.value (args.depth - 1) s in
    let now = table loop.starts loop.ends loop.marks in
    let ks = texts s now args.n (loop.z - args.n) in
    let q = c.in_ok-q-in-Item.q in
    let quoted-is = sym c.quoted.ensures.means ∙ c.in_ok-q-in-Item.was in
    let here = key-here c.loop-m.z c.in-Item.k c.in_ok-q-in-Item.q (length c.args.s.now) c.loop-m.m c.quoted.result c.in-Item.is c.loop-m.invariant.2 c.in_ok-q-in-Item.was c.quoted.ensures.within in
    let pre = c.requires in
    let after = table c.read_value.new.starts c.read_value.new.ends c.read_value.new.marks in
    let kept = subst (λ (x : Table). Kept (loop.z + 1) x after) c.enter.ensures
    c.read_value.ensures.kept in
    let size = loop.invariant.5.sized pre.sized in
    let below : loop.z < 512 = omega (arith, pre.s_len_bound) in
    let new = seen-is ks c.seen.ensures (ap undone c.between-key.ensures)
    c.if-seen.false in
    let mark = c.mark-mark.result in
    let mark-is = c.mark-mark.ensures ∙ ap (λ (x : List ℕ). mark_of (undone x)) c.between-key.ensures in
    let to-value = sym c.colon.ensures.means ∙ c.in_ok-a-in-Item.was in
    let item = marked-item args.at (length s) _ c.in-Item.is loop.invariant.1 in
    let value = behind-to q c.in_ok-a-in-Item.was
    c.colon.ensures.onward in
    let a = c.in_ok-a-in-Item.a in
    let e = c.in_ok-e-in-Item.e in
    let next-member = c.next_member-m in
    let end = within-to a (length s) c.in_ok-e-in-Item.was c.read_value.ensures.within in (
      subst (λ (l : List (List ℕ)). MReads v s l next-member.result (Json.dict args.depth s args.at))
          (sym (turn-texts s now args.n loop.z k q mark size loop.invariant.3 below mark-is
          (table args.starts.now args.ends.now args.marks.now) after loop.invariant.5 kept))
          (d-goes v s ks k q quoted-is new a to-value _ next-member.result _ e c.in-Item.is
          (sym c.read_value.ensures.means ∙ c.in_ok-e-in-Item.was) (omega arith, end.1)
          next-member.ensures.means next-member.ensures.marked loop.invariant.0),
      marked_from args.at (length s) next-member.result e (omega arith) next-member.ensures.marked,
      room-more loop.z (length s) k e next-member.result here.0 (omega arith) next-member.ensures.marked,
      omega arith,
      turn-entered s now args.n loop.z k q mark size loop.invariant.3 below mark-is
          (table args.starts.now args.ends.now args.marks.now) after loop.invariant.5 kept loop.invariant.4,
      turn-kept s now args.n loop.z k q mark size loop.invariant.3 below mark-is
          (table args.starts.now args.ends.now args.marks.now) after loop.invariant.5 kept,
    )

pub read_dict-returns-in-End : goal.read_dict-returns-in-End
read_dict-returns-in-End t c =
    let args = c.args in
    let s = args.s.now in
    let loop = c.loop-m in record {
      means = d-ends (Json.value (args.depth - 1) s) s
          (texts s (table loop.starts loop.ends loop.marks) args.n (loop.z - args.n)) _ _ _ c.in-End.is loop.invariant.0;
      within = marked-end args.at (length s) _ c.in-End.is loop.invariant.1;
      kept = loop.invariant.5;
    }

pub read_dict-returns-in-Neither : goal.read_dict-returns-in-Neither
read_dict-returns-in-Neither t c =
    let args = c.args in
    let s = args.s.now in
    let loop = c.loop-m in record {
      means = d-breaks (Json.value (args.depth - 1) s) s
          (texts s (table loop.starts loop.ends loop.marks) args.n (loop.z - args.n)) _ _ c.in-Neither.is loop.invariant.0;
      within = tt;
      kept = loop.invariant.5;
    }

pub read_list-returns-then-depth-eq0 : goal.read_list-returns-then-depth-eq0
read_list-returns-then-depth-eq0 t c =
    let args = c.args in record {
      means = sym (list-deep _ args.s.now args.at c.if-depth-eq0.true);
      within = tt;
      kept = kept-none args.n (table args.starts.now args.ends.now args.marks.now);
    }

pub read_list-loop-m-init : goal.read_list-loop-m-init
read_list-loop-m-init t c =
    let args = c.args in
    let s = args.s.now in (
      begins (Json.value (args.depth - 1) s) 93 s _ _ args.at c.first_element-m.ensures.means
          (list-opens args.depth s args.at c.if-depth-eq0.false),
      c.first_element-m.ensures.marked,
      kept-none args.n (table args.starts.now args.ends.now args.marks.now),
    )

pub read_list-read_value-requires : goal.read_list-read_value-requires
read_list-read_value-requires t c =
    let args = c.args in
    let mark = marked-item args.at (length args.s.now) _ c.in-Item.is
    c.loop-m.invariant.1 in
    let pre = c.requires in (omega arith, (omega (arith, pre.s_len_bound), c.loop-m.invariant.2.sized pre.sized))

pub read_list-returns-in_err-e-in-Item-clause-means : goal.read_list-returns-in_err-e-in-Item-clause-means
read_list-returns-in_err-e-in-Item-clause-means t c =
    let args = c.args in
    let s = args.s.now in
    rw c.from_residual.ensures (fails (Json.value (args.depth - 1) s) 93 s _ _ _ c.in-Item.is
    (sym c.read_value.ensures.means ∙ c.in_err-e-in-Item.was) c.loop-m.invariant.0)

pub read_list-loop-m-smaller : goal.read_list-loop-m-smaller
read_list-loop-m-smaller t c =
    let s = c.args.s.now in
    falls-mark (length s) _ c.next_element-m.result _ _ c.in-Item.is
    (within-to _ (length s) c.in_ok-e-in-Item.was c.read_value.ensures.within)
    c.next_element-m.ensures.marked

pub read_list-loop-m-preserved : goal.read_list-loop-m-preserved
read_list-loop-m-preserved t c =
    let args = c.args in
    let s = args.s.now in
    let loop = c.loop-m in
    let end = within-to c.in-Item.i (length s) c.in_ok-e-in-Item.was
    c.read_value.ensures.within in
    let mark = marked-item args.at (length s) _ c.in-Item.is loop.invariant.1 in (
      goes (Json.value (args.depth - 1) s) 93 s _ _ _ _ _ c.in-Item.is
          (sym c.read_value.ensures.means ∙ c.in_ok-e-in-Item.was) end
          c.next_element-m.ensures.means c.next_element-m.ensures.marked loop.invariant.0,
      marked_from args.at (length s) c.next_element-m.result c.in_ok-e-in-Item.e (omega arith) c.next_element-m.ensures.marked,
      kept_then (omega arith) loop.invariant.2 c.read_value.ensures.kept,
    )

pub read_list-returns-in-End : goal.read_list-returns-in-End
read_list-returns-in-End t c =
    let args = c.args in
    let s = args.s.now in
    let loop = c.loop-m in record {
      means = ends (Json.value (args.depth - 1) s) 93 s _ _ _ c.in-End.is loop.invariant.0;
      within = marked-end args.at (length s) _ c.in-End.is loop.invariant.1;
      kept = loop.invariant.2;
    }

pub read_list-returns-in-Neither : goal.read_list-returns-in-Neither
read_list-returns-in-Neither t c =
    let args = c.args in
    let s = args.s.now in record {
      means = breaks (Json.value (args.depth - 1) s) 93 s _ _ c.in-Neither.is c.loop-m.invariant.0;
      within = tt;
      kept = c.loop-m.invariant.2;
    }

pub read_value-overflow_add-at : goal.read_value-overflow_add-at
read_value-overflow_add-at t c =
    let args = c.args in
    let here = byte-in args.s.now args.at (omega arith) in
    omega arith

pub read_value-read_list-requires : goal.read_value-read_list-requires
read_value-read_list-requires t c =
    let args = c.args in
    let here = byte-in args.s.now args.at (omega arith) in
    let pre = c.requires in (omega arith, (pre.s_len_bound, pre.sized))

pub read_value-overflow_add-at-in-123 : goal.read_value-overflow_add-at-in-123
read_value-overflow_add-at-in-123 t c =
    let args = c.args in
    let here = byte-in args.s.now args.at (omega arith) in
    omega arith

pub read_value-read_dict-requires : goal.read_value-read_dict-requires
read_value-read_dict-requires t c =
    let args = c.args in
    let here = byte-in args.s.now args.at (omega arith) in
    let pre = c.requires in (omega arith, (pre.s_len_bound, pre.sized))

pub read_value-returns-in-91 : goal.read_value-returns-in-91
read_value-returns-in-91 t c =
    let args = c.args in
    let s = args.s.now in record {
      means = c.read_list.ensures.means ∙ sym (value-list args.depth s args.at _ c.byte.ensures
          c.in-91.is);
      within = within-from c.read_list.result args.at (args.at + 1) (length s) (omega arith)
          c.read_list.ensures.within;
      kept = c.read_list.ensures.kept;
    }

pub read_value-returns-in-123 : goal.read_value-returns-in-123
read_value-returns-in-123 t c =
    let args = c.args in
    let s = args.s.now in record {
      means = c.read_dict.ensures.means ∙ sym (value-dict args.depth s args.at _ c.byte.ensures
          c.in-123.is);
      within = within-from c.read_dict.result args.at (args.at + 1) (length s) (omega arith)
          c.read_dict.ensures.within;
      kept = c.read_dict.ensures.kept;
    }

pub read_value-returns-in_default : goal.read_value-returns-in_default
read_value-returns-in_default t c =
    let args = c.args in
    record {
      means = c.scalar.ensures.means ∙ sym (value-flat args.depth args.s.now args.at _ c.byte.ensures (λ e. omega arith)
          (λ e. omega arith));
      within = c.scalar.ensures.within;
      kept = kept-none args.n (table args.starts.now args.ends.now args.marks.now);
    }
