use Rattle.to_msgpack.proofs.Lists.{going_start, going-not, going-neither, going_end, going-go, few-none, few-item, few-more}
use Rattle.to_msgpack.proofs.Lists.{listed, mapped, conv-flat, conv-scalar, conv-list, conv-dict, member-no-key, member-no-colon, conv-member}
use Rattle.conversion.proofs.Conv.{converts, converts-not, took, refused, ahead-done, ahead-later}
use Rattle.packing.proofs.Moved.{headed-wrote}
use Rattle.packing.proofs.Laws.{array-first, map_first}
use Rattle.buffer.proofs.Wrote.{told, wrote, wrote_none, wrote_then}
use Rattle.json_text.proofs.Laws.{falls-mark, marked_from, marked-item, marked-end}
use Rattle.lex.specs.Lex.{close_list, close_dict, Behind}
use Rattle.seq.specs.declared.Format.TheVariants.{Json, MsgPack}
use Rattle.seq.proofs.Bytes.{byte-in}
use Rattle.seq.specs.Lists.{joined}
use Rattle.values.specs.Write.{pack_member, pack_array, pack_map, write}
use Rattle.values.specs.Stands.{json_member_at, enclosed, stands}
use mathlib.Core.List.{◌++◌}
use mathlib.Core.Path.{sym, ap, subst, ◌∙◌}
use Prim.Native.Nat.{ℕ, ◌+◌}
use native.Mathlib.Omega.{arith}
use lib.ListN.{length}
use borrow.Author.Rules.{rules}
use Rattle.to_msgpack.proofs.+pack.Goals as goal

pub pack_list-loop-m-init : goal.pack_list-loop-m-init
pack_list-loop-m-init t c =
    let m = c.first_element-m in
    (going_start _ m.ensures.means (wrote_none _ _ (omega arith)), m.ensures.marked, few-none m.result, search rules)

pub pack_list-pack_value-requires : goal.pack_list-pack_value-requires
pack_list-pack_value-requires t c =
    let i = marked-item c.args.at (length c.args.s.now) _ c.in-Item.is c.loop-m.invariant.1 in
    (omega arith, tt)

pub pack_list-returns-in_err-value-in-Item : goal.pack_list-returns-in_err-value-in-Item
pack_list-returns-in_err-value-in-Item t c =
    let a = c.args in
    let s = a.s.now in
    let l = c.loop-m in rw c.from_residual.ensures (record {
      means = converts-not _ _ (listed (write MsgPack a.depth)) (enclosed (stands Json a.depth s) close_list s a.at) _ (going-not l.invariant.0 _ c.in-Item.is (refused c.pack_value.ensures.means c.in_err-value-in-Item.was));
      within = tt;
    })

pub pack_list-overflow_add-n : goal.pack_list-overflow_add-n
pack_list-overflow_add-n t c =
    let e = ahead-done _ _ c.in_ok-value-in-Item.was c.pack_value.ensures.within in
    let f = few-item _ _ c.in-Item.is c.loop-m.invariant.2 in
    omega arith

pub pack_list-loop-m-smaller : goal.pack_list-loop-m-smaller
pack_list-loop-m-smaller t c =
    falls-mark (length c.args.s.now) _ c.next_element-m.result _ _ c.in-Item.is (ahead-done _ _ c.in_ok-value-in-Item.was c.pack_value.ensures.within) c.next_element-m.ensures.marked

pub pack_list-loop-m-preserved : goal.pack_list-loop-m-preserved
pack_list-loop-m-preserved t c =
    let n = length c.args.s.now in
    let v = c.pack_value.ensures in
    let m = c.next_element-m in
    let l = c.loop-m.invariant in
    let e = ahead-done _ n c.in_ok-value-in-Item.was v.within in
    let i = marked-item c.args.at n _ c.in-Item.is l.1 in
    let f = few-item _ _ c.in-Item.is l.2 in (
      going-go l.0 (omega arith) _ c.in-Item.is (took v.means c.in_ok-value-in-Item.was) e.0 e.1 m.result m.ensures.means m.ensures.marked,
      marked_from c.args.at n m.result c.in_ok-value-in-Item.value.read (omega arith) m.ensures.marked,
      few-more _ n _ c.in_ok-value-in-Item.value.read m.result f e.0 m.ensures.marked,
      search rules,
    )

pub pack_list-returns-in-End : goal.pack_list-returns-in-End
pack_list-returns-in-End t c =
    let a = c.args in
    let s = a.s.now in
    let l = c.loop-m in
    let g = l.invariant.0 in record {
      means = converts _ _ (listed (write MsgPack a.depth)) (enclosed (stands Json a.depth s) close_list s a.at) _ (going_end g _ c.in-End.is)
          (wrote (ap (λ (k : ℕ). pack_array k ++ joined (write MsgPack a.depth) g.done) g.counted)
          (headed-wrote (pack_array l.n) (omega arith) (array-first l.n) (wrote_then (omega arith) (told _ _ _ c.put_byte-q.ensures) g.wrote)
          c.head_array-written.ensures.place c.head_array-written.ensures.bytes));
      within = marked-end a.at (length s) _ c.in-End.is l.invariant.1;
    }

pub pack_list-returns-in-Neither : goal.pack_list-returns-in-Neither
pack_list-returns-in-Neither t c =
    let a = c.args in
    let s = a.s.now in record {
      means = converts-not _ _ (listed (write MsgPack a.depth)) (enclosed (stands Json a.depth s) close_list s a.at) _ (going-neither c.loop-m.invariant.0 c.in-Neither.is);
      within = tt;
    }

pub pack_dict-loop-m-init : goal.pack_dict-loop-m-init
pack_dict-loop-m-init t c =
    let m = c.first_member-m in
    (going_start _ m.ensures.means (wrote_none _ _ (omega arith)), m.ensures.marked, few-none m.result, search rules)

pub pack_dict-pack_member-requires : goal.pack_dict-pack_member-requires
pack_dict-pack_member-requires t c =
    let i = marked-item c.args.at (length c.args.s.now) _ c.in-Item.is c.loop-m.invariant.1 in
    (omega arith, tt)

pub pack_dict-returns-in_err-member-in-Item : goal.pack_dict-returns-in_err-member-in-Item
pack_dict-returns-in_err-member-in-Item t c =
    let a = c.args in
    let s = a.s.now in
    let l = c.loop-m in rw c.from_residual.ensures (record {
      means = converts-not _ _ (mapped (write MsgPack a.depth)) (enclosed (json_member_at (stands Json a.depth s) s) close_dict s a.at) _ (going-not l.invariant.0 _ c.in-Item.is (refused c.pack_member.ensures.means c.in_err-member-in-Item.was));
      within = tt;
    })

pub pack_dict-overflow_add-n : goal.pack_dict-overflow_add-n
pack_dict-overflow_add-n t c =
    let e = ahead-done _ _ c.in_ok-member-in-Item.was c.pack_member.ensures.within in
    let f = few-item _ _ c.in-Item.is c.loop-m.invariant.2 in
    omega arith

pub pack_dict-loop-m-smaller : goal.pack_dict-loop-m-smaller
pack_dict-loop-m-smaller t c =
    falls-mark (length c.args.s.now) _ c.next_member-m.result _ _ c.in-Item.is (ahead-done _ _ c.in_ok-member-in-Item.was c.pack_member.ensures.within) c.next_member-m.ensures.marked

pub pack_dict-loop-m-preserved : goal.pack_dict-loop-m-preserved
pack_dict-loop-m-preserved t c =
    let n = length c.args.s.now in
    let v = c.pack_member.ensures in
    let m = c.next_member-m in
    let l = c.loop-m.invariant in
    let e = ahead-done _ n c.in_ok-member-in-Item.was v.within in
    let i = marked-item c.args.at n _ c.in-Item.is l.1 in
    let f = few-item _ _ c.in-Item.is l.2 in (
      going-go l.0 (omega arith) _ c.in-Item.is (took v.means c.in_ok-member-in-Item.was) e.0 e.1 m.result m.ensures.means m.ensures.marked,
      marked_from c.args.at n m.result c.in_ok-member-in-Item.member.read (omega arith) m.ensures.marked,
      few-more _ n _ c.in_ok-member-in-Item.member.read m.result f e.0 m.ensures.marked,
      search rules,
    )

pub pack_dict-returns-in-End : goal.pack_dict-returns-in-End
pack_dict-returns-in-End t c =
    let a = c.args in
    let s = a.s.now in
    let l = c.loop-m in
    let g = l.invariant.0 in record {
      means = converts _ _ (mapped (write MsgPack a.depth)) (enclosed (json_member_at (stands Json a.depth s) s) close_dict s a.at) _ (going_end g _ c.in-End.is)
          (wrote (ap (λ (k : ℕ). pack_map k ++ joined (pack_member (write MsgPack a.depth)) g.done) g.counted)
          (headed-wrote (pack_map l.n) (omega arith) (map_first l.n) (wrote_then (omega arith) (told _ _ _ c.put_byte-q.ensures) g.wrote)
          c.head_map-written.ensures.place c.head_map-written.ensures.bytes));
      within = marked-end a.at (length s) _ c.in-End.is l.invariant.1;
    }

pub pack_dict-returns-in-Neither : goal.pack_dict-returns-in-Neither
pack_dict-returns-in-Neither t c =
    let a = c.args in
    let s = a.s.now in record {
      means = converts-not _ _ (mapped (write MsgPack a.depth)) (enclosed (json_member_at (stands Json a.depth s) s) close_dict s a.at) _ (going-neither c.loop-m.invariant.0 c.in-Neither.is);
      within = tt;
    }

pub pack_member-returns-in_err-key : goal.pack_member-returns-in_err-key
pack_member-returns-in_err-key t c =
    let a = c.args in
    let s = a.s.now in rw c.from_residual.ensures (record {
      means = converts-not _ _ (pack_member (write MsgPack a.depth)) _ _
          (member-no-key s (stands Json a.depth s) a.at (refused c.pack_text.ensures.means c.in_err-key.was));
      within = tt;
    })

pub pack_member-returns-in_err-a : goal.pack_member-returns-in_err-a
pack_member-returns-in_err-a t c =
    let a = c.args in
    let s = a.s.now in
    let k = took c.pack_text.ensures.means c.in_ok-key.was in rw c.from_residual-in_err-a.ensures (record {
      means = converts-not _ _ (pack_member (write MsgPack a.depth)) _ _
          (member-no-colon s (stands Json a.depth s) a.at k.value _ k.read (sym c.colon.ensures.means ∙ c.in_err-a.was));
      within = tt;
    })

pub pack_member-pack_value-requires : goal.pack_member-pack_value-requires
pack_member-pack_value-requires t c =
    let e = ahead-done c.args.at (length c.args.s.now) c.in_ok-key.was c.pack_text.ensures.within in
    let a = subst (Behind _) c.in_ok-a.was c.colon.ensures.onward in
    (omega arith, tt)

pub pack_member-returns : goal.pack_member-returns
pack_member-returns t c =
    let a = c.args in
    let s = a.s.now in
    let v = c.pack_value in
    let e = ahead-done a.at (length s) c.in_ok-key.was c.pack_text.ensures.within in
    let b = subst (Behind _) c.in_ok-a.was c.colon.ensures.onward in record {
      means = conv-member s (stands Json a.depth s) a.at (write MsgPack a.depth) (omega arith) (took c.pack_text.ensures.means c.in_ok-key.was)
          (sym c.colon.ensures.means ∙ c.in_ok-a.was) v.ensures.means;
      within = ahead-later v.result a.at _ (length s) (omega arith) v.ensures.within;
    }

pub pack_value-returns-then-depth-eq0 : goal.pack_value-returns-then-depth-eq0
pack_value-returns-then-depth-eq0 t c = record {
  means = conv-flat _ _ _ _ _ _ c.args.depth c.if-depth-eq0.true c.pack_scalar.ensures.means;
  within = c.pack_scalar.ensures.within;
}

pub pack_value-overflow_add-at : goal.pack_value-overflow_add-at
pack_value-overflow_add-at t c =
    let l = byte-in c.args.s.now c.args.at (omega (arith, c.byte-b.ensures, c.in-91.is)) in
    omega arith

pub pack_value-pack_list-requires : goal.pack_value-pack_list-requires
pack_value-pack_list-requires t c =
    let l = byte-in c.args.s.now c.args.at (omega (arith, c.byte-b.ensures, c.in-91.is)) in
    (omega arith, tt)

pub pack_value-returns-in-91 : goal.pack_value-returns-in-91
pack_value-returns-in-91 t c =
    let a = c.args in
    let v = c.pack_list in record {
      means = conv-list _ _ _ _ _ _ a.depth c.if-depth-eq0.false (sym c.byte-b.ensures ∙ c.in-91.is) v.ensures.means;
      within = ahead-later v.result a.at (a.at + 1) (length a.s.now) (omega arith) v.ensures.within;
    }

pub pack_value-overflow_add-at-in-123 : goal.pack_value-overflow_add-at-in-123
pack_value-overflow_add-at-in-123 t c =
    let l = byte-in c.args.s.now c.args.at (omega (arith, c.byte-b.ensures, c.in-123.is)) in
    omega arith

pub pack_value-pack_dict-requires : goal.pack_value-pack_dict-requires
pack_value-pack_dict-requires t c =
    let l = byte-in c.args.s.now c.args.at (omega (arith, c.byte-b.ensures, c.in-123.is)) in
    (omega arith, tt)

pub pack_value-returns-in-123 : goal.pack_value-returns-in-123
pack_value-returns-in-123 t c =
    let a = c.args in
    let v = c.pack_dict in record {
      means = conv-dict _ _ _ _ _ _ a.depth c.if-depth-eq0.false (sym c.byte-b.ensures ∙ c.in-123.is) v.ensures.means;
      within = ahead-later v.result a.at (a.at + 1) (length a.s.now) (omega arith) v.ensures.within;
    }

pub pack_value-returns-in_default : goal.pack_value-returns-in_default
pack_value-returns-in_default t c = record {
  means = conv-scalar _ _ _ _ _ _ c.args.depth c.if-depth-eq0.false (λ x. omega arith) (λ x. omega arith) c.pack_scalar-in_default.ensures.means;
  within = c.pack_scalar-in_default.ensures.within;
}
