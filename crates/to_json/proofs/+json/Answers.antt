use Rattle.to_json.proofs.Packs.{conv-plain, conv-text, conv-list, conv-dict, conv-none, conv-deep, member-no-key, member-not, conv-member}
use Rattle.to_json.proofs.Going.{going_start, going-not, going_end, going-go}
use Rattle.conversion.proofs.Conv.{converts, converts-not, took, refused, ahead-done, onward-done, ahead-from, ahead-later}
use Rattle.to_json.proofs.Laws.{past-str}
use Rattle.values.specs.Stands.{items, pack_member_at, stands}
use Rattle.seq.specs.declared.Format.TheVariants.{Json, MsgPack}
use Rattle.values.specs.Write.{json_member, json_list, json_dict, write}
use Rattle.buffer.proofs.Wrote.{told, wrote_none, wrote_then}
use lib.ListN.{length}
use native.Mathlib.Omega.{arith}
use mathlib.Core.List.{[], ◌∷◌}
use Rattle.msgpack.specs.Head.{str}
use mathlib.Core.Path.{◌≡◌, refl}
use Rattle.to_json.proofs.+json.Goals as goal

pub json_list-loop-i-init : goal.json_list-loop-i-init
json_list-loop-i-init t c = (going_start (wrote_none _ _ (omega arith)), omega arith, omega arith, refl)

pub json_list-json_value-requires : goal.json_list-json_value-requires
json_list-json_value-requires t c = (omega arith, tt)

pub json_list-returns-in_err-value : goal.json_list-returns-in_err-value
json_list-returns-in_err-value t c =
    let a = c.args in
    let s = a.s.now in
    let l = c.loop-i in
    let n = refused {r = stands MsgPack a.depth s l.p} c.json_value.ensures.means c.in_err-value.was in rw c.from_residual.ensures (record {
      means = converts-not _ _ (json_list (write Json a.depth)) (items (stands MsgPack a.depth s) a.n a.at) _ (going-not l.invariant.0 (omega arith) n);
      within = tt;
    })

pub json_list-loop-i-preserved : goal.json_list-loop-i-preserved
json_list-loop-i-preserved t c =
    let a = c.args in
    let s = a.s.now in
    let l = c.loop-i in
    let v = c.json_value in
    let w = ahead-done l.p (length s) c.in_ok-value.was v.ensures.within in
    let t = took {r = stands MsgPack a.depth s l.p} v.ensures.means c.in_ok-value.was in (
      going-go l.invariant.0 (omega arith) (omega arith) (told _ _ _ c.put_comma-q.ensures) t,
      omega arith,
      omega arith,
      omega arith,
    )

pub json_list-returns : goal.json_list-returns
json_list-returns t c =
    let opened = told _ _ (91 ∷ []) c.put_byte-q.ensures in
    let closed = told _ _ (93 ∷ []) c.put_byte-written.ensures in
    let a = c.args in
    let s = a.s.now in
    let l = c.loop-i in record {
      means = converts _ _ (json_list (write Json a.depth)) (items (stands MsgPack a.depth s) a.n a.at) _ (going_end l.invariant.0 (omega arith))
          (wrote_then (omega arith) (wrote_then (omega arith) opened l.invariant.0.wrote) closed);
      within = omega arith;
    }

pub json_dict-loop-i-init : goal.json_dict-loop-i-init
json_dict-loop-i-init t c = (going_start (wrote_none _ _ (omega arith)), omega arith, omega arith, refl)

pub json_dict-json_member-requires : goal.json_dict-json_member-requires
json_dict-json_member-requires t c = (omega arith, tt)

pub json_dict-returns-in_err-member : goal.json_dict-returns-in_err-member
json_dict-returns-in_err-member t c =
    let a = c.args in
    let s = a.s.now in
    let l = c.loop-i in
    let n = refused {r = pack_member_at (stands MsgPack a.depth s) s l.p} c.json_member.ensures.means c.in_err-member.was in rw c.from_residual.ensures (record {
      means = converts-not _ _ (json_dict (write Json a.depth)) (items (pack_member_at (stands MsgPack a.depth s) s) a.n a.at) _ (going-not l.invariant.0 (omega arith) n);
      within = tt;
    })

pub json_dict-loop-i-preserved : goal.json_dict-loop-i-preserved
json_dict-loop-i-preserved t c =
    let a = c.args in
    let s = a.s.now in
    let l = c.loop-i in
    let v = c.json_member in
    let w = ahead-done l.p (length s) c.in_ok-member.was v.ensures.within in
    let t = took {r = pack_member_at (stands MsgPack a.depth s) s l.p} v.ensures.means c.in_ok-member.was in (
      going-go l.invariant.0 (omega arith) (omega arith) (told _ _ _ c.put_comma-q.ensures) t,
      omega arith,
      omega arith,
      omega arith,
    )

pub json_dict-returns : goal.json_dict-returns
json_dict-returns t c =
    let opened = told _ _ (123 ∷ []) c.put_byte-q.ensures in
    let closed = told _ _ (125 ∷ []) c.put_byte-written.ensures in
    let a = c.args in
    let s = a.s.now in
    let l = c.loop-i in record {
      means = converts _ _ (json_dict (write Json a.depth)) (items (pack_member_at (stands MsgPack a.depth s) s) a.n a.at) _ (going_end l.invariant.0 (omega arith))
          (wrote_then (omega arith) (wrote_then (omega arith) opened l.invariant.0.wrote) closed);
      within = omega arith;
    }

pub json_member-returns-then-kind-ne-STR : goal.json_member-returns-then-kind-ne-STR
json_member-returns-then-kind-ne-STR t c =
    let h = c.head_at-h in
    let a = c.args in
    let s = a.s.now in record {
      means = converts-not _ _ (json_member (write Json a.depth)) (pack_member_at (stands MsgPack a.depth s) s a.at) _
          (member-no-key s (stands MsgPack a.depth s) a.at h.result h.ensures.means c.if-kind-ne-STR.true);
      within = tt;
    }

pub json_member-json_text-requires : goal.json_member-json_text-requires
json_member-json_text-requires t c = c.head_at-h.ensures.placed.inside

pub json_member-returns-in_err-key : goal.json_member-returns-in_err-key
json_member-returns-in_err-key t c =
    let h = c.head_at-h in
    let a = c.args in
    let s = a.s.now in
    let k : h.result.kind ≡ str = omega (arith, c.if-kind-ne-STR.false) in rw c.from_residual.ensures (record {
      means = converts-not _ _ (json_member (write Json a.depth)) (pack_member_at (stands MsgPack a.depth s) s a.at) _
          (member-not s (stands MsgPack a.depth s) a.at h.result h.ensures.means k (refused c.json_text.ensures.means c.in_err-key.was));
      within = tt;
    })

pub json_member-json_value-requires : goal.json_member-json_value-requires
json_member-json_value-requires t c =
    let h = c.head_at-h in
    let b = h.ensures.placed.behind (λ k. omega (arith, c.if-kind-ne-STR.false)) in
    let w = onward-done h.result.end (length c.args.s.now) c.in_ok-key.was c.json_text.ensures.within in
    (omega arith, tt)

pub json_member-returns : goal.json_member-returns
json_member-returns t c =
    let value = c.json_value in
    let colon = told _ _ (58 ∷ []) c.put_byte-q.ensures in
    let e = c.in_ok-key in
    let text = c.json_text.ensures in
    let h = c.head_at-h in
    let a = c.args in
    let s = a.s.now in
    let k : h.result.kind ≡ str = omega (arith, c.if-kind-ne-STR.false) in
    let b = h.ensures.placed.behind (λ n. omega (arith, k)) in
    let w = onward-done h.result.end (length s) e.was text.within in record {
      means = conv-member s (stands MsgPack a.depth s) a.at h.result h.ensures.means _ _ (write Json a.depth) _ _ _ _ _ _ _
          (omega arith) k (took text.means e.was) colon value.ensures.means;
      within = ahead-later value.result a.at e.key.read (length s) (omega (arith, b, w)) value.ensures.within;
    }

pub json_value-put_plain-written-requires : goal.json_value-put_plain-written-requires
json_value-put_plain-written-requires t c =
    let h = c.head_at-h in
    (c.if-kind-lt-STR.true, h.ensures.placed.low)

pub json_value-returns-then-kind-lt-STR : goal.json_value-returns-then-kind-lt-STR
json_value-returns-then-kind-lt-STR t c =
    let h = c.head_at-h in
    let a = c.args in
    let s = a.s.now in
    let i = h.ensures.placed.inside in
    let b = h.ensures.placed.behind (λ k. omega arith) in record {
      means = conv-plain _ _ s a.at h.result h.ensures.means _ a.depth c.if-kind-lt-STR.true (told _ _ _ c.put_plain-written.ensures);
      within = omega arith;
    }

pub json_value-json_text-requires : goal.json_value-json_text-requires
json_value-json_text-requires t c = c.head_at-h.ensures.placed.inside

pub json_value-returns-then-kind-eq-STR : goal.json_value-returns-then-kind-eq-STR
json_value-returns-then-kind-eq-STR t c =
    let h = c.head_at-h in
    let a = c.args in
    let s = a.s.now in
    let i = h.ensures.placed.inside in
    let b = h.ensures.placed.behind (λ k. omega arith) in record {
      means = conv-text _ _ s a.at h.result h.ensures.means _ _ a.depth c.if-kind-eq-STR.true c.json_text.ensures.means;
      within = ahead-from c.json_text.result a.at h.result.end (length s) b c.json_text.ensures.within;
    }

pub json_value-returns-then-depth-eq0 : goal.json_value-returns-then-depth-eq0
json_value-returns-then-depth-eq0 t c =
    let h = c.head_at-h in
    let a = c.args in
    let s = a.s.now in record {
      means = conv-deep _ _ s a.at h.result h.ensures.means _ a.depth c.if-depth-eq0.true
          (past-str h.result.kind c.if-kind-lt-STR.false c.if-kind-eq-STR.false);
      within = tt;
    }

pub json_value-json_list-requires : goal.json_value-json_list-requires
json_value-json_list-requires t c =
    let h = c.head_at-h in
    let i = h.ensures.placed.inside in
    let b = h.ensures.placed.behind (λ k. omega arith) in
    omega arith

pub json_value-returns-then-kind-eq-ARRAY : goal.json_value-returns-then-kind-eq-ARRAY
json_value-returns-then-kind-eq-ARRAY t c =
    let h = c.head_at-h in
    let a = c.args in
    let s = a.s.now in
    let i = h.ensures.placed.inside in
    let b = h.ensures.placed.behind (λ k. omega arith) in record {
      means = conv-list _ _ s a.at h.result h.ensures.means _ _ a.depth c.if-depth-eq0.false c.if-kind-eq-ARRAY.true c.json_list.ensures.means;
      within = ahead-from c.json_list.result a.at h.result.end (length s) b c.json_list.ensures.within;
    }

pub json_value-json_dict-requires : goal.json_value-json_dict-requires
json_value-json_dict-requires t c =
    let h = c.head_at-h in
    let i = h.ensures.placed.inside in
    let b = h.ensures.placed.behind (λ k. omega arith) in
    omega arith

pub json_value-returns-then-kind-eq-MAP : goal.json_value-returns-then-kind-eq-MAP
json_value-returns-then-kind-eq-MAP t c =
    let h = c.head_at-h in
    let a = c.args in
    let s = a.s.now in
    let i = h.ensures.placed.inside in
    let b = h.ensures.placed.behind (λ k. omega arith) in record {
      means = conv-dict _ _ s a.at h.result h.ensures.means _ _ a.depth c.if-depth-eq0.false c.if-kind-eq-MAP.true c.json_dict.ensures.means;
      within = ahead-from c.json_dict.result a.at h.result.end (length s) b c.json_dict.ensures.within;
    }

pub json_value-returns : goal.json_value-returns
json_value-returns t c =
    let h = c.head_at-h in
    let a = c.args in
    let s = a.s.now in record {
      means = conv-none _ _ s a.at h.result h.ensures.means _ a.depth (past-str h.result.kind c.if-kind-lt-STR.false c.if-kind-eq-STR.false)
          c.if-kind-eq-ARRAY.false c.if-kind-eq-MAP.false;
      within = tt;
    }
