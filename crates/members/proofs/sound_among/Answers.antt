use mathlib.Core.Path.{refl, sym, ap, ◌∙◌}
use mathlib.Core.List.{List}
use Prim.Native.Nat.{ℕ}
use native.Mathlib.Omega.{arith}
use lib.ListN.{length}
use Rattle.seq.proofs.Bytes.{byte-in}
use Rattle.strings.specs.Strings.{has_lone}
use Rattle.json_text.proofs.Laws.{falls-mark}
use Rattle.members.specs.Members.{sound_keys}
use Rattle.members.proofs.Laws.{ends-behind, members-long, members-not, look-begins, look-last, look-bad, look_hit, look-goes}
use Rattle.members.proofs.Laws.{sound_none, sound-lone, sound-good}
use Rattle.members.proofs.sound_among.Goals as goal

pub returns-then-t-gt-MAX_BYTES : goal.returns-then-t-gt-MAX_BYTES
returns-then-t-gt-MAX_BYTES c =
    let args = c.args in
    sound_none args.t.now (members-long args.t.now args.at c.if-t-gt-MAX_BYTES.true)

pub returns-then-byte-ne123 : goal.returns-then-byte-ne123
returns-then-byte-ne123 c =
    let args = c.args in
    sound_none args.t.now
    (members-not args.t.now args.at _ c.byte.ensures c.if-t-gt-MAX_BYTES.false c.if-byte-ne123.true)

pub overflow_add-at : goal.overflow_add-at
overflow_add-at c =
    let args = c.args in
    let inside = byte-in args.t.now args.at (omega arith) in
    omega arith

pub loop-m-init : goal.loop-m-init
loop-m-init c =
    let args = c.args in
    look-begins (sound_keys args.t.now) args.t.now args.at _ c.first_member-m.result c.byte.ensures
    c.if-t-gt-MAX_BYTES.false c.if-byte-ne123.false c.first_member-m.ensures.means

pub returns-in_default-member_at : goal.returns-in_default-member_at
returns-in_default-member_at c =
    let of-m = c.in-Item in
    let loop = c.loop-m in
    let args = c.args in
    sound_none args.t.now refl
    ∙ look-bad (sound_keys args.t.now) args.t.now loop.m _ loop.invariant of-m.k of-m.is
    (sym c.member_at.ensures.means ∙ c.in_default-member_at.is)

pub returns-then-has_lone : goal.returns-then-has_lone
returns-then-has_lone c =
    let found = c.in-Some.member in
    let member-at = c.member_at in
    let of-m = c.in-Item in
    let loop = c.loop-m in
    let args = c.args in
    let t = args.t.now in
    look_hit (sound_keys t) t loop.m _ loop.invariant of-m.k found.key_end found.value.from found.value.to
    of-m.is (sym member-at.ensures.means ∙ c.in-Some.is)
    (ends-behind of-m.k (length t) c.in-Some.is member-at.ensures.beyond)
    _ (sound-lone t of-m.k found.key_end found.value.from found.value.to
    (ap (λ (x : List ℕ). has_lone x) (sym c.between.ensures) ∙ sym c.has_lone.ensures ∙ c.if-has_lone.true))

pub loop-m-smaller : goal.loop-m-smaller
loop-m-smaller c =
    let found = c.in-Some.member in
    let member-at = c.member_at in
    let of-m = c.in-Item in
    let loop = c.loop-m in
    let args = c.args in
    let t = args.t.now in
    falls-mark (length t) loop.m c.next_member-m.result of-m.k found.value.to of-m.is
    (ends-behind of-m.k (length t) c.in-Some.is member-at.ensures.beyond) c.next_member-m.ensures.marked

pub loop-m-preserved : goal.loop-m-preserved
loop-m-preserved c =
    let found = c.in-Some.member in
    let member-at = c.member_at in
    let of-m = c.in-Item in
    let loop = c.loop-m in
    let args = c.args in
    let t = args.t.now in
    look-goes (sound_keys t) t loop.m _ loop.invariant of-m.k found.key_end found.value.from found.value.to
    of-m.is (sym member-at.ensures.means ∙ c.in-Some.is)
    (ends-behind of-m.k (length t) c.in-Some.is member-at.ensures.beyond)
    (sound-good t of-m.k found.key_end found.value.from found.value.to
    (ap (λ (x : List ℕ). has_lone x) (sym c.between.ensures) ∙ sym c.has_lone.ensures
    ∙ c.if-has_lone.false)) c.next_member-m.result c.next_member-m.ensures.means c.next_member-m.ensures.marked

pub returns : goal.returns
returns c =
    let loop = c.loop-m in
    let args = c.args in
    sound_none args.t.now refl
    ∙ look-last (sound_keys args.t.now) args.t.now loop.m _ loop.invariant c.in_default.not-Item
