use Prim.Native.Nat.{◌*◌, ◌-◌}
use mathlib.Core.Path.{◌≡◌, ap, ◌∙◌}
use native.Mathlib.Omega.{arith}
use lib.ListN.{length, replicate}
use Rattle.seq.specs.Lists.{joined}
use Rattle.seq.specs.BigEndian.{digits}
use Rattle.buffer.proofs.Wrote.{told, wrote, wrote_then}
use Rattle.contents.specs.Contents.{body_of}
use Rattle.settings.specs.Settings.{most_rules}
use Rattle.settings.specs.Lent.{rule_size, text_in, text_bytes, rule_bytes, lent}
use Rattle.settings.proofs.Texts.{text-size}
use Rattle.settings_file.specs.File.{realm_kind, rules_kind, rules_in, settings_in}
use Rattle.settings_file.proofs.Tests.{whole-fits}
use Rattle.settings_io.proofs.Laws.{exact, ends_at, length-rules, realm-fits, rules-good, rules-few, length-lent}
use Rattle.settings_io.proofs.put_settings.Goals as goal

pub put_text-o-requires : goal.put_text-o-requires
put_text-o-requires c =
    let s = c.args.file.now in
    let t : c.text_in.result.now ≡ text_in (body_of realm_kind s) = c.text_in.ensures ∙ ap text_in c.body.ensures in
    rw t (realm-fits s c.requires.2)

pub put_rules-p-requires : goal.put_rules-p-requires
put_rules-p-requires c =
    let s = c.args.file.now in
    rw c.body-2.ensures (whole-fits s c.requires.0, rules-good s c.requires.2)

pub overflow_sub-p : goal.overflow_sub-p
overflow_sub-p c =
    let s = c.args.file.now in
    let pre = c.requires in
    let t : c.text_in.result.now ≡ text_in (body_of realm_kind s) = c.text_in.ensures ∙ ap text_in c.body.ensures in
    let b : c.body-2.result.now ≡ body_of rules_kind s = c.body-2.ensures in
    let e =
    ends_at c.put_text-o.result c.put_rules-p.result _ _ (length (rules_in (body_of rules_kind s)))
    (rw t at c.put_text-o.ensures.place)
    (text-size (text_in (body_of realm_kind s)) (realm-fits s pre.2))
    (rw b at c.put_rules-p.ensures.place)
    (length-rules (rules_in (body_of rules_kind s)) (rules-good s pre.2))
    (rules-few s pre.1) in
    omega (arith, e, rules-few s pre.1)

pub put_zeros-q-requires : goal.put_zeros-q-requires
put_zeros-q-requires c =
    let s = c.args.file.now in
    let pre = c.requires in
    let t : c.text_in.result.now ≡ text_in (body_of realm_kind s) = c.text_in.ensures ∙ ap text_in c.body.ensures in
    let b : c.body-2.result.now ≡ body_of rules_kind s = c.body-2.ensures in
    let e =
    ends_at c.put_text-o.result c.put_rules-p.result _ _ (length (rules_in (body_of rules_kind s)))
    (rw t at c.put_text-o.ensures.place)
    (text-size (text_in (body_of realm_kind s)) (realm-fits s pre.2))
    (rw b at c.put_rules-p.ensures.place)
    (length-rules (rules_in (body_of rules_kind s)) (rules-good s pre.2))
    (rules-few s pre.1) in
    omega (arith, e)

pub returns : goal.returns
unfolding lent settings_in
returns c =
    let s = c.args.file.now in
    let pre = c.requires in
    let t : c.text_in.result.now ≡ text_in (body_of realm_kind s) = c.text_in.ensures ∙ ap text_in c.body.ensures in
    let b : c.body-2.result.now ≡ body_of rules_kind s = c.body-2.ensures in
    let e =
    ends_at c.put_text-o.result c.put_rules-p.result _ _ (length (rules_in (body_of rules_kind s)))
    (rw t at c.put_text-o.ensures.place)
    (text-size (text_in (body_of realm_kind s)) (realm-fits s pre.2))
    (rw b at c.put_rules-p.ensures.place)
    (length-rules (rules_in (body_of rules_kind s)) (rules-good s pre.2))
    (rules-few s pre.1) in
    let z : 4353 - c.put_rules-p.result ≡ (most_rules - length (rules_in (body_of rules_kind s))) * rule_size =
    omega (arith, e, rules-few s pre.1) in
    let w =
    wrote_then (omega arith) (wrote (ap text_bytes t) (told _ _ _ c.put_text-o.ensures))
    (wrote_then (omega arith) (wrote (ap (λ x. joined rule_bytes (rules_in x)) b) (told _ _ _ c.put_rules-p.ensures))
    (wrote_then (omega arith) (wrote (ap (λ n. replicate n 0) z) (told _ _ _ c.put_zeros-q.ensures))
    (wrote (ap (digits 4) c.wait_in.ensures) (told _ _ _ c.put_number32.ensures)))) in
    exact (omega (arith, length-lent s pre)) w
