use mathlib.Core.List.{[]}
use mathlib.Core.Path.{◌≡◌, refl, ◌∙◌}
use native.Mathlib.Omega.{arith}
use lib.ListN.{get_or}
use Rattle.seq.proofs.Joined.{joined-all}
use Rattle.buffer.proofs.Wrote.{told, tells, wrote, wrote_none, wrote-turn, wrote-length}
use Rattle.settings.specs.Lent.{rule_of, settings_of}
use Rattle.settings.proofs.Laws.{used-most, rules-count}
use Rattle.settings_file.specs.File.{file_rule, rules_body}
use Rattle.settings_io.proofs.Laws.{file-row}
use Rattle.settings_io.proofs.put_body.Goals as goal

pub loop-k-init : goal.loop-k-init
loop-k-init c = (wrote_none _ _ (omega arith), refl)

pub row-b-requires : goal.row-b-requires
row-b-requires c =
    let m = used-most c.args.settings.now in
    let n = c.used-n.ensures in
    omega arith

pub loop-k-preserved : goal.loop-k-preserved
loop-k-preserved c =
    let l = c.loop-k in
    let s = c.args.settings.now in
    let n = c.used-n.ensures in
    let e : c.text.result.now ≡ file_rule (get_or (settings_of s).rules l.k (rule_of [])) =
    c.text.ensures
    ∙ rw (c.size-e.ensures, c.byte.ensures, c.row-b.ensures) (file-row s c.requires l.k (omega arith)) in
    let w =
    wrote-turn file_rule (rule_of []) (settings_of s).rules l.k (omega (arith, rules-count s)) (omega arith) l.invariant.0
    (wrote e (told _ _ _ c.put_bytes-o.ensures)) in
    (w, wrote-length w)

pub returns : goal.returns
unfolding rules_body
returns c =
    let l = c.loop-k in
    let s = c.args.settings.now in
    let n = c.used-n.ensures in
    tells (wrote (joined-all file_rule (settings_of s).rules l.k (omega (arith, rules-count s))) l.invariant.0)
