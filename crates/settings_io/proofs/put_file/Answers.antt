use Prim.Native.Nat.{◌+◌, ◌≤◌}
use mathlib.Core.List.{◌++◌, append-nil}
use mathlib.Core.Path.{◌≡◌, refl, sym, ap, ◌∙◌}
use native.Mathlib.Omega.{arith}
use lib.ListN.{length}
use Rattle.seq.specs.Bytes.{part}
use Rattle.seq.proofs.BigEndian.{Bytes}
use Rattle.buffer.specs.Capped.{largest}
use Rattle.buffer.proofs.Wrote.{told, wrote, wrote-both, wrote_then, wrote-length}
use Rattle.settings.specs.Lent.{settings_of}
use Rattle.settings_file.specs.File.{realm_body, rules_body}
use Rattle.settings_io.specs.Written.{page_bytes, wait_body}
use Rattle.settings_io.proofs.Laws.{exact, measured, at-start, page-length, file-parts, file-length, realm-size, realm-lies, realm-length, rules-length, wait-lies}
use Rattle.settings_io.proofs.put_file.Goals as goal

pub put_page-o-requires : goal.put_page-o-requires
put_page-o-requires c =
    let s = c.args.settings.now in
    let h = c.requires in
    let n : c.put_body-rules.result ≡ length (rules_body (settings_of s)) =
    measured (rules_body (settings_of s)) (omega (arith, rules-length s h)) c.put_body-rules.ensures.place in
    rw (c.realm.ensures, n) (realm-length s h, rules-length s h)

pub returns-in-First : goal.returns-in-First
unfolding wait_body
returns-in-First c =
    let args = c.args in
    let s = args.settings.now in
    let h = c.requires in
    let x = settings_of s in
    let v = args.version in
    let r : 1 + length c.realm.result.now ≡ length (realm_body x) = ap (λ l. 1 + length l) c.realm.ensures ∙ realm-size x in
    let n : c.put_body-rules.result ≡ length (rules_body x) = measured (rules_body x) (omega (arith, rules-length s h)) c.put_body-rules.ensures.place in
    let t : c.text.result.now ≡ realm_body x = c.text.ensures ∙ rw r (ap (λ k. part 0 k s) (sym (realm-size x)) ∙ realm-lies s h) in
    let bytes = page_bytes v (length (realm_body x)) (length (rules_body x)) in
    let page = at-start _ bytes (omega (arith, page-length v (length (realm_body x)) (length (rules_body x)))) (rw (r, n) at c.put_page-o.ensures) in
    let realm = wrote t (told _ _ _ c.put_bytes-p.ensures) in
    let rules = told _ _ _ c.put_body-q.ensures in
    let rest : rules_body x ≡ rules_body x ++ wait_body v x = rw c.in-First.is (sym (append-nil (rules_body x))) in
    exact (omega (arith, file-length s h v))
    (wrote-both (file-parts v x) (omega arith) page (wrote_then (omega arith) realm (wrote rest rules)))

pub returns-in-Second : goal.returns-in-Second
unfolding wait_body
returns-in-Second c =
    let args = c.args in
    let s = args.settings.now in
    let h = c.requires in
    let x = settings_of s in
    let v = args.version in
    let r : 1 + length c.realm.result.now ≡ length (realm_body x) = ap (λ l. 1 + length l) c.realm.ensures ∙ realm-size x in
    let n : c.put_body-rules.result ≡ length (rules_body x) = measured (rules_body x) (omega (arith, rules-length s h)) c.put_body-rules.ensures.place in
    let t : c.text.result.now ≡ realm_body x = c.text.ensures ∙ rw r (ap (λ k. part 0 k s) (sym (realm-size x)) ∙ realm-lies s h) in
    let bytes = page_bytes v (length (realm_body x)) (length (rules_body x)) in
    let page = at-start _ bytes (omega (arith, page-length v (length (realm_body x)) (length (rules_body x)))) (rw (r, n) at c.put_page-o.ensures) in
    let realm = wrote t (told _ _ _ c.put_bytes-p.ensures) in
    let rules = told _ _ _ c.put_body-q.ensures in
    let f : Bytes s = λ k. omega (arith, c.shared_slice_known-1.given k) in
    let w : c.from.result.now ≡ wait_body v x = c.from.ensures ∙ wait-lies s h f ∙ rw c.in-Second.is refl in
    let room : length args.out.now ≤ largest = omega (arith, c.well_formed) in
    let wait = wrote w (told _ _ _ c.put_bytes.ensures) in
    exact (omega (arith, file-length s h v))
    (wrote-both (file-parts v x) room page
    (wrote_then (omega (arith, room, wrote-length page)) realm
    (wrote_then (omega (arith, room, wrote-length page, wrote-length realm)) rules wait)))
