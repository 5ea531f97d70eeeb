use Rattle.msgpack.proofs.Heads.{Fine, fine_of, head-cut, head-signed, head_plain, placed-none, placed-plain, placed-signed}
use Rattle.msgpack.specs.Head.{form_of, Placed}
use Rattle.seq.specs.Bytes.{byte_at}
use lib.ListN.{length}
use native.Mathlib.Omega.{arith}
use mathlib.Core.Path.{◌≡◌, refl, sym, ap, subst, ◌∙◌}
use Prim.Native.Nat.{◌+◌, ◌≤◌}
use Rattle.msgpack.proofs.head_at.Goals as goal

pub returns-then-s-at : goal.returns-then-s-at
returns-then-s-at c =
    let an = c.announced-f in
    let by = c.byte in
    let a = c.args in
    let s = a.s.now in
    let f = an.result in
    let ef : f ≡ form_of (byte_at s a.at) = an.ensures.means ∙ ap form_of by.ensures in
    let fine : Fine f = subst Fine (sym ef) (fine_of (byte_at s a.at)) in record {
      means = head-cut s a.at f ef (omega arith);
      placed = placed-none a.at (length s);
    }

pub returns-then-s-at-2 : goal.returns-then-s-at-2
returns-then-s-at-2 c =
    let an = c.announced-f in
    let by = c.byte in
    let a = c.args in
    let s = a.s.now in
    let f = an.result in
    let ef : f ≡ form_of (byte_at s a.at) = an.ensures.means ∙ ap form_of by.ensures in
    let fine : Fine f = subst Fine (sym ef) (fine_of (byte_at s a.at)) in record {
      means = head-cut s a.at f ef (omega (arith, c.if-s-at-2.true));
      placed = placed-none a.at (length s);
    }

pub number-u-requires : goal.number-u-requires
number-u-requires c =
    let an = c.announced-f in
    let by = c.byte in
    let a = c.args in
    let s = a.s.now in
    let f = an.result in
    let ef : f ≡ form_of (byte_at s a.at) = an.ensures.means ∙ ap form_of by.ensures in
    let fine : Fine f = subst Fine (sym ef) (fine_of (byte_at s a.at)) in
    let w = fine.wide in (omega arith, omega arith)

pub signed-requires : goal.signed-requires
signed-requires c =
    let an = c.announced-f in
    let by = c.byte in
    let a = c.args in
    let s = a.s.now in
    let f = an.result in
    let ef : f ≡ form_of (byte_at s a.at) = an.ensures.means ∙ ap form_of by.ensures in
    let fine : Fine f = subst Fine (sym ef) (fine_of (byte_at s a.at)) in
    let e = fine.sign c.if-kind-eq-SIGNED.true in omega (arith, c.number-u.ensures.small)

pub returns-then-kind-eq-SIGNED : goal.returns-then-kind-eq-SIGNED
returns-then-kind-eq-SIGNED c =
    let an = c.announced-f in
    let by = c.byte in
    let a = c.args in
    let s = a.s.now in
    let f = an.result in
    let ef : f ≡ form_of (byte_at s a.at) = an.ensures.means ∙ ap form_of by.ensures in
    let fine : Fine f = subst Fine (sym ef) (fine_of (byte_at s a.at)) in
    let nu = c.number-u in
    let l : a.at + 1 + f.width ≤ length s = omega arith in
    let m = head-signed s a.at f ef nu.result (a.at + 1 + f.width) l nu.ensures.means refl c.if-kind-eq-SIGNED.true in record {
      means = c.signed.ensures ∙ m;
      placed = subst (Placed a.at (length s)) (sym c.signed.ensures)
          (placed-signed a.at (length s) f.width nu.result (a.at + 1 + f.width) (omega arith) l);
    }

pub overflow_add-result : goal.overflow_add-result
overflow_add-result c =
    let an = c.announced-f in
    let by = c.byte in
    let a = c.args in
    let s = a.s.now in
    let f = an.result in
    let ef : f ≡ form_of (byte_at s a.at) = an.ensures.means ∙ ap form_of by.ensures in
    let fine : Fine f = subst Fine (sym ef) (fine_of (byte_at s a.at)) in
    let e = fine.fits in omega (arith, c.number-u.ensures.small)

pub returns : goal.returns
returns c =
    let an = c.announced-f in
    let by = c.byte in
    let a = c.args in
    let s = a.s.now in
    let f = an.result in
    let ef : f ≡ form_of (byte_at s a.at) = an.ensures.means ∙ ap form_of by.ensures in
    let fine : Fine f = subst Fine (sym ef) (fine_of (byte_at s a.at)) in
    let nu = c.number-u in
    let l : a.at + 1 + f.width ≤ length s = omega arith in record {
      means = head_plain s a.at f ef nu.result (a.at + 1 + f.width) l nu.ensures.means refl c.if-kind-eq-SIGNED.false;
      placed = placed-plain a.at (length s) f.kind (f.base + nu.result) (a.at + 1 + f.width) (omega arith) l
          (λ k. let w = fine.low k in omega (arith, nu.ensures.small));
    }
