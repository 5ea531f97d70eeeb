use Rattle.to_msgpack.proofs.Integers.{whole-none, whole-goes-on, whole-over, whole_is, integer-digits}
use Rattle.to_msgpack.specs.Integers.{goes_on, bounded}
use Rattle.elements.specs.Kinds.{decimal as natural}
use mathlib.Core.Path.{sym, ap, ◌∙◌}
use mathlib.Core.List.{List}
use Prim.Native.Nat.{ℕ}
use lib.ListN.{length}
use Rattle.seq.specs.Lists.{every}
use Rattle.seq.specs.Bytes.{is_digit}
use Rattle.lex.proofs.Laws.{within-to}
use Rattle.to_msgpack.proofs.whole_at.Goals as goal

pub returns-in_err-end : goal.returns-in_err-end
returns-in_err-end c = rw c.from_residual.ensures (record {
  means = whole-none _ _ (sym c.integer.ensures.means ∙ c.in_err-end.was);
  within = tt;
})

pub returns-then-goes_on : goal.returns-then-goes_on
returns-then-goes_on c = record {
  means = whole-goes-on _ _ _ (sym c.integer.ensures.means ∙ c.in_ok-end.was) (ap goes_on (sym c.byte.ensures) ∙ sym c.goes_on.ensures ∙ c.if-goes_on.true);
  within = tt;
}

pub number-requires : goal.number-requires
number-requires c = ap (λ (l : List ℕ). every is_digit l) c.text.ensures ∙ integer-digits _ _ _ (sym c.integer.ensures.means ∙ c.in_ok-end.was)

pub returns-in_err-value : goal.returns-in_err-value
returns-in_err-value c = rw c.from_residual-in_err-value.ensures (record {
  means = whole-over _ _ _ (sym c.integer.ensures.means ∙ c.in_ok-end.was) (ap goes_on (sym c.byte.ensures) ∙ sym c.goes_on.ensures ∙ c.if-goes_on.false) _ (c.number.ensures ∙ ap (λ (l : List ℕ). bounded (natural 0 l)) c.text.ensures) c.in_err-value.was;
  within = tt;
})

pub returns : goal.returns
returns c = record {
  means = whole_is _ _ _ (sym c.integer.ensures.means ∙ c.in_ok-end.was) (ap goes_on (sym c.byte.ensures) ∙ sym c.goes_on.ensures ∙ c.if-goes_on.false) _ (c.number.ensures ∙ ap (λ (l : List ℕ). bounded (natural 0 l)) c.text.ensures) _ c.in_ok-value.was;
  within = within-to c.args.at (length c.args.s.now) c.in_ok-end.was c.integer.ensures.within;
}
