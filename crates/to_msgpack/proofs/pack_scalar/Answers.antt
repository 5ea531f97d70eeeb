use Rattle.to_msgpack.proofs.Scalars.{first-quote, first-minus, first-digit, first-true, first-false, first-null, first-none, scalar-text, scalar-yes, scalar-no, scalar-null}
use Rattle.conversion.proofs.Conv.{converts-not, conv-made, conv-same, ahead-later}
use Rattle.values.specs.Write.{pack_scalar, pack_text}
use Rattle.values.specs.Value.Scalar.{Null, Flag, Text}
use Rattle.seq.proofs.Bytes.{byte-in}
use mathlib.Core.Bool.{true, false}
use native.Mathlib.Omega.{arith}
use lib.ListN.{length}
use Prim.Native.Nat.{◌+◌}
use Rattle.to_msgpack.proofs.pack_scalar.Goals as goal

pub overflow_add-at : goal.overflow_add-at
overflow_add-at c = let l = byte-in c.args.s.now c.args.at (omega (arith, c.byte-b.ensures, c.in-45.is)) in omega arith

pub pack_word-requires : goal.pack_word-requires
pack_word-requires c = let l = byte-in c.args.s.now c.args.at (omega (arith, c.byte-b.ensures, c.in-116.is)) in (omega arith, omega arith, omega arith)

pub pack_word-requires-in-102 : goal.pack_word-requires-in-102
pack_word-requires-in-102 c = let l = byte-in c.args.s.now c.args.at (omega (arith, c.byte-b.ensures, c.in-102.is)) in (omega arith, omega arith, omega arith)

pub pack_word-requires-in-110 : goal.pack_word-requires-in-110
pack_word-requires-in-110 c = let l = byte-in c.args.s.now c.args.at (omega (arith, c.byte-b.ensures, c.in-110.is)) in (omega arith, omega arith, omega arith)

pub returns-in-34 : goal.returns-in-34
returns-in-34 c = record {
  means = conv-same (first-quote _ _ _ c.byte-b.ensures c.in-34.is) (conv-made _ _ pack_text pack_scalar Text scalar-text _ _ _ c.pack_text.ensures.means);
  within = c.pack_text.ensures.within;
}

pub returns-in-45 : goal.returns-in-45
returns-in-45 c = record {
  means = conv-same (first-minus _ _ _ c.byte-b.ensures c.in-45.is) c.pack_below.ensures.means;
  within = ahead-later c.pack_below.result c.args.at (c.args.at + 1) (length c.args.s.now) (omega arith) c.pack_below.ensures.within;
}

pub returns-in-116 : goal.returns-in-116
returns-in-116 c = record {
  means = conv-same (first-true _ _ _ c.byte-b.ensures c.in-116.is) (c.pack_word.ensures.means (Flag true) scalar-yes);
  within = c.pack_word.ensures.within;
}

pub returns-in-102 : goal.returns-in-102
returns-in-102 c = record {
  means = conv-same (first-false _ _ _ c.byte-b.ensures c.in-102.is) (c.pack_word-in-102.ensures.means (Flag false) scalar-no);
  within = c.pack_word-in-102.ensures.within;
}

pub returns-in-110 : goal.returns-in-110
returns-in-110 c = record {
  means = conv-same (first-null _ _ _ c.byte-b.ensures c.in-110.is) (c.pack_word-in-110.ensures.means Null scalar-null);
  within = c.pack_word-in-110.ensures.within;
}

pub returns-in-48-to-57 : goal.returns-in-48-to-57
returns-in-48-to-57 c = record {
  means = conv-same (first-digit _ _ _ c.byte-b.ensures (omega arith) (omega arith)) c.pack_whole.ensures.means;
  within = c.pack_whole.ensures.within;
}

pub returns-in_default : goal.returns-in_default
returns-in_default c = record {
  means = converts-not _ _ pack_scalar _ _ (first-none _ _ _ c.byte-b.ensures (λ x. omega arith) (λ x. omega arith) (λ l m. omega arith) (λ x. omega arith) (λ x. omega arith) (λ x. omega arith));
  within = tt;
}

pub returns-in_default-2 : goal.returns-in_default-2
returns-in_default-2 c = record {
  means = converts-not _ _ pack_scalar _ _ (first-none _ _ _ c.byte-b.ensures (λ x. omega arith) (λ x. omega arith) (λ l m. omega arith) (λ x. omega arith) (λ x. omega arith) (λ x. omega arith));
  within = tt;
}
