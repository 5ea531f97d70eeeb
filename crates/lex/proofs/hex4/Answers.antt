use Rattle.lex.specs.Lex.{is_hex}
use mathlib.Core.Path.{refl, sym, ap, ◌∙◌}
use Prim.Native.Nat.{◌+◌}
use native.Mathlib.Omega.{arith}
use Rattle.seq.proofs.Bytes.{test_in}
use Rattle.lex.proofs.Laws.{hex4-no0, hex4-no1, hex4-no2, hex4-no3, hex4-is}
use Rattle.lex.proofs.hex4.Goals as goal

pub returns-then-not-is_hex : goal.returns-then-not-is_hex
returns-then-not-is_hex c =
    let args = c.args in record {
      means = sym (hex4-no0 args.s.now args.at
          (sym (c.is_hex.ensures ∙ ap is_hex c.byte.ensures) ∙ c.if-not-is_hex.true));
      within = tt;
    }

pub overflow_add-at : goal.overflow_add-at
overflow_add-at c =
    let args = c.args in
    let h = test_in is_hex args.s.now args.at refl
    (sym (c.is_hex.ensures ∙ ap is_hex c.byte.ensures) ∙ c.if-not-is_hex.false) in
    omega arith

pub returns-then-not-is_hex-2 : goal.returns-then-not-is_hex-2
returns-then-not-is_hex-2 c =
    let is-hex = c.is_hex in
    let byte = c.byte in
    let args = c.args in record {
      means = sym (hex4-no1 args.s.now args.at
          (sym (is-hex.ensures ∙ ap is_hex byte.ensures) ∙ c.if-not-is_hex.false)
          (sym (c.is_hex-2.ensures ∙ ap is_hex c.byte-2.ensures) ∙ c.if-not-is_hex-2.true));
      within = tt;
    }

pub overflow_add-at-2 : goal.overflow_add-at-2
overflow_add-at-2 c =
    let args = c.args in
    let h = test_in is_hex args.s.now (args.at + 1) refl
    (sym (c.is_hex-2.ensures ∙ ap is_hex c.byte-2.ensures) ∙ c.if-not-is_hex-2.false) in
    omega arith

pub returns-then-not-is_hex-3 : goal.returns-then-not-is_hex-3
returns-then-not-is_hex-3 c =
    let c8 = c in
    let is-hex2 = c.is_hex-2 in
    let byte2 = c.byte-2 in
    let if1 = c.if-not-is_hex in
    let is-hex = c.is_hex in
    let byte = c8.byte in
    let args = c8.args in record {
      means = sym (hex4-no2 args.s.now args.at (sym (is-hex.ensures ∙ ap is_hex byte.ensures) ∙ if1.false)
          (sym (is-hex2.ensures ∙ ap is_hex byte2.ensures) ∙ c.if-not-is_hex-2.false)
          (sym (c.is_hex-3.ensures ∙ ap is_hex c.byte-3.ensures) ∙ c.if-not-is_hex-3.true));
      within = tt;
    }

pub overflow_add-at-3 : goal.overflow_add-at-3
overflow_add-at-3 c =
    let c8 = c in
    let args = c8.args in
    let h = test_in is_hex args.s.now (args.at + 2) refl
    (sym (c.is_hex-3.ensures ∙ ap is_hex c.byte-3.ensures) ∙ c.if-not-is_hex-3.false) in
    omega arith

pub returns-then-not-is_hex-4 : goal.returns-then-not-is_hex-4
returns-then-not-is_hex-4 c =
    let c8 = c in
    let is-hex3 = c.is_hex-3 in
    let byte3 = c.byte-3 in
    let if2 = c.if-not-is_hex-2 in
    let is-hex2 = c.is_hex-2 in
    let byte2 = c8.byte-2 in
    let if1 = c8.if-not-is_hex in
    let is-hex = c8.is_hex in
    let byte = c8.byte in
    let args = c8.args in record {
      means = sym (hex4-no3 args.s.now args.at (sym (is-hex.ensures ∙ ap is_hex byte.ensures) ∙ if1.false)
          (sym (is-hex2.ensures ∙ ap is_hex byte2.ensures) ∙ if2.false)
          (sym (is-hex3.ensures ∙ ap is_hex byte3.ensures) ∙ c.if-not-is_hex-3.false)
          (sym (c.is_hex-4.ensures ∙ ap is_hex c.byte-4.ensures) ∙ c.if-not-is_hex-4.true));
      within = tt;
    }

pub overflow_add-result : goal.overflow_add-result
overflow_add-result c =
    let c8 = c in
    let args = c8.args in
    let h = test_in is_hex args.s.now (args.at + 3) refl
    (sym (c.is_hex-4.ensures ∙ ap is_hex c.byte-4.ensures) ∙ c.if-not-is_hex-4.false) in
    omega arith

pub returns : goal.returns
returns c =
    let c8 = c in
    let is-hex4 = c.is_hex-4 in
    let byte4 = c.byte-4 in
    let is-hex3 = c.is_hex-3 in
    let byte3 = c.byte-3 in
    let if2 = c.if-not-is_hex-2 in
    let is-hex2 = c.is_hex-2 in
    let byte2 = c8.byte-2 in
    let if1 = c8.if-not-is_hex in
    let is-hex = c8.is_hex in
    let byte = c8.byte in
    let args = c8.args in
    let s = args.s.now in
    let h = test_in is_hex s (args.at + 3) refl (sym (is-hex4.ensures ∙ ap is_hex byte4.ensures) ∙ c.if-not-is_hex-4.false) in record {
      means = sym (hex4-is s args.at (sym (is-hex.ensures ∙ ap is_hex byte.ensures) ∙ if1.false)
          (sym (is-hex2.ensures ∙ ap is_hex byte2.ensures) ∙ if2.false)
          (sym (is-hex3.ensures ∙ ap is_hex byte3.ensures) ∙ c.if-not-is_hex-3.false)
          (sym (is-hex4.ensures ∙ ap is_hex byte4.ensures) ∙ c.if-not-is_hex-4.false));
      within = omega arith;
    }
