use mathlib.Core.Path.{◌≡◌, refl, ap, ◌∙◌}
use mathlib.Core.Logic.{inl}
use native.Mathlib.Omega.{arith}
use lib.ListN.{length}
use Rattle.strings.specs.Strings.{escape}
use Rattle.strings.proofs.Places.{part-rest, within-below, within_more, spelled-more, spelled-last}
use borrow.Author.Rules.{rules}
use Rattle.strings.proofs.spelled.Goals as goal

pub bounds-bytes-k : goal.bounds-bytes-k
bounds-bytes-k c =
    let args = c.args in
    let encode = c.encode-c in
    let l : length encode.result.bytes ≡ 4 = search rules in
    let e = c.escape-e.ensures.means ∙ ap escape (c.text.ensures ∙ part-rest args.t.now args.at) in
    let h = within-below args.t.now args.at c.requires.0 c.requires.1 _ e encode.result.bytes _ encode.ensures.means (omega arith)
    args.k encode.ensures.small.0 c.requires.2 in
    omega arith

pub overflow_add-k : goal.overflow_add-k
overflow_add-k c =
    let args = c.args in
    let encode = c.encode-c in
    let l : length encode.result.bytes ≡ 4 = search rules in
    let e = c.escape-e.ensures.means ∙ ap escape (c.text.ensures ∙ part-rest args.t.now args.at) in
    let h = within-below args.t.now args.at c.requires.0 c.requires.1 _ e encode.result.bytes _ encode.ensures.means (omega arith)
    args.k encode.ensures.small.0 c.requires.2 in
    omega arith

pub returns-then-k-c : goal.returns-then-k-c
returns-then-k-c c =
    let args = c.args in
    let encode = c.encode-c in
    let bytes = encode.result.bytes in
    let l : length bytes ≡ 4 = search rules in
    let e = c.escape-e.ensures.means ∙ ap escape (c.text.ensures ∙ part-rest args.t.now args.at) in
    let b = within-below args.t.now args.at c.requires.0 c.requires.1 _ e bytes _ encode.ensures.means (omega arith)
    args.k encode.ensures.small.0 c.requires.2 in record {
      means = spelled-more args.t.now args.at c.requires.0 c.requires.1 _ e bytes _ encode.ensures.means (omega arith) args.k b;
      place = (
        omega arith,
        within_more args.t.now args.at c.requires.0 c.requires.1 _ e bytes _ encode.ensures.means (omega arith) args.k b c.if-k-c.true,
      );
    }

pub returns : goal.returns
returns c =
    let args = c.args in
    let encode = c.encode-c in
    let bytes = encode.result.bytes in
    let l : length bytes ≡ 4 = search rules in
    let e = c.escape-e.ensures.means ∙ ap escape (c.text.ensures ∙ part-rest args.t.now args.at) in
    let b = within-below args.t.now args.at c.requires.0 c.requires.1 _ e bytes _ encode.ensures.means (omega arith)
    args.k encode.ensures.small.0 c.requires.2 in record {
      means = spelled-last args.t.now args.at c.requires.0 c.requires.1 _ e bytes _ encode.ensures.means (omega arith) args.k b
          c.if-k-c.false _ c.onward.ensures;
      place = (omega arith, inl refl);
    }
