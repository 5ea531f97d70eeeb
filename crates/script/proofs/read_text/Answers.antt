use mathlib.Core.Path.{sym, ◌∙◌}
use Rattle.script.proofs.Laws.{text-blank, text-comment, text-step}
use Rattle.script.proofs.read_text.Goals as goal

pub returns-then-w-s : goal.returns-then-w-s
returns-then-w-s c =
    let word = c.word-w in
    sym (text-blank c.args.s.now word.result word.ensures c.if-w-s.true)

pub returns-then-byte-eq35 : goal.returns-then-byte-eq35
returns-then-byte-eq35 c =
    let word = c.word-w in
    sym (text-comment c.args.s.now word.result word.ensures c.if-w-s.false _ c.byte.ensures c.if-byte-eq35.true)

pub returns : goal.returns
returns c =
    let word = c.word-w in
    c.step.ensures
    ∙ sym (text-step c.args.s.now word.result word.ensures c.if-w-s.false _ c.byte.ensures c.if-byte-eq35.false)
