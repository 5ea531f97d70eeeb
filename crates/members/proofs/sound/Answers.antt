use mathlib.Core.Path.{sym, ◌∙◌}
use Rattle.members.specs.Members.{members_at}
use Rattle.members.proofs.Laws.{sound-plain}
use Rattle.members.proofs.sound.Goals as goal

pub returns-then-is_plain : goal.returns-then-is_plain
returns-then-is_plain c =
    let args = c.args in
    sym (sound-plain args.t.now (sym c.is_plain.ensures ∙ c.if-is_plain.true) (members_at args.t.now args.at))
