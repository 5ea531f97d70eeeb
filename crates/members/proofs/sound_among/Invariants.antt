use lib.ListN.{length}
use Rattle.json_text.proofs.Laws.{left}
use Rattle.members.specs.Members.{sound_keys, members_at}
use Rattle.members.proofs.Laws.{Look}
use Rattle.members.proofs.sound_among.Given as goal

abbrev pub invariant-loop-m : goal.invariant-loop-m
invariant-loop-m l = Look (sound_keys l.t) l.t l.m (sound_keys l.t (members_at l.t l.at))

abbrev pub decreases-loop-m : goal.decreases-loop-m
decreases-loop-m l = left (length l.t) l.m
