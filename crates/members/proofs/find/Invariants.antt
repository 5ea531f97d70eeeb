use lib.ListN.{length}
use Rattle.json_text.proofs.Laws.{left}
use Rattle.members.specs.Members.{value_of, members_at}
use Rattle.members.proofs.Laws.{Look}
use Rattle.members.proofs.find.Given as goal

abbrev pub invariant-loop-m : goal.invariant-loop-m
invariant-loop-m l = Look (value_of l.t l.key) l.t l.m (value_of l.t l.key (members_at l.t l.at))

abbrev pub decreases-loop-m : goal.decreases-loop-m
decreases-loop-m l = left (length l.t) l.m
