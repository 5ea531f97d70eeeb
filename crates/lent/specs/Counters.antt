-- A session's counters, wherever its row lies.
use Rattle.std.specs.Prelude.{ℕ, suc, cond, List, ltb, get_or, set}
use Rattle.model.specs.declared.Session.{Session}
use Rattle.seq.specs.Numbers.{last_id}
use Rattle.model.specs.State.{no_session}
use Rattle.lent.specs.declared.Counter.{Counter}
use Rattle.lent.specs.declared.Counter.TheVariants.{Request, Invocation}

-- after a request of this number
unfoldable pub at_request : Session → ℕ → Session
at_request s n = record { status = s.status; id = s.id; request = n; invocation = s.invocation }

-- after one invocation more; nothing changes where the numbers are used up
unfoldable pub at_invocation : Session → Session
at_invocation s =
    cond (ltb s.invocation last_id)
    (record { status = s.status; id = s.id; request = s.request; invocation = suc s.invocation })
    s

-- after the counter advances
abbrev pub advanced : Session → Counter → Session
advanced s (Request n) = at_request s n
advanced s Invocation = at_invocation s

-- the sessions after the counter of slot i's session advances
unfoldable pub advanced_at : List Session → ℕ → Counter → List Session
advanced_at xs i counter = set xs i (advanced (get_or xs i no_session) counter)
