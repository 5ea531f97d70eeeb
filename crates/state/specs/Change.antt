-- What a step sends of the state, and in which format, as the code's arrays.
use Rattle.std.specs.Prelude.{ℕ, Bool, true, false, cond, ◌&&◌, List, [], ◌∷◌, get_or}
use Rattle.seq.specs.declared.Format.TheVariants.{Json, MsgPack}
use Rattle.pattern.specs.declared.Row.{Row}
use Rattle.outgoing.specs.Layout.{Formats}
use Rattle.model.specs.declared.Session.{Session}
use Rattle.model.specs.declared.HeldCall.{HeldCall}
use Rattle.model.specs.State.{no_session, format_of, serves_other}
use Rattle.state.specs.declared.Canceled.{Canceled}

-- the caller and request number of a held call that slot i serves for another; request 0 where it is none
unfoldable pub canceled_of : ℕ → HeldCall → Canceled
canceled_of i c = cond (serves_other i c) (record { slot = c.caller; request = c.request }) (record { slot = 0; request = 0 })

-- one of a set of slots
abbrev pub in_set : List Bool → ℕ → Bool
in_set to j = get_or to j false

-- the holders of a row that are in a set of slots
unfoldable pub both : List Bool → List Bool → List Bool
both [] to = []
both (b ∷ bs) [] = false ∷ both bs []
both (b ∷ bs) (t ∷ ts) = (b && t) ∷ both bs ts

abbrev pub receivers : List Bool → Row → List Bool
receivers to r = both r.holders to

-- the formats that slots speak, by their sessions
abbrev pub formats_in : List Session → Formats
formats_in sessions slot = format_of (get_or sessions slot no_session).status

-- the slot of a session speaks MessagePack
abbrev pub is_packed : Session → Bool
is_packed s = elim (format_of s.status) [ Json ↦ false | MsgPack ↦ true ]
