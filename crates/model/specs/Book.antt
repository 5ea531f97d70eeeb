-- The book of demand 3 (PROTOCOL, "The book of demand 3"). It is fed each step with its refusal number and the messages sent, nothing
-- else, and says which replies to calls are owed and which calls are held. With the step it shares types, the constant 2^53 and `read`, whose
-- meaning words/specs/Meaning.antt says a second time, and no other decision: its searches, number tests and session ends are its own.
use Rattle.std.specs.Prelude.{◌+◌, ◌&&◌, ◌||◌, ◌∷◌}
use Rattle.model.specs.Words.{last_id, ℕ, zero, suc, Bool, true, false, not, cond, List, [], map, length, get_or, set, replicate, eqb, leb, ltb, chars, read, Format, Json, Event, Attach, Detach, Message, Incoming, Outgoing, Answer, Result, Failure, Mail}
use Rattle.incoming.specs.Incoming as In
use Rattle.outgoing.specs.Outgoing as Out
use Rattle.model.specs.Step.{Step}

-- A slot's open session: named by the number, counted from 1, of the step that began it, with its last numbers. Name 0: none.
abbrev pub Entrant : Type 0
Entrant = record { name : ℕ; request : ℕ; invocation : ℕ }

abbrev pub nobody : Entrant
nobody = record { name = 0; request = 0; invocation = 0 }

-- A place: a held call, by its sessions' names; request 0: empty.
abbrev pub Place : Type 0
Place = record { caller : ℕ; request : ℕ; callee : ℕ; invocation : ℕ }

abbrev pub no_place : Place
no_place = record { caller = 0; request = 0; callee = 0; invocation = 0 }

-- how many steps there were, each slot's format and session, and 32 places
abbrev pub Book : Type 0
Book = record { now : ℕ; formats : List Format; entrants : List Entrant; places : List Place }

unfoldable pub empty_book : Book
empty_book = record { now = 0; formats = replicate 8 Json; entrants = replicate 8 nobody; places = replicate 32 no_place }

-- A reply owed to a session's call, or sent: the answer, and the format that it is in.
abbrev pub Due : Type 0
Due = record { session : ℕ; request : ℕ; format : Format; answer : Answer }

abbrev pub due : ℕ → ℕ → Format → Answer → Due
due e n f a = record { session = e; request = n; format = f; answer = a }

abbrev pub Entry : Type 0
Entry = record { book : Book; owed : List Due }

abbrev pub owing : Book → List Due → Entry
owing b ds = record { book = b; owed = ds }

-- ---- sessions and places
unfoldable pub entrant : Book → ℕ → Entrant
entrant b i = get_or b.entrants i nobody

-- the name of the session in a slot
abbrev pub names : List Entrant → ℕ → ℕ
names es i = (get_or es i nobody).name

unfoldable pub present : Book → ℕ → Bool
present b i = ltb 0 (entrant b i).name

-- the format of a slot, which it is attached for
unfoldable pub format_in : Book → ℕ → Format
format_in b i = get_or b.formats i Json

unfoldable pub with_format : Book → ℕ → Format → Book
with_format b i f = record { now = b.now; formats = set b.formats i f; entrants = b.entrants; places = b.places }

unfoldable pub with_entrant : Book → ℕ → Entrant → Book
with_entrant b i e = record { now = b.now; formats = b.formats; entrants = set b.entrants i e; places = b.places }

unfoldable pub with_place : Book → ℕ → Place → Book
with_place b k p = record { now = b.now; formats = b.formats; entrants = b.entrants; places = set b.places k p }

unfoldable pub vacant : Place → Bool
vacant p = eqb p.request 0

-- the lowest empty place, or how many there are
unfoldable pub lowest : List Place → ℕ
lowest [] = 0
lowest (p ∷ ps) = cond (vacant p) 0 (suc (lowest ps))

-- the call that callee e was sent under invocation number v
unfoldable pub awaits : ℕ → ℕ → Place → Bool
awaits e v p = not (vacant p) && (eqb p.callee e && eqb p.invocation v)

unfoldable pub lookup : ℕ → ℕ → List Place → ℕ
lookup e v [] = 0
lookup e v (p ∷ ps) = cond (awaits e v p) 0 (suc (lookup e v ps))

-- a place that names session e
unfoldable pub involves : ℕ → Place → Bool
involves e p = not (vacant p) && (eqb p.caller e || eqb p.callee e)

unfoldable pub without : ℕ → Place → Place
without e p = cond (involves e p) no_place p

-- a call that e served for another session
unfoldable pub served_for : ℕ → Place → Bool
served_for e p = not (vacant p) && (eqb p.callee e && not (eqb p.caller e))

-- ---- the messages sent, as the book looks at them
pub data Chosen : Type 0 where
  none : Chosen
  chosen : (receiver invocation : ℕ) → Chosen

-- what a message sent is to the book: WELCOME, INVOCATION, a reply to a call, or another
pub data Seen : Type 0 where
  Opens Else : Seen
  Invokes : (invocation : ℕ) → Seen
  Replies : (request : ℕ) (answer : Answer) → Seen

unfoldable pub seen : Outgoing → Seen
seen (Out.Welcome session) = Opens
seen (Out.Abort reason) = Else
seen (Out.Goodbye reason) = Else
seen (Out.Error type request uri) = Else
seen (Out.Reply request answer) = Replies request answer
seen (Out.Published request publication) = Else
seen (Out.Subscribed request subscription) = Else
seen (Out.Unsubscribed request) = Else
seen (Out.Event subscription publication details payload) = Else
seen (Out.Registered request registration) = Else
seen (Out.Unregistered request) = Else
seen (Out.Invocation invocation registration details payload) = Invokes invocation

abbrev pub opens : Seen → Bool → Bool
opens s rest = elim s [ Opens ↦ true | Invokes v ↦ rest | Replies n a ↦ rest | Else ↦ rest ]

unfoldable pub welcomed : List Mail → Bool
welcomed [] = false
welcomed (m ∷ ms) = opens (seen m.message) (welcomed ms)

abbrev pub invokes : ℕ → Seen → Chosen → Chosen
invokes i s rest = elim s [ Opens ↦ rest | Invokes v ↦ chosen i v | Replies n a ↦ rest | Else ↦ rest ]

-- the first INVOCATION sent: its receiver and its number
unfoldable pub invocation_in : List Mail → Chosen
invocation_in [] = none
invocation_in (m ∷ ms) = invokes m.to (seen m.message) (invocation_in ms)

abbrev pub replies_to : ℕ → Format → Seen → List Due → List Due
replies_to e f s rest = elim s [ Opens ↦ rest | Invokes v ↦ rest | Replies n a ↦ due e n f a ∷ rest | Else ↦ rest ]

-- the results and call errors sent, each named by the session in its receiver's slot, and in that slot's format
unfoldable pub replies : (ℕ → ℕ) → (ℕ → Format) → List Mail → List Due
replies name format [] = []
replies name format (m ∷ ms) = replies_to (name m.to) (format m.to) (seen m.message) (replies name format ms)

abbrev pub replies_in : Book → List Mail → List Due
replies_in b ms = replies (names b.entrants) (format_in b) ms

-- the call error that was sent, whatever error URI it carries
unfoldable pub error_sent : List Due → Answer
error_sent [] = Failure [] []
error_sent (d ∷ ds) = elim d.answer [ Result payload ↦ Failure [] [] | Failure uri payload ↦ Failure uri payload ]

-- ---- entries
unfoldable pub nothing : Book → Entry
nothing b = owing b []

-- a session's end: by place, each call it served for another session is owed canceled, which has no payload; places naming it empty
unfoldable pub cancels_owed : Format → ℕ → List Place → List Due
cancels_owed f e [] = []
cancels_owed f e (p ∷ ps) =
    cond (served_for e p) (due p.caller p.request f (Failure (chars "wamp.error.canceled") []) ∷ cancels_owed f e ps)
    (cancels_owed f e ps)

unfoldable pub over : Book → ℕ → Entry
over b i =
    owing
    (record {
      now = b.now;
      formats = b.formats;
      entrants = set b.entrants i nobody;
      places = map (without (entrant b i).name) b.places;
    })
    (cancels_owed (format_in b i) (entrant b i).name b.places)

-- a request's number becomes its session's last
unfoldable pub asked : Book → ℕ → ℕ → Book
asked b i n = with_entrant b i (record { name = (entrant b i).name; request = n; invocation = (entrant b i).invocation })

-- the number sent becomes that callee's last
unfoldable pub invoked : Book → ℕ → ℕ → Book
invoked b c v = with_entrant b c (record { name = (entrant b c).name; request = (entrant b c).request; invocation = v })

-- a CALL that sent an INVOCATION takes the lowest empty place; any other is owed one call error
unfoldable pub called : Book → ℕ → ℕ → List Mail → Chosen → Entry
called b i n ms none = owing b (due (entrant b i).name n (format_in b i) (error_sent (replies_in b ms)) ∷ [])
called b i n ms (chosen c v) =
    nothing
    (with_place (invoked b c v) (lowest b.places)
    (record { caller = (entrant b i).name; request = n; callee = (entrant b c).name; invocation = v }))

-- YIELD or ERROR: the place with that callee and number, if any, empties, and its call is owed the answer, which came in format f
unfoldable pub settled : Book → ℕ → Format → Answer → Entry
settled b k f a =
    owing (with_place b k no_place) (due (get_or b.places k no_place).caller (get_or b.places k no_place).request f a ∷ [])

unfoldable pub answers : Book → ℕ → ℕ → Answer → Entry
answers b i v a =
    cond (ltb (lookup (entrant b i).name v b.places) (length b.places))
    (settled b (lookup (entrant b i).name v b.places) (format_in b i) a)
    (nothing b)

-- a request's number is its session's last plus 1, at most 2^53
unfoldable pub in_order : ℕ → ℕ → Bool
in_order last n = eqb n (last + 1) && leb n last_id

-- what a message on an open session is to the book: a session's end, a CALL, another request, an answer
pub data View : Type 0 where
  Ends : View
  Calls Asks : (request : ℕ) → View
  Answers : (invocation : ℕ) (answer : Answer) → View

unfoldable pub view : Incoming → View
view (In.Hello realm) = Ends
view In.Abort = Ends
view In.Goodbye = Ends
view (In.Error v uri payload) = Answers v (Failure uri payload)
view (In.Publish n acknowledge audience topic payload) = Asks n
view (In.Subscribe n policy topic) = Asks n
view (In.Unsubscribe n id) = Asks n
view (In.Call n procedure payload) = Calls n
view (In.Register n policy procedure) = Asks n
view (In.Unregister n id) = Asks n
view (In.Yield v payload) = Answers v (Result payload)
view In.Violation = Ends

-- a done message on an open session; a violation, judged by what the book keeps, only ends the session
unfoldable pub heard : Book → ℕ → View → List Mail → Entry
heard b i Ends ms = over b i
heard b i (Asks n) ms = cond (in_order (entrant b i).request n) (nothing (asked b i n)) (over b i)
heard b i (Calls n) ms = cond (in_order (entrant b i).request n) (called (asked b i n) i n ms (invocation_in ms)) (over b i)
heard b i (Answers v a) ms = cond (leb v (entrant b i).invocation) (answers b i v a) (over b i)

-- a done message where no session is open: WELCOME sent, and one opens
unfoldable pub unheard : Book → ℕ → List Mail → Entry
unheard b i ms = cond (welcomed ms) (nothing (with_entrant b i (record { name = b.now; request = 0; invocation = 0 }))) (nothing b)

unfoldable pub on_done : Book → ℕ → Event → List ℕ → List Mail → Entry
on_done b i (Attach f) bytes ms = nothing (with_format b i f)
on_done b i Detach bytes ms = cond (present b i) (over b i) (nothing b)
on_done b i (Message number) bytes ms = cond (present b i) (heard b i (view (read (format_in b i) bytes)) ms) (unheard b i ms)

-- the number of this step
unfoldable pub tick : Book → Book
tick b = record { now = suc b.now; formats = b.formats; entrants = b.entrants; places = b.places }

-- a step, its refusal number and the messages sent; refused steps change nothing
unfoldable pub enter : Book → Step → ℕ → List Mail → Entry
enter b x zero ms = on_done (tick b) x.slot x.event x.bytes ms
enter b x (suc e) ms = nothing (tick b)
