-- What the words mean: each definition that the demands (model/specs/Demands.antt) are written in is said here a second time, of all inputs,
-- in the words of RFC 3629, RFC 8259 and PROTOCOL. On the left of `↔` stands the definition that the code is proved equal to; what stands on
-- the right is put together without it. Each is proved in the crate of its definition, what values mean in meanings, and what `Output` says of steps
-- in room and sendable; proofs/Meaning.antt cites these proofs.
use Rattle.std.specs.Prelude.{ℕ, ◌+◌, ◌-◌, ◌*◌, ◌^◌, ◌≤◌, ◌<◌, true, false, List, [], ◌∷◌, ◌++◌, map, ◌⊎◌, ◌↔◌, ◌≡◌, length, take, drop, Some}
use Prim.Native.Char.{code}
use Rattle.seq.specs.declared.Span.{Span}
use Rattle.seq.specs.Lists.{All, In, joined}
use Rattle.seq.specs.Bytes.{chars, text_of, Payload}
use Rattle.seq.specs.Decimal.{decimal}
use Rattle.uri.specs.declared.Policy.{Policy}
use Rattle.uri.specs.declared.Policy.TheVariants.{Exact, Prefix, Wildcard}
use Rattle.uri.specs.Uri.{components, valid_text, valid_topic, valid_procedure, valid_published, valid_called, valid_error}
use Rattle.uri.specs.Components.{joined as dotted, DotFree}
use Rattle.uri.specs.Rule.{UriText, Reserved}
use Rattle.pattern.specs.declared.Row.{Row}
use Rattle.pattern.specs.Match.{fits_text, beats_text}
use Rattle.pattern.specs.Choice.{fits_row, candidate}
use Rattle.pattern.specs.Fit.{FitsEach, OpensLater}
use Rattle.utf8.specs.Utf8.{well_formed}
use Rattle.utf8.specs.Table.{Scalar, encoding, Encoded}
use Rattle.lex.specs.Lex.{space, number, quoted}
use Rattle.lex.specs.Grammar.{Many, ◌∪◌, Ws, Number, Unescaped, Escaped, String}
use Rattle.strings.specs.Strings.{undone, has_lone, inner, meant, escaped}
use Rattle.strings.specs.Spelling.{Half, SpellsAll}
use Rattle.json_text.specs.Json.{is_text}
use Rattle.json_text.specs.Grammar.{Text, Value, Member, Object}
use Rattle.elements.specs.Kinds.{id_of}
use Rattle.elements.specs.Elements.{outer, Are}
use Rattle.elements.specs.Grammar.{ListOf}
use Rattle.members.specs.Members.{members_at, value_of}
use Rattle.seq.specs.declared.Format.{Format}
use Rattle.seq.specs.declared.Format.TheVariants.{Json, MsgPack}
use Rattle.msgpack.specs.MsgPack.{value as packed}
use Rattle.msgpack.specs.Grammar.{Value as Packed, Pair, Str}
use Rattle.arrays.specs.Arrays as Arrays
use Rattle.arrays.specs.Grammar as Packs
use Rattle.maps.specs.Maps as Maps
use Rattle.maps.specs.Grammar.{MapOf}
use Rattle.values.specs.Value as Values
use Rattle.values.specs.Value.{Good, GoodText}
use Rattle.values.specs.Write.{write}
use Rattle.values.specs.Read.Read.{Gives}
use Rattle.values.specs.Stands.{stands}
use Rattle.values.specs.Skips.{skips, Readable}
use Rattle.meanings.specs.Means.{Means}
use Rattle.values.specs.Whole.{Whole}
use Rattle.values.specs.Same.{Unlike}
use Rattle.conversion.specs.Carried.{As, NotConvertible, carried}
use Rattle.model.specs.Carries.{SamePayload}
use Rattle.incoming.specs.Incoming.{Incoming, Violation}
use Rattle.incoming.specs.Read.{read}
use Rattle.incoming.specs.Shapes.{Shape}
use Rattle.outgoing.specs.declared.Uri.{Uri}
use Rattle.outgoing.specs.Outgoing.{Outgoing, uri_text, render}
use Rattle.outgoing.specs.Sent as Sent
use Rattle.outgoing.specs.Layout.{Mail, Formats, layout}
use Rattle.outgoing.specs.Contents.{contents, content, total, Writable}
use Rattle.spoken.specs.Written.{written, Writable as ClientWritable}
use Rattle.spoken.specs.Sent as Spoken
use Rattle.spoken.specs.Sent.{IsListOf, IsText, Sayable, Sendable}
use Rattle.spoken.specs.Heard.{Is, heard}
use Rattle.model.specs.declared.Hub.{Hub}
use Rattle.model.specs.State.{format_at}
use Rattle.model.specs.Rules.{Sized}
use Rattle.model.specs.Step.{Step, step}
use Rattle.model.specs.Changes.{Changes, DetailsBy}

-- ==== numbers (PROTOCOL, "Reading a message")
pub record Numbers : Type 0 where
  -- in base ten: a digit is its character, and a number is written as its tenth part and then its last digit
  pub digit : (d : ℕ) → d < 10 → decimal d ≡ (code "0" + d) ∷ []
  pub digits : (n d : ℕ) → 1 ≤ n → d < 10 → n * 10 + d < 2 ^ 64 → decimal (n * 10 + d) ≡ decimal n ++ ((code "0" + d) ∷ [])
  -- an ID is written so, and in no other way
  pub written : (n : ℕ) → 1 ≤ n → n ≤ 9007199254740992 → id_of (decimal n) ≡ n
  pub only : (t : List ℕ) (n : ℕ) → id_of t ≡ n → 1 ≤ n → (t ≡ decimal n) × (n ≤ 9007199254740992)

-- ==== URI texts (PROTOCOL, "URI texts")
pub record UriRule : Type 0 where
  -- the components: the one non-empty list of texts without a dot that joined with dots is the text
  pub parts : (s : List ℕ) (cs : List (List ℕ)) → (components s ≡ cs) ↔ (¬ (cs ≡ []) × All DotFree cs × (dotted cs ≡ s))
  -- every text: 1 to 128 bytes above hex 20, none of them `#`, its dots as the policy allows
  pub text : (s : List ℕ) (p : Policy) → (valid_text s p ≡ true) ↔ UriText p s
  -- by use: REGISTER and PUBLISH also ask that it is not `wamp` and does not begin with `wamp.`
  pub topic : (s : List ℕ) (p : Policy) → (valid_topic s p ≡ true) ↔ UriText p s
  pub procedure : (s : List ℕ) (p : Policy) → (valid_procedure s p ≡ true) ↔ (UriText p s × ¬ (Reserved s))
  pub published : (s : List ℕ) → (valid_published s ≡ true) ↔ (UriText Exact s × ¬ (Reserved s))
  pub called : (s : List ℕ) → (valid_called s ≡ true) ↔ UriText Exact s
  pub error : (s : List ℕ) → (valid_error s ≡ true) ↔ UriText Exact s

-- ==== matching (PROTOCOL, "Matching")
pub record Fit : Type 0 where
  pub exact : (t u : List ℕ) → (fits_text Exact t u ≡ true) ↔ (t ≡ u)
  pub prefix : (t u : List ℕ) → (fits_text Prefix t u ≡ true) ↔ ((w : List ℕ) × (t ++ w ≡ u))
  -- as many components, each empty or equal
  pub wildcard : (t u : List ℕ) → (fits_text Wildcard t u ≡ true) ↔ FitsEach t u
  -- of two that fit one URI, a is better where at the first component that just one of them leaves empty, it is b's
  pub order : (a b u : List ℕ) → fits_text Wildcard a u ≡ true → fits_text Wildcard b u ≡ true → (beats_text a b ≡ true) ↔ OpensLater a b
  -- a row fits where it is used and its text, of its length, fits by its policy; it is a candidate of that policy alone
  pub row : (u : List ℕ) (r : Row) → (fits_row u r ≡ true) ↔ (¬ (r.number ≡ 0) × (fits_text r.policy (take r.len r.text) u ≡ true))
  pub candidate : (p : Policy) (u : List ℕ) (r : Row) → (candidate p u r ≡ true) ↔ ((r.policy ≡ p) × (fits_row u r ≡ true))

-- ==== UTF-8 (RFC 3629) and JSON (RFC 8259)
pub record Texts : Type 0 where
  -- section 3's table: the bytes are the encodings of a list of scalar values
  pub utf8 : (s : List ℕ) → (well_formed s ≡ true) ↔ Encoded s
  -- sections 2 to 7: the ABNF, by concatenation; the characters that it gives by their numbers
  pub signs : chars " \t\n\r\"\\/[]{}:,.+-" ≡ 0x20 ∷ 0x09 ∷ 0x0a ∷ 0x0d ∷ 0x22 ∷ 0x5c ∷ 0x2f ∷ 0x5b ∷ 0x5d ∷ 0x7b ∷ 0x7d ∷ 0x3a ∷ 0x2c ∷ 0x2e ∷ 0x2b ∷ 0x2d ∷ []
  pub letters : chars "09AFaf" ++ chars "eEbnrtu" ≡ 0x30 ∷ 0x39 ∷ 0x41 ∷ 0x46 ∷ 0x61 ∷ 0x66 ∷ 0x65 ∷ 0x45 ∷ 0x62 ∷ 0x6e ∷ 0x72 ∷ 0x74 ∷ 0x75 ∷ []
  pub space : (t : List ℕ) → (space t 0 ≡ length t) ↔ Ws t
  pub number : (t : List ℕ) → (number t 0 ≡ Some (length t)) ↔ Number t
  pub string : (t : List ℕ) → (quoted t 0 ≡ Some (length t)) ↔ String t
  -- at most 2,048 bytes: white space, one value nested to depth 8 in which no two keys of a dict stand for the same text, white space
  pub json : (s : List ℕ) → (is_text s ≡ true) ↔ ((length s ≤ 2048) × Text s)
  -- the elements found of a list are its own: all of them, in order
  pub elements : (s : List ℕ) (es : List (List ℕ))
      → ((ps : List Span) × (e : ℕ) × (outer s ≡ Are ps e) × (map (text_of s) ps ≡ es)) ↔ ListOf es s
  -- the value found under a text in a dict, which stands in s at place i, is that of the member whose key stands for it; or none, where no key does
  pub member : (s : List ℕ) (i : ℕ) (t r : List ℕ) (ms : List Member) → length s ≤ 2048 → drop i s ≡ t ++ r → Object (Value 6) ms t
      → (m : Member) → In m ms → text_of s (value_of s (meant m.key) (members_at s i)) ≡ m.value
  pub no_member : (s : List ℕ) (i : ℕ) (t r : List ℕ) (ms : List Member) → length s ≤ 2048 → drop i s ≡ t ++ r → Object (Value 6) ms t
      → (key : List ℕ) → ((m : Member) → In m ms → ¬ (meant m.key ≡ key)) → text_of s (value_of s key (members_at s i)) ≡ []

-- ==== what a string stands for (PROTOCOL, "Undoing"; RFC 8259, section 7): t and u are what stands between a string's quotes
pub record Undoing : Type 0 where
  -- the characters that t spells, in UTF-8: each stands as itself or is escaped, in two bytes, in six, or in twelve as a pair of halves. A half
  -- that is in no pair counts as its own code
  pub spelled : (cs t : List ℕ) → SpellsAll cs t → undone t ≡ joined encoding cs
  -- so two spellings of the same characters stand for one text, and no others do
  pub same : (cs t u : List ℕ) → SpellsAll cs t → SpellsAll cs u → undone t ≡ undone u
  pub apart : (cs ds t u : List ℕ) → SpellsAll cs t → SpellsAll ds u → undone t ≡ undone u → cs ≡ ds
  -- a lone half: one of those that are spelled is a half
  pub lone : (cs t : List ℕ) → SpellsAll cs t → (has_lone t ≡ true) ↔ ((c : ℕ) × In c cs × Half c)
  -- every string of a message spells something, and that is characters and halves
  pub spelling : (t : List ℕ) → Many (Unescaped ∪ Escaped) t → Encoded t → (cs : List ℕ) × SpellsAll cs t
  pub codes : (cs t : List ℕ) → SpellsAll cs t → All (λ c. Scalar c ⊎ Half c) cs
  -- without a lone half, what it stands for is UTF-8 again
  pub utf8 : (t : List ℕ) → Many (Unescaped ∪ Escaped) t → Encoded t → has_lone t ≡ false → Encoded (undone t)
  -- a text without a backslash is itself
  pub plain : (t : List ℕ) → All (λ b. ¬ (b ≡ code "\\")) t → undone t ≡ t
  -- a text that the hub writes stands for itself, with no lone half; without a byte below hex 20, as every URI is, it may stand in a string;
  -- and it is no longer than the string that it came in
  pub written : (t : List ℕ) → undone (escaped t) ≡ t
  pub written_sound : (t : List ℕ) → has_lone (escaped t) ≡ false
  pub written_inside : (t : List ℕ) → All (λ b. 0x20 ≤ b) t → Many (Unescaped ∪ Escaped) (escaped t)
  pub written_short : (t : List ℕ) → Many (Unescaped ∪ Escaped) t → Encoded t → length (escaped (undone t)) ≤ length t
  -- what stands between the quotes of a string, as a dict's keys are above: `meant` of it is `undone` of that
  pub between : (t : List ℕ) → inner (chars "\"" ++ (t ++ chars "\"")) ≡ t

-- ==== reading (PROTOCOL, "Reading a message"), in either format
pub record Reading : Type 0 where
  -- each of the eleven messages is read exactly where the bytes have its shape; a text of it is what a string stands for
  pub message : (f : Format) (s : List ℕ) (m : Incoming) → ¬ (m ≡ Violation) → (read f s ≡ m) ↔ Shape f m s
  -- and a violation exactly where they have none
  pub violation : (f : Format) (s : List ℕ) → (read f s ≡ Violation) ↔ ((m : Incoming) → ¬ (Shape f m s))

-- ==== output (PROTOCOL, "Sent" and "Output layout")
pub record Output : Type 0 where
  -- a message's bytes are in JSON a list of its elements, without white space, where a text has a backslash before each quote and each backslash;
  -- in MessagePack an array of them, each in the shortest of its forms
  pub sent : (f : Format) (m : Outgoing) → Sent.Written f m (render f m)
  -- a host that reads the layout finds the receivers and the messages' bytes, of any lengths that two bytes hold
  pub contents : (formats : Formats) (ms : List Mail) → Writable formats ms → contents (layout formats ms) ≡ map (content formats) ms
  -- and there is nothing else in it
  pub whole : (formats : Formats) (ms : List Mail) → length (layout formats ms) ≡ 2 + 3 * length ms + total (map (content formats) ms)
  -- every step's messages are such, in the formats that the slots speak before it
  pub receivers : (h : Hub) (x : Step) (room : ℕ) → Sized h → All (λ m. m.to < 8) (step h x room).mails
  pub lengths : (h : Hub) (x : Step) (room : ℕ) → Sized h → All (λ m. length (render (format_at h m.to) m.message) < 65536) (step h x room).mails
  pub count : (h : Hub) (x : Step) (room : ℕ) → Sized h → length (step h x room).mails ≤ 257
  -- and each is one of those that the round trip below is about: heard as that message, one list, a text of its format
  pub sendable : (h : Hub) (x : Step) (room : ℕ) → Sized h → All (λ m. Sendable (format_at h m.to) m.message) (step h x room).mails

-- ==== states (PROTOCOL, "What each message does")
pub record States : Type 0 where
  -- what a step leaves is said by the part that changes, and no other part does
  pub changes : (h : Hub) → Changes h
  -- the Details of an EVENT or INVOCATION, by the row's policy
  pub details : (uri : List ℕ) → DetailsBy uri

-- ==== the second format (PROTOCOL, "MessagePack" and "Values")
pub record SecondFormat : Type 0 where
  -- the format's own table of first bytes: one value nested to a depth, strs in UTF-8, no two str keys of a map alike
  pub msgpack : (depth : ℕ) (t : List ℕ) → (packed depth t 0 ≡ Some (length t)) ↔ Packed depth t
  -- a message's array: its elements are its own, all of them, in order, with nothing behind them
  pub elements : (s : List ℕ) (es : List (List ℕ))
      → ((ps : List Span) × (e : ℕ) × (Arrays.outer s ≡ Are ps e) × (map (text_of s) ps ≡ es)) ↔ Packs.ListOf es s
  -- an ID: an integer of any form from 1 to 2^53
  pub id : (depth : ℕ) (t : List ℕ) (n : ℕ) → Packed depth t → ((Arrays.id_of t ≡ n) × (1 ≤ n)) ↔ Packs.Id n t
  -- the value found under a key in a map, which stands in s at place i, is that of the pair whose key is a str of these bytes; or none
  pub member : (s : List ℕ) (i : ℕ) (t r : List ℕ) (ps : List Pair) → length s ≤ 2048 → drop i s ≡ t ++ r → MapOf ps t
      → (key : List ℕ) (p : Pair) → In p ps → Str key p.key → text_of s (Maps.value_of s key (Maps.members_at s i)) ≡ p.value
  pub no_member : (s : List ℕ) (i : ℕ) (t r : List ℕ) (ps : List Pair) → length s ≤ 2048 → drop i s ≡ t ++ r → MapOf ps t
      → (key : List ℕ) → ((p : Pair) → In p ps → ¬ Str key p.key) → text_of s (Maps.value_of s key (Maps.members_at s i)) ≡ []
  -- the values that both formats have: what bytes stand for is the value that they are by the format's own grammar, as sets of texts
  pub value : (f : Format) (depth : ℕ) (t : List ℕ) (v : Values.Value depth) → All (λ b. b < 256) t
      → (stands f depth t 0 ≡ Gives v (length t)) ↔ Means f depth v t
  -- what is written is read back, in either format, and nothing is left over
  pub back : (f : Format) (depth : ℕ) (v : Values.Value depth) → Good depth v → stands f depth (write f depth v) 0 ≡ Gives v (length (write f depth v))
  -- and the reader of messages takes it, up to its end
  pub taken : (f : Format) (depth : ℕ) (v : Values.Value depth) → Good depth v → skips f depth (write f depth v) 0 ≡ Some (length (write f depth v))
  -- where that reader takes a value, what stands there ends at the same place, and can be written
  pub ends : (f : Format) (s : List ℕ) (depth at : ℕ) (v : Values.Value depth) (e z : ℕ) → stands f depth s at ≡ Gives v e → skips f depth s at ≡ Some z → e ≡ z
  pub good : (f : Format) (depth : ℕ) (s : List ℕ) (at e : ℕ) (v : Values.Value depth) (z : ℕ) → Readable f s → skips f depth s at ≡ Some z
      → stands f depth s at ≡ Gives v e → Good depth v
  -- in the other format it has less than 6 bytes for one, or 2 at most
  pub long_json : (depth : ℕ) (s : List ℕ) → All (λ b. b < 256) s → (at e : ℕ) (v : Values.Value depth)
      → stands MsgPack depth s at ≡ Gives v e → length (write Json depth v) + 1 ≤ 6 * (e - at)
  pub long_msg_pack : (depth : ℕ) (s : List ℕ) → All (λ b. b < 256) s → (at e : ℕ) (v : Values.Value depth)
      → stands Json depth s at ≡ Gives v e → length (write MsgPack depth v) ≤ 2 * (e - at)

-- ==== between the formats (PROTOCOL, "Between the formats"): what `carried`, by which the step hands a payload on, comes to, in terms of the values
-- that its bytes stand for. Every payload that is read is of whole values
pub record Between : Type 0 where
  -- within a format a payload goes as it came, and across formats as one that stands for the same values, one by one
  pub goes : (f g : Format) (p q : Payload) → All (Whole f) p → carried f g p ≡ As q → SamePayload f g p q
  -- it does not convert exactly where the formats differ and one of its values stands for none
  pub stops : (f g : Format) (p : Payload) → All (Whole f) p → (carried f g p ≡ NotConvertible) ↔ (¬ (f ≡ g) × Unlike f p)

-- ==== messages there and back (PROTOCOL, "Taken in" and "Sent"), in either format
pub record RoundTrip : Type 0 where
  -- what a client writes for a message is read as that message, and no two messages are written alike, whatever reasons they give
  pub taken : (f : Format) (reason : List ℕ) → GoodText reason → (m : Incoming) → ClientWritable f m → length (written f reason m) ≤ 2048
      → read f (written f reason m) ≡ m
  pub taken_once : (f : Format) (reason other : List ℕ) → GoodText reason → GoodText other → (m n : Incoming) → ClientWritable f m → ClientWritable f n
      → length (written f reason m) ≤ 2048 → written f reason m ≡ written f other n → m ≡ n
  -- what is sent for a message is heard as that message, by every client that takes so many bytes, and no two messages are sent alike
  pub heard : (f : Format) (limit : ℕ) (m : Outgoing) → Sendable f m → length (render f m) ≤ limit → heard f limit (render f m) ≡ Is m
  pub sent_once : (f : Format) (m n : Outgoing) → Sendable f m → Sendable f n → render f m ≡ render f n → m ≡ n
  -- it is one list of the message's elements, and a text or a value of the format, by the format's own grammar
  pub list : (f : Format) (limit : ℕ) (m : Outgoing) → Sendable f m → length (render f m) ≤ limit
      → IsListOf f limit (Spoken.elements f m) (render f m)
  pub text : (f : Format) (m : Outgoing) → Sendable f m → IsText f (render f m)
  -- the hub's own URIs can be sent, and so can every URI of UTF-8
  pub own : (f : Format) (u : Uri) → Sayable f (uri_text u)
  pub uri : (f : Format) (p : Policy) (t : List ℕ) → well_formed t ≡ true → UriText p t → Sayable f t

pub record Meaning : Type 0 where
  pub numbers : Numbers
  pub uri_rule : UriRule
  pub fit : Fit
  pub texts : Texts
  pub undoing : Undoing
  pub reading : Reading
  pub output : Output
  pub states : States
  pub second_format : SecondFormat
  pub between : Between
  pub round_trip : RoundTrip
