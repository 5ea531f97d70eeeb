-- How long outputs get within JSON, computed: the longest PUBLISH has 256 events, to its publisher too, the longest CALL one invocation. A text whose bytes are all
-- written with a backslash makes neither longer: its string has as many bytes, so the payload has fewer. Assumes nothing.
use Prim.Native.Nat.{ℕ, zero, suc, ◌+◌, ◌*◌, ◌-◌}
use mathlib.Core.Bool.{true, false}
use mathlib.Core.List.{List, [], ◌∷◌, ◌++◌}
use mathlib.Core.Path.{◌≡◌, refl}
use lib.Dec.{leb}
use lib.ListN.{length, replicate}
use Rattle.seq.specs.declared.Format.TheVariants.{Json}
use Rattle.seq.specs.Bytes.{chars}
use Rattle.uri.specs.declared.Policy.TheVariants.{Prefix}
use Rattle.pattern.specs.declared.Row.{Row}
use Rattle.incoming.specs.Incoming as In
use Rattle.outgoing.specs.Outgoing as Out
use Rattle.model.specs.declared.Status.{Status}
use Rattle.model.specs.declared.Status.TheVariants.{Open}
use Rattle.model.specs.declared.Session.{Session}
use Rattle.model.specs.declared.Table.{Table}
use Rattle.model.specs.declared.Hub.{Hub}
use Rattle.model.specs.declared.Event.TheVariants.{Message}
use Rattle.seq.specs.Bytes.{same, among}
use Rattle.seq.specs.Lists.{every, pairwise, first_from, tally, but_last, first_part, rest_parts}
use Rattle.uri.specs.Uri.{same_policy, part_end, filled, components_filled, reserved_first, valid_text, valid_topic, valid_procedure, valid_published, valid_called, valid_error}
use Rattle.pattern.specs.Choice.{fits_row, candidate, preferred, considered, best_among, choice}
use Rattle.pattern.specs.Match.{starts_with, covers, fits_parts, fits_text, counts, greater, beats_text, better_text, wins_text}
use Rattle.utf8.specs.Utf8.{lead, step as step-utf8, continues}
use Rattle.utf8.specs.Table.{encoding}
use Rattle.lex.specs.Lex.{run, past, some_digits, integer, fraction, minus, signed, exponent, number, hex4, is_escape, escape, char, string, quoted, first, next, colon}
use Rattle.strings.specs.Strings.{digit, unit, low_at, short, escape as unescape, undone_after, lone_after, escaped}
use Rattle.json_text.specs.Json.{literal, series, enclosed, members, braced, by_first, value, list, dict, value_at, is_text}
use Rattle.elements.specs.Elements.{items, elements, outer, listed, kinds_from}
use Rattle.elements.specs.Kinds.{decimal, id_from, id_of, kind}
use Rattle.members.specs.Members.{member_at, pairs, members_at, value_of, value_in, sound_in}
use Rattle.options.specs.Audience.{Absent, Given, Audience, flag_of, listed as ids_listed, ids_of, lists, leaves, any_wrong}
use Rattle.incoming.specs.Read.{policy_named, policy_of, match_in, sound_match, acknowledge_in, audience_in, with_payload, hello, ending, failure, publish, subscribe, call, register, release, yield, by_number, interpret, read}
use Rattle.seq.specs.Decimal.{digits, decimal as decimal-outgoing}
use Rattle.conversion.specs.Carried.{carried}
use Rattle.outgoing.specs.Layout.{Mail, all_json, entry, body, layout}
use Rattle.outgoing.specs.Outgoing.{json, render}
use Rattle.model.specs.Rules.{zero_row, row_zero, session_zero, call_zero, rule1, id_in_range, ids_apart, rule2, holders_open, text_good, used_row, row_good, rows_apart, table_good, rule3, call_good, calls_apart, rule4, counters_low, rule5, rules}
use Rattle.seq.specs.Numbers.{last_id}
use Rattle.model.specs.State.{empty_hub, session, format_at, with_session, owner, padded, new_row, with_holders, joined, left, is_of, is_held_by, with_row, added, left_by, with_subscriptions, with_registrations, idle, serves, concerns, serves_other, dropped, with_call, ended}
use Rattle.model.specs.Step.{mail, silent, says, cancels, ends, violates, follows, numbered, issued, has_number, on_place, subscribe_new, subscribe_join, subscribe as subscribe-model, register_new, register as register-model, unsubscribe, unregister, details_for, event_to, events_to, row_events, leaves_at, acknowledged, publishes, publish_error, publish as publish-model, call_error, routed, route, passed, call as call-model, conveyed, answered, answer, request, on_open, welcomes, turns_away, early, on_attached, attaches, detaches, hears, next as next-model, wrong_time, is_fresh, accepts, bad_number, refused, done, fitted, step}
use Rattle.outgoing.proofs.Lengths.{mail-length}
use Rattle.room.specs.Enough.{most_written, most_bytes, most_other}

abbrev pub opened : Status → ℕ → Session
opened status id = record { status = status; id = id; request = 0; invocation = 0 }

abbrev table : ℕ → List Row → Table
table counter rows = record { counter = counter; rows = rows }

-- PUBLISH and CALL messages of 2,048 bytes, with a URI of 128 and a list for payload, which is shorter where an option is given
abbrev long_uri : List ℕ
long_uri = replicate 128 97

abbrev spaces : ℕ → List ℕ
spaces n = chars "[" ++ (replicate n 32 ++ chars "]")

abbrev long_list : List ℕ
long_list = spaces 1905

abbrev own_list : List ℕ
own_list = spaces 1887

abbrev long_message : List ℕ → List ℕ → List ℕ → List ℕ
long_message front uri payload = front ++ (uri ++ (chars "\"," ++ (payload ++ chars "]")))

abbrev long_publish : List ℕ
long_publish = long_message (chars "[16,1,{\"exclude_me\":false},\"") long_uri own_list

abbrev long_call : List ℕ
long_call = long_message (chars "[48,1,{},\"") long_uri long_list

-- a PUBLISH of 2,048 bytes whose URI is 128 quotes
abbrev quotes : List ℕ
quotes = replicate 128 34

abbrev quotes_list : List ℕ
quotes_list = spaces 1759

abbrev quotes_publish : List ℕ
quotes_publish = long_message (chars "[16,1,{\"exclude_me\":false},\"") (escaped quotes) quotes_list

-- the publisher gets the event too
abbrev pub me_too : Audience
me_too = record { exclude_me = Given false; exclude = Absent; eligible = Absent }

-- 8 open sessions, each a member of 32 prefix subscriptions, `a`, `aa` and so on, under the largest numbers
abbrev pub crowd_sessions : ℕ → List Session
crowd_sessions zero = []
crowd_sessions (suc n) = opened Open (suc n) ∷ crowd_sessions n

abbrev crowd_rows : ℕ → List Row
crowd_rows zero = []
crowd_rows (suc n) =
    record { number = last_id - n; policy = Prefix; holders = replicate 8 true; len = suc n; text = padded (replicate (suc n) 97) } ∷ crowd_rows n

abbrev pub crowd_of : List Session → Hub
crowd_of sessions = record { sessions = sessions; subscriptions = table last_id (crowd_rows 32); registrations = table 0 []; calls = [] }

abbrev crowd : Hub
crowd = crowd_of (crowd_sessions 8)

-- what a receiver is sent under the largest numbers
abbrev long_event : Mail
long_event = mail 1 (Out.Event last_id last_id (Out.Names long_uri) (own_list ∷ []))

abbrev quotes_event : Mail
quotes_event = mail 1 (Out.Event last_id last_id (Out.Names quotes) (quotes_list ∷ []))

abbrev long_invocation : Mail
long_invocation = mail 1 (Out.Invocation last_id last_id (Out.Names long_uri) (long_list ∷ []))

pub record Facts : Type 0 where
  pub publish_read : read Json long_publish ≡ In.Publish 1 false me_too long_uri (own_list ∷ [])
  pub call_read : read Json long_call ≡ In.Call 1 long_uri (long_list ∷ [])
  pub quotes_read : read Json quotes_publish ≡ In.Publish 1 false me_too quotes (quotes_list ∷ [])
  pub quotes_written : leb (length (escaped quotes)) most_written ≡ true
  pub crowd_lawful : rules crowd ≡ true
  pub crowd_events : length (next-model crowd 0 (Message last_id) long_publish).mails ≡ 256
  pub quotes_same : mail-length all_json quotes_event ≡ mail-length all_json long_event
  pub room_for_events : leb (2 + 256 * mail-length all_json long_event) most_bytes ≡ true
  pub room_for_invocation : leb (2 + mail-length all_json long_invocation) most_other ≡ true

-- what a case can meet: model/proofs/Facts.antt says why these names stand here, and how a missing one shows
pub facts : Facts
unfolding same among
    every pairwise first_from tally but_last first_part rest_parts
    same_policy part_end filled components_filled reserved_first valid_text valid_topic valid_procedure valid_published valid_called valid_error
    fits_row candidate preferred considered best_among choice
    starts_with covers fits_parts fits_text counts greater beats_text better_text wins_text
    lead step-utf8 continues
    encoding
    run past some_digits integer fraction minus signed exponent number hex4 is_escape escape char string quoted first next colon
    digit unit low_at short unescape undone_after lone_after escaped
    literal series enclosed members braced by_first value list dict value_at is_text
    items elements outer listed kinds_from
    decimal id_from id_of kind
    member_at pairs members_at value_of
    sound_in value_in policy_named policy_of match_in sound_match acknowledge_in flag_of ids_listed ids_of audience_in with_payload hello ending failure publish subscribe call
    register release yield by_number interpret read
    digits decimal-outgoing
    entry body layout
    render json
    zero_row row_zero session_zero call_zero rule1 id_in_range ids_apart rule2 holders_open text_good used_row row_good rows_apart table_good rule3
    call_good calls_apart rule4 counters_low rule5 rules
    empty_hub session format_at with_session owner padded new_row with_holders joined left is_of is_held_by with_row added left_by with_subscriptions
    with_registrations idle serves concerns serves_other dropped with_call ended
    silent says cancels ends violates follows numbered issued has_number on_place subscribe_new subscribe_join subscribe-model register_new
    register-model unsubscribe unregister details_for carried event_to events_to row_events lists leaves leaves_at any_wrong acknowledged publishes publish_error publish-model call_error routed route passed call-model
    conveyed answered answer request on_open welcomes turns_away early on_attached attaches detaches hears next-model wrong_time is_fresh accepts
    bad_number refused done fitted step
facts =
    record {
      publish_read = refl;
      call_read = refl;
      quotes_read = refl;
      quotes_written = refl;
      crowd_lawful = refl;
      crowd_events = refl;
      quotes_same = refl;
      room_for_events = refl;
      room_for_invocation = refl;
    }
