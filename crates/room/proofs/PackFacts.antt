-- How long outputs get from MessagePack to JSON, computed: a byte below hex 20 of a str has six bytes in a string, as `\u0001`. A PUBLISH
-- has 2,716,450 bytes of output so, and a CALL 12,133. Assumes nothing.
use Prim.Native.Nat.{ℕ, ◌+◌, ◌*◌}
use mathlib.Core.Bool.{true, false}
use mathlib.Core.List.{List, [], ◌∷◌, ◌++◌}
use mathlib.Core.Path.{◌≡◌, refl}
use lib.Dec.{leb}
use lib.ListN.{length, replicate}
use Rattle.seq.specs.declared.Format.TheVariants.{Json, MsgPack}
use Rattle.seq.specs.Bytes.{chars, same, among}
use Rattle.seq.specs.Numbers.{last_id}
use Rattle.seq.specs.Lists.{every, pairwise, first_from, tally, but_last, first_part, rest_parts}
use Rattle.seq.specs.Decimal.{digits, decimal}
use Rattle.uri.specs.Uri.{same_policy, part_end, filled, components_filled, reserved_first, valid_text, valid_topic, valid_procedure, valid_published}
use Rattle.pattern.specs.Choice.{fits_row}
use Rattle.pattern.specs.Match.{starts_with, covers, fits_parts, fits_text}
use Rattle.utf8.specs.Utf8.{lead, step as step-utf8, continues}
use Rattle.strings.specs.Strings.{escaped}
use Rattle.msgpack.specs.Head.{forms, form_of, number, half, signed_head, head_of, head_at}
use Rattle.msgpack.specs.MsgPack.{bytes, text, times, with_key, again, pairs as pairs_at, by_head, value}
use Rattle.arrays.specs.Arrays.{spans, outer, listed, id_of, kind, kinds_from}
use Rattle.maps.specs.Maps.{pairs, members_at, is_key, value_of, value_in}
use Rattle.values.specs.Stands.{text_at, pack_text_at, pack_scalar_at, items, pack_member_at, pack_layer_at, stands}
use Rattle.values.specs.Write.{hex_digit, spelled, quoted_text, commaed, separated, json_scalar, json_layer, write, wide, pack_whole, pack_str, pack_array, pack_map, pack_text}
use Rattle.incoming.specs.Incoming as In
use Rattle.options.specs.Audience.{flag_of, listed as ids_listed, ids_of, lists, leaves, any_wrong}
use Rattle.incoming.specs.Read.{acknowledge_in, audience_in, with_payload, publish, call, by_number, interpret, read}
use Rattle.conversion.specs.Converts.{convert}
use Rattle.conversion.specs.Carried.{As, converted, carried}
use Rattle.outgoing.specs.Outgoing as Out
use Rattle.outgoing.specs.Outgoing.{concat, json, render, msgpack}
use Rattle.outgoing.specs.Layout.{Mail, all_json}
use Rattle.outgoing.proofs.Lengths.{mail-length}
use Rattle.model.specs.declared.Status.TheVariants.{OpenMsgPack}
use Rattle.model.specs.declared.Hub.{Hub}
use Rattle.model.specs.declared.Event.TheVariants.{Message}
use Rattle.model.specs.Rules.{zero_row, row_zero, session_zero, call_zero, rule1, id_in_range, ids_apart, rule2, holders_open, text_good, used_row, row_good, rows_apart, table_good, rule3, call_good, calls_apart, rule4, counters_low, rule5, rules}
use Rattle.model.specs.State.{session, format_at, with_session, padded}
use Rattle.model.specs.Step.{mail, follows, numbered, details_for, event_to, events_to, row_events, leaves_at, acknowledged, publishes, publish_error, publish as publish-model, request, on_open, hears, next}
use Rattle.room.specs.Enough.{most_bytes, most_other}
use Rattle.room.proofs.Facts.{opened, crowd_sessions, crowd_of, me_too}

-- PUBLISH and CALL messages with a URI of 32 bytes, and an array of one str; of 1,994 and 2,006 bytes where they have 2,048. A PUBLISH has the option
-- that sends the event to its publisher too
abbrev packed_uri : List ℕ
packed_uri = replicate 32 97

abbrev packed_list : List ℕ
packed_list = 0x91 ∷ 0xda ∷ 0x07 ∷ 0xd6 ∷ replicate 2006 1

abbrev own_list : List ℕ
own_list = 0x91 ∷ 0xda ∷ 0x07 ∷ 0xca ∷ replicate 1994 1

abbrev ending : List ℕ → List ℕ
ending payload = 0xd9 ∷ 0x20 ∷ packed_uri ++ payload

abbrev packed_call : List ℕ
packed_call = 0x95 ∷ 48 ∷ 0x01 ∷ 0x80 ∷ ending packed_list

abbrev packed_publish : List ℕ → List ℕ
packed_publish payload = 0x95 ∷ 16 ∷ 0x01 ∷ 0x81 ∷ 0xaa ∷ chars "exclude_me" ++ (0xc2 ∷ ending payload)

-- the payload in JSON
abbrev spelled_list : ℕ → List ℕ
spelled_list n = chars "[\"" ++ (concat (replicate n (chars "\\u0001")) ++ chars "\"]")

-- 8 open sessions, of which that of slot 0 speaks MessagePack, each a member of 32 prefix subscriptions
abbrev mixed : Hub
mixed = crowd_of (opened OpenMsgPack 8 ∷ crowd_sessions 7)

-- what a receiver is sent under the largest numbers
abbrev spelled_event : Mail
spelled_event = mail 1 (Out.Event last_id last_id (Out.Names packed_uri) (spelled_list 1994 ∷ []))

abbrev own_event : Mail
own_event = mail 0 (Out.Event last_id last_id (Out.Names packed_uri) (own_list ∷ []))

abbrev spelled_invocation : Mail
spelled_invocation = mail 1 (Out.Invocation last_id last_id (Out.Names packed_uri) (spelled_list 2006 ∷ []))

pub record PackFacts : Type 0 where
  pub full_publish : length (packed_publish own_list) ≡ 2048
  pub full_call : length packed_call ≡ 2048
  pub publish_read : read MsgPack (packed_publish own_list) ≡ In.Publish 1 false me_too packed_uri (own_list ∷ [])
  pub call_read : read MsgPack packed_call ≡ In.Call 1 packed_uri (packed_list ∷ [])
  pub converts : carried MsgPack Json (own_list ∷ []) ≡ As (spelled_list 1994 ∷ [])
  pub converts_call : carried MsgPack Json (packed_list ∷ []) ≡ As (spelled_list 2006 ∷ [])
  pub mixed_lawful : rules mixed ≡ true
  -- with a str of one byte, for the time that it takes to compute
  pub mixed_events : length (next mixed 0 (Message last_id) (packed_publish (0x91 ∷ 0xa1 ∷ 1 ∷ []))).mails ≡ 256
  -- 7 slots of JSON, and the publisher's own
  pub room_for_events : leb (2 + (224 * mail-length all_json spelled_event + 32 * mail-length (λ slot. MsgPack) own_event)) most_bytes ≡ true
  pub room_for_invocation : leb (2 + mail-length all_json spelled_invocation) most_other ≡ true

-- what a case can meet: model/proofs/Facts.antt says why these names stand here, and how a missing one shows
pub pack-facts : PackFacts
unfolding same among
    every pairwise first_from tally but_last first_part rest_parts
    digits decimal
    same_policy part_end filled components_filled reserved_first valid_text valid_topic valid_procedure valid_published
    fits_row starts_with covers fits_parts fits_text
    lead step-utf8 continues
    escaped
    forms form_of number half signed_head head_of head_at
    bytes text times with_key again pairs_at by_head value
    spans outer listed id_of kind kinds_from
    pairs members_at is_key value_of value_in
    text_at pack_text_at pack_scalar_at items pack_member_at pack_layer_at stands
    hex_digit spelled quoted_text commaed separated json_scalar json_layer write
    acknowledge_in flag_of ids_listed ids_of audience_in with_payload publish call by_number interpret read
    convert converted carried
    wide pack_whole pack_str pack_array pack_map pack_text
    json msgpack render
    zero_row row_zero session_zero call_zero rule1 id_in_range ids_apart rule2 holders_open text_good used_row row_good rows_apart table_good rule3
    call_good calls_apart rule4 counters_low rule5 rules
    session format_at with_session padded
    follows numbered details_for event_to events_to row_events lists leaves leaves_at any_wrong acknowledged publishes publish_error publish-model request on_open hears next
pack-facts =
    record {
      full_publish = refl;
      full_call = refl;
      publish_read = refl;
      call_read = refl;
      converts = refl;
      converts_call = refl;
      mixed_lawful = refl;
      mixed_events = refl;
      room_for_events = refl;
      room_for_invocation = refl;
    }
