-- Options looked up in dicts, and keys with halves of surrogate pairs. Assumes nothing.
use mathlib.Core.Path.{◌≡◌, refl}
use mathlib.Core.Bool.{true, false}
use mathlib.Core.List.{List, []}
use Prim.Native.Nat.{ℕ}
use Rattle.seq.specs.Lists.{every}
use Rattle.seq.specs.Bytes.{chars, same}
use Rattle.utf8.specs.Table.{encoding}
use Rattle.strings.specs.Strings.{digit, unit, low_at, escape as escape-strings, undone_after, lone_after}
use Rattle.lex.specs.Lex.{run, past, hex4, is_escape, escape, char, string, quoted, first, next, colon}
use Rattle.json_text.specs.Json.{literal, by_first, value}
use Rattle.members.specs.Members.{member_at, pairs, members_at, value_of, value_in, sound_in}

-- an escaped key
abbrev options : List ℕ
options = chars "{\"x\" : true, \"m\\u0061tch\":\"prefix\"}"

pub record Examples : Type 0 where
  pub escaped : value_in (chars "match") options ≡ chars "\"prefix\""
  pub written : value_in (chars "m\\u0061tch") options ≡ []
  pub plain : value_in (chars "x") options ≡ chars "true"
  pub absent : value_in (chars "match") (chars "{}") ≡ []
  -- a pair, and its first half alone in the second key
  pub pair : sound_in (chars "{\"\\ud83d\\uDE00\":true}") ≡ true
  pub lone : sound_in (chars "{\"x\":true,\"\\ud83d\":true}") ≡ false

pub examples : Examples
unfolding run past hex4 is_escape escape char string quoted first next colon literal by_first value member_at pairs members_at digit unit low_at
    escape-strings encoding undone_after lone_after every value_of value_in sound_in same
examples = record { escaped = refl; written = refl; plain = refl; absent = refl; pair = refl; lone = refl }
