-- The edges of an ID (PROTOCOL, "Either side of each edge"), and the elements of the worked step's CALL. Assumes nothing.
use mathlib.Core.Path.{◌≡◌, refl}
use Rattle.seq.specs.Bytes.{chars, same, among}
use Rattle.seq.specs.Lists.{every}
use Rattle.lex.specs.Lex.{run, past, some_digits, integer, fraction, minus, exponent, number, char, string, quoted, first, next, colon}
use Rattle.json_text.specs.Json.{literal, series, enclosed, members, braced, by_first, value}
use Rattle.elements.specs.Kinds.{decimal, id_from, id_of, kind}
use Rattle.elements.specs.Elements.{items, elements, outer, listed, kinds_from, kinds_of}

id-largest : id_of (chars "9007199254740992") ≡ 9007199254740992
unfolding id_of id_from every decimal
id-largest = refl

id-above : id_of (chars "9007199254740993") ≡ 0
unfolding id_of id_from every decimal
id-above = refl

id-zero : id_of (chars "0") ≡ 0
unfolding id_of
id-zero = refl

id-leading-zero : id_of (chars "07") ≡ 0
unfolding id_of
id-leading-zero = refl

-- an ID, an ID, a dict, a string and a list
a_call : kinds_of (chars "[48,1,{},\"hub.donor.defer\",[\"D17\"]]") (listed (chars "[48,1,{},\"hub.donor.defer\",[\"D17\"]]")) ≡ 11423
unfolding run past some_digits integer fraction minus exponent number char string quoted first next colon literal series enclosed members braced by_first
    value decimal id_from id_of kind every items elements outer listed kinds_from same among
a_call = refl
