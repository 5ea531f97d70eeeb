-- What the words mean, from the theorems of the crates that define them. Assumes nothing.
use Prim.Native.Nat.{ℕ, ◌-◌}
use mathlib.Core.List.{List, [], ◌++◌, map}
use mathlib.Core.Logic.{◌↔◌}
use mathlib.Core.Path.{◌≡◌, refl, sym, subst}
use native.Mathlib.Omega.{arith}
use lib.ListN.{length, length-append}
use lib.Seq.{take_at}
use Rattle.seq.specs.declared.Span.{Span}
use Rattle.seq.specs.Lists.{All}
use Rattle.seq.specs.Bytes.{chars, text_of}
use Rattle.seq.proofs.Digits.{decimal_digit, decimal-digits}
use Rattle.uri.specs.Uri.{components}
use Rattle.uri.specs.Components.{joined, DotFree}
use Rattle.uri.proofs.Components.{components-of}
use Rattle.uri.proofs.Rule.{uri-rule}
use Rattle.pattern.proofs.Fit.{fit}
use Rattle.utf8.proofs.Table.{utf8-table}
use Rattle.lex.proofs.Tokens.{tokens}
use Rattle.strings.specs.Strings.{inner, meant}
use Rattle.strings.proofs.Written.{lone-escaped, escaped-inside}
use Rattle.strings.proofs.Shorter.{escaped-undone}
use Rattle.strings.proofs.Spelling.{undoing}
use Rattle.json_text.proofs.Grammar.{json-text}
use Rattle.elements.specs.Elements.{outer, Are}
use Rattle.elements.specs.Grammar.{ListOf}
use Rattle.elements.proofs.Numbers.{numbers}
use Rattle.elements.proofs.Grammar.{outer-found, outer-is}
use Rattle.members.proofs.Grammar.{option_is, option-none}
use Rattle.msgpack.proofs.Grammar.{packed-value}
use Rattle.arrays.proofs.Grammar.{array_of, id-is}
use Rattle.maps.proofs.Grammar.{value-is, value_none}
use Rattle.values.proofs.Both.{written_back, written_over, agree}
use Rattle.values.proofs.Good.{good}
use Rattle.values.proofs.Sizes.{to-json, to-pack}
use Rattle.meanings.proofs.Both.{means}
use Rattle.incoming.proofs.Shapes.{reading}
use Rattle.outgoing.proofs.Sent.{sent}
use Rattle.outgoing.proofs.Contents.{contents-layout, length-layout}
use Rattle.spoken.proofs.RoundTrip.{round-trip}
use Rattle.model.proofs.Changes.{changes, details-by}
use Rattle.room.proofs.Output.{output}
use Rattle.sendable.proofs.Sent.{step-sendable}
use Rattle.words.proofs.Between.{payload-goes, payload-stops}
use Rattle.words.specs.Meaning.{Meaning}

components-are : (s : List ℕ) (cs : List (List ℕ)) → (components s ≡ cs) ↔ (¬ (cs ≡ []) × All DotFree cs × (joined cs ≡ s))
components-are s cs =
    let c = components-of s in (
      λ e. subst (λ (l : List (List ℕ)). ¬ (l ≡ []) × All DotFree l × (joined l ≡ s)) e (c.some, c.dot_free, c.whole),
      λ (n, d, j). sym (c.only cs n d j),
    )

elements-are : (s : List ℕ) (es : List (List ℕ))
    → ((ps : List Span) × (e : ℕ) × (outer s ≡ Are ps e) × (map (text_of s) ps ≡ es)) ↔ ListOf es s
elements-are s es = (λ (ps, e, o, t). subst (λ (l : List (List ℕ)). ListOf l s) t (outer-found s ps e o), outer-is s es)

between-quotes : (t : List ℕ) → inner (chars "\"" ++ (t ++ chars "\"")) ≡ t
between-quotes t = take_at t (chars "\"") (length (chars "\"" ++ (t ++ chars "\"")) - 1 - 1) (omega (arith, length-append t (chars "\"")))

pub meaning : Meaning
meaning = record {
  numbers = record { digit = decimal_digit; digits = decimal-digits; written = numbers.written; only = numbers.only };
  uri_rule = record {
    parts = components-are;
    text = uri-rule.text;
    topic = uri-rule.topic;
    procedure = uri-rule.procedure;
    published = uri-rule.published;
    called = uri-rule.called;
    error = uri-rule.error;
  };
  fit = record { exact = fit.exact; prefix = fit.prefix; wildcard = fit.wildcard; order = fit.order; row = fit.row; candidate = fit.candidate };
  texts = record {
    utf8 = utf8-table;
    signs = refl;
    letters = refl;
    space = tokens.space;
    number = tokens.number;
    string = tokens.string;
    json = json-text;
    elements = elements-are;
    member = λ s i t r ms l h o m k. option_is s i t r ms l h o (meant m.key) m k refl;
    no_member = option-none;
  };
  undoing = record {
    spelled = undoing.spelled;
    same = undoing.same;
    apart = undoing.apart;
    lone = undoing.lone;
    spelling = undoing.spelling;
    codes = undoing.codes;
    utf8 = undoing.utf8;
    plain = undoing.plain;
    written = undoing.written;
    written_sound = lone-escaped;
    written_inside = escaped-inside;
    written_short = escaped-undone;
    between = between-quotes;
  };
  reading = record { message = reading.message; violation = reading.violation };
  output = record {
    sent = sent;
    contents = contents-layout;
    whole = length-layout;
    receivers = λ h x room z. (output h x room z).receivers;
    lengths = λ h x room z. (output h x room z).lengths;
    count = λ h x room z. (output h x room z).count;
    sendable = step-sendable;
  };
  states = record { changes = changes; details = details-by };
  second_format = record {
    msgpack = packed-value;
    elements = array_of;
    id = id-is;
    member = value-is;
    no_member = value_none;
    value = means;
    back = written_back;
    taken = written_over;
    ends = agree;
    good = good;
    long_json = to-json;
    long_msg_pack = to-pack;
  };
  between = record { goes = payload-goes; stops = payload-stops };
  round_trip = record {
    taken = round-trip.taken;
    taken_once = round-trip.taken-once;
    heard = round-trip.heard;
    sent_once = round-trip.sent-once;
    list = round-trip.list;
    text = round-trip.text;
    own = round-trip.own;
    uri = round-trip.uri;
  };
}
