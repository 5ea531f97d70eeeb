-- Texts on either side of the URI rule, computed: cases of Rule.antt that wrong rules get wrong. Assumes nothing.
use mathlib.Core.Bool.{true, false}
use mathlib.Core.Path.{◌≡◌, refl}
use Rattle.seq.specs.Lists.{every, but_last, first_part, rest_parts}
use Rattle.seq.specs.Bytes.{chars, same}
use Rattle.uri.specs.declared.Policy.TheVariants.{Exact, Prefix, Wildcard}
use Rattle.uri.specs.Uri.{filled, components_filled, valid_text, reserved_first, valid_topic, valid_procedure, valid_published, valid_called, valid_error}

pub record Sides : Type 0 where
  -- bytes
  pub space : valid_text (chars "a b") Exact ≡ false
  pub above : valid_text (chars "a!b") Exact ≡ true
  pub quote : valid_text (chars "a\"b") Exact ≡ true
  pub backslash : valid_text (chars "a\\b") Exact ≡ true
  pub sign : valid_text (chars "a#b") Exact ≡ false
  -- dots
  pub exact : valid_text (chars "a.") Exact ≡ false
  pub prefix : valid_text (chars "a.") Prefix ≡ true
  pub together : valid_text (chars "a..b") Prefix ≡ false
  pub wildcard : valid_text (chars "..") Wildcard ≡ true
  -- by use
  pub error : valid_error (chars "a.") ≡ false
  pub called : valid_called (chars "wamp.x") ≡ true
  pub reserved : valid_procedure (chars "wamp") Prefix ≡ false
  pub longer : valid_procedure (chars "wampum.x") Exact ≡ true
  pub published : valid_published (chars "wampum") ≡ true
  pub topic : valid_topic (chars "wamp.x") Exact ≡ true

pub sides : Sides
unfolding every but_last first_part rest_parts same filled components_filled valid_text reserved_first valid_topic valid_procedure valid_published
    valid_called valid_error
sides = record {
  space = refl;
  above = refl;
  quote = refl;
  backslash = refl;
  sign = refl;
  exact = refl;
  prefix = refl;
  together = refl;
  wildcard = refl;
  error = refl;
  called = refl;
  reserved = refl;
  longer = refl;
  published = refl;
  topic = refl;
}
