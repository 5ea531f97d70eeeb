-- Proof of specs/Claims.antt. Assumes nothing.
use mathlib.Core.Bool.{true}
use mathlib.Core.Path.{◌≡◌, refl}
use Rattle.seq.specs.Lists.{every, pairwise, first_part, rest_parts}
use Rattle.seq.proofs.Logic.{and_left, and_right}
use Rattle.seq.proofs.BigEndian.{bytes-all}
use Rattle.uri.specs.Uri.{filled, components_filled, valid_text}
use Rattle.settings.specs.Settings.{realm_good, wait_good, values_good, keeps_rules, default_settings}
use Rattle.settings.specs.Lent.{settings_of, formed, lawful}
use Rattle.settings.specs.Claims.{Claims}
use Rattle.settings.proofs.Decided.{denied-is}
use Rattle.settings.proofs.RoundTrip.{size_is, keeps-is, back_is, same-is}

default-keeps : keeps_rules default_settings ≡ true
unfolding every pairwise first_part rest_parts filled components_filled valid_text realm_good wait_good values_good keeps_rules default_settings
default-keeps = refl

pub claims : Claims
unfolding lawful
claims = record {
  denied = denied-is;
  size = size_is;
  keeps = keeps-is;
  back = back_is;
  only = λ s b e. (and_right (formed s) (keeps_rules (settings_of s)) e, same-is s (and_left (formed s) (keeps_rules (settings_of s)) e) (bytes-all s b));
  usual = default-keeps;
}
