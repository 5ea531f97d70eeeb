-- What is claimed of settings: the permissions again as a proposition, and that the lent bytes of settings are theirs alone.
use Rattle.std.specs.Prelude.{ℕ, ◌<◌, true, false, List, ◌↔◌, ◌≡◌, length}
use Rattle.seq.specs.Lists.{All}
use Rattle.settings.specs.declared.Action.{Action}
use Rattle.settings.specs.Settings.{Settings, keeps_rules, allowed, Denied, default_settings}
use Rattle.settings.specs.Lent.{settings_size, settings_of, lawful, lent}

pub record Claims : Type 0 where
  -- "the longest fitting one for slot and action decides, with none it is yes": denied exactly where the longest that fits says no
  pub denied : (x : Settings) → keeps_rules x ≡ true → (slot : ℕ) (action : Action) (text : List ℕ)
      → (allowed x slot action text ≡ false) ↔ Denied x slot action text
  -- settings that keep the rules are lent as 4,357 bytes, which keep them and stand for these settings
  pub size : (x : Settings) → keeps_rules x ≡ true → length (lent x) ≡ settings_size
  pub keeps : (x : Settings) → keeps_rules x ≡ true → lawful (lent x) ≡ true
  pub back : (x : Settings) → keeps_rules x ≡ true → settings_of (lent x) ≡ x
  -- and bytes that keep the rules are those of the settings that they stand for: one settings has one form
  pub only : (s : List ℕ) → All (λ b. b < 256) s → lawful s ≡ true → (keeps_rules (settings_of s) ≡ true) × (lent (settings_of s) ≡ s)
  -- what is set where nothing else is keeps the rules
  pub usual : keeps_rules default_settings ≡ true
