-- What a payload comes to for its receiver: by cases, and within a format. Assumes nothing.
use mathlib.Core.Path.{◌≡◌, refl}
use Rattle.seq.specs.declared.Format.{Format}
use Rattle.seq.specs.declared.Format.TheVariants.{Json, MsgPack}
use Rattle.seq.specs.Bytes.{Payload}
use Rattle.conversion.specs.Carried.{Carried, As, NotConvertible, on_carried, carried}

-- each case, with its equation
pub split-carried : {A : Type 0} (c : Carried) → ((p : Payload) → c ≡ As p → A) → (c ≡ NotConvertible → A) → A
split-carried (As p) some none = some p refl
split-carried NotConvertible some none = none refl

-- what holds of each case holds of what follows
pub carried-case : {A : Type 0} (P : A → Type 0) (c : Carried) (some : Payload → A) (none : A)
    → ((p : Payload) → c ≡ As p → P (some p)) → (c ≡ NotConvertible → P none) → P (on_carried c some none)
carried-case P (As p) some none f g = f p refl
carried-case P NotConvertible some none f g = g refl

-- as it came within a format
pub carried_same : (f : Format) (p : Payload) → carried f f p ≡ As p
unfolding carried
carried_same Json p = refl
carried_same MsgPack p = refl
