-- An option is one thing alone: absent, given with one value, or wrong. Assumes nothing.
use Prim.Native.Nat.{ℕ}
use mathlib.Core.Path.{◌≡◌, sym}
use native.Mathlib.Omega.{arith}
use Rattle.options.specs.Audience.{OptionValue, Absent, Wrong, Given}

pub given_is : {A : Type 0} {a b : A} → Given a ≡ Given b → a ≡ b
given_is h = cc

pub not-wrong : {A B : Type 0} {a : A} → Wrong ≡ Given a → B
not-wrong h = let z : ◌≡◌ {A = ℕ} 0 1 = cc in absurd (omega arith)

pub not-absent : {A B : Type 0} {a : A} → Absent ≡ Given a → B
not-absent h = let z : ◌≡◌ {A = ℕ} 0 1 = cc in absurd (omega arith)

pub given-absent : {A B : Type 0} {a : A} → Given a ≡ Absent → B
given-absent h = not-absent (sym h)

pub wrong-absent : {A B : Type 0} → ◌≡◌ {A = OptionValue A} Wrong Absent → B
wrong-absent h = let z : ◌≡◌ {A = ℕ} 0 1 = cc in absurd (omega arith)
