-- Both formats: reading what was written gives the value back; and where a value stands, the reader of messages goes over it, and over nothing
-- more. Assumes nothing.
use Rattle.std.specs.Prelude.{Some, None, Option}
use Prim.Native.Nat.{ℕ, ◌+◌}
use mathlib.Core.List.{List}
use mathlib.Core.Path.{◌≡◌, refl, ap, subst, sym}
use native.Mathlib.Omega.{arith}
use lib.ListN.{length, get_or-eq_default}
use Rattle.seq.specs.Bytes.{byte_at}
use Rattle.seq.specs.declared.Format.{Format}
use Rattle.seq.specs.declared.Format.TheVariants.{Json, MsgPack}
use Rattle.values.specs.Value.{Value, Good}
use Rattle.values.specs.Read.{Read}
use Rattle.values.specs.Read.Read.{Gives}
use Rattle.values.specs.Write.{write}
use Rattle.values.specs.Stands.{stands}
use Rattle.values.specs.Skips.{skips}
use Rattle.seq.proofs.Holds.{Holds, holds-self}
use Rattle.values.proofs.Numbers.{Stops}
use Rattle.values.proofs.Packed.{pack-back}
use Rattle.values.proofs.Jsoned.{json-back}
use Rattle.values.proofs.InStep.{Agree}
use Rattle.values.proofs.InStepPack.{pack-agree}
use Rattle.values.proofs.InStepJson.{json-agree}

-- ---- what was written
-- what may stand behind a value
abbrev pub Ends : Format → ℕ → Type 0
Ends Json b = Stops b
Ends MsgPack b = Unit {0}

pub none : (f : Format) → Ends f 0
none Json = record { digit = refl; rest = refl }
none MsgPack = tt

-- wherever a value's bytes stand, they are read as that value
pub back : (f : Format) (s : List ℕ) (depth : ℕ) (v : Value depth) → Good depth v → (at : ℕ) → Holds s at (write f depth v)
    → Ends f (byte_at s (at + length (write f depth v))) → stands f depth s at ≡ Gives v (at + length (write f depth v))
back Json s depth v g at h e = json-back s depth v g at h e
back MsgPack s depth v g at h e = pack-back s depth v g at h

-- behind a text's last byte nothing stands
ends-self : (f : Format) (w : List ℕ) → Ends f (byte_at w (0 + length w))
ends-self f w =
    let e : byte_at w (0 + length w) ≡ 0 = get_or-eq_default w 0 {n = 0 + length w} (omega arith) in
    subst (Ends f) (sym e) (none f)

-- a text that was written stands for what was written
pub written_back : (f : Format) (depth : ℕ) (v : Value depth) → Good depth v → stands f depth (write f depth v) 0 ≡ Gives v (length (write f depth v))
written_back f depth v g =
    let z : 0 + length (write f depth v) ≡ length (write f depth v) = omega arith in
    rw z at (back f (write f depth v) depth v g 0 (holds-self (write f depth v)) (ends-self f (write f depth v)))

-- ---- where a value stands
in_step : (f : Format) (s : List ℕ) (depth at : ℕ) → Agree (Good depth) (stands f depth s at) (skips f depth s at)
in_step Json s depth at = json-agree s depth at
in_step MsgPack s depth at = pack-agree s depth at

-- the reader of messages, if it takes a value there, ends where that value ends
pub agree : (f : Format) (s : List ℕ) (depth at : ℕ) (v : Value depth) (e e' : ℕ) → stands f depth s at ≡ Gives v e → skips f depth s at ≡ Some e' → e ≡ e'
agree f s depth at v e e' p q =
    let a : Agree (Good depth) (Gives v e) (skips f depth s at) =
    subst (λ (r : Read (Value depth)). Agree (Good depth) r (skips f depth s at)) p (in_step f s depth at) in
    subst (λ (k : Option ℕ). Agree (Good depth) (Gives v e) k) q a

-- and it takes a value that can be written
taken_of : (depth : ℕ) (v : Value depth) (e : ℕ) → Good depth v → (k : Option ℕ) → Agree (Good depth) (Gives v e) k → k ≡ Some e
taken_of depth v e g (Some z) h = ap Some (sym h)
taken_of depth v e g None h = absurd (h g)

pub taken : (f : Format) (s : List ℕ) (depth at : ℕ) (v : Value depth) (e : ℕ) → Good depth v → stands f depth s at ≡ Gives v e → skips f depth s at ≡ Some e
taken f s depth at v e g p =
    taken_of depth v e g (skips f depth s at)
    (subst (λ (r : Read (Value depth)). Agree (Good depth) r (skips f depth s at)) p (in_step f s depth at))

-- a value that was written is taken up to its end, wherever its bytes stand
pub over : (f : Format) (s : List ℕ) (depth : ℕ) (v : Value depth) → Good depth v → (at : ℕ) → Holds s at (write f depth v)
    → Ends f (byte_at s (at + length (write f depth v))) → skips f depth s at ≡ Some (at + length (write f depth v))
over f s depth v g at h e = taken f s depth at v (at + length (write f depth v)) g (back f s depth v g at h e)

pub written_over : (f : Format) (depth : ℕ) (v : Value depth) → Good depth v → skips f depth (write f depth v) 0 ≡ Some (length (write f depth v))
written_over f depth v g = taken f (write f depth v) depth 0 v (length (write f depth v)) g (written_back f depth v g)
