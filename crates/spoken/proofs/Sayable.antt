-- The texts that the hub sends can be sent: its own URIs, and every URI of UTF-8. Assumes nothing.
use Prim.Native.Nat.{ℕ, ◌<◌, ◌≤◌}
use mathlib.Core.Bool.{true, ◌&&◌}
use mathlib.Core.List.{List}
use mathlib.Core.Path.{◌≡◌, refl}
use native.Mathlib.Omega.{arith}
use borrow.Author.Tests.{leb-true, ltb-true}
use lib.Dec.{leb, ltb}
use lib.ListN.{length}
use Rattle.seq.specs.declared.Format.{Format}
use Rattle.seq.specs.declared.Format.TheVariants.{Json, MsgPack}
use Rattle.seq.specs.Lists.{All, every}
use Rattle.seq.proofs.Logic.{and_left, and_right}
use Rattle.seq.proofs.Rules.{all_map, every-all}
use Rattle.uri.specs.declared.Policy.{Policy}
use Rattle.uri.specs.Rule.{Clean, UriText}
use Rattle.utf8.specs.Utf8.{well_formed}
use Rattle.utf8.proofs.Table.{utf8-table}
use Rattle.values.specs.Value.{GoodText}
use Rattle.outgoing.specs.declared.Uri.{Uri}
use Rattle.outgoing.specs.declared.Uri.TheVariants.{ProtocolViolation, NoSuchRealm, GoodbyeAndOut, InvalidArgument, InvalidUri, ProcedureAlreadyExists}
use Rattle.outgoing.specs.declared.Uri.TheVariants.{NoSuchProcedure, NoSuchSubscription, NoSuchRegistration, NoRoom, Canceled, NotConvertible}
use Rattle.outgoing.specs.Outgoing.{uri_text}
use Rattle.spoken.specs.Sent.{Sayable}
use Rattle.spoken.proofs.Utf8.{ascii-encoded}

-- of UTF-8, without control characters
sayable : (f : Format) (t : List ℕ) → GoodText t → All (λ b. 0x20 ≤ b) t → Sayable f t
sayable Json t g a = (g, a)
sayable MsgPack t g a = g

pub uri-sayable : (f : Format) (p : Policy) (t : List ℕ) → well_formed t ≡ true → UriText p t → Sayable f t
uri-sayable f p t u (l, m, a, d) =
    sayable f t (record { utf8 = u; sized = omega arith }) (all_map Clean (λ b. 0x20 ≤ b) (λ b c. let h = c.0 in omega arith) t a)

-- printable ASCII
abbrev Printable : ℕ → Type 0
Printable b = (leb 0x20 b && ltb b 0x80) ≡ true

printable : (f : Format) (t : List ℕ) → length t < 128 → every (λ b. leb 0x20 b && ltb b 0x80) t ≡ true → Sayable f t
printable f t l e =
    let a = every-all (λ b. leb 0x20 b && ltb b 0x80) t e in
    let low = all_map Printable (λ b. 0x20 ≤ b) (λ b h. leb-true 0x20 b (and_left _ _ h)) t a in
    let high = all_map Printable (λ b. b < 0x80) (λ b h. ltb-true b 0x80 (and_right (leb 0x20 b) _ h)) t a in
    sayable f t (record { utf8 = (utf8-table t).1 (ascii-encoded t high); sized = omega arith }) low

pub own-sayable : (f : Format) (u : Uri) → Sayable f (uri_text u)
unfolding every
own-sayable f ProtocolViolation = printable f _ (omega arith) refl
own-sayable f NoSuchRealm = printable f _ (omega arith) refl
own-sayable f GoodbyeAndOut = printable f _ (omega arith) refl
own-sayable f InvalidArgument = printable f _ (omega arith) refl
own-sayable f InvalidUri = printable f _ (omega arith) refl
own-sayable f ProcedureAlreadyExists = printable f _ (omega arith) refl
own-sayable f NoSuchProcedure = printable f _ (omega arith) refl
own-sayable f NoSuchSubscription = printable f _ (omega arith) refl
own-sayable f NoSuchRegistration = printable f _ (omega arith) refl
own-sayable f NoRoom = printable f _ (omega arith) refl
own-sayable f Canceled = printable f _ (omega arith) refl
own-sayable f NotConvertible = printable f _ (omega arith) refl
