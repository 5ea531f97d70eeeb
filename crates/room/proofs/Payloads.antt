-- How long the payload of a message that was read can be, in either format, and what it is converted to: the elements of a message's list do not
-- overlap, so a payload's list and dict are together shorter than the message. Assumes nothing.
use Prim.Native.Nat.{ℕ, ◌+◌, ◌*◌, ◌≤◌, ◌<◌}
use mathlib.Core.List.{List, [], ◌∷◌, ◌++◌}
use mathlib.Core.Logic.{inl, inr, ⊎_elim}
use mathlib.Core.Path.{◌≡◌, refl, sym, ap, subst, ◌∙◌}
use native.Mathlib.Omega.{arith}
use lib.Dec.{ltb}
use lib.ListN.{length, length-append}
use borrow.Author.Tests.{ltb-true}
use Rattle.seq.specs.declared.Format.{Format}
use Rattle.seq.specs.declared.Format.TheVariants.{Json, MsgPack}
use Rattle.seq.specs.Bytes.{Payload}
use Rattle.seq.specs.Lists.{All, joined}
use Rattle.seq.proofs.Logic.{cond-case}
use Rattle.seq.proofs.Rules.{all_append}
use Rattle.uri.specs.Uri.{longest}
use Rattle.utf8.specs.Table.{Scalar, encoding}
use Rattle.utf8.proofs.Table.{utf8-table}
use Rattle.json_text.specs.Grammar.{Rest, Array}
use Rattle.msgpack.specs.Grammar.{ArrayHead}
use Rattle.elements.specs.Elements.{inner_depth}
use Rattle.values.specs.Value.{Value}
use Rattle.values.specs.Read.{Read, made}
use Rattle.values.specs.Read.Read.{Gives, Not}
use Rattle.values.specs.Write.{write}
use Rattle.values.specs.Stands.{stands}
use Rattle.values.specs.Whole.{Whole}
use Rattle.values.proofs.Both.{agree}
use Rattle.values.proofs.Sizes.{to-json, to-pack}
use Rattle.conversion.specs.Converts.{convert}
use Rattle.conversion.specs.Carried.{Carried, As, NotConvertible, ahead, converted, carried}
use Rattle.incoming.specs.Incoming.{Incoming, Hello, Abort, Goodbye, Error, Publish, Subscribe, Unsubscribe, Call, Register, Unregister, Yield, Violation}
use Rattle.incoming.specs.Read.{read}
use Rattle.incoming.specs.Shapes.{Made, IsPayload, Shape}
use Rattle.incoming.proofs.Shapes.{sound}
use Rattle.incoming.proofs.Whole.{WholeIn, read_whole}

-- ---- texts together
-- how many bytes they have
abbrev pub size : List (List ℕ) → ℕ
size [] = 0
size (t ∷ ts) = length t + size ts

pub size-joined : (ts : List (List ℕ)) → length (joined (λ (t : List ℕ). t) ts) ≡ size ts
size-joined [] = refl
size-joined (t ∷ ts) = length-append t (joined (λ (t : List ℕ). t) ts) ∙ ap (λ (n : ℕ). length t + n) (size-joined ts)

-- a text of two parts
two-parts : {t : List ℕ} (a b : List ℕ) → t ≡ a ++ b → length t ≡ length a + length b
two-parts a b e = ap length e ∙ length-append a b

-- ---- a message's elements are together shorter than the message
rest-size : (ts : List (List ℕ)) (t : List ℕ) → Rest "]" ts t → size ts + 1 ≤ length t
rest-size [] t (a, b, e, w, q) = let n = two-parts a b e in let k = ap length q in omega arith
rest-size (u ∷ us) t (a, b, e, w, (c, d, e₂, q, (x, y, e₃, w₂, (i, j, e₄, k, g)))) =
    let l = two-parts a b e in
    let m = two-parts c d e₂ in
    let n = two-parts x y e₃ in
    let o = two-parts i j e₄ in
    let p = ap length k in
    omega (arith, rest-size us j g)

array_size : (ts : List (List ℕ)) (t : List ℕ) → Array ts t → size ts + 1 ≤ length t
array_size [] t (a, b, e, q, g) = let n = two-parts a b e in let k = ap length q in omega arith
array_size (u ∷ us) t (a, b, e, q, (x, y, e₂, w, (i, j, e₃, k, g))) =
    let l = two-parts a b e in
    let m = two-parts x y e₂ in
    let n = two-parts i j e₃ in
    let o = ap length k in
    omega (arith, rest-size us j g)

head-size : (n : ℕ) (t : List ℕ) → ArrayHead n t → 1 ≤ length t
head-size n t (inl (l, e)) = let k = ap length e in omega arith
head-size n t (inr (inl (a, b, e, q, g))) = let k = ap length q in let m = two-parts a b e in omega arith
head-size n t (inr (inr (a, b, e, q, g))) = let k = ap length q in let m = two-parts a b e in omega arith

made-size : (f : Format) (es : List (List ℕ)) (s : List ℕ) → Made f es s → size es ≤ 2047
made-size Json es s (n, u, (l, gs, (w, y, e, gw, (t, z, e₂, g, gz)))) =
    let m = two-parts w y e in let o = two-parts t z e₂ in omega (arith, array_size es t g)
made-size MsgPack es s (n, u, (l, gs, (a, b, e, g, q))) =
    let m = two-parts a b e in let o = ap length q ∙ size-joined es in omega (arith, head-size (length es) a g)

-- ---- what is read
-- a list and a dict at most, of so many bytes together
abbrev pub Short : ℕ → Payload → Type 0
Short n p = (length p ≤ 2) × (size p ≤ n)

-- a payload that came in a format
abbrev pub Came : Format → Payload → Type 0
Came f p = All (Whole f) p × Short 2047 p

payload-few : (f : Format) (p : Payload) → IsPayload f p → length p ≤ 2
payload-few f p (inl e) = let k = ap length e in omega arith
payload-few f p (inr (inl (list, g, e))) = let k = ap length e in omega arith
payload-few f p (inr (inr (list, dict, g, d, e))) = let k = ap length e in omega arith

-- payloads are short, and an ERROR's URI keeps its rule
abbrev pub Fits : Format → Incoming → Type 0
Fits f (Hello realm) = Unit {0}
Fits f Abort = Unit {0}
Fits f Goodbye = Unit {0}
Fits f (Error v uri p) = (length uri ≤ longest) × Came f p
Fits f (Publish n acknowledge audience topic p) = Came f p
Fits f (Subscribe n policy topic) = Unit {0}
Fits f (Unsubscribe n id) = Unit {0}
Fits f (Call n procedure p) = Came f p
Fits f (Register n policy procedure) = Unit {0}
Fits f (Unregister n id) = Unit {0}
Fits f (Yield v p) = Came f p
Fits f Violation = Unit {0}

shape-fits : (f : Format) (m : Incoming) (s : List ℕ) → WholeIn f m → Shape f m s → Fits f m
shape-fits f (Hello realm) s w x = tt
shape-fits f Abort s w x = tt
shape-fits f Goodbye s w x = tt
shape-fits f (Error v uri p) s w (a, b, c, d, e, ia, ib, ic, gd, ge, gu, gp, m) =
    (gu.1, (w, (payload-few f p gp, omega (arith, made-size f (a ∷ b ∷ c ∷ d ∷ e ∷ p) s m))))
shape-fits f (Publish n k u topic p) s w (g, (a, b, c, d, ia, ib, gc, gd, m)) =
    (w, (payload-few f p g, omega (arith, made-size f (a ∷ b ∷ c ∷ d ∷ p) s m)))
shape-fits f (Subscribe n policy topic) s w x = tt
shape-fits f (Unsubscribe n id) s w x = tt
shape-fits f (Call n procedure p) s w (g, (a, b, c, d, ia, ib, gc, gd, m)) =
    (w, (payload-few f p g, omega (arith, made-size f (a ∷ b ∷ c ∷ d ∷ p) s m)))
shape-fits f (Register n policy procedure) s w x = tt
shape-fits f (Unregister n id) s w x = tt
shape-fits f (Yield v p) s w (a, b, c, ia, ib, gc, gp, m) = (w, (payload-few f p gp, omega (arith, made-size f (a ∷ b ∷ c ∷ p) s m)))
shape-fits f Violation s w x = absurd x

pub read_fits : (f : Format) (s : List ℕ) → Fits f (read f s)
read_fits f s = ⊎_elim (λ v. subst (Fits f) (sym v) tt) (shape-fits f (read f s) s (read_whole f s)) (sound f s)

-- ---- what it is converted to
-- UTF-8 is bytes
abbrev Bytes : List ℕ → Type 0
Bytes t = All (λ b. b < 256) t

low : (c : ℕ) → Scalar c → c ≤ 0x10ffff
low c (inl l) = omega arith
low c (inr (k, l)) = l

encoding-bytes : (c : ℕ) → Scalar c → Bytes (encoding c)
unfolding encoding
encoding-bytes c s =
    let m = low c s in
    cond-case Bytes (ltb c 0x80) _ _ (λ t. let l = ltb-true c 0x80 t in (omega arith, tt))
    (λ t. cond-case Bytes (ltb c 0x800) _ _ (λ t. let l = ltb-true c 0x800 t in (omega arith, (omega arith, tt)))
    (λ t. cond-case Bytes (ltb c 0x10000) _ _ (λ t. let l = ltb-true c 0x10000 t in (omega arith, (omega arith, (omega arith, tt))))
    (λ t. (omega arith, (omega arith, (omega arith, (omega arith, tt)))))))

encoded-bytes : (cs : List ℕ) → All Scalar cs → Bytes (joined encoding cs)
encoded-bytes [] a = tt
encoded-bytes (c ∷ cs) a = all_append (λ b. b < 256) (encoding c) (joined encoding cs) (encoding-bytes c a.0) (encoded-bytes cs a.1)

whole-bytes : (f : Format) (v : List ℕ) → Whole f v → Bytes v
whole-bytes Json v w = let (cs, a, e) = (utf8-table v).0 w.1.0 in subst Bytes (sym e) (encoded-bytes cs a)
whole-bytes MsgPack v w = w.1

-- what a conversion gives is as long as it may be
abbrev Longer : Payload → Carried → Type 0
Longer p (As q) = (length q ≡ length p) × (size q ≤ 6 * size p)
Longer p NotConvertible = Unit {0}

module _ (f g : Format)
    (each : (v : List ℕ) → Whole f v → (x : Value inner_depth) (e : ℕ) → stands f inner_depth v 0 ≡ Gives x e → length (write g inner_depth x) ≤ 6 * length v) where
  longer-ahead : (v : List ℕ) (p : Payload) → Whole f v → (r : Read (Value inner_depth)) → stands f inner_depth v 0 ≡ r
      → (c : Carried) → Longer p c → Longer (v ∷ p) (ahead (made (write g inner_depth) r) c)
  longer-ahead v p w (Gives x e) k (As q) l = let (m, n) = l in (omega arith, omega (arith, each v w x e k))
  longer-ahead v p w (Gives x e) k NotConvertible l = tt
  longer-ahead v p w Not k c l = tt

  longer : (p : Payload) → All (Whole f) p → Longer p (converted f g p)
  unfolding converted convert
  longer [] a = (refl, omega arith)
  longer (v ∷ p) a = longer-ahead v p a.0 (stands f inner_depth v 0) refl (converted f g p) (longer p a.1)

-- a value of n bytes has at most 2n in MessagePack, and 6n in JSON
value-packed : (v : List ℕ) → Whole Json v → (x : Value inner_depth) (e : ℕ) → stands Json inner_depth v 0 ≡ Gives x e → length (write MsgPack inner_depth x) ≤ 6 * length v
value-packed v w x e k =
    let d = agree Json v inner_depth 0 x e (length v) k w.0 in omega (arith, to-pack inner_depth v (whole-bytes Json v w) 0 e x k)

value-spelled : (v : List ℕ) → Whole MsgPack v → (x : Value inner_depth) (e : ℕ) → stands MsgPack inner_depth v 0 ≡ Gives x e → length (write Json inner_depth x) ≤ 6 * length v
value-spelled v w x e k =
    let d = agree MsgPack v inner_depth 0 x e (length v) k w.0 in omega (arith, to-json inner_depth v (whole-bytes MsgPack v w) 0 e x k)

carried-longer : (f g : Format) (p : Payload) → All (Whole f) p → Longer p (carried f g p)
unfolding carried
carried-longer Json Json p a = (refl, omega arith)
carried-longer MsgPack MsgPack p a = (refl, omega arith)
carried-longer Json MsgPack p a = longer Json MsgPack value-packed p a
carried-longer MsgPack Json p a = longer MsgPack Json value-spelled p a

-- the most bytes of a payload that is sent
abbrev pub most_payload : ℕ
most_payload = 12282

pub carried-short : (f g : Format) (p q : Payload) → Came f p → carried f g p ≡ As q → Short most_payload q
carried-short f g p q (w, (n, l)) e = let (m, k) = subst (Longer p) e (carried-longer f g p w) in (omega arith, omega arith)
