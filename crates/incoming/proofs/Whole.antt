-- The payload of a message that was read is whole values: each is one value of the message's format, as deep as an element may be, and can be
-- written again. Assumes nothing.
use Prim.Native.Nat.{ℕ, ◌+◌, ◌≤◌, ◌<◌}
use mathlib.Core.Bool.{true}
use mathlib.Core.List.{List, [], ◌∷◌, ◌++◌, append_assoc, append-nil}
use mathlib.Core.Logic.{inl, inr, ⊎_elim}
use mathlib.Core.Path.{◌≡◌, refl, sym, ap, subst, ◌∙◌}
use native.Mathlib.Omega.{arith}
use lib.ListN.{length, length-append}
use Rattle.seq.specs.declared.Format.{Format}
use Rattle.seq.specs.declared.Format.TheVariants.{Json, MsgPack}
use Rattle.seq.specs.Lists.{All, joined}
use Rattle.seq.proofs.Rules.{all_both, all_append, all_back, all-parts}
use Rattle.utf8.specs.Utf8.{well_formed}
use Rattle.utf8.proofs.Table.{utf8-table}
use Rattle.utf8.proofs.Cuts.{cut}
use Rattle.lex.specs.Grammar.{OneOf, Ws}
use Rattle.json_text.specs.Grammar.{Rest, Array, Value}
use Rattle.json_text.proofs.Grammar.{whole-value}
use Rattle.msgpack.specs.Grammar as Packs
use Rattle.msgpack.proofs.Grammar.{packed-value}
use Rattle.values.specs.Skips.{Readable}
use Rattle.values.specs.Whole.{Whole}
use Rattle.incoming.specs.Incoming.{Incoming, Hello, Abort, Goodbye, Error, Publish, Subscribe, Unsubscribe, Call, Register, Unregister, Yield, Violation}
use Rattle.incoming.specs.Read.{read}
use Rattle.incoming.specs.Shapes.{Made, Shape}
use Rattle.incoming.proofs.Shapes.{sound}

-- ---- JSON: an element stands between two bytes of ASCII
-- well-formed, and no longer than a message
abbrev Formed : List ℕ → Type 0
Formed t = (well_formed t ≡ true) × (length t ≤ 2048)

abbrev Ascii : List ℕ → Type 0
Ascii t = All (λ b. b < 0x80) t

-- what stands on both sides of a byte of ASCII
byte_cut : (c : ℕ) → c < 0x80 → (a b : List ℕ) → Formed (a ++ (c ∷ b)) → Formed a × Formed b
byte_cut c l a b (h, n) =
    let (x, y) = cut c l b a h in
    let m : length (a ++ (c ∷ b)) ≡ length a + length (c ∷ b) = length-append a (c ∷ b) in
    ((x, omega arith), (y, omega arith))

-- what stands behind such bytes
past : (a r : List ℕ) → Ascii a → Formed (a ++ r) → Formed r
past [] r l h = h
past (c ∷ a) r l h = past a r l.1 (byte_cut c l.0 [] (a ++ r) h).1

-- what stands on both sides of them
between : (u a r : List ℕ) → Ascii a → 0 < length a → Formed (u ++ (a ++ r)) → Formed u × Formed r
between u [] r l n h = absurd (omega arith)
between u (c ∷ a) r l n h = let (x, y) = byte_cut c l.0 u (a ++ r) h in (x, past a r l.1 y)

ws-ascii : (w : List ℕ) → Ws w → Ascii w
ws-ascii w (ts, g, e) = subst Ascii (sym e) (go ts g)
  where
    one : (t : List ℕ) → OneOf " \t\n\r" t → Ascii t
    one t (inl q) = rw q (omega arith, tt)
    one t (inr (inl q)) = rw q (omega arith, tt)
    one t (inr (inr (inl q))) = rw q (omega arith, tt)
    one t (inr (inr (inr (inl q)))) = rw q (omega arith, tt)
    one t (inr (inr (inr (inr z)))) = absurd z

    go : (ts : List (List ℕ)) → All (OneOf " \t\n\r") ts → Ascii (joined (λ (part : List ℕ). part) ts)
    go [] g = tt
    go (t ∷ ts) g = all_append (λ b. b < 0x80) t (joined (λ (part : List ℕ). part) ts) (one t g.0) (go ts g.1)

-- a byte of ASCII, white space before it and after it
sign-ascii : (w t : List ℕ) (c : ℕ) (x : List ℕ) → c < 0x80 → Ws w → t ≡ c ∷ [] → Ws x → Ascii (w ++ (t ++ x)) × (0 < length (w ++ (t ++ x)))
sign-ascii w t c x l gw e gx =
    let a : Ascii (t ++ x) = subst (λ (v : List ℕ). Ascii (v ++ x)) (sym e) (l, ws-ascii x gx) in
    let m : length (w ++ (t ++ x)) ≡ length w + length (t ++ x) = length-append w (t ++ x) in
    let n : length (t ++ x) ≡ length t + length x = length-append t x in
    let k : length t ≡ 1 = ap length e in
    (all_append (λ b. b < 0x80) w (t ++ x) (ws-ascii w gw) a, omega arith)

-- an element u, and those that follow it
rest-cut : (u : List ℕ) (ts : List (List ℕ)) (t r : List ℕ) → Rest "]" ts t → Formed (u ++ (t ++ r)) → Formed u × All Formed ts × Formed r
rest-cut u [] t r (a, b, e, w, q) h =
    let (l, n) = sign-ascii a b 93 [] (omega arith) w q ([], tt, refl) in
    let z : t ≡ a ++ (b ++ []) = e ∙ ap (λ (x : List ℕ). a ++ x) (sym (append-nil b)) in
    let (x, y) = between u (a ++ (b ++ [])) r l n (subst (λ (v : List ℕ). Formed (u ++ (v ++ r))) z h) in
    (x, tt, y)
rest-cut u (v ∷ vs) t r (a, b, e, w, (c, d, e₂, q, (x, y, e₃, w₂, (i, j, e₄, k, g)))) h =
    let (l, n) = sign-ascii a c 44 x (omega arith) w q w₂ in
    let z : t ++ r ≡ (a ++ (c ++ x)) ++ (v ++ (j ++ r)) = rw (e, e₂, e₃, e₄, k) (simp append_assoc) in
    let (f, m) = between u (a ++ (c ++ x)) (v ++ (j ++ r)) l n (subst (λ (o : List ℕ). Formed (u ++ o)) z h) in
    let (fv, fs, fr) = rest-cut v vs j r g m in
    (f, (fv, fs), fr)

array-cut : (ts : List (List ℕ)) (t r : List ℕ) → Array ts t → Formed (t ++ r) → All Formed ts
array-cut [] t r g h = tt
array-cut (v ∷ vs) t r (a, b, e, q, (x, y, e₂, w, (i, j, e₃, k, g))) h =
    let (l, n) = sign-ascii [] a 91 x (omega arith) ([], tt, refl) q w in
    let z : t ++ r ≡ (a ++ x) ++ (v ++ (j ++ r)) = rw (e, e₂, e₃, k) (simp append_assoc) in
    let (fv, fs, fr) = rest-cut v vs j r g (past (a ++ x) (v ++ (j ++ r)) l (subst Formed z h)) in
    (fv, fs)

-- ---- the elements of a message are whole
pub made-whole : (f : Format) (es : List (List ℕ)) (s : List ℕ) → Made f es s → All (Whole f) es
made-whole Json es s (n, u, (l, gs, (w, y, e, gw, (t, z, e₂, g, gz)))) =
    let h : Formed y = past w y (ws-ascii w gw) (subst Formed e ((utf8-table s).1 u, l)) in
    all_both (Value 7) Formed (Whole Json) (λ v x (k, m). (whole-value 7 v x, (k, omega arith))) es gs (array-cut es t z g (subst Formed e₂ h))
made-whole MsgPack es s (n, u, (l, gs, (a, b, e, g, q))) =
    let h : All (λ c. c < 256) b = all_back (λ c. c < 256) a b (subst (All (λ c. c < 256)) e u) in
    all_both (Packs.Value 7) (Readable MsgPack) (Whole MsgPack) (λ v x k. ((packed-value 7 v).1 x, k)) es gs
    (all-parts (λ c. c < 256) es (subst (All (λ c. c < 256)) q h))

-- ---- the claim
-- the payload of a message, where it carries one
abbrev pub WholeIn : Format → Incoming → Type 0
WholeIn f (Hello realm) = Unit {0}
WholeIn f Abort = Unit {0}
WholeIn f Goodbye = Unit {0}
WholeIn f (Error v uri p) = All (Whole f) p
WholeIn f (Publish n acknowledge audience topic p) = All (Whole f) p
WholeIn f (Subscribe n policy topic) = Unit {0}
WholeIn f (Unsubscribe n id) = Unit {0}
WholeIn f (Call n procedure p) = All (Whole f) p
WholeIn f (Register n policy procedure) = Unit {0}
WholeIn f (Unregister n id) = Unit {0}
WholeIn f (Yield v p) = All (Whole f) p
WholeIn f Violation = Unit {0}

-- the payload is what is left of the list behind the elements that every message of its kind has
shape-whole : (f : Format) (m : Incoming) (s : List ℕ) → Shape f m s → WholeIn f m
shape-whole f (Hello realm) s x = tt
shape-whole f Abort s x = tt
shape-whole f Goodbye s x = tt
shape-whole f (Error v uri p) s (a, b, c, d, e, ia, ib, ic, gd, ge, gu, gp, m) = (made-whole f (a ∷ b ∷ c ∷ d ∷ e ∷ p) s m).1.1.1.1.1
shape-whole f (Publish n k u topic p) s (g, (a, b, c, d, ia, ib, gc, gd, m)) = (made-whole f (a ∷ b ∷ c ∷ d ∷ p) s m).1.1.1.1
shape-whole f (Subscribe n policy topic) s x = tt
shape-whole f (Unsubscribe n id) s x = tt
shape-whole f (Call n procedure p) s (g, (a, b, c, d, ia, ib, gc, gd, m)) = (made-whole f (a ∷ b ∷ c ∷ d ∷ p) s m).1.1.1.1
shape-whole f (Register n policy procedure) s x = tt
shape-whole f (Unregister n id) s x = tt
shape-whole f (Yield v p) s (a, b, c, ia, ib, gc, gp, m) = (made-whole f (a ∷ b ∷ c ∷ p) s m).1.1.1
shape-whole f Violation s x = absurd x

pub read_whole : (f : Format) (s : List ℕ) → WholeIn f (read f s)
read_whole f s = ⊎_elim (λ v. subst (WholeIn f) (sym v) tt) (shape-whole f (read f s) s) (sound f s)
