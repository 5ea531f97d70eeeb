-- How long a JSON value is in MsgPack: at most twice its bytes. Assumes nothing.
use Rattle.std.specs.Prelude.{Some}
use Prim.Native.Nat.{ℕ, zero, suc, ◌+◌, ◌*◌, ◌-◌, ◌≤◌, ◌<◌}
use mathlib.Core.List.{List, [], ◌∷◌}
use mathlib.Core.Logic.{⊎_elim}
use mathlib.Core.Path.{◌≡◌, refl, sym, ap, subst, ◌∙◌}
use native.Mathlib.Decide.{dec_le}
use native.Mathlib.Omega.{arith}
use borrow.Author.Tests.{eqb-true}
use lib.ListN.{length, take, drop, length-append}
use Rattle.seq.specs.Bytes.{is, is_digit, chars, byte_at, part, same}
use Rattle.seq.specs.Lists.{All, joined}
use Rattle.seq.proofs.Logic.{split}
use Rattle.seq.proofs.Rules.{all_append}
use Rattle.lex.specs.Lex.{past, some_digits, integer, first, next}
use Rattle.lex.specs.Grammar.{◌·◌, Many, Digit}
use Rattle.lex.proofs.Numbers.{digit}
use Rattle.lex.proofs.Stands.{Reads, reads_then, reads_none, one_found, many-none, past-found, to_same, to-bad}
use Rattle.lex.proofs.Tokens.{first_ended, first-went, next-ended, next-went, colon-went}
use Rattle.strings.proofs.Shorter.{undone-shorter}
use Rattle.json_text.specs.Json.{literal}
use Rattle.elements.specs.Kinds.{decimal as natural}
use Rattle.json_text.proofs.Items.{reads-part}
use Rattle.seq.specs.declared.Format.TheVariants.{Json, MsgPack}
use Rattle.values.specs.Value.{Value}
use Rattle.values.specs.Read.{Read, made}
use Rattle.values.specs.Read.Read.{Gives}
use Rattle.values.specs.Write.{pack_whole, pack_below, pack_str, pack_array, pack_map, pack_text, pack_scalar, pack_member, pack_layer, write}
use Rattle.values.specs.Stands.{json_scalar_at, onward, series, enclosed, json_member_at, json_layer_at, stands}
use Rattle.values.proofs.Given.{gives-not, then-gives, made-gives, onward-gives}
use Rattle.values.proofs.GivenJson.{Quoted, quoted-inside, Digits, positive, negative, json-scalar, json-layer, json-member}
use Rattle.values.proofs.PackLengths.{whole-one, whole-three, whole-nine, below-three, below-nine, str-length, array-length, map-length}

-- ---- digits
abbrev Low : List ℕ → Type 0
Low t = All (λ b. b ≤ 57) t

-- the number in at most two digits, and in at most four
two_digits : (t : List ℕ) → Low t → length t ≤ 2 → natural 0 t < 100
unfolding natural
two_digits [] a l = omega arith
two_digits (x ∷ []) a l = let (p, q) = a in omega arith
two_digits (x ∷ (y ∷ [])) (p, (q, r)) l = omega arith
two_digits (x ∷ (y ∷ (z ∷ t))) a l = absurd (omega arith)

four-digits : (t : List ℕ) → Low t → length t ≤ 4 → natural 0 t < 10000
unfolding natural
four-digits [] a l = omega arith
four-digits (w ∷ []) (p, q) l = omega arith
four-digits (w ∷ (x ∷ [])) (p, (q, r)) l = omega arith
four-digits (w ∷ (x ∷ (y ∷ []))) (p, (q, (r, o))) l = omega arith
four-digits (w ∷ (x ∷ (y ∷ (z ∷ [])))) (p, (q, (r, (o, u)))) l = omega arith
four-digits (w ∷ (x ∷ (y ∷ (z ∷ (u ∷ t))))) a l = absurd (omega arith)

digit_low : (t : List ℕ) → Digit t → Low t
digit_low t (b, (l, h), e) = rw e (h, tt)

many-low : (ts : List (List ℕ)) → All Digit ts → Low (joined (λ (t : List ℕ). t) ts)
many-low [] a = tt
many-low (t ∷ ts) (d, a) = all_append (λ b. b ≤ 57) t (joined (λ (t : List ℕ). t) ts) (digit_low t d) (many-low ts a)

module _ (s : List ℕ) where
  integer-digits : (at e : ℕ) → integer s at ≡ Some e → Reads (Digit · Many Digit) s at e
  unfolding integer some_digits
  integer-digits at e h =
      split (is "0" (byte_at s at))
      (λ t.
      let q : at + 1 ≡ e = to_same refl (rw t at h) in
      let z : byte_at s at ≡ 48 = eqb-true (byte_at s at) 48 t in
      reads_then s at (at + 1) e (one_found digit s at (at + 1) refl refl (rw z)) (reads_none s (at + 1) e q (many-none Digit)))
      (λ t. split (is_digit (byte_at s at))
      (λ d.
      let q : past is_digit s (at + 1) ≡ e = to_same refl (rw (t, d) at h) in
      reads_then s at (at + 1) e (one_found digit s at (at + 1) refl refl d) (rw q at (past-found digit refl s (at + 1)).0))
      (λ d. to-bad (rw (t, d) at h) refl))

  -- the bytes of an integer: some digits
  integer-low : (at e : ℕ) → integer s at ≡ Some e → (at < e) × (length (part at e s) ≡ e - at) × Low (part at e s)
  integer-low at e h = go (integer-digits at e h)
    where
      go : Reads (Digit · Many Digit) s at e → (at < e) × (length (part at e s) ≡ e - at) × Low (part at e s)
      go x =
          let (a, b, q, (c, l, k), (ts, all, w)) = x.good in
          let n = x.ends in
          let m = ap length q ∙ length-append a b in
          let o = ap length k in
          rw (reads-part x) (
            omega arith,
            omega arith,
            subst Low (sym q) (all_append (λ b. b ≤ 57) a b (digit_low a (c, l, k)) (subst Low (sym w) (many-low ts all))),
          )

  whole-fits : (at n e : ℕ) → Digits s at n e → (at < e) × (length (pack_whole n) ≤ 2 * (e - at))
  whole-fits at n e d =
      let (l, m, a) = integer-low at e d.ends in
      let q = d.is in (
        l,
        elim (dec_le (e - at) 2) [
          | yes p ↦ (let b = two_digits (part at e s) a (omega arith) in let c = whole-one n (omega arith) in omega arith)
          | no p ↦ elim (dec_le (e - at) 4) [
            | yes o ↦ (let b = four-digits (part at e s) a (omega arith) in let c = whole-three n (omega arith) in omega arith)
            | no o ↦ (let c = whole-nine n in omega arith)
          ]
        ],
      )

  below-fits : (at n e : ℕ) → Digits s at n e → (at < e) × (length (pack_below (n - 1)) ≤ 2 * (e - at) + 2)
  below-fits at n e d =
      let (l, m, a) = integer-low at e d.ends in
      let q = d.is in (
        l,
        elim (dec_le (e - at) 4) [
          | yes p ↦ (let b = four-digits (part at e s) a (omega arith) in let c = below-three (n - 1) (omega arith) in omega arith)
          | no p ↦ (let c = below-nine (n - 1) in omega arith)
        ],
      )

  literal-end : (w : List ℕ) (at e : ℕ) → literal w s at ≡ Some e → e ≡ at + length w
  unfolding literal
  literal-end w at e h =
      split (same (part at (at + length w) s) w) (λ t. sym (to_same refl (rw t at h))) (λ t. to-bad (rw t at h) refl)

-- ---- texts
all_take : (P : ℕ → Type 0) (n : ℕ) (t : List ℕ) → All P t → All P (take n t)
all_take P zero t a = tt
all_take P (suc n) [] a = tt
all_take P (suc n) (b ∷ t) a = (a.0, all_take P n t a.1)

all_drop : (P : ℕ → Type 0) (n : ℕ) (t : List ℕ) → All P t → All P (drop n t)
all_drop P zero t a = a
all_drop P (suc n) [] a = tt
all_drop P (suc n) (b ∷ t) a = all_drop P n t a.1

abbrev Fits : {A : Type 0} → (ℕ → Read A) → (A → List ℕ) → Type 0
Fits {A} item f = (at e : ℕ) (v : A) → item at ≡ Gives v e → (at < e) × (length (f v) ≤ 2 * (e - at))

-- ---- items with a comma between two of them: for each of them a byte, and one for the closing byte
module _ {A : Type 0} (item : ℕ → Read A) (f : A → List ℕ) (h : Fits item f) (close : ℕ) (shut : 0 < close) (s : List ℕ) where
  abbrev Room : ℕ → ℕ → List A → Type 0
  Room at e vs = (at < e) × (length (joined f vs) + 2 * length vs ≤ 2 * (e - at))

  series-fits : (fuel at e : ℕ) (vs : List A) → series item close fuel s at ≡ Gives vs e → Room at e vs
  unfolding series
  series-fits zero at e vs g = gives-not g refl
  series-fits (suc n) at e vs g =
      let (v, m, p, q) = then-gives (item at) (λ v e. made (λ vs. v ∷ vs) (onward (next close s e) (series item close n s))) vs e g in
      let (us, r, w) = made-gives (λ vs. v ∷ vs) (onward (next close s m) (series item close n s)) vs e q in
      let (l, k) = h at m v p in
      let rest : (m < e) × (length (joined f us) + 2 * length us + 2 ≤ 2 * (e - m)) =
      ⊎_elim
      (λ (x, y). let (a, b, c, d, o) = next-ended close s m e shut x in rw y (omega arith, omega arith))
      (λ (a, x, y).
      let (b, c, d, o, t, u, i) = next-went close s m a x in
      let (j, z) = series-fits n a e us y in
      (omega arith, omega arith))
      (onward-gives (next close s m) (series item close n s) us e r) in
      let (j, z) = rest in
      let o = length-append (f v) (joined f us) in
      rw w (omega arith, omega arith)

  enclosed-fits : (at e : ℕ) (vs : List A) → enclosed item close s at ≡ Gives vs e → Room at e vs
  unfolding enclosed
  enclosed-fits at e vs g =
      ⊎_elim
      (λ (x, y). let (a, b, c, d, o) = first_ended close s at e shut x in rw y (omega arith, omega arith))
      (λ (a, x, y).
      let i = (first-went close s at a x).ends in
      let (j, z) = series-fits (length s) a e vs y in
      (omega arith, omega arith))
      (onward-gives (first close s at) (series item close (length s) s) vs e g)

module _ (s : List ℕ) (a : All (λ b. b < 256) s) where
  text-fits : (at e : ℕ) (t : List ℕ) → Quoted s at t e → (at < e) × (length (pack_text t) ≤ 2 * (e - at))
  unfolding pack_text
  text-fits at e t q =
      let x = quoted-inside s at e q.ends in
      let b = part (at + 1) (e - 1) s in
      let l = undone-shorter b (all_take (λ b. b < 256) (e - 1 - (at + 1)) (drop (at + 1) s) (all_drop (λ b. b < 256) (at + 1) s a)) in
      let m = ap length q.is in
      let n = ap length x.is in
      let o = x.ends in
      let k = str-length (length t) in
      let i = length-append (pack_str (length t)) t in
      (omega arith, omega arith)

  scalar_fits : Fits (json_scalar_at s) pack_scalar
  unfolding pack_scalar
  scalar_fits at e v g =
      json-scalar s at (λ v e. (at < e) × (length (pack_scalar v) ≤ 2 * (e - at))) v e g
      (λ t b q. text-fits at e t q)
      (λ b k. negative s (at + 1) (λ v. (at < e) × (length (pack_scalar v) ≤ 2 * (e - at))) v e k
      (λ n d. let (l, m) = below-fits s (at + 1) n e d in let o = whole-one 0 (omega arith) in (omega arith, omega arith))
      (λ n d x y. let (l, m) = below-fits s (at + 1) n e d in (omega arith, omega arith)))
      (λ b k. positive s at (λ v. (at < e) × (length (pack_scalar v) ≤ 2 * (e - at))) v e k (λ n d x. whole-fits s at n e d))
      (λ b k. let l = literal-end s (chars "true") at e k in (omega arith, omega arith))
      (λ b k. let l = literal-end s (chars "false") at e k in (omega arith, omega arith))
      (λ b k. let l = literal-end s (chars "null") at e k in (omega arith, omega arith))

  member-fits : {A : Type 0} (item : ℕ → Read A) (f : A → List ℕ) → Fits item f → Fits (json_member_at item s) (pack_member f)
  unfolding pack_member
  member-fits item f h at e m g =
      let (j, i, q, c, p) = json-member item s at m e g in
      let (l, k) = text-fits at j m.key q in
      let (x, y, z, o, t, u, w) = colon-went s j i c in
      let (n, b) = h i e m.value p in
      let r = length-append (pack_text m.key) (f m.value) in
      (omega arith, omega arith)

  layer_fits : {A : Type 0} (item : ℕ → Read A) (f : A → List ℕ) → Fits item f → Fits (json_layer_at item s) (pack_layer f)
  unfolding pack_layer
  layer_fits item f h at e v g =
      json-layer s at item (λ v e. (at < e) × (length (pack_layer f v) ≤ 2 * (e - at))) v e g
      (λ vs b r.
      let (l, m) = enclosed-fits item f h 93 (omega arith) s (at + 1) e vs r in
      let n = array-length (length vs) in
      let o = length-append (pack_array (length vs)) (joined f vs) in
      (omega arith, omega arith))
      (λ ms b r.
      let (l, m) = enclosed-fits (json_member_at item s) (pack_member f) (member-fits item f h) 125 (omega arith) s (at + 1) e ms r in
      let n = map-length (length ms) in
      let o = length-append (pack_map (length ms)) (joined (pack_member f) ms) in
      (omega arith, omega arith))
      (λ u n m r. scalar_fits at e u r)

  value-fits : (depth : ℕ) → Fits (stands Json depth s) (write MsgPack depth)
  unfolding stands write
  value-fits zero at e v g = scalar_fits at e v g
  value-fits (suc d) at e v g = layer_fits (stands Json d s) (write MsgPack d) (value-fits d) at e v g

pub to-pack : (depth : ℕ) (s : List ℕ) → All (λ b. b < 256) s → (at e : ℕ) (v : Value depth) → stands Json depth s at ≡ Gives v e
    → length (write MsgPack depth v) ≤ 2 * (e - at)
to-pack depth s a at e v g = (value-fits s a depth at e v g).1
