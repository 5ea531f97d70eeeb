-- Laws of specs/Read.antt and specs/Meaning.antt. Assumes nothing.
use Rattle.std.specs.Prelude.{Some, None, Option}
use mathlib.Core.Path.{◌≡◌, sym, ap, ◌∙◌}
use Prim.Native.Nat.{ℕ, zero, suc, ◌+◌, ◌-◌, ◌≤◌, ◌<◌}
use mathlib.Core.List.{List, [], ◌∷◌}
use mathlib.Core.Bool.{Bool, true, false, cond}
use native.Mathlib.Omega.{arith}
use lib.ListN.{length, take, drop, length-drop}
use lib.Seq.{drop-drop, take-nil}
use borrow.Table.Elements.{take-le}
use lib.Dec.{eqb}
use borrow.Author.Tests.{le-leb, lt-leb, ne_eqb, eq-eqb}
use Rattle.seq.specs.declared.Format.{Format}
use Rattle.seq.specs.declared.Span.{Span}
use Rattle.seq.specs.Bytes.{chars, part, text_of, same, payload_of, Payload}
use Rattle.seq.specs.declared.PayloadSpans.{PayloadSpans}
use Rattle.seq.proofs.Logic.{cond_same}
use Rattle.uri.specs.declared.Policy.TheVariants.{Exact, Prefix, Wildcard}
use Rattle.uri.specs.Uri.{valid_error}
use Rattle.json_text.specs.Json.{max_bytes}
use Rattle.elements.specs.declared.Elements.{Elements}
use Rattle.elements.specs.Elements.{at}
use Rattle.elements.proofs.Laws.{padded-at}
use Rattle.incoming.specs.Incoming.{Incoming, Abort, Goodbye, Error, Unsubscribe, Unregister, Violation}
use Rattle.incoming.specs.Read.{spans_in, id_in, text_by, text_in, sound_by, sound_text, option, is_string, inside, policy_named, policy_of, sound_value}
use Rattle.incoming.specs.Read.{sound_match, match_in, with_payload, by_number, interpret, encoded, read}
use Rattle.incoming.specs.Read.{hello, ending, failure, publish, subscribe, call, register, release, yield}
use Rattle.parser.specs.Meaning.{held_in, on_tail}

-- ---- a test of a number
module _ {A : Type 0} (k n : ℕ) (x y : A) where
  pub cond_yes : k ≡ n → cond (eqb k n) x y ≡ x
  cond_yes h = rw (eq-eqb k n h)

  pub cond_no : (k ≡ n → ⊥) → cond (eqb k n) x y ≡ y
  cond_no h = rw (ne_eqb k n h)

-- ---- an empty span stays empty without quotes
pub unquoted-none : (s : List ℕ) (f t : ℕ) → t ≤ f → part f t s ≡ part (f + 1) (t - 1) s
unquoted-none s f t h =
    let z : t - f ≡ 0 = omega arith in
    let y : t - 1 - (f + 1) ≡ 0 = omega arith in
    rw (z, y)

-- ---- a span without the head of what stands in it
pub drop-take : (n e : ℕ) (xs : List ℕ) → drop e (take n xs) ≡ take (n - e) (drop e xs)
drop-take n zero xs = let z : n - 0 ≡ n = omega arith in rw z
drop-take zero (suc e) xs = let z : 0 - suc e ≡ 0 = omega arith in rw z
drop-take (suc n) (suc e) [] = sym (take-nil (suc n - suc e))
drop-take (suc n) (suc e) (x ∷ xs) = let z : suc n - suc e ≡ n - e = omega arith in rw z (drop-take n e xs)

module _ (s : List ℕ) (f t : ℕ) where
  -- what is left is behind the head
  pub behind-is : (e : ℕ) → part (f + e) t s ≡ drop e (part f t s)
  behind-is e =
      let z : t - (f + e) ≡ t - f - e = omega arith in
      rw (z, ← drop-drop e f s) (sym (drop-take (t - f) e (drop f s)))

  -- and it ends within the text, where the span does
  pub behind-in : (e : ℕ) → e ≤ length (part f t s) → e ≤ length s - f
  behind-in e h =
      let d : length (drop f s) ≡ length s - f = length-drop f s in
      let u : length (part f t s) ≤ length (drop f s) = take-le (t - f) (drop f s) in
      omega arith

-- ---- the message that follows a payload, if one was found
module _ (s : List ℕ) (f : Payload → Incoming) (r : Option PayloadSpans) (w : Incoming) (e : on_tail s r f ≡ w) where
  pub payload-fits : (p : PayloadSpans) → r ≡ Some p → f (payload_of s p) ≡ w
  payload-fits p h = ap (λ (x : Option PayloadSpans). on_tail s x f) (sym h) ∙ e

  pub payload-wrong : r ≡ None → Violation ≡ w
  payload-wrong h = ap (λ (x : Option PayloadSpans). on_tail s x f) (sym h) ∙ e

-- ---- a value, which is a string or not
module _ (f : Format) (v : List ℕ) (b : Bool) (eb : b ≡ is_string f v) where
  pub sound-other : b ≡ false → true ≡ sound_value f v
  sound-other h = rw (sym eb, h)

  pub sound-string : b ≡ true → (r : Bool) → r ≡ sound_by f (inside f v) → r ≡ sound_value f v
  sound-string h r e = rw (sym eb, h, e)

-- ---- the option `match`: v is its value, r1 to r3 what the comparisons with the text t gave
module _ (t : List ℕ) (r1 : Bool) (e1 : r1 ≡ same t (chars "exact")) where
  pub policy-exact : r1 ≡ true → Some Exact ≡ policy_named t
  unfolding policy_named
  policy-exact h = rw (sym e1, h)

  module _ (h1 : r1 ≡ false) (r2 : Bool) (e2 : r2 ≡ same t (chars "prefix")) where
    pub policy-prefix : r2 ≡ true → Some Prefix ≡ policy_named t
    unfolding policy_named
    policy-prefix h = rw (sym e1, h1, sym e2, h)

    module _ (h2 : r2 ≡ false) (r3 : Bool) (e3 : r3 ≡ same t (chars "wildcard")) where
      pub policy-wildcard : r3 ≡ true → Some Wildcard ≡ policy_named t
      unfolding policy_named
      policy-wildcard h = rw (sym e1, h1, sym e2, h2, sym e3, h)

      pub policy-other : r3 ≡ false → None ≡ policy_named t
      unfolding policy_named
      policy-other h = rw (sym e1, h1, sym e2, h2, sym e3, h)

pub policy-absent : (f : Format) (v : List ℕ) → length v ≡ 0 → Some Exact ≡ policy_of f v
unfolding policy_of
policy-absent f v h = rw h

module _ (f : Format) (v : List ℕ) (h0 : length v ≡ 0 → ⊥) (b : Bool) (eb : b ≡ is_string f v) where
  pub policy-none : b ≡ false → None ≡ policy_of f v
  unfolding policy_of
  policy-none h = rw (ne_eqb (length v) 0 h0, sym eb, h)

  pub policy-string : b ≡ true → policy_named (text_by f (inside f v)) ≡ policy_of f v
  unfolding policy_of
  policy-string h = rw (ne_eqb (length v) 0 h0, sym eb, h)

module _ (f : Format) (s : List ℕ) (options : Span) (v : List ℕ) (ev : v ≡ option f (chars "match") s options) where
  pub sound-match : sound_match f s options ≡ sound_value f v
  unfolding sound_match
  sound-match = rw ev

  pub match_is : policy_of f v ≡ match_in f s options
  unfolding match_in
  match_is = rw ev

-- ---- ERROR: n is the ID in its second element, r whether no lone half stands in its URI
module _ (f : Format) (s : List ℕ) (kinds : ℕ) (type invocation uri list dict : Span) (r : Bool) (er : r ≡ sound_text f s uri) where
  abbrev IsError : Incoming → Type 0
  IsError x = x ≡ failure f s kinds type invocation uri list dict

  -- what is read where the URI keeps the URI rule
  abbrev Fitting : Incoming → Type 0
  Fitting x = x ≡ with_payload kinds 11142 (text_of s list) (text_of s dict) λ p. Error (id_in f s invocation) (text_in f s uri) p

  pub failure-lone : r ≡ false → IsError Violation
  unfolding failure
  failure-lone h = rw (sym er, h)

  module _ (h : r ≡ true) (n : ℕ) (en : n ≡ id_in f s type) where
    pub failure-other : (n ≡ 68 → ⊥) → IsError Violation
    unfolding failure
    failure-other k = rw (sym er, h, sym en, ne_eqb n 68 k)

    module _ (k : n ≡ 68) where
      pub failure-is : (x : Incoming) → Fitting x → IsError (cond (valid_error (text_in f s uri)) x Violation)
      unfolding failure
      failure-is x e = rw (sym er, h, sym en, k, e)

      pub failure-wrong : Fitting Violation → IsError Violation
      failure-wrong e = sym (cond_same (valid_error (text_in f s uri)) Violation) ∙ failure-is Violation e

-- ---- by the message number n: r holds the elements, x is what was read
-- a number is none of some others
abbrev pub Differs : ℕ → List ℕ → Type 0
Differs n [] = Unit {0}
Differs n (k ∷ ks) = Differs n ks × (n ≡ k → ⊥)

held_at : (f : Format) (s : List ℕ) (ps : List Span) (k : ℕ) → at k (held_in f s ps).spans ≡ at k ps
held_at f s ps k = padded-at ps (7 - length ps) k

module _ (f : Format) (s : List ℕ) (r : Elements) (er : r ≡ held_in f s (spans_in f s)) (n : ℕ) (en : n ≡ id_in f s (at 0 r.spans))
    (x : Incoming) where
  abbrev el : ℕ → Span
  el k = at k r.spans

  -- x is the message if it is y
  abbrev By : Incoming → Type 0
  By y = x ≡ y → x ≡ interpret f s (spans_in f s)

  numbered : by_number f s n r.kinds (el 1) (el 2) (el 3) (el 4) (el 5) (el 6) ≡ interpret f s (spans_in f s)
  unfolding interpret
  numbered =
      let ps = spans_in f s in
      rw (en, er, held_at f s ps 0, held_at f s ps 1, held_at f s ps 2, held_at f s ps 3, held_at f s ps 4, held_at f s ps 5, held_at f s ps 6)

  pub by-1 : n ≡ 1 → By (hello f s r.kinds (el 1))
  unfolding by_number
  by-1 h e = e ∙ rw (← numbered, h)

  pub by-3 : n ≡ 3 → By (ending Abort r.kinds)
  unfolding by_number
  by-3 h e = e ∙ rw (← numbered, h)

  pub by-6 : n ≡ 6 → By (ending Goodbye r.kinds)
  unfolding by_number
  by-6 h e = e ∙ rw (← numbered, h)

  pub by_8 : n ≡ 8 → By (failure f s r.kinds (el 1) (el 2) (el 4) (el 5) (el 6))
  unfolding by_number
  by_8 h e = e ∙ rw (← numbered, h)

  pub by-16 : n ≡ 16 → By (publish f s r.kinds (el 1) (el 2) (el 3) (el 4) (el 5))
  unfolding by_number
  by-16 h e = e ∙ rw (← numbered, h)

  pub by-32 : n ≡ 32 → By (subscribe f s r.kinds (el 1) (el 2) (el 3))
  unfolding by_number
  by-32 h e = e ∙ rw (← numbered, h)

  pub by-34 : n ≡ 34 → By (release f Unsubscribe s r.kinds (el 1) (el 2))
  unfolding by_number
  by-34 h e = e ∙ rw (← numbered, h)

  pub by-48 : n ≡ 48 → By (call f s r.kinds (el 1) (el 2) (el 3) (el 4) (el 5))
  unfolding by_number
  by-48 h e = e ∙ rw (← numbered, h)

  pub by-64 : n ≡ 64 → By (register f s r.kinds (el 1) (el 2) (el 3))
  unfolding by_number
  by-64 h e = e ∙ rw (← numbered, h)

  pub by-66 : n ≡ 66 → By (release f Unregister s r.kinds (el 1) (el 2))
  unfolding by_number
  by-66 h e = e ∙ rw (← numbered, h)

  pub by-70 : n ≡ 70 → By (yield f s r.kinds (el 1) (el 2) (el 3) (el 4))
  unfolding by_number
  by-70 h e = e ∙ rw (← numbered, h)

  pub by-none : Differs n (70 ∷ 66 ∷ 64 ∷ 48 ∷ 34 ∷ 32 ∷ 16 ∷ 8 ∷ 6 ∷ 3 ∷ 1 ∷ []) → By Violation
  unfolding by_number
  by-none h e =
      e ∙ rw (
        ← numbered,
        ne_eqb n 1 h.0.0.0.0.0.0.0.0.0.0.1,
        ne_eqb n 3 h.0.0.0.0.0.0.0.0.0.1,
        ne_eqb n 6 h.0.0.0.0.0.0.0.0.1,
        ne_eqb n 8 h.0.0.0.0.0.0.0.1,
        ne_eqb n 16 h.0.0.0.0.0.0.1,
        ne_eqb n 32 h.0.0.0.0.0.1,
        ne_eqb n 34 h.0.0.0.0.1,
        ne_eqb n 48 h.0.0.0.1,
        ne_eqb n 64 h.0.0.1,
        ne_eqb n 66 h.0.1,
        ne_eqb n 70 h.1,
      )

-- ---- a message
module _ (f : Format) (s : List ℕ) where
  pub read-empty : length s < 1 → Violation ≡ read f s
  unfolding read
  read-empty h = rw (lt-leb 1 (length s) h)

  module _ (h1 : 1 ≤ length s) where
    pub read-long : max_bytes < length s → Violation ≡ read f s
    unfolding read
    read-long h = rw (le-leb 1 (length s) h1, lt-leb (length s) 2048 h)

    module _ (h2 : length s ≤ max_bytes) where
      pub read-ill : encoded f s ≡ false → Violation ≡ read f s
      unfolding read
      read-ill h = rw (le-leb 1 (length s) h1, le-leb (length s) 2048 h2, h)

      pub read_is : encoded f s ≡ true → interpret f s (spans_in f s) ≡ read f s
      unfolding read
      read_is h = rw (le-leb 1 (length s) h1, le-leb (length s) 2048 h2, h)
