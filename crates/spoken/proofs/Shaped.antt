-- What a client writes for a message has that message's shape, in either format. Assumes nothing.
use Rattle.std.specs.Prelude.{Some, None, Option}
use Prim.Native.Nat.{ℕ, ◌≤◌}
use mathlib.Core.List.{List, [], ◌∷◌}
use mathlib.Core.Logic.{inl}
use mathlib.Core.Path.{refl}
use native.Mathlib.Omega.{arith}
use lib.ListN.{length}
use Rattle.seq.specs.declared.Format.{Format}
use Rattle.seq.specs.declared.Format.TheVariants.{Json, MsgPack}
use Rattle.seq.specs.Bytes.{chars, Payload}
use Rattle.seq.specs.Lists.{every}
use Rattle.seq.proofs.Logic.{clash}
use Rattle.uri.specs.declared.Policy.{Policy}
use Rattle.uri.specs.declared.Policy.TheVariants.{Exact, Prefix, Wildcard}
use Rattle.msgpack.specs.Head.{forms, form_of, number as number_at, head_of, head_at}
use Rattle.values.specs.Value.{GoodText}
use Rattle.values.specs.Value.Scalar.{Null, Text}
use Rattle.values.specs.Write.{write_scalar, json_scalar, pack_scalar}
use Rattle.incoming.specs.Incoming.{Incoming, Hello, Abort, Goodbye, Error, Publish, Subscribe, Unsubscribe, Call, Register, Unregister}
use Rattle.incoming.specs.Incoming.{Yield, Violation}
use Rattle.incoming.specs.Shapes.{IsString, Says, Options, Names, Matches, Publishes, Request, Ending, Release, Shape}
use Rattle.spoken.specs.Parts.{number, string, list, dict, single, InRange, Carried}
use Rattle.spoken.specs.Written.{roles, matching, written, Writable}
use Rattle.spoken.proofs.Laws.{Part}
use Rattle.spoken.proofs.Parts.{writing, reads, good, roles-dict, roles-part, none, none-lacks, single-has, made}
use Rattle.spoken.proofs.Parts.{part-number, part-string, part_none, none-dict, part-single, payload-parts, payload-short}
use Rattle.spoken.proofs.Optional.{publishing-is, publishing-part}

-- ---- options
null-other : (f : Format) → ¬ (IsString f (write_scalar f Null))
unfolding json_scalar pack_scalar forms form_of number_at head_of head_at
null-other Json g = clash ((reads Json).string-is (chars "null") g) refl
null-other MsgPack g = clash ((reads MsgPack).string-is (0xc0 ∷ []) g) refl

match-good : GoodText (chars "match")
unfolding every
match-good = good (chars "match") (omega arith) refl

prefix-good : GoodText (chars "prefix")
unfolding every
prefix-good = good (chars "prefix") (omega arith) refl

wildcard-good : GoodText (chars "wildcard")
unfolding every
wildcard-good = good (chars "wildcard") (omega arith) refl

module _ (f : Format) where
  names : (t : List ℕ) → GoodText t → Names f (chars "match") t (single f (chars "match") (string f t))
  names t g = (string f t, single-has f (chars "match") match-good (Text t) g, (writing f).string t g)

  matching-is : (m : Option Policy) → Matches f m (matching f m)
  matching-is (Some Exact) = inl (none-lacks f (chars "match"))
  matching-is (Some Prefix) = names (chars "prefix") prefix-good
  matching-is (Some Wildcard) = names (chars "wildcard") wildcard-good
  matching-is None =
      let v = write_scalar f Null in
      let no : (text : List ℕ) → ¬ (Says f text v) = λ text y. null-other f ((reads f).says-string text v y) in
      (v, single-has f (chars "match") match-good Null tt, λ g. absurd (null-other f g), no _, no _, no _)

  matching-part : (m : Option Policy) → Part f (matching f m)
  matching-part (Some Exact) = part_none f
  matching-part (Some Prefix) = part-single f (chars "match") match-good (Text (chars "prefix")) prefix-good
  matching-part (Some Wildcard) = part-single f (chars "match") match-good (Text (chars "wildcard")) wildcard-good
  matching-part None = part-single f (chars "match") match-good Null tt

  -- ---- messages: a list of these elements is short enough
  abbrev Short : List (List ℕ) → Type 0
  Short es = length (list f es) ≤ 2048

  -- [Number,Details,Reason]
  ending : (n : ℕ) (reason : List ℕ) → InRange n → GoodText reason → Short (number f n ∷ dict f [] ∷ string f reason ∷ [])
      → Ending f n (list f (number f n ∷ dict f [] ∷ string f reason ∷ []))
  ending n reason r g l = (
    number f n,
    dict f [],
    string f reason,
    (writing f).number n r,
    none-dict f,
    (reads f).says-string reason (string f reason) ((writing f).string reason g),
    made f _ (omega arith) l (part-number f n r, (part_none f, (part-string f reason g, tt))),
  )

  -- [Number,Request,Options,Text,P]
  request : (n x : ℕ) (IsOptions : List ℕ → Type 0) (o t : List ℕ) (p : Payload) → InRange n → InRange x → IsOptions o → Part f o → GoodText t
      → Carried f p → Short (number f n ∷ number f x ∷ o ∷ string f t ∷ p)
      → Request f n x IsOptions t p (list f (number f n ∷ number f x ∷ o ∷ string f t ∷ p))
  request n x IsOptions o t p r q i u g c l =
      let h = payload-short f p c.0 in (
        number f n,
        number f x,
        o,
        string f t,
        (writing f).number n r,
        (writing f).number x q,
        i,
        (writing f).string t g,
        made f _ (omega arith) l (part-number f n r, (part-number f x q, (u, (part-string f t g, payload-parts f p c)))),
      )

  -- [Number,Request,ID]
  release : (n x y : ℕ) → InRange n → InRange x → InRange y → Short (number f n ∷ number f x ∷ number f y ∷ [])
      → Release f n x y (list f (number f n ∷ number f x ∷ number f y ∷ []))
  release n x y r q k l = (
    number f n,
    number f x,
    number f y,
    (writing f).number n r,
    (writing f).number x q,
    (writing f).number y k,
    made f _ (omega arith) l (part-number f n r, (part-number f x q, (part-number f y k, tt))),
  )

  hello : (realm : List ℕ) → GoodText realm → Short (number f 1 ∷ string f realm ∷ roles f ∷ [])
      → Shape f (Hello realm) (list f (number f 1 ∷ string f realm ∷ roles f ∷ []))
  hello realm g l = (
    number f 1,
    string f realm,
    roles f,
    (writing f).number 1 (omega arith, omega arith),
    (writing f).string realm g,
    roles-dict f,
    made f _ (omega arith) l (part-number f 1 (omega arith, omega arith), (part-string f realm g, (roles-part f, tt))),
  )

  error : (v : ℕ) (uri : List ℕ) (p : Payload) → Writable f (Error v uri p)
      → Short (number f 8 ∷ number f 68 ∷ number f v ∷ dict f [] ∷ string f uri ∷ p)
      → Shape f (Error v uri p) (list f (number f 8 ∷ number f 68 ∷ number f v ∷ dict f [] ∷ string f uri ∷ p))
  error v uri p (r, g, u, c) l =
      let h = payload-short f p c.0 in
      let eight : InRange 8 = (omega arith, omega arith) in
      let type : InRange 68 = (omega arith, omega arith) in (
        number f 8,
        number f 68,
        number f v,
        dict f [],
        string f uri,
        (writing f).number 8 eight,
        (writing f).number 68 type,
        (writing f).number v r,
        none-dict f,
        (writing f).string uri g,
        u,
        c.0,
        made f _ (omega arith) l
            (part-number f 8 eight, (part-number f 68 type, (part-number f v r, (part_none f, (part-string f uri g, payload-parts f p c))))),
      )

  yield : (v : ℕ) (p : Payload) → Writable f (Yield v p) → Short (number f 70 ∷ number f v ∷ dict f [] ∷ p)
      → Shape f (Yield v p) (list f (number f 70 ∷ number f v ∷ dict f [] ∷ p))
  yield v p (r, c) l =
      let h = payload-short f p c.0 in
      let seventy : InRange 70 = (omega arith, omega arith) in (
        number f 70,
        number f v,
        dict f [],
        (writing f).number 70 seventy,
        (writing f).number v r,
        none f,
        c.0,
        made f _ (omega arith) l (part-number f 70 seventy, (part-number f v r, (part_none f, payload-parts f p c))),
      )

  pub shaped : (reason : List ℕ) → GoodText reason → (m : Incoming) → Writable f m → length (written f reason m) ≤ 2048
      → Shape f m (written f reason m)
  unfolding written
  shaped reason g (Hello realm) w l = hello realm w l
  shaped reason g Abort w l = ending 3 reason (omega arith, omega arith) g l
  shaped reason g Goodbye w l = ending 6 reason (omega arith, omega arith) g l
  shaped reason g (Error v uri p) w l = error v uri p w l
  shaped reason g (Publish n b a topic p) (r, x, y, t, c) l = (
    c.0,
    request 16 n (Publishes f b a) _ topic p (omega arith, omega arith) r (publishing-is f b a x y) (publishing-part f b a x y) t c l,
  )
  shaped reason g (Subscribe n policy topic) (r, t) l =
      request 32 n (Matches f policy) _ topic [] (omega arith, omega arith) r (matching-is policy) (matching-part policy) t (inl refl, tt) l
  shaped reason g (Unsubscribe n id) (r, q) l = release 34 n id (omega arith, omega arith) r q l
  shaped reason g (Call n procedure p) (r, t, c) l =
      (c.0, request 48 n (Options f) _ procedure p (omega arith, omega arith) r (none f) (part_none f) t c l)
  shaped reason g (Register n policy procedure) (r, t) l =
      request 64 n (Matches f policy) _ procedure [] (omega arith, omega arith) r (matching-is policy) (matching-part policy) t (inl refl, tt) l
  shaped reason g (Unregister n id) (r, q) l = release 66 n id (omega arith, omega arith) r q l
  shaped reason g (Yield v p) w l = yield v p w l
  shaped reason g Violation w l = absurd w
