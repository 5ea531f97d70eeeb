-- A message that is sent is heard as that message, in either format, and is one list of the format by its own grammar. Assumes nothing.
use Prim.Native.Nat.{ℕ, ◌-◌, ◌≤◌}
use mathlib.Core.Bool.{true, cond}
use mathlib.Core.List.{List, [], ◌∷◌, map}
use mathlib.Core.Logic.{inl, inr}
use mathlib.Core.Path.{◌≡◌, refl, sym, ap, ap₂, subst, ◌∙◌}
use native.Mathlib.Omega.{arith}
use lib.Dec.{eqb}
use lib.ListN.{length, get_or, drop, length-take, length-drop, get_or-map}
use Rattle.seq.specs.declared.Format.{Format}
use Rattle.seq.specs.declared.Format.TheVariants.{Json, MsgPack}
use Rattle.seq.specs.declared.Span.{Span}
use Rattle.seq.specs.Bytes.{chars, text_of, Payload}
use Rattle.seq.specs.Lists.{All, every}
use Rattle.seq.proofs.Bytes.{bytes-are}
use Rattle.utf8.proofs.Table.{utf8-table}
use Rattle.elements.specs.Elements.{blank}
use Rattle.elements.specs.Elements as Elements
use Rattle.elements.proofs.Grammar as ElementsFound
use Rattle.arrays.specs.Arrays as Arrays
use Rattle.arrays.proofs.Grammar as ArraysFound
use Rattle.values.specs.Value.{GoodText}
use Rattle.values.specs.Value.Scalar.{Text}
use Rattle.incoming.specs.Shapes.{Dict}
use Rattle.incoming.specs.Read.{shape_from, shape, encoded}
use Rattle.outgoing.specs.Outgoing.{Outgoing, Welcome, Abort, Goodbye, Error, Reply, Published}
use Rattle.outgoing.specs.Outgoing.{Subscribed, Event, Registered, Unsubscribed, Unregistered, Invocation}
use Rattle.outgoing.specs.Outgoing.{Result, Failure, Request, Publish, Subscribe, Unsubscribe, Register}
use Rattle.outgoing.specs.Outgoing.{Unregister, Details, Plain, Names, type_of, render}
use Rattle.spoken.specs.Parts.{number, string, list, dict, InRange, Formed, Carried}
use Rattle.spoken.specs.Sent.{features, naming, elements, IsListOf, IsText, Sayable, Named, Sendable}
use Rattle.spoken.specs.Heard.{Heard, Is, texts_in, kind_of, id_of, member_of, nth, named, by_number, by_texts, heard}
use Rattle.spoken.specs.Heard.{welcome, ending, typed, failure, result, released, granted, relayed}
use Rattle.spoken.proofs.Laws.{Part}
use Rattle.spoken.proofs.Parts.{good, features-dict, features-part, part-number, part-string, part_none, none-dict, single-dict}
use Rattle.spoken.proofs.Parts.{part-single, payload-parts, payload-short, list-formed, list-in}
use Rattle.spoken.proofs.Hears.{number-kind, number_read, string-kind, dict-kind, text-heard, with-payload, plain-heard, names-heard}
use Rattle.spoken.proofs.Rendered.{render-is}

-- ---- the list is heard by the texts of its elements
texts-are : (f : Format) (limit : ℕ) (es : List (List ℕ)) (s : List ℕ) → IsListOf f limit es s → length es ≤ 7 → texts_in f limit s ≡ es
texts-are Json limit es s h l = ElementsFound.texts-in limit s es h l
texts-are MsgPack limit es s h l = ArraysFound.texts-in limit s es h l

encoded-is : (f : Format) (s : List ℕ) → Formed f s → encoded f s ≡ true
encoded-is Json s u = (utf8-table s).1 u
encoded-is MsgPack s u = (bytes-are s).1 u

-- the text of a span is no longer than what it stands in
part-short : (s : List ℕ) (p : Span) → length (text_of s p) ≤ length s
part-short s p = omega (arith, length-take (p.to - p.from) (drop p.from s), length-drop p.from s)

nth-short : (s : List ℕ) (ps : List Span) (es : List (List ℕ)) → map (text_of s) ps ≡ es → (k : ℕ) → length (nth k es) ≤ length s
nth-short s ps es e k =
    let q : nth k es ≡ text_of s (get_or ps k blank) = ap (nth k) (sym e) ∙ get_or-map (text_of s) ps k blank in
    rw q (part-short s (get_or ps k blank))

text-short : (f : Format) (limit : ℕ) (es : List (List ℕ)) (s : List ℕ) → texts_in f limit s ≡ es → (k : ℕ) → length (nth k es) ≤ length s
text-short Json limit es s e k = nth-short s (Elements.listed_in limit s) es e k
text-short MsgPack limit es s e k = nth-short s (Arrays.listed_in limit s) es e k

-- ---- what may be sent
said : (f : Format) (t : List ℕ) → Sayable f t → GoodText t
said Json t g = g.0
said MsgPack t g = g

topic-good : GoodText (chars "topic")
unfolding every
topic-good = good (chars "topic") (omega arith) refl

procedure-good : GoodText (chars "procedure")
unfolding every
procedure-good = good (chars "procedure") (omega arith) refl

type-range : (type : Request) → InRange (type_of type)
type-range Publish = (omega arith, omega arith)
type-range Subscribe = (omega arith, omega arith)
type-range Unsubscribe = (omega arith, omega arith)
type-range Register = (omega arith, omega arith)
type-range Unregister = (omega arith, omega arith)

-- a list of values is a value
text-of : (f : Format) (limit : ℕ) (es : List (List ℕ)) (s : List ℕ) → Formed f s → IsListOf f limit es s → IsText f s
text-of Json limit es s u (l, vs, (a, b, e, w, (t, c, d, k, v))) = (u, (a, b, e, w, (t, c, d, inr (inr (es, vs, k)), v)))
text-of MsgPack limit es s u (l, vs, k) = inr (inl (es, vs, k))

-- the type of an ERROR that answers no CALL
type-heard : (type : Request) (reply : Heard) (message : Request → Heard)
    → cond (eqb (type_of type) 48) reply (typed (type_of type) message) ≡ message type
unfolding typed
type-heard Publish reply message = refl
type-heard Subscribe reply message = refl
type-heard Unsubscribe reply message = refl
type-heard Register reply message = refl
type-heard Unregister reply message = refl

module _ (f : Format) where
  abbrev at : (n : ℕ) → InRange n → Part f (number f n)
  at n r = part-number f n r

  naming-part : (key : List ℕ) → GoodText key → (d : Details) → Named f d → Part f (naming f key d)
  naming-part key g Plain n = part_none f
  naming-part key g (Names uri) n =
      let u = said f uri n in
      part-single f key g (Text uri) u

  naming-dict : (key : List ℕ) → GoodText key → (d : Details) → Named f d → Dict f (naming f key d)
  naming-dict key g Plain n = none-dict f
  naming-dict key g (Names uri) n =
      let u = said f uri n in
      single-dict f key g (Text uri) u

  sent-parts : (m : Outgoing) → Sendable f m → All (Part f) (elements f m)
  sent-parts (Welcome session) w = (at 2 (omega arith, omega arith), (at session w, (features-part f, tt)))
  sent-parts (Abort reason) w = (at 3 (omega arith, omega arith), (part_none f, (part-string f reason (said f reason w), tt)))
  sent-parts (Goodbye reason) w = (at 6 (omega arith, omega arith), (part_none f, (part-string f reason (said f reason w), tt)))
  sent-parts (Error type request uri) (r, g) =
      (at 8 (omega arith, omega arith), (at (type_of type) (type-range type), (at request r, (part_none f, (part-string f uri (said f uri g), tt)))))
  sent-parts (Reply request (Result p)) (r, c) = (at 50 (omega arith, omega arith), (at request r, (part_none f, payload-parts f p c)))
  sent-parts (Reply request (Failure uri p)) (r, g, c) = (
    at 8 (omega arith, omega arith),
    (at 48 (omega arith, omega arith), (at request r, (part_none f, (part-string f uri (said f uri g), payload-parts f p c)))),
  )
  sent-parts (Published request publication) (r, q) = (at 17 (omega arith, omega arith), (at request r, (at publication q, tt)))
  sent-parts (Subscribed request subscription) (r, q) = (at 33 (omega arith, omega arith), (at request r, (at subscription q, tt)))
  sent-parts (Unsubscribed request) r = (at 35 (omega arith, omega arith), (at request r, tt))
  sent-parts (Event subscription publication details p) (r, q, n, c) = (
    at 36 (omega arith, omega arith),
    (at subscription r, (at publication q, (naming-part (chars "topic") topic-good details n, payload-parts f p c))),
  )
  sent-parts (Registered request registration) (r, q) = (at 65 (omega arith, omega arith), (at request r, (at registration q, tt)))
  sent-parts (Unregistered request) r = (at 67 (omega arith, omega arith), (at request r, tt))
  sent-parts (Invocation invocation registration details p) (r, q, n, c) = (
    at 68 (omega arith, omega arith),
    (at invocation r, (at registration q, (naming-part (chars "procedure") procedure-good details n, payload-parts f p c))),
  )

  few : (m : Outgoing) → Sendable f m → length (elements f m) ≤ 7
  few (Welcome session) w = omega arith
  few (Abort reason) w = omega arith
  few (Goodbye reason) w = omega arith
  few (Error type request uri) w = omega arith
  few (Reply request (Result p)) w = let h = payload-short f p w.1.0 in omega arith
  few (Reply request (Failure uri p)) w = let h = payload-short f p w.2.0 in omega arith
  few (Published request publication) w = omega arith
  few (Subscribed request subscription) w = omega arith
  few (Unsubscribed request) w = omega arith
  few (Event subscription publication details p) w = let h = payload-short f p w.3.0 in omega arith
  few (Registered request registration) w = omega arith
  few (Unregistered request) w = omega arith
  few (Invocation invocation registration details p) w = let h = payload-short f p w.3.0 in omega arith

  sent-formed : (m : Outgoing) → Sendable f m → Formed f (render f m)
  sent-formed m w = subst (Formed f) (sym (render-is f m w)) (list-formed f (elements f m) (sent-parts m w))

  module _ (limit : ℕ) where
    -- elements whose first is this number, and whose kinds are these
    by-number : (n kinds : ℕ) (es : List (List ℕ)) → id_of f (nth 0 es) ≡ n → shape (map (kind_of f) es) ≡ kinds
        → by_texts f limit es ≡ by_number f limit n kinds es
    unfolding by_texts
    by-number n kinds es e k = rw (e, k)

    -- ---- messages by their elements
    granted-is : (n x y : ℕ) (message : ℕ → ℕ → Outgoing) → ((es : List (List ℕ)) → by_number f limit n 111 es ≡ granted f message 111 es)
        → InRange n → InRange x → InRange y → by_texts f limit (number f n ∷ number f x ∷ number f y ∷ []) ≡ Is (message x y)
    unfolding granted
    granted-is n x y message by r q s =
        by-number n 111 (number f n ∷ number f x ∷ number f y ∷ []) (number_read f n r) (rw (number-kind f n r, number-kind f x q, number-kind f y s))
        ∙ by (number f n ∷ number f x ∷ number f y ∷ [])
        ∙ ap₂ (λ (a b : ℕ). Is (message a b)) (number_read f x q) (number_read f y s)

    released-is : (n x : ℕ) (message : ℕ → Outgoing) → ((es : List (List ℕ)) → by_number f limit n 11 es ≡ released f message 11 es)
        → InRange n → InRange x → by_texts f limit (number f n ∷ number f x ∷ []) ≡ Is (message x)
    unfolding released
    released-is n x message by r q =
        by-number n 11 (number f n ∷ number f x ∷ []) (number_read f n r) (rw (number-kind f n r, number-kind f x q))
        ∙ by (number f n ∷ number f x ∷ []) ∙ ap (λ (a : ℕ). Is (message a)) (number_read f x q)

    ending-is : (n : ℕ) (reason : List ℕ) (message : List ℕ → Outgoing) → ((es : List (List ℕ)) → by_number f limit n 142 es ≡ ending f message 142 es)
        → InRange n → GoodText reason → by_texts f limit (number f n ∷ dict f [] ∷ string f reason ∷ []) ≡ Is (message reason)
    unfolding ending
    ending-is n reason message by r g =
        by-number n 142 (number f n ∷ dict f [] ∷ string f reason ∷ []) (number_read f n r)
        (rw (number-kind f n r, dict-kind f (dict f []) (none-dict f), string-kind f reason g))
        ∙ by (number f n ∷ dict f [] ∷ string f reason ∷ []) ∙ text-heard f reason g (λ u. Is (message u))

    welcome-is : (session : ℕ) → InRange session → by_texts f limit (number f 2 ∷ number f session ∷ features f ∷ []) ≡ Is (Welcome session)
    unfolding by_number welcome
    welcome-is session r =
        by-number 2 114 (number f 2 ∷ number f session ∷ features f ∷ []) (number_read f 2 (omega arith, omega arith))
        (rw (number-kind f 2 (omega arith, omega arith), number-kind f session r, dict-kind f (features f) (features-dict f)))
        ∙ ap (λ (a : ℕ). Is (Welcome a)) (number_read f session r)

    result-is : (request : ℕ) (p : Payload) → InRange request → Carried f p
        → by_texts f limit (number f 50 ∷ number f request ∷ dict f [] ∷ p) ≡ Is (Reply request (Result p))
    unfolding by_number result
    result-is request p r c =
        by-number 50 (shape_from 114 (map (kind_of f) p)) (number f 50 ∷ number f request ∷ dict f [] ∷ p) (number_read f 50 (omega arith, omega arith))
        (rw (number-kind f 50 (omega arith, omega arith), number-kind f request r, dict-kind f (dict f []) (none-dict f)))
        ∙ with-payload f p c.0 114 p (λ q. Is (Reply (id_of f (number f request)) (Result q)))
        ∙ ap (λ (a : ℕ). Is (Reply a (Result p))) (number_read f request r)

    -- [8,Type,Request,Details,Error,P]
    module _ (type request : ℕ) (uri : List ℕ) (p : Payload) (t : InRange type) (r : InRange request) (g : GoodText uri) where
      abbrev errors : List (List ℕ)
      errors = number f 8 ∷ number f type ∷ number f request ∷ dict f [] ∷ string f uri ∷ p

      error-by : by_texts f limit errors ≡ failure f (shape_from 11142 (map (kind_of f) p)) errors
      unfolding by_number
      error-by =
          by-number 8 (shape_from 11142 (map (kind_of f) p)) errors (number_read f 8 (omega arith, omega arith))
          (rw (
            number-kind f 8 (omega arith, omega arith),
            number-kind f type t,
            number-kind f request r,
            dict-kind f (dict f []) (none-dict f),
            string-kind f uri g,
          ))

    failure-is : (request : ℕ) (uri : List ℕ) (p : Payload) → InRange request → GoodText uri → Carried f p
        → by_texts f limit (number f 8 ∷ number f 48 ∷ number f request ∷ dict f [] ∷ string f uri ∷ p) ≡ Is (Reply request (Failure uri p))
    unfolding failure
    failure-is request uri p r g c =
        error-by 48 request uri p (omega arith, omega arith) r g ∙ text-heard f uri g _
        ∙ rw (number_read f 48 (omega arith, omega arith), number_read f request r)
        (with-payload f p c.0 11142 p (λ q. Is (Reply request (Failure uri q))))

    error-is : (type : Request) (request : ℕ) (uri : List ℕ) → InRange request → GoodText uri
        → by_texts f limit (number f 8 ∷ number f (type_of type) ∷ number f request ∷ dict f [] ∷ string f uri ∷ []) ≡ Is (Error type request uri)
    unfolding failure typed
    error-is type request uri r g =
        error-by (type_of type) request uri [] (type-range type) r g ∙ text-heard f uri g _
        ∙ rw (number_read f (type_of type) (type-range type), number_read f request r) (type-heard type _ (λ t. Is (Error t request uri)))

    details-heard : (key : List ℕ) → GoodText key → (d : Details) → Named f d → length (naming f key d) ≤ limit → (message : Details → Heard)
        → named f (member_of f limit key (naming f key d)) message ≡ message d
    details-heard key g Plain n l message = plain-heard f limit key g message
    details-heard key g (Names uri) n l message = names-heard f limit key g uri (said f uri n) l message

    -- [Number,ID,ID,Details,P]
    relayed-is : (n x y : ℕ) (key : List ℕ) (d : Details) (p : Payload) (message : ℕ → ℕ → Details → Payload → Outgoing)
        → ((kinds : ℕ) (es : List (List ℕ)) → by_number f limit n kinds es ≡ relayed f limit key message kinds es)
        → InRange n → InRange x → InRange y → GoodText key → Named f d → Carried f p → length (naming f key d) ≤ limit
        → by_texts f limit (number f n ∷ number f x ∷ number f y ∷ naming f key d ∷ p) ≡ Is (message x y d p)
    unfolding relayed
    relayed-is n x y key d p message by r q s g m c l =
        let es : List (List ℕ) = number f n ∷ number f x ∷ number f y ∷ naming f key d ∷ p in
        by-number n (shape_from 1114 (map (kind_of f) p)) es (number_read f n r)
        (rw (number-kind f n r, number-kind f x q, number-kind f y s, dict-kind f (naming f key d) (naming-dict key g d m)))
        ∙ by (shape_from 1114 (map (kind_of f) p)) es ∙ details-heard key g d m l _
        ∙ with-payload f p c.0 1114 p (λ u. Is (message (id_of f (number f x)) (id_of f (number f y)) d u))
        ∙ ap₂ (λ (a b : ℕ). Is (message a b d p)) (number_read f x q) (number_read f y s)

    -- ---- every message
    by-elements : (m : Outgoing) → Sendable f m → ((k : ℕ) → length (nth k (elements f m)) ≤ limit) → by_texts f limit (elements f m) ≡ Is m
    unfolding by_number
    by-elements (Welcome session) r l = welcome-is session r
    by-elements (Abort reason) g l = ending-is 3 reason Abort (λ es. refl) (omega arith, omega arith) (said f reason g)
    by-elements (Goodbye reason) g l = ending-is 6 reason Goodbye (λ es. refl) (omega arith, omega arith) (said f reason g)
    by-elements (Error type request uri) (r, g) l = error-is type request uri r (said f uri g)
    by-elements (Reply request (Result p)) (r, c) l = result-is request p r c
    by-elements (Reply request (Failure uri p)) (r, g, c) l = failure-is request uri p r (said f uri g) c
    by-elements (Published request publication) (r, q) l =
        granted-is 17 request publication Published (λ es. refl) (omega arith, omega arith) r q
    by-elements (Subscribed request subscription) (r, q) l =
        granted-is 33 request subscription Subscribed (λ es. refl) (omega arith, omega arith) r q
    by-elements (Unsubscribed request) r l = released-is 35 request Unsubscribed (λ es. refl) (omega arith, omega arith) r
    by-elements (Event subscription publication details p) (r, q, n, c) l =
        relayed-is 36 subscription publication (chars "topic") details p Event (λ k es. refl) (omega arith, omega arith) r q topic-good n c (l 3)
    by-elements (Registered request registration) (r, q) l =
        granted-is 65 request registration Registered (λ es. refl) (omega arith, omega arith) r q
    by-elements (Unregistered request) r l = released-is 67 request Unregistered (λ es. refl) (omega arith, omega arith) r
    by-elements (Invocation invocation registration details p) (r, q, n, c) l =
        relayed-is 68 invocation registration (chars "procedure") details p Invocation (λ k es. refl) (omega arith, omega arith) r q
        procedure-good n c (l 3)

    module _ (m : Outgoing) (w : Sendable f m) (l : length (render f m) ≤ limit) where
      list-short : length (list f (elements f m)) ≤ limit
      list-short = subst (λ (s : List ℕ). length s ≤ limit) (render-is f m w) l

      -- it is one list of its elements
      pub is-list : IsListOf f limit (elements f m) (render f m)
      is-list =
          subst (IsListOf f limit (elements f m)) (sym (render-is f m w))
          (list-in f limit (elements f m) (omega (arith, few m w)) list-short (sent-parts m w))

      pub heard-back : heard f limit (render f m) ≡ Is m
      unfolding heard
      heard-back =
          let es = elements f m in
          let s = render f m in
          let t : texts_in f limit s ≡ es = texts-are f limit es s is-list (few m w) in
          rw (encoded-is f s (sent-formed m w), t) (by-elements m w (λ k. let h = text-short f limit es s t k in omega arith))

  pub is-text : (m : Outgoing) → Sendable f m → IsText f (render f m)
  is-text m w =
      let limit = length (render f m) in
      text-of f limit (elements f m) (render f m) (sent-formed m w) (is-list limit m w (omega arith))

  is_same : {m n : Outgoing} {h : Heard} → h ≡ Is m → h ≡ Is n → m ≡ n
  is_same p q = cc

  -- no two messages are sent alike
  pub sent-once : (m n : Outgoing) → Sendable f m → Sendable f n → render f m ≡ render f n → m ≡ n
  sent-once m n w x e =
      let limit = length (render f m) in
      is_same (heard-back limit m w (omega arith))
      (ap (heard f limit) e ∙ heard-back limit n x (omega (arith, ap length e)))
