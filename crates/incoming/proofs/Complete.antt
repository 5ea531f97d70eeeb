-- What has a message's shape is read as that message. Assumes nothing.
use Rattle.std.specs.Prelude.{Some, None, Option}
use Prim.Native.Nat.{ℕ, ◌+◌, ◌*◌, ◌≤◌, ◌<◌}
use mathlib.Core.Bool.{Bool, true, false}
use mathlib.Core.List.{List, [], ◌∷◌, map}
use mathlib.Core.Logic.{⊎_elim}
use mathlib.Core.Path.{◌≡◌, refl, sym, ap, ap₂, subst, ◌∙◌}
use native.Mathlib.Omega.{arith}
use borrow.Author.Tests.{eq-eqb, ne_eqb, le-leb}
use lib.ListN.{length, get_or, length-map}
use Rattle.seq.specs.declared.Format.{Format}
use Rattle.seq.specs.declared.Span.{Span}
use Rattle.seq.specs.Bytes.{text_of, Payload}
use Rattle.seq.proofs.Logic.{and_both}
use Rattle.uri.proofs.Rule.{uri-rule}
use Rattle.json_text.specs.Json.{max_bytes}
use Rattle.elements.specs.Elements.{at}
use Rattle.options.specs.Audience.{Audience}
use Rattle.uri.specs.declared.Policy.{Policy}
use Rattle.uri.specs.declared.Policy.TheVariants.{Exact, Prefix, Wildcard}
use Rattle.incoming.specs.Incoming.{Incoming, Hello, Abort, Goodbye, Error, Publish, Subscribe, Unsubscribe, Call, Register, Unregister, Yield, Violation}
use Rattle.incoming.specs.Read.{kinds_in, id_in, text_in, sound_text, sound_options, match_in, sound_match, acknowledge_in, audience_in, shape_from, shape}
use Rattle.incoming.specs.Read.{with_payload, hello, ending, failure, publish, subscribe, call, register, sound_request, release, yield, by_number, interpret, read}
use Rattle.incoming.specs.Shapes.{IdText, Says, Dict, IsList, IsPayload, Options, Acknowledges, Publishes, Matches, Made, Request, Ending, Release, Shape}
use Rattle.incoming.proofs.Laws.{Laws, kind_by}
use Rattle.incoming.proofs.Options.{acknowledge-is, audience-is, match_is}
use Rattle.incoming.proofs.Parts as Parts

-- ---- payloads
payload-short : (f : Format) (p : Payload) → IsPayload f p → length p ≤ 2
payload-short f p t =
    ⊎_elim (λ e. rw e (omega arith)) (⊎_elim (λ x. let e = x.2 in rw e (omega arith)) (λ x. let e = x.4 in rw e (omega arith))) t

no_payload : (before : ℕ) (list dict : List ℕ) (message : Payload → Incoming) → with_payload before before list dict message ≡ message []
unfolding with_payload
no_payload before list dict message = rw (eq-eqb before before refl)

-- a payload is handed on whole
with-payload : (f : Format) → Laws f → (p : Payload) → IsPayload f p → (before : ℕ) (list dict : List ℕ) → list ≡ get_or p 0 [] → dict ≡ get_or p 1 []
    → (message : Payload → Incoming) → with_payload (shape_from before (map (kind_by f) p)) before list dict message ≡ message p
unfolding with_payload
with-payload f w p t before list dict x y message =
    ⊎_elim
    (λ e.
    subst (λ (q : Payload). with_payload (shape_from before (map (kind_by f) q)) before list dict message ≡ message q) (sym e)
    (no_payload before list dict message))
    (⊎_elim
    (λ (q : (u : List ℕ) × IsList f u × (p ≡ u ∷ [])).
    let e = q.2 in
    let k = w.list-kind q.0 q.1 in
    let z : list ≡ q.0 = x ∙ ap (λ r. get_or r 0 []) e in
    rw (e, k, ne_eqb (before * 10 + 3) before (λ w. omega arith), eq-eqb (before * 10 + 3) (before * 10 + 3) refl, z))
    (λ (q : (u v : List ℕ) × IsList f u × Dict f v × (p ≡ u ∷ v ∷ [])).
    let e = q.4 in
    let k = w.list-kind q.0 q.2 in
    let j = w.dict-kind q.1 q.3 in
    let z : list ≡ q.0 = x ∙ ap (λ r. get_or r 0 []) e in
    let v : dict ≡ q.1 = y ∙ ap (λ r. get_or r 1 []) e in
    rw (
      e,
      k,
      j,
      ne_eqb ((before * 10 + 3) * 10 + 4) before (λ v. omega arith),
      ne_eqb ((before * 10 + 3) * 10 + 4) (before * 10 + 3) (λ v. omega arith),
      eq-eqb ((before * 10 + 3) * 10 + 4) ((before * 10 + 3) * 10 + 4) refl,
      z,
      v,
    )))
    t

module _ (f : Format) (w : Laws f) (s : List ℕ) where
  abbrev spans : List Span
  spans = Parts.spans f s

  abbrev text : ℕ → List ℕ
  text = Parts.text f s

  -- the message as it is read by its number and its kinds
  abbrev by_kinds : ℕ → ℕ → Incoming
  by_kinds n kinds = by_number f s n kinds (at 1 spans) (at 2 spans) (at 3 spans) (at 4 spans) (at 5 spans) (at 6 spans)

  -- ---- what has a message's shape is read as that message
  interpret-is : (n kinds : ℕ) → id_in f s (at 0 spans) ≡ n → kinds_in f s spans ≡ kinds → interpret f s spans ≡ by_kinds n kinds
  unfolding interpret
  interpret-is n kinds e q = rw (e, q)

  module _ (es : List (List ℕ)) (m : Made f es s) (l : length es ≤ 7) where
    texts-are : Parts.texts f s ≡ es
    texts-are = w.listed es s m l

    kinds-is : kinds_in f s spans ≡ shape (map (kind_by f) es)
    kinds-is = w.kinds s spans ∙ ap (λ t. shape (map (kind_by f) t)) texts-are

    length-is : length spans ≡ length es
    length-is = sym (length-map spans (text_of s)) ∙ ap length texts-are

    element : (k : ℕ) → text k ≡ get_or es k []
    element k = Parts.text-is f s es texts-are k

    -- element k is an ID; it stands for a text; it is the options
    number-of : (k n : ℕ) → IdText f n (get_or es k []) → id_in f s (at k spans) ≡ n
    number-of k n i = w.id-is s (at k spans) n (subst (IdText f n) (sym (element k)) i)

    said : (k : ℕ) (t : List ℕ) → k < length es → Says f t (get_or es k []) → (text_in f s (at k spans) ≡ t) × (sound_text f s (at k spans) ≡ true)
    said k t h a =
        let n = length-is in
        let b = subst (Says f t) (sym (element k)) a in
        (Parts.says_is f s w k (omega arith) t b, Parts.says-sound f s w k (omega arith) t b)

    optional : (k : ℕ) → Options f (get_or es k []) → sound_options f s (at k spans) ≡ true
    optional k d = w.options-are s (at k spans) (w.accepted es s m).short (subst (Options f) (sym (element k)) d)

    read_is : (n kinds : ℕ) → IdText f n (get_or es 0 []) → shape (map (kind_by f) es) ≡ kinds → read f s ≡ by_kinds n kinds
    unfolding read
    read_is n kinds i k =
        let a = w.accepted es s m in
        rw (le-leb 1 (length s) a.some, le-leb (length s) max_bytes a.short, a.formed) (interpret-is n kinds (number-of 0 n i) (kinds-is ∙ k))

  hello-is : (realm : List ℕ) → Shape f (Hello realm) s → read f s ≡ Hello realm
  unfolding by_number hello
  hello-is realm (t, r, d, i, a, q, m) =
      let es : List (List ℕ) = t ∷ r ∷ d ∷ [] in
      let l : length es ≤ 7 = omega arith in
      let k : shape (map (kind_by f) es) ≡ 124 = rw (w.id-kind 1 t i, w.string-kind r (w.says-string realm r a), w.dict-kind d q) in
      let x = said es m l 1 realm (omega arith) a in
      read_is es m l 1 124 i k ∙ rw x.1 (ap Hello x.0)

  ending-is : (n : ℕ) (message : Incoming) → ((kinds : ℕ) → by_kinds n kinds ≡ ending message kinds) → Ending f n s → read f s ≡ message
  unfolding ending
  ending-is n message by (t, d, r, i, q, g, m) =
      let es : List (List ℕ) = t ∷ d ∷ r ∷ [] in
      let k : shape (map (kind_by f) es) ≡ 142 = rw (w.id-kind n t i, w.dict-kind d q, w.string-kind r g) in
      read_is es m (omega arith) n 142 i k ∙ by 142

  release-is : (n : ℕ) (message : ℕ → ℕ → Incoming)
      → ((kinds : ℕ) → by_kinds n kinds ≡ release f message s kinds (at 1 spans) (at 2 spans)) → (x y : ℕ) → Release f n x y s → read f s ≡ message x y
  unfolding release
  release-is n message by x y (t, u, v, i, ix, iy, m) =
      let es : List (List ℕ) = t ∷ u ∷ v ∷ [] in
      let l : length es ≤ 7 = omega arith in
      let k : shape (map (kind_by f) es) ≡ 111 = rw (w.id-kind n t i, w.id-kind x u ix, w.id-kind y v iy) in
      read_is es m l n 111 i k ∙ by 111 ∙ ap₂ message (number-of es m l 1 x ix) (number-of es m l 2 y iy)

  -- [Number,Request,Options,Text,P]: what is known of its elements
  module _ (n r : ℕ) (a b o v t : List ℕ) (p : Payload) (i : IdText f n a) (j : IdText f r b) (d : Options f o) (y : Says f t v) (c : length p ≤ 2)
      (m : Made f (a ∷ b ∷ o ∷ v ∷ p) s) where
    abbrev parts : List (List ℕ)
    parts = a ∷ b ∷ o ∷ v ∷ p

    few : length parts ≤ 7
    few = omega arith

    asked_is : read f s ≡ by_kinds n (shape_from 1142 (map (kind_by f) p))
    asked_is =
        read_is parts m few n (shape_from 1142 (map (kind_by f) p)) i
        (rw (w.id-kind n a i, w.id-kind r b j, w.dict-kind o (w.options-dict o d), w.string-kind v (w.says-string t v y)))

    asked-number : id_in f s (at 1 spans) ≡ r
    asked-number = number-of parts m few 1 r j

    asked-text : text_in f s (at 3 spans) ≡ t
    asked-text = (said parts m few 3 t (omega arith) y).0

    asked-sound : sound_request f s (at 2 spans) (at 3 spans) ≡ true
    asked-sound = and_both (said parts m few 3 t (omega arith) y).1 (optional parts m few 2 d)

  matches-options : (policy : Option Policy) (o : List ℕ) → Matches f policy o → Options f o
  matches-options (Some Exact) o x = ⊎_elim (λ q. q.0) (λ (v, h, y). w.has-options _ v o h) x
  matches-options (Some Prefix) o (v, h, y) = w.has-options _ v o h
  matches-options (Some Wildcard) o (v, h, y) = w.has-options _ v o h
  matches-options None o x = w.has-options _ x.0 o x.1

  acknowledges-options : (b : Bool) (o : List ℕ) → Acknowledges f b o → Options f o
  acknowledges-options true o x = w.has-options _ _ o x
  acknowledges-options false o x = x.0

  -- [Number,Request,Options,Text]
  matched-is : (n : ℕ) (message : ℕ → Option Policy → List ℕ → Incoming)
      → (sound_request f s (at 2 spans) (at 3 spans) ≡ true → sound_match f s (at 2 spans) ≡ true
      → by_kinds n 1142 ≡ message (id_in f s (at 1 spans)) (match_in f s (at 2 spans)) (text_in f s (at 3 spans)))
      → (r : ℕ) (policy : Option Policy) (t : List ℕ) → Request f n r (Matches f policy) t [] s → read f s ≡ message r policy t
  matched-is n message by r policy t (a, b, o, v, i, j, x, y, m) =
      let d = matches-options policy o x in
      let c : length {A = List ℕ} [] ≤ 2 = omega arith in
      let es : List (List ℕ) = a ∷ b ∷ o ∷ v ∷ [] in
      let e = element es m (omega arith) 2 in
      let q = match_is f w s (w.accepted es s m).short (at 2 spans) policy (subst (Matches f policy) (sym e) x) in
      asked_is n r a b o v t [] i j d y c m ∙ by (asked-sound n r a b o v t [] i j d y c m) q.1
      ∙ rw (asked-number n r a b o v t [] i j d y c m, q.0, asked-text n r a b o v t [] i j d y c m)

  call-is : (r : ℕ) (t : List ℕ) (p : Payload) → Shape f (Call r t p) s → read f s ≡ Call r t p
  unfolding by_number call
  call-is r t p (g, (a, b, o, v, i, j, d, y, m)) =
      let c = payload-short f p g in
      let e = element (a ∷ b ∷ o ∷ v ∷ p) m (omega arith) in
      asked_is 48 r a b o v t p i j d y c m
      ∙ rw (asked-sound 48 r a b o v t p i j d y c m)
      (with-payload f w p g 1142 (text 4) (text 5) (e 4) (e 5) (λ q. Call (id_in f s (at 1 spans)) (text_in f s (at 3 spans)) q)
      ∙ rw (asked-number 48 r a b o v t p i j d y c m, asked-text 48 r a b o v t p i j d y c m))

  publish-is : (r : ℕ) (k : Bool) (u : Audience) (t : List ℕ) (p : Payload) → Shape f (Publish r k u t p) s → read f s ≡ Publish r k u t p
  unfolding by_number publish
  publish-is r k u t p (g, (a, b, o, v, i, j, x, y, m)) =
      let c = payload-short f p g in
      let d = acknowledges-options k o x.0 in
      let es : List (List ℕ) = a ∷ b ∷ o ∷ v ∷ p in
      let e = element es m (omega arith) in
      let z = subst (Publishes f k u) (sym (e 2)) x in
      let q = acknowledge-is f w s (w.accepted es s m).short (at 2 spans) k z.0 in
      let n = audience-is f w s (w.accepted es s m).short (at 2 spans) k u z in
      asked_is 16 r a b o v t p i j d y c m
      ∙ rw (asked-sound 16 r a b o v t p i j d y c m)
      (with-payload f w p g 1142 (text 4) (text 5) (e 4) (e 5)
      (λ l. Publish (id_in f s (at 1 spans)) (acknowledge_in f s (at 2 spans)) (audience_in f s (at 2 spans)) (text_in f s (at 3 spans)) l)
      ∙ rw (asked-number 16 r a b o v t p i j d y c m, q, n, asked-text 16 r a b o v t p i j d y c m))

  yield-is : (n : ℕ) (p : Payload) → Shape f (Yield n p) s → read f s ≡ Yield n p
  unfolding by_number yield
  yield-is n p (a, b, o, i, j, d, g, m) =
      let es : List (List ℕ) = a ∷ b ∷ o ∷ p in
      let c = payload-short f p g in
      let l : length es ≤ 7 = omega arith in
      let k : shape (map (kind_by f) es) ≡ shape_from 114 (map (kind_by f) p) =
      rw (w.id-kind 70 a i, w.id-kind n b j, w.dict-kind o (w.options-dict o d)) in
      read_is es m l 70 (shape_from 114 (map (kind_by f) p)) i k
      ∙ rw (optional es m l 2 d)
      (with-payload f w p g 114 (text 3) (text 4) (element es m l 3) (element es m l 4) (λ q. Yield (id_in f s (at 1 spans)) q)
      ∙ ap (λ x. Yield x p) (number-of es m l 1 n j))

  error-is : (n : ℕ) (u : List ℕ) (p : Payload) → Shape f (Error n u p) s → read f s ≡ Error n u p
  unfolding by_number failure
  error-is n u p (a, b, e, o, v, i, h, j, d, y, g, q, m) =
      let es : List (List ℕ) = a ∷ b ∷ e ∷ o ∷ v ∷ p in
      let c = payload-short f p q in
      let l : length es ≤ 7 = omega arith in
      let k : shape (map (kind_by f) es) ≡ shape_from 11142 (map (kind_by f) p) =
      rw (w.id-kind 8 a i, w.id-kind 68 b h, w.id-kind n e j, w.dict-kind o d, w.string-kind v (w.says-string u v y)) in
      let x = said es m l 4 u (omega arith) y in
      read_is es m l 8 (shape_from 11142 (map (kind_by f) p)) i k
      ∙ rw (x.1, number-of es m l 1 68 h, x.0, (uri-rule.error u).1 g)
      (with-payload f w p q 11142 (text 5) (text 6) (element es m l 5) (element es m l 6) (λ r. Error (id_in f s (at 2 spans)) u r)
      ∙ ap (λ r. Error r u p) (number-of es m l 2 n j))

  pub complete : (m : Incoming) → Shape f m s → read f s ≡ m
  unfolding by_number subscribe register
  complete (Hello realm) x = hello-is realm x
  complete Abort x = ending-is 3 Abort (λ k. refl) x
  complete Goodbye x = ending-is 6 Goodbye (λ k. refl) x
  complete (Error v uri p) x = error-is v uri p x
  complete (Publish n b audience topic p) x = publish-is n b audience topic p x
  complete (Subscribe n policy topic) x = matched-is 32 Subscribe (λ q z. rw (q, z)) n policy topic x
  complete (Unsubscribe n id) x = release-is 34 Unsubscribe (λ k. refl) n id x
  complete (Call n procedure p) x = call-is n procedure p x
  complete (Register n policy procedure) x = matched-is 64 Register (λ q z. rw (q, z)) n policy procedure x
  complete (Unregister n id) x = release-is 66 Unregister (λ k. refl) n id x
  complete (Yield v p) x = yield-is v p x
  complete Violation x = absurd x
