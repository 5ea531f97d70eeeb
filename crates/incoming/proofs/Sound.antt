-- What is read as a message has that message's shape. Assumes nothing.
use Rattle.std.specs.Prelude.{Option}
use Prim.Native.Nat.{ℕ, suc, ◌+◌, ◌*◌, ◌≤◌, ◌<◌}
use mathlib.Core.Bool.{Bool, true, false, cond, ◌&&◌}
use mathlib.Core.List.{List, [], ◌∷◌, ◌++◌, map, append-nil, append_assoc}
use mathlib.Core.Logic.{◌⊎◌, inl, inr, ⊎_elim}
use mathlib.Core.Path.{◌≡◌, refl, sym, ap, ap₂, subst, ◌∙◌}
use native.Mathlib.Omega.{arith}
use borrow.Author.Tests.{eqb-true, leb-true}
use lib.Dec.{eqb, leb}
use lib.ListN.{length, get_or, drop, length-map, length-append, drop_of_length-le, get_or-map}
use lib.Seq.{drop_at, get_or_at, get_or-drop}
use Rattle.seq.specs.declared.Format.{Format}
use Rattle.seq.specs.declared.Span.{Span}
use Rattle.seq.specs.Bytes.{text_of, Payload}
use Rattle.seq.specs.Lists.{All}
use Rattle.seq.proofs.Rules.{all_append, all-inside}
use Rattle.seq.proofs.Lists.{map-drop}
use Rattle.seq.proofs.Logic.{split, and_left, and_right}
use Rattle.uri.specs.declared.Policy.{Policy}
use Rattle.uri.specs.Uri.{valid_error}
use Rattle.uri.proofs.Rule.{uri-rule}
use Rattle.json_text.specs.Json.{max_bytes}
use Rattle.elements.specs.Elements.{at, blank}
use Rattle.incoming.specs.Incoming.{Incoming, Hello, Abort, Goodbye, Error, Publish, Subscribe, Unsubscribe, Call, Register, Unregister, Yield, Violation}
use Rattle.incoming.specs.Read.{kinds_in, id_in, text_in, sound_text, sound_options, match_in, sound_match, acknowledge_in, audience_in, shape_from, shape, encoded}
use Rattle.incoming.specs.Read.{with_payload, hello, ending, failure, publish, subscribe, call, register, request_shape, sound_request, release, yield, by_number, interpret, read}
use Rattle.incoming.specs.Shapes.{IdText, IsString, Says, Dict, IsList, IsPayload, Options, Publishes, Matches, Made, Request, Ending, Release, Shape}
use Rattle.incoming.proofs.Digits.{Digit, are_digits, digits, kinds-are}
use Rattle.incoming.proofs.Laws.{Laws, Accepted, Element, kind_by}
use Rattle.incoming.proofs.Options.{publishes-found, match-found}
use Rattle.incoming.proofs.Places.{table_from, heads, only_one, only_two}
use Rattle.incoming.proofs.Parts as Parts

-- ---- shapes
shape-more : (v : ℕ) (xs ys : List ℕ) → shape_from v (xs ++ ys) ≡ shape_from (shape_from v xs) ys
shape-more v [] ys = refl
shape-more v (x ∷ xs) ys = shape-more (v * 10 + x) xs ys

no_more : {A B : Type 0} (f : A → B) (xs : List A) → map f xs ≡ [] → xs ≡ []
no_more f [] e = refl
no_more f (x ∷ xs) e = absurd (let z : ◌≡◌ {A = ℕ} (suc (length (map f xs))) 0 = ap length e in omega arith)

module _ (f : Format) (w : Laws f) (s : List ℕ) where
  abbrev spans : List Span
  spans = Parts.spans f s

  abbrev text : ℕ → List ℕ
  text = Parts.text f s

  abbrev texts : List (List ℕ)
  texts = Parts.texts f s

  -- the ID in element k
  abbrev id : ℕ → ℕ
  id k = id_in f s (at k spans)

  abbrev kind : List ℕ → ℕ
  kind = kind_by f

  -- ---- elements of these kinds
  module _ (a : Accepted f s) (ks : List ℕ) (e : map kind texts ≡ ks) (l : 0 < length ks) where
    count : length spans ≡ length ks
    count = sym (length-map spans (text_of s)) ∙ sym (length-map texts kind) ∙ ap length e

    listing : Made f texts s
    listing = let c = count in w.made s a (omega arith)

    kind_at : (k : ℕ) → kind (text k) ≡ get_or ks k (kind [])
    kind_at k = ap kind (Parts.text-is f s texts refl k) ∙ sym (get_or-map kind texts k []) ∙ ap (λ m. get_or m k (kind [])) e

    value-at : (k : ℕ) → k < length ks → Element f (text k)
    value-at k h =
        let c = count in
        let n : length texts ≡ length spans = length-map spans (text_of s) in
        subst (Element f) (sym (Parts.text-is f s texts refl k)) (all-inside (Element f) [] texts (w.each texts s listing) k (omega arith))

    id-at : (k : ℕ) → k < length ks → get_or ks k (kind []) ≡ 1 → IdText f (id k) (text k)
    id-at k h q = w.id-found s (at k spans) (value-at k h) (kind_at k ∙ q)

    -- it is this number
    number_at : (k n : ℕ) → k < length ks → get_or ks k (kind []) ≡ 1 → id k ≡ n → IdText f n (text k)
    number_at k n h q z = subst (λ (x : ℕ). IdText f x (text k)) z (id-at k h q)

    string-at : (k : ℕ) → k < length ks → get_or ks k (kind []) ≡ 2 → IsString f (text k)
    string-at k h q = w.string-found (text k) (value-at k h) (kind_at k ∙ q)

    says_at : (k : ℕ) → k < length ks → get_or ks k (kind []) ≡ 2 → sound_text f s (at k spans) ≡ true → Says f (text_in f s (at k spans)) (text k)
    says_at k h q = let c = count in Parts.says-found f s w k (omega arith) (string-at k h q)

    list_at : (k : ℕ) → k < length ks → get_or ks k (kind []) ≡ 3 → IsList f (text k)
    list_at k h q = w.list-found (text k) (value-at k h) (kind_at k ∙ q)

    dict_at : (k : ℕ) → k < length ks → get_or ks k (kind []) ≡ 4 → Dict f (text k)
    dict_at k h q = w.dict-found (text k) (value-at k h) (kind_at k ∙ q)

    options-at : (k : ℕ) → k < length ks → get_or ks k (kind []) ≡ 4 → sound_options f s (at k spans) ≡ true → Options f (text k)
    options-at k h q = w.options-found s (at k spans) a.short (dict_at k h q)

    made : (es : List (List ℕ)) → texts ≡ es → Made f es s
    made es q = subst (λ m. Made f m s) q listing

    -- the first n elements by their places, and what is left
    split_at : (n : ℕ) → n ≤ length ks → texts ≡ table_from text 0 n ++ drop n texts
    split_at n h = let c = count in heads (text_of s) blank n spans (omega arith)

    all-at : texts ≡ table_from text 0 (length ks)
    all-at =
        split_at (length ks) (omega arith) ∙ ap (λ m. table_from text 0 (length ks) ++ m)
        (no_more kind (drop (length ks) texts) (map-drop kind (length ks) texts ∙ ap (drop (length ks)) e ∙ drop_of_length-le ks {i = length ks} (omega arith)))
        ∙ append-nil (table_from text 0 (length ks))

  -- ---- the rest of the elements, after those of kinds ks
  left-kinds : (ks qs : List ℕ) → map kind texts ≡ ks ++ qs → map kind (drop (length ks) texts) ≡ qs
  left-kinds ks qs e = map-drop kind (length ks) texts ∙ ap (drop (length ks)) e ∙ drop_at ks qs (length ks) refl

  left-text : (n i : ℕ) → get_or (drop n texts) i [] ≡ text (n + i)
  left-text n i = get_or-drop n texts i [] ∙ sym (Parts.text-is f s texts refl (n + i))

  -- ---- what is read has the shape of its message
  abbrev Fits : Incoming → Type 0
  Fits m = (m ≡ Violation) ⊎ Shape f m s

  guarded : (b : Bool) (m : Incoming) → (b ≡ true → Fits m) → Fits (cond b m Violation)
  guarded true m g = g refl
  guarded false m g = inl refl

  of-kinds : (ks : List ℕ) → All Digit ks → kinds_in f s spans ≡ shape ks → map kind texts ≡ ks
  of-kinds ks d q = kinds-are kind w.digit texts ks d (sym (w.kinds s spans) ∙ q)

  by_shape : (ks : List ℕ) → are_digits ks ≡ true → (m : Incoming) → (map kind texts ≡ ks → Shape f m s)
      → eqb (kinds_in f s spans) (shape ks) ≡ true → Fits m
  by_shape ks d m g q = inr (g (of-kinds ks (digits ks d) (eqb-true (kinds_in f s spans) (shape ks) q)))

  -- the kinds of a payload
  abbrev Tail : List ℕ → Type 0
  Tail qs = (qs ≡ []) ⊎ (qs ≡ 3 ∷ []) ⊎ (qs ≡ 3 ∷ 4 ∷ [])

  -- the elements after those of kinds ks
  abbrev rest : List ℕ → List (List ℕ)
  rest ks = drop (length ks) texts

  rest-none : (ks : List ℕ) → map kind texts ≡ ks ++ [] → rest ks ≡ []
  rest-none ks e = no_more kind (rest ks) (left-kinds ks [] e)

  rest-one : (ks : List ℕ) → map kind texts ≡ ks ++ (3 ∷ []) → rest ks ≡ text (length ks + 0) ∷ []
  rest-one ks e = only_one kind [] 3 (rest ks) (left-kinds ks (3 ∷ []) e) ∙ ap (λ t. t ∷ []) (left-text (length ks) 0)

  rest-two : (ks : List ℕ) → map kind texts ≡ ks ++ (3 ∷ 4 ∷ []) → rest ks ≡ text (length ks + 0) ∷ text (length ks + 1) ∷ []
  rest-two ks e =
      only_two kind [] 3 4 (rest ks) (left-kinds ks (3 ∷ 4 ∷ []) e) ∙ ap₂ (λ t u. t ∷ u ∷ []) (left-text (length ks) 0) (left-text (length ks) 1)

  module _ (a : Accepted f s) (ks : List ℕ) where
    third : (qs : List ℕ) → get_or (ks ++ (3 ∷ qs)) (length ks + 0) (kind []) ≡ 3
    third qs = get_or_at ks 3 qs (kind []) (length ks + 0) (omega arith)

    fourth : get_or (ks ++ (3 ∷ 4 ∷ [])) (length ks + 1) (kind []) ≡ 4
    fourth =
        ap (λ m. get_or m (length ks + 1) (kind [])) (sym (append_assoc ks (3 ∷ []) (4 ∷ [])))
        ∙ get_or_at (ks ++ (3 ∷ [])) 4 [] (kind []) (length ks + 1) (length-append ks (3 ∷ []))

    payload-at : (qs : List ℕ) → Tail qs → map kind texts ≡ ks ++ qs → IsPayload f (rest ks)
    payload-at qs t e =
        ⊎_elim (λ z. inl (rest-none ks (e ∙ ap (λ m. ks ++ m) z)))
        (⊎_elim
        (λ z.
        let g : map kind texts ≡ ks ++ (3 ∷ []) = e ∙ ap (λ m. ks ++ m) z in
        let n : length (ks ++ (3 ∷ [])) ≡ length ks + 1 = length-append ks (3 ∷ []) in
        inr (inl (text (length ks + 0), list_at a _ g (omega arith) (length ks + 0) (omega arith) (third []), rest-one ks g)))
        (λ z.
        let g : map kind texts ≡ ks ++ (3 ∷ 4 ∷ []) = e ∙ ap (λ m. ks ++ m) z in
        let n : length (ks ++ (3 ∷ 4 ∷ [])) ≡ length ks + 2 = length-append ks (3 ∷ 4 ∷ []) in
        inr (inr (
          text (length ks + 0),
          text (length ks + 1),
          list_at a _ g (omega arith) (length ks + 0) (omega arith) (third (4 ∷ [])),
          dict_at a _ g (omega arith) (length ks + 1) (omega arith) fourth,
          rest-two ks g,
        ))))
        t

    by-payload : are_digits ks ≡ true → (message : Payload → Incoming)
        → ((qs : List ℕ) → Tail qs → map kind texts ≡ ks ++ qs → Shape f (message (rest ks)) s)
        → Fits (with_payload (kinds_in f s spans) (shape ks) (text (length ks + 0)) (text (length ks + 1)) message)
    unfolding with_payload
    by-payload r message g =
        let d = digits ks r in
        let k = kinds_in f s spans in
        let n = shape ks in
        split (eqb k n)
        (λ q.
        let e : map kind texts ≡ ks ++ [] = of-kinds ks d (eqb-true k n q) ∙ sym (append-nil ks) in
        rw q (inr (subst (λ p. Shape f (message p) s) (rest-none ks e) (g [] (inl refl) e))))
        (λ x.
        split (eqb k (n * 10 + 3))
        (λ q.
        let e : map kind texts ≡ ks ++ (3 ∷ []) = of-kinds (ks ++ (3 ∷ [])) (all_append Digit ks (3 ∷ []) d ((omega arith, omega arith), tt))
        (eqb-true k (n * 10 + 3) q ∙ sym (shape-more 0 ks (3 ∷ []))) in
        rw (x, q) (inr (subst (λ p. Shape f (message p) s) (rest-one ks e) (g (3 ∷ []) (inr (inl refl)) e))))
        (λ y.
        split (eqb k ((n * 10 + 3) * 10 + 4))
        (λ q.
        let e : map kind texts ≡ ks ++ (3 ∷ 4 ∷ []) = of-kinds (ks ++ (3 ∷ 4 ∷ []))
        (all_append Digit ks (3 ∷ 4 ∷ []) d ((omega arith, omega arith), ((omega arith, omega arith), tt)))
        (eqb-true k ((n * 10 + 3) * 10 + 4) q ∙ sym (shape-more 0 ks (3 ∷ 4 ∷ []))) in
        rw (x, y, q) (inr (subst (λ p. Shape f (message p) s) (rest-two ks e) (g (3 ∷ 4 ∷ []) (inr (inr refl)) e))))
        (λ z. rw (x, y, z) (inl refl))))

  hello-sound : Accepted f s → id 0 ≡ 1 → Fits (hello f s (kinds_in f s spans) (at 1 spans))
  unfolding hello
  hello-sound a n =
      guarded _ _ λ g.
      by_shape (1 ∷ 2 ∷ 4 ∷ []) refl (Hello (text_in f s (at 1 spans))) (λ e.
      let l : 0 < 3 = omega arith in (
        text 0,
        text 1,
        text 2,
        number_at a _ e l 0 1 (omega arith) refl n,
        says_at a _ e l 1 (omega arith) refl (and_left (sound_text f s (at 1 spans)) _ g),
        dict_at a _ e l 2 (omega arith) refl,
        made a _ e l _ (all-at a _ e l),
      )) (and_right (sound_text f s (at 1 spans)) _ g)

  ending-sound : Accepted f s → (n : ℕ) → id 0 ≡ n → (m : Incoming) → (Ending f n s → Shape f m s) → Fits (ending m (kinds_in f s spans))
  unfolding ending
  ending-sound a n q m g = guarded _ m (by_shape (1 ∷ 4 ∷ 2 ∷ []) refl m λ e.
      let l : 0 < 3 = omega arith in
      g (
        text 0,
        text 1,
        text 2,
        number_at a _ e l 0 n (omega arith) refl q,
        dict_at a _ e l 1 (omega arith) refl,
        string-at a _ e l 2 (omega arith) refl,
        made a _ e l _ (all-at a _ e l),
      ))

  release-sound : Accepted f s → (n : ℕ) → id 0 ≡ n → (m : ℕ → ℕ → Incoming) → (Release f n (id 1) (id 2) s → Shape f (m (id 1) (id 2)) s)
      → Fits (release f m s (kinds_in f s spans) (at 1 spans) (at 2 spans))
  unfolding release
  release-sound a n q m g = guarded _ _ (by_shape (1 ∷ 1 ∷ 1 ∷ []) refl (m (id 1) (id 2)) λ e.
      let l : 0 < 3 = omega arith in
      g (
        text 0,
        text 1,
        text 2,
        number_at a _ e l 0 n (omega arith) refl q,
        id-at a _ e l 1 (omega arith) refl,
        id-at a _ e l 2 (omega arith) refl,
        made a _ e l _ (all-at a _ e l),
      ))

  -- [Number,Request,Options,Text,P]
  request-at : Accepted f s → (n : ℕ) → id 0 ≡ n → (qs : List ℕ) → map kind texts ≡ 1 ∷ 1 ∷ 4 ∷ 2 ∷ qs
      → sound_request f s (at 2 spans) (at 3 spans) ≡ true → (IsOptions : List ℕ → Type 0) → (Options f (text 2) → IsOptions (text 2))
      → Request f n (id 1) IsOptions (text_in f s (at 3 spans)) (drop 4 texts) s
  request-at a n q qs e g IsOptions h =
      let l : 0 < length (1 ∷ 1 ∷ 4 ∷ 2 ∷ qs) = omega arith in (
        text 0,
        text 1,
        text 2,
        text 3,
        number_at a _ e l 0 n (omega arith) refl q,
        id-at a _ e l 1 (omega arith) refl,
        h (options-at a _ e l 2 (omega arith) refl (and_right (sound_text f s (at 3 spans)) _ g)),
        says_at a _ e l 3 (omega arith) refl (and_left (sound_text f s (at 3 spans)) (sound_options f s (at 2 spans)) g),
        made a _ e l _ (split_at a _ e l 4 (omega arith)),
      )

  -- [Number,Request,Options,Text]
  asked-sound : Accepted f s → (n : ℕ) → id 0 ≡ n → (m : Option Policy → Incoming)
      → ((policy : Option Policy) → Request f n (id 1) (Matches f policy) (text_in f s (at 3 spans)) [] s → Shape f (m policy) s)
      → Fits (cond (sound_request f s (at 2 spans) (at 3 spans) && (sound_match f s (at 2 spans) && eqb (kinds_in f s spans) request_shape))
      (m (match_in f s (at 2 spans))) Violation)
  asked-sound a n q m h =
      guarded _ _ λ g.
      let g₂ = and_right (sound_request f s (at 2 spans) (at 3 spans)) _ g in
      let policy = match_in f s (at 2 spans) in
      by_shape (1 ∷ 1 ∷ 4 ∷ 2 ∷ []) refl (m policy) (λ e.
      h policy
      (subst (λ p. Request f n (id 1) (Matches f policy) (text_in f s (at 3 spans)) p s)
      (rest-none (1 ∷ 1 ∷ 4 ∷ 2 ∷ []) e)
      (request-at a n q [] e (and_left (sound_request f s (at 2 spans) (at 3 spans)) _ g) (Matches f policy)
      (λ d. match-found f w s a.short (at 2 spans) d (and_left (sound_match f s (at 2 spans)) _ g₂)))))
      (and_right (sound_match f s (at 2 spans)) _ g₂)

  subscribe-sound : Accepted f s → id 0 ≡ 32 → Fits (subscribe f s (kinds_in f s spans) (at 1 spans) (at 2 spans) (at 3 spans))
  unfolding subscribe
  subscribe-sound a n = asked-sound a 32 n (λ policy. Subscribe (id 1) policy (text_in f s (at 3 spans))) (λ policy r. r)

  register-sound : Accepted f s → id 0 ≡ 64 → Fits (register f s (kinds_in f s spans) (at 1 spans) (at 2 spans) (at 3 spans))
  unfolding register
  register-sound a n = asked-sound a 64 n (λ policy. Register (id 1) policy (text_in f s (at 3 spans))) (λ policy r. r)

  publish-sound : Accepted f s → id 0 ≡ 16
      → Fits (publish f s (kinds_in f s spans) (at 1 spans) (at 2 spans) (at 3 spans) (at 4 spans) (at 5 spans))
  unfolding publish
  publish-sound a n =
      guarded _ _ λ g.
      by-payload a (1 ∷ 1 ∷ 4 ∷ 2 ∷ []) refl
      (λ p. Publish (id 1) (acknowledge_in f s (at 2 spans)) (audience_in f s (at 2 spans)) (text_in f s (at 3 spans)) p)
      λ qs t e. (
        payload-at a (1 ∷ 1 ∷ 4 ∷ 2 ∷ []) qs t e,
        request-at a 16 n qs e g (Publishes f (acknowledge_in f s (at 2 spans)) (audience_in f s (at 2 spans)))
            (publishes-found f w s a.short (at 2 spans)),
      )

  call-sound : Accepted f s → id 0 ≡ 48 → Fits (call f s (kinds_in f s spans) (at 1 spans) (at 2 spans) (at 3 spans) (at 4 spans) (at 5 spans))
  unfolding call
  call-sound a n =
      guarded _ _ λ g.
      by-payload a (1 ∷ 1 ∷ 4 ∷ 2 ∷ []) refl (λ p. Call (id 1) (text_in f s (at 3 spans)) p) λ qs t e.
      (payload-at a (1 ∷ 1 ∷ 4 ∷ 2 ∷ []) qs t e, request-at a 48 n qs e g (Options f) (λ d. d))

  yield-sound : Accepted f s → id 0 ≡ 70 → Fits (yield f s (kinds_in f s spans) (at 1 spans) (at 2 spans) (at 3 spans) (at 4 spans))
  unfolding yield
  yield-sound a n =
      guarded _ _ λ g.
      by-payload a (1 ∷ 1 ∷ 4 ∷ []) refl (λ p. Yield (id 1) p) λ qs t e.
      let l : 0 < length (1 ∷ 1 ∷ 4 ∷ qs) = omega arith in (
        text 0,
        text 1,
        text 2,
        number_at a _ e l 0 70 (omega arith) refl n,
        id-at a _ e l 1 (omega arith) refl,
        options-at a _ e l 2 (omega arith) refl g,
        payload-at a (1 ∷ 1 ∷ 4 ∷ []) qs t e,
        made a _ e l _ (split_at a _ e l 3 (omega arith)),
      )

  failure-sound : Accepted f s → id 0 ≡ 8
      → Fits (failure f s (kinds_in f s spans) (at 1 spans) (at 2 spans) (at 4 spans) (at 5 spans) (at 6 spans))
  unfolding failure
  failure-sound a n =
      guarded _ _ λ g.
      let u = and_left (sound_text f s (at 4 spans)) _ g in
      let g₂ = and_right (sound_text f s (at 4 spans)) _ g in
      let v : valid_error (text_in f s (at 4 spans)) ≡ true = and_right (eqb (id 1) 68) _ g₂ in
      let k : id 1 ≡ 68 = eqb-true _ _ (and_left (eqb (id 1) 68) (valid_error (text_in f s (at 4 spans))) g₂) in
      by-payload a (1 ∷ 1 ∷ 1 ∷ 4 ∷ 2 ∷ []) refl (λ p. Error (id 2) (text_in f s (at 4 spans)) p) λ qs t e.
      let l : 0 < length (1 ∷ 1 ∷ 1 ∷ 4 ∷ 2 ∷ qs) = omega arith in (
        text 0,
        text 1,
        text 2,
        text 3,
        text 4,
        number_at a _ e l 0 8 (omega arith) refl n,
        number_at a _ e l 1 68 (omega arith) refl k,
        id-at a _ e l 2 (omega arith) refl,
        dict_at a _ e l 3 (omega arith) refl,
        says_at a _ e l 4 (omega arith) refl u,
        (uri-rule.error (text_in f s (at 4 spans))).0 v,
        payload-at a (1 ∷ 1 ∷ 1 ∷ 4 ∷ 2 ∷ []) qs t e,
        made a _ e l _ (split_at a _ e l 5 (omega arith)),
      )

  -- by the message's number
  choice : (n k : ℕ) (x y : Incoming) → (n ≡ k → Fits x) → Fits y → Fits (cond (eqb n k) x y)
  choice n k x y g h = go (eqb n k) refl
    where
      go : (b : Bool) → eqb n k ≡ b → Fits (cond b x y)
      go true q = g (eqb-true n k q)
      go false q = h

  interpret-sound : Accepted f s → Fits (interpret f s spans)
  unfolding interpret by_number
  interpret-sound a =
      let n = id 0 in
      choice n 1 _ _ (hello-sound a)
      (choice n 3 _ _ (λ q. ending-sound a 3 q Abort (λ e. e))
      (choice n 6 _ _ (λ q. ending-sound a 6 q Goodbye (λ e. e))
      (choice n 8 _ _ (failure-sound a)
      (choice n 16 _ _ (publish-sound a)
      (choice n 32 _ _ (subscribe-sound a)
      (choice n 34 _ _ (λ q. release-sound a 34 q Unsubscribe (λ e. e))
      (choice n 48 _ _ (call-sound a)
      (choice n 64 _ _ (register-sound a)
      (choice n 66 _ _ (λ q. release-sound a 66 q Unregister (λ e. e))
      (choice n 70 _ _ (yield-sound a)
      (inl refl)))))))))))

  pub sound : Fits (read f s)
  unfolding read
  sound =
      split (leb 1 (length s) && (leb (length s) max_bytes && encoded f s))
      (λ t.
      let u = and_right (leb 1 (length s)) _ t in
      rw t (interpret-sound (record {
        some = leb-true 1 (length s) (and_left _ (leb (length s) max_bytes && encoded f s) t);
        short = leb-true (length s) max_bytes (and_left _ (encoded f s) u);
        formed = and_right (leb (length s) max_bytes) _ u;
      })))
      (λ t. rw t (inl refl))
