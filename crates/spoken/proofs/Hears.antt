-- Elements that are written are heard as what they are, in either format: numbers, texts, dicts and payloads. Assumes nothing.
use Prim.Native.Nat.{ℕ, ◌+◌, ◌*◌, ◌≤◌}
use mathlib.Core.List.{List, [], ◌∷◌, map}
use mathlib.Core.Logic.{⊎_elim}
use mathlib.Core.Path.{◌≡◌, refl, sym, subst, ◌∙◌}
use native.Mathlib.Omega.{arith}
use borrow.Author.Tests.{eq-eqb, ne_eqb}
use lib.Dec.{leb}
use lib.ListN.{length}
use Rattle.seq.specs.declared.Format.{Format}
use Rattle.seq.specs.declared.Format.TheVariants.{Json, MsgPack}
use Rattle.seq.specs.Bytes.{Payload}
use Rattle.seq.proofs.Logic.{split}
use Rattle.lex.specs.Lex.{run, past, first}
use Rattle.elements.proofs.Numbers.{id-is}
use Rattle.members.specs.Members as Members
use Rattle.msgpack.specs.Head.{form_of, number as number_at, head_of, head_at}
use Rattle.arrays.proofs.Grammar as ArraysFound
use Rattle.maps.specs.Maps as Maps
use Rattle.values.specs.Value.{GoodText}
use Rattle.values.specs.Value.Scalar.{Text}
use Rattle.values.specs.Write.{json_layer, separated, pack_map, pack_layer}
use Rattle.incoming.specs.Read.{shape_from}
use Rattle.incoming.specs.Shapes.{IdText, Dict, IsList, IsPayload}
use Rattle.incoming.proofs.Laws.{kind_by}
use Rattle.outgoing.specs.Outgoing.{Details, Plain, Names}
use Rattle.spoken.specs.Parts.{number, string, dict, single, InRange}
use Rattle.spoken.specs.Sent.{naming}
use Rattle.spoken.specs.Heard.{Heard, kind_of, id_of, member_of, on_text, with_payload, named, heard}
use Rattle.spoken.proofs.Parts.{writing, reads, member_is, single-has}

-- ---- kinds and numbers
kind-same : (f : Format) (t : List ℕ) → kind_of f t ≡ kind_by f t
kind-same Json t = refl
kind-same MsgPack t = refl

id-read : (f : Format) (n : ℕ) (t : List ℕ) → IdText f n t → id_of f t ≡ n
id-read Json n t (l, m, e) = (id-is t n l m).1 e
id-read MsgPack n t g = ArraysFound.id-read t n g

module _ (f : Format) where
  pub number-kind : (n : ℕ) → InRange n → kind_of f (number f n) ≡ 1
  number-kind n r = kind-same f (number f n) ∙ (reads f).id-kind n (number f n) ((writing f).number n r)

  pub number_read : (n : ℕ) → InRange n → id_of f (number f n) ≡ n
  number_read n r = id-read f n (number f n) ((writing f).number n r)

  pub string-kind : (t : List ℕ) → GoodText t → kind_of f (string f t) ≡ 2
  string-kind t g =
      kind-same f (string f t) ∙ (reads f).string-kind (string f t) ((reads f).says-string t (string f t) ((writing f).string t g))

  pub list-kind : (t : List ℕ) → IsList f t → kind_of f t ≡ 3
  list-kind t g = kind-same f t ∙ (reads f).list-kind t g

  pub dict-kind : (t : List ℕ) → Dict f t → kind_of f t ≡ 4
  dict-kind t g = kind-same f t ∙ (reads f).dict-kind t g

  -- ---- texts
  pub text-heard : (t : List ℕ) → GoodText t → (message : List ℕ → Heard) → on_text f (string f t) message ≡ message t
  unfolding on_text
  text-heard t g message =
      let s = (writing f).string t g in
      rw ((reads f).sound-is (string f t) ((reads f).says-sound t (string f t) s), (reads f).says_is t (string f t) s)

  -- ---- payloads
  pub with-payload : (p : Payload) → IsPayload f p → (before : ℕ) (payload : Payload) (message : Payload → Heard)
      → with_payload (shape_from before (map (kind_of f) p)) before payload message ≡ message payload
  unfolding with_payload
  with-payload p t before payload message =
      ⊎_elim
      (λ (e : p ≡ []).
      subst (λ (q : Payload). with_payload (shape_from before (map (kind_of f) q)) before payload message ≡ message payload) (sym e)
      (rw (eq-eqb before before refl)))
      (⊎_elim
      (λ (x : (u : List ℕ) × IsList f u × (p ≡ u ∷ [])).
      let e = x.2 in
      let k = list-kind x.0 x.1 in
      rw (e, k, ne_eqb (before * 10 + 3) before (λ w. omega arith), eq-eqb (before * 10 + 3) (before * 10 + 3) refl))
      (λ (x : (u v : List ℕ) × IsList f u × Dict f v × (p ≡ u ∷ v ∷ [])).
      let e = x.4 in
      let k = list-kind x.0 x.2 in
      let j = dict-kind x.1 x.3 in
      rw (
        e,
        k,
        j,
        ne_eqb ((before * 10 + 3) * 10 + 4) before (λ v. omega arith),
        ne_eqb ((before * 10 + 3) * 10 + 4) (before * 10 + 3) (λ v. omega arith),
        eq-eqb ((before * 10 + 3) * 10 + 4) ((before * 10 + 3) * 10 + 4) refl,
      )))
      t

-- ---- members
member-none : (f : Format) (limit : ℕ) (key : List ℕ) → member_of f limit key (dict f []) ≡ []
unfolding past run first Members.pairs Members.value_of Members.member_in Maps.pairs Maps.value_of Maps.member_in
    form_of number_at head_of head_at json_layer separated pack_map pack_layer
member-none Json limit key = split (leb 2 limit) (λ t. rw t) (λ t. rw t)
member-none MsgPack limit key = split (leb 1 limit) (λ t. rw t) (λ t. rw t)

length_none : (t : List ℕ) → length t ≡ 0 → t ≡ []
length_none [] e = refl
length_none (b ∷ t) e = absurd (omega arith)

module _ (f : Format) (limit : ℕ) (key : List ℕ) (g : GoodText key) where
  pub plain-heard : (message : Details → Heard) → named f (member_of f limit key (naming f key Plain)) message ≡ message Plain
  unfolding named
  plain-heard message = rw (member-none f limit key)

  pub names-heard : (uri : List ℕ) → GoodText uri → length (naming f key (Names uri)) ≤ limit → (message : Details → Heard)
      → named f (member_of f limit key (naming f key (Names uri))) message ≡ message (Names uri)
  unfolding named
  names-heard uri u l message =
      let t = single f key (string f uri) in
      let h = single-has f key g (Text uri) u in
      let n = (reads f).has_some key (string f uri) t h in
      rw (
        member_is f limit t l key (string f uri) h,
        ne_eqb (length (string f uri)) 0 (λ z. n (length_none (string f uri) z)),
        (reads f).string-is (string f uri) ((reads f).says-string uri (string f uri) ((writing f).string uri u)),
      ) (text-heard f uri u (λ x. message (Names x)))
