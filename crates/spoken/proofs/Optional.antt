-- The options of PUBLISH as a client writes them: each is absent, of its kind or wrong in the dict as it is in the message, in either format.
-- Assumes nothing.
use Prim.Native.Nat.{ℕ, ◌≤◌}
use mathlib.Core.Bool.{Bool, true, false}
use mathlib.Core.List.{List, [], ◌∷◌, ◌++◌, map}
use mathlib.Core.Logic.{inl}
use mathlib.Core.Path.{◌≡◌, refl, sym, ap, subst, ◌∙◌}
use native.Mathlib.Omega.{arith}
use lib.ListN.{length, length-append, length-map}
use Rattle.seq.specs.declared.Format.{Format}
use Rattle.seq.specs.declared.Format.TheVariants.{Json, MsgPack}
use Rattle.seq.specs.Bytes.{chars, same}
use Rattle.seq.specs.Lists.{All, Both, Pairs, In, every}
use Rattle.seq.proofs.Bytes.{same_refl}
use Rattle.seq.proofs.Logic.{clash}
use Rattle.seq.proofs.Rules.{all_map, all-image, all_append}
use Rattle.lex.specs.Lex.{run, past}
use Rattle.elements.specs.Elements as Elements
use Rattle.msgpack.specs.Head.{forms, form_of, head_of, head_at}
use Rattle.arrays.specs.Arrays as Arrays
use Rattle.values.specs.Value.{Member, GoodText, GoodMember, Differ}
use Rattle.values.specs.Value.Scalar.{Null, Flag, Whole}
use Rattle.values.specs.Stands.{member}
use Rattle.values.specs.Write.{write_scalar, json_scalar, pack_scalar}
use Rattle.options.specs.Audience.{OptionValue, Absent, Wrong, Given, Audience, flag_of, ids_of}
use Rattle.options.specs.Grammar.{IdText, ListOf, flag_text, IsFlag, IsIds}
use Rattle.options.proofs.Cases.{not-wrong}
use Rattle.options.proofs.Grammar.{flag_is, ids-is}
use Rattle.incoming.specs.Shapes.{Acknowledges, Chooses, Publishes, Has}
use Rattle.spoken.specs.Parts.{number, list, dict, InRange, Formed}
use Rattle.spoken.specs.Written.{optional, flag, numbers, only_true, publishing, Listable}
use Rattle.spoken.proofs.Among.{in_left, in_right, pairs-append}
use Rattle.spoken.proofs.Laws.{Value, Part, Inner, Fit, Without}
use Rattle.spoken.proofs.Parts.{writing, reads, good, lacks, inner-scalar, part-number, part-dict, list-in}

-- ---- values
flag-text : (f : Format) (b : Bool) → flag f b ≡ flag_text f b
unfolding json_scalar pack_scalar
flag-text Json true = refl
flag-text Json false = refl
flag-text MsgPack true = refl
flag-text MsgPack false = refl

-- null is of no kind
abbrev null : Format → List ℕ
null f = write_scalar f Null

null-wrong : (f : Format) → (flag_of f (null f) ≡ Wrong) × (ids_of f (null f) ≡ Wrong)
unfolding json_scalar pack_scalar flag_of ids_of same run past Elements.outer Arrays.outer forms form_of head_of head_at
null-wrong Json = (refl, refl)
null-wrong MsgPack = (refl, refl)

not-given : {A : Type 0} (o : OptionValue A) (a : A) → o ≡ Wrong → ¬ (o ≡ Given a)
not-given o a e h = not-wrong (sym e ∙ h)

null-flag : (f : Format) (b : Bool) → ¬ (IsFlag f b (null f))
null-flag f b h = not-given (flag_of f (null f)) b (null-wrong f).0 ((flag_is f (null f) b).1 h)

null-ids : (f : Format) (ids : List ℕ) → ¬ (IsIds f ids (null f))
null-ids f ids h = not-given (ids_of f (null f)) ids (null-wrong f).1 ((ids-is f (null f) ids).1 h)

-- a list of IDs
list_of : (f : Format) (es : List (List ℕ)) → length es ≤ 15 → length (list f es) ≤ 2048 → All (Part f) es → ListOf f es (list f es)
list_of Json es h l a = list-in Json 2048 es h l a
list_of MsgPack es h l a = list-in MsgPack 2048 es h l a

module _ (f : Format) where
  ids-each : (ids : List ℕ) → All InRange ids → Both (IdText f) ids (map (number f) ids)
  ids-each [] a = tt
  ids-each (n ∷ ids) a = ((writing f).number n a.0, ids-each ids a.1)

  numbers-short : (ids : List ℕ) → length ids ≤ 8 → All InRange ids → length (numbers f ids) ≤ 2048
  numbers-short ids l a =
      let k = (writing f).list-short (map (number f) ids) (all-image InRange (λ e. length e ≤ 16) (number f) (writing f).number_short ids a) in
      let h = length-map ids (number f) in
      omega (arith, k, h, l)

  numbers-ids : (ids : List ℕ) → length ids ≤ 8 → All InRange ids → IsIds f ids (numbers f ids)
  numbers-ids ids l a =
      let h = length-map ids (number f) in
      let es = map (number f) ids in
      let parts = all-image InRange (Part f) (number f) (part-number f) ids a in
      (l, (es, ids-each ids a, list_of f es (omega (arith, h, l)) (numbers-short ids l a) parts))

  numbers-inner : (ids : List ℕ) → length ids ≤ 8 → All InRange ids → Inner f (numbers f ids)
  numbers-inner ids l a =
      let h = length-map ids (number f) in
      let es = map (number f) ids in (
        (writing f).list-value 5 es (omega (arith, h, l))
            (all-image InRange (Value f 5) (number f) (λ n (k, m). (writing f).scalar 5 (Whole n) (omega arith)) ids a),
        (writing f).list-formed es (all-image InRange (Formed f) (number f) (λ n r. (part-number f n r).1) ids a),
      )

-- ---- members one after the other
-- these are among them, and none but these has the key
abbrev Holds : List ℕ → List (Member (List ℕ)) → List (Member (List ℕ)) → Type 0
Holds key xs ms = ((m : Member (List ℕ)) → In m xs → In m ms) × (Without key xs → Without key ms)

module _ (key : List ℕ) (xs ms : List (Member (List ℕ))) where
  last : Without key ms → Holds key xs (ms ++ xs)
  last w = (in_right ms xs, all_append (λ m. ¬ (key ≡ m.key)) ms xs w)

  before : Holds key xs ms → (ys : List (Member (List ℕ))) → Without key ys → Holds key xs (ms ++ ys)
  before h ys w = (λ m i. in_left ms ys m (h.0 m i), λ v. all_append (λ m. ¬ (key ≡ m.key)) ms ys (h.1 v) w)

-- ---- an option, whose value is of its kind where it is given
module _ (f : Format) {A : Type 0} (Kind : A → List ℕ → Type 0) (value : Format → A → List ℕ) where
  -- what is written is of its kind
  abbrev Good : OptionValue A → Type 0
  Good Absent = Unit {0}
  Good (Given a) = Kind a (value f a) × Inner f (value f a)
  Good Wrong = (a : A) → ¬ (Kind a (null f))

  good-members : (key : List ℕ) → GoodText key → (o : OptionValue A) → Good o → All (GoodMember (Inner f)) (optional f key value o)
  good-members key g Absent h = tt
  good-members key g (Given a) h = (record { key = g; value = h.1 }, tt)
  good-members key g Wrong h = (record { key = g; value = inner-scalar f Null tt }, tt)

  -- the dict has the member, and no other of this key
  chosen : (key : List ℕ) (o : OptionValue A) → Good o → (ms : List (Member (List ℕ))) → Fit f ms → Holds key (optional f key value o) ms
      → Chooses f Kind key o (dict f ms)
  chosen key Absent h ms g i = lacks f ms g key (i.1 tt)
  chosen key (Given a) h ms g i = (value f a, (writing f).has ms g _ (i.0 (member key (value f a)) (inl refl)), h.0)
  chosen key Wrong h ms g i = (null f, (writing f).has ms g _ (i.0 (member key (null f)) (inl refl)), h)

-- the keys of options
module _ (f : Format) {A : Type 0} (value : Format → A → List ℕ) where
  few : (key : List ℕ) (o : OptionValue A) → length (optional f key value o) ≤ 1
  few key Absent = omega arith
  few key (Given a) = omega arith
  few key Wrong = omega arith

  alone : (key : List ℕ) (o : OptionValue A) → Pairs Differ (optional f key value o)
  alone key Absent = tt
  alone key (Given a) = (tt, tt)
  alone key Wrong = (tt, tt)

  differ : (j k : List ℕ) → ¬ (j ≡ k) → (o : OptionValue A) → Without j (optional f k value o)
  differ j k d Absent = tt
  differ j k d (Given a) = (d, tt)
  differ j k d Wrong = (d, tt)

  other : (j k : List ℕ) → same j k ≡ false → (o : OptionValue A) → Without j (optional f k value o)
  other j k n o = differ j k (λ e. clash (subst (λ (x : List ℕ). same j x ≡ true) e (same_refl j)) n) o

  then-apart : (ms : List (Member (List ℕ))) (key : List ℕ) (o : OptionValue A) → Pairs Differ ms → Without key ms
      → Pairs Differ (ms ++ optional f key value o)
  then-apart ms key o p w =
      pairs-append Differ ms (optional f key value o) p (alone key o)
      (all_map (λ m. ¬ (key ≡ m.key)) (λ m. All (Differ m) (optional f key value o)) (λ m d. differ m.key key (λ e. d (sym e)) o) ms w)

-- ---- the options of PUBLISH
abbrev ack : List ℕ
ack = chars "acknowledge"

abbrev me : List ℕ
me = chars "exclude_me"

abbrev exclude : List ℕ
exclude = chars "exclude"

abbrev eligible : List ℕ
eligible = chars "eligible"

keys-good : GoodText ack × GoodText me × GoodText exclude × GoodText eligible
unfolding every
keys-good = (good ack (omega arith) refl, good me (omega arith) refl, good exclude (omega arith) refl, good eligible (omega arith) refl)

module _ (f : Format) where
  good-flag : (o : OptionValue Bool) → Good f (IsFlag f) flag o
  good-flag Absent = tt
  good-flag (Given b) = (flag-text f b, inner-scalar f (Flag b) tt)
  good-flag Wrong = null-flag f

  good-ids : (o : OptionValue (List ℕ)) → Listable o → Good f (IsIds f) numbers o
  good-ids Absent h = tt
  good-ids (Given ids) h = (numbers-ids f ids h.0 h.1, numbers-inner f ids h.0 h.1)
  good-ids Wrong h = null-ids f

  acknowledged : (b : Bool) (t : List ℕ) → Chooses f (IsFlag f) ack (only_true b) t → Acknowledges f b t
  acknowledged true t (v, h, e) = subst (λ (v : List ℕ). Has f ack v t) (e ∙ (reads f).true-is) h
  acknowledged false t (o, n) = (o, n _)

  module _ (b : Bool) (a : Audience) (x : Listable a.exclude) (y : Listable a.eligible) where
    abbrev one : List (Member (List ℕ))
    one = optional f ack flag (only_true b)

    abbrev two : List (Member (List ℕ))
    two = optional f me flag a.exclude_me

    abbrev three : List (Member (List ℕ))
    three = optional f exclude numbers a.exclude

    abbrev four : List (Member (List ℕ))
    four = optional f eligible numbers a.eligible

    abbrev to-two : List (Member (List ℕ))
    to-two = one ++ two

    abbrev to-three : List (Member (List ℕ))
    to-three = to-two ++ three

    abbrev all : List (Member (List ℕ))
    all = to-three ++ four

    me-new : Without me one
    unfolding same
    me-new = other f flag me ack refl (only_true b)

    exclude-new : Without exclude to-two
    unfolding same
    exclude-new =
        all_append (λ m. ¬ (exclude ≡ m.key)) one two (other f flag exclude ack refl (only_true b)) (other f flag exclude me refl a.exclude_me)

    eligible-new : Without eligible to-three
    unfolding same
    eligible-new =
        all_append (λ m. ¬ (eligible ≡ m.key)) to-two three
        (all_append (λ m. ¬ (eligible ≡ m.key)) one two (other f flag eligible ack refl (only_true b)) (other f flag eligible me refl a.exclude_me))
        (other f numbers eligible exclude refl a.exclude)

    ack-held : Holds ack one all
    unfolding same
    ack-held =
        before ack one to-three
        (before ack one to-two
        (before ack one one (λ m i. i, λ w. w) two (other f flag ack me refl a.exclude_me))
        three (other f numbers ack exclude refl a.exclude))
        four (other f numbers ack eligible refl a.eligible)

    me-held : Holds me two all
    unfolding same
    me-held =
        before me two to-three
        (before me two to-two (last me two one me-new) three (other f numbers me exclude refl a.exclude))
        four (other f numbers me eligible refl a.eligible)

    exclude-held : Holds exclude three all
    unfolding same
    exclude-held = before exclude three to-three (last exclude three to-two exclude-new) four (other f numbers exclude eligible refl a.eligible)

    eligible-held : Holds eligible four all
    eligible-held = last eligible four to-three eligible-new

    fit : Fit f all
    fit =
        let (g, h, i, j) = keys-good in
        let P = GoodMember (Inner f) in
        let k = few f flag ack (only_true b) in
        let l = few f flag me a.exclude_me in
        let m = few f numbers exclude a.exclude in
        let n = few f numbers eligible a.eligible in
        record {
          few = simp length-append (omega (arith, k, l, m, n));
          each =
              all_append P to-three four
              (all_append P to-two three
              (all_append P one two (good-members f (IsFlag f) flag ack g (only_true b) (good-flag (only_true b)))
              (good-members f (IsFlag f) flag me h a.exclude_me (good-flag a.exclude_me)))
              (good-members f (IsIds f) numbers exclude i a.exclude (good-ids a.exclude x)))
              (good-members f (IsIds f) numbers eligible j a.eligible (good-ids a.eligible y));
          apart =
              then-apart f numbers to-three eligible a.eligible
              (then-apart f numbers to-two exclude a.exclude
              (then-apart f flag one me a.exclude_me (alone f flag ack (only_true b)) me-new)
              exclude-new)
              eligible-new;
        }

    pub publishing-is : Publishes f b a (publishing f b a)
    publishing-is = (
      acknowledged b (dict f all) (chosen f (IsFlag f) flag ack (only_true b) (good-flag (only_true b)) all fit ack-held),
      chosen f (IsFlag f) flag me a.exclude_me (good-flag a.exclude_me) all fit me-held,
      chosen f (IsIds f) numbers exclude a.exclude (good-ids a.exclude x) all fit exclude-held,
      chosen f (IsIds f) numbers eligible a.eligible (good-ids a.eligible y) all fit eligible-held,
    )

    pub publishing-part : Part f (publishing f b a)
    publishing-part = part-dict f all fit
