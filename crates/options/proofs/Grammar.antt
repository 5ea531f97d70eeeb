-- The options of PUBLISH are read from exactly the values that specs/Grammar.antt gives. Assumes nothing.
-- `flag_is`, `ids-is`: a flag or a list of IDs is read exactly where the value is that one; `flag-absent`, `ids-absent`: an option is absent
-- exactly where it has no bytes.
use Prim.Native.Nat.{ℕ, suc, ◌≤◌}
use mathlib.Core.List.{List, [], ◌∷◌, map}
use mathlib.Core.Bool.{Bool, true, false, ◌&&◌}
use mathlib.Core.Logic.{◌↔◌}
use mathlib.Core.Path.{◌≡◌, refl, sym, ap, ap₂, subst, ◌∙◌}
use native.Mathlib.Omega.{arith}
use lib.ListN.{length}
use lib.Dec.{eqb, leb}
use borrow.Author.Tests.{le-leb, leb-true, ne_eqb, eqb-true, eqb-false}
use Rattle.seq.specs.declared.Format.{Format, TheVariants.Json, TheVariants.MsgPack}
use Rattle.seq.specs.declared.Span.{Span}
use Rattle.seq.specs.Bytes.{text_of, same}
use Rattle.seq.specs.Lists.{All, Both, every}
use Rattle.seq.proofs.Bytes.{same-eq}
use Rattle.seq.proofs.Logic.{split, and_left, and_right, and_both, not_is}
use Rattle.json_text.specs.Grammar as JsonGrammar
use Rattle.msgpack.specs.Grammar as PackGrammar
use Rattle.msgpack.specs.Head.{form_of, head_of, head_at}
use Rattle.elements.specs.Elements as E
use Rattle.elements.specs.Elements.{Items, Are, Not}
use Rattle.elements.proofs.Grammar as Elements
use Rattle.elements.proofs.Numbers.{numbers, id-is}
use Rattle.arrays.specs.Arrays as A
use Rattle.arrays.proofs.Grammar as Arrays
use Rattle.options.specs.Audience.{OptionValue, Absent, Wrong, Given, bool_text, flag_of, items_of, id_at, is_id, listed, ids_in, ids_of}
use Rattle.options.specs.Grammar.{IdText, ListOf, flag_text, IsFlag, IsIds}
use Rattle.options.proofs.Cases.{given_is, not-wrong, not-absent, given-absent, wrong-absent}

-- ---- no bytes
empty-is : (v : List ℕ) → eqb (length v) 0 ≡ true → v ≡ []
empty-is [] e = refl
empty-is (b ∷ v) e = let z = eqb-true (suc (length v)) 0 e in absurd (omega arith)

-- ---- a boolean
texts-same : (f : Format) (b : Bool) → bool_text f b ≡ flag_text f b
texts-same Json true = refl
texts-same Json false = refl
texts-same MsgPack true = refl
texts-same MsgPack false = refl

flag-found : (f : Format) (v : List ℕ) (b : Bool) → flag_of f v ≡ Given b → IsFlag f b v
unfolding flag_of
flag-found f v b h =
    split (eqb (length v) 0)
    (λ z. not-absent (rw z at h))
    λ z. split (same v (bool_text f true))
    (λ t. same-eq v (bool_text f true) t ∙ ap (bool_text f) (given_is (rw (z, t) at h)) ∙ texts-same f b)
    λ t. split (same v (bool_text f false))
    (λ u. same-eq v (bool_text f false) u ∙ ap (bool_text f) (given_is (rw (z, t, u) at h)) ∙ texts-same f b)
    (λ u. not-wrong (rw (z, t, u) at h))

flag-read : (f : Format) (b : Bool) → flag_of f (flag_text f b) ≡ Given b
unfolding flag_of same
flag-read Json true = refl
flag-read Json false = refl
flag-read MsgPack true = refl
flag-read MsgPack false = refl

pub flag_is : (f : Format) (v : List ℕ) (b : Bool) → (flag_of f v ≡ Given b) ↔ IsFlag f b v
flag_is f v b = (flag-found f v b, λ e. ap (flag_of f) e ∙ flag-read f b)

pub flag-absent : (f : Format) (v : List ℕ) → (flag_of f v ≡ Absent) ↔ (v ≡ [])
unfolding flag_of
flag-absent f v = (
  λ h. split (eqb (length v) 0) (empty-is v)
      λ z. split (same v (bool_text f true)) (λ t. given-absent (rw (z, t) at h))
      λ t. split (same v (bool_text f false)) (λ u. given-absent (rw (z, t, u) at h)) (λ u. wrong-absent {A = Bool} (rw (z, t, u) at h)),
  λ e. rw e,
)

-- ---- a list of IDs
-- a value, as an element of a list
abbrev Element : Format → List ℕ → Type 0
Element Json t = JsonGrammar.Value 7 t
Element MsgPack t = PackGrammar.Value 7 t

elements-are : (f : Format) (es : List (List ℕ)) (v : List ℕ) → ListOf f es v → All (Element f) es
elements-are Json es v h = h.1
elements-are MsgPack es v h = h.1

list-found : (f : Format) (v : List ℕ) (ps : List Span) (e : ℕ) → items_of f v ≡ Are ps e → ListOf f (map (text_of v) ps) v
list-found Json v ps e h = Elements.outer-found v ps e h
list-found MsgPack v ps e h = Arrays.outer-found v ps e h

list-is : (f : Format) (v : List ℕ) (es : List (List ℕ)) → ListOf f es v
    → (ps : List Span) × (e : ℕ) × (items_of f v ≡ Are ps e) × (map (text_of v) ps ≡ es)
list-is Json v es h = Elements.outer-is v es h
list-is MsgPack v es h = Arrays.outer-is v es h

list-none : (f : Format) → items_of f [] ≡ Not
unfolding E.outer A.outer head_at head_of form_of
list-none Json = refl
list-none MsgPack = refl

-- one element
some_id : (n : ℕ) → is_id n ≡ true → 1 ≤ n
some_id n h = let z = eqb-false n 0 (not_is (eqb n 0) h) in omega arith

id-found : (f : Format) (v : List ℕ) (p : Span) → Element f (text_of v p) → is_id (id_at f v p) ≡ true → IdText f (id_at f v p) (text_of v p)
id-found Json v p g h =
    let l = some_id (id_at Json v p) h in
    let (q, m) = numbers.only (text_of v p) (id_at Json v p) refl l in
    (l, m, q)
id-found MsgPack v p g h = (Arrays.id-is 7 (text_of v p) (id_at MsgPack v p) g).0 (refl, some_id (id_at MsgPack v p) h)

id-read : (f : Format) (v : List ℕ) (p : Span) (n : ℕ) → IdText f n (text_of v p) → (id_at f v p ≡ n) × (is_id n ≡ true)
id-read Json v p n (l, m, e) = ((id-is (text_of v p) n l m).1 e, rw (ne_eqb n 0 (λ z. omega arith)))
id-read MsgPack v p n (l, m, g) = (Arrays.id-read (text_of v p) n (l, m, g), rw (ne_eqb n 0 (λ z. omega arith)))

-- all of them
all_found : (f : Format) (v : List ℕ) (ps : List Span) → All (Element f) (map (text_of v) ps) → every is_id (map (id_at f v) ps) ≡ true
    → Both (IdText f) (map (id_at f v) ps) (map (text_of v) ps)
unfolding every
all_found f v [] g h = tt
all_found f v (p ∷ ps) g h = (
  id-found f v p g.0 (and_left (is_id (id_at f v p)) _ h),
  all_found f v ps g.1 (and_right (is_id (id_at f v p)) _ h),
)

all_read : (f : Format) (v : List ℕ) (ps : List Span) (ns : List ℕ) → Both (IdText f) ns (map (text_of v) ps)
    → (map (id_at f v) ps ≡ ns) × (every is_id ns ≡ true)
unfolding every
all_read f v [] [] g = (refl, refl)
all_read f v [] (n ∷ ns) g = absurd g
all_read f v (p ∷ ps) [] g = absurd g
all_read f v (p ∷ ps) (n ∷ ns) g =
    let (e, h) = id-read f v p n g.0 in
    let (es, hs) = all_read f v ps ns g.1 in
    (ap₂ ◌∷◌ e es, and_both h hs)

listed_found : (ms ns : List ℕ) → listed ms ≡ Given ns → (length ms ≤ 8) × (every is_id ms ≡ true) × (ms ≡ ns)
unfolding listed
listed_found ms ns h =
    split (leb (length ms) 8 && every is_id ms)
    (λ t. (
      leb-true (length ms) 8 (and_left (leb (length ms) 8) _ t),
      and_right (leb (length ms) 8) _ t,
      given_is (rw t at h),
    ))
    (λ t. not-wrong (rw t at h))

listed-is : (ns : List ℕ) → length ns ≤ 8 → every is_id ns ≡ true → listed ns ≡ Given ns
unfolding listed
listed-is ns l h = rw (le-leb (length ns) 8 l, h)

items-found : (f : Format) (v ns : List ℕ) (i : Items) → items_of f v ≡ i → ids_in f v i ≡ Given ns → IsIds f ns v
items-found f v ns (Are ps e) q h =
    let (l, g, k) = listed_found (map (id_at f v) ps) ns h in
    let t = list-found f v ps e q in
    subst (λ (ms : List ℕ). IsIds f ms v) k (l, (map (text_of v) ps, all_found f v ps (elements-are f (map (text_of v) ps) v t) g, t))
items-found f v ns Not q h = not-wrong h

ids-found : (f : Format) (v ns : List ℕ) → ids_of f v ≡ Given ns → IsIds f ns v
unfolding ids_of
ids-found f v ns h =
    split (eqb (length v) 0) (λ z. not-absent (rw z at h)) (λ z. items-found f v ns (items_of f v) refl (rw z at h))

are-not : {A : Type 0} {ps : List Span} {e : ℕ} → Are ps e ≡ Not → A
are-not h = let z : ◌≡◌ {A = ℕ} 0 1 = cc in absurd (omega arith)

ids-read : (f : Format) (v ns : List ℕ) → IsIds f ns v → ids_of f v ≡ Given ns
unfolding ids_of
ids-read f v ns (l, (es, g, t)) =
    let (ps, e, q, k) = list-is f v es t in
    let (r, h) = all_read f v ps ns (subst (λ (us : List (List ℕ)). Both (IdText f) ns us) (sym k) g) in
    split (eqb (length v) 0)
    (λ z. are-not (sym q ∙ ap (items_of f) (empty-is v z) ∙ list-none f))
    (λ z. rw (z, q) (ap listed r ∙ listed-is ns l h))

pub ids-is : (f : Format) (v : List ℕ) (ns : List ℕ) → (ids_of f v ≡ Given ns) ↔ IsIds f ns v
ids-is f v ns = (ids-found f v ns, ids-read f v ns)

listed-some : (ns : List ℕ) → listed ns ≡ Absent → ⊥
unfolding listed
listed-some ns h =
    split (leb (length ns) 8 && every is_id ns) (λ t. given-absent (rw t at h)) (λ t. wrong-absent {A = List ℕ} (rw t at h))

items-some : (f : Format) (v : List ℕ) (i : Items) → ids_in f v i ≡ Absent → ⊥
items-some f v (Are ps e) h = listed-some (map (id_at f v) ps) h
items-some f v Not h = wrong-absent {A = List ℕ} h

pub ids-absent : (f : Format) (v : List ℕ) → (ids_of f v ≡ Absent) ↔ (v ≡ [])
unfolding ids_of
ids-absent f v = (
  λ h. split (eqb (length v) 0) (empty-is v) (λ z. absurd (items-some f v (items_of f v) (rw z at h))),
  λ e. rw e,
)
