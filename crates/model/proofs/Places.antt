-- Laws of the book's places and entrants: empty places, the two searches, places at a session's end, and names after a change.
-- Assumes nothing.
use Prim.Native.Nat.{ℕ, zero, suc, ◌<◌}
use mathlib.Core.Path.{◌≡◌, refl, ap, subst}
use mathlib.Core.Bool.{true, false}
use mathlib.Core.List.{List, [], ◌∷◌, map}
use native.Mathlib.Omega.{arith}
use borrow.Author.Tests.{eqb-true, ltb-true, ltb-false}
use lib.Dec.{eqb, ltb}
use lib.ListN.{length, get_or, set, get_or-map, get_or-eq_default}
use Rattle.seq.proofs.Logic.{split, clash}
use Rattle.model.specs.Book.{Book, Entrant, nobody, Place, no_place, names, entrant, vacant, lowest, awaits, lookup, involves, without, served_for, asked, invoked, with_entrant}
use Rattle.model.specs.Run.{ended_by}

-- ---- empty places
pub vacant-no : vacant no_place ≡ true
unfolding vacant
vacant-no = refl

pub involves-vacant : (e : ℕ) (p : Place) → vacant p ≡ true → involves e p ≡ false
unfolding involves
involves-vacant e p f = rw f

pub served-vacant : (e : ℕ) (p : Place) → vacant p ≡ true → served_for e p ≡ false
unfolding served_for
served-vacant e p f = rw f

pub awaits-vacant : (e v : ℕ) (p : Place) → vacant p ≡ true → awaits e v p ≡ false
unfolding awaits
awaits-vacant e v p f = rw f

pub served-used : (e : ℕ) (p : Place) → served_for e p ≡ true → vacant p ≡ false
served-used e p t = split (vacant p) (λ f. clash t (served-vacant e p f)) (λ f. f)

pub awaits-used : (e v : ℕ) (p : Place) → awaits e v p ≡ true → vacant p ≡ false
awaits-used e v p t = split (vacant p) (λ f. clash t (awaits-vacant e v p f)) (λ f. f)

-- ---- the two searches
-- the lowest empty place is empty
pub lowest-vacant : (ps : List Place) → lowest ps < length ps → vacant (get_or ps (lowest ps) no_place) ≡ true
unfolding lowest
lowest-vacant [] h = absurd (omega arith)
lowest-vacant (p ∷ ps) h =
    split (vacant p) (λ t. rw t t) (λ t. rw t (lowest-vacant ps (let g : suc (lowest ps) < suc (length ps) = rw t at h in omega arith)))

-- the place that the search finds awaits the answer
pub lookup-awaits : (e v : ℕ) (ps : List Place) → lookup e v ps < length ps → awaits e v (get_or ps (lookup e v ps) no_place) ≡ true
unfolding lookup
lookup-awaits e v [] h = absurd (omega arith)
lookup-awaits e v (p ∷ ps) h =
    split (awaits e v p) (λ t. rw t t) (λ t. rw t (lookup-awaits e v ps (let g : suc (lookup e v ps) < suc (length ps) = rw t at h in omega arith)))

-- where a place awaits the answer, the search finds one
pub lookup-finds : (e v : ℕ) (ps : List Place) (k : ℕ) → awaits e v (get_or ps k no_place) ≡ true → lookup e v ps < length ps
unfolding lookup
lookup-finds e v [] k t = clash t (awaits-vacant e v no_place vacant-no)
lookup-finds e v (p ∷ ps) zero t = rw t (omega arith)
lookup-finds e v (p ∷ ps) (suc k) t =
    let r = lookup-finds e v ps k t in
    split (awaits e v p) (λ u. rw u (omega arith)) (λ u. rw u (omega arith))

-- ---- a session's end
pub without_in : (e : ℕ) (p : Place) → involves e p ≡ true → without e p ≡ no_place
unfolding without
without_in e p t = rw t

pub without-out : (e : ℕ) (p : Place) → involves e p ≡ false → without e p ≡ p
unfolding without
without-out e p t = rw t

pub without_at : (e : ℕ) (ps : List Place) (k : ℕ) → get_or (map (without e) ps) k no_place ≡ without e (get_or ps k no_place)
without_at e ps k =
    subst (λ d. get_or (map (without e) ps) k d ≡ without e (get_or ps k no_place))
    (without-out e no_place (involves-vacant e no_place vacant-no))
    (get_or-map (without e) ps k no_place)

-- ---- names
-- a session that keeps its name leaves every name as it was
pub names-keep : (es : List Entrant) (k : ℕ) (e : Entrant) → e.name ≡ names es k → (j : ℕ) → names (set es k e) j ≡ names es j
names-keep [] k e q j = refl
names-keep (x ∷ xs) zero e q zero = q
names-keep (x ∷ xs) zero e q (suc j) = refl
names-keep (x ∷ xs) (suc k) e q zero = refl
names-keep (x ∷ xs) (suc k) e q (suc j) = names-keep xs k e q j

pub names-gone : (es : List Entrant) (k : ℕ) → names (set es k nobody) k ≡ 0
names-gone [] k = refl
names-gone (x ∷ xs) zero = refl
names-gone (x ∷ xs) (suc k) = names-gone xs k

pub asked-names : (b : Book) (i m j : ℕ) → names (asked b i m).entrants j ≡ names b.entrants j
unfolding asked with_entrant entrant
asked-names b i m j = names-keep b.entrants i _ refl j

pub invoked-names : (b : Book) (i v j : ℕ) → names (invoked b i v).entrants j ≡ names b.entrants j
unfolding invoked with_entrant entrant
invoked-names b i v j = names-keep b.entrants i _ refl j

-- a slot with a named session is one of the slots
pub named-inside : (es : List Entrant) (i : ℕ) → 0 < names es i → i < length es
named-inside es i h =
    split (ltb i (length es))
    (λ t. ltb-true i (length es) t)
    (λ t. let z = ap (λ (e : Entrant). e.name) (get_or-eq_default es nobody (ltb-false i (length es) t)) in absurd (omega arith))

-- ---- the session that a step ends
-- none, where the name stays
pub ended-kept : (b b' : Book) (i : ℕ) → names b'.entrants i ≡ names b.entrants i → ended_by b b' i ≡ 0
unfolding ended_by
ended-kept b b' i q = rw q (split (eqb (names b.entrants i) 0) (λ t. rw (t, eqb-true (names b.entrants i) 0 t)) (λ t. rw t))

-- none, where there was none
pub ended-unnamed : (b b' : Book) (i : ℕ) → names b.entrants i ≡ 0 → ended_by b b' i ≡ 0
unfolding ended_by
ended-unnamed b b' i z = rw z (split (eqb (names b'.entrants i) 0) (λ t. rw t) (λ t. rw t))

-- the one that was there, where none is left
pub ended-gone : (b b' : Book) (i : ℕ) → names b'.entrants i ≡ 0 → ended_by b b' i ≡ names b.entrants i
unfolding ended_by
ended-gone b b' i z = rw z
