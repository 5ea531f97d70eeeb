-- The members of a dict that is an element of a message are all found, in order, and nothing else. Assumes nothing.
-- `dict-read`: the reader of JSON takes a dict exactly if its members reach the closing brace and no two keys stand for the same text.
-- `dict-exact`: what is found of such a dict, from the opening brace to the closing one (`Found`).
-- `value-exact`, `value-absent`: the value found under the text of each member's key is that member's; a text that is no member's key gives none.
use Rattle.std.specs.Prelude.{Some, None, Option}
use mathlib.Core.Path.{◌≡◌, refl, sym, ap, subst, ◌∙◌}
use Prim.Native.Nat.{ℕ, zero, suc, ◌+◌, ◌≤◌, ◌<◌}
use Prim.Native.Char.{code}
use mathlib.Core.List.{List, [], ◌∷◌}
use mathlib.Core.Bool.{Bool, true, false, cond}
use native.Mathlib.Decide.{dec_le}
use native.Mathlib.Omega.{arith}
use lib.ListN.{length, get_or}
use Rattle.seq.specs.Bytes.{byte_at, same, among}
use Rattle.seq.proofs.Logic.{clash, or-false}
use Rattle.seq.proofs.Bytes.{same_refl, same-ne}
use Rattle.strings.specs.Strings.{undone}
use Rattle.lex.specs.declared.Mark.{Mark}
use Rattle.lex.specs.declared.Mark.TheVariants.{Item, End, Neither}
use Rattle.lex.specs.Lex.{and_then, quoted, colon, close_dict, first, next}
use Rattle.lex.proofs.Chain.{Chain, chain-good, chain-starts, chain-follows, chain-empty, chain-stops}
use Rattle.json_text.specs.Json.{max_bytes, follow, key_from, members, braced, value, dict, value_at}
use Rattle.json_text.proofs.Laws.{value-dict, at-short, at_long}
use Rattle.members.specs.declared.Member.{Member}
use Rattle.members.specs.Members.{Pair, pair, member_of, on_to, on_member, member_at, pairs, member_depth, members_at, blank, key_in, value_of}
use Rattle.members.proofs.Laws.{members-is}

-- how many lists and dicts an element of a message may open
abbrev pub dict_depth : ℕ
dict_depth = 7

-- member k, and an empty one past the last
abbrev pub none : Pair
none = pair 0 0 0 0

abbrev pub member : ℕ → List Pair → Pair
member k ps = get_or ps k none

-- the text of a member's key
abbrev pub key_text : List ℕ → Pair → List ℕ
key_text t p = undone (key_in t p)

-- no key's text is one of `seen`, and no two are equal
unfoldable pub new_keys : List ℕ → List (List ℕ) → List Pair → Bool
new_keys t seen [] = true
new_keys t seen (p ∷ ps) = cond (among (key_text t p) seen) false (new_keys t (key_text t p ∷ seen) ps)

abbrev pub onward : Option Member → (ℕ → Option ℕ) → Option ℕ
onward (Some m) f = f m.value.to
onward None f = None

-- where the members from a mark on end: just past the closing brace
unfoldable pub ends : (ℕ → Option ℕ) → ℕ → List ℕ → Mark → Option ℕ
ends v zero t m = follow m λ k. None
ends v (suc fuel) t m = follow m λ k. onward (member_at v t k) λ e. ends v fuel t (next close_dict t e)

-- the same for the dict whose brace stands at a place
abbrev pub end_at : List ℕ → ℕ → Option ℕ
end_at t at = ends (value member_depth t) (length t) t (first close_dict t (at + 1))

-- ---- the reader of JSON goes over the same members
module _ (v : ℕ → Option ℕ) (s : List ℕ) where
  abbrev Dict : ℕ → List (List ℕ) → Mark → Type 0
  Dict f seen m = follow m (members v seen f s) ≡ cond (new_keys s seen (pairs v f s m)) (ends v f s m) None

  same-bad : (b : Bool) → cond {A = Option ℕ} b None None ≡ None
  same-bad true = refl
  same-bad false = refl

  module _ (f k : ℕ) (seen : List (List ℕ)) (ih : (seen : List (List ℕ)) (m : Mark) → Dict f seen m) where
    abbrev Turn : Option ℕ → Option Member → Type 0
    Turn r x = r ≡ cond (new_keys s seen (on_member x λ q a e. pair k q a e ∷ pairs v f s (next 125 s e)))
        (onward x λ e. ends v f s (next 125 s e)) None

    abbrev Next : ℕ → ℕ → Option ℕ
    Next q z = follow (next 125 s z) (members v (key_from s k q ∷ seen) f s)

    at_value : (q a : ℕ) (r : Option ℕ) → Turn (cond (among (key_from s k q) seen) None (and_then r (Next q))) (on_to r λ e. member_of q a e)
    unfolding new_keys
    at_value q a (Some e) = go (among (key_from s k q) seen)
      where
        go : (b : Bool) → cond b None (Next q e)
            ≡ cond (cond b false (new_keys s (key_from s k q ∷ seen) (pairs v f s (next 125 s e)))) (ends v f s (next 125 s e)) None
        go true = refl
        go false = ih (key_from s k q ∷ seen) (next 125 s e)
    at_value q a None = same-bad (among (key_from s k q) seen)

    at-colon : (q : ℕ) (r : Option ℕ)
        → Turn (cond (among (key_from s k q) seen) None (and_then r λ a. and_then (v a) (Next q))) (on_to r λ a. on_to (v a) λ e. member_of q a e)
    unfolding new_keys
    at-colon q (Some a) = at_value q a (v a)
    at-colon q None = same-bad (among (key_from s k q) seen)

    at_key : (r : Option ℕ)
        → Turn (and_then r λ q. cond (among (key_from s k q) seen) None (and_then (colon s q) λ a. and_then (v a) (Next q)))
        (on_to r λ q. on_to (colon s q) λ a. on_to (v a) λ e. member_of q a e)
    unfolding new_keys
    at_key (Some q) = at-colon q (colon s q)
    at_key None = refl

  dict-turns : (f : ℕ) (seen : List (List ℕ)) (m : Mark) → Dict f seen m
  unfolding members pairs ends new_keys member_at
  dict-turns zero seen (Item k) = refl
  dict-turns zero seen (End e) = refl
  dict-turns zero seen Neither = refl
  dict-turns (suc f) seen (Item k) = at_key f k seen (dict-turns f) (quoted s k)
  dict-turns (suc f) seen (End e) = refl
  dict-turns (suc f) seen Neither = refl

-- the reader of JSON takes a dict exactly if its members reach the closing brace and no two keys stand for the same text
pub dict-read : (t : List ℕ) (at : ℕ) → length t ≤ max_bytes → byte_at t at ≡ code "{"
    → value_at dict_depth t at ≡ cond (new_keys t [] (members_at t at)) (end_at t at) None
unfolding dict braced
dict-read t at l b =
    at-short 7 t at l ∙ value-dict 7 t at (byte_at t at) refl b ∙ dict-turns (value 6 t) t (length t) [] (first 125 t (at + 1))
    ∙ ap (λ (ps : List Pair). cond (new_keys t [] ps) (end_at t at) None) (sym (members-is t at (byte_at t at) refl l b))

-- ---- what is found
-- The members ps of the dict whose brace stands at `at`, and which ends just before e.
pub record Found (t : List ℕ) (at : ℕ) (ps : List Pair) (e : ℕ) : Type 0 where
  -- each member is a string, a colon and a JSON value, each where its span says
  pub keys : (k : ℕ) → k < length ps → quoted t (member k ps).key.from ≡ Some (member k ps).key.to
  pub colons : (k : ℕ) → k < length ps → colon t (member k ps).key.to ≡ Some (member k ps).value.from
  pub values : (k : ℕ) → k < length ps → value_at member_depth t (member k ps).value.from ≡ Some (member k ps).value.to
  -- the first member starts past the brace and white space
  pub starts : 0 < length ps → first close_dict t (at + 1) ≡ Item (member 0 ps).key.from
  -- each next one starts past white space, a comma and white space after the one before
  pub follows : (k : ℕ) → k + 1 < length ps → next close_dict t (member k ps).value.to ≡ Item (member (k + 1) ps).key.from
  -- after the last one white space and the closing brace stand
  pub stops : (k : ℕ) → k + 1 ≡ length ps → next close_dict t (member k ps).value.to ≡ End e
  -- so they do past the opening brace if there are none
  pub empty : length ps ≡ 0 → first close_dict t (at + 1) ≡ End e
  -- no two keys stand for the same text
  pub differ : (i j : ℕ) → i < j → j < length ps → key_text t (member i ps) ≡ key_text t (member j ps) → ⊥

bad-to : {A : Type 0} {e : ℕ} → None ≡ Some e → A
bad-to h = let z : ◌≡◌ {A = ℕ} 0 1 = cc in absurd (omega arith)

bad-of : {A : Type 0} {q a e : ℕ} → None ≡ member_of q a e → A
bad-of h = let z : ◌≡◌ {A = ℕ} 0 1 = cc in absurd (omega arith)

-- equal members have equal parts
abbrev part_of : (Member → ℕ) → Option Member → ℕ
part_of f (Some m) = f m
part_of f None = 0

same_parts : {q a e q' a' e' : ℕ} → member_of q' a' e' ≡ member_of q a e → (q' ≡ q) × (a' ≡ a) × (e' ≡ e)
same_parts h = (
  ap (part_of λ (m : Member). m.key_end) h,
  ap (part_of λ (m : Member). m.value.from) h,
  ap (part_of λ (m : Member). m.value.to) h,
)

-- a member's parts
module _ (v : ℕ → Option ℕ) (t : List ℕ) (k q a e : ℕ) where
  abbrev Parts : Type 0
  Parts = (quoted t k ≡ Some q) × (colon t q ≡ Some a) × (v a ≡ Some e)

  parts-value : (q' a' : ℕ) → quoted t k ≡ Some q' → colon t q' ≡ Some a' → (r : Option ℕ) → v a' ≡ r → on_to r (λ z. member_of q' a' z) ≡ member_of q a e → Parts
  parts-value q' a' x y (Some e') z h = let (q₁, a₁, e₁) = same_parts h in (cc, cc, cc)
  parts-value q' a' x y None z h = bad-of h

  parts-colon : (q' : ℕ) → quoted t k ≡ Some q' → (r : Option ℕ) → colon t q' ≡ r → on_to r (λ y. on_to (v y) λ z. member_of q' y z) ≡ member_of q a e → Parts
  parts-colon q' x (Some a') y h = parts-value q' a' x y (v a') refl h
  parts-colon q' x None y h = bad-of h

  parts-key : (r : Option ℕ) → quoted t k ≡ r → on_to r (λ x. on_to (colon t x) λ y. on_to (v y) λ z. member_of x y z) ≡ member_of q a e → Parts
  parts-key (Some q') x h = parts-colon q' x (colon t q') refl h
  parts-key None x h = bad-of h

  parts : member_at v t k ≡ member_of q a e → Parts
  unfolding member_at
  parts h = parts-key (quoted t k) refl h

abbrev start : Pair → ℕ
start p = p.key.from

abbrev stop : Pair → ℕ
stop p = p.value.to

-- from the mark m on
module _ (v : ℕ → Option ℕ) (t : List ℕ) (e : ℕ) where
  abbrev IsMember : Pair → Type 0
  IsMember p = Parts v t p.key.from p.key.to p.value.from p.value.to

  abbrev Ordered : Mark → List Pair → Type 0
  Ordered m ps = Chain start stop IsMember (next close_dict t) e m ps

  ordered : (f : ℕ) (m : Mark) → ends v f t m ≡ Some e → Ordered m (pairs v f t m)
  unfolding ends pairs
  ordered zero (Item k) h = bad-to h
  ordered zero (End d) h = cc
  ordered zero Neither h = bad-to h
  ordered (suc f) (Item k) h = go (ordered f) (member_at v t k) refl h
    where
      go : ((m : Mark) → ends v f t m ≡ Some e → Ordered m (pairs v f t m)) → (r : Option Member) → member_at v t k ≡ r
          → onward r (λ z. ends v f t (next close_dict t z)) ≡ Some e
          → Ordered (Item k) (on_member r λ x y z. pair k x y z ∷ pairs v f t (next close_dict t z))
      go ih (Some w) r h = (refl, parts v t k w.key_end w.value.from w.value.to r, ih (next close_dict t w.value.to) h)
      go ih None r h = bad-to h
  ordered (suc f) (End d) h = cc
  ordered (suc f) Neither h = bad-to h

-- keys that differ
first-new : (b c : Bool) → cond b false c ≡ true → (b ≡ false) × (c ≡ true)
first-new true c e = clash refl (sym e)
first-new false c e = (refl, e)

module _ (t : List ℕ) where
  key-new : (seen : List (List ℕ)) (ps : List Pair) (i : ℕ) → new_keys t seen ps ≡ true → i < length ps → among (key_text t (member i ps)) seen
      ≡ false
  unfolding new_keys among
  key-new seen [] i h l = absurd (omega arith)
  key-new seen (p ∷ ps) zero h l = (first-new (among (key_text t p) seen) (new_keys t (key_text t p ∷ seen) ps) h).0
  key-new seen (p ∷ ps) (suc i) h l =
      let n = (first-new (among (key_text t p) seen) (new_keys t (key_text t p ∷ seen) ps) h).1 in
      (or-false (same (key_text t p) (key_text t (member i ps))) _ (key-new (key_text t p ∷ seen) ps i n (omega arith))).1

  -- the first key is none of the later ones
  first-differs : (seen : List (List ℕ)) (p : Pair) (ps : List Pair) (i : ℕ) → new_keys t seen (p ∷ ps) ≡ true → i < length ps
      → same (key_text t p) (key_text t (member i ps)) ≡ false
  unfolding new_keys among
  first-differs seen p ps i h l =
      let n = (first-new (among (key_text t p) seen) (new_keys t (key_text t p ∷ seen) ps) h).1 in
      (or-false (same (key_text t p) (key_text t (member i ps))) _ (key-new (key_text t p ∷ seen) ps i n (omega arith))).0

  tail-new : (seen : List (List ℕ)) (p : Pair) (ps : List Pair) → new_keys t seen (p ∷ ps) ≡ true → new_keys t (key_text t p ∷ seen) ps ≡ true
  unfolding new_keys
  tail-new seen p ps h = (first-new (among (key_text t p) seen) (new_keys t (key_text t p ∷ seen) ps) h).1

  keys-differ : (seen : List (List ℕ)) (ps : List Pair) → new_keys t seen ps ≡ true → (i j : ℕ) → i < j → j < length ps
      → key_text t (member i ps) ≡ key_text t (member j ps) → ⊥
  keys-differ seen [] h i j l k e = omega arith
  keys-differ seen (p ∷ ps) h zero zero l k e = omega arith
  keys-differ seen (p ∷ ps) h zero (suc j) l k e =
      clash (same_refl (key_text t (member j ps))) (rw e at (first-differs seen p ps j h (omega arith)))
  keys-differ seen (p ∷ ps) h (suc i) zero l k e = omega arith
  keys-differ seen (p ∷ ps) h (suc i) (suc j) l k e = keys-differ (key_text t p ∷ seen) ps (tail-new seen p ps h) i j (omega arith)
      (omega arith) e

  look_up : (seen : List (List ℕ)) (ps : List Pair) (i : ℕ) → new_keys t seen ps ≡ true → i < length ps
      → value_of t (key_text t (member i ps)) ps ≡ (member i ps).value
  unfolding value_of
  look_up seen [] i h l = absurd (omega arith)
  look_up seen (p ∷ ps) zero h l = rw (same_refl (key_text t p))
  look_up seen (p ∷ ps) (suc i) h l =
      rw (first-differs seen p ps i h (omega arith)) (look_up (key_text t p ∷ seen) ps i (tail-new seen p ps h) (omega arith))

-- a dict that the reader of JSON takes: its keys differ and its members reach the closing brace
kept : (b : Bool) (r : Option ℕ) {e : ℕ} → cond b r None ≡ Some e → (b ≡ true) × (r ≡ Some e)
kept true r h = (refl, h)
kept false r h = bad-to h

short : (t : List ℕ) (at e : ℕ) → value_at dict_depth t at ≡ Some e → length t ≤ max_bytes
short t at e h = elim (dec_le (length t) max_bytes) [ yes l ↦ l | no l ↦ bad-to (sym (at_long dict_depth t at (omega arith)) ∙ h) ]

module _ (t : List ℕ) (at e : ℕ) (b : byte_at t at ≡ code "{") (h : value_at dict_depth t at ≡ Some e) where
  taken : (new_keys t [] (members_at t at) ≡ true) × (end_at t at ≡ Some e)
  taken = kept (new_keys t [] (members_at t at)) (end_at t at) (sym (dict-read t at (short t at e h) b) ∙ h)

  pub dict-exact : Found t at (members_at t at) e
  dict-exact =
      let l = short t at e h in
      let v = value member_depth t in
      let ps = members_at t at in
      let m = first close_dict t (at + 1) in
      let is_member = IsMember v t e in
      let c : Ordered v t e m ps =
      subst (λ (x : List Pair). Ordered v t e m x) (sym (members-is t at (byte_at t at) refl l b)) (ordered v t e (length t) m taken.1) in
      record {
        keys = λ k i. (chain-good start stop is_member (next close_dict t) e none m ps c k i).0;
        colons = λ k i. (chain-good start stop is_member (next close_dict t) e none m ps c k i).1;
        values = λ k i.
            at-short member_depth t (member k ps).value.from l ∙ (chain-good start stop is_member (next close_dict t) e none m ps c k i).2;
        starts = chain-starts start stop is_member (next close_dict t) e none m ps c;
        follows = chain-follows start stop is_member (next close_dict t) e none m ps c;
        stops = chain-stops start stop is_member (next close_dict t) e none m ps c;
        empty = chain-empty start stop is_member (next close_dict t) e none m ps c;
        differ = keys-differ t [] ps taken.0;
      }

  -- the value found under the text of each member's key is that member's
  pub value-exact : (i : ℕ) → i < length (members_at t at)
      → value_of t (key_text t (member i (members_at t at))) (members_at t at) ≡ (member i (members_at t at)).value
  value-exact i l = look_up t [] (members_at t at) i taken.0 l

-- a text that is no member's key gives none
pub value-absent : (t key : List ℕ) (ps : List Pair) → ((i : ℕ) → i < length ps → key_text t (member i ps) ≡ key → ⊥) → value_of t key ps ≡ blank
unfolding value_of
value-absent t key [] h = refl
value-absent t key (p ∷ ps) h = rw (same-ne (key_text t p) key (h 0 (omega arith))) (value-absent t key ps (λ i l. h (suc i) (omega arith)))
