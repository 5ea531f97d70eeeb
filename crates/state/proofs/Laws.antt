-- Laws of the state's changes, for the functions' proofs. Assumes nothing.
use Prim.Native.Nat.{ℕ, zero, suc, ◌+◌, ◌≤◌, ◌<◌}
use mathlib.Core.Bool.{Bool, true, false, not, cond, ◌&&◌}
use mathlib.Core.List.{List, [], ◌∷◌, map}
use mathlib.Core.Path.{◌≡◌, refl, sym, ap, ◌∙◌, fun_ext}
use native.Mathlib.Omega.{arith}
use native.Mathlib.Decide.{dec_le}
use borrow.Author.Tests.{leb-true, leb-false, eqb-true, eqb-false, lt-ltb, le-ltb, ltb-true, ltb-false}
use lib.Dec.{eqb, leb, ltb}
use lib.ListN.{length, take, get_or, set, replicate, length-take, get_or-map}
use lib.Seq.{set-get_or, get_or-set_same, get_or-set_other, take_all, length-take-le}
use Rattle.seq.proofs.Logic.{split, and-false}
use Rattle.seq.proofs.Loops.{filled_to}
use Rattle.seq.specs.declared.Format.{Format}
use Rattle.seq.specs.declared.Format.TheVariants.{Json, MsgPack}
use Rattle.uri.specs.Uri.{longest}
use Rattle.outgoing.specs.Layout.{format_by, formats_of}
use Rattle.options.specs.Audience.{Audience, leaves}
use Rattle.model.specs.declared.HeldCall.{HeldCall}
use Rattle.model.specs.declared.Session.{Session}
use Rattle.model.specs.declared.Hub.{Hub}
use Rattle.image.specs.Image.{with_sessions}
use Rattle.seq.specs.Numbers.{last_id}
use Rattle.model.specs.State.{no_session, format_of, session, with_session, holds, padded, idle, serves_other}
use Rattle.model.specs.Step.{issued, leaves_at}
use Rattle.lent.specs.Counters.{at_invocation, advanced_at}
use Rattle.lent.specs.declared.Counter.TheVariants.{Invocation}
use Rattle.state.specs.Change.{canceled_of, formats_in, is_packed, in_set, both}

-- ---- sessions
-- one invocation more of the slot's session: the next number is issued, or nothing changes
pub issues : (h : Hub) (ss : List Session) (i : ℕ) → with_sessions h (advanced_at ss i Invocation)
    ≡ cond (ltb (session (with_sessions h ss) i).invocation last_id) (issued (with_sessions h ss) i) (with_sessions h ss)
unfolding advanced_at at_invocation issued session with_session
issues h ss i =
    split (ltb (get_or ss i no_session).invocation last_id)
    (λ t. rw t)
    (λ t. rw (t, set-get_or ss i no_session))

-- ---- texts
-- a text cut at a row's size
pub cut_low : (t : List ℕ) → length (take longest t) ≤ longest
cut_low t = simp length-take (omega arith)

pub cut-short : (t : List ℕ) → length (take longest t) ≤ length t
cut-short t = simp length-take (omega arith)

cut_again : (t : List ℕ) → take (length (take longest t)) t ≡ take longest t
cut_again t =
    split (leb longest (length t))
    (λ e. let h : longest ≤ length t = leb-true _ _ e in rw (length-take-le longest t h))
    (λ e.
    let h : length t < longest = leb-false _ _ e in
    let l : length t ≤ longest = omega arith in
    let r : length t ≤ length t = omega arith in
    rw (take_all longest t l, take_all (length t) t r))

pub filled-cut : (t : List ℕ) (i : ℕ) → i ≡ length (take longest t) → filled_to longest 0 t i ≡ padded (take longest t)
unfolding padded
filled-cut t i e = rw (e, cut_again t)

-- ---- what is sent, for callers
-- a row's event goes to slot j exactly if it holds the row and is in the set
pub both_at : (bs ts : List Bool) (j : ℕ) → get_or (both bs ts) j false ≡ (get_or bs j false && get_or ts j false)
unfolding both
both_at [] ts j = refl
both_at (b ∷ bs) [] zero = sym (and-false b false refl)
both_at (b ∷ bs) [] (suc j) = both_at bs [] j
both_at (b ∷ bs) (t ∷ ts) zero = refl
both_at (b ∷ bs) (t ∷ ts) (suc j) = both_at bs ts j

pub both-length : (bs ts : List Bool) → length (both bs ts) ≡ length bs
unfolding both
both-length [] ts = refl
both-length (b ∷ bs) [] = ap suc (both-length bs [])
both-length (b ∷ bs) (t ∷ ts) = ap suc (both-length bs ts)

-- flags that are stored slot by slot: those before place i stand as f has them, and the others are off
abbrev pub Stored : (ℕ → Bool) → List Bool → ℕ → Type 0
Stored f xs i = (k : ℕ) → get_or xs k false ≡ (ltb k i && f k)

none_before : (k : ℕ) → ltb k 0 ≡ false
none_before k = le-ltb k 0 (omega arith)

off_at : (n k : ℕ) → get_or (replicate n false) k false ≡ false
off_at zero k = refl
off_at (suc n) zero = refl
off_at (suc n) (suc k) = off_at n k

pub stored-none : (f : ℕ → Bool) (n : ℕ) → Stored f (replicate n false) 0
stored-none f n k = rw (off_at n k, none_before k)

-- a place other than i is before i exactly where it is before the next
before-next : (k i : ℕ) → ¬ (k ≡ i) → ltb k i ≡ ltb k (i + 1)
before-next k i n =
    split (ltb k i)
    (λ u. let w = ltb-true k i u in rw (u, lt-ltb k (i + 1) (omega arith)))
    (λ u. let w = ltb-false k i u in rw (u, le-ltb k (i + 1) (elim (dec_le (i + 1) k) [ yes z ↦ z | no z ↦ absurd (n (omega arith)) ])))

pub stored_more : (f : ℕ → Bool) (xs : List Bool) (i : ℕ) (v : Bool) → i < length xs → v ≡ f i → Stored f xs i → Stored f (set xs i v) (i + 1)
stored_more f xs i v l e g k =
    split (eqb k i)
    (λ t.
    let q : k ≡ i = eqb-true k i t in
    rw (q, get_or-set_same xs i v false l, lt-ltb i (i + 1) (omega arith)) e)
    (λ t.
    let n = eqb-false k i t in
    rw (get_or-set_other xs i k v false n, ← (before-next k i n)) (g k))

-- the slots that the options leave
pub stored-left : (ss : List Session) (i : ℕ) (a : Audience) (xs : List Bool) → Stored (λ k. leaves a (eqb k i) (get_or ss k no_session).id) xs 8
    → (h : Hub) → in_set xs ≡ leaves_at (with_sessions h ss) i a
unfolding leaves_at session
stored-left ss i a xs g h = fun_ext (λ k. g k)

-- the request number of what is canceled is 0 exactly where nothing is; else it goes to the call's caller
pub canceled-none : (i : ℕ) (c : HeldCall) → eqb (canceled_of i c).request 0 ≡ not (serves_other i c)
unfolding canceled_of serves_other idle
canceled-none i c =
    split (eqb c.request 0)
    (λ t. rw t)
    (λ t. rw t (split (eqb c.callee i && not (eqb c.caller i)) (λ u. rw (u, t)) (λ u. rw u)))

pub canceled-some : (i : ℕ) (c : HeldCall) → serves_other i c ≡ true → canceled_of i c ≡ record { slot = c.caller; request = c.request }
unfolding canceled_of
canceled-some i c t = rw t

-- ---- formats
packed-format : (f : Format) → format_by (elim f [ Json ↦ false | MsgPack ↦ true ]) ≡ f
packed-format Json = refl
packed-format MsgPack = refl

-- the slots that speak MessagePack, as flags, tell every slot's format
pub packed-formats : (ss : List Session) → formats_of (map is_packed ss) ≡ formats_in ss
packed-formats ss =
    fun_ext (λ slot. ap format_by (get_or-map is_packed ss slot no_session) ∙ packed-format (format_of (get_or ss slot no_session).status))
