-- A CALL's way to its callee and an answer's way back, where demand 2's conditions hold. Assumes nothing.
use Prim.Native.Nat.{ℕ, suc, ◌≤◌, ◌<◌}
use mathlib.Core.Path.{◌≡◌, ◌∙◌}
use mathlib.Core.Logic.{inl, inr}
use mathlib.Core.Bool.{cond}
use mathlib.Core.List.{List}
use native.Mathlib.Omega.{arith}
use lib.Seq.{get_or-set_same, get_or-set_other}
use lib.Dec.{eqb, leb, ltb}
use borrow.Author.Tests.{eqb-true, eqb-false, le-leb, lt-ltb, le-ltb}
use Rattle.seq.proofs.Logic.{split}
use Rattle.seq.proofs.Search.{first-is, first-none}
use Rattle.pattern.specs.declared.Row.{Row}
use Rattle.outgoing.specs.Outgoing as Out
use Rattle.outgoing.specs.Outgoing.{Answer}
use Rattle.outgoing.specs.Outgoing.{uri_text}
use Rattle.outgoing.specs.declared.Uri.TheVariants as Uri
use Rattle.model.specs.declared.Hub.{Hub}
use Rattle.seq.specs.Numbers.{last_id}
use Rattle.model.specs.State.{slots, no_session, no_call, session, format_at, with_session, owner, idle, with_call}
use Rattle.model.specs.Rules.{Sized, Lawful}
use Rattle.model.specs.Step.{says, issued, details_for, silent, violates, numbered, call_error, routed, route, passed, answered, answer}
use Rattle.model.specs.Demands.{CallRoom, NoCallRoom, Serves, GoesAs, Unconverted}
use Rattle.model.proofs.Formats.{numbered-format}
use Rattle.conversion.specs.Carried.{carried}
use Rattle.model.proofs.CallSearch.{served-found, served-none, served-issued}

-- ---- a request's number changes nothing of the room for a call
module _ (h : Hub) (i n : ℕ) (sized : Sized h) (inside : i < slots) where
  pub numbered-invocation : (c : ℕ) → (session (numbered h i n) c).invocation ≡ (session h c).invocation
  unfolding numbered with_session session
  numbered-invocation c =
      split (eqb c i)
      (λ t.
      let e : c ≡ i = eqb-true c i t in
      rw (e, get_or-set_same h.sessions i _ no_session (rw sized.sessions inside)))
      (λ t. rw (get_or-set_other h.sessions i c _ no_session (eqb-false c i t)))

  pub no-room : (c : ℕ) → NoCallRoom h c → NoCallRoom (numbered h i n) c
  unfolding numbered with_session
  no-room c (inl f) = inl f
  no-room c (inr e) = inr (numbered-invocation c ∙ e)

  pub has_room : (c k : ℕ) → CallRoom h c k → CallRoom (numbered h i n) c k
  unfolding numbered with_session
  has_room c k r =
      record { inside = r.inside; free = r.free; lowest = r.lowest; counter = rw (numbered-invocation c) r.counter }

-- ---- to the owner of a registration
module _ (g : Hub) (i n : ℕ) (r : Row) (procedure : List ℕ) (payload : List (List ℕ)) where
  pub route-full : NoCallRoom g (owner r) → route g i n r procedure payload ≡ call_error g i n (uri_text Uri.NoRoom)
  unfolding route
  route-full (inl f) =
      rw (first-none idle no_call g.calls f) (split (ltb (session g (owner r)).invocation last_id) (λ t. rw t) (λ t. rw t))
  route-full (inr e) = rw (le-ltb (session g (owner r)).invocation last_id (omega arith))

  route-room : (k : ℕ) → CallRoom g (owner r) k → route g i n r procedure payload ≡ routed g i n r k procedure payload
  unfolding route
  route-room k a =
      rw (lt-ltb (session g (owner r)).invocation last_id a.counter, first-is idle no_call g.calls k a.inside a.free a.lowest)

  -- c is the owner, and v its last invocation number
  pub route-to : (k c v : ℕ) → owner r ≡ c → (session g c).invocation ≡ v → CallRoom g c k
      → route g i n r procedure payload
      ≡ says (with_call (issued g c) k (record { caller = i; request = n; callee = c; invocation = suc v })) c
      (Out.Invocation (suc v) r.number (details_for r.policy procedure) payload)
  unfolding routed
  route-to k c v o e a = route-room k (rw o a) ∙ rw (o, e)

-- ---- as the callee's format has it, or told that it does not convert
module _ (h : Hub) (i n : ℕ) (r : Row) (procedure : List ℕ) (payload : List (List ℕ)) where
  -- the format of a callee is the same in the hub in which the request has its number
  numbered-carried : carried (format_at (numbered h i n) i) (format_at (numbered h i n) (owner r)) payload ≡ carried (format_at h i) (format_at h (owner r)) payload
  numbered-carried = rw (numbered-format h i n i, numbered-format h i n (owner r))

  pub passed-as : (q : List (List ℕ)) → GoesAs h i (owner r) payload q
      → passed (numbered h i n) i n r procedure payload ≡ route (numbered h i n) i n r procedure q
  unfolding passed
  passed-as q e = rw (numbered-carried ∙ e)

  pub passed-not : Unconverted h i (owner r) payload
      → passed (numbered h i n) i n r procedure payload ≡ call_error (numbered h i n) i n (uri_text Uri.NotConvertible)
  unfolding passed
  passed-not e = rw (numbered-carried ∙ e)

-- ---- back to the caller, or dropped
module _ (h : Hub) (i v : ℕ) (w : Answer) where
  pub answer-found : (k : ℕ) → Lawful h → Serves h i v k
      → cond (leb v (session h i).invocation) (answer h i v w) (violates h i) ≡ answered h i k w
  unfolding answer
  answer-found k lawful a =
      rw (le-leb v (session h i).invocation (served-issued h i v k lawful a), served-found h i v k lawful.distinct a)

  pub answer-none : v ≤ (session h i).invocation → ((k : ℕ) → ¬ (Serves h i v k))
      → cond (leb v (session h i).invocation) (answer h i v w) (violates h i) ≡ silent h
  unfolding answer
  answer-none l f = rw (le-leb v (session h i).invocation l, served-none h i v f)
