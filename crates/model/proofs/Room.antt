-- 2,048 bytes are enough for any session's end in a lawful state: by the real lengths of the messages. Assumes nothing.
use Prim.Native.Nat.{ℕ, ◌+◌, ◌≤◌, ◌<◌}
use mathlib.Core.Bool.{false}
use mathlib.Core.List.{List, [], ◌∷◌, ◌++◌, map}
use mathlib.Core.Logic.{inl, inr}
use mathlib.Core.Path.{◌≡◌, refl}
use native.Mathlib.Decide.{dec_lt}
use native.Mathlib.Omega.{arith}
use lib.ListN.{length, length-map, get_or-eq_default}
use Rattle.seq.specs.Lists.{All, Pairs}
use Rattle.seq.proofs.Logic.{clash}
use Rattle.seq.proofs.Rules.{all-at}
use Rattle.strings.specs.Strings.{escaped}
use Rattle.outgoing.specs.Outgoing as Out
use Rattle.seq.specs.declared.Format.{Format}
use Rattle.seq.specs.declared.Format.TheVariants.{Json, MsgPack}
use Rattle.values.specs.Write.{pack_whole, pack_text, pack_str, pack_array, pack_map}
use Rattle.outgoing.specs.Outgoing.{json, msgpack, render}
use Rattle.outgoing.specs.Layout.{Mail}
use Rattle.outgoing.proofs.Lengths.{canceled-short, mail-length, layout-cons, layout-bound}
use Rattle.outgoing.specs.Outgoing.{uri_text}
use Rattle.outgoing.specs.declared.Uri.TheVariants as Uri
use Rattle.model.specs.declared.Hub.{Hub}
use Rattle.model.specs.State.{no_call, format_at, idle, call_at}
use Rattle.model.specs.Rules.{Sized, Lawful, JoinedCall}
use Rattle.model.specs.Step.{mail, output_of}
use Rattle.model.specs.Run.{In}
use Rattle.model.specs.Demands.{ServedForOther, cancel_mail, OwnMessage, quiet, goodbye, abort}

-- rising numbers below n are at most n
above-short : (n k : ℕ) (ks : List ℕ) → k < n → All (λ j. k < j) ks → Pairs ◌<◌ ks → ((j : ℕ) → In j ks → j < n) → length ks + k < n
above-short n k [] l a r f = omega arith
above-short n k (j ∷ ks) l a r f =
    let e = above-short n j ks (f j (inl refl)) r.0 r.1 (λ i q. f i (inr q)) in let q = a.0 in omega arith

rising-short : (n : ℕ) (ks : List ℕ) → Pairs ◌<◌ ks → ((j : ℕ) → In j ks → j < n) → length ks ≤ n
rising-short n [] r f = omega arith
rising-short n (k ∷ ks) r f = let e = above-short n k ks (f k (inl refl)) r.0 r.1 (λ i q. f i (inr q)) in omega arith

-- a session's own last message
farewell-short : (f : Format) → (length (render f (Out.Goodbye (uri_text Uri.GoodbyeAndOut))) ≤ 57) × (length (render f (Out.Abort (uri_text Uri.ProtocolViolation))) ≤ 57)
unfolding render json msgpack escaped pack_text pack_str pack_array pack_map pack_whole
farewell-short Json = (omega arith, omega arith)
farewell-short MsgPack = (omega arith, omega arith)

module _ (h : Hub) (sized : Sized h) (lawful : Lawful h) where
  -- a held call is in one of the rows
  call-inside : (k : ℕ) → idle (call_at h k) ≡ false → k < 32
  unfolding idle
  call-inside k u =
      elim (dec_lt k (length h.calls)) [
        | yes l ↦ (let e = sized.calls in omega arith)
        | no l ↦ clash (let q = get_or-eq_default h.calls no_call {n = k} (omega arith) in rw q) u
      ]

  held-call : (k : ℕ) → idle (call_at h k) ≡ false → JoinedCall h (call_at h k)
  unfolding idle
  held-call k u = all-at (λ c. idle c ≡ false → JoinedCall h c) no_call h.calls k (λ f. clash refl f) lawful.joined u

  cancel-length : (k : ℕ) → idle (call_at h k) ≡ false → mail-length (format_at h) (cancel_mail h k) ≤ 51
  cancel-length k u =
      let j = held-call k u in
      let r = j.request in
      let l = (lawful.counters (call_at h k).caller).0 in
      omega (arith, canceled-short (format_at h (call_at h k).caller) (call_at h k).request (omega arith))

  cancels-length : (i : ℕ) (ks : List ℕ) → ((k : ℕ) → In k ks → ServedForOther h i k) → All (λ m. mail-length (format_at h) m ≤ 51) (map (cancel_mail h) ks)
  cancels-length i [] f = tt
  cancels-length i (k ∷ ks) f = (cancel-length k (f k (inl refl)).0, cancels-length i ks (λ j q. f j (inr q)))

  own-length : (i : ℕ) (own ms : List Mail) → OwnMessage i own → length (output_of h (own ++ ms)) ≤ length (output_of h ms) + 60
  own-length i own ms quiet = omega arith
  own-length i own ms goodbye =
      omega (arith, layout-cons (format_at h) (mail i (Out.Goodbye (uri_text Uri.GoodbyeAndOut))) ms, (farewell-short (format_at h i)).0)
  own-length i own ms abort =
      omega (arith, layout-cons (format_at h) (mail i (Out.Abort (uri_text Uri.ProtocolViolation))) ms, (farewell-short (format_at h i)).1)

  pub end_fits : (i : ℕ) (own : List Mail) (rows : List ℕ) → OwnMessage i own → Pairs ◌<◌ rows → ((k : ℕ) → In k rows → ServedForOther h i k)
      → length (output_of h (own ++ map (cancel_mail h) rows)) ≤ 2048
  end_fits i own rows o r f =
      let n = rising-short 32 rows r (λ k q. call-inside k (f k q).0) in
      let e = length-map rows (cancel_mail h) in
      let c = layout-bound (format_at h) (map (cancel_mail h) rows) (cancels-length i rows f) in
      let w = own-length i own (map (cancel_mail h) rows) o in
      omega arith
