-- Each row's bytes stand for that row, and a row's bytes are those of the row that they stand for. Assumes nothing.
use Prim.Native.Nat.{ℕ, zero, suc, ◌+◌, ◌%◌, ◌≤◌, ◌<◌}
use mathlib.Core.Bool.{Bool, true, false}
use mathlib.Core.List.{List, [], ◌∷◌, ◌++◌, append_assoc}
use mathlib.Core.Path.{◌≡◌, refl, sym, ◌∙◌}
use native.Mathlib.Nat.{mod-eq_of_lt}
use native.Mathlib.Numerals.{add-one}
use native.Mathlib.Omega.{arith}
use borrow.Author.Tests.{ltb-true, lt-ltb, le-ltb, ne_eqb}
use lib.Dec.{ltb}
use lib.ListN.{length, take, drop, length-drop, take-append-drop}
use lib.Seq.{drop-cons, drop-drop, take_all}
use Rattle.seq.specs.Bytes.{byte_at}
use Rattle.seq.proofs.Logic.{clash, and_left, and_right, and_both}
use Rattle.uri.specs.declared.Policy.{Policy}
use Rattle.uri.specs.declared.Policy.TheVariants.{Exact, Prefix, Wildcard}
use Rattle.uri.specs.Uri.{longest, policy_no}
use Rattle.pattern.specs.declared.Row.{Row}
use Rattle.model.specs.declared.Status.{Status}
use Rattle.model.specs.declared.Status.TheVariants.{Closed, Attached, Open, AttachedMsgPack, OpenMsgPack}
use Rattle.model.specs.declared.Session.{Session}
use Rattle.model.specs.declared.HeldCall.{HeldCall}
use Rattle.seq.specs.Numbers.{last_id}
use Rattle.image.specs.declared.Kind.{Kind}
use Rattle.image.specs.Image.{session_size, row_size, call_size, number, digits, status_no, is_status, status_of, session_of, session_bytes, session_formed, holders_no, holders_end, policy_of, row_of, row_head, row_bytes, row_formed, call_of, call_bytes}
use Rattle.image.proofs.Laws.{length-session, length-call, length-row}
use Rattle.image.proofs.Numbers.{Bytes, bytes_drop, number_digits, digits_number}
use Rattle.image.proofs.HolderBytes.{HoldersFit, no-holders}

-- ---- from a row to its bytes and back
-- the row's bytes are w, well-formed, and stand for the row
pub record Trips {A : Type 0} (read : List ℕ → A) (write : A → List ℕ) (test : List ℕ → Bool) (w : ℕ) (x : A) : Type 0 where
  pub size : length (write x) ≡ w
  pub back : read (write x) ≡ x
  pub passes : test (write x) ≡ true

number-back : (x : ℕ) (q : List ℕ) → x ≤ last_id → number 8 (digits 8 x ++ q) ≡ x
number-back x q h = number_digits 8 x q (omega arith)

status-back : (x : Status) → status_of (status_no x) ≡ x
status-back Closed = refl
status-back Attached = refl
status-back Open = refl
status-back AttachedMsgPack = refl
status-back OpenMsgPack = refl

status-named : (x : Status) → is_status (status_no x) ≡ true
status-named Closed = refl
status-named Attached = refl
status-named Open = refl
status-named AttachedMsgPack = refl
status-named OpenMsgPack = refl

policy-back : (x : Policy) → policy_of (policy_no x) ≡ x
policy-back Exact = refl
policy-back Prefix = refl
policy-back Wildcard = refl

policy-low : (x : Policy) → policy_no x < 3
policy-low Exact = omega arith
policy-low Prefix = omega arith
policy-low Wildcard = omega arith

session-back : (x : Session) → x.id ≤ last_id → x.request ≤ last_id → x.invocation ≤ last_id → session_of (session_bytes x) ≡ x
unfolding session_of session_bytes digits
session-back x i r v =
    let a = status-back x.status in
    let b = number-back x.id (digits 8 x.request ++ digits 8 x.invocation) i in
    let c = number-back x.request (digits 8 x.invocation) r in
    let d = number-back x.invocation [] v in
    rw (a, b, c, d)

pub session-trips : (x : Session) → x.id ≤ last_id → x.request ≤ last_id → x.invocation ≤ last_id
    → Trips session_of session_bytes session_formed session_size x
unfolding session_formed session_bytes
session-trips x i r v =
    record { size = length-session x; back = session-back x i r v; passes = status-named x.status }

call_back : (x : HeldCall) → x.caller < 256 → x.request ≤ last_id → x.callee < 256 → x.invocation ≤ last_id → call_of (call_bytes x) ≡ x
unfolding call_of call_bytes digits
call_back x c r e v =
    let a = mod-eq_of_lt c in
    let b = number-back x.request (x.callee % 256 ∷ digits 8 x.invocation) r in
    let d = mod-eq_of_lt e in
    let f = number-back x.invocation [] v in
    rw (b, f, a, d)

-- any bytes pass as a held call's
abbrev pub any_call : List ℕ → Bool
any_call s = true

pub call-trips : (x : HeldCall) → x.caller < 256 → x.request ≤ last_id → x.callee < 256 → x.invocation ≤ last_id
    → Trips call_of call_bytes any_call call_size x
call-trips x c r e v = record { size = length-call x; back = call_back x c r e v; passes = refl }

module _ (kind : Kind) (r : Row) (n : r.number ≤ last_id) (l : r.len < 256) (f : HoldersFit kind r.number r.holders) where
  row_back : row_of kind (row_bytes kind r) ≡ r
  unfolding row_of row_bytes row_head digits
  row_back =
      let a =
      number-back r.number (policy_no r.policy ∷ holders_no kind r.holders ∷ r.len % 256 ∷ r.text) n in
      let b = policy-back r.policy in
      let c = f.back in
      let d = mod-eq_of_lt l in
      rw (a, b, c, d)

  row-passes : row_formed kind (row_bytes kind r) ≡ true
  unfolding row_formed row_bytes row_head digits
  row-passes = and_both (lt-ltb (policy_no r.policy) 3 (policy-low r.policy)) (lt-ltb (holders_no kind r.holders) (holders_end kind) f.low)

  pub row-trips : length r.text ≡ longest → Trips (row_of kind) (row_bytes kind) (row_formed kind) row_size r
  row-trips t = record { size = length-row kind r t; back = row_back; passes = row-passes }

-- ---- from bytes to a row and back
pub join-part : (a n : ℕ) (s : List ℕ) → take n (drop a s) ++ drop (a + n) s ≡ drop a s
join-part a n s = rw (← drop-drop n a s) (take-append-drop n (drop a s))

join-byte : (a : ℕ) (s : List ℕ) → a < length s → byte_at s a ∷ drop (a + 1) s ≡ drop a s
join-byte a s h = rw (add-one a) (sym (drop-cons s a 0 h))

-- no byte from 6 on names a status
no_more : (b : ℕ) → 6 ≤ b → is_status b ≡ false
no_more b h = rw (le-ltb b 3 (omega arith), ne_eqb b 4 (omega arith), ne_eqb b 5 (omega arith))

no-status : (b : ℕ) → is_status b ≡ true → status_no (status_of b) ≡ b
no-status zero h = refl
no-status (suc zero) h = refl
no-status (suc (suc zero)) h = refl
no-status (suc (suc (suc zero))) h = clash h refl
no-status (suc (suc (suc (suc zero)))) h = refl
no-status (suc (suc (suc (suc (suc zero))))) h = refl
no-status (suc (suc (suc (suc (suc (suc b)))))) h = clash h (no_more (suc (suc (suc (suc (suc (suc b)))))) (omega arith))

no-policy : (b : ℕ) → b < 3 → policy_no (policy_of b) ≡ b
no-policy zero h = refl
no-policy (suc zero) h = refl
no-policy (suc (suc zero)) h = refl
no-policy (suc (suc (suc b))) h = absurd (omega arith)

-- the 8 bytes from a place on
digits-at : (a : ℕ) (s : List ℕ) → Bytes s → a + 8 ≤ length s → digits 8 (number 8 (drop a s)) ≡ take 8 (drop a s)
digits-at a s f h = digits_number 8 (drop a s) (bytes_drop a s f) (simp length-drop (omega arith))

module _ (s : List ℕ) (f : Bytes s) where
  pub session-same : length s ≡ session_size → session_formed s ≡ true → session_bytes (session_of s) ≡ s
  unfolding session_of session_bytes session_formed
  session-same l e =
      let a = no-status (byte_at s 0) e in
      let b = digits-at 1 s f (omega arith) in
      let c = digits-at 9 s f (omega arith) in
      let d = digits-at 17 s f (omega arith) ∙ take_all 8 (drop 17 s) (simp length-drop (omega arith)) in
      rw (a, b, c, d, join-part 9 8 s, join-part 1 8 s) (join-byte 0 s (omega arith))

  pub call_same : length s ≡ call_size → call_bytes (call_of s) ≡ s
  unfolding call_of call_bytes
  call_same l =
      let a : byte_at s 0 % 256 ≡ byte_at s 0 = mod-eq_of_lt (f 0) in
      let b = digits-at 1 s f (omega arith) in
      let c : byte_at s 9 % 256 ≡ byte_at s 9 = mod-eq_of_lt (f 9) in
      let d = digits-at 10 s f (omega arith) ∙ take_all 8 (drop 10 s) (simp length-drop (omega arith)) in
      rw (a, b, c, d, join-byte 9 s (omega arith), join-part 1 8 s) (join-byte 0 s (omega arith))

  pub row_same : (kind : Kind) → length s ≡ row_size → row_formed kind s ≡ true → row_bytes kind (row_of kind s) ≡ s
  unfolding row_of row_bytes row_head row_formed
  row_same kind l e =
      let a = digits_number 8 s f (omega arith) in
      let b = no-policy (byte_at s 8) (ltb-true (byte_at s 8) 3 (and_left (ltb (byte_at s 8) 3) (ltb (byte_at s 9) (holders_end kind)) e)) in
      let v = and_right (ltb (byte_at s 8) 3) (ltb (byte_at s 9) (holders_end kind)) e in
      let c = no-holders kind (number 8 s) (byte_at s 9) (ltb-true (byte_at s 9) (holders_end kind) v) in
      let d : byte_at s 10 % 256 ≡ byte_at s 10 = mod-eq_of_lt (f 10) in
      rw (a, b, c, d)
      (append_assoc (take 8 s) (byte_at s 8 ∷ byte_at s 9 ∷ byte_at s 10 ∷ []) (drop 11 s)
      ∙ rw (join-byte 10 s (omega arith), join-byte 9 s (omega arith), join-byte 8 s (omega arith)) (take-append-drop 8 s))
