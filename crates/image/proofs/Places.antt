-- Each part of a lent state stands where specs/Places.antt says. Assumes nothing.
use Prim.Native.Nat.{ℕ, ◌+◌, ◌*◌, ◌≤◌, ◌<◌}
use mathlib.Core.Bool.{Bool, true, false}
use mathlib.Core.List.{List, [], ◌∷◌}
use mathlib.Core.Path.{◌≡◌, refl, sym, ap, ◌∙◌}
use native.Mathlib.Omega.{arith}
use native.Mathlib.Nat.{add-zero}
use borrow.Author.Tests.{eqb-true}
use lib.Dec.{eqb}
use lib.ListN.{length, take, drop, replicate}
use lib.Seq.{drop-drop, get_or-drop, get_or-take, get_or-set_same}
use Rattle.seq.specs.Bytes.{byte_at}
use Rattle.seq.specs.Lists.{bit}
use Rattle.seq.proofs.Logic.{split, clash}
use Rattle.pattern.specs.Choice.{no_row}
use Rattle.model.specs.State.{no_session, no_call, session, row_at, holds, call_at}
use Rattle.image.specs.declared.Kind.{Kind}
use Rattle.image.specs.declared.Kind.TheVariants.{Members, Owner}
use Rattle.image.specs.Image.{image_size, number, bits_of, bits_no, holders_of, holders_no, session_of, row_of, table_of, call_of, hub_of, load, held, table_in, table_at}
use Rattle.image.specs.Places.{number64, SessionFrom, RowFrom, members, CallFrom, Places, Layout}
use Rattle.image.proofs.Laws.{owner-alone}
use Rattle.image.proofs.HolderBytes.{no-holders}
use Rattle.image.proofs.Parts.{held_of, table-of, cut_at}

-- ---- a byte, and the 8 bytes of a number, of the w bytes from p on
module _ (s : List ℕ) (p w a : ℕ) where
  byte-there : (k : ℕ) → a + k < w → byte_at (drop a (take w (drop p s))) k ≡ byte_at s (p + a + k)
  byte-there k h =
      let e : p + (a + k) ≡ p + a + k = omega arith in
      get_or-drop a (take w (drop p s)) k 0 ∙ get_or-take w (drop p s) (a + k) 0 h ∙ get_or-drop p s (a + k) 0 ∙ ap (byte_at s) e

  number-there : a + 8 ≤ w → number 8 (drop a (take w (drop p s))) ≡ number64 s (p + a)
  unfolding number
  number-there h =
      let e : byte_at s (p + a + 0) ≡ byte_at s (p + a) = ap (byte_at s) (add-zero (p + a)) in
      rw (
        byte-there 0 (omega arith),
        byte-there 1 (omega arith),
        byte-there 2 (omega arith),
        byte-there 3 (omega arith),
        byte-there 4 (omega arith),
        byte-there 5 (omega arith),
        byte-there 6 (omega arith),
        byte-there 7 (omega arith),
        e,
      ) (omega arith)

-- ---- rows
session-there : (s : List ℕ) (p : ℕ) → SessionFrom s p (session_of (take 25 (drop p s)))
unfolding session_of
session-there s p =
    let e : byte_at (take 25 (drop p s)) 0 ≡ byte_at s p = get_or-take 25 (drop p s) 0 0 (omega arith) ∙ get_or-drop p s 0 0 ∙ ap (byte_at s) (add-zero p) in
    record {
      is_closed = λ z. rw (e, z);
      is_attached = λ z. rw (e, z);
      is_open = λ z. rw (e, z);
      is_attached_msg_pack = λ z. rw (e, z);
      is_open_msg_pack = λ z. rw (e, z);
      id = number-there s p 25 1 (omega arith);
      request = number-there s p 25 9 (omega arith);
      invocation = number-there s p 25 17 (omega arith);
    }

call-there : (s : List ℕ) (p : ℕ) → CallFrom s p (call_of (take 18 (drop p s)))
unfolding call_of
call-there s p =
    record {
      caller = get_or-take 18 (drop p s) 0 0 (omega arith) ∙ get_or-drop p s 0 0 ∙ ap (byte_at s) (add-zero p);
      request = number-there s p 18 1 (omega arith);
      callee = get_or-take 18 (drop p s) 9 0 (omega arith) ∙ get_or-drop p s 9 0;
      invocation = number-there s p 18 10 (omega arith);
    }

module _ (kind : Kind) (s : List ℕ) (p : ℕ) where
  row-byte : (k : ℕ) → k < 139 → byte_at (take 139 (drop p s)) k ≡ byte_at s (p + k)
  row-byte k h = get_or-take 139 (drop p s) k 0 h ∙ get_or-drop p s k 0

  row-there : RowFrom s p (row_of kind (take 139 (drop p s)))
  unfolding row_of
  row-there =
      let n = number-there s p 139 0 (omega arith) in
      let z : number64 s (p + 0) ≡ number64 s p = ap (number64 s) (add-zero p) in
      record {
        number = n ∙ z;
        exact = λ b. rw (row-byte 8 (omega arith), b);
        prefix = λ b. rw (row-byte 8 (omega arith), b);
        wildcard = λ b. rw (row-byte 8 (omega arith), b);
        len = row-byte 10 (omega arith);
        text = λ j h. byte-there s p 139 11 j (omega arith);
      }

-- ---- holders
bits-weigh : (a b c d e f g h : Bool) → bits_no (a ∷ b ∷ c ∷ d ∷ e ∷ f ∷ g ∷ h ∷ [])
    ≡ bit a + 2 * bit b + 4 * bit c + 8 * bit d + 16 * bit e + 32 * bit f + 64 * bit g + 128 * bit h
unfolding bits_no
bits-weigh a b c d e f g h = omega arith

members-there : (s : List ℕ) (p : ℕ) → byte_at s (p + 9) < 256 → members (row_of Members (take 139 (drop p s))) ≡ byte_at s (p + 9)
unfolding row_of holders_of holders_no bits_of
members-there s p h =
    rw (row-byte Members s p 9 (omega arith))
    (sym (bits-weigh _ _ _ _ _ _ _ _) ∙ no-holders Members 0 (byte_at s (p + 9)) h)

owner-there : (s : List ℕ) (p : ℕ) → ¬ ((row_of Owner (take 139 (drop p s))).number ≡ 0) → byte_at s (p + 9) < 8
    → holds (byte_at s (p + 9)) (row_of Owner (take 139 (drop p s))) ≡ true
unfolding row_of holders_of
owner-there s p n h =
    rw (row-byte Owner s p 9 (omega arith), owner-alone _ (byte_at s (p + 9)) (λ z o. n z))
    (get_or-set_same (replicate 8 false) (byte_at s (p + 9)) true false h)

-- ---- the whole
module _ (s : List ℕ) (e : length s ≡ 9688) where
  session-is : (i : ℕ) → i < 8 → session (held s) i ≡ session_of (take 25 (drop (25 * i) s))
  unfolding session hub_of
  session-is i h =
      let m : i * 25 ≡ 25 * i = omega arith in
      rw (held_of s e) (cut_at session_of 25 8 s i no_session h ∙ ap (λ p. session_of (take 25 (drop p s))) m)

  call-is : (k : ℕ) → k < 32 → call_at (held s) k ≡ call_of (take 18 (drop (9112 + 18 * k) s))
  unfolding hub_of
  call-is k h =
      let m : 9112 + k * 18 ≡ 9112 + 18 * k = omega arith in
      rw (held_of s e) (cut_at call_of 18 32 (drop 9112 s) k no_call h ∙ ap (λ l. call_of (take 18 l)) (drop-drop (k * 18) 9112 s ∙ ap (λ p. drop p s) m))

  row_is : (kind : Kind) (k at : ℕ) → k < 32 → table_at kind + 8 + k * 139 ≡ at
      → row_at (table_in kind (held s)) k ≡ row_of kind (take 139 (drop at s))
  unfolding table_of
  row_is kind k at h m =
      rw (table-of kind s e)
      (cut_at (row_of kind) 139 32 (drop 8 (drop (table_at kind) s)) k no_row h
      ∙ ap (λ l. row_of kind (take 139 l)) (ap (drop (k * 139)) (drop-drop 8 (table_at kind) s) ∙ drop-drop (k * 139) (table_at kind + 8) s ∙ ap (λ p. drop p s) m))

  counter-is : (kind : Kind) → (table_in kind (held s)).counter ≡ number64 s (table_at kind)
  unfolding table_of number
  counter-is kind =
      let p = table_at kind in
      let b : (k : ℕ) → byte_at (drop p s) k ≡ byte_at s (p + k) = λ k. get_or-drop p s k 0 in
      let z : byte_at s (p + 0) ≡ byte_at s p = ap (byte_at s) (add-zero p) in
      rw (table-of kind s e, b 0, b 1, b 2, b 3, b 4, b 5, b 6, b 7, z) (omega arith)

  places-are : Places s
  places-are =
      record {
        sessions = λ i h. rw (session-is i h) (session-there s (25 * i));
        subscription_counter = counter-is Members;
        subscriptions = λ k h. rw (row_is Members k (208 + 139 * k) h (omega arith)) (row-there Members s (208 + 139 * k));
        members = λ k h. rw (row_is Members k (208 + 139 * k) h (omega arith)) (members-there s (208 + 139 * k));
        registration_counter = counter-is Owner;
        registrations = λ k h. rw (row_is Owner k (4664 + 139 * k) h (omega arith)) (row-there Owner s (4664 + 139 * k));
        owners = λ k h. rw (row_is Owner k (4664 + 139 * k) h (omega arith)) (owner-there s (4664 + 139 * k));
        calls = λ k h. rw (call-is k h) (call-there s (9112 + 18 * k));
      }

size_is : (s : List ℕ) → (load s).ok ≡ true → length s ≡ 9688
unfolding load
size_is s =
    split (eqb (length s) image_size) (λ t. λ o. eqb-true (length s) image_size t) (λ t. rw t (λ o. clash o refl))

pub layout : Layout
layout = record { size = size_is; places = places-are }
