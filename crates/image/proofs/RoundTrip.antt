-- The claims of specs/Claims.antt: hub to bytes and back, bytes to hub and back. Assumes nothing.
use Prim.Native.Nat.{ℕ, ◌≤◌, ◌<◌}
use mathlib.Core.Bool.{true, false, ◌&&◌}
use mathlib.Core.List.{List, [], ◌∷◌, ◌++◌, map, append-nil}
use mathlib.Core.Path.{◌≡◌, refl, sym, ap, ◌∙◌}
use native.Mathlib.Omega.{arith}
use borrow.Author.Tests.{eqb-true, eq-eqb, ne_eqb}
use lib.Dec.{eqb}
use lib.ListN.{length, take, drop, replicate, length-append, length-drop, length-map, take-append-drop}
use lib.Seq.{drop_at, drop-drop, take_all}
use Rattle.seq.specs.Bytes.{byte_at}
use Rattle.seq.specs.Lists.{every, first_from, joined, All}
use Rattle.seq.proofs.Logic.{split, clash, and_left, and_right, and_both}
use Rattle.seq.proofs.Rules.{all-image, all_replicate, all_both, all-of-at}
use Rattle.uri.specs.Uri.{valid_topic, valid_procedure, TextRule}
use Rattle.pattern.specs.declared.Row.{Row}
use Rattle.pattern.specs.Choice.{no_row}
use Rattle.model.specs.declared.Session.{Session}
use Rattle.model.specs.declared.Table.{Table}
use Rattle.model.specs.declared.HeldCall.{HeldCall}
use Rattle.model.specs.declared.Hub.{Hub}
use Rattle.seq.specs.Numbers.{last_id}
use Rattle.model.specs.State.{slots, row_count, no_session, no_call, empty_hub, session, is_open, unused, idle}
use Rattle.model.specs.Rules.{UsedRow, GoodTable, JoinedCall, SomeMember, OneOwner, SizedRow, Sized, Lawful}
use Rattle.model.proofs.Lawful.{is-open, open_is}
use Rattle.model.proofs.Matches.{open-inside}
use Rattle.image.specs.declared.Kind.{Kind}
use Rattle.image.specs.declared.Kind.TheVariants.{Members, Owner}
use Rattle.image.specs.Image.{session_size, row_size, call_size, image_size, number, digits, cut, session_of, session_bytes, session_formed, bits_no, owner_no, holders_no, row_of, row_head, row_bytes, row_formed, table_of, table_bytes, table_formed, call_of, call_bytes, hub_of, formed, load, store}
use Rattle.image.specs.Claims.{Claims}
use Rattle.image.proofs.Laws.{length_cut}
use Rattle.image.proofs.Numbers.{Bytes, bytes-all, bytes_drop}
use Rattle.image.proofs.HolderBytes.{HoldersFit, members-fit, owner-fit, length-holders}
use Rattle.image.proofs.Rows.{Trips, any_call, session-trips, call-trips, row-trips, session-same, call_same, join-part}
use Rattle.image.proofs.Tables.{cut-sized, length-rows, rows_back, rows-formed, rows_same, length-table, table-back, table-formed, table_same}

-- ---- a hub that keeps the rules fits its bytes
abbrev SessionTrips : Session → Type 0
SessionTrips = Trips session_of session_bytes session_formed session_size

abbrev RowTrips : Kind → Row → Type 0
RowTrips kind = Trips (row_of kind) (row_bytes kind) (row_formed kind) row_size

abbrev CallTrips : HeldCall → Type 0
CallTrips = Trips call_of call_bytes any_call call_size

module _ (h : Hub) (z : Sized h) (w : Lawful h) where
  session-fits : (i : ℕ) → SessionTrips (session h i)
  session-fits i =
      let c = w.counters i in
      session-trips (session h i)
      (split (is_open (session h i))
      (λ t. (w.ids i (open_is (session h i).status t)).1)
      (λ t. let e = (w.idle_slots i (λ o. clash (is-open (session h i).status o) t)).0 in omega arith))
      c.0 c.1

  sessions-fit : All SessionTrips h.sessions
  unfolding session
  sessions-fit = all-of-at SessionTrips no_session h.sessions session-fits

  -- a row that is unused and then all zero, or used and then in range
  row_fits : (kind : Kind) (counter : ℕ) (rule : TextRule) (Wanted : ℕ → Type 0) → counter ≤ last_id
      → ((r : Row) → SizedRow r → (unused r ≡ true → r ≡ no_row) → (unused r ≡ false → UsedRow h counter rule Wanted r)
      → HoldersFit kind r.number r.holders)
      → (r : Row) → SizedRow r → (unused r ≡ true → r ≡ no_row) × (unused r ≡ false → UsedRow h counter rule Wanted r) → RowTrips kind r
  row_fits kind counter rule Wanted c k r s l =
      split (unused r)
      (λ t. let e = l.0 t in row-trips kind r (rw e (omega arith)) (rw e (omega arith)) (k r s l.0 l.1) s.text)
      (λ t.
      let u = l.1 t in
      let a = u.number in
      let b = u.len in
      row-trips kind r (omega arith) (omega arith) (k r s l.0 l.1) s.text)

  rows_fit : (kind : Kind) (rule : TextRule) (Wanted : ℕ → Type 0) (t : Table) → t.counter ≤ last_id → All SizedRow t.rows
      → All (λ r. unused r ≡ true → r ≡ no_row) t.rows → GoodTable h rule Wanted t
      → ((r : Row) → SizedRow r → (unused r ≡ true → r ≡ no_row) → (unused r ≡ false → UsedRow h t.counter rule Wanted r)
      → HoldersFit kind r.number r.holders)
      → All (RowTrips kind) t.rows
  rows_fit kind rule Wanted t c s f g k =
      all_both SizedRow (λ r. (unused r ≡ true → r ≡ no_row) × (unused r ≡ false → UsedRow h t.counter rule Wanted r)) (RowTrips kind)
      (row_fits kind t.counter rule Wanted c k) t.rows s
      (all_both (λ r. unused r ≡ true → r ≡ no_row) (λ r. unused r ≡ false → UsedRow h t.counter rule Wanted r)
      (λ r. (unused r ≡ true → r ≡ no_row) × (unused r ≡ false → UsedRow h t.counter rule Wanted r)) (λ r a b. (a, b)) t.rows f g.each)

  subscriptions-fit : All (RowTrips Members) h.subscriptions.rows
  subscriptions-fit =
      rows_fit Members valid_topic SomeMember h.subscriptions w.subscription_counter z.members w.free_subscriptions w.subscriptions
      (λ r s f u. members-fit r.number r.holders s.holders)

  registrations-fit : All (RowTrips Owner) h.registrations.rows
  registrations-fit =
      rows_fit Owner valid_procedure OneOwner h.registrations w.registration_counter z.owners w.free_registrations w.registrations
      (λ r s f u.
      owner-fit r.number r.holders s.holders
      (λ e. ap (λ x. x.holders) (f (eq-eqb r.number 0 e)))
      (λ n. (u (ne_eqb r.number 0 n)).wanted))

  call_fits : (c : HeldCall) → (idle c ≡ true → c ≡ no_call) → (idle c ≡ false → JoinedCall h c) → CallTrips c
  call_fits c f j =
      split (idle c)
      (λ t. let e = f t in call-trips c (rw e (omega arith)) (rw e (omega arith)) (rw e (omega arith)) (rw e (omega arith)))
      (λ t.
      let u = j t in
      let l = z.sessions in
      let a = open-inside h c.caller u.calling in
      let b = open-inside h c.callee u.serving in
      let p = (w.counters c.caller).0 in
      let q = (w.counters c.callee).1 in
      let x = u.request in
      let y = u.invocation in
      call-trips c (omega arith) (omega arith) (omega arith) (omega arith))

  calls-fit : All CallTrips h.calls
  calls-fit =
      all_both (λ c. idle c ≡ true → c ≡ no_call) (λ c. idle c ≡ false → JoinedCall h c) CallTrips call_fits h.calls w.free_calls w.joined

  -- ---- the four parts, each where the one before ends
  abbrev part1 : List ℕ
  part1 = joined session_bytes h.sessions

  abbrev part2 : List ℕ
  part2 = table_bytes Members h.subscriptions

  abbrev part3 : List ℕ
  part3 = table_bytes Owner h.registrations

  abbrev part4 : List ℕ
  part4 = joined call_bytes h.calls

  length1 : length part1 ≡ 200
  length1 = let e = z.sessions in length-rows session_of session_bytes session_formed session_size h.sessions sessions-fit ∙ omega arith

  length2 : length part2 ≡ 4456
  length2 = length-table Members h.subscriptions w.subscription_counter z.subscriptions subscriptions-fit

  length3 : length part3 ≡ 4456
  length3 = length-table Owner h.registrations w.registration_counter z.registrations registrations-fit

  length4 : length part4 ≡ 576
  length4 = let e = z.calls in length-rows call_of call_bytes any_call call_size h.calls calls-fit ∙ omega arith

  pub length-store : length (store h) ≡ image_size
  unfolding store
  length-store =
      let a = length1 in
      let b = length2 in
      let c = length3 in
      let d = length4 in
      simp length-append (omega arith)

  from2 : drop 200 (store h) ≡ part2 ++ (part3 ++ part4)
  unfolding store
  from2 = drop_at part1 (part2 ++ (part3 ++ part4)) 200 length1

  from3 : drop 4656 (store h) ≡ part3 ++ part4
  from3 = sym (drop-drop 4456 200 (store h)) ∙ ap (drop 4456) from2 ∙ drop_at part2 (part3 ++ part4) 4456 length2

  from4 : drop 9112 (store h) ≡ part4 ++ []
  from4 = sym (drop-drop 4456 4656 (store h)) ∙ ap (drop 4456) from3 ∙ drop_at part3 part4 4456 length3 ∙ sym (append-nil part4)

  back1 : map session_of (cut session_size slots (store h)) ≡ h.sessions
  unfolding store
  back1 = rows_back session_of session_bytes session_formed session_size slots h.sessions (part2 ++ (part3 ++ part4)) z.sessions sessions-fit

  back2 : table_of Members (drop 200 (store h)) ≡ h.subscriptions
  back2 = rw from2 (table-back Members h.subscriptions w.subscription_counter z.subscriptions subscriptions-fit (part3 ++ part4))

  back3 : table_of Owner (drop 4656 (store h)) ≡ h.registrations
  back3 = rw from3 (table-back Owner h.registrations w.registration_counter z.registrations registrations-fit part4)

  back4 : map call_of (cut call_size row_count (drop 9112 (store h))) ≡ h.calls
  back4 = rw from4 (rows_back call_of call_bytes any_call call_size row_count h.calls [] z.calls calls-fit)

  hub-back : hub_of (store h) ≡ h
  unfolding hub_of
  hub-back = rw (back1, back2, back3, back4)

  formed1 : every session_formed (cut session_size slots (store h)) ≡ true
  unfolding store
  formed1 = rows-formed session_of session_bytes session_formed session_size slots h.sessions (part2 ++ (part3 ++ part4)) z.sessions sessions-fit

  formed2 : table_formed Members (drop 200 (store h)) ≡ true
  formed2 = rw from2 (table-formed Members h.subscriptions w.subscription_counter z.subscriptions subscriptions-fit (part3 ++ part4))

  formed3 : table_formed Owner (drop 4656 (store h)) ≡ true
  formed3 = rw from3 (table-formed Owner h.registrations w.registration_counter z.registrations registrations-fit part4)

  store-formed : formed (store h) ≡ true
  unfolding formed
  store-formed = and_both formed1 (and_both formed2 formed3)

  pub load_store : load (store h) ≡ record { ok = true; hub = h }
  unfolding load
  load_store = rw (eq-eqb (length (store h)) image_size length-store, store-formed, hub-back)

-- ---- bytes that are well-formed are those of their hub
every_any : (l : List (List ℕ)) → every any_call l ≡ true
unfolding every
every_any [] = refl
every_any (r ∷ l) = every_any l

store-hub : (s : List ℕ) → Bytes s → length s ≡ image_size → formed s ≡ true → store (hub_of s) ≡ s
unfolding store hub_of formed
store-hub s b l e =
    let f = and_right (every session_formed (cut session_size slots s)) (table_formed Members (drop 200 s) && table_formed Owner (drop 4656 s)) e in
    let x1 : joined session_bytes (map session_of (cut session_size slots s)) ≡ take 200 s =
    rows_same session_of session_bytes session_formed session_size (λ r g n v. session-same r g n v) slots s b (omega arith)
    (and_left (every session_formed (cut session_size slots s)) (table_formed Members (drop 200 s) && table_formed Owner (drop 4656 s)) e) in
    let x2 =
    table_same Members (drop 200 s) (bytes_drop 200 s b) (simp length-drop (omega arith))
    (and_left (table_formed Members (drop 200 s)) (table_formed Owner (drop 4656 s)) f) in
    let x3 =
    table_same Owner (drop 4656 s) (bytes_drop 4656 s b) (simp length-drop (omega arith))
    (and_right (table_formed Members (drop 200 s)) (table_formed Owner (drop 4656 s)) f) in
    let x4 : joined call_bytes (map call_of (cut call_size row_count (drop 9112 s))) ≡ take 576 (drop 9112 s) =
    rows_same call_of call_bytes any_call call_size (λ r g n v. call_same r g n) row_count (drop 9112 s) (bytes_drop 9112 s b)
    (simp length-drop (omega arith)) (every_any (cut call_size row_count (drop 9112 s))) in
    let x5 : take 576 (drop 9112 s) ≡ drop 9112 s = take_all 576 (drop 9112 s) (simp length-drop (omega arith)) in
    rw (x1, x2, x3, x4, x5, join-part 4656 4456 s, join-part 200 4456 s) (take-append-drop 200 s)

pub store-load : (s : List ℕ) → All (λ b. b < 256) s → (load s).ok ≡ true → store (load s).hub ≡ s
unfolding load
store-load s b =
    split (eqb (length s) image_size)
    (λ t. rw t (λ e. store-hub s (bytes-all s b) (eqb-true (length s) image_size t) e))
    (λ t. rw t (λ e. clash refl (sym e)))

-- ---- sizes
row_sized : (kind : Kind) (r : List ℕ) → length r ≡ row_size → SizedRow (row_of kind r)
unfolding row_of
row_sized kind r e =
    record { holders = length-holders kind (number 8 r) (byte_at r 9); text = length-drop 11 r ∙ omega arith }

table-sized : (kind : Kind) (s : List ℕ) → 4456 ≤ length s → All SizedRow (table_of kind s).rows
unfolding table_of
table-sized kind s h =
    all-image (λ r. length r ≡ row_size) SizedRow (row_of kind) (row_sized kind) (cut row_size row_count (drop 8 s))
    (cut-sized row_size row_count (drop 8 s) (simp length-drop (omega arith)))

length-table-rows : (kind : Kind) (s : List ℕ) → length (table_of kind s).rows ≡ row_count
unfolding table_of
length-table-rows kind s = length-map (cut row_size row_count (drop 8 s)) (row_of kind) ∙ length_cut row_size row_count (drop 8 s)

hub-sized : (s : List ℕ) → length s ≡ image_size → Sized (hub_of s)
unfolding hub_of
hub-sized s l =
    record {
      sessions = length-map (cut session_size slots s) session_of ∙ length_cut session_size slots s;
      subscriptions = length-table-rows Members (drop 200 s);
      registrations = length-table-rows Owner (drop 4656 s);
      calls = length-map (cut call_size row_count (drop 9112 s)) call_of ∙ length_cut call_size row_count (drop 9112 s);
      members = table-sized Members (drop 200 s) (simp length-drop (omega arith));
      owners = table-sized Owner (drop 4656 s) (simp length-drop (omega arith));
    }

empty-sized : Sized empty_hub
unfolding empty_hub
empty-sized =
    record {
      sessions = refl;
      subscriptions = refl;
      registrations = refl;
      calls = refl;
      members = all_replicate SizedRow row_count no_row (record { holders = refl; text = refl });
      owners = all_replicate SizedRow row_count no_row (record { holders = refl; text = refl });
    }

pub load_sized : (s : List ℕ) → Sized (load s).hub
unfolding load
load_sized s =
    split (eqb (length s) image_size)
    (λ t. rw t (hub-sized s (eqb-true (length s) image_size t)))
    (λ t. rw t empty-sized)

pub empty-image : store empty_hub ≡ replicate image_size 0
unfolding store empty_hub session_bytes table_bytes row_bytes row_head call_bytes digits holders_no bits_no owner_no first_from
empty-image = refl

-- a state that begins with a byte, and is else empty
abbrev begun : ℕ → List ℕ
begun b = b ∷ replicate 9687 0

-- the bytes 3 and 6 name no status, and MessagePack's two do
refused : ((load (begun 3)).ok ≡ false) × ((load (begun 6)).ok ≡ false)
unfolding load formed session_formed table_formed row_formed every cut
refused = (refl, refl)

taken : ((load (begun 4)).ok ≡ true) × ((load (begun 5)).ok ≡ true)
unfolding load formed session_formed table_formed row_formed every cut
taken = (refl, refl)

pub claims : Claims
claims = record { stored = load_store; loaded = store-load; sized = load_sized; empty = empty-image }
