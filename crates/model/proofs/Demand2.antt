-- Demand 2 (specs/Demands.antt): what each message does, for every hub and step.
-- Assumes nothing.
use Rattle.std.specs.Prelude.{Some, None}
use Prim.Native.Nat.{ℕ}
use mathlib.Core.Path.{◌≡◌, sym, refl, ◌∙◌}
use mathlib.Core.Bool.{true, false}
use mathlib.Core.List.{[], ◌∷◌}
use Rattle.seq.proofs.Bytes.{same_refl, same-ne}
use Rattle.outgoing.specs.Outgoing as Out
use Rattle.outgoing.specs.Outgoing.{Result, Failure}
use Rattle.outgoing.specs.Outgoing.{uri_text}
use Rattle.outgoing.specs.declared.Uri.TheVariants as Uri
use Rattle.model.specs.declared.Status.TheVariants.{Closed}
use Rattle.model.specs.declared.Hub.{Hub}
use Rattle.model.specs.State.{session, format_at, attached_in, holds, owner, with_session, left, row_at, with_row, added, with_subscriptions, with_registrations, joined as joined_by}
use Rattle.model.specs.Rules.{Lawful}
use Rattle.model.specs.Step.{Step, realm_name, mail, silent, says, numbered, on_open, on_attached, early, accepts, welcomes, turns_away, attaches, detaches, wrong_time, violates, acknowledged, publishes, publish_error, call_error, conveyed, answered, subscribe, register, unsubscribe, unregister, publish, call, subscribe_new, subscribe_join, register_new}
use Rattle.model.specs.Demands.{Demand2, Demand2Slots}
use Rattle.model.proofs.Decided.{open-leads, early-leads, fresh-leads, fresh-number, asked-leads, attach-leads, detach-leads}
use Rattle.model.proofs.Owner.{owner-only}
use Rattle.model.proofs.RowSearch.{row-found, row-none, held_found, held_none, place-found, place_none}
use Rattle.model.proofs.RowChange.{took, member-places, joins, leaves, leaves_free}
use Rattle.model.proofs.RightOne.{right-choice}
use Rattle.model.proofs.EndsWith.{ends_with, owned-alone}
use Rattle.model.proofs.Audience.{improper-is, proper-is}
use Rattle.model.proofs.Formats.{numbered-format, numbered-id}
use Rattle.model.proofs.Receivers.{reaches}
use Rattle.model.proofs.Routing.{numbered-invocation, no-room, has_room, route-full, route-to, passed-as, passed-not, answer-found, answer-none}
use Rattle.model.proofs.Violations.{violating, wrong-early}

-- the owner of a registration is its one holder
owner-by : (h : Hub) → Lawful h → (r callee : ℕ) → holds callee (row_at h.registrations r) ≡ true → owner (row_at h.registrations r) ≡ callee
owner-by h l r callee holder = sym (owner-only (row_at h.registrations r) (owned-alone h l r callee holder) callee holder)

module _ (h : Hub) (x : Step) (i number : ℕ) where
  pub demand2 : Demand2 h x i number
  demand2 =
      record {
        -- HELLO, GOODBYE and ABORT
        welcome =
            λ a free.
            unfold on_attached early welcomes says in
            fresh-leads h x i number a (fresh-number h number free) (rw (same_refl realm_name));
        other_realm =
            λ realm n a.
            unfold on_attached accepts early turns_away says in
            early-leads h x i number a (same-ne realm realm_name n) (rw (same-ne realm realm_name n));
        goodbye =
            λ a.
            unfold on_open in
            ends_with h i (attached_in (format_at h i)) a.on.sized a.on.lawful a.on.inside x _ (λ h' ms e. open-leads h x i number a e);
        abort =
            λ a.
            unfold on_open in
            ends_with h i Closed a.on.sized a.on.lawful a.on.inside x _ (λ h' ms e. open-leads h x i number a e);
        abort_early = λ a. unfold on_attached accepts early silent in early-leads h x i number a refl refl;
        -- SUBSCRIBE
        subscribe_match =
            λ n topic a.
            unfold on_open subscribe says numbered in
            asked-leads h x i number (λ g. subscribe g i n None topic) a refl refl;
        subscribe_uri =
            λ n p topic a v.
            unfold on_open subscribe says numbered in
            asked-leads h x i number (λ g. subscribe g i n (Some p) topic) a refl (rw v);
        subscribe_full =
            λ n p topic a v none full.
            unfold on_open subscribe subscribe_new says numbered with_session in
            asked-leads h x i number (λ g. subscribe g i n (Some p) topic) a refl
            (rw (v, row-none h.subscriptions p topic none) (place_none h.subscriptions _ _ full));
        subscribe_new =
            λ n p topic a v none k free l.
            unfold on_open subscribe subscribe_new says numbered with_session with_subscriptions in (
              added h.subscriptions k p i topic,
              took h.subscriptions k free.inside p i topic a.heard.on.inside,
              asked-leads h x i number (λ g. subscribe g i n (Some p) topic) a refl
                  (rw (v, row-none h.subscriptions p topic none) (place-found h.subscriptions k _ _ free l)),
            );
        subscribe_join =
            λ n p topic a v k r.
            unfold on_open subscribe subscribe_join says numbered with_session with_subscriptions in (
              with_row h.subscriptions k (joined_by i (row_at h.subscriptions k)),
              joins h.subscriptions k r.0.0 i (member-places h a.heard.on.sized k i a.heard.on.inside),
              asked-leads h x i number (λ g. subscribe g i n (Some p) topic) a refl
                  (rw (v, row-found h.subscriptions p topic k a.heard.on.lawful.subscriptions.apart r)),
            );
        -- REGISTER
        register_match =
            λ n procedure a.
            unfold on_open register says numbered in
            asked-leads h x i number (λ g. register g i n None procedure) a refl refl;
        register_uri =
            λ n p procedure a v.
            unfold on_open register says numbered in
            asked-leads h x i number (λ g. register g i n (Some p) procedure) a refl (rw v);
        register_twice =
            λ n p procedure a v k r.
            unfold on_open register says numbered with_session in
            asked-leads h x i number (λ g. register g i n (Some p) procedure) a refl
            (rw (v, row-found h.registrations p procedure k a.heard.on.lawful.registrations.apart r));
        register_full =
            λ n p procedure a v none full.
            unfold on_open register register_new says numbered with_session in
            asked-leads h x i number (λ g. register g i n (Some p) procedure) a refl
            (rw (v, row-none h.registrations p procedure none) (place_none h.registrations _ _ full));
        register_new =
            λ n p procedure a v none k free l.
            unfold on_open register register_new says numbered with_session with_registrations in (
              added h.registrations k p i procedure,
              took h.registrations k free.inside p i procedure a.heard.on.inside,
              asked-leads h x i number (λ g. register g i n (Some p) procedure) a refl
                  (rw (v, row-none h.registrations p procedure none) (place-found h.registrations k _ _ free l)),
            );
        -- UNSUBSCRIBE and UNREGISTER
        unsubscribe =
            λ n id k a r.
            unfold on_open unsubscribe says numbered with_session with_subscriptions in (
              with_row h.subscriptions k (left i (row_at h.subscriptions k)),
              leaves h.subscriptions k i r.0.0 r.2,
              asked-leads h x i number (λ g. unsubscribe g i n id) a refl
                  (rw (held_found h.subscriptions i id k a.heard.on.lawful.subscriptions.apart r)),
            );
        unsubscribe_none =
            λ n id a none.
            unfold on_open unsubscribe says numbered with_session in
            asked-leads h x i number (λ g. unsubscribe g i n id) a refl (rw (held_none h.subscriptions i id none));
        unregister =
            λ n id k a r.
            unfold on_open unregister says numbered with_session with_registrations in (
              with_row h.registrations k (left i (row_at h.registrations k)),
              leaves_free h.registrations k i r.0.0 r.2 (owned-alone h a.heard.on.lawful k i r.2),
              leaves h.registrations k i r.0.0 r.2,
              asked-leads h x i number (λ g. unregister g i n id) a refl
                  (rw (held_found h.registrations i id k a.heard.on.lawful.registrations.apart r)),
            );
        unregister_none =
            λ n id a none.
            unfold on_open unregister says numbered with_session in
            asked-leads h x i number (λ g. unregister g i n id) a refl (rw (held_none h.registrations i id none));
        -- PUBLISH
        publish_argument =
            λ n u topic payload a w.
            unfold on_open publish publish_error acknowledged numbered in
            asked-leads h x i number (λ g. publish g i n true u topic payload number) a refl (rw (improper-is u w));
        publish_wrong =
            λ n u topic payload a w.
            unfold on_open publish publish_error acknowledged numbered in
            asked-leads h x i number (λ g. publish g i n false u topic payload number) a refl (rw (improper-is u w));
        publish_uri =
            λ n u topic payload a w v.
            unfold on_open publish publish_error acknowledged numbered in
            asked-leads h x i number (λ g. publish g i n true u topic payload number) a refl (rw (proper-is u w, v));
        publish_silent =
            λ n u topic payload a w v.
            unfold on_open publish publish_error acknowledged numbered in
            asked-leads h x i number (λ g. publish g i n false u topic payload number) a refl (rw (proper-is u w, v));
        publish =
            λ n u topic payload a w v.
            let on = a.heard.on in
            unfold on_open publish publishes acknowledged numbered with_session in
            reaches h x i number u topic payload on.sized on.lawful on.status (numbered h i n) (numbered-id h i n) (numbered-format h i n) []
            (numbered h i n)
            (λ ms e. asked-leads h x i number (λ g. publish g i n false u topic payload number) a refl (rw (proper-is u w, v, e)));
        publish_acknowledged =
            λ n u topic payload a w v.
            let on = a.heard.on in
            unfold on_open publish publishes acknowledged numbered with_session in
            reaches h x i number u topic payload on.sized on.lawful on.status (numbered h i n) (numbered-id h i n) (numbered-format h i n)
            (mail i (Out.Published n number) ∷ []) (numbered h i n)
            (λ ms e. asked-leads h x i number (λ g. publish g i n true u topic payload number) a refl (rw (proper-is u w, v, e)));
        -- CALL
        call_uri =
            λ n procedure payload a v.
            unfold on_open call call_error says numbered in
            asked-leads h x i number (λ g. call g i n procedure payload) a refl (rw v);
        call_none =
            λ n procedure payload a v r.
            unfold on_open call call_error says numbered with_session in
            asked-leads h x i number (λ g. call g i n procedure payload) a refl
            (rw (v, right-choice h.registrations.rows a.heard.on.lawful.registrations.apart procedure None r));
        call_unconverted =
            λ n procedure payload a v r right unlike.
            unfold on_open call call_error says numbered with_session in
            asked-leads h x i number (λ g. call g i n procedure payload) a refl
            (rw (v, right-choice h.registrations.rows a.heard.on.lawful.registrations.apart procedure (Some r) right)
            (passed-not h i n (row_at h.registrations r) procedure payload unlike));
        call_full =
            λ n procedure payload a v r q right goes full.
            unfold on_open call call_error says numbered with_session in
            asked-leads h x i number (λ g. call g i n procedure payload) a refl
            (rw (v, right-choice h.registrations.rows a.heard.on.lawful.registrations.apart procedure (Some r) right)
            (passed-as h i n (row_at h.registrations r) procedure payload q goes
            ∙ route-full (numbered h i n) i n (row_at h.registrations r) procedure q (no-room h i n a.heard.on.sized a.heard.on.inside _ full)));
        call_routed =
            λ n procedure payload a v r k callee q right holder goes room.
            unfold on_open call says numbered with_session in
            asked-leads h x i number (λ g. call g i n procedure payload) a refl
            (rw (v, right-choice h.registrations.rows a.heard.on.lawful.registrations.apart procedure (Some r) right)
            (passed-as h i n (row_at h.registrations r) procedure payload q (rw (owner-by h a.heard.on.lawful r callee holder) goes)
            ∙ route-to (numbered h i n) i n (row_at h.registrations r) procedure q k callee (session h callee).invocation
            (owner-by h a.heard.on.lawful r callee holder)
            (numbered-invocation h i n a.heard.on.sized a.heard.on.inside callee) (has_room h i n a.heard.on.sized a.heard.on.inside callee k room)));
        -- YIELD and ERROR
        yield =
            λ v k payload q a s goes.
            unfold on_open answered conveyed says in
            open-leads h x i number a (answer-found h i v (Result payload) k a.on.lawful s ∙ rw goes);
        error =
            λ v k uri payload q a s goes.
            unfold on_open answered conveyed says in
            open-leads h x i number a (answer-found h i v (Failure uri payload) k a.on.lawful s ∙ rw goes);
        yield_unconverted =
            λ v k payload a s unlike.
            unfold on_open answered conveyed says in
            open-leads h x i number a (answer-found h i v (Result payload) k a.on.lawful s ∙ rw unlike);
        error_unconverted =
            λ v k uri payload a s unlike.
            unfold on_open answered conveyed says in
            open-leads h x i number a (answer-found h i v (Failure uri payload) k a.on.lawful s ∙ rw unlike);
        yield_dropped =
            λ v payload a l none.
            unfold on_open silent in
            open-leads h x i number a (answer-none h i v (Result payload) l none);
        error_dropped =
            λ v uri payload a l none.
            unfold on_open silent in
            open-leads h x i number a (answer-none h i v (Failure uri payload) l none);
      }

-- attaching, detaching and violations
module _ (h : Hub) (x : Step) (i number : ℕ) where
  pub demand2-slots : Demand2Slots h x i number
  demand2-slots =
      record {
        violation =
            λ m a b.
            unfold violates in
            ends_with h i Closed a.on.sized a.on.lawful a.on.inside x (mail i (Out.Abort (uri_text Uri.ProtocolViolation)) ∷ [])
            (λ h' ms e. open-leads h x i number a (violating h i number m b ∙ e));
        violation_early =
            λ m a b.
            unfold on_attached accepts turns_away says in
            early-leads h x i number a (rw (wrong-early m b)) (rw (wrong-early m b));
        attach = λ f a. unfold attaches silent in attach-leads h x i number f a refl;
        detach_open =
            λ a.
            unfold detaches wrong_time in
            ends_with h i Closed a.sized a.lawful a.inside x [] (λ h' ms e. detach-leads h x i number a refl e);
        detach_attached = λ a. unfold detaches wrong_time silent in detach-leads h x i number a refl refl;
      }
