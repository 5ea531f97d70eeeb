-- The rules by table are the five rules. Assumes nothing.
use Prim.Native.Nat.{ℕ}
use mathlib.Core.Bool.{Bool, true, false, not, cond, ◌&&◌, ◌||◌}
use mathlib.Core.List.{List, [], ◌∷◌}
use mathlib.Core.Path.{◌≡◌, refl, sym, ap, ◌∙◌}
use lib.Dec.{leb}
use Rattle.seq.specs.Lists.{every, pairwise}
use Rattle.uri.specs.Uri.{valid_topic, valid_procedure}
use Rattle.pattern.specs.declared.Row.{Row}
use Rattle.model.specs.declared.Session.{Session}
use Rattle.model.specs.declared.HeldCall.{HeldCall}
use Rattle.model.specs.declared.Hub.{Hub}
use Rattle.seq.specs.Numbers.{last_id}
use Rattle.model.specs.State.{session, unused, idle}
use Rattle.model.specs.Rules.{row_zero, session_zero, call_zero, id_in_range, ids_apart, row_good, rows_apart, table_good, call_good, calls_apart, counters_low}
use Rattle.model.specs.Rules.{some_member, one_owner, rule1, rule2, rule3, rule4, rule5, rules}
use Rattle.image.specs.declared.Kind.{Kind}
use Rattle.image.specs.declared.Kind.TheVariants.{Members, Owner}
use Rattle.rules.specs.ByTable.{session_lawful, sessions_lawful, rule_of, wanted_of, row_lawful, table_lawful}
use Rattle.rules.specs.ByTable.{zero_call, joins, call_lawful, calls_lawful, by_table}
use Rattle.rules.proofs.Laws.{and_no}

-- ---- tests that are two tests
swap : (a b p q : Bool) → ((a && b) && (p && q)) ≡ ((a && p) && (b && q))
swap false b p q = refl
swap true false p q = simp and_no
swap true true false q = refl
swap true true true q = refl

every-both : {A : Type 0} (r p q : A → Bool) → ((x : A) → r x ≡ (p x && q x)) → (xs : List A) → every r xs ≡ (every p xs && every q xs)
unfolding every
every-both r p q f [] = refl
every-both r p q f (x ∷ xs) = rw (f x, every-both r p q f xs) (swap (p x) (q x) (every p xs) (every q xs))

and_yes : (a : Bool) → (a && true) ≡ a
and_yes true = refl
and_yes false = refl

-- an unused one is zero, a used one good
by-use : (u z g : Bool) → cond u z g ≡ ((not u || z) && (u || g))
by-use true z g = sym (and_yes z)
by-use false z g = refl

session-parts : (ss : List Session) → every session_lawful ss ≡ (every session_zero ss && (every id_in_range ss && every counters_low ss))
unfolding session_lawful
session-parts ss =
    every-both session_lawful session_zero (λ s. id_in_range s && counters_low s) (λ s. refl) ss
    ∙ ap (λ t. every session_zero ss && t) (every-both (λ s. id_in_range s && counters_low s) id_in_range counters_low (λ s. refl) ss)

row-parts : (ss : List Session) (counter : ℕ) (kind : Kind) (rs : List Row)
    → every (row_lawful ss counter kind) rs ≡ (every row_zero rs && every (row_good ss counter (rule_of kind) (wanted_of kind)) rs)
unfolding row_lawful row_zero row_good
row-parts ss counter kind rs =
    every-both (row_lawful ss counter kind) row_zero (row_good ss counter (rule_of kind) (wanted_of kind)) (λ r. by-use (unused r) _ _) rs

call-parts : (h : Hub) (cs : List HeldCall) → every (call_lawful h.sessions) cs ≡ (every call_zero cs && every (call_good h) cs)
unfolding call_lawful call_zero call_good zero_call joins session
call-parts h cs = every-both (call_lawful h.sessions) call_zero (call_good h) (λ c. by-use (idle c) _ _) cs

-- ---- the five rules, taken apart and put together by table
regroup : (z x₁ x₂ y d e g₁ p₁ g₂ p₂ k q l n₁ n₂ : Bool)
    → (((z && (d && l)) && e) && ((n₁ && ((x₁ && g₁) && p₁)) && ((n₂ && ((x₂ && g₂) && p₂)) && ((y && k) && q))))
    ≡ ((z && (x₁ && (x₂ && y))) && ((d && e) && (((g₁ && p₁) && (g₂ && p₂)) && ((k && q) && (l && (n₁ && n₂))))))
regroup false x₁ x₂ y d e g₁ p₁ g₂ p₂ k q l n₁ n₂ = refl
regroup true false x₂ y d e g₁ p₁ g₂ p₂ k q l n₁ n₂ = simp and_no
regroup true true false y d e g₁ p₁ g₂ p₂ k q l n₁ n₂ = simp and_no
regroup true true true false d e g₁ p₁ g₂ p₂ k q l n₁ n₂ = simp and_no
regroup true true true true false e g₁ p₁ g₂ p₂ k q l n₁ n₂ = simp and_no
regroup true true true true true false g₁ p₁ g₂ p₂ k q l n₁ n₂ = simp and_no
regroup true true true true true true false p₁ g₂ p₂ k q l n₁ n₂ = simp and_no
regroup true true true true true true true false g₂ p₂ k q l n₁ n₂ = simp and_no
regroup true true true true true true true true false p₂ k q l n₁ n₂ = simp and_no
regroup true true true true true true true true true false k q l n₁ n₂ = simp and_no
regroup true true true true true true true true true true false q l n₁ n₂ = simp and_no
regroup true true true true true true true true true true true false l n₁ n₂ = simp and_no
regroup true true true true true true true true true true true true false n₁ n₂ = refl
regroup true true true true true true true true true true true true true false n₂ = refl
regroup true true true true true true true true true true true true true true false = refl
regroup true true true true true true true true true true true true true true true = refl

pub together : (h : Hub) → by_table h ≡ rules h
unfolding by_table sessions_lawful table_lawful calls_lawful rules rule1 rule2 rule3 rule4 rule5 table_good
together h =
    let ss = h.sessions in
    let t₁ = h.subscriptions in
    let t₂ = h.registrations in
    rw (session-parts ss, row-parts ss t₁.counter Members t₁.rows, row-parts ss t₂.counter Owner t₂.rows, call-parts h h.calls)
    (regroup
    (every session_zero ss)
    (every row_zero t₁.rows)
    (every row_zero t₂.rows)
    (every call_zero h.calls)
    (every id_in_range ss)
    (pairwise ids_apart ss)
    (every (row_good ss t₁.counter valid_topic some_member) t₁.rows)
    (pairwise rows_apart t₁.rows)
    (every (row_good ss t₂.counter valid_procedure one_owner) t₂.rows)
    (pairwise rows_apart t₂.rows)
    (every (call_good h) h.calls)
    (pairwise calls_apart h.calls)
    (every counters_low ss)
    (leb t₁.counter last_id)
    (leb t₂.counter last_id))
