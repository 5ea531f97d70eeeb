-- In a lawful table the right row for a URI is one row, so the definition's choice is any `Right` one. Assumes nothing.
use Rattle.std.specs.Prelude.{Some, Option}
use Prim.Native.Nat.{ℕ}
use mathlib.Core.Path.{◌≡◌, refl, sym, ◌∙◌, ap}
use mathlib.Core.Bool.{true, false, not, ◌&&◌}
use mathlib.Core.List.{List}
use native.Mathlib.Omega.{arith}
use Rattle.seq.specs.Lists.{Pairs}
use Rattle.seq.specs.Bytes.{same}
use Rattle.seq.proofs.Logic.{split, clash, and_left, and_right, not_is}
use Rattle.seq.proofs.Bytes.{same_refl, same-eq}
use Rattle.uri.specs.declared.Policy.{Policy}
use Rattle.uri.specs.declared.Policy.TheVariants.{Exact, Prefix, Wildcard}
use Rattle.uri.specs.Uri.{same_policy}
use Rattle.uri.proofs.Laws.{policy-same}
use Rattle.pattern.specs.declared.Row.{Row}
use Rattle.pattern.specs.Match.{fits_text, beats_text}
use Rattle.pattern.specs.Choice.{row_at, is_used, fits_row, candidate, choice}
use Rattle.pattern.specs.Right.{Fits, NoneFits, text_at, Right}
use Rattle.pattern.specs.Right.Right.{exact, prefix, wildcard, nothing}
use Rattle.model.specs.State.{unused}
use Rattle.model.specs.Rules.{RowsApart}
use Rattle.pattern.proofs.Chosen.{matching}
use Rattle.model.proofs.RowSearch.{one-text}

-- ---- a candidate is in use, has the policy, and its text fits
module _ (rows : List Row) (p : Policy) (u : List ℕ) (k : ℕ) (f : Fits rows p u k) where
  fits-policy : (row_at rows k).policy ≡ p
  unfolding candidate
  fits-policy = policy-same (row_at rows k).policy p (and_left (same_policy (row_at rows k).policy p) _ f)

  fits-row : (is_used (row_at rows k) && fits_text (row_at rows k).policy (text_at rows k) u) ≡ true
  unfolding candidate fits_row
  fits-row = and_right (same_policy (row_at rows k).policy p) _ f

  fits-used : unused (row_at rows k) ≡ false
  fits-used = not_is (unused (row_at rows k)) (and_left (is_used (row_at rows k)) _ fits-row)

  fits-text : fits_text p (text_at rows k) u ≡ true
  fits-text = rw fits-policy at (and_right (is_used (row_at rows k)) _ fits-row)

module _ (rows : List Row) (apart : Pairs RowsApart rows) (u : List ℕ) where
  -- two candidates of one policy with one text are one row
  one-row : (p : Policy) (j k : ℕ) → Fits rows p u j → Fits rows p u k → text_at rows j ≡ text_at rows k → Some j ≡ Some k
  one-row p j k f g e =
      ap Some
      (one-text rows apart j k (fits-used rows p u j f) (fits-used rows p u k g)
      (fits-policy rows p u j f ∙ sym (fits-policy rows p u k g)) e)

  -- no candidate of a policy that has one
  never : {A : Type 0} (p : Policy) (k : ℕ) → NoneFits rows p u → Fits rows p u k → A
  never p k n f = clash f (n k)

  exact-text : (k : ℕ) → Fits rows Exact u k → text_at rows k ≡ u
  unfolding fits_text
  exact-text k f = same-eq (text_at rows k) u (fits-text rows Exact u k f)

  -- of two wildcard texts that fit, both do not beat the other
  one-wildcard : (j k : ℕ) → Fits rows Wildcard u j → Fits rows Wildcard u k
      → ((text_at rows j ≡ text_at rows k → ⊥) → beats_text (text_at rows j) (text_at rows k) ≡ true)
      → ((text_at rows k ≡ text_at rows j → ⊥) → beats_text (text_at rows k) (text_at rows j) ≡ true) → text_at rows j ≡ text_at rows k
  one-wildcard j k f g w v =
      split (same (text_at rows j) (text_at rows k))
      (λ t. same-eq (text_at rows j) (text_at rows k) t)
      (λ t.
      let n : text_at rows j ≡ text_at rows k → ⊥ = λ e. clash (rw e (same_refl (text_at rows k))) t in
      clash (w n)
      (matching.no_tie (text_at rows j) (text_at rows k) u (fits-text rows Wildcard u j f) (fits-text rows Wildcard u k g) n
      ∙ ap not (v (λ e. n (sym e)))))

  right-one : {f g : Option ℕ} → Right rows u f → Right rows u g → f ≡ g
  right-one (exact j a) (exact k b) = one-row Exact j k a b (exact-text j a ∙ sym (exact-text k b))
  right-one (exact j a) (prefix k n b l m) = never Exact j n a
  right-one (exact j a) (wildcard k n o b w) = never Exact j n a
  right-one (exact j a) (nothing n o q) = never Exact j n a
  right-one (prefix j n a l m) (exact k b) = never Exact k n b
  right-one (prefix j n a l m) (prefix k n' b l' m') =
      let x = l k b in
      let y = l' j a in
      one-row Prefix j k a b
      (matching.one-prefix (text_at rows j) (text_at rows k) u (fits-text rows Prefix u j a) (fits-text rows Prefix u k b) (omega arith))
  right-one (prefix j n a l m) (wildcard k n' o b w) = never Prefix j o a
  right-one (prefix j n a l m) (nothing n' o q) = never Prefix j o a
  right-one (wildcard j n o a w) (exact k b) = never Exact k n b
  right-one (wildcard j n o a w) (prefix k n' b l m) = never Prefix k o b
  right-one (wildcard j n o a w) (wildcard k n' o' b v) = one-row Wildcard j k a b (one-wildcard j k a b (w k b) (v j a))
  right-one (wildcard j n o a w) (nothing n' o' q) = never Wildcard j q a
  right-one (nothing n o q) (exact k b) = never Exact k n b
  right-one (nothing n o q) (prefix k n' b l m) = never Prefix k o b
  right-one (nothing n o q) (wildcard k n' o' b w) = never Wildcard k q b
  right-one (nothing n o q) (nothing n' o' q') = refl

  -- the choice is the right one
  pub right-choice : (f : Option ℕ) → Right rows u f → choice rows u ≡ f
  right-choice f r = right-one (matching.choice-right rows u) r
