-- A row's holders, as one byte and back. Assumes nothing.
use Rattle.std.specs.Prelude.{Some}
use Prim.Native.Nat.{ℕ, zero, suc, ◌*◌, ◌/◌, ◌%◌, ◌<◌, ◌^◌}
use mathlib.Core.Bool.{Bool, true, false, ◌&&◌}
use mathlib.Core.List.{List, [], ◌∷◌}
use mathlib.Core.Path.{◌≡◌, refl, sym, ap, ◌∙◌}
use native.Mathlib.Nat.{pow-suc, div-add-mod'}
use native.Mathlib.Omega.{arith}
use borrow.Author.Tests.{eqb-true, eqb-false}
use lib.Arith.{digits_div, digits_mod}
use lib.Dec.{eqb}
use lib.ListN.{length, get_or, set, replicate, length-set}
use lib.Seq.{ext_get_or, get_or-set_same, get_or-set_other}
use Rattle.seq.specs.Lists.{bit, tally, first_from, first}
use Rattle.seq.proofs.Logic.{split, clash}
use Rattle.seq.proofs.Lists.{get_d-replicate-same}
use Rattle.seq.proofs.Search.{bit-low, split-found, found_inside, found-passes, missed-all, tally-missed, tally-one, first-only, found-case}
use Rattle.model.specs.State.{slots, is_holder}
use Rattle.image.specs.declared.Kind.{Kind}
use Rattle.image.specs.declared.Kind.TheVariants.{Members, Owner}
use Rattle.image.specs.Image.{bits_of, bits_no, owner_of, owner_no, holders_of, holders_no, holders_end}
use Rattle.image.proofs.Laws.{owner-none, owner-alone, bits-low}

-- ---- member bits
bit_is : (b : Bool) → eqb (bit b) 1 ≡ b
bit_is true = refl
bit_is false = refl

is-bit : (x : ℕ) → x < 2 → bit (eqb x 1) ≡ x
is-bit zero h = refl
is-bit (suc zero) h = refl
is-bit (suc (suc x)) h = absurd (omega arith)

bits_back : (hs : List Bool) → bits_of (length hs) (bits_no hs) ≡ hs
unfolding bits_of bits_no
bits_back [] = refl
bits_back (b ∷ hs) =
    let l : bit b < 2 = (let h = bit-low b in omega arith) in
    rw (digits_mod (bits_no hs) {m = 2} {r = bit b} l, digits_div (bits_no hs) {m = 2} {r = bit b} l, bit_is b) (ap (λ l. b ∷ l) (bits_back hs))

no_bits : (n x : ℕ) → x < 2 ^ n → bits_no (bits_of n x) ≡ x
unfolding bits_of bits_no
no_bits zero x h = omega arith
no_bits (suc n) x h =
    let k : x < 2 ^ n * 2 = rw (pow-suc 2 n) at h in
    rw (no_bits n (x / 2) (omega arith), is-bit (x % 2) (omega arith)) (div-add-mod' x 2)

pub length-bits : (n x : ℕ) → length (bits_of n x) ≡ n
unfolding bits_of
length-bits zero x = refl
length-bits (suc n) x = ap suc (length-bits n (x / 2))

-- ---- the owner
abbrev pub nobody : List Bool
nobody = replicate slots false

alone-here : (b : ℕ) → b < slots → get_or (set nobody b true) b false ≡ true
alone-here b h = get_or-set_same nobody b true false h

alone-only : (b i : ℕ) → get_or (set nobody b true) i false ≡ true → i ≡ b
alone-only b i t =
    split (eqb i b) (λ e. eqb-true i b e)
    (λ e. clash t (get_or-set_other nobody b i true false (eqb-false i b e) ∙ get_d-replicate-same slots i false))

alone-no : (b : ℕ) → b < slots → owner_no (set nobody b true) ≡ b
unfolding owner_no
alone-no b h = rw (first-only is_holder false (set nobody b true) b (rw (length-set nobody b true) h) (alone-here b h) (alone-only b))

nobody-no : owner_no nobody ≡ 0
unfolding owner_no first_from
nobody-no = refl

no-owner : (number b : ℕ) → b < slots → owner_no (owner_of number b) ≡ b
no-owner number b h =
    split (eqb number 0)
    (λ u.
    split (eqb b 0)
    (λ v. rw (owner-none number b (eqb-true number 0 u) (eqb-true b 0 v)) (nobody-no ∙ sym (eqb-true b 0 v)))
    (λ v. alone (λ e f. eqb-false b 0 v f)))
    (λ u. alone (λ e f. eqb-false number 0 u e))
  where
    alone : (number ≡ 0 → b ≡ 0 → ⊥) → owner_no (owner_of number b) ≡ b
    alone n = rw (owner-alone number b n) (alone-no b h)

-- the slot of the one holder
alone-is : (hs : List Bool) (k : ℕ) → length hs ≡ slots → tally is_holder hs ≡ 1 → k < length hs → get_or hs k false ≡ true → set nobody k true ≡ hs
alone-is hs k l e h t =
    ext_get_or false (set nobody k true) hs (length-set nobody k true ∙ sym l) same
  where
    same : (i : ℕ) → i < length (set nobody k true) → get_or (set nobody k true) i false ≡ get_or hs i false
    same i m =
        split (eqb i k)
        (λ u. rw (eqb-true i k u) (alone-here k (omega arith) ∙ sym t))
        (λ u. get_or-set_other nobody k i true false (eqb-false i k u) ∙ get_d-replicate-same slots i false
        ∙ sym (split (get_or hs i false) (λ v. absurd (eqb-false i k u (tally-one is_holder false refl hs e i k v t))) (λ v. v)))

owner-low : (hs : List Bool) → length hs ≡ slots → owner_no hs < slots
unfolding owner_no
owner-low hs l =
    found-case (λ i. i < slots) (first is_holder hs) (λ i. i) 0
    (λ k f. let h = found_inside is_holder false hs k f in omega arith)
    (λ f. omega arith)

owner-found : (hs : List Bool) (k : ℕ) → first is_holder hs ≡ Some k → owner_no hs ≡ k
unfolding owner_no
owner-found hs k f = rw f

owner-back : (number : ℕ) (hs : List Bool) → length hs ≡ slots → (number ≡ 0 → hs ≡ nobody) → ((number ≡ 0 → ⊥) → tally is_holder hs ≡ 1)
    → owner_of number (owner_no hs) ≡ hs
owner-back number hs l z o =
    split (eqb number 0)
    (λ u. let e = eqb-true number 0 u in rw (z e, nobody-no) (owner-none number 0 e refl))
    (λ u. used (eqb-false number 0 u))
  where
    used : (number ≡ 0 → ⊥) → owner_of number (owner_no hs) ≡ hs
    used n =
        split-found (first is_holder hs)
        (λ k f.
        rw (owner-found hs k f, owner-alone number k (λ e v. n e))
        (alone-is hs k l (o n) (found_inside is_holder false hs k f) (found-passes is_holder false hs k f)))
        (λ f. absurd (let e = o n in let z = tally-missed is_holder hs (missed-all is_holder hs f) in omega arith))

-- ---- either kind
-- holders that one byte keeps
pub record HoldersFit (kind : Kind) (number : ℕ) (hs : List Bool) : Type 0 where
  pub back : holders_of kind number (holders_no kind hs) ≡ hs
  pub low : holders_no kind hs < holders_end kind

pub members-fit : (number : ℕ) (hs : List Bool) → length hs ≡ slots → HoldersFit Members number hs
unfolding holders_of holders_no
members-fit number hs l =
    record {
      back = ap (λ n. bits_of n (bits_no hs)) (sym l) ∙ bits_back hs;
      low = (let h = bits-low hs in let e : 2 ^ length hs ≡ 256 = ap (λ n. 2 ^ n) l in omega arith);
    }

pub owner-fit : (number : ℕ) (hs : List Bool) → length hs ≡ slots → (number ≡ 0 → hs ≡ nobody) → ((number ≡ 0 → ⊥) → tally is_holder hs ≡ 1)
    → HoldersFit Owner number hs
unfolding holders_of holders_no
owner-fit number hs l z o = record { back = owner-back number hs l z o; low = owner-low hs l }

pub no-holders : (kind : Kind) (number b : ℕ) → b < holders_end kind → holders_no kind (holders_of kind number b) ≡ b
unfolding holders_of holders_no
no-holders Members number b h = no_bits 8 b h
no-holders Owner number b h = no-owner number b h

pub length-holders : (kind : Kind) (number b : ℕ) → length (holders_of kind number b) ≡ slots
unfolding holders_of owner_of
length-holders Members number b = length-bits slots b
length-holders Owner number b =
    split (eqb number 0 && eqb b 0) (λ t. rw t) (λ t. rw t (length-set nobody b true))
