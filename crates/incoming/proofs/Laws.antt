-- What the proofs of reading use of a format: its lists, the kinds of its values, its strings and its options, as specs/Read.antt reads them
-- and as specs/Shapes.antt has them. JsonLaws.antt and PackLaws.antt prove it of both formats.
use Prim.Native.Nat.{ℕ, ◌≤◌, ◌<◌}
use mathlib.Core.Bool.{true}
use mathlib.Core.List.{List, [], map}
use mathlib.Core.Logic.{◌⊎◌}
use mathlib.Core.Path.{◌≡◌}
use lib.ListN.{length}
use Rattle.seq.specs.declared.Format.{Format}
use Rattle.seq.specs.declared.Format.TheVariants.{Json, MsgPack}
use Rattle.seq.specs.declared.Span.{Span}
use Rattle.seq.specs.Lists.{All}
use Rattle.seq.specs.Bytes.{text_of}
use Rattle.json_text.specs.Grammar.{Value}
use Rattle.elements.specs.Kinds.{kind, an_id, a_string, a_list, a_dict}
use Rattle.elements.specs.Elements.{at}
use Rattle.msgpack.specs.Grammar as Packs
use Rattle.arrays.specs.Arrays as Arrays
use Rattle.options.specs.Audience.{bool_text}
use Rattle.incoming.specs.Read.{spans_in, kinds_in, id_in, within, text_by, sound_by, sound_options, option, is_string, inside, shape, encoded}
use Rattle.incoming.specs.Shapes.{IdText, IsString, Sound, Says, Dict, IsList, Made, Options, Has, true_text}
use Rattle.incoming.proofs.Digits.{Digit}

abbrev pub kind_by : Format → List ℕ → ℕ
kind_by Json t = kind t
kind_by MsgPack t = Arrays.kind t

-- what may be an element of a message
abbrev pub Element : Format → List ℕ → Type 0
Element Json t = Value 7 t
Element MsgPack t = Packs.Value 7 t

-- what every message passes before its elements are looked at
pub record Accepted (f : Format) (s : List ℕ) : Type 0 where
  pub some : 1 ≤ length s
  pub short : length s ≤ 2048
  pub formed : encoded f s ≡ true

pub record Laws (f : Format) : Type 0 where
  -- ---- the list
  pub accepted : (es : List (List ℕ)) (s : List ℕ) → Made f es s → Accepted f s
  pub made : (s : List ℕ) → Accepted f s → 0 < length (spans_in f s) → Made f (map (text_of s) (spans_in f s)) s
  pub listed : (es : List (List ℕ)) (s : List ℕ) → Made f es s → length es ≤ 7 → map (text_of s) (spans_in f s) ≡ es
  pub each : (es : List (List ℕ)) (s : List ℕ) → Made f es s → All (Element f) es
  pub within-at : (s : List ℕ) (k : ℕ) → k < length (spans_in f s)
      → within f s (at k (spans_in f s)) ≡ inside f (text_of s (at k (spans_in f s)))
  -- ---- kinds
  pub kinds : (s : List ℕ) (ps : List Span) → kinds_in f s ps ≡ shape (map (kind_by f) (map (text_of s) ps))
  pub digit : (t : List ℕ) → Digit (kind_by f t)
  pub id-found : (s : List ℕ) (p : Span) → Element f (text_of s p) → kind_by f (text_of s p) ≡ an_id → IdText f (id_in f s p) (text_of s p)
  pub string-found : (t : List ℕ) → Element f t → kind_by f t ≡ a_string → IsString f t
  pub list-found : (t : List ℕ) → Element f t → kind_by f t ≡ a_list → IsList f t
  pub dict-found : (t : List ℕ) → Element f t → kind_by f t ≡ a_dict → Dict f t
  pub id-is : (s : List ℕ) (p : Span) (n : ℕ) → IdText f n (text_of s p) → id_in f s p ≡ n
  pub id-kind : (n : ℕ) (t : List ℕ) → IdText f n t → kind_by f t ≡ an_id
  pub string-kind : (t : List ℕ) → IsString f t → kind_by f t ≡ a_string
  pub list-kind : (t : List ℕ) → IsList f t → kind_by f t ≡ a_list
  pub dict-kind : (t : List ℕ) → Dict f t → kind_by f t ≡ a_dict
  -- ---- strings
  pub string-is : (t : List ℕ) → IsString f t → is_string f t ≡ true
  pub sound-found : (t : List ℕ) → sound_by f (inside f t) ≡ true → Sound f t
  pub sound-is : (t : List ℕ) → Sound f t → sound_by f (inside f t) ≡ true
  pub says-found : (t : List ℕ) → IsString f t → Sound f t → Says f (text_by f (inside f t)) t
  pub says-string : (text t : List ℕ) → Says f text t → IsString f t
  pub says-sound : (text t : List ℕ) → Says f text t → Sound f t
  pub says_is : (text t : List ℕ) → Says f text t → text_by f (inside f t) ≡ text
  -- ---- options
  pub options-found : (s : List ℕ) (p : Span) → length s ≤ 2048 → Dict f (text_of s p) → sound_options f s p ≡ true → Options f (text_of s p)
  pub options-are : (s : List ℕ) (p : Span) → length s ≤ 2048 → Options f (text_of s p) → sound_options f s p ≡ true
  pub options-dict : (t : List ℕ) → Options f t → Dict f t
  pub has-options : (key v t : List ℕ) → Has f key v t → Options f t
  pub has_some : (key v t : List ℕ) → Has f key v t → ¬ (v ≡ [])
  pub has-string : (key v t : List ℕ) → Has f key v t → is_string f v ≡ true → IsString f v
  pub has-found : (s : List ℕ) (p : Span) → length s ≤ 2048 → (key : List ℕ) → Options f (text_of s p)
      → Has f key (option f key s p) (text_of s p) ⊎ (option f key s p ≡ [])
  pub has-is : (s : List ℕ) (p : Span) → length s ≤ 2048 → (key v : List ℕ) → Has f key v (text_of s p) → option f key s p ≡ v
  pub true-is : bool_text f true ≡ true_text f
  pub true-some : ¬ (true_text f ≡ [])
