-- The parts of a message that is written: each is a value that may be an element, and the dicts are those of specs/Written.antt. Over the laws
-- of a format. Assumes nothing.
use Prim.Native.Nat.{ℕ, ◌≤◌, ◌<◌}
use mathlib.Core.Bool.{true}
use mathlib.Core.List.{List, [], ◌∷◌}
use mathlib.Core.Logic.{inl, ⊎_elim}
use mathlib.Core.Path.{◌≡◌, refl, sym, subst, ◌∙◌}
use native.Mathlib.Omega.{arith}
use lib.ListN.{length}
use Rattle.seq.specs.declared.Format.{Format}
use Rattle.seq.specs.declared.Format.TheVariants.{Json, MsgPack}
use Rattle.seq.specs.Bytes.{Payload, same, among}
use Rattle.seq.specs.Lists.{All, every}
use Rattle.seq.proofs.Bytes.{bytes-are}
use Rattle.seq.proofs.Rules.{all_map}
use Rattle.utf8.specs.Utf8.{lead, step, continues, is_ascii}
use Rattle.utf8.proofs.Table.{utf8-table}
use Rattle.lex.specs.Lex.{run, past, is_escape, escape, char, string as string_at, quoted, first, next, colon}
use Rattle.lex.proofs.Stands.{reads_all}
use Rattle.strings.specs.Strings.{undone_after}
use Rattle.json_text.specs.Json.{literal, members, braced, by_first, value}
use Rattle.json_text.proofs.Grammar.{value_found}
use Rattle.elements.specs.Kinds.{kind}
use Rattle.members.proofs.Grammar as MembersFound
use Rattle.msgpack.specs.Head.{forms, form_of, number as number_at, head_of, head_at}
use Rattle.msgpack.specs.MsgPack as Packs
use Rattle.msgpack.proofs.Grammar.{packed-value}
use Rattle.arrays.specs.Arrays as Arrays
use Rattle.maps.proofs.Grammar as MapsFound
use Rattle.values.specs.Value.{Scalar, Member, GoodText, GoodScalar}
use Rattle.values.specs.Value.Scalar.{Whole, Text}
use Rattle.values.specs.Stands.{member}
use Rattle.values.specs.Write.{write_scalar, spelled, quoted_text, json_scalar, commaed, separated, json_member, json_layer}
use Rattle.values.specs.Write.{pack_str, pack_map, pack_text, pack_scalar, pack_member, pack_layer}
use Rattle.incoming.specs.Shapes.{Dict, IsList, IsPayload, Options, Has, Lacks, Made}
use Rattle.incoming.proofs.Laws.{kind_by}
use Rattle.incoming.proofs.Laws as Reading
use Rattle.incoming.proofs.JsonLaws as ReadingJson
use Rattle.incoming.proofs.PackLaws as ReadingPack
use Rattle.spoken.specs.Parts.{number, string, list, dict, single, InRange, Formed, Carried}
use Rattle.spoken.specs.Written.{roles}
use Rattle.spoken.specs.Sent.{features, IsListOf}
use Rattle.spoken.specs.Heard.{member_of}
use Rattle.spoken.proofs.Utf8.{tested}
use Rattle.spoken.proofs.Laws.{Laws, Value, Part, Inner, Fit, Without}
use Rattle.spoken.proofs.JsonLaws.{json-laws}
use Rattle.spoken.proofs.PackLaws.{pack-laws}

pub writing : (f : Format) → Laws f
writing Json = json-laws
writing MsgPack = pack-laws

pub reads : (f : Format) → Reading.Laws f
reads Json = ReadingJson.json-laws
reads MsgPack = ReadingPack.pack-laws

-- ---- constants: a text of ASCII, the roles of a client and those of the hub
pub good : (t : List ℕ) → length t < 128 → is_ascii t ≡ true → GoodText t
good t l e = record { utf8 = (utf8-table t).1 (tested t e); sized = omega arith }

constant-values : (f : Format) → Value f 7 (roles f) × Value f 7 (features f)
unfolding same among every lead step continues run past is_escape escape char string_at quoted first next colon undone_after members braced by_first value
    literal forms form_of number_at head_of head_at Packs.bytes Packs.text Packs.times Packs.with_key Packs.again Packs.pairs Packs.by_head Packs.value
    spelled quoted_text json_scalar commaed separated json_member json_layer pack_str pack_map pack_text pack_scalar pack_member pack_layer
constant-values Json = (
  reads_all (value_found 7 (roles Json) 0 (length (roles Json)) refl),
  reads_all (value_found 7 (features Json) 0 (length (features Json)) refl),
)
constant-values MsgPack = ((packed-value 7 (roles MsgPack)).0 refl, (packed-value 7 (features MsgPack)).0 refl)

constant-kinds : (f : Format) → (kind_by f (roles f) ≡ 4) × (kind_by f (features f) ≡ 4)
unfolding kind Arrays.kind form_of number_at head_of head_at json_layer pack_map pack_layer pack_member pack_text pack_str pack_scalar
constant-kinds Json = (refl, refl)
constant-kinds MsgPack = (refl, refl)

constants-formed : (f : Format) → Formed f (roles f) × Formed f (features f)
unfolding every spelled quoted_text json_scalar commaed separated json_member json_layer pack_str pack_map pack_text pack_scalar pack_member pack_layer
constants-formed Json = (tested (roles Json) refl, tested (features Json) refl)
constants-formed MsgPack = ((bytes-are (roles MsgPack)).0 refl, (bytes-are (features MsgPack)).0 refl)

dict-of : (f : Format) (t : List ℕ) → Value f 7 t → kind_by f t ≡ 4 → Dict f t
dict-of Json t v k = (reads Json).dict-found t v k
dict-of MsgPack t v k = (reads MsgPack).dict-found t v k

pub roles-dict : (f : Format) → Dict f (roles f)
roles-dict f = dict-of f (roles f) (constant-values f).0 (constant-kinds f).0

pub roles-part : (f : Format) → Part f (roles f)
roles-part f = ((constant-values f).0, (constants-formed f).0)

pub features-dict : (f : Format) → Dict f (features f)
features-dict f = dict-of f (features f) (constant-values f).1 (constant-kinds f).1

pub features-part : (f : Format) → Part f (features f)
features-part f = ((constant-values f).1, (constants-formed f).1)

-- ---- dicts
-- the value of a key
pub member_is : (f : Format) (limit : ℕ) (t : List ℕ) → length t ≤ limit → (key v : List ℕ) → Has f key v t → member_of f limit key t ≡ v
member_is Json limit t l key v (ms, o, m, i, k, q) = MembersFound.member-found limit t ms l o.0 key m i k ∙ q
member_is MsgPack limit t l key v (ps, m, p, i, k, q) = MapsFound.member-found limit t ps l m key p i k ∙ q

module _ (f : Format) (ms : List (Member (List ℕ))) (g : Fit f ms) where
  -- a key that no member has
  pub lacks : (key : List ℕ) → Without key ms → Lacks f key (dict f ms)
  lacks key a = (
    (writing f).options ms g,
    λ v h. (reads f).has_some key v (dict f ms) h
        (sym (member_is f (length (dict f ms)) (dict f ms) (omega arith) key v h) ∙ (writing f).absent ms g key a _ (omega arith)),
  )

  dict-is : Dict f (dict f ms)
  dict-is = (reads f).options-dict (dict f ms) ((writing f).options ms g)

  pub part-dict : Part f (dict f ms)
  part-dict = ((writing f).dict-part (dict f ms) dict-is, (writing f).dict-formed ms g)

-- ---- elements
module _ (f : Format) where
  part-scalar : (v : Scalar) → GoodScalar v → Part f (write_scalar f v)
  part-scalar v g = ((writing f).scalar 7 v g, (writing f).scalar-formed v g)

  pub inner-scalar : (v : Scalar) → GoodScalar v → Inner f (write_scalar f v)
  inner-scalar v g = ((writing f).scalar 6 v g, (writing f).scalar-formed v g)

  pub part-number : (n : ℕ) → InRange n → Part f (number f n)
  part-number n (l, m) = part-scalar (Whole n) (omega arith)

  pub part-string : (t : List ℕ) → GoodText t → Part f (string f t)
  part-string t g = part-scalar (Text t) g

  -- a dict of no member
  none-fit : Fit f []
  none-fit = record { few = omega arith; each = tt; apart = tt }

  pub none : Options f (dict f [])
  none = (writing f).options [] none-fit

  pub none-lacks : (key : List ℕ) → Lacks f key (dict f [])
  none-lacks key = lacks f [] none-fit key tt

  pub none-dict : Dict f (dict f [])
  none-dict = dict-is f [] none-fit

  pub part_none : Part f (dict f [])
  part_none = part-dict f [] none-fit

  -- a dict of one member, whose value is no list and no dict
  module _ (key : List ℕ) (g : GoodText key) (v : Scalar) (h : GoodScalar v) where
    single-fit : Fit f (member key (write_scalar f v) ∷ [])
    single-fit = record {
      few = omega arith;
      each = (record { key = g; value = inner-scalar v h }, tt);
      apart = (tt, tt);
    }

    pub single-has : Has f key (write_scalar f v) (single f key (write_scalar f v))
    single-has = (writing f).has _ single-fit (member key (write_scalar f v)) (inl refl)

    pub single-dict : Dict f (single f key (write_scalar f v))
    single-dict = dict-is f _ single-fit

    pub part-single : Part f (single f key (write_scalar f v))
    part-single = part-dict f _ single-fit

  -- the values of a payload
  pub payload-parts : (p : Payload) → Carried f p → All (Part f) p
  payload-parts p (t, u) =
      ⊎_elim (λ (e : p ≡ []). subst (All (Part f)) (sym e) tt)
      (⊎_elim
      (λ (x : (list : List ℕ) × IsList f list × (p ≡ list ∷ [])).
      let c = subst (All (Formed f)) x.2 u in
      subst (All (Part f)) (sym x.2) (((writing f).list-part x.0 x.1, c.0), tt))
      (λ (x : (list dict : List ℕ) × IsList f list × Dict f dict × (p ≡ list ∷ dict ∷ [])).
      let c = subst (All (Formed f)) x.4 u in
      subst (All (Part f)) (sym x.4) (((writing f).list-part x.0 x.2, c.0), (((writing f).dict-part x.1 x.3, c.1.0), tt))))
      t

  pub payload-short : (p : Payload) → IsPayload f p → length p ≤ 2
  payload-short p t =
      ⊎_elim (λ e. rw e (omega arith)) (⊎_elim (λ x. let e = x.2 in rw e (omega arith)) (λ x. let e = x.4 in rw e (omega arith))) t

-- ---- lists
pub values_of : (f : Format) (es : List (List ℕ)) → All (Part f) es → All (Value f 7) es
values_of f es a = all_map (Part f) (Value f 7) (λ t g. g.0) es a

pub list-formed : (f : Format) (es : List (List ℕ)) → All (Part f) es → Formed f (list f es)
list-formed f es a = (writing f).list-formed es (all_map (Part f) (Formed f) (λ t g. g.1) es a)

-- a list of the format by its own grammar
pub list-in : (f : Format) (limit : ℕ) (es : List (List ℕ)) → length es ≤ 15 → length (list f es) ≤ limit → All (Part f) es
    → IsListOf f limit es (list f es)
list-in Json limit es h l a = (l, values_of Json es a, (writing Json).listed es h)
list-in MsgPack limit es h l a = (l, values_of MsgPack es a, (writing MsgPack).listed es h)

pub made : (f : Format) (es : List (List ℕ)) → length es ≤ 15 → length (list f es) ≤ 2048 → All (Part f) es → Made f es (list f es)
made Json es h l a = ((writing Json).list-some es, list-formed Json es a, list-in Json 2048 es h l a)
made MsgPack es h l a = ((writing MsgPack).list-some es, list-formed MsgPack es a, list-in MsgPack 2048 es h l a)
