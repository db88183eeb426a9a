-- What the contents of operations on copies say of each attribute.
use Rattle.std.specs.Prelude.{codes, pos, option_and_then, if◌then◌else◌}
use Rattle.std.proofs.Common.{◌≡◌, ℕ, ◌<◌, List, [], ◌∷◌, ◌++◌, map, Bool, true, false, not, ◌&&◌, ◌||◌, bytes_eq, Option, Some, None, inl, inr, refl, sym, ap, ◌∙◌, subst}
use Rattle.std.proofs.lemmas.Bool.{and_parts, cases_Bool, false_from_ne_true}
use Rattle.std.proofs.lemmas.List.{append_assoc}
use Rattle.std.proofs.lemmas.Map.Text.{is_eq-slice_cmp}
use Rattle.std.specs.List.{filter_map, list_all, list_any}
use Rattle.std.specs.Option.{option_map_or, option_or}
use Rattle.attribute_kinds.specs.Kinds.{is_content}
use Rattle.m2m_names.specs.Attributes.{attr_short}
use Rattle.m2m_names.specs.declared.attributes.Attr.{Attr}
use Rattle.m2m_names.specs.declared.attributes.Attr.TheVariants.{Csy, Et, Lbl, Lnk, Rn}
use Rattle.m2m_names.specs.declared.types.Ty.{Ty}
use Rattle.m2m_names.specs.declared.types.Ty.TheVariants.{AccessControlPolicy, Ae, Container, ContentInstance, CseBase, Group, PollingChannel, RemoteCse, Subscription, AccessControlPolicyAnnc, AeAnnc, ContainerAnnc, ContentInstanceAnnc, GroupAnnc}
use Rattle.m2m_value.specs.Data.{Data, Entry, null, boolean, number, text, list, object, Elements, Pairs, pairs_of}
use Rattle.m2m_value.specs.View.{entries, member_of, text_or_empty}
use Rattle.policy_eval.specs.Rules.{is_attr_in}
use Rattle.resource_model.proofs.AttributeLemmas.{is_attr-same, is_attr-itself, value-with_value_same, value-with_value_other}
use Rattle.resource_model.specs.Attributes.{Row, is_attr, value_of, with_value}
use Rattle.resource_model.specs.Home.{HomeData}
use Rattle.resource_model.specs.Resource.{ResourceData}
use Rattle.subscription_match.specs.Notices.{reference_of}
use Rattle.tree_model.proofs.ShownLemmas.{with_rows-append}
use Rattle.tree_model.specs.Shown.{members_of, shown_moment, with_rows, wrapped}
use Rattle.announce_copy.specs.Announced.{announceable_attrs, announced_row, announced_value, copy_name, copy_of, copy_type, created_rows, default_value, is_announced, label_rows, name_rows, or_null, renewal_of, renewed_row, renewed_rows}
use Rattle.announce_copy.specs.Copies.{copy_address, parent_address, parent_path}
use Rattle.copy_laws.specs.Following.{IsKept, common_value, value_in_copy}
use Rattle.copy_laws.specs.Replica.{members_in, new_address, said_of, unless_null, value_given, value_left}
use Rattle.copy_laws.proofs.TextLemmas.{not_both}

-- ---- the attributes in a content

entries_again : (es : List Entry) → entries (pairs_of es) ≡ es
entries_again [] = refl
entries_again (e ∷ es) = ap (λ (fs : List Entry). e ∷ fs) (entries_again es)

same_short : (a b : Attr) → bytes_eq (attr_short a) (attr_short b) ≡ is_attr a b
same_short a b = sym (is_eq-slice_cmp (attr_short a) (attr_short b))

member_value : (a : Attr) (rows : List Row) → member_of (attr_short a) (members_of rows) ≡ value_of a rows
member_value a [] = refl
member_value a (row ∷ rows) = rw (same_short a row.0, member_value a rows) refl

-- what the content of some attributes says of one
said : (a : Attr) (ty : Ty) (rows : List Row) → said_of a (Some (wrapped ty rows)) ≡ value_of a rows
said a ty rows = ap (member_of (attr_short a)) (entries_again (members_of rows)) ∙ member_value a rows

-- ---- what can be announced is none of what every copy has

abbrev common_attrs : List Attr
common_attrs = Et ∷ Lbl ∷ Lnk ∷ Rn ∷ []

none_common : (ty : Ty) → list_all (λ b. not (is_attr_in (announceable_attrs ty) b)) common_attrs ≡ true
none_common AccessControlPolicy = refl
none_common Ae = refl
none_common Container = refl
none_common ContentInstance = refl
none_common CseBase = refl
none_common Group = refl
none_common PollingChannel = refl
none_common RemoteCse = refl
none_common Subscription = refl
none_common AccessControlPolicyAnnc = refl
none_common AeAnnc = refl
none_common ContainerAnnc = refl
none_common ContentInstanceAnnc = refl
none_common GroupAnnc = refl

record AreNotAnnounceable (ty : Ty) : Type 0 where
  et : is_attr_in (announceable_attrs ty) Et ≡ false
  lbl : is_attr_in (announceable_attrs ty) Lbl ≡ false
  lnk : is_attr_in (announceable_attrs ty) Lnk ≡ false
  rn : is_attr_in (announceable_attrs ty) Rn ≡ false

isnt : (b : Bool) → not b ≡ true → b ≡ false
isnt true t = (let bad : false ≡ true = t in cc)
isnt false t = refl

not_announceable : (ty : Ty) → AreNotAnnounceable ty
not_announceable ty =
    let can = λ (b : Attr). is_attr_in (announceable_attrs ty) b in
    let first = and_parts (not (can Et)) _ (none_common ty) in
    let second = and_parts (not (can Lbl)) _ first.1 in
    let third = and_parts (not (can Lnk)) _ second.1 in
    let fourth = and_parts (not (can Rn)) _ third.1 in
    record {
      et = isnt (can Et) first.0;
      lbl = isnt (can Lbl) second.0;
      lnk = isnt (can Lnk) third.0;
      rn = isnt (can Rn) fourth.0;
    }

-- one that can be announced isn't this one, which can't
other_attr : (ty : Ty) (a b : Attr) → is_attr_in (announceable_attrs ty) a ≡ true → is_attr_in (announceable_attrs ty) b ≡ false → is_attr a b ≡ false
other_attr ty a b can cannot = false_from_ne_true _ (λ t.
    not_both (is_attr_in (announceable_attrs ty) a) can (ap (is_attr_in (announceable_attrs ty)) (is_attr-same a b t) ∙ cannot))

no_common_value : (home : HomeData) (r : ResourceData) (a : Attr) → is_attr_in (announceable_attrs r.ty) a ≡ true → common_value home r a ≡ None
no_common_value home r a can =
    let none = not_announceable r.ty in
    let et : is_attr a Et ≡ false = other_attr r.ty a Et can none.et in
    let lbl : is_attr a Lbl ≡ false = other_attr r.ty a Lbl can none.lbl in
    let lnk : is_attr a Lnk ≡ false = other_attr r.ty a Lnk can none.lnk in
    let rn : is_attr a Rn ≡ false = other_attr r.ty a Rn can none.rn in
    rw (et, lbl, lnk, rn) refl

-- ---- rows

or_none : (o : Option Data) → option_or o None ≡ o
or_none None = refl
or_none (Some d) = refl

other_row : (a b : Attr) (d : Data) (rows : List Row) → is_attr a b ≡ false → value_of a (with_value b d rows) ≡ value_of a rows
other_row a b d rows f = value-with_value_other b a d rows (λ e. not_both (is_attr a b) (ap (λ (c : Attr). is_attr c b) e ∙ is_attr-itself b) f)

own_row : (a b : Attr) (d : Data) (rows : List Row) → is_attr a b ≡ true → value_of a (with_value b d rows) ≡ Some d
own_row a b d rows t = ap (λ (c : Attr). value_of c (with_value b d rows)) (is_attr-same a b t) ∙ value-with_value_same b d rows

-- whatever the test says
either_none : (c : Bool) (o : Option Data) → (if c then option_or None o else o) ≡ o
either_none true o = refl
either_none false o = refl

either_same : (c : Bool) (o : Option Data) → (if c then o else o) ≡ o
either_same true o = refl
either_same false o = refl

module _ (r : ResourceData) where
  -- what is announced, put into others
  announced_among : (a : Attr) (attrs : List Attr) (rows : List Row) → value_of a (with_rows (filter_map (announced_row r) attrs) rows) ≡ (if is_attr_in attrs a then option_or (announced_value r a) (value_of a rows) else value_of a rows)
  announced_among a [] rows = refl
  announced_among a (b ∷ attrs) rows = by (announced_among a attrs) (announced_value r b) refl
    where
      by : ((more : List Row) → value_of a (with_rows (filter_map (announced_row r) attrs) more) ≡ (if is_attr_in attrs a then option_or (announced_value r a) (value_of a more) else value_of a more)) → (o : Option Data) → announced_value r b ≡ o → value_of a (with_rows (filter_map (announced_row r) (b ∷ attrs)) rows) ≡ (if is_attr_in (b ∷ attrs) a then option_or (announced_value r a) (value_of a rows) else value_of a rows)
      by later None none = elim (cases_Bool (is_attr a b)) [
        | inl t ↦
            let own : announced_value r a ≡ None = ap (announced_value r) (is_attr-same a b t) ∙ none in
            rw (none, t) (later rows ∙ ap (λ (o : Option Data). if is_attr_in attrs a then option_or o (value_of a rows) else value_of a rows) own ∙ either_none (is_attr_in attrs a) (value_of a rows) ∙ sym (ap (λ (o : Option Data). option_or o (value_of a rows)) own))
        | inr f ↦ rw (none, f) (later rows)
      ]
      by later (Some d) some = elim (cases_Bool (is_attr a b)) [
        | inl t ↦
            let own : announced_value r a ≡ Some d = ap (announced_value r) (is_attr-same a b t) ∙ some in
            let here : value_of a (with_value b d rows) ≡ Some d = own_row a b d rows t in
            rw (some, t) (
            later (with_value b d rows)
            ∙ ap (λ (o : Option Data). if is_attr_in attrs a then option_or o (value_of a (with_value b d rows)) else value_of a (with_value b d rows)) own
            ∙ ap (λ (o : Option Data). if is_attr_in attrs a then Some d else o) here
            ∙ either_same (is_attr_in attrs a) (Some d)
            ∙ sym (ap (λ (o : Option Data). option_or o (value_of a rows)) own))
        | inr f ↦
            rw (some, f) (
            later (with_value b d rows)
            ∙ ap (λ (o : Option Data). if is_attr_in attrs a then option_or (announced_value r a) o else o) (other_row a b d rows f))
      ]

  -- each of these renewed
  renewed_among : (a : Attr) (attrs : List Attr) (rows : List Row) → value_of a (with_rows (map (renewed_row r) attrs) rows) ≡ (if is_attr_in attrs a then Some (or_null (announced_value r a)) else value_of a rows)
  renewed_among a [] rows = refl
  renewed_among a (b ∷ attrs) rows =
      let d = or_null (announced_value r b) in
      elim (cases_Bool (is_attr a b)) [
        | inl t ↦
            let own : or_null (announced_value r a) ≡ d = ap (λ (c : Attr). or_null (announced_value r c)) (is_attr-same a b t) in
            let here : value_of a (with_value b d rows) ≡ Some (or_null (announced_value r a)) = own_row a b d rows t ∙ ap (λ (x : Data). Some x) (sym own) in
            rw t (
            renewed_among a attrs (with_value b d rows)
            ∙ ap (λ (o : Option Data). if is_attr_in attrs a then Some (or_null (announced_value r a)) else o) here
            ∙ either_same (is_attr_in attrs a) (Some (or_null (announced_value r a))))
        | inr f ↦
            rw f (
            renewed_among a attrs (with_value b d rows)
            ∙ ap (λ (o : Option Data). if is_attr_in attrs a then Some (or_null (announced_value r a)) else o) (other_row a b d rows f))
      ]

-- ---- a Create

-- values none of which is null
all_content : (o : Option Data) → ((d : Data) → o ≡ Some d → is_content d ≡ true) → option_and_then unless_null o ≡ o
all_content None each = refl
all_content (Some d) each = rw (each d refl) refl

back_again : (o : Option Data) → ((d : Data) → o ≡ Some d → is_content d ≡ true) → unless_null (or_null o) ≡ o
back_again None each = refl
back_again (Some d) each = rw (each d refl) refl

moment_content : (n : ℕ) → is_content (shown_moment n) ≡ true
unfolding shown_moment
moment_content n = refl

default_content : (a : Attr) (d : Data) → default_value a ≡ Some d → is_content d ≡ true
default_content a d e = elim (cases_Bool (is_attr a Csy)) [
  | inl t ↦ (let one : Some (number (pos 1)) ≡ Some d = rw t at e in let is : number (pos 1) ≡ d = cc in ap is_content (sym is))
  | inr f ↦ (let none : None ≡ Some d = rw f at e in cc)
]

announced_content : (r : ResourceData) → IsKept r → (a : Attr) (d : Data) → announced_value r a ≡ Some d → is_content d ≡ true
announced_content r kept a d e = elim (cases_Bool (is_announced r a)) [
  | inl t ↦ by (value_of a r.attrs) refl (rw t at e)
  | inr f ↦ (let none : None ≡ Some d = rw f at e in cc)
]
  where
    by : (o : Option Data) → value_of a r.attrs ≡ o → option_or (value_of a r.attrs) (default_value a) ≡ Some d → is_content d ≡ true
    by None none is = default_content a d (sym (ap (λ (o : Option Data). option_or o (default_value a)) none) ∙ is)
    by (Some v) some is = kept.values a d (some ∙ sym (ap (λ (o : Option Data). option_or o (default_value a)) some) ∙ is)

module _ (home : HomeData) where
  abbrev front_rows : ResourceData → List Row
  front_rows r = (Et, shown_moment r.et) ∷ label_rows r ++ name_rows home r

  common_among : (r : ResourceData) (a : Attr) → value_of a (with_rows (front_rows r) []) ≡ common_value home r a
  common_among r a = by (value_of Lbl r.attrs) refl
    where
      by : (o : Option Data) → value_of Lbl r.attrs ≡ o → value_of a (with_rows (front_rows r) []) ≡ common_value home r a
      by None none = elim (cases_Bool (is_attr a Lbl)) [
        | inl t ↦ rw (is_attr-same a Lbl t, none) refl
        | inr f ↦ rw (none, f) refl
      ]
      by (Some d) some = rw some refl

  -- what is created says of an attribute what the copy has
  created_value : (r : ResourceData) (a : Attr) → value_of a (created_rows home r) ≡ value_in_copy home r a
  created_value r a =
      let attrs = announceable_attrs r.ty in
      ap (value_of a) (with_rows-append (front_rows r) (filter_map (announced_row r) attrs) [])
      ∙ announced_among r a attrs (with_rows (front_rows r) [])
      ∙ ap (λ (o : Option Data). if is_attr_in attrs a then option_or (announced_value r a) o else o) (common_among r a)
      ∙ last
    where
      last : (if is_attr_in (announceable_attrs r.ty) a then option_or (announced_value r a) (common_value home r a) else common_value home r a) ≡ value_in_copy home r a
      last = elim (cases_Bool (is_attr_in (announceable_attrs r.ty) a)) [
        | inl t ↦
            ap (λ b. if b then option_or (announced_value r a) (common_value home r a) else common_value home r a) t
            ∙ ap (option_or (announced_value r a)) (no_common_value home r a t)
            ∙ or_none (announced_value r a)
            ∙ sym (ap (λ b. if b then announced_value r a else common_value home r a) t)
        | inr f ↦
            ap (λ b. if b then option_or (announced_value r a) (common_value home r a) else common_value home r a) f
            ∙ sym (ap (λ b. if b then announced_value r a else common_value home r a) f)
      ]

  common_content : (r : ResourceData) → IsKept r → (a : Attr) (d : Data) → common_value home r a ≡ Some d → is_content d ≡ true
  common_content r kept a d e = elim (cases_Bool (is_attr a Et)) [
    | inl t ↦ (let both : Some (shown_moment r.et) ≡ Some d = rw t at e in let is : shown_moment r.et ≡ d = cc in ap is_content (sym is) ∙ moment_content r.et)
    | inr et ↦ elim (cases_Bool (is_attr a Lbl)) [
      | inl t ↦ kept.values Lbl d (rw (et, t) at e)
      | inr lbl ↦ elim (cases_Bool (is_attr a Lnk)) [
        | inl t ↦ (let both : Some (text (reference_of home r)) ≡ Some d = rw (et, lbl, t) at e in let is : text (reference_of home r) ≡ d = cc in ap is_content (sym is))
        | inr lnk ↦ elim (cases_Bool (is_attr a Rn)) [
          | inl t ↦ (let both : Some (text (copy_name r.ty r.number)) ≡ Some d = rw (et, lbl, lnk, t) at e in let is : text (copy_name r.ty r.number) ≡ d = cc in ap is_content (sym is))
          | inr rn ↦ (let none : None ≡ Some d = rw (et, lbl, lnk, rn) at e in cc)
        ]
      ]
    ]
  ]

  copied_content : (r : ResourceData) → IsKept r → (a : Attr) (d : Data) → value_in_copy home r a ≡ Some d → is_content d ≡ true
  copied_content r kept a d e = elim (cases_Bool (is_attr_in (announceable_attrs r.ty) a)) [
    | inl t ↦ announced_content r kept a d (sym (ap (λ b. if b then announced_value r a else common_value home r a) t) ∙ e)
    | inr f ↦ common_content r kept a d (sym (ap (λ b. if b then announced_value r a else common_value home r a) f) ∙ e)
  ]

  -- what the Create of a copy gives
  pub created_gives : (r : ResourceData) → IsKept r → (a : Attr) → value_given a (Some (copy_of home r)) ≡ value_in_copy home r a
  created_gives r kept a =
      ap (option_and_then unless_null) (said a (copy_type r.ty) (created_rows home r) ∙ created_value r a)
      ∙ all_content (value_in_copy home r a) (copied_content r kept a)

  -- it makes the copy's address
  pub created_there : (peer : List ℕ) (r : ResourceData) → IsKept r → new_address (parent_address home peer r) (Some (copy_of home r)) ≡ copy_address home peer r
  created_there peer r kept =
      let none = not_announceable r.ty in
      let name : value_in_copy home r Rn ≡ Some (text (copy_name r.ty r.number)) = ap (λ b. if b then announced_value r Rn else common_value home r Rn) none.rn in
      ap (λ (o : Option Data). parent_address home peer r ++ codes "/" ++ text_or_empty o) (created_gives r kept Rn ∙ name)
      ∙ ap (λ (front : List ℕ). front ++ copy_name r.ty r.number) (append_assoc peer (parent_path home r) (codes "/"))
      ∙ append_assoc peer (parent_path home r ++ codes "/") (copy_name r.ty r.number)

  -- ---- an Update

  abbrev plain_renewed : ResourceData → Attr → Option Data
  plain_renewed r a =
      if is_attr a Et then Some (shown_moment r.et)
      else (if is_attr a Lbl then Some (or_null (value_of Lbl r.attrs)) else None)

  renewed_value : (r : ResourceData) (a : Attr) → value_of a (renewed_rows r) ≡ (if is_attr_in (announceable_attrs r.ty) a then Some (or_null (announced_value r a)) else plain_renewed r a)
  renewed_value r a = renewed_among r a (announceable_attrs r.ty) ((Et, shown_moment r.et) ∷ (Lbl, or_null (value_of Lbl r.attrs)) ∷ [])

  -- what an Update leaves of a copy of an earlier state
  pub renewal_leaves : (r s : ResourceData) → IsKept s → r.ty ≡ s.ty → r.number ≡ s.number → (a : Attr) → value_left a (Some (renewal_of s)) (value_in_copy home r a) ≡ value_in_copy home s a
  renewal_leaves r s kept ty same_number a =
      ap (λ (o : Option Data). option_map_or unless_null o (value_in_copy home r a)) (said a (copy_type s.ty) (renewed_rows s) ∙ renewed_value s a)
      ∙ by_kind
    where
      same_can : is_attr_in (announceable_attrs r.ty) a ≡ is_attr_in (announceable_attrs s.ty) a
      same_can = ap (λ (t : Ty). is_attr_in (announceable_attrs t) a) ty

      same_reference : reference_of home r ≡ reference_of home s
      same_reference = ap (λ (t : Ty). reference_of home (record r { ty = t })) ty ∙ ap (λ (n : ℕ). reference_of home (record s { number = n })) same_number

      same_copy_name : copy_name r.ty r.number ≡ copy_name s.ty s.number
      same_copy_name = ap (λ (t : Ty). copy_name t r.number) ty ∙ ap (copy_name s.ty) same_number

      plain : is_attr_in (announceable_attrs s.ty) a ≡ false → option_map_or unless_null (plain_renewed s a) (common_value home r a) ≡ common_value home s a
      plain f = elim (cases_Bool (is_attr a Et)) [
        | inl t ↦ rw (t, moment_content s.et) refl
        | inr et ↦ elim (cases_Bool (is_attr a Lbl)) [
          | inl t ↦ rw (et, t) (back_again (value_of Lbl s.attrs) (kept.values Lbl))
          | inr lbl ↦ rw (et, lbl, same_reference, same_copy_name) refl
        ]
      ]

      by_kind : option_map_or unless_null (if is_attr_in (announceable_attrs s.ty) a then Some (or_null (announced_value s a)) else plain_renewed s a) (value_in_copy home r a) ≡ value_in_copy home s a
      by_kind = elim (cases_Bool (is_attr_in (announceable_attrs s.ty) a)) [
        | inl t ↦
            ap (λ b. option_map_or unless_null (if b then Some (or_null (announced_value s a)) else plain_renewed s a) (value_in_copy home r a)) t
            ∙ back_again (announced_value s a) (announced_content s kept a)
            ∙ sym (ap (λ b. if b then announced_value s a else common_value home s a) t)
        | inr f ↦
            let old : value_in_copy home r a ≡ common_value home r a = ap (λ b. if b then announced_value r a else common_value home r a) (same_can ∙ f) in
            ap (λ b. option_map_or unless_null (if b then Some (or_null (announced_value s a)) else plain_renewed s a) (value_in_copy home r a)) f
            ∙ ap (option_map_or unless_null (plain_renewed s a)) old
            ∙ plain f
            ∙ sym (ap (λ b. if b then announced_value s a else common_value home s a) f)
      ]
