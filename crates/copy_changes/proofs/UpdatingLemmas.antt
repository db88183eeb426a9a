-- What an Update leaves of the values that copies have.
use Rattle.std.specs.Prelude.{if◌then◌else◌, option_and_then, pos, negsuc, map, unwrap_or, ◌==◌}
use Rattle.std.proofs.Common.{◌≡◌, ℕ, List, [], ◌∷◌, ◌++◌, length, Bool, true, false, not, ◌&&◌, ◌||◌, bytes_eq, Option, Some, None, is_some, inl, inr, refl, sym, ap, ◌∙◌, subst}
use Rattle.std.proofs.lemmas.Bool.{and_from, and_parts, cases_Bool, false_from_ne_true, or_cases, or_right}
use Rattle.std.proofs.lemmas.Option.{same_Some}
use Rattle.std.specs.Int.{is_in_range}
use Rattle.std.specs.List.{cons_option, list_all, list_any}
use Rattle.std.specs.Option.{option_map_or, option_or}
use Rattle.m2m_names.specs.Attributes.{attr_of_short, attr_short}
use Rattle.m2m_names.specs.declared.attributes.Attr.{Attr}
use Rattle.m2m_names.specs.declared.attributes.Attr.TheVariants.{Aa, Acpi, Cnm, Csy, Et, Lbl, Lnk, Macp, Mid, Mt, Mtv, Pv, Pvs, Rn, St}
use Rattle.m2m_names.specs.declared.types.Ty.{Ty}
use Rattle.m2m_names.specs.declared.types.Ty.TheVariants.{AccessControlPolicy, Ae, Container, ContentInstance, CseBase, Group, PollingChannel, RemoteCse, Subscription, AccessControlPolicyAnnc, AeAnnc, ContainerAnnc, ContentInstanceAnnc, GroupAnnc}
use Rattle.m2m_value.specs.Data.{Data, Entry, null, boolean, number, text, list, object, elements_of}
use Rattle.m2m_value.specs.Node.{AreSorted}
use Rattle.m2m_value.specs.Shapes.{as_count, is_text_of}
use Rattle.m2m_value.specs.View.{member_of}
use Rattle.policy_eval.specs.Rules.{is_attr_in, listed_in}
use Rattle.resource_model.proofs.AttributeLemmas.{is_attr-same, is_attr-itself, value-with_value_same, value-with_value_other}
use Rattle.resource_model.specs.Attributes.{Row, count_at, is_attr, value_of, with_value}
use Rattle.resource_model.specs.Home.{HomeData}
use Rattle.resource_model.specs.Resource.{ResourceData, is_ty}
use Rattle.tree_model.proofs.ShownLemmas.{with_rows-append}
use Rattle.tree_model.specs.Shown.{shown_moment, with_rows}
use Rattle.attribute_rules.proofs.ValueLemmas.{here, value_edited}
use Rattle.attribute_rules.specs.Admission.{is_named}
use Rattle.attribute_rules.specs.Contents.{does_clear, edit_in, edited, value_updated}
use Rattle.attribute_kinds.specs.Kinds.{has_kind}
use Rattle.attribute_kinds.specs.declared.kinds.Kind.{Kind}
use Rattle.attribute_kinds.specs.declared.kinds.Kind.TheVariants.{OneOf}
use Rattle.attribute_rules.specs.Kinds.{are_kinds, is_attr_kind, kind_of}
use Rattle.announce_copy.specs.Announced.{always_announced, always_followed, announceable_attrs, announced_value, default_value, does_renew, is_announced, is_followed, lists_attr}
use Rattle.copy_laws.proofs.KeptLemmas.{its_kind, value_passes}
use Rattle.copy_laws.proofs.TextLemmas.{not_both}
use Rattle.copy_laws.specs.Following.{common_value, value_in_copy}
use Rattle.entity_model.specs.Entity.{EntityData}
use Rattle.request_rules.specs.Groups.{MembershipData, abandon_member, are_validated, does_edit_members, group_rows, member_rows, members_edited, members_kept, membership_edited, type_kept}
use Rattle.request_rules.specs.Policies.{link_row, listed}
use Rattle.create_delete.specs.Changes.{attrs_of}
use Rattle.create_delete.specs.Changing.{expiry_after, own_rows, state_row, updated_resource}

-- ---- rows that an Update puts besides

-- they name no such attribute
abbrev names_it : Attr → List Row → Bool
names_it a rows = list_any (λ row. is_attr a row.0) rows

passes_rows : (a : Attr) (more rows : List Row) → names_it a more ≡ false → value_of a (with_rows more rows) ≡ value_of a rows
passes_rows a [] rows none = refl
passes_rows a (row ∷ more) rows none = elim (cases_Bool (is_attr a row.0)) [
  | inl t ↦ (let bad : true ≡ false = rw t at none in cc)
  | inr f ↦
      passes_rows a more (with_value row.0 row.1 rows) (rw f at none)
      ∙ value-with_value_other row.0 a row.1 rows (λ e. not_both (is_attr a row.0) (ap (λ (c : Attr). is_attr c row.0) e ∙ is_attr-itself row.0) f)
]

names-append : (a : Attr) (xs ys : List Row) → names_it a xs ≡ false → names_it a ys ≡ false → names_it a (xs ++ ys) ≡ false
names-append a [] ys none also = also
names-append a (row ∷ xs) ys none also = elim (cases_Bool (is_attr a row.0)) [
  | inl t ↦ (let bad : true ≡ false = rw t at none in cc)
  | inr f ↦ rw f (names-append a xs ys (rw f at none) also)
]

-- the attributes that it puts so
abbrev own_attrs : List Attr
own_attrs = Acpi ∷ Cnm ∷ Csy ∷ Macp ∷ Mid ∷ Mt ∷ Mtv ∷ St ∷ []

module _ (e : EntityData) (es : List Entry) (r : ResourceData) where
  abbrev put : List Row
  put = own_rows e es r ++ link_row e es Acpi ++ link_row e es Macp

  record IsNoneOf (a : Attr) : Type 0 where
    acpi : is_attr a Acpi ≡ false
    cnm : is_attr a Cnm ≡ false
    csy : is_attr a Csy ≡ false
    macp : is_attr a Macp ≡ false
    mid : is_attr a Mid ≡ false
    mt : is_attr a Mt ≡ false
    mtv : is_attr a Mtv ≡ false
    st : is_attr a St ≡ false

  no_link : (a b : Attr) → is_attr a b ≡ false → names_it a (link_row e es b) ≡ false
  no_link a b f = elim (cases_Bool (length (listed b es) == 0)) [
    | inl t ↦ rw t refl
    | inr n ↦ rw (n, f) refl
  ]

  no_state : (a : Attr) → is_attr a St ≡ false → names_it a (state_row r) ≡ false
  no_state a f = elim (cases_Bool (is_ty r.ty Container)) [
    | inl t ↦ rw (t, f) refl
    | inr n ↦ rw n refl
  ]

  no_member : (a : Attr) → IsNoneOf a → (m : Option MembershipData) → names_it a (group_rows e m) ≡ false
  no_member a none None = refl
  no_member a none (Some m) = rw (none.mid, none.mt, none.csy, none.cnm, none.mtv) refl

  none_put : (a : Attr) → IsNoneOf a → names_it a put ≡ false
  none_put a none =
      names-append a (own_rows e es r ++ link_row e es Acpi) (link_row e es Macp)
      (names-append a (own_rows e es r) (link_row e es Acpi)
      (names-append a (state_row r) (group_rows e (membership_edited r es)) (no_state a none.st) (no_member a none (membership_edited r es)))
      (no_link a Acpi none.acpi))
      (no_link a Macp none.macp)

-- ---- attributes that aren't named

later : (p q : Bool) → (p || q) ≡ false → q ≡ false
later true q none = (let bad : true ≡ false = none in cc)
later false q none = none

unnamed_in : (t : ResourceData) (a : Attr) (xs : List Entry) → is_followed t a ≡ true → does_renew (attrs_of xs) t ≡ false → member_of (attr_short a) xs ≡ None
unnamed_in t a [] followed none = refl
unnamed_in t a (x ∷ xs) followed none = elim (cases_Bool (bytes_eq (attr_short a) x.0)) [
  | inl own ↦
      let named : attr_of_short x.0 ≡ Some a = here a x.0 own in
      let first : (is_followed t a || list_any (is_followed t) (attrs_of xs)) ≡ false = ap (λ (o : Option Attr). list_any (is_followed t) (cons_option o (attrs_of xs))) (sym named) ∙ none in
      let bad : true ≡ false = sym (ap (λ b. b || list_any (is_followed t) (attrs_of xs)) followed) ∙ first in
      cc
  | inr other ↦ rw other (by (unnamed_in t a xs followed) (attr_of_short x.0) refl)
]
  where
    by : (does_renew (attrs_of xs) t ≡ false → member_of (attr_short a) xs ≡ None) → (o : Option Attr) → attr_of_short x.0 ≡ o → member_of (attr_short a) xs ≡ None
    by rest None is = rest (ap (λ (o : Option Attr). list_any (is_followed t) (cons_option o (attrs_of xs))) (sym is) ∙ none)
    by rest (Some b) is = rest (later (is_followed t b) _ (ap (λ (o : Option Attr). list_any (is_followed t) (cons_option o (attrs_of xs))) (sym is) ∙ none))

-- what is announced is followed
followed_from : (t : ResourceData) (a : Attr) → is_announced t a ≡ true → is_followed t a ≡ true
followed_from t a announced = elim (or_cases (is_attr_in always_announced a) (lists_attr t a) announced) [
  | inl always ↦ elim (cases_Bool (is_attr a Pv)) [
    | inl pv ↦ ap (is_followed t) (is_attr-same a Pv pv)
    | inr other ↦
        let pvs : (is_attr a Pvs || false) ≡ true = rw other at always in
        ap (is_followed t) (is_attr-same a Pvs (plain (is_attr a Pvs) pvs))
  ]
  | inr listed ↦ or_right _ _ listed
]
  where
    plain : (b : Bool) → (b || false) ≡ true → b ≡ true
    plain true t = refl
    plain false t = t

-- ---- what can be announced

-- neither these, nor the time of expiry
abbrev kept_apart : List Attr
kept_apart = Acpi ∷ Cnm ∷ Et ∷ Macp ∷ Mt ∷ Mtv ∷ St ∷ []

none_apart : (ty : Ty) → list_all (λ b. not (is_attr_in (announceable_attrs ty) b)) kept_apart ≡ true
none_apart AccessControlPolicy = refl
none_apart Ae = refl
none_apart Container = refl
none_apart ContentInstance = refl
none_apart CseBase = refl
none_apart Group = refl
none_apart PollingChannel = refl
none_apart RemoteCse = refl
none_apart Subscription = refl
none_apart AccessControlPolicyAnnc = refl
none_apart AeAnnc = refl
none_apart ContainerAnnc = refl
none_apart ContentInstanceAnnc = refl
none_apart GroupAnnc = refl

all_apart : (ty : Ty) (a : Attr) (bs : List Attr) → is_attr_in (announceable_attrs ty) a ≡ true → list_all (λ b. not (is_attr_in (announceable_attrs ty) b)) bs ≡ true → list_all (λ b. not (is_attr a b)) bs ≡ true
all_apart ty a [] can none = refl
all_apart ty a (b ∷ bs) can none =
    let both = and_parts (not (is_attr_in (announceable_attrs ty) b)) (list_all (λ c. not (is_attr_in (announceable_attrs ty) c)) bs) none in
    and_from _ _ (ap not (false_from_ne_true (is_attr a b) (λ t.
    not_both (not (is_attr_in (announceable_attrs ty) b)) both.0 (ap (λ (c : Attr). not (is_attr_in (announceable_attrs ty) c)) (sym (is_attr-same a b t)) ∙ ap not can)))) (all_apart ty a bs can both.1)

isnt : (b : Bool) → not b ≡ true → b ≡ false
isnt true t = (let bad : false ≡ true = t in cc)
isnt false t = refl

record IsApart (a : Attr) : Type 0 where
  acpi : is_attr a Acpi ≡ false
  cnm : is_attr a Cnm ≡ false
  et : is_attr a Et ≡ false
  macp : is_attr a Macp ≡ false
  mt : is_attr a Mt ≡ false
  mtv : is_attr a Mtv ≡ false
  st : is_attr a St ≡ false

apart_from : (ty : Ty) (a : Attr) → is_attr_in (announceable_attrs ty) a ≡ true → IsApart a
apart_from ty a can =
    let all = all_apart ty a kept_apart can (none_apart ty) in
    let no = λ (b : Attr). not (is_attr a b) in
    let p1 = and_parts (no Acpi) _ all in
    let p2 = and_parts (no Cnm) _ p1.1 in
    let p3 = and_parts (no Et) _ p2.1 in
    let p4 = and_parts (no Macp) _ p3.1 in
    let p5 = and_parts (no Mt) _ p4.1 in
    let p6 = and_parts (no Mtv) _ p5.1 in
    let p7 = and_parts (no St) _ p6.1 in
    record {
      acpi = isnt (is_attr a Acpi) p1.0;
      cnm = isnt (is_attr a Cnm) p2.0;
      et = isnt (is_attr a Et) p3.0;
      macp = isnt (is_attr a Macp) p4.0;
      mt = isnt (is_attr a Mt) p5.0;
      mtv = isnt (is_attr a Mtv) p6.0;
      st = isnt (is_attr a St) p7.0;
    }

-- ---- the strategy of a group

-- a count of its kind, or none
counted : (d : Data) → is_some (as_count d) ≡ true → number (pos (unwrap_or (as_count d) 1)) ≡ d
counted null some = (let bad : false ≡ true = some in cc)
counted (boolean b) some = (let bad : false ≡ true = some in cc)
counted (number (pos n)) some = refl
counted (number (negsuc n)) some = (let bad : false ≡ true = some in cc)
counted (text s) some = (let bad : false ≡ true = some in cc)
counted (list xs) some = (let bad : false ≡ true = some in cc)
counted (object ps) some = (let bad : false ≡ true = some in cc)

csy_kind : (ty : Ty) (kind : Kind) (d : Data) → kind_of ty Csy ≡ Some kind → has_kind kind d ≡ true → is_some (as_count d) ≡ true
csy_kind ty kind d is has = by ty is
  where
    one : Some (OneOf 1 3) ≡ Some kind → is_some (as_count d) ≡ true
    one same = some_count (as_count d) (ap (λ k. has_kind k d) (same_Some (OneOf 1 3) kind same) ∙ has)
      where
        some_count : (o : Option ℕ) → option_map_or (is_in_range 1 3) o false ≡ true → is_some o ≡ true
        some_count None t = t
        some_count (Some n) t = refl

    by : (u : Ty) → kind_of u Csy ≡ Some kind → is_some (as_count d) ≡ true
    by AccessControlPolicy same = (let bad : None ≡ Some kind = same in cc)
    by Ae same = (let bad : None ≡ Some kind = same in cc)
    by Container same = (let bad : None ≡ Some kind = same in cc)
    by ContentInstance same = (let bad : None ≡ Some kind = same in cc)
    by CseBase same = (let bad : None ≡ Some kind = same in cc)
    by Group same = one same
    by PollingChannel same = (let bad : None ≡ Some kind = same in cc)
    by RemoteCse same = (let bad : None ≡ Some kind = same in cc)
    by Subscription same = (let bad : None ≡ Some kind = same in cc)
    by AccessControlPolicyAnnc same = (let bad : None ≡ Some kind = same in cc)
    by AeAnnc same = (let bad : None ≡ Some kind = same in cc)
    by ContainerAnnc same = (let bad : None ≡ Some kind = same in cc)
    by ContentInstanceAnnc same = (let bad : None ≡ Some kind = same in cc)
    by GroupAnnc same = one same

-- what a group keeps then
member_strategy : (e : EntityData) (m : MembershipData) (rows : List Row) → value_of Csy (with_rows (member_rows e m) rows) ≡ Some (number (pos m.strategy))
member_strategy e m rows =
    passes_rows Csy ((Cnm, number (pos (length (members_kept e m)))) ∷ (Mtv, boolean (are_validated e m)) ∷ []) (with_value Csy (number (pos m.strategy)) (with_rows ((Mid, list (elements_of (map text (members_kept e m)))) ∷ (Mt, number (pos (type_kept e m))) ∷ []) rows)) refl
    ∙ value-with_value_same Csy (number (pos m.strategy)) (with_rows ((Mid, list (elements_of (map text (members_kept e m)))) ∷ (Mt, number (pos (type_kept e m))) ∷ []) rows)

-- ---- values

module _ (home : HomeData) (e : EntityData) (es : List Entry) (r : ResourceData) (sorted : AreSorted es) (kinds : are_kinds r ≡ true) (unfollowed : does_renew (attrs_of es) (updated_resource e es r) ≡ false) where
  abbrev t : ResourceData
  t = updated_resource e es r

  edited_same : (a : Attr) → is_followed t a ≡ true → is_attr a Et ≡ false → value_of a (edited (edit_in es) r.attrs) ≡ value_of a r.attrs
  edited_same a followed et =
      value_edited a es r.attrs sorted et
      ∙ ap (λ (o : Option Data). option_map_or (λ d. if does_clear a d then None else Some d) o (value_of a r.attrs)) (unnamed_in t a es followed unfollowed)

  same_value : (a : Attr) → is_followed t a ≡ true → is_attr a Et ≡ false → IsNoneOf e es r a → value_of a t.attrs ≡ value_of a r.attrs
  same_value a followed et none =
      passes_rows a (put e es r) (edited (edit_in es) r.attrs) (none_put e es r a none) ∙ edited_same a followed et

  same_aa : value_of Aa t.attrs ≡ value_of Aa r.attrs
  same_aa = same_value Aa refl refl (record { acpi = refl; cnm = refl; csy = refl; macp = refl; mid = refl; mt = refl; mtv = refl; st = refl })

  same_lists : (a : Attr) → lists_attr t a ≡ lists_attr r a
  same_lists a = ap (λ (o : Option Data). list_any (is_text_of (bytes_eq (attr_short a))) (listed_in o)) same_aa

  same_announced : (a : Attr) → is_announced t a ≡ is_announced r a
  same_announced a = ap (λ b. is_attr_in always_announced a || b) (same_lists a)

  -- the strategy: as it was, or what counts for none
  csy_value : is_followed t Csy ≡ true → option_or (value_of Csy r.attrs) (default_value Csy) ≡ option_or (value_of Csy t.attrs) (default_value Csy)
  csy_value followed = elim (cases_Bool (does_edit_members r es)) [
    | inl edits ↦
        let m = members_edited r es in
        let kept : membership_edited r es ≡ Some m = rw edits refl in
        let now : value_of Csy t.attrs ≡ Some (number (pos m.strategy)) = put_strategy m kept in
        strategy_was (value_of Csy r.attrs) refl ∙ ap (λ (o : Option Data). option_or o (default_value Csy)) (sym now)
    | inr spares ↦
        let kept : membership_edited r es ≡ None = rw spares refl in
        let now : value_of Csy t.attrs ≡ value_of Csy r.attrs = passes_rows Csy (put e es r) (edited (edit_in es) r.attrs) (nothing_put kept) ∙ edited_same Csy followed refl in
        ap (λ (o : Option Data). option_or o (default_value Csy)) (sym now)
  ]
    where
      nothing_put : membership_edited r es ≡ None → names_it Csy (put e es r) ≡ false
      nothing_put kept =
          names-append Csy (own_rows e es r ++ link_row e es Acpi) (link_row e es Macp)
          (names-append Csy (own_rows e es r) (link_row e es Acpi)
          (names-append Csy (state_row r) (group_rows e (membership_edited r es)) (no_state e es r Csy refl) (ap (λ (m : Option MembershipData). names_it Csy (group_rows e m)) kept))
          (no_link e es r Csy Acpi refl))
          (no_link e es r Csy Macp refl)

      put_strategy : (m : MembershipData) → membership_edited r es ≡ Some m → value_of Csy t.attrs ≡ Some (number (pos m.strategy))
      put_strategy m kept =
          let base = edited (edit_in es) r.attrs in
          let under = with_rows (state_row r) base in
          ap (value_of Csy) (
          with_rows-append (own_rows e es r ++ link_row e es Acpi) (link_row e es Macp) base
          ∙ ap (with_rows (link_row e es Macp)) (with_rows-append (own_rows e es r) (link_row e es Acpi) base ∙ ap (with_rows (link_row e es Acpi)) (with_rows-append (state_row r) (group_rows e (membership_edited r es)) base)))
          ∙ passes_rows Csy (link_row e es Macp) (with_rows (link_row e es Acpi) (with_rows (group_rows e (membership_edited r es)) under)) (no_link e es r Csy Macp refl)
          ∙ passes_rows Csy (link_row e es Acpi) (with_rows (group_rows e (membership_edited r es)) under) (no_link e es r Csy Acpi refl)
          ∙ ap (λ (o : Option MembershipData). value_of Csy (with_rows (group_rows e o) under)) kept
          ∙ member_strategy e m under

      strategy_was : (o : Option Data) → value_of Csy r.attrs ≡ o → option_or (value_of Csy r.attrs) (default_value Csy) ≡ Some (number (pos (members_edited r es).strategy))
      strategy_was None none = rw none refl
      strategy_was (Some d) some =
          let its = its_kind r.ty Csy d (value_passes (is_attr_kind r.ty) Csy d r.attrs kinds some) in
          let is : number (pos (unwrap_or (as_count d) 1)) ≡ d = counted d (csy_kind r.ty its.kind d its.of its.has) in
          rw some (ap (λ (x : Data). Some x) (sym is))

  announced_stays : (a : Attr) → is_attr_in (announceable_attrs r.ty) a ≡ true → is_attr a Mid ≡ false → announced_value r a ≡ announced_value t a
  announced_stays a can mid = elim (cases_Bool (is_announced t a)) [
    | inl told ↦
        let before : is_announced r a ≡ true = sym (same_announced a) ∙ told in
        let followed : is_followed t a ≡ true = followed_from t a told in
        rw (told, before) (elim (cases_Bool (is_attr a Csy)) [
          | inl csy ↦
              let same : a ≡ Csy = is_attr-same a Csy csy in
              subst (λ (b : Attr). option_or (value_of b r.attrs) (default_value b) ≡ option_or (value_of b t.attrs) (default_value b)) (sym same) (csy_value (ap (is_followed t) (sym same) ∙ followed))
          | inr other ↦
              let apart = apart_from r.ty a can in
              let value : value_of a t.attrs ≡ value_of a r.attrs = same_value a followed apart.et (record { acpi = apart.acpi; cnm = apart.cnm; csy = other; macp = apart.macp; mid = mid; mt = apart.mt; mtv = apart.mtv; st = apart.st }) in
              ap (λ (o : Option Data). option_or o (default_value a)) (sym value)
        ])
    | inr untold ↦
        let before : is_announced r a ≡ false = sym (same_announced a) ∙ untold in
        rw (untold, before) refl
  ]

  expiry_stays : t.et ≡ r.et
  expiry_stays =
      let none : member_of (attr_short Et) es ≡ None = unnamed_in t Et es refl unfollowed in
      let unnamed : is_named Et es ≡ false = ap is_some none in
      rw unnamed refl

  labels_stay : value_of Lbl t.attrs ≡ value_of Lbl r.attrs
  labels_stay = same_value Lbl refl refl (record { acpi = refl; cnm = refl; csy = refl; macp = refl; mid = refl; mt = refl; mtv = refl; st = refl })

  common_stays : (a : Attr) → common_value home r a ≡ common_value home t a
  common_stays a = elim (cases_Bool (is_attr a Et)) [
    | inl et ↦ rw et (ap (λ (n : ℕ). Some (shown_moment n)) (sym expiry_stays))
    | inr other ↦ elim (cases_Bool (is_attr a Lbl)) [
      | inl lbl ↦ rw (other, lbl) (sym labels_stay)
      | inr none ↦ rw (other, none) refl
    ]
  ]

  pub unfollowed_stays : (attr : Attr) → is_attr attr Mid ≡ false → value_in_copy home r attr ≡ value_in_copy home t attr
  unfollowed_stays attr mid = elim (cases_Bool (is_attr_in (announceable_attrs r.ty) attr)) [
    | inl can ↦
        ap (λ c. if c then announced_value r attr else common_value home r attr) can
        ∙ announced_stays attr can mid
        ∙ sym (ap (λ c. if c then announced_value t attr else common_value home t attr) can)
    | inr cannot ↦
        ap (λ c. if c then announced_value r attr else common_value home r attr) cannot
        ∙ common_stays attr
        ∙ sym (ap (λ c. if c then announced_value t attr else common_value home t attr) cannot)
  ]
