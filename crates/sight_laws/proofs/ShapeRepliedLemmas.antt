-- What is replied to an Update that names `acpi` or the rules of a policy is the same for entities of
-- one shape.
use Rattle.sight_laws.proofs.Words.{◌==◌, ℤ, ◌≡◌, ℕ, List, [], ◌∷◌, ◌++◌, map, Bool, true, false, cond, ◌||◌, Option, Some, None, inl, inr, refl, sym, ap, ap₂, ◌∙◌, filter, length, list_any, int_eq, is_lt, option_map_or}
use Rattle.sight_laws.proofs.Terms.{Attr, Cbs, Cni, Csy, Ct, Et, Lt, Mt, Pi, Ri, Rn, St, TyAttr, Ty, Container, CseBase, Group, Data, Entry, number, text, AreSorted, AreInOrder, Row, attr_cmp, is_attr, rows_after, rows_before, with_value, without_value, value_of, HomeData, ResourceData, id_of, is_ty, base_rows, common_rows, container_rows, expiry_rows, shown_group_rows, parent_id, shown_count, shown_moment, shown_ty, with_rows, wrapped, at, instances_of, sizes_of, is_named, may_name, NewValue, with_change, with_changes, EntityData, IsSoundEntity, is_for, Update, expiry_for, expiry_after, is_told_at, told_rows, updated_content, updated_resource, IsUpdatable, state_row, link_row, Acpi, Macp, own_rows, next_state}
use Rattle.sight_laws.proofs.Facts.{both_ways, cases_Bool, not-true, or_cases, or_from, or_left, or_parts, or_right, map-append, list_any-append, attr_itself, in_order-with_value, is_attr-same}
use Rattle.std.specs.List.{AllByRecursion}
use Rattle.std.specs.List.Sorted.{IsStrictlySortedBy}
use Rattle.std.specs.Map.{keys_of}
use Rattle.std.specs.Prelude.{pos}
use Rattle.std.specs.Ordering.{ordering_reverse}
use Rattle.std.specs.declared.cmp.Ordering.{Ordering}
use Rattle.std.specs.declared.cmp.Ordering.TheVariants.{Less, Equal, Greater}
use Rattle.m2m_names.proofs.PlaceLemmas.{less}
use Rattle.primitive_json.specs.Kinds.{nothing_wanted}
use Rattle.resource_model.proofs.AttributeLemmas.{attr_total, falls_back, tied_attr}
use Rattle.tree_model.proofs.ShownLemmas.{in_order-with_rows}
use Rattle.tree_model.specs.Shown.{default_row}
use Rattle.entity_model.proofs.OrderLemmas.{order_from}
use Rattle.create_delete.specs.NewResource.{IsReplacement}
use Rattle.create_delete.proofs.ReplacementLemmas.{replacement}
use Rattle.sight_laws.proofs.ChangeRowsLemmas.{is_touched, rows_of, same_told, told_change, told_changes, told_of, touched_told}
use Rattle.sight_laws.proofs.EditLemmas.{changes_then, edit_changes, given_are, named_touched, row_changes, unnamed}
use Rattle.sight_laws.proofs.RuleEditLemmas.{ChangesRules, own_are}
use Rattle.sight_laws.proofs.UpdateSeenLemmas.{attrs_are, changes_of, given_by, never_cbs, never_cni, never_ct, never_pi}

-- ---- rows of attributes that aren't told

-- all of these come behind the attribute
all_behind : (a : Attr) (rows : List Row) → AllByRecursion (λ b. attr_cmp a b ≡ Less) (keys_of rows) → (rows_before a rows ≡ []) × (rows_after a rows ≡ rows)
all_behind a [] all = (refl, refl)
all_behind a (row ∷ rows) all =
    let rest = all_behind a rows all.1 in
    let later : is_lt (attr_cmp a row.0) ≡ true = ap is_lt all.0 in
    (rw (falls_back a row.0 all.0) rest.0, rw later (ap (λ (xs : List Row). row ∷ xs) rest.1))

further : (a b : Attr) (keys : List Attr) → attr_cmp a b ≡ Less → AllByRecursion (λ c. attr_cmp b c ≡ Less) keys → AllByRecursion (λ c. attr_cmp a c ≡ Less) keys
further a b [] less_b all = tt
further a b (c ∷ keys) less_b all = (attr_total.trans a b c less_b all.0, further a b keys less_b all.1)

-- what is neither before nor behind is tied
neither : (x y : Ordering) → x ≡ ordering_reverse y → is_lt x ≡ false → is_lt y ≡ false → x ≡ Equal
neither x Less is first second = absurd (both_ways _ second refl)
neither x Equal is first second = is
neither x Greater is first second = absurd (both_ways _ first (ap is_lt is))

-- what is cleared that isn't told leaves what is told
module _ (p : Attr → Bool) (a : Attr) (untold : p a ≡ false) where
  pub cleared_rest : (rows : List Row) → AreInOrder rows → rows_of p (without_value a rows) ≡ rows_of p rows
  unfolding IsStrictlySortedBy
  cleared_rest [] order = refl
  cleared_rest (row ∷ rows) order = elim (cases_Bool (is_lt (attr_cmp row.0 a))) [
    | inl t ↦
        let before : is_lt (attr_cmp a row.0) ≡ false = falls_back row.0 a (less (attr_cmp row.0 a) t) in
        rw (t, before) (kept row rows (cleared_rest rows order.1))
    | inr f ↦ elim (cases_Bool (is_lt (attr_cmp a row.0))) [
      | inl t ↦
          let behind = all_behind a rows (further a row.0 (keys_of rows) (less (attr_cmp a row.0) t) order.0) in
          rw (f, t) (ap₂ (λ (xs ys : List Row). rows_of p (xs ++ row ∷ ys)) behind.0 behind.1)
      | inr g ↦
          let same : a ≡ row.0 = tied a row.0 g f in
          let gone : p row.0 ≡ false = ap p (sym same) ∙ untold in
          let behind = all_behind a rows (there a row.0 (keys_of rows) same order.0) in
          rw (f, g) (ap₂ (λ (xs ys : List Row). rows_of p (xs ++ ys)) behind.0 behind.1 ∙ sym (dropped row rows gone))
    ]
  ]
    where
      kept : (row : Row) (rows : List Row) → rows_of p (without_value a rows) ≡ rows_of p rows → rows_of p (row ∷ without_value a rows) ≡ rows_of p (row ∷ rows)
      kept row rows same = ap (λ (xs : List Row). cond (p row.0) (row ∷ xs) xs) same

      dropped : (row : Row) (rows : List Row) → p row.0 ≡ false → rows_of p (row ∷ rows) ≡ rows_of p rows
      dropped row rows gone = rw gone refl

      there : (b c : Attr) (keys : List Attr) → b ≡ c → AllByRecursion (λ d. attr_cmp c d ≡ Less) keys → AllByRecursion (λ d. attr_cmp b d ≡ Less) keys
      there b c keys same all = rw same all

      tied : (b c : Attr) → is_lt (attr_cmp b c) ≡ false → is_lt (attr_cmp c b) ≡ false → b ≡ c
      tied b c first second = tied_attr b c (neither (attr_cmp b c) (attr_cmp c b) (attr_total.antisymm b c) first second)

  pub given_rest : (d : Data) (rows : List Row) → AreInOrder rows → rows_of p (with_value a d rows) ≡ rows_of p rows
  given_rest d rows order =
      told_change p a (Some d) rows
      ∙ ap (λ (x : Option Data). with_change a x (rows_of p rows)) (ap (λ (b : Bool). cond b (Some d) None) untold)
      ∙ sym (told_change p a None rows ∙ ap (λ (x : Option Data). with_change a x (rows_of p rows)) (same_choice (p a) None))
      ∙ cleared_rest rows order
    where
      same_choice : (b : Bool) (x : Option Data) → cond b x x ≡ x
      same_choice true x = refl
      same_choice false x = refl

-- so a default that isn't told changes nothing that is
default_rest : (p : Attr → Bool) (a : Attr) (n : ℕ) (rows own : List Row) → p a ≡ false → AreInOrder rows → rows_of p (with_rows (default_row a n own) rows) ≡ rows_of p rows
default_rest p a n rows own untold order = by (value_of a own)
  where
    by : (d : Option Data) → rows_of p (with_rows (option_map_or (λ _. []) d ((a, number (pos n)) ∷ [])) rows) ≡ rows_of p rows
    by None = given_rest p a untold (number (pos n)) rows order
    by (Some d) = refl

with_rows_then : (first more rows : List Row) → with_rows (first ++ more) rows ≡ with_rows more (with_rows first rows)
with_rows_then [] more rows = refl
with_rows_then (row ∷ first) more rows = with_rows_then first more (with_value row.0 row.1 rows)

defaults_rest : (p : Attr → Bool) (r : ResourceData) (rows : List Row) → p Csy ≡ false → p Mt ≡ false → AreInOrder rows → rows_of p (with_rows (shown_group_rows r) rows) ≡ rows_of p rows
defaults_rest p r rows csy mt order =
    ap (rows_of p) (with_rows_then first second rows)
    ∙ default_rest p Mt 0 (with_rows first rows) r.attrs mt (in_order-with_rows first rows order)
    ∙ default_rest p Csy 1 rows r.attrs csy order
  where
    first : List Row
    first = default_row Csy 1 r.attrs

    second : List Row
    second = default_row Mt 0 r.attrs

-- ---- what one of them replies

-- no update names the state tag
never_st : (ty : Ty) → may_name ty St ≡ false
never_st Container = refl
never_st _ = refl

-- what isn't told is dropped
dropped_both : (told : Bool) → told ≡ false → (d other : Data) → cond told (Some d) None ≡ cond told (Some other) None
dropped_both told none d other = ap (λ (b : Bool). cond b (Some d) None) none ∙ sym (ap (λ (b : Bool). cond b (Some other) None) none)

module _ (e : EntityData) (r : ResourceData) (es : List Entry) (sound : IsSoundEntity e) (may : IsUpdatable e es r) (only : ChangesRules r es) where
  abbrev now : ResourceData
  now = updated_resource e es r

  abbrev p : Attr → Bool
  p = is_told_at es

  -- what the CSE adds to it, but for a group's defaults
  abbrev besides : List Row
  besides = (common_rows e.nodes now ++ cond (is_ty r.ty CseBase) (base_rows e.home) (expiry_rows now)) ++ cond (is_ty r.ty Container) (container_rows e.nodes now) []

  abbrev all_changes : List NewValue
  all_changes = changes_of e es r ++ row_changes besides

  plain : is_ty r.ty CseBase ≡ false
  plain = (or_parts (is_ty r.ty CseBase) _ (not-true _ may.kind)).0

  order : AreInOrder (updated_resource e es r).attrs
  order = order_from now (replacement e es r sound may).order

  told_plain : told_rows e es (updated_resource e es r) ≡ rows_of (is_told_at es) (with_rows besides (updated_resource e es r).attrs)
  told_plain = ap (rows_of p) (with_rows_then besides (cond (is_ty r.ty Group) (shown_group_rows now) []) now.attrs) ∙ elim (cases_Bool (is_ty r.ty Group)) [
    | inl t ↦
        ap (λ (b : Bool). rows_of p (with_rows (cond b (shown_group_rows now) []) (with_rows besides now.attrs))) t
        ∙ defaults_rest p now (with_rows besides now.attrs) (or_from _ _ (only.defaults t).0 refl) (or_from _ _ (only.defaults t).1 refl) (in_order-with_rows besides now.attrs order)
    | inr f ↦ ap (λ (b : Bool). rows_of p (with_rows (cond b (shown_group_rows now) []) (with_rows besides now.attrs))) f
  ]

  -- each attribute that is told is changed, or shown by the entity
  has_row : (b : Attr) (rows : List Row) → is_touched (row_changes rows) b ≡ list_any (λ (row : Row). is_attr row.0 b) rows
  has_row b [] = refl
  has_row b (row ∷ rows) = ap (λ (x : Bool). is_attr row.0 b || x) (has_row b rows)

  in_besides : (b : Attr) → (list_any (λ (row : Row). is_attr row.0 b) (common_rows e.nodes now) || list_any (λ (row : Row). is_attr row.0 b) (expiry_rows now)) ≡ true → is_touched (row_changes besides) b ≡ true
  in_besides b some =
      let q : Row → Bool = λ row. is_attr row.0 b in
      let a = common_rows e.nodes now in
      let x = cond (is_ty r.ty CseBase) (base_rows e.home) (expiry_rows now) in
      let d = cond (is_ty r.ty Container) (container_rows e.nodes now) [] in
      let ends : list_any q x ≡ list_any q (expiry_rows now) = ap (λ (c : Bool). list_any q (cond c (base_rows e.home) (expiry_rows now))) plain in
      let front : list_any q (a ++ x) ≡ true = list_any-append q a x ∙ ap (λ (c : Bool). list_any q a || c) ends ∙ some in
      has_row b besides ∙ list_any-append q (a ++ x) d ∙ or_left _ _ front

  is_changed : (b : Attr) → is_told_at es b ≡ true → is_touched all_changes b ≡ true
  is_changed b told = list_any-append (λ (c : NewValue). is_attr c.0 b) (changes_of e es r) (row_changes besides) ∙ elim (or_cases (is_named b es) (is_attr b Lt) told) [
    | inr last ↦
        let it : b ≡ Lt = is_attr-same b Lt last in
        or_right _ _ (ap (is_touched (row_changes besides)) it ∙ in_besides Lt refl)
    | inl named ↦ elim (cases_Bool (is_attr b Et)) [
      | inl end ↦
          let it : b ≡ Et = is_attr-same b Et end in
          or_right _ _ (ap (is_touched (row_changes besides)) it ∙ in_besides Et refl)
      | inr f ↦ or_left _ _ (list_any-append (λ (c : NewValue). is_attr c.0 b) (edit_changes es) (row_changes (given_by e es r)) ∙ or_left _ _ (named_touched es b f named))
    ]
  ]

  -- what is told is what the changes give, whatever stood there before
  pub told_as : told_rows e es (updated_resource e es r) ≡ with_changes (told_of (is_told_at es) (changes_of e es r) ++ told_of (is_told_at es) (row_changes besides)) []
  told_as =
      told_plain
      ∙ ap (rows_of p) (given_are besides now.attrs ∙ ap (with_changes (row_changes besides)) (attrs_are e es r) ∙ sym (changes_then (changes_of e es r) (row_changes besides) r.attrs))
      ∙ told_changes p all_changes r.attrs
      ∙ same_told (told_of p all_changes) p (λ b told. touched_told p all_changes b ∙ is_changed b told) r.attrs []
      ∙ ap (λ (changes : List NewValue). with_changes changes []) (map-append (λ (c : NewValue). (c.0, cond (p c.0) c.1 None)) (changes_of e es r) (row_changes besides))

  pub untold : (a : Attr) → may_name r.ty a ≡ false → is_attr a Et ≡ false → is_attr a Lt ≡ false → is_told_at es a ≡ false
  untold a never et lt = or_from _ _ (unnamed r.ty es a may.sorted may.admitted never et) lt

-- ---- two of them

-- what the two keep alike of the resource that is updated
pub record AreTwins (x y : EntityData) (p q : ResourceData) : Type 0 where
  pub home : x.home ≡ y.home
  pub last : x.last ≡ y.last
  pub ty : p.ty ≡ q.ty
  pub name : p.name ≡ q.name
  pub id : id_of p ≡ id_of q

module _ (x y : EntityData) (p q : ResourceData) (es : List Entry) (twins : AreTwins x y p q) (onlyp : ChangesRules p es) (onlyq : ChangesRules q es) (links : (a : Attr) → link_row x es a ≡ link_row y es a) where
  -- where nothing is kept of the state tag, the same is kept of what they change
  module _ (f : NewValue → NewValue) (hides : (d : Data) → f (St, Some d) ≡ (St, None)) where
    abbrev kept_of : List Row → List NewValue
    kept_of own = map f (edit_changes es ++ row_changes ((own ++ link_row y es Acpi) ++ link_row y es Macp))

    state_of : (d : Data) → kept_of ((St, d) ∷ []) ≡ map f (edit_changes es) ++ (St, None) ∷ map f (row_changes (link_row y es Acpi ++ link_row y es Macp))
    state_of d =
        map-append f (edit_changes es) (row_changes ((((St, d) ∷ []) ++ link_row y es Acpi) ++ link_row y es Macp))
        ∙ ap (λ (c : NewValue). map f (edit_changes es) ++ c ∷ map f (row_changes (link_row y es Acpi ++ link_row y es Macp))) (hides d)

    states : kept_of (state_row p ++ []) ≡ kept_of (state_row q ++ [])
    states =
        let one = number (pos (next_state p)) in
        let other = number (pos (next_state q)) in
        ap (λ (ty : Ty). kept_of (cond (is_ty ty Container) ((St, one) ∷ []) [] ++ [])) twins.ty
        ∙ by (is_ty q.ty Container) one other
      where
        by : (b : Bool) (one other : Data) → kept_of (cond b ((St, one) ∷ []) [] ++ []) ≡ kept_of (cond b ((St, other) ∷ []) [] ++ [])
        by true one other = state_of one ∙ sym (state_of other)
        by false one other = refl

    pub changes_alike : map f (changes_of x es p) ≡ map f (changes_of y es q)
    changes_alike =
        ap (λ (own : List Row). map f (edit_changes es ++ row_changes ((own ++ link_row x es Acpi) ++ link_row x es Macp))) (own_are x p es onlyp)
        ∙ ap₂ (λ (acpi macp : List Row). map f (edit_changes es ++ row_changes (((state_row p ++ []) ++ acpi) ++ macp))) (links Acpi) (links Macp)
        ∙ states
        ∙ sym (ap (λ (own : List Row). map f (edit_changes es ++ row_changes ((own ++ link_row y es Acpi) ++ link_row y es Macp))) (own_are y q es onlyq))

  module _ (soundx : IsSoundEntity x) (soundy : IsSoundEntity y) (mayp : IsUpdatable x es p) (mayq : IsUpdatable y es q) where
    abbrev t : Attr → Bool
    t = is_told_at es

    abbrev told : List Row → List NewValue
    told rows = told_of (is_told_at es) (row_changes rows)

    told_append : (xs ys : List Row) → told (xs ++ ys) ≡ told xs ++ told ys
    told_append xs ys =
        ap (told_of t) (map-append (λ (row : Row). (row.0, Some row.1)) xs ys)
        ∙ map-append (λ (c : NewValue). (c.0, cond (t c.0) c.1 None)) (row_changes xs) (row_changes ys)

    not_told : (a : Attr) → may_name p.ty a ≡ false → is_attr a Et ≡ false → is_attr a Lt ≡ false → is_told_at es a ≡ false
    not_told = untold x p es soundx mayp onlyp

    abbrev one : ResourceData
    one = updated_resource x es p

    abbrev other : ResourceData
    other = updated_resource y es q

    abbrev six : Option Data → Option Data → Option Data → Option Data → Option Data → Option Data → List NewValue
    six ct lt pi ri rn ty = (Ct, ct) ∷ (Lt, lt) ∷ (Pi, pi) ∷ (Ri, ri) ∷ (Rn, rn) ∷ (TyAttr, ty) ∷ []

    abbrev kept : Attr → Data → Option Data
    kept a d = cond (t a) (Some d) None

    commons : told (common_rows x.nodes one) ≡ told (common_rows y.nodes other)
    commons =
        let lt = kept Lt (shown_moment x.last) in
        let ri = kept Ri (text (id_of p)) in
        let rn = kept Rn (text p.name) in
        let ty = kept TyAttr (shown_ty p.ty) in
        ap₂ (λ (ct pi : Option Data). six ct lt pi ri rn ty)
        (dropped_both (t Ct) (not_told Ct (never_ct p.ty) refl refl) (shown_moment p.ct) (shown_moment q.ct))
        (dropped_both (t Pi) (not_told Pi (never_pi p.ty) refl refl) (text (parent_id x.nodes one)) (text (parent_id y.nodes other)))
        ∙ ap (λ (m : ℕ). six (kept Ct (shown_moment q.ct)) (kept Lt (shown_moment m)) (kept Pi (text (parent_id y.nodes other))) ri rn ty) twins.last
        ∙ ap₂ (λ (id name : List ℕ). six (kept Ct (shown_moment q.ct)) (kept Lt (shown_moment y.last)) (kept Pi (text (parent_id y.nodes other))) (kept Ri (text id)) (kept Rn (text name)) ty) twins.id twins.name
        ∙ ap (λ (k : Ty). six (kept Ct (shown_moment q.ct)) (kept Lt (shown_moment y.last)) (kept Pi (text (parent_id y.nodes other))) (kept Ri (text (id_of q))) (kept Rn (text q.name)) (kept TyAttr (shown_ty k))) twins.ty

    end_same : kept Et (shown_moment one.et) ≡ kept Et (shown_moment other.et)
    end_same = elim (cases_Bool (is_named Et es)) [
      | inl named ↦
          let same : (m : ℕ) → expiry_after es m ≡ expiry_for es = λ m. ap (λ (b : Bool). cond b (expiry_for es) m) named in
          ap (λ (m : ℕ). kept Et (shown_moment m)) (same p.et ∙ sym (same q.et))
      | inr f ↦ dropped_both (t Et) (or_from _ _ f refl) (shown_moment one.et) (shown_moment other.et)
    ]

    ends : told (cond (is_ty p.ty CseBase) (base_rows x.home) (expiry_rows one)) ≡ told (cond (is_ty q.ty CseBase) (base_rows y.home) (expiry_rows other))
    ends =
        ap (λ (b : Bool). told (cond b (base_rows x.home) (expiry_rows one))) (plain x p es soundx mayp onlyp)
        ∙ ap (λ (et : Option Data). (Et, et) ∷ []) end_same
        ∙ sym (ap (λ (b : Bool). told (cond b (base_rows y.home) (expiry_rows other))) (plain y q es soundy mayq onlyq))

    counts : told (cond (is_ty p.ty Container) (container_rows x.nodes one) []) ≡ told (cond (is_ty q.ty Container) (container_rows y.nodes other) [])
    counts =
        ap (λ (k : Ty). told (cond (is_ty k Container) (container_rows x.nodes one) [])) twins.ty
        ∙ by (is_ty q.ty Container)
      where
        both : told (container_rows x.nodes one) ≡ told (container_rows y.nodes other)
        both =
            ap₂ (λ (cbs cni : Option Data). (Cbs, cbs) ∷ (Cni, cni) ∷ [])
            (dropped_both (t Cbs) (not_told Cbs (never_cbs p.ty) refl refl) (shown_count (sizes_of one.number x.nodes)) (shown_count (sizes_of other.number y.nodes)))
            (dropped_both (t Cni) (not_told Cni (never_cni p.ty) refl refl) (shown_count (length (instances_of one.number x.nodes))) (shown_count (length (instances_of other.number y.nodes))))

        by : (b : Bool) → told (cond b (container_rows x.nodes one) []) ≡ told (cond b (container_rows y.nodes other) [])
        by true = both
        by false = refl

    besides_alike : told (besides x p es soundx mayp onlyp) ≡ told (besides y q es soundy mayq onlyq)
    besides_alike =
        let a = common_rows x.nodes one in
        let b = cond (is_ty p.ty CseBase) (base_rows x.home) (expiry_rows one) in
        let d = cond (is_ty p.ty Container) (container_rows x.nodes one) [] in
        let u = common_rows y.nodes other in
        let v = cond (is_ty q.ty CseBase) (base_rows y.home) (expiry_rows other) in
        let w = cond (is_ty q.ty Container) (container_rows y.nodes other) [] in
        told_append (a ++ b) d ∙ ap (λ (xs : List NewValue). xs ++ told d) (told_append a b)
        ∙ ap₂ (λ (xs ys : List NewValue). xs ++ ys) (ap₂ (λ (xs ys : List NewValue). xs ++ ys) commons ends) counts
        ∙ sym (told_append (u ++ v) w ∙ ap (λ (xs : List NewValue). xs ++ told w) (told_append u v))

    told_alike : told_rows x es (updated_resource x es p) ≡ told_rows y es (updated_resource y es q)
    told_alike =
        told_as x p es soundx mayp onlyp
        ∙ ap₂ (λ (changes more : List NewValue). with_changes (changes ++ more) [])
        (changes_alike (λ (c : NewValue). (c.0, cond (t c.0) c.1 None)) (λ d. ap (λ (b : Bool). (St, cond b (Some d) None)) (not_told St (never_st p.ty) refl refl))) besides_alike
        ∙ sym (told_as y q es soundy mayq onlyq)

    -- the same is told
    pub replied_alike : (rcn : ℤ) → updated_content rcn x es (updated_resource x es p) ≡ updated_content rcn y es (updated_resource y es q)
    replied_alike rcn =
        ap₂ (λ (ty : Ty) (rows : List Row). cond (int_eq rcn nothing_wanted) None (Some (wrapped ty rows))) twins.ty told_alike
