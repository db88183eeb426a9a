-- What an Update makes and replies is the same on what its originator sees.
use Rattle.sight_laws.proofs.Words.{ℤ, ◌==◌, ◌≡◌, ℕ, pos, List, [], ◌∷◌, ◌++◌, length, Bool, true, false, cond, ◌||◌, Option, Some, None, is_some, inl, inr, refl, sym, ap, ap₂, ◌∙◌, list_any, int_eq}
use Rattle.sight_laws.proofs.Terms.{attr_short, Attr, Acpi, Aei, Cbs, Cni, Cnm, Csi, Csy, Ct, Et, Lt, Macp, Mbs, Mia, Mid, Mni, Mt, Mtv, Pi, Pv, Pvs, Ri, Rn, St, TyAttr, Update, Ty, Ae, Container, ContentInstance, CseBase, Group, RemoteCse, Data, Entry, elements_of, list, number, text, AreSorted, member_of, RequestParts, Row, is_attr, value_of, ResourceData, id_of, is_ty, added_rows, base_rows, common_rows, container_rows, expiry_rows, shown_group_rows, parent_id, shown_count, shown_moment, shown_ty, wrapped, at, instances_of, sizes_of, are_admitted, is_named, edit_in, edited, may_name, Updating, evicted, limits_of, Limits, update_bit, is_attr_in, listed_in, NewValue, changed, do_judge, does_judge, with_changes, fills, has_bit, may_use, seen, seen_list, EntityData, next_state, MembershipData, group_rows, membership_edited, link_row, listed, policy_ids, expiry_for, named_by, may_do, expiry_after, is_told_at, own_rows, pushed_by, pushed_out, state_row, told_rows, updated_content, updated_resource, IsUpdatable}
use Rattle.sight_laws.proofs.Facts.{and_from, both_ways, cases_Bool, eqb-true, false_from_ne_true, not-true, or_cases, or_from, or_left, or_parts, or_right, cond_both, map-append, list_any-append, same_type, is_attr-same, id_attrs_hold, both_chosen, seen_shows}
use Rattle.primitive_json.specs.Kinds.{nothing_wanted}
use Rattle.equal_sights.specs.Alike.{id_attrs}
use Rattle.sight_laws.specs.Laws.{names_rules}
use Rattle.equal_sights.specs.Sight.{sight}
use Rattle.sight_laws.proofs.ChangeRowsLemmas.{is_touched, rows_of, same_told, told_changes, told_of, touched_told, value_after}
use Rattle.sight_laws.proofs.EditLemmas.{changes_then, edit_changes, edited_are, edits_pass, given_are, named_touched, row_changes, unnamed}
use Rattle.sight_laws.proofs.EvictionLemmas.{evicted-seen}
use Rattle.sight_laws.proofs.NamedLemmas.{group_rows-seen, link_row-seen}
use Rattle.sight_laws.proofs.PlacesLemmas.{edited_seen}

-- ---- the changes of an update

abbrev pub given_by : EntityData → List Entry → ResourceData → List Row
given_by e es r = own_rows e es r ++ link_row e es Acpi ++ link_row e es Macp

abbrev pub changes_of : EntityData → List Entry → ResourceData → List NewValue
changes_of e es r = edit_changes es ++ row_changes (given_by e es r)

-- the new expiry, where one is named
abbrev pub new_expiry : List Entry → Option ℕ
new_expiry es = cond (is_named Et es) (Some (expiry_for es)) None

pub attrs_are : (e : EntityData) (es : List Entry) (r : ResourceData) → (updated_resource e es r).attrs ≡ with_changes (changes_of e es r) r.attrs
attrs_are e es r =
    given_are (given_by e es r) (edited (edit_in es) r.attrs)
    ∙ ap (with_changes (row_changes (given_by e es r))) (edited_are es r.attrs)
    ∙ sym (changes_then (edit_changes es) (row_changes (given_by e es r)) r.attrs)

pub updated_changed : (e : EntityData) (es : List Entry) (r : ResourceData) → updated_resource e es r ≡ changed (changes_of e es r) (Some e.last) (new_expiry es) r
updated_changed e es r = ap (λ (rows : List Row). record r { lt = e.last; et = expiry_after es r.et; attrs = rows }) (attrs_are e es r) ∙ by (is_named Et es)
  where
    by : (named : Bool) → record r { lt = e.last; et = cond named (expiry_for es) r.et; attrs = with_changes (changes_of e es r) r.attrs } ≡ changed (changes_of e es r) (Some e.last) (cond named (Some (expiry_for es)) None) r
    by true = refl
    by false = refl

-- ---- nobody is judged by them

-- attributes by which nobody is judged, whatever the type
judges_none : (a : Attr) → is_attr_in (Acpi ∷ Pv ∷ Pvs ∷ Aei ∷ Csi ∷ []) a ≡ false → (ty : Ty) → does_judge ty a ≡ false
judges_none a none ty =
    let one = or_parts (is_attr a Acpi) _ none in
    let two = or_parts (is_attr a Pv) _ one.1 in
    let three = or_parts (is_attr a Pvs) _ two.1 in
    let four = or_parts (is_attr a Aei) _ three.1 in
    let five = or_parts (is_attr a Csi) _ four.1 in
    or_from _ _ one.0 (or_from _ _ two.0 (or_from _ _ three.0 (ids four.0 five.0)))
  where
    ids : is_attr a Aei ≡ false → is_attr a Csi ≡ false → is_attr_in (id_attrs ty) a ≡ false
    ids aei csi = id_attrs_hold (λ (attrs : List Attr). is_attr_in attrs a ≡ false) ty (λ t. or_from _ _ aei refl) (λ t. or_from _ _ csi refl) refl

abbrev judged : Ty → List Row → Bool
judged ty rows = list_any (λ (row : Row). does_judge ty row.0) rows

rows_judge_none : (ty : Ty) (e : EntityData) (es : List Entry) (r : ResourceData) → is_named Acpi es ≡ false → do_judge ty (row_changes (given_by e es r)) ≡ false
rows_judge_none ty e es r calm =
    all_rows (given_by e es r)
    (split (own_rows e es r ++ link_row e es Acpi) (link_row e es Macp)
    (split (own_rows e es r) (link_row e es Acpi)
    (split (state_row r) (group_rows e (membership_edited r es)) states (members (membership_edited r es)))
    links)
    fans)
  where
    all_rows : (rows : List Row) → judged ty rows ≡ false → do_judge ty (row_changes rows) ≡ false
    all_rows [] none = refl
    all_rows (row ∷ rows) none = (let parts = or_parts (does_judge ty row.0) _ none in or_from _ _ parts.0 (all_rows rows parts.1))

    split : (xs ys : List Row) → judged ty xs ≡ false → judged ty ys ≡ false → judged ty (xs ++ ys) ≡ false
    split xs ys first second = list_any-append (λ (row : Row). does_judge ty row.0) xs ys ∙ or_from _ _ first second

    one : (a : Attr) (d : Data) → does_judge ty a ≡ false → judged ty ((a, d) ∷ []) ≡ false
    one a d none = or_from _ _ none refl

    states : judged ty (state_row r) ≡ false
    states =
        cond_both (is_ty r.ty Container) ((St, number (pos (next_state r))) ∷ []) [] (λ (rows : List Row). judged ty rows ≡ false)
        (λ t. one St (number (pos (next_state r))) (judges_none St refl ty)) (λ f. refl)

    members : (m : Option MembershipData) → judged ty (group_rows e m) ≡ false
    members None = refl
    members (Some m) =
        or_from _ _ (judges_none Mid refl ty) (or_from _ _ (judges_none Mt refl ty) (or_from _ _ (judges_none Csy refl ty)
        (or_from _ _ (judges_none Cnm refl ty) (or_from _ _ (judges_none Mtv refl ty) refl))))

    links : judged ty (link_row e es Acpi) ≡ false
    links = by (member_of (attr_short Acpi) es) calm
      where
        by : (d : Option Data) → is_some d ≡ false → judged ty (cond (length (listed_in d) == 0) [] ((Acpi, list (elements_of (policy_ids e (listed_in d)))) ∷ [])) ≡ false
        by None none = refl
        by (Some d) none = absurd (both_ways _ none refl)

    fans : judged ty (link_row e es Macp) ≡ false
    fans =
        cond_both (length (listed Macp es) == 0) [] ((Macp, list (elements_of (policy_ids e (listed Macp es)))) ∷ []) (λ (rows : List Row). judged ty rows ≡ false)
        (λ t. refl) (λ f. one Macp (list (elements_of (policy_ids e (listed Macp es)))) (judges_none Macp refl ty))

-- what an update by which everyone is judged as before doesn't name
record IsCalmly (es : List Entry) : Type 0 where
  acpi : is_named Acpi es ≡ false
  pv : is_named Pv es ≡ false
  pvs : is_named Pvs es ≡ false

calmly : (es : List Entry) → names_rules es ≡ false → IsCalmly es
calmly es calm =
    let first = or_parts (is_named Acpi es) _ calm in
    let second = or_parts (is_named Pv es) _ first.1 in
    let third = or_parts (is_named Pvs es) _ second.1 in
    record { acpi = first.0; pv = second.0; pvs = third.0 }

is_it : (es : List Entry) (a b : Attr) → is_named a es ≡ true → is_attr a b ≡ true → is_named b es ≡ true
is_it es a b named same = ap (λ (c : Attr). is_named c es) (sym (is_attr-same a b same)) ∙ named

named_judges_none : (ty : Ty) (es : List Entry) → AreSorted es → are_admitted Updating ty es ≡ true → names_rules es ≡ false → (a : Attr) → is_named a es ≡ true → does_judge ty a ≡ false
named_judges_none ty es sorted admitted calm a named =
    let none = calmly es calm in
    or_from _ _ (other Acpi none.acpi) (or_from _ _ (other Pv none.pv) (or_from _ _ (other Pvs none.pvs) ids))
  where
    other : (b : Attr) → is_named b es ≡ false → is_attr a b ≡ false
    other b none = false_from_ne_true _ (λ t. both_ways _ none (is_it es a b named t))

    -- what a type may not name isn't named
    fixed : (k : Ty) (b : Attr) → may_name k b ≡ false → is_attr b Et ≡ false → is_ty ty k ≡ true → is_attr_in (b ∷ []) a ≡ false
    fixed k b never apart is =
        or_from _ _ (other b (unnamed ty es b sorted admitted (ap (λ (x : Ty). may_name x b) (same_type ty k (eqb-true _ _ is)) ∙ never) apart)) refl

    ids : is_attr_in (id_attrs ty) a ≡ false
    ids = id_attrs_hold (λ (attrs : List Attr). is_attr_in attrs a ≡ false) ty (fixed Ae Aei refl refl) (fixed RemoteCse Csi refl refl) refl

pub changes_judge_none : (e : EntityData) (es : List Entry) (r : ResourceData) → AreSorted es → IsUpdatable e es r → names_rules es ≡ false → do_judge r.ty (changes_of e es r) ≡ false
changes_judge_none e es r sorted may calm =
    list_any-append (λ (c : NewValue). does_judge r.ty c.0) (edit_changes es) (row_changes (given_by e es r))
    ∙ or_from _ _ (edits_pass (does_judge r.ty) es (named_judges_none r.ty es sorted may.admitted calm)) (rows_judge_none r.ty e es r (calmly es calm).acpi)

-- ---- what no update names

pub never_ct : (ty : Ty) → may_name ty Ct ≡ false
never_ct Ae = refl
never_ct _ = refl

pub never_pi : (ty : Ty) → may_name ty Pi ≡ false
never_pi Ae = refl
never_pi _ = refl

pub never_cbs : (ty : Ty) → may_name ty Cbs ≡ false
never_cbs Ae = refl
never_cbs _ = refl

pub never_cni : (ty : Ty) → may_name ty Cni ≡ false
never_cni Ae = refl
never_cni _ = refl

-- ---- what its originator sees of it

module _ (e : EntityData) (o : List ℕ) (request : RequestParts) (r : ResourceData) (there : at r.number e.nodes ≡ Some r) (right : may_do Update e o request r.number ≡ true) (bit : has_bit e.home e.nodes o update_bit r ≡ true) where
  abbrev seeing : EntityData
  seeing = sight o e

  abbrev see : ResourceData → ResourceData
  see = seen e.home e.nodes o

  abbrev es : List Entry
  es = named_by Update request r

  fill : is_ty r.ty Container ≡ true → fills e.home e.nodes o r ≡ true
  fill container = and_from _ _ container (or_right _ _ bit)

  uses : is_ty r.ty Group ≡ true → may_use e.home e.nodes o r ≡ true
  uses group = and_from _ _ group (or_left _ _ bit)

  state_seen : state_row (see r) ≡ state_row r
  state_seen =
      let same : is_ty r.ty Container ≡ true → next_state (see r) ≡ next_state r = λ t. rw ((seen_shows e.home e.nodes o r).filled (fill t) St refl) refl in
      both_chosen (λ (xs ys : List Row). xs ≡ ys) (is_ty r.ty Container) _ _ _ _ (λ t. ap (λ (n : ℕ). (St, number (pos n)) ∷ []) (same t)) (λ f. refl)

  group_seen : group_rows seeing (membership_edited (see r) es) ≡ group_rows e (membership_edited r es)
  group_seen = ap (group_rows seeing) (edited_seen e o request r there right) ∙ group_rows-seen e o (membership_edited r es)

  given_seen : given_by seeing es (see r) ≡ given_by e es r
  given_seen =
      ap₂ (λ (own : List Row) (acpi : List Row). own ++ acpi ++ link_row seeing es Macp)
      (ap₂ (λ (state : List Row) (group : List Row). state ++ group) state_seen group_seen) (link_row-seen e o es Acpi)
      ∙ ap (λ (macp : List Row). own_rows e es r ++ link_row e es Acpi ++ macp) (link_row-seen e o es Macp)

  -- the same is changed
  pub changes_seen : changes_of (sight o e) (named_by Update request r) (seen e.home e.nodes o r) ≡ changes_of e (named_by Update request r) r
  changes_seen = ap (λ (rows : List Row). edit_changes es ++ row_changes rows) given_seen

  abbrev now : ResourceData
  now = updated_resource e es r

  abbrev then : ResourceData
  then = updated_resource seeing es (see r)

  value_seen : (a : Attr) → value_of a (see r).attrs ≡ value_of a r.attrs → value_of a then.attrs ≡ value_of a now.attrs
  value_seen a same =
      ap (value_of a) (attrs_are seeing es (see r))
      ∙ ap (λ (changes : List NewValue). value_of a (with_changes changes (see r).attrs)) changes_seen
      ∙ value_after a (changes_of e es r) (see r).attrs r.attrs same
      ∙ sym (ap (value_of a) (attrs_are e es r))

  limits_seen : is_ty r.ty Container ≡ true → limits_of then ≡ limits_of now
  limits_seen t =
      let shown = (seen_shows e.home e.nodes o r).filled (fill t) in
      rw (value_seen Mni (shown Mni refl), value_seen Mbs (shown Mbs refl), value_seen Mia (shown Mia refl)) refl

  -- the same is pushed out
  pub pushed_seen : pushed_by (sight o e) (updated_resource (sight o e) (named_by Update request r) (seen e.home e.nodes o r)) ≡ pushed_by e (updated_resource e (named_by Update request r) r)
  pushed_seen = elim (cases_Bool (is_ty r.ty Container)) [
    | inr f ↦ rw f refl
    | inl t ↦
        let out : pushed_out seeing then None ≡ pushed_out e now None =
        ap (λ (l : Limits). evicted l None e.last (instances_of r.number (seen_list e.home e.nodes o))) (limits_seen t)
        ∙ evicted-seen e.home e.nodes o r there (fill t) (limits_of now) None e.last in
        ap (λ (b : Bool). cond b (pushed_out seeing then None) []) t ∙ out ∙ sym (ap (λ (b : Bool). cond b (pushed_out e now None) []) t)
  ]

  -- ---- what is told of it

  module _ (sorted : AreSorted es) (may : IsUpdatable e es r) where
    abbrev p : Attr → Bool
    p = is_told_at es

    abbrev t : List Row → List NewValue
    t rows = told_of p (row_changes rows)

    t_append : (xs ys : List Row) → t (xs ++ ys) ≡ t xs ++ t ys
    t_append xs ys =
        ap (told_of p) (map-append (λ (row : Row). (row.0, Some row.1)) xs ys)
        ∙ map-append (λ (c : NewValue). (c.0, cond (p c.0) c.1 None)) (row_changes xs) (row_changes ys)

    plain : is_ty r.ty CseBase ≡ false
    plain = (or_parts (is_ty r.ty CseBase) (is_ty r.ty ContentInstance) (not-true _ may.kind)).0

    untold : (a : Attr) → may_name r.ty a ≡ false → is_attr a Et ≡ false → is_attr a Lt ≡ false → p a ≡ false
    untold a never et lt = or_from _ _ (unnamed r.ty es a sorted may.admitted never et) lt

    dropped : (a : Attr) → p a ≡ false → (d other : Data) → cond (p a) (Some d) None ≡ cond (p a) (Some other) None
    dropped a none d other = ap (λ (b : Bool). cond b (Some d) None) none ∙ sym (ap (λ (b : Bool). cond b (Some other) None) none)

    commons : t (common_rows (seen_list e.home e.nodes o) then) ≡ t (common_rows e.nodes now)
    commons =
        ap₂ (λ (ct pi : Option Data). (Ct, ct) ∷ (Lt, cond (p Lt) (Some (shown_moment e.last)) None) ∷ (Pi, pi) ∷ (Ri, cond (p Ri) (Some (text (id_of r))) None) ∷ (Rn, cond (p Rn) (Some (text r.name)) None) ∷ (TyAttr, cond (p TyAttr) (Some (shown_ty r.ty)) None) ∷ [])
        (dropped Ct (untold Ct (never_ct r.ty) refl refl) (shown_moment then.ct) (shown_moment now.ct))
        (dropped Pi (untold Pi (never_pi r.ty) refl refl) (text (parent_id (seen_list e.home e.nodes o) then)) (text (parent_id e.nodes now)))

    ends : cond (p Et) (Some (shown_moment then.et)) None ≡ cond (p Et) (Some (shown_moment now.et)) None
    ends = elim (cases_Bool (is_named Et es)) [
      | inl named ↦
          let same : (m : ℕ) → expiry_after es m ≡ expiry_for es = λ m. ap (λ (b : Bool). cond b (expiry_for es) m) named in
          ap (λ (m : ℕ). cond (p Et) (Some (shown_moment m)) None) (same (see r).et ∙ sym (same r.et))
      | inr f ↦ dropped Et (or_from _ _ f refl) (shown_moment then.et) (shown_moment now.et)
    ]

    expiries : t (cond (is_ty r.ty CseBase) (base_rows e.home) (expiry_rows then)) ≡ t (cond (is_ty r.ty CseBase) (base_rows e.home) (expiry_rows now))
    expiries =
        ap (λ (b : Bool). t (cond b (base_rows e.home) (expiry_rows then))) plain
        ∙ ap (λ (et : Option Data). (Et, et) ∷ []) ends
        ∙ sym (ap (λ (b : Bool). t (cond b (base_rows e.home) (expiry_rows now))) plain)

    counts : t (cond (is_ty r.ty Container) (container_rows (seen_list e.home e.nodes o) then) []) ≡ t (cond (is_ty r.ty Container) (container_rows e.nodes now) [])
    counts = elim (cases_Bool (is_ty r.ty Container)) [
      | inr f ↦ rw f refl
      | inl is ↦
          let told : t (container_rows (seen_list e.home e.nodes o) then) ≡ t (container_rows e.nodes now) =
          ap₂ (λ (cbs cni : Option Data). (Cbs, cbs) ∷ (Cni, cni) ∷ [])
          (dropped Cbs (untold Cbs (never_cbs r.ty) refl refl) (shown_count (sizes_of r.number (seen_list e.home e.nodes o))) (shown_count (sizes_of r.number e.nodes)))
          (dropped Cni (untold Cni (never_cni r.ty) refl refl) (shown_count (length (instances_of r.number (seen_list e.home e.nodes o)))) (shown_count (length (instances_of r.number e.nodes)))) in
          rw is told
    ]

    defaults : t (cond (is_ty r.ty Group) (shown_group_rows then) []) ≡ t (cond (is_ty r.ty Group) (shown_group_rows now) [])
    defaults = elim (cases_Bool (is_ty r.ty Group)) [
      | inr f ↦ rw f refl
      | inl is ↦
          let shown = (seen_shows e.home e.nodes o r).used (uses is) in
          let same : shown_group_rows then ≡ shown_group_rows now = rw (value_seen Csy (shown Csy refl), value_seen Mt (shown Mt refl)) refl in
          ap (λ (b : Bool). t (cond b (shown_group_rows then) [])) is
          ∙ ap t same
          ∙ sym (ap (λ (b : Bool). t (cond b (shown_group_rows now) [])) is)
    ]

    abbrev added_of : EntityData → ResourceData → List Row
    added_of x c = added_rows x.home x.nodes c

    added_seen : t (added_of seeing then) ≡ t (added_of e now)
    added_seen = parts seeing then ∙ ap₂ (λ (xs ys : List NewValue). xs ++ ys) (ap₂ (λ (xs ys : List NewValue). xs ++ ys) (ap₂ (λ (xs ys : List NewValue). xs ++ ys) commons expiries) counts) defaults ∙ sym (parts e now)
      where
        parts : (x : EntityData) (c : ResourceData) → t (added_of x c) ≡ ((t (common_rows x.nodes c) ++ t (cond (is_ty c.ty CseBase) (base_rows x.home) (expiry_rows c))) ++ t (cond (is_ty c.ty Container) (container_rows x.nodes c) [])) ++ t (cond (is_ty c.ty Group) (shown_group_rows c) [])
        parts x c =
            let a = common_rows x.nodes c in
            let b = cond (is_ty c.ty CseBase) (base_rows x.home) (expiry_rows c) in
            let d = cond (is_ty c.ty Container) (container_rows x.nodes c) [] in
            let g = cond (is_ty c.ty Group) (shown_group_rows c) [] in
            t_append ((a ++ b) ++ d) g
            ∙ ap (λ (xs : List NewValue). xs ++ t g) (t_append (a ++ b) d ∙ ap (λ (xs : List NewValue). xs ++ t d) (t_append a b))

    -- each attribute that is told is changed, or shown by the entity
    has_row : (b : Attr) (rows : List Row) → is_touched (row_changes rows) b ≡ list_any (λ (row : Row). is_attr row.0 b) rows
    has_row b [] = refl
    has_row b (row ∷ rows) = ap (λ (x : Bool). is_attr row.0 b || x) (has_row b rows)

    in_added : (b : Attr) → (list_any (λ (row : Row). is_attr row.0 b) (common_rows e.nodes now) || list_any (λ (row : Row). is_attr row.0 b) (expiry_rows now)) ≡ true → is_touched (row_changes (added_of e now)) b ≡ true
    in_added b some =
        let q : Row → Bool = λ row. is_attr row.0 b in
        let a = common_rows e.nodes now in
        let x = cond (is_ty r.ty CseBase) (base_rows e.home) (expiry_rows now) in
        let d = cond (is_ty r.ty Container) (container_rows e.nodes now) [] in
        let g = cond (is_ty r.ty Group) (shown_group_rows now) [] in
        let ends : list_any q x ≡ list_any q (expiry_rows now) = ap (λ (c : Bool). list_any q (cond c (base_rows e.home) (expiry_rows now))) plain in
        let front : list_any q (a ++ x) ≡ true = list_any-append q a x ∙ ap (λ (c : Bool). list_any q a || c) ends ∙ some in
        has_row b (added_of e now)
        ∙ list_any-append q ((a ++ x) ++ d) g
        ∙ or_left _ _ (list_any-append q (a ++ x) d ∙ or_left _ _ front)

    abbrev all_changes : List NewValue
    all_changes = changes_of e es r ++ row_changes (added_of e now)

    is_changed : (b : Attr) → p b ≡ true → is_touched all_changes b ≡ true
    is_changed b told = list_any-append (λ (c : NewValue). is_attr c.0 b) (changes_of e es r) (row_changes (added_of e now)) ∙ elim (or_cases (is_named b es) (is_attr b Lt) told) [
      | inr last ↦
          let it : b ≡ Lt = is_attr-same b Lt last in
          or_right _ _ (ap (is_touched (row_changes (added_of e now))) it ∙ in_added Lt refl)
      | inl named ↦ elim (cases_Bool (is_attr b Et)) [
        | inl end ↦
            let it : b ≡ Et = is_attr-same b Et end in
            or_right _ _ (ap (is_touched (row_changes (added_of e now))) it ∙ in_added Et refl)
        | inr f ↦ or_left _ _ (list_any-append (λ (c : NewValue). is_attr c.0 b) (edit_changes es) (row_changes (given_by e es r)) ∙ or_left _ _ (named_touched es b f named))
      ]
    ]

    told_by : (x : EntityData) (s : ResourceData) → told_rows x es (updated_resource x es s) ≡ with_changes (told_of p (changes_of x es s ++ row_changes (added_of x (updated_resource x es s)))) (rows_of p s.attrs)
    told_by x s =
        let c = updated_resource x es s in
        ap (rows_of p) (given_are (added_of x c) c.attrs
        ∙ ap (with_changes (row_changes (added_of x c))) (attrs_are x es s)
        ∙ sym (changes_then (changes_of x es s) (row_changes (added_of x c)) s.attrs))
        ∙ told_changes p (changes_of x es s ++ row_changes (added_of x c)) s.attrs

    told_all : (x : EntityData) (s : ResourceData) → told_of p (changes_of x es s ++ row_changes (added_of x (updated_resource x es s))) ≡ told_of p (changes_of x es s) ++ t (added_of x (updated_resource x es s))
    told_all x s = map-append (λ (c : NewValue). (c.0, cond (p c.0) c.1 None)) (changes_of x es s) (row_changes (added_of x (updated_resource x es s)))

    told_seen : told_rows seeing es then ≡ told_rows e es now
    told_seen =
        told_by seeing (see r)
        ∙ ap (λ (changes : List NewValue). with_changes changes (rows_of p (see r).attrs))
        (told_all seeing (see r)
        ∙ ap₂ (λ (xs ys : List NewValue). xs ++ ys) (ap (told_of p) changes_seen) added_seen
        ∙ sym (told_all e r))
        ∙ same_told (told_of p all_changes) p (λ b told. touched_told p all_changes b ∙ is_changed b told) (see r).attrs r.attrs
        ∙ sym (told_by e r)

    -- the same is told
    pub content_seen : (rcn : ℤ) → updated_content rcn (sight o e) (named_by Update request r) (updated_resource (sight o e) (named_by Update request r) (seen e.home e.nodes o r)) ≡ updated_content rcn e (named_by Update request r) (updated_resource e (named_by Update request r) r)
    content_seen rcn = ap (λ (rows : List Row). cond (int_eq rcn nothing_wanted) None (Some (wrapped r.ty rows))) told_seen
