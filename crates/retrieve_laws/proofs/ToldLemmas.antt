-- What the members of an object tell of the resources below it.
use Rattle.retrieve_laws.proofs.Words.{◌≡◌, ℕ, List, [], ◌∷◌, ◌++◌, Bool, true, false, cond, not, ◌&&◌, codes, Some, None, Ordering, Less, Equal, Greater, inl, inr, refl, sym, ap, subst, ◌∙◌, insert_entry, AllByRecursion, match_ordering}
use Rattle.retrieve_laws.proofs.Terms.{all_attrs, attr_short, ty_member, Ty, AccessControlPolicy, Ae, Container, ContentInstance, CseBase, Group, PollingChannel, RemoteCse, Subscription, AccessControlPolicyAnnc, AeAnnc, ContainerAnnc, ContentInstanceAnnc, GroupAnnc, Data, Elements, Entry, boolean, element, elements_of, list, no_elements, null, number, object, pairs_of, text, elements, member_of, Row, is_attr, value_of, ResourceData, members_of, with_forest, with_last, Forest, bare, rooted}
use Rattle.retrieve_laws.proofs.Facts.{and_parts, cases_Bool, false_from_ne_true, not-true, true≢false, append_assoc, bytes_eq-Decides, compared, member_of-put_other}
use Rattle.std.proofs.Common.{bytes_eq}
use Rattle.std.proofs.lemmas.Map.Text.{is_eq-slice_cmp}
use Rattle.m2m_names.specs.declared.attributes.Attr.{Attr}
use Rattle.m2m_names.proofs.AttributeLemmas.{attr_again, equal_texts}
use Rattle.policy_eval.specs.Rules.{listed_in}
use Rattle.retrieve_laws.proofs.CutLemmas.{AllIn}
use Rattle.retrieve_laws.specs.Told.{is_type_name, values_among, values_in, values_under}
use Rattle.m2m_names.proofs.LookupLemmas.{found_passes}

-- ---- names of types, and those of attributes

pub type_named : (ty : Ty) → is_type_name (ty_member ty) ≡ true
type_named AccessControlPolicy = refl
type_named Ae = refl
type_named Container = refl
type_named ContentInstance = refl
type_named CseBase = refl
type_named Group = refl
type_named PollingChannel = refl
type_named RemoteCse = refl
type_named Subscription = refl
type_named AccessControlPolicyAnnc = refl
type_named AeAnnc = refl
type_named ContainerAnnc = refl
type_named ContentInstanceAnnc = refl
type_named GroupAnnc = refl

-- a key that names no type is that of none
pub off_types : (key : List ℕ) → is_type_name key ≡ false → (ty : Ty) → bytes_eq key (ty_member ty) ≡ false
off_types key none ty = false_from_ne_true _ (λ t.
    true≢false (sym (type_named ty) ∙ ap is_type_name (sym ((bytes_eq-Decides key (ty_member ty)).0 t)) ∙ none))

-- no attribute is named as a type is, nor as what refers to children
abbrev is_plain_name : Attr → Bool
is_plain_name a = not (is_type_name (attr_short a)) && not (bytes_eq (codes "ch") (attr_short a))

record IsPlainName (a : Attr) : Type 0 where
  no_type : is_type_name (attr_short a) ≡ false
  no_reference : bytes_eq (codes "ch") (attr_short a) ≡ false

plain_name : (a : Attr) → IsPlainName a
plain_name a =
    let is : is_plain_name a ≡ true = found_passes (λ b. bytes_eq (attr_short b) (attr_short a)) is_plain_name all_attrs a (attr_again a) refl in
    let parts = and_parts (not (is_type_name (attr_short a))) (not (bytes_eq (codes "ch") (attr_short a))) is in
    record { no_type = not-true _ parts.0; no_reference = not-true _ parts.1 }

pub no_type_name : (a : Attr) → is_type_name (attr_short a) ≡ false
no_type_name a = (plain_name a).no_type

no_reference_name : (a : Attr) → bytes_eq (codes "ch") (attr_short a) ≡ false
no_reference_name a = (plain_name a).no_reference

-- ---- attributes alone

pub none_under : (rows : List Row) → values_under (pairs_of (members_of rows)) ≡ []
none_under [] = refl
none_under (row ∷ rows) = rw (no_type_name row.0) (none_under rows)

pub none_referred : (rows : List Row) → member_of (codes "ch") (members_of rows) ≡ None
none_referred [] = refl
none_referred (row ∷ rows) = rw (no_reference_name row.0) (none_referred rows)

-- the member of an attribute has its value
pub member_of-members_of : (a : Attr) (rows : List Row) → member_of (attr_short a) (members_of rows) ≡ value_of a rows
member_of-members_of a [] = refl
member_of-members_of a (row ∷ rows) =
    let same : is_attr a row.0 ≡ bytes_eq (attr_short a) (attr_short row.0) = is_eq-slice_cmp (attr_short a) (attr_short row.0) in
    ap (λ b. cond b (Some row.1) (member_of (attr_short a) (members_of rows))) (sym same)
    ∙ ap (cond (is_attr a row.0) (Some row.1)) (member_of-members_of a rows)

-- ---- descendants

-- where nothing but what types name is put in, another member stays
pub kept_beside : (members : ResourceData → List Entry) (key : List ℕ) → is_type_name key ≡ false → (f : Forest) (es : List Entry) → member_of key (with_forest members f es) ≡ member_of key es
kept_beside members key none bare es = refl
kept_beside members key none (rooted r kids more) es =
    let inner : Data = object (pairs_of (with_forest members kids (members r))) in
    kept_beside members key none more (with_last (ty_member r.ty) inner es)
    ∙ member_of-put_other (ty_member r.ty) key es (list (elements_of (listed_in (member_of (ty_member r.ty) es) ++ inner ∷ []))) (off_types key none r.ty)

among-append : (xs ys : List Data) → values_among (elements_of (xs ++ ys)) ≡ values_among (elements_of xs) ++ values_among (elements_of ys)
among-append [] ys = refl
among-append (x ∷ xs) ys =
    ap (λ ds. values_in x ++ ds) (among-append xs ys)
    ∙ sym (append_assoc (values_in x) (values_among (elements_of xs)) (values_among (elements_of ys)))

among-elements : (es : Elements) → values_among (elements_of (elements es)) ≡ values_among es
among-elements no_elements = refl
among-elements (element d es) = ap (λ ds. values_in d ++ ds) (among-elements es)

-- what holds of all objects under members that are put in one after another
module _ (Q : Data → Type 0) where
  abbrev pub AllOf : List Data → Type 0
  AllOf ds = AllByRecursion Q ds

  abbrev pub AllUnder : List Entry → Type 0
  AllUnder es = AllOf (values_under (pairs_of es))

  pub both : (xs ys : List Data) → AllOf xs → AllOf ys → AllOf (xs ++ ys)
  both [] ys first second = second
  both (x ∷ xs) ys first second = (first.0, both xs ys first.1 second)

  parted : (xs ys : List Data) → AllOf (xs ++ ys) → AllOf xs × AllOf ys
  parted [] ys all = (tt, all)
  parted (x ∷ xs) ys all = (let rest = parted xs ys all.1 in ((all.0, rest.0), rest.1))

  -- those that one member tells
  abbrev told_by : Entry → List Data
  told_by e = cond (is_type_name e.0) (values_in e.1) []

  put_at : (o : Ordering) (key : List ℕ) (v : Data) (e : Entry) (es rest : List Entry) → compared key e.0 ≡ o → AllOf (told_by (key, v)) → AllUnder (e ∷ es) → AllUnder rest
      → AllUnder (match_ordering o ((key, v) ∷ e ∷ es) ((e.0, v) ∷ es) (e ∷ rest))
  put_at Less key v e es rest is own all more = both (told_by (key, v)) (values_under (pairs_of (e ∷ es))) own all
  put_at Equal key v e es rest is own all more =
      both (told_by (e.0, v)) (values_under (pairs_of es))
      (subst (λ k. AllOf (told_by (k, v))) (equal_texts key e.0 is) own)
      (parted (told_by e) (values_under (pairs_of es)) all).1
  put_at Greater key v e es rest is own all more =
      both (told_by e) (values_under (pairs_of rest)) (parted (told_by e) (values_under (pairs_of es)) all).0 more

  pub under_put : (es : List Entry) (key : List ℕ) (v : Data) → AllOf (told_by (key, v)) → AllUnder es → AllUnder (insert_entry compared es key v)
  under_put [] key v own all = both (told_by (key, v)) [] own tt
  under_put (e ∷ es) key v own all =
      put_at _ key v e es (insert_entry compared es key v) refl own all
      (under_put es key v own (parted (told_by e) (values_under (pairs_of es)) all).1)

  listed_there : (d : Data) → AllOf (values_in d) → AllOf (values_among (elements_of (listed_in (Some d))))
  listed_there null all = tt
  listed_there (boolean b) all = tt
  listed_there (number z) all = tt
  listed_there (text s) all = tt
  listed_there (list es) all = subst AllOf (sym (among-elements es)) all
  listed_there (object ps) all = tt

  listed_at : (key : List ℕ) (es : List Entry) → is_type_name key ≡ true → AllUnder es → AllOf (values_among (elements_of (listed_in (member_of key es))))
  listed_at key [] name all = tt
  listed_at key (e ∷ es) name all =
      let parts = parted (told_by e) (values_under (pairs_of es)) all in
      elim (cases_Bool (bytes_eq key e.0)) [
        | inl t ↦
            let named : is_type_name e.0 ≡ true = ap is_type_name (sym ((bytes_eq-Decides key e.0).0 t)) ∙ name in
            rw t (listed_there e.1 (subst (λ b. AllOf (cond b (values_in e.1) [])) named parts.0))
        | inr f ↦ rw f (listed_at key es name parts.1)
      ]

  under_last : (key : List ℕ) (d : Data) (es : List Entry) → is_type_name key ≡ true → AllOf (values_in d) → AllUnder es → AllUnder (with_last key d es)
  under_last key d es name own all =
      let earlier = listed_in (member_of key es) in
      let told : AllOf (values_among (elements_of (earlier ++ d ∷ []))) =
      subst AllOf (sym (among-append earlier (d ∷ [])))
      (both (values_among (elements_of earlier)) (values_in d ++ []) (listed_at key es name all) (both (values_in d) [] own tt)) in
      under_put es key (list (elements_of (earlier ++ d ∷ [])))
      (subst (λ b. AllOf (cond b (values_among (elements_of (earlier ++ d ∷ []))) [])) (sym name) told) all

  -- where it holds of each object of a forest by itself, and of what members tell at first
  pub under_forest : (P : ResourceData → Type 0) (members : ResourceData → List Entry) → ((r : ResourceData) (kids : Forest) → P r → Q (object (pairs_of (with_forest members kids (members r))))) → ((r : ResourceData) → AllUnder (members r))
      → (f : Forest) (es : List Entry) → AllIn P f → AllUnder es → AllUnder (with_forest members f es)
  under_forest P members own base bare es all before = before
  under_forest P members own base (rooted r kids more) es all before =
      let inner : Data = object (pairs_of (with_forest members kids (members r))) in
      under_forest P members own base more (with_last (ty_member r.ty) inner es) all.1.1
      (under_last (ty_member r.ty) inner es (type_named r.ty) (own r kids all.0, under_forest P members own base kids (members r) all.1.0 (base r)) before)
