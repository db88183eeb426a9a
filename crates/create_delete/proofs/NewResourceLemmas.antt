-- What a new resource keeps: policies that are known, and attributes of their kinds.
use Rattle.std.specs.Prelude.{◌==◌, nat_le, nat_lt}
use Rattle.std.proofs.Common.{◌≡◌, ℕ, ◌+◌, ◌-◌, ◌^◌, ◌<◌, ◌≤◌, List, [], ◌∷◌, ◌++◌, length, length-append, map, Bool, true, false, Option, Some, None, is_some, option_and_then, unwrap_or, IfSome, if◌then◌else◌, codes, inl, inr, refl, sym, ap, ◌∙◌, arith}
use Rattle.std.specs.Prelude.{◌||◌, bytes_eq}
use Rattle.std.proofs.lemmas.Bool.{cases_Bool, and_parts, and_from, both_ways, not_from_false, lt-ltb, le-leb, leb-true, eqb-true}
use Rattle.std.proofs.lemmas.List.{nil_from_length}
use Rattle.std.proofs.lemmas.List.Folds.{list_all-append}
use Rattle.std.proofs.lemmas.Bool.Decides.{nat_tests}
use Rattle.std.proofs.lemmas.Fmt.{length-decimal-le}
use Rattle.std.proofs.lemmas.Option.{same_Some}
use Rattle.std.specs.Char.{is_ascii_graphic}
use Rattle.std.specs.Fmt.{decimal}
use Rattle.std.specs.List.{list_all, filter_map, cons_option}
use Rattle.std.specs.Option.{option_map_or}
use Rattle.m2m_names.specs.Attributes.{attr_short}
use Rattle.m2m_names.specs.Ids.{id_text}
use Rattle.m2m_names.specs.Name.{is_free_name, is_one_of, is_originator, is_unreserved, address_marks, virtual_names}
use Rattle.m2m_names.specs.Types.{ty_row}
use Rattle.m2m_names.specs.declared.attributes.Attr.{Attr}
use Rattle.m2m_names.specs.declared.attributes.Attr.TheVariants.{Acpi, Aei, Cr, Cs, Macp, Rn, St}
use Rattle.m2m_names.specs.declared.types.Ty.{Ty}
use Rattle.m2m_names.specs.declared.types.Ty.TheVariants.{AccessControlPolicy, Ae, Container, ContentInstance, CseBase, Group, PollingChannel, RemoteCse, Subscription, AccessControlPolicyAnnc, AeAnnc, ContainerAnnc, ContentInstanceAnnc, GroupAnnc}
use Rattle.m2m_names.proofs.NumeralLemmas.{decimal_passes}
use Rattle.m2m_value.specs.Data.{Data, Entry, text, list, elements_of}
use Rattle.m2m_value.specs.Node.{AreSorted}
use Rattle.m2m_value.specs.View.{as_text, member_of}
use Rattle.m2m_value.proofs.Levels.{elements-elements_of}
use Rattle.resource_model.specs.Attributes.{Row, is_attr, value_of}
use Rattle.resource_model.specs.Resource.{ResourceData, is_ty, id_of}
use Rattle.resource_model.proofs.AttributeLemmas.{value-with_value_same}
use Rattle.tree_model.specs.Shown.{with_rows}
use Rattle.tree_model.specs.Tree.{at, has}
use Rattle.tree_model.proofs.GrowthLemmas.{below_has}
use Rattle.tree_model.proofs.TreeLemmas.{at_has, at_number}
use Rattle.attribute_kinds.specs.Kinds.{has_kind}
use Rattle.attribute_kinds.specs.declared.kinds.Kind.{Kind}
use Rattle.attribute_kinds.specs.declared.kinds.Kind.TheVariants.{Originator, Policies}
use Rattle.attribute_rules.specs.Admission.{are_admitted, is_named}
use Rattle.attribute_rules.specs.Contents.{is_apart, is_no_policy, named_text, wanted_in}
use Rattle.attribute_rules.specs.Kinds.{is_attr_kind, have_kinds, kind_of}
use Rattle.attribute_rules.specs.declared.table.Writing.TheVariants.{Create as Creating}
use Rattle.attribute_rules.proofs.AdmittedLemmas.{free_name, members_keep_policies, members_keep_fan_policies, members_keep_creator}
use Rattle.attribute_rules.proofs.KindLemmas.{created_members, kinds-with_value}
use Rattle.attribute_rules.proofs.ValueLemmas.{value_wanted}
use Rattle.policy_eval.specs.Rules.{listed_in, policy_at}
use Rattle.policy_eval.proofs.NameLemmas.{policy_number-id_of}
use Rattle.addressing.proofs.NameLemmas.{digits_are_plain}
use Rattle.addressing.specs.Laws.{spot_named}
use Rattle.addressing.specs.declared.spot.Spot.{Spot}
use Rattle.addressing.specs.declared.spot.Spot.TheVariants.{Resource, Fan, Poll}
use Rattle.entity_model.specs.Entity.{EntityData}
use Rattle.entity_model.specs.Sound.{is_known_id, IsSoundEntity}
use Rattle.request_rules.specs.Creation.{Creation, ae_stem, creator_rows, given_rows, is_ae_id, s_stem, new_ae_id, new_name, new_rows, own_name, new_size, next_state, rows_besides}
use Rattle.request_rules.specs.Policies.{link_row, listed, policy_addressed, policy_ids, policy_meant, policy_on}
use Rattle.request_rules.specs.Groups.{MembershipData, are_few, group_rows, member_rows, membership_new}
use Rattle.create_delete.proofs.MemberLemmas.{new_members_kinds}
use Rattle.create_delete.proofs.RowLemmas.{lacks_attr}
use Rattle.create_delete.proofs.UpdatedRowLemmas.{lacks_members}

-- ---- which attributes are put in

-- an attribute that the CSE gives no resource at creation
pub lacks_given : (a : Attr) (ty : Ty) (c : Creation) → is_attr Aei a ≡ false → is_attr St a ≡ false → is_attr Cs a ≡ false → ((m : MembershipData) → lacks_attr a (member_rows c.e m) ≡ true) → lacks_attr a (given_rows ty c) ≡ true
lacks_given a Ae c aei st cs members = and_from _ _ (not_from_false _ aei) refl
lacks_given a Container c aei st cs members = and_from _ _ (not_from_false _ st) refl
lacks_given a ContentInstance c aei st cs members = and_from _ _ (not_from_false _ cs) (and_from _ _ (not_from_false _ st) refl)
lacks_given a Group c aei st cs members = lacks_members a c.e (membership_new c) members
lacks_given a _ c aei st cs members = refl

pub lacks_creator : (a : Attr) (o : List ℕ) (es : List Entry) → is_attr Cr a ≡ false → lacks_attr a (creator_rows o es) ≡ true
lacks_creator a o es cr = elim (cases_Bool (is_named Cr es)) [
  | inl t ↦ rw t (and_from _ _ (not_from_false _ cr) refl)
  | inr f ↦ rw f refl
]

pub lacks_link : (a b : Attr) (e : EntityData) (es : List Entry) → is_attr b a ≡ false → lacks_attr a (link_row e es b) ≡ true
lacks_link a b e es other = elim (cases_Bool (length (listed b es) == 0)) [
  | inl t ↦ rw t refl
  | inr f ↦ rw f (and_from _ _ (not_from_false _ other) refl)
]

-- ---- kinds

-- rows of their kinds that are put in
pub kinds-with_rows : (ty : Ty) (more rows : List Row) → list_all (is_attr_kind ty) more ≡ true → have_kinds ty rows ≡ true → have_kinds ty (with_rows more rows) ≡ true
kinds-with_rows ty [] rows new old = old
kinds-with_rows ty (row ∷ more) rows new old =
    let parts = and_parts (is_attr_kind ty row) (list_all (is_attr_kind ty) more) new in
    kinds-with_rows ty more _ parts.1 (kinds-with_value ty row rows parts.0 old)

-- ---- policies

-- what an address leads to is a policy of the entity
pub record IsPolicyOf (nodes : List ResourceData) (p : ResourceData) : Type 0 where
  pub there : has p.number nodes ≡ true
  pub ty : is_ty p.ty AccessControlPolicy ≡ true

policy_found : (nodes : List ResourceData) (n : ℕ) (p : ResourceData) → policy_at nodes n ≡ Some p → IsPolicyOf nodes p
policy_found nodes n p found = by_found (at n nodes) refl found
  where
    by_found : (o : Option ResourceData) → at n nodes ≡ o → option_and_then (λ (r : ResourceData). if is_ty r.ty AccessControlPolicy then Some r else None) o ≡ Some p → IsPolicyOf nodes p
    by_found None is t = cc
    by_found (Some r) is t = elim (cases_Bool (is_ty r.ty AccessControlPolicy)) [
      | inl ok ↦
          let same : r ≡ p = same_Some r p (rw ok at t) in
          record {
            there = ap (λ (x : ResourceData). has x.number nodes) (sym same) ∙ ap (λ (m : ℕ). has m nodes) (at_number n nodes r is) ∙ at_has n nodes r is;
            ty = ap (λ (x : ResourceData). is_ty x.ty AccessControlPolicy) (sym same) ∙ ok;
          }
      | inr other ↦ (let none : None ≡ Some p = rw other at t in cc)
    ]

and_then_some : {X Y : Type 0} (f : X → Option Y) (o : Option X) (y : Y) → option_and_then f o ≡ Some y → (x : X) × (o ≡ Some x) × (f x ≡ Some y)
and_then_some f None y t = cc
and_then_some f (Some x) y t = (x, refl, t)

spot_policy : (nodes : List ResourceData) (spot : Spot) (p : ResourceData) → policy_on nodes spot ≡ Some p → IsPolicyOf nodes p
spot_policy nodes (Resource n) p found = policy_found nodes n p found
spot_policy nodes (Fan group rest) p found = cc
spot_policy nodes (Poll channel) p found = cc

meant_found : (e : EntityData) (d : Data) (p : ResourceData) → policy_meant e d ≡ Some p → IsPolicyOf e.nodes p
meant_found e d p found =
    let address = and_then_some (policy_addressed e) (as_text d) p found in
    let spot = and_then_some (policy_on e.nodes) (spot_named e.home address.0 e.nodes) p address.2 in
    spot_policy e.nodes spot.0 p spot.2

-- the id of a policy that is there is known
id_known : (e : EntityData) (p : ResourceData) → IsSoundEntity e → IsPolicyOf e.nodes p → is_known_id e.next (text (id_of p)) ≡ true
id_known e p sound policy =
    let below : p.number < e.next = below_has e.next p.number e.nodes sound.numbers policy.there in
    let most : e.next ≤ 2 ^ 63 - 1 = sound.next in
    ap (λ (o : Option ℕ). option_map_or (λ n. nat_lt n e.next) o true) (policy_number-id_of p policy.ty (omega arith))
    ∙ lt-ltb p.number e.next below

-- the ids of those that addresses lead to are known
policies_known : (e : EntityData) (ds : List Data) → IsSoundEntity e → list_all (is_known_id e.next) (policy_ids e ds) ≡ true
policies_known e [] sound = refl
policies_known e (d ∷ ds) sound = by_meant (policy_meant e d) refl (policies_known e ds sound)
  where
    by_meant : (o : Option ResourceData) → policy_meant e d ≡ o → list_all (is_known_id e.next) (policy_ids e ds) ≡ true → list_all (is_known_id e.next) (map (λ (p : ResourceData). text (id_of p)) (cons_option o (filter_map (policy_meant e) ds))) ≡ true
    by_meant None is rest = rest
    by_meant (Some p) is rest = and_from _ _ (id_known e p sound (meant_found e d p is)) rest

-- and they are texts
policies_texts : (e : EntityData) (ds : List Data) → list_all (λ d. is_some (as_text d)) (policy_ids e ds) ≡ true
policies_texts e ds = each (filter_map (policy_meant e) ds)
  where
    each : (ps : List ResourceData) → list_all (λ d. is_some (as_text d)) (map (λ (p : ResourceData). text (id_of p)) ps) ≡ true
    each [] = refl
    each (p ∷ ps) = each ps

-- ---- an attribute that names policies

-- what it names is known after it is put in, where that holds where nothing is put in
pub link_known : (e : EntityData) (es : List Entry) (a : Attr) (rows : List Row) → IsSoundEntity e → ((length (listed a es) == 0) ≡ true → list_all (is_known_id e.next) (listed_in (value_of a rows)) ≡ true) → list_all (is_known_id e.next) (listed_in (value_of a (with_rows (link_row e es a) rows))) ≡ true
link_known e es a rows sound none = elim (cases_Bool (length (listed a es) == 0)) [
  | inl t ↦ rw t (none t)
  | inr f ↦
      let ids : List Data = policy_ids e (listed a es) in
      let is : listed_in (value_of a (with_rows (link_row e es a) rows)) ≡ ids =
      rw f (ap listed_in (value-with_value_same a (list (elements_of ids)) rows) ∙ elements-elements_of ids) in
      ap (list_all (is_known_id e.next)) is ∙ policies_known e (listed a es) sound
]

-- what a creation keeps of an attribute that names none
nothing_listed : (o : Option Data) (leaves : Data → Bool) → (length (listed_in o) == 0) ≡ true → listed_in (option_and_then (λ d. if leaves d then None else Some d) o) ≡ []
nothing_listed None leaves t = refl
nothing_listed (Some d) leaves t = elim (cases_Bool (leaves d)) [
  | inl u ↦ rw u refl
  | inr v ↦ rw v (nil_from_length (listed_in (Some d)) (eqb-true (length (listed_in (Some d))) 0 t))
]

pub wanted_none : (a : Attr) (es : List Entry) → AreSorted es → (length (listed a es) == 0) ≡ true → listed_in (value_of a (wanted_in es).attrs) ≡ []
wanted_none a es sorted t = ap listed_in (value_wanted a es sorted) ∙ nothing_listed (member_of (attr_short a) es) (λ d. is_apart a || is_no_policy a d) t

-- ---- kinds of what is put in

pub link_kind : (e : EntityData) (es : List Entry) (a : Attr) (ty : Ty) → (is_named a es ≡ true → kind_of ty a ≡ Some Policies) → list_all (is_attr_kind ty) (link_row e es a) ≡ true
link_kind e es a ty keeps = elim (cases_Bool (length (listed a es) == 0)) [
  | inl t ↦ rw t refl
  | inr f ↦
      let ids : List Data = policy_ids e (listed a es) in
      let kind : kind_of ty a ≡ Some Policies = keeps (names_it (member_of (attr_short a) es) f) in
      let fits : has_kind Policies (list (elements_of ids)) ≡ true = ap (list_all (λ d. is_some (as_text d))) (elements-elements_of ids) ∙ policies_texts e (listed a es) in
      rw f (and_from _ _ (ap (λ (o : Option Kind). option_map_or (λ kind. has_kind kind (list (elements_of ids))) o false) kind ∙ fits) refl)
]
  where
    names_it : (o : Option Data) → (length (listed_in o) == 0) ≡ false → is_some o ≡ true
    names_it None f = absurd (both_ways _ f refl)
    names_it (Some d) f = refl

creator_kind : (o : List ℕ) (es : List Entry) (ty : Ty) → is_originator o ≡ true → (is_named Cr es ≡ true → kind_of ty Cr ≡ Some Originator) → list_all (is_attr_kind ty) (creator_rows o es) ≡ true
creator_kind o es ty originator keeps = elim (cases_Bool (is_named Cr es)) [
  | inl t ↦ rw t (and_from _ _ (ap (λ (k : Option Kind). option_map_or (λ kind. has_kind kind (text o)) k false) (keeps t) ∙ originator) refl)
  | inr f ↦ rw f refl
]

-- the AE-ID that is given is an originator
digit_is_graphic : (d : ℕ) → d < 10 → is_ascii_graphic (48 + d) ≡ true
digit_is_graphic d digit = grind (arith, nat_tests)

digits_are_graphic : (n : ℕ) → n < 2 ^ 63 → list_all is_ascii_graphic (decimal n) ≡ true
digits_are_graphic = decimal_passes is_ascii_graphic digit_is_graphic

stem_id : (stem : List ℕ) (n : ℕ) → (length stem ≡ 1) × (list_all is_ascii_graphic stem ≡ true) → n < 2 ^ 63 → is_originator (stem ++ id_text Ae n) ≡ true
stem_id stem n plain small =
    let most : length (decimal n) ≤ 19 = length-decimal-le 19 n (omega arith) (omega (arith, small)) (omega (arith, small)) in
    let id : length (id_text Ae n) ≡ 2 + length (decimal n) = length-append (codes "ae") (decimal n) in
    let all : length (stem ++ id_text Ae n) ≡ length stem + length (id_text Ae n) = length-append stem (id_text Ae n) in
    let one : length stem ≡ 1 = plain.0 in
    and_from _ _
    (and_from _ _ (lt-ltb 0 (length (stem ++ id_text Ae n)) (omega (arith, one, all))) (le-leb (length (stem ++ id_text Ae n)) 256 (omega (arith, one, most, id, all))))
    (list_all-append is_ascii_graphic stem (id_text Ae n) ∙ and_from _ _ plain.1 (list_all-append is_ascii_graphic (codes "ae") (decimal n) ∙ and_from _ _ refl (digits_are_graphic n small)))

stem_plain : (o : List ℕ) → (length (ae_stem o) ≡ 1) × (list_all is_ascii_graphic (ae_stem o) ≡ true)
stem_plain o = elim (cases_Bool (bytes_eq o s_stem)) [
  | inl t ↦ rw t (refl, refl)
  | inr f ↦ rw f (refl, refl)
]

pub ae_id_originator : (c : Creation) → is_originator c.originator ≡ true → c.e.next < 2 ^ 63 → is_originator (new_ae_id c) ≡ true
ae_id_originator c originator small = elim (cases_Bool (is_ae_id c.originator)) [
  | inl t ↦ rw t originator
  | inr f ↦ rw f (stem_id (ae_stem c.originator) c.e.next (stem_plain c.originator) small)
]

-- ---- names

-- the short word of a type, `_` and digits make a name that addresses nothing else
record IsWord (word : List ℕ) : Type 0 where
  short : nat_le (length word) 4 ≡ true
  plain : list_all is_unreserved word ≡ true
  apart : (ds : List ℕ) → (is_one_of virtual_names (word ++ codes "_" ++ ds) || is_one_of address_marks (word ++ codes "_" ++ ds)) ≡ false

word_of : (ty : Ty) → IsWord (ty_row ty).word
word_of AccessControlPolicy = record { short = refl; plain = refl; apart = λ ds. refl }
word_of Ae = record { short = refl; plain = refl; apart = λ ds. refl }
word_of Container = record { short = refl; plain = refl; apart = λ ds. refl }
word_of ContentInstance = record { short = refl; plain = refl; apart = λ ds. refl }
word_of CseBase = record { short = refl; plain = refl; apart = λ ds. refl }
word_of Group = record { short = refl; plain = refl; apart = λ ds. refl }
word_of PollingChannel = record { short = refl; plain = refl; apart = λ ds. refl }
word_of RemoteCse = record { short = refl; plain = refl; apart = λ ds. refl }
word_of Subscription = record { short = refl; plain = refl; apart = λ ds. refl }
word_of AccessControlPolicyAnnc = record { short = refl; plain = refl; apart = λ ds. refl }
word_of AeAnnc = record { short = refl; plain = refl; apart = λ ds. refl }
word_of ContainerAnnc = record { short = refl; plain = refl; apart = λ ds. refl }
word_of ContentInstanceAnnc = record { short = refl; plain = refl; apart = λ ds. refl }
word_of GroupAnnc = record { short = refl; plain = refl; apart = λ ds. refl }

numbered_is_free : (word : List ℕ) (n : ℕ) → IsWord word → n < 2 ^ 63 → is_free_name (word ++ codes "_" ++ decimal n) ≡ true
numbered_is_free word n is small =
    let text : List ℕ = word ++ codes "_" ++ decimal n in
    let most : length (decimal n) ≤ 19 = length-decimal-le 19 n (omega arith) (omega (arith, small)) (omega (arith, small)) in
    let few : length word ≤ 4 = leb-true (length word) 4 is.short in
    let front : length (word ++ codes "_") ≡ length word + 1 = length-append word (codes "_") in
    let all : length text ≡ length (word ++ codes "_") + length (decimal n) = length-append (word ++ codes "_") (decimal n) in
    and_from _ _
    (and_from _ _
    (and_from _ _ (lt-ltb 0 (length text) (omega (arith, all, front))) (le-leb (length text) 64 (omega (arith, all, front, few, most))))
    (list_all-append is_unreserved (word ++ codes "_") (decimal n) ∙ and_from _ _ (list_all-append is_unreserved word (codes "_") ∙ and_from _ _ is.plain refl) (digits_are_plain n small)))
    (not_from_false _ (is.apart (decimal n)))

-- the name that is given, and the one that is made
named_or : (o : Option (List ℕ)) (own : List ℕ) → IfSome o (λ s. is_free_name s ≡ true) → is_free_name own ≡ true → is_free_name (unwrap_or o own) ≡ true
named_or None own given made = made
named_or (Some s) own given made = given

pub new_name_is_free : (c : Creation) → c.e.next < 2 ^ 63 → are_admitted Creating c.ty c.named ≡ true → is_free_name (new_name c) ≡ true
new_name_is_free c small admitted =
    named_or (named_text Rn c.named) (own_name c.ty c.e.next) (free_name c.ty c.named admitted) (numbered_is_free (ty_row c.ty).word c.e.next (word_of c.ty) small)

count_kind : (n : ℕ) → n < 2 ^ 63 → nat_lt n (2 ^ 63) ≡ true
count_kind n small = lt-ltb n (2 ^ 63) small

given_kind : (ty : Ty) (c : Creation) → is_originator c.originator ≡ true → c.e.next < 2 ^ 63 → (is_ty ty ContentInstance ≡ true → new_size c < 2 ^ 63) → next_state c.parent < 2 ^ 63 → (is_ty ty Group ≡ true → list_all (is_attr_kind Group) (group_rows c.e (membership_new c)) ≡ true) → list_all (is_attr_kind ty) (given_rows ty c) ≡ true
given_kind Ae c originator few size state members = and_from _ _ (ae_id_originator c originator few) refl
given_kind Container c originator few size state members = refl
given_kind ContentInstance c originator few size state members = and_from _ _ (count_kind (new_size c) (size refl)) (and_from _ _ (count_kind (next_state c.parent) state) refl)
given_kind Group c originator few size state members = members refl
given_kind _ c originator few size state members = refl

pub state_small : (r : ResourceData) → next_state r < 2 ^ 63
state_small r = grind arith

-- all that a new resource keeps is of its kinds
pub new_kinds : (c : Creation) → is_originator c.originator ≡ true → c.e.next < 2 ^ 63 → (is_ty c.ty ContentInstance ≡ true → new_size c < 2 ^ 63) → AreSorted c.named → option_map_or are_few (membership_new c) true ≡ true → are_admitted Creating c.ty c.named ≡ true → have_kinds c.ty (new_rows c) ≡ true
new_kinds c originator few size sorted members admitted =
    kinds-with_rows c.ty (rows_besides c) (wanted_in c.named).attrs
    (list_all-append (is_attr_kind c.ty) ((given_rows c.ty c ++ creator_rows c.originator c.named) ++ link_row c.e c.named Acpi) (link_row c.e c.named Macp)
    ∙ and_from _ _
    (list_all-append (is_attr_kind c.ty) (given_rows c.ty c ++ creator_rows c.originator c.named) (link_row c.e c.named Acpi)
    ∙ and_from _ _
    (list_all-append (is_attr_kind c.ty) (given_rows c.ty c) (creator_rows c.originator c.named)
    ∙ and_from _ _ (given_kind c.ty c originator few size (state_small c.parent) (λ group. new_members_kinds c group sorted admitted members)) (creator_kind c.originator c.named c.ty originator (members_keep_creator Creating c.ty c.named admitted)))
    (link_kind c.e c.named Acpi c.ty (members_keep_policies Creating c.ty c.named admitted)))
    (link_kind c.e c.named Macp c.ty (members_keep_fan_policies Creating c.ty c.named admitted)))
    (created_members c.ty c.named admitted)
