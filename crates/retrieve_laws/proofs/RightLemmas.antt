-- What replies tell of other resources is told by right.
use Rattle.retrieve_laws.proofs.Words.{◌≡◌, ℕ, zero, suc, ℤ, pos, List, [], ◌∷◌, ◌++◌, map, take, Bool, true, false, cond, not, Option, Some, None, codes, refl, sym, ap, subst, ◌∙◌, arith, Contains, unwrap_or, insert_entry, AllByRecursion, filter, option_map_or, int_eq}
use Rattle.retrieve_laws.proofs.Terms.{attr_short, Ri, NoPrivilege, NotFound, Ty, Data, Entry, elements_of, object, pairs_of, as_text, entries, member_of, text_or_empty, FilterParts, ReplyParts, RequestParts, HomeData, ResourceData, id_of, shown_rows, under_type, at, children_of, is_under, discovery_bit, grants, retrieve_bit, meets_any, wanted_content, content, may_retrieve, members, most_shown, reference, references, references_alone, referred, shown_forest, whole, with_forest, with_references, Forest, below, forest_of, address, address_in, address_list, found, found_addresses, is_found, most_listed, most_of, discovered, is_by_id, refusal, retrieved, retrieved_of, success}
use Rattle.retrieve_laws.proofs.Facts.{append-nil, All-contains, All-from_recursion, elements-elements_of, entries-pairs_of, compared, member_of-put, in_order-tree, found_parts}
use Rattle.m2m_names.specs.Members.{rce_name, uril_name}
use Rattle.m2m_names.specs.declared.codes.Rsc.{Rsc}
use Rattle.tree_model.proofs.ShownLemmas.{shown_value}
use Rattle.retrieve_laws.specs.Guard.{AreNamedByRight, HasOwnAddresses, IsNamedByRight, IsShownByRight, OthersAreShownByRight}
use Rattle.retrieve_laws.specs.Told.{addresses_in, ids_below, ids_shown, is_object, listed_parts, references_in, references_shown, shown_id, shown_reference, unframed, values_among, values_under}
use Rattle.retrieve_laws.proofs.CutLemmas.{all-cut, all-forest_of}
use Rattle.retrieve_laws.proofs.NamedLemmas.{its_address, named_by_right}
use Rattle.retrieve_laws.proofs.FoundLemmas.{Each, IsFound, each-filter, each_found}
use Rattle.retrieve_laws.proofs.ReachLemmas.{each_below_found}
use Rattle.retrieve_laws.proofs.ToldLemmas.{AllOf, AllUnder, kept_beside, member_of-members_of, no_type_name, none_referred, none_under, off_types, under_forest, under_put}

-- ---- what an object under the name of a type tells

unframed_under : (ty : Ty) (ms : List Entry) → unframed (under_type ty ms) ≡ under_type ty ms
unframed_under ty ms = rw (off_types rce_name refl ty) refl

pub ids_under : (ty : Ty) (ms : List Entry) → ids_below (under_type ty ms) ≡ map shown_id (values_under (pairs_of ms))
ids_under ty ms = ap ids_shown (unframed_under ty ms) ∙ ap (map shown_id) (append-nil (values_under (pairs_of ms)))

pub references_under : (ty : Ty) (ms : List Entry) → references_in (under_type ty ms) ≡ map shown_reference (listed_parts (member_of (codes "ch") ms))
references_under ty ms =
    ap references_shown (unframed_under ty ms)
    ∙ ap (map shown_reference) (append-nil (listed_parts (member_of (codes "ch") (entries (pairs_of ms)))))
    ∙ ap (λ es. map shown_reference (listed_parts (member_of (codes "ch") es))) (entries-pairs_of ms)

pub addresses_under : (ty : Ty) (ms : List Entry) → addresses_in (under_type ty ms) ≡ []
addresses_under ty ms = rw (off_types uril_name refl ty) refl

-- ---- lists of addresses

nothing_in : {A : Type 0} (x : A) → Contains [] x → ⊥
nothing_in x there = omega (arith, there.1)

each-take : (P : ResourceData → Type 0) (m : ℕ) (rs : List ResourceData) → Each P rs → Each P (take m rs)
each-take P zero [] each = tt
each-take P zero (r ∷ rs) each = tt
each-take P (suc m) [] each = tt
each-take P (suc m) (r ∷ rs) each = (each.0, each-take P m rs each.1)

module _ (home : HomeData) (nodes : List ResourceData) (o : List ℕ) (own : HasOwnAddresses nodes) where
  abbrev IsNamed : ℕ → List ℕ → Type 0
  IsNamed bits address = IsNamedByRight home nodes o bits address

  told_of : (bits : ℕ) (f : Data → List ℕ) (ds : List Data) → AllByRecursion (λ d. IsNamed bits (f d)) ds → AllByRecursion (IsNamed bits) (map f ds)
  told_of bits f [] all = tt
  told_of bits f (d ∷ ds) all = (all.0, told_of bits f ds all.1)

  are_named : (bits : ℕ) (addresses : List (List ℕ)) → AllByRecursion (IsNamed bits) addresses → AreNamedByRight home nodes o bits addresses
  are_named bits addresses all = λ address there. All-contains (IsNamed bits) addresses address (All-from_recursion (IsNamed bits) addresses all) there

  none_named : (bits : ℕ) (addresses : List (List ℕ)) → addresses ≡ [] → AreNamedByRight home nodes o bits addresses
  none_named bits addresses none = λ address there. absurd (nothing_in address (rw none at there))

  -- resources with the right, by their addresses
  abbrev IsGranted : ℕ → ResourceData → Type 0
  IsGranted bits r = IsFound nodes r × (grants home nodes o bits r.number ≡ true)

  by_address : (by_id : Bool) (bits : ℕ) (r : ResourceData) → IsGranted bits r → IsNamed bits (address_in by_id nodes r)
  by_address by_id bits r granted = named_by_right home nodes own o bits (address_in by_id nodes r) r granted.0 (its_address by_id nodes r) granted.1

  each_named : (by_id : Bool) (bits : ℕ) (rs : List ResourceData) → Each (IsGranted bits) rs → AllByRecursion (IsNamed bits) (map (address_in by_id nodes) rs)
  each_named by_id bits [] each = tt
  each_named by_id bits (r ∷ rs) each = (by_address by_id bits r each.0, each_named by_id bits rs each.1)

  -- ---- references

  all_there : Each (IsFound nodes) nodes
  all_there = each_found nodes (in_order-tree nodes own.tree)

  only_first : (P Q : ResourceData → Type 0) (rs : List ResourceData) → Each (λ r. P r × Q r) rs → Each P rs
  only_first P Q [] each = tt
  only_first P Q (r ∷ rs) each = (each.0.0, only_first P Q rs each.1)

  referred_found : (n : ℕ) → Each (IsGranted retrieve_bit) (referred home nodes o n)
  referred_found n =
      each-take (IsGranted retrieve_bit) most_listed (filter (may_retrieve home nodes o) (children_of n nodes))
      (each-filter (IsFound nodes) (may_retrieve home nodes o) (children_of n nodes)
      (only_first (IsFound nodes) (λ r. is_under n r ≡ true) (children_of n nodes) (each-filter (IsFound nodes) (is_under n) nodes all_there)))

  references_listed : (by_id : Bool) (rs : List ResourceData) → map shown_reference (map (reference by_id nodes) rs) ≡ map (address_in by_id nodes) rs
  references_listed by_id [] = refl
  references_listed by_id (r ∷ rs) = ap (λ ts. address_in by_id nodes r ∷ ts) (references_listed by_id rs)

  -- the addresses of the references in a member
  referred_by : (by_id : Bool) (n : ℕ) → map shown_reference (listed_parts (Some (references home nodes o by_id n))) ≡ map (address_in by_id nodes) (referred home nodes o n)
  referred_by by_id n =
      ap (map shown_reference) (elements-elements_of (map (reference by_id nodes) (referred home nodes o n)))
      ∙ references_listed by_id (referred home nodes o n)

  referred_named : (by_id : Bool) (n : ℕ) (addresses : List (List ℕ)) → addresses ≡ map (address_in by_id nodes) (referred home nodes o n) → AreNamedByRight home nodes o retrieve_bit addresses
  referred_named by_id n addresses is =
      are_named retrieve_bit addresses (subst (AllByRecursion (IsNamed retrieve_bit)) (sym is) (each_named by_id retrieve_bit (referred home nodes o n) (referred_found n)))

  -- ---- objects

  abbrev IsNamedObject : Data → Type 0
  IsNamedObject d = IsNamed retrieve_bit (shown_id d)

  its_id : (r : ResourceData) (kids : Forest) → shown_id (object (pairs_of (with_forest (members home nodes) kids (members home nodes r)))) ≡ id_of r
  its_id r kids =
      let inner = with_forest (members home nodes) kids (members home nodes r) in
      ap text_or_empty
      (ap (member_of (attr_short Ri)) (entries-pairs_of inner)
      ∙ kept_beside (members home nodes) (attr_short Ri) (no_type_name Ri) kids (members home nodes r)
      ∙ member_of-members_of Ri (shown_rows home nodes r)
      ∙ shown_value home nodes r Ri)

  own_object : (r : ResourceData) (kids : Forest) → IsGranted retrieve_bit r → IsNamedObject (object (pairs_of (with_forest (members home nodes) kids (members home nodes r))))
  own_object r kids granted = subst (IsNamed retrieve_bit) (sym (its_id r kids)) (by_address true retrieve_bit r granted)

  own_members : (r : ResourceData) → AllUnder IsNamedObject (members home nodes r)
  own_members r = subst (AllOf IsNamedObject) (sym (none_under (shown_rows home nodes r))) tt

  -- ---- contents

  abbrev IsTold : Data → Type 0
  IsTold d = IsShownByRight home nodes o (ids_below d) (references_in d) (addresses_in d)

  told_under : (ty : Ty) (ms : List Entry) → AllUnder IsNamedObject ms → AreNamedByRight home nodes o retrieve_bit (references_in (under_type ty ms)) → IsTold (under_type ty ms)
  told_under ty ms below referred = record {
    below = are_named retrieve_bit (ids_below (under_type ty ms)) (subst (AllByRecursion (IsNamed retrieve_bit)) (sym (ids_under ty ms)) (told_of retrieve_bit shown_id (values_under (pairs_of ms)) below));
    referred = referred;
    found = none_named discovery_bit (addresses_in (under_type ty ms)) (addresses_under ty ms);
  }

  none_referred_to : (ty : Ty) (ms : List Entry) → member_of (codes "ch") ms ≡ None → AreNamedByRight home nodes o retrieve_bit (references_in (under_type ty ms))
  none_referred_to ty ms none =
      none_named retrieve_bit (references_in (under_type ty ms)) (references_under ty ms ∙ ap (λ d. map shown_reference (listed_parts d)) none)

  attributes_told : (r : ResourceData) → IsTold (under_type r.ty (members home nodes r))
  attributes_told r =
      told_under r.ty (members home nodes r) (own_members r)
      (none_referred_to r.ty (members home nodes r) (none_referred (shown_rows home nodes r)))

  whole_told : (r : ResourceData) → IsTold (whole home nodes o r)
  whole_told r =
      let forest = shown_forest home nodes o r.number in
      let ms = with_forest (members home nodes) forest (members home nodes r) in
      let all = all-cut (IsGranted retrieve_bit) (forest_of (may_retrieve home nodes o) r.number nodes) most_shown (all-forest_of (IsFound nodes) (may_retrieve home nodes o) nodes r.number all_there) in
      told_under r.ty ms (under_forest IsNamedObject (IsGranted retrieve_bit) (members home nodes) own_object own_members forest (members home nodes r) all (own_members r))
      (none_referred_to r.ty ms (kept_beside (members home nodes) (codes "ch") refl forest (members home nodes r) ∙ none_referred (shown_rows home nodes r)))

  abbrev beside : Bool → ResourceData → List Entry
  beside by_id r = insert_entry compared (members home nodes r) (codes "ch") (references home nodes o by_id r.number)

  referred_beside : (by_id : Bool) (r : ResourceData) → references_in (with_references home nodes o by_id r) ≡ map (address_in by_id nodes) (referred home nodes o r.number)
  referred_beside by_id r =
      references_under r.ty (beside by_id r)
      ∙ ap (λ d. map shown_reference (listed_parts d)) (member_of-put (codes "ch") (members home nodes r) (references home nodes o by_id r.number))
      ∙ referred_by by_id r.number

  with_references_told : (by_id : Bool) (r : ResourceData) → IsTold (with_references home nodes o by_id r)
  with_references_told by_id r =
      told_under r.ty (beside by_id r) (under_put IsNamedObject (members home nodes r) (codes "ch") (references home nodes o by_id r.number) tt (own_members r))
      (referred_named by_id r.number (references_in (with_references home nodes o by_id r)) (referred_beside by_id r))

  referred_alone : (by_id : Bool) (r : ResourceData) → references_in (references_alone home nodes o by_id r) ≡ map (address_in by_id nodes) (referred home nodes o r.number)
  referred_alone by_id r = references_under r.ty ((codes "ch", references home nodes o by_id r.number) ∷ []) ∙ referred_by by_id r.number

  references_alone_told : (by_id : Bool) (r : ResourceData) → IsTold (references_alone home nodes o by_id r)
  references_alone_told by_id r =
      told_under r.ty ((codes "ch", references home nodes o by_id r.number) ∷ []) tt
      (referred_named by_id r.number (references_in (references_alone home nodes o by_id r)) (referred_alone by_id r))

  by_choice : (b : Bool) (x y : Data) → IsTold x → IsTold y → IsTold (cond b x y)
  by_choice true x y first second = first
  by_choice false x y first second = second

  content_told : (by_id : Bool) (rcn : Option ℤ) (r : ResourceData) → IsTold (content home nodes o by_id rcn r)
  content_told by_id rcn r =
      let four = int_eq (wanted_content rcn) (pos 4) in
      let five = int_eq (wanted_content rcn) (pos 5) in
      let six = int_eq (wanted_content rcn) (pos 6) in
      let w = whole home nodes o r in
      let x = with_references home nodes o by_id r in
      let y = references_alone home nodes o by_id r in
      let z = under_type r.ty (members home nodes r) in
      by_choice four w (cond five x (cond six y z)) (whole_told r)
      (by_choice five x (cond six y z) (with_references_told by_id r)
      (by_choice six y z (references_alone_told by_id r) (attributes_told r)))

  -- ---- addresses that are found

  each_is_found : (f : FilterParts) (rs : List ResourceData) → Each (λ r. IsFound nodes r × (is_found home nodes o f r ≡ true)) rs → Each (IsGranted discovery_bit) rs
  each_is_found f [] each = tt
  each_is_found f (r ∷ rs) each = ((each.0.0, (found_parts home nodes o f r each.0.1).granted), each_is_found f rs each.1)

  found_there : (f : FilterParts) (n : ℕ) → Each (IsGranted discovery_bit) (found home nodes o f n)
  found_there f n =
      each-take (IsGranted discovery_bit) (most_of f) (filter (is_found home nodes o f) (below n nodes))
      (each_is_found f (filter (is_found home nodes o f) (below n nodes))
      (each-filter (IsFound nodes) (is_found home nodes o f) (below n nodes) (each_below_found nodes n own.tree)))

  abbrev address_told : Data → List ℕ
  address_told d = unwrap_or (as_text d) []

  addresses_listed : (by_id : Bool) (rs : List ResourceData) → map address_told (map (address by_id nodes) rs) ≡ map (address_in by_id nodes) rs
  addresses_listed by_id [] = refl
  addresses_listed by_id (r ∷ rs) = ap (λ ts. address_in by_id nodes r ∷ ts) (addresses_listed by_id rs)

  listed_addresses : (ds : List Data) → addresses_in (address_list ds) ≡ map address_told ds
  listed_addresses ds = ap (map address_told) (elements-elements_of ds)

  found_named : (by_id : Bool) (given : Option FilterParts) (n : ℕ) → AreNamedByRight home nodes o discovery_bit (addresses_in (address_list (found_addresses home nodes o by_id given n)))
  found_named by_id None n = none_named discovery_bit (addresses_in (address_list [])) refl
  found_named by_id (Some f) n =
      let rs = found home nodes o f n in
      let are : addresses_in (address_list (map (address by_id nodes) rs)) ≡ map (address_in by_id nodes) rs = listed_addresses (map (address by_id nodes) rs) ∙ addresses_listed by_id rs in
      are_named discovery_bit (addresses_in (address_list (map (address by_id nodes) rs))) (subst (AllByRecursion (IsNamed discovery_bit)) (sym are) (each_named by_id discovery_bit rs (found_there f n)))

  -- addresses are no objects
  no_objects : (by_id : Bool) (rs : List ResourceData) → filter is_object (values_among (elements_of (map (address by_id nodes) rs))) ≡ []
  no_objects by_id [] = refl
  no_objects by_id (r ∷ rs) = no_objects by_id rs

  no_ids : (by_id : Bool) (given : Option FilterParts) (n : ℕ) → ids_below (address_list (found_addresses home nodes o by_id given n)) ≡ []
  no_ids by_id None n = refl
  no_ids by_id (Some f) n = ap (λ ds. map shown_id (ds ++ [])) (no_objects by_id (found home nodes o f n))

  list_told : (by_id : Bool) (given : Option FilterParts) (n : ℕ) → IsTold (address_list (found_addresses home nodes o by_id given n))
  list_told by_id given n = record {
    below = none_named retrieve_bit (ids_below (address_list (found_addresses home nodes o by_id given n))) (no_ids by_id given n);
    referred = none_named retrieve_bit (references_in (address_list (found_addresses home nodes o by_id given n))) refl;
    found = found_named by_id given n;
  }

  -- ---- replies

  abbrev IsByRight : ReplyParts → Type 0
  IsByRight reply = OthersAreShownByRight home nodes o reply

  refused_by_right : (request : RequestParts) (fault : Rsc) → IsByRight (refusal request fault)
  refused_by_right request fault = record {
    below = none_named retrieve_bit [] refl;
    referred = none_named retrieve_bit [] refl;
    found = none_named discovery_bit [] refl;
  }

  one_of : (b : Bool) (x y : ReplyParts) → IsByRight x → IsByRight y → IsByRight (cond b x y)
  one_of true x y first second = first
  one_of false x y first second = second

  pub discovered_by_right : (request : RequestParts) (n : ℕ) → IsByRight (discovered home nodes o request n)
  discovered_by_right request n =
      one_of (grants home nodes o discovery_bit n)
      (success request (address_list (found_addresses home nodes o (is_by_id request) request.fc n))) (refusal request NoPrivilege)
      (list_told (is_by_id request) request.fc n) (refused_by_right request NoPrivilege)

  pub retrieved_by_right : (request : RequestParts) (n : ℕ) → IsByRight (retrieved home nodes o request n)
  retrieved_by_right request n = by_found (at n nodes)
    where
      by_found : (there : Option ResourceData) → IsByRight (option_map_or (retrieved_of home nodes o request) there (refusal request NotFound))
      by_found None = refused_by_right request NotFound
      by_found (Some r) =
          let shown = success request (content home nodes o (is_by_id request) request.rcn r) in
          one_of (not (grants home nodes o retrieve_bit r.number)) (refusal request NoPrivilege) (cond (not (meets_any nodes request.fc r)) (refusal request NotFound) shown) (refused_by_right request NoPrivilege)
          (one_of (not (meets_any nodes request.fc r)) (refusal request NotFound) shown (refused_by_right request NotFound)
          (content_told (is_by_id request) request.rcn r))
