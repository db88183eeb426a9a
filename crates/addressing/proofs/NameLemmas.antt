-- A resource is named by its structured address, and by its id.
use Rattle.std.specs.Prelude.{bytes_eq, codes}
use Rattle.std.proofs.Common.{◌≡◌, ℕ, zero, suc, ◌+◌, ◌<◌, ◌≤◌, ◌^◌, true, false, ◌&&◌, List, [], ◌∷◌, ◌++◌, length, find, map, reverse, Option, Some, None, inl, inr, refl, sym, ap, ap₂, subst, ◌∙◌, arith, ◌⊎◌, leb, Bor}
use Rattle.std.specs.Fmt.{decimal}
use Rattle.std.specs.List.{list_all}
use Rattle.std.specs.Option.{option_and_then, option_or}
use Rattle.std.proofs.lemmas.Bool.{and_from, and_parts, cases_Bool, eq-eqb, false_from_ne_true, leb-true, le-leb, lt-ltb, or_cases, or_left, or_parts}
use Rattle.std.proofs.lemmas.Bool.Decides.{nat_tests}
use Rattle.std.proofs.lemmas.Fmt.{decimal_nonempty, length-decimal-le}
use Rattle.std.proofs.lemmas.List.{append-nil, append_assoc, length-append, map-append, reverse-append}
use Rattle.std.proofs.lemmas.List.Folds.{find-append, list_all-append}
use Rattle.std.proofs.lemmas.Option.{same_Some}
use Rattle.std.proofs.lemmas.Slice.Eq.{bytes_eq-Decides}
use Rattle.m2m_names.specs.Ids.{id_parts, id_text}
use Rattle.m2m_names.specs.Name.{is_free_name, is_name, is_unreserved}
use Rattle.m2m_names.specs.Types.{ty_row}
use Rattle.m2m_names.specs.declared.types.Ty.{Ty}
use Rattle.m2m_names.specs.declared.types.Ty.TheVariants.{AccessControlPolicy, Ae, Container, ContentInstance, CseBase, Group, PollingChannel, RemoteCse, Subscription, AccessControlPolicyAnnc, AeAnnc, ContainerAnnc, ContentInstanceAnnc, GroupAnnc}
use Rattle.m2m_names.proofs.IdLemmas.{id_parts-id_text}
use Rattle.m2m_names.proofs.NumeralLemmas.{decimal_passes}
use Rattle.m2m_names.proofs.StatusLemmas.{find_none}
use Rattle.resource_model.specs.Home.{HomeData}
use Rattle.resource_model.specs.Resource.{ResourceData, has_number, id_of}
use Rattle.tree_model.specs.Tree.{ae_of, at, child_of, may_stand, has, is_child, is_tree, line_of, resource_number}
use Rattle.tree_model.proofs.IdLemmas.{resource_of_id-id_of}
use Rattle.tree_model.proofs.GrowthLemmas.{IsNext, growth, line-append, next_fits, root_parts, stands, zero_lacks}
use Rattle.tree_model.proofs.TreeLemmas.{at-append, has-append, has_at, has_from_at}
use Rattle.tree_model.proofs.QuietLemmas.{number_passes}
use Rattle.m2m_names.specs.Urls.{point_limit}
use Rattle.addressing.specs.Addresses.{are_names, joined}
use Rattle.addressing.specs.Laws.{have_free_names, named_here, spot_named}
use Rattle.addressing.specs.Names.{base_named, fan_point, first_named, id_named, is_fan, is_poll, names_to, next_named, poll_point, spot_from, spot_of, structured_of}
use Rattle.addressing.specs.declared.spot.Spot.{Spot}
use Rattle.addressing.specs.declared.spot.Spot.TheVariants.{Resource}
use Rattle.addressing.proofs.BackLemmas.{joined_back}
use Rattle.m2m_names.proofs.NameLemmas.{free_name_parts, name_parts}

-- ---- a resource id is a name

short_word : (ty : Ty) → (leb (length (ty_row ty).word) 4 && list_all is_unreserved (ty_row ty).word) ≡ true
short_word AccessControlPolicy = refl
short_word Ae = refl
short_word Container = refl
short_word ContentInstance = refl
short_word CseBase = refl
short_word Group = refl
short_word PollingChannel = refl
short_word RemoteCse = refl
short_word Subscription = refl
short_word AccessControlPolicyAnnc = refl
short_word AeAnnc = refl
short_word ContainerAnnc = refl
short_word ContentInstanceAnnc = refl
short_word GroupAnnc = refl

digit_is_plain : (d : ℕ) → d < 10 → is_unreserved (48 + d) ≡ true
digit_is_plain d digit = grind (arith, nat_tests)

pub digits_are_plain : (n : ℕ) → n < 2 ^ 63 → list_all is_unreserved (decimal n) ≡ true
digits_are_plain = decimal_passes is_unreserved digit_is_plain

id_is_name : (ty : Ty) (n : ℕ) → n < 2 ^ 63 → is_name (id_text ty n) ≡ true
id_is_name ty n small =
    let word = (ty_row ty).word in
    let parts = and_parts (leb (length word) 4) (list_all is_unreserved word) (short_word ty) in
    let long : length word ≤ 4 = leb-true (length word) 4 parts.0 in
    let most : length (decimal n) ≤ 19 = length-decimal-le 19 n (omega arith) (omega (arith, small)) (omega (arith, small)) in
    let some : 0 < length (decimal n) = decimal_nonempty n (omega (arith, small)) in
    let all : length (word ++ decimal n) ≡ length word + length (decimal n) = length-append word (decimal n) in
    and_from _ _
    (and_from _ _ (lt-ltb 0 (length (word ++ decimal n)) (omega (arith, some, all))) (le-leb (length (word ++ decimal n)) 64 (omega (arith, long, most, all))))
    (list_all-append is_unreserved word (decimal n) ∙ and_from _ _ parts.1 (digits_are_plain n small))

id_length : (ty : Ty) (n : ℕ) → n < 2 ^ 63 → length (id_text ty n) ≤ point_limit
id_length ty n small =
    let filled = (name_parts (id_text ty n) (id_is_name ty n small)).filled in
    omega (arith, filled.most)

id_is_no_mark : (ty : Ty) (n : ℕ) → n < 2 ^ 63 → bytes_eq (id_text ty n) (codes "-") ≡ false
id_is_no_mark ty n small = false_from_ne_true _ (λ is.
    let p : Ty × ℕ = (ty, n) in
    let none : None ≡ Some p = sym (ap id_parts ((bytes_eq-Decides (id_text ty n) (codes "-")).0 is)) ∙ id_parts-id_text ty n small in
    cc)

id_found : (nodes : List ResourceData) (r : ResourceData) → at r.number nodes ≡ Some r → r.number < 2 ^ 63 → id_named (id_of r) nodes ≡ Some r.number
id_found nodes r found small = ap resource_number (resource_of_id-id_of nodes r small found)

pub named_by_id : (home : HomeData) (nodes : List ResourceData) (r : ResourceData) → at r.number nodes ≡ Some r → r.number < 2 ^ 63 → child_of 0 (id_of r) nodes ≡ None → spot_named home (id_of r) nodes ≡ Some (Resource r.number)
named_by_id home nodes r found small other =
    let base : base_named (id_of r) nodes ≡ None = rw (id_is_no_mark r.ty r.number small) other in
    let first : first_named (id_of r) nodes ≡ Some r.number =
    ap (λ o. option_or o (option_or (id_named (id_of r) nodes) (ae_of (id_of r) nodes))) base
    ∙ ap (λ o. option_or o (ae_of (id_of r) nodes)) (id_found nodes r found small) in
    ap (λ a. named_here a nodes) (joined_back home (id_of r) [] (and_from _ _ (id_is_name r.ty r.number small) refl) (id_length r.ty r.number small))
    ∙ ap (option_and_then (λ n. spot_from 1 n [] nodes)) first

-- ---- free names address nothing else

pub record Addresses_nothing_else (name : List ℕ) : Type 0 where
  pub la : bytes_eq name (codes "la") ≡ false
  pub ol : bytes_eq name (codes "ol") ≡ false
  pub fopt : bytes_eq name (codes "fopt") ≡ false
  pub pcu : bytes_eq name (codes "pcu") ≡ false
  pub dash : bytes_eq name (codes "-") ≡ false

free_name : (name : List ℕ) → is_free_name name ≡ true → Addresses_nothing_else name
free_name name free =
    let parts = free_name_parts name free in
    let la = or_parts (bytes_eq name (codes "la")) _ parts.no_virtual in
    let ol = or_parts (bytes_eq name (codes "ol")) _ la.1 in
    let fopt = or_parts (bytes_eq name (codes "fopt")) _ ol.1 in
    let pcu = or_parts (bytes_eq name (codes "pcu")) _ fopt.1 in
    let dash = or_parts (bytes_eq name (codes "-")) _ parts.no_mark in
    record { la = la.0; ol = ol.0; fopt = fopt.0; pcu = pcu.0; dash = dash.0 }

-- ---- a resource is the child of its name, and of a parent that is there

pub record IsChildOfItsName (nodes : List ResourceData) (r : ResourceData) : Type 0 where
  pub child : child_of r.parent r.name nodes ≡ Some r.number
  pub placed : (r.parent ≡ 0) ⊎ (has r.parent nodes ≡ true)

some_number : (o : Option ResourceData) (n : ℕ) → resource_number o ≡ Some n → (x : ResourceData) × (o ≡ Some x)
some_number None n e = let none : None ≡ Some n = e in cc
some_number (Some x) n e = (x, refl)

child_old : (before : List ResourceData) (s r : ResourceData) → child_of r.parent r.name before ≡ Some r.number → child_of r.parent r.name (before ++ s ∷ []) ≡ Some r.number
child_old before s r child =
    let there = some_number (find (is_child r.parent r.name) before) r.number child in
    ap resource_number (find-append (is_child r.parent r.name) before (s ∷ []) ∙ ap (λ (o : Option ResourceData). option_or o (find (is_child r.parent r.name) (s ∷ []))) there.1)
    ∙ sym (ap resource_number there.1) ∙ child

child_new : (before : List ResourceData) (s : ResourceData) → IsNext before s → child_of s.parent s.name (before ++ s ∷ []) ≡ Some s.number
child_new before s next =
    let none : find (is_child s.parent s.name) before ≡ None = find_none (is_child s.parent s.name) before next.name in
    let hit : is_child s.parent s.name s ≡ true = and_from _ _ (eq-eqb s.parent s.parent refl) ((bytes_eq-Decides s.name s.name).1 refl) in
    let there : find (is_child s.parent s.name) (before ++ s ∷ []) ≡ Some s = find-append (is_child s.parent s.name) before (s ∷ []) ∙ rw (none, hit) refl in
    ap resource_number there

placed_new : (before : List ResourceData) (s : ResourceData) → IsNext before s → (s.parent ≡ 0) ⊎ (has s.parent (before ++ s ∷ []) ≡ true)
placed_new before s next = elim (or_cases (has s.parent before) _ next.parent) [
  | inl there ↦ inr (has-append s.parent before (s ∷ []) ∙ or_left _ _ there)
  | inr root ↦ inl (root_parts before s root).parent
]

placed_old : (before : List ResourceData) (s r : ResourceData) → (r.parent ≡ 0) ⊎ (has r.parent before ≡ true) → (r.parent ≡ 0) ⊎ (has r.parent (before ++ s ∷ []) ≡ true)
placed_old before s r (inl root) = inl root
placed_old before s r (inr there) = inr (has-append r.parent before (s ∷ []) ∙ or_left _ _ there)

pub child_of_its_name : (nodes : List ResourceData) → is_tree nodes ≡ true → (n : ℕ) (r : ResourceData) → at n nodes ≡ Some r → IsChildOfItsName nodes r
child_of_its_name = growth may_stand (λ nodes. (n : ℕ) (r : ResourceData) → at n nodes ≡ Some r → IsChildOfItsName nodes r)
    (λ n r found. let none : None ≡ Some r = found in cc)
    (λ before s grew next holds n r found. by_where before s r n (next_fits before s next) (holds n) (at n before) refl (sym (at-append n before (s ∷ [])) ∙ found))
  where
    last : (s r : ResourceData) (n : ℕ) → at n (s ∷ []) ≡ Some r → s ≡ r
    last s r n e = elim (cases_Bool (has_number n s)) [
      | inl t ↦ same_Some s r (rw t at e)
      | inr f ↦ (let none : None ≡ Some r = rw f at e in cc)
    ]

    by_where : (before : List ResourceData) (s r : ResourceData) (n : ℕ) → IsNext before s → ((r : ResourceData) → at n before ≡ Some r → IsChildOfItsName before r) → (o : Option ResourceData) → at n before ≡ o → option_or o (at n (s ∷ [])) ≡ Some r → IsChildOfItsName (before ++ s ∷ []) r
    by_where before s r n next holds None is e =
        subst (IsChildOfItsName (before ++ s ∷ [])) (last s r n e) (record { child = child_new before s next; placed = placed_new before s next })
    by_where before s r n next holds (Some q) is e =
        let earlier = holds q is in
        subst (IsChildOfItsName (before ++ s ∷ [])) (same_Some q r e) (record {
          child = child_old before s q earlier.child;
          placed = placed_old before s q earlier.placed;
        })

pub line_of_none : (nodes : List ResourceData) → is_tree nodes ≡ true → (n : ℕ) → has n nodes ≡ false → line_of n nodes ≡ []
line_of_none = growth may_stand (λ nodes. (n : ℕ) → has n nodes ≡ false → line_of n nodes ≡ []) (λ n none. refl) (λ before s grew next holds n none.
    let parts = or_parts (has n before) (has n (s ∷ [])) (sym (has-append n before (s ∷ [])) ∙ none) in
    let apart : has_number n s ≡ false = (or_parts (has_number n s) false parts.1).0 in
    line-append n before s ∙ rw apart (holds n parts.0))

-- ---- from the CSEBase down

-- what names say that lead to a resource, and more
spot_from-append : (place m k : ℕ) (xs ys : List (List ℕ)) (nodes : List ResourceData) → spot_from place m xs nodes ≡ Some (Resource k) → spot_from place m (xs ++ ys) nodes ≡ spot_from (place + length xs) k ys nodes
spot_from-append place m k [] ys nodes e =
    ap₂ (λ p n. spot_from p n ys nodes) (omega arith) (ap number_in (same_Some (Resource m) (Resource k) e))
  where
    number_in : Spot → ℕ
    number_in (Resource n) = n
    number_in _ = 0
spot_from-append place m k (x ∷ xs) ys nodes e = elim (cases_Bool (is_fan m x nodes)) [
  | inl t ↦ (let fan : Some (fan_point m (place + 1)) ≡ Some (Resource k) = rw t at e in cc)
  | inr f ↦ elim (cases_Bool (is_poll m x nodes)) [
    | inl t ↦ absurd (no_poll xs (rw (f, t) at e))
    | inr g ↦ rw (f, g) (on (λ j h. spot_from-append (place + 1) j k xs ys nodes h) (next_named m x nodes) (rw (f, g) at e))
  ]
]
  where
    no_poll : (xs : List (List ℕ)) → poll_point m xs ≡ Some (Resource k) → ⊥
    no_poll [] e = cc
    no_poll (x ∷ xs) e = cc

    on : ((j : ℕ) → spot_from (place + 1) j xs nodes ≡ Some (Resource k) → spot_from (place + 1) j (xs ++ ys) nodes ≡ spot_from ((place + 1) + length xs) k ys nodes) → (o : Option ℕ) → option_and_then (λ j. spot_from (place + 1) j xs nodes) o ≡ Some (Resource k) → option_and_then (λ j. spot_from (place + 1) j (xs ++ ys) nodes) o ≡ spot_from (place + length (x ∷ xs)) k ys nodes
    on later None e = let none : None ≡ Some (Resource k) = e in cc
    on later (Some j) e =
        let longer : (place + 1) + length xs ≡ place + length (x ∷ xs) = omega arith in
        later j e ∙ ap (λ p. spot_from p k ys nodes) longer

spot_of-append : (s : List ℕ) (ss ys : List (List ℕ)) (k : ℕ) (nodes : List ResourceData) → spot_of (s ∷ ss) nodes ≡ Some (Resource k) → spot_of ((s ∷ ss) ++ ys) nodes ≡ spot_from (1 + length ss) k ys nodes
spot_of-append s ss ys k nodes e = on (first_named s nodes) e
  where
    on : (o : Option ℕ) → option_and_then (λ n. spot_from 1 n ss nodes) o ≡ Some (Resource k) → option_and_then (λ n. spot_from 1 n (ss ++ ys) nodes) o ≡ spot_from (1 + length ss) k ys nodes
    on None e = let none : None ≡ Some (Resource k) = e in cc
    on (Some n) e = spot_from-append 1 n k ss ys nodes e

-- one free name more
step_down : (place k n : ℕ) (name : List ℕ) (nodes : List ResourceData) → Addresses_nothing_else name → child_of k name nodes ≡ Some n → spot_from place k (name ∷ []) nodes ≡ Some (Resource n)
step_down place k n name nodes free child = rw (free.fopt, free.pcu, free.la, free.ol, child) refl

-- the names down to a resource lead to it
pub record Leads (nodes : List ResourceData) (n : ℕ) (names : List (List ℕ)) : Type 0 where
  pub first : List ℕ
  pub rest : List (List ℕ)
  pub are : names ≡ first ∷ rest
  pub names_all : are_names (first ∷ rest) ≡ true
  pub spot : spot_of (first ∷ rest) nodes ≡ Some (Resource n)

names_to-stands : (nodes : List ResourceData) → is_tree nodes ≡ true → (n : ℕ) (r : ResourceData) → at n nodes ≡ Some r → names_to n nodes ≡ names_to r.parent nodes ++ r.name ∷ []
names_to-stands nodes tree n r found =
    ap (λ line. reverse (map (λ (s : ResourceData). s.name) line)) (stands nodes tree n r found).line
    ∙ reverse-append (r.name ∷ []) (map (λ (s : ResourceData). s.name) (line_of r.parent nodes))

leads_at_base : (nodes : List ResourceData) → is_tree nodes ≡ true → (r : ResourceData) → at r.number nodes ≡ Some r → is_free_name r.name ≡ true → child_of r.parent r.name nodes ≡ Some r.number → r.parent ≡ 0 → Leads nodes r.number (names_to r.number nodes)
leads_at_base nodes tree r found free child root =
    let none : line_of r.parent nodes ≡ [] = ap (λ p. line_of p nodes) root ∙ line_of_none nodes tree 0 (zero_lacks nodes tree) in
    let nothing = free_name r.name free in
    let base : base_named r.name nodes ≡ Some r.number = rw nothing.dash (ap (λ p. child_of p r.name nodes) (sym root) ∙ child) in
    let first : first_named r.name nodes ≡ Some r.number = ap (λ o. option_or o (option_or (id_named r.name nodes) (ae_of r.name nodes))) base in
    record {
      first = r.name;
      rest = [];
      are = names_to-stands nodes tree r.number r found ∙ ap (λ line. reverse (map (λ (s : ResourceData). s.name) line) ++ r.name ∷ []) none;
      names_all = and_from _ _ (free_name_parts r.name free).name refl;
      spot = ap (option_and_then (λ n. spot_from 1 n [] nodes)) first;
    }

leads_below : (nodes : List ResourceData) → is_tree nodes ≡ true → (r : ResourceData) → at r.number nodes ≡ Some r → is_free_name r.name ≡ true → child_of r.parent r.name nodes ≡ Some r.number → Leads nodes r.parent (names_to r.parent nodes) → Leads nodes r.number (names_to r.number nodes)
leads_below nodes tree r found free child up = record {
  first = up.first;
  rest = up.rest ++ r.name ∷ [];
  are = names_to-stands nodes tree r.number r found ∙ ap (λ names. names ++ r.name ∷ []) up.are;
  names_all = list_all-append is_name (up.first ∷ up.rest) (r.name ∷ []) ∙ and_from _ _ up.names_all (and_from _ _ (free_name_parts r.name free).name refl);
  spot = spot_of-append up.first up.rest (r.name ∷ []) r.parent nodes up.spot ∙ step_down (1 + length up.rest) r.parent r.number r.name nodes (free_name r.name free) child;
}

leads : (nodes : List ResourceData) → is_tree nodes ≡ true → have_free_names nodes ≡ true → (k : ℕ) (r : ResourceData) → r.number < k → at r.number nodes ≡ Some r → Leads nodes r.number (names_to r.number nodes)
leads nodes tree free zero r below found = absurd (omega (arith, below))
leads nodes tree free (suc k) r below found =
    let own : is_free_name r.name ≡ true = number_passes (λ (s : ResourceData). is_free_name s.name) r.number nodes r free found in
    let stood = child_of_its_name nodes tree r.number r found in
    elim stood.placed [
      | inl root ↦ leads_at_base nodes tree r found own stood.child root
      | inr there ↦
          let parent = has_at r.parent nodes there in
          let p = parent.0 in
          let number : p.number ≡ r.parent = parent.2 in
          let above : r.parent < r.number = (stands nodes tree r.number r found).above in
          let up : Leads nodes p.number (names_to p.number nodes) = leads nodes tree free k p (omega (arith, below, above, number)) (ap (λ m. at m nodes) number ∙ parent.1) in
          leads_below nodes tree r found own stood.child (subst (λ m. Leads nodes m (names_to m nodes)) number up)
    ]

pub spot_named_structured : (home : HomeData) (nodes : List ResourceData) (r : ResourceData) → is_tree nodes ≡ true → have_free_names nodes ≡ true → at r.number nodes ≡ Some r → length (structured_of r.number nodes) ≤ point_limit → spot_named home (structured_of r.number nodes) nodes ≡ Some (Resource r.number)
spot_named_structured home nodes r tree free found short =
    let way = leads nodes tree free (suc r.number) r (omega arith) found in
    let text : structured_of r.number nodes ≡ joined (way.first ∷ way.rest) = ap joined way.are in
    ap (λ t. spot_named home t nodes) text
    ∙ ap (λ a. named_here a nodes) (joined_back home way.first way.rest way.names_all (omega (arith, short, ap length text)))
    ∙ way.spot

-- ---- a line, as it is gone up

pub line_of_empty : (nodes : List ResourceData) (n : ℕ) → length nodes ≡ 0 → line_of n nodes ≡ []
line_of_empty [] n none = refl
line_of_empty (r ∷ nodes) n none = absurd (omega (arith, none))

pub line_ends : (nodes : List ResourceData) → is_tree nodes ≡ true → (n : ℕ) → at n nodes ≡ None → line_of n nodes ≡ []
line_ends nodes tree n none = line_of_none nodes tree n (has_from_at n nodes none)

pub parent_below : (nodes : List ResourceData) (n : ℕ) (r : ResourceData) → is_tree nodes ≡ true → Some r ≡ at n nodes → r.parent < n
parent_below nodes n r tree found = (stands nodes tree n r (sym found)).above

pub line_push : (nodes : List ResourceData) (n : ℕ) (r : ResourceData) (names : List (Bor (List ℕ))) (t : Bor (List ℕ)) (all : List (List ℕ)) → is_tree nodes ≡ true → Some r ≡ at n nodes → t.now ≡ r.name → map (λ x. x.now) names ++ map (λ (s : ResourceData). s.name) (line_of n nodes) ≡ all → map (λ x. x.now) (names ++ t ∷ []) ++ map (λ (s : ResourceData). s.name) (line_of r.parent nodes) ≡ all
line_push nodes n r names t all tree found is before =
    let up : map (λ (s : ResourceData). s.name) (line_of n nodes) ≡ r.name ∷ map (λ (s : ResourceData). s.name) (line_of r.parent nodes) = ap (map (λ (s : ResourceData). s.name)) (stands nodes tree n r (sym found)).line in
    ap (λ ns. ns ++ map (λ (s : ResourceData). s.name) (line_of r.parent nodes)) (map-append (λ (x : Bor (List ℕ)). x.now) names (t ∷ []) ∙ ap (λ name. map (λ (x : Bor (List ℕ)). x.now) names ++ name ∷ []) is)
    ∙ append_assoc (map (λ (x : Bor (List ℕ)). x.now) names) (r.name ∷ []) (map (λ (s : ResourceData). s.name) (line_of r.parent nodes))
    ∙ ap (λ ns. map (λ (x : Bor (List ℕ)). x.now) names ++ ns) (sym up) ∙ before

pub line_done : (nodes : List ResourceData) (n : ℕ) (names all : List (List ℕ)) → is_tree nodes ≡ true → None ≡ at n nodes → names ++ map (λ (s : ResourceData). s.name) (line_of n nodes) ≡ all → names ≡ all
line_done nodes n names all tree none before =
    sym (append-nil names) ∙ ap (λ line. names ++ map (λ (s : ResourceData). s.name) line) (sym (line_ends nodes tree n (sym none))) ∙ before

reversed_names : (names : List (Bor (List ℕ))) → map (λ x. x.now) (reverse names) ≡ reverse (map (λ x. x.now) names)
reversed_names [] = refl
reversed_names (t ∷ names) =
    ap (map (λ x. x.now)) (reverse-append (t ∷ []) names)
    ∙ map-append (λ (x : Bor (List ℕ)). x.now) (reverse names) (t ∷ [])
    ∙ ap (λ ns. ns ++ t.now ∷ []) (reversed_names names)
    ∙ sym (reverse-append (t.now ∷ []) (map (λ (x : Bor (List ℕ)). x.now) names))

pub structured_from : (nodes : List ResourceData) (n : ℕ) (names : List (Bor (List ℕ))) → map (λ x. x.now) names ≡ map (λ (s : ResourceData). s.name) (line_of n nodes) → joined (map (λ x. x.now) (reverse names)) ≡ structured_of n nodes
structured_from nodes n names is = ap joined (reversed_names names ∙ ap reverse is)

-- how the names grow from a resource up to the CSEBase
pub ruleset names_upwards = (line_push, line_done, parent_below, line_of_empty)
