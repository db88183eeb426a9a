-- The contents of replies, as they are written.
use Rattle.std.proofs.Common.{◌≡◌, ℕ, List, [], ◌∷◌, ◌++◌, map, reverse, codes, true, IsUtf8, refl, sym, ap, ◌∙◌, subst}
use Rattle.std.specs.List.{list_all}
use Rattle.std.specs.List.Sorted.{IsStrictlySortedBy}
use Rattle.std.proofs.lemmas.Bool.{and_parts, eq-eqb}
use Rattle.std.proofs.lemmas.List.Folds.{list_all-map}
use Rattle.std.proofs.lemmas.List.{append_assoc, reverse-append}
use Rattle.std.proofs.lemmas.Str.{IsUtf8-append, IsUtf8-nil}
use Rattle.m2m_names.specs.Name.{is_free_name}
use Rattle.m2m_names.specs.Types.{ty_member}
use Rattle.m2m_names.specs.declared.types.Ty.{Ty}
use Rattle.m2m_names.specs.declared.types.Ty.TheVariants.{AccessControlPolicy, Ae, Container, ContentInstance, CseBase, Group, PollingChannel, RemoteCse, Subscription, AccessControlPolicyAnnc, AeAnnc, ContainerAnnc, ContentInstanceAnnc, GroupAnnc}
use Rattle.m2m_names.proofs.NameLemmas.{free_name_parts, graphic_is_utf8, name_is_utf8}
use Rattle.m2m_value.specs.Data.{Data, Entry}
use Rattle.m2m_value.specs.Node.{AreSorted}
use Rattle.resource_model.specs.Resource.{ResourceData}
use Rattle.tree_model.specs.Tree.{has, line_of}
use Rattle.tree_model.proofs.GrowthLemmas.{line-append, stands, tree_from_well_formed}
use Rattle.tree_model.proofs.ShownLemmas.{slash_utf8}
use Rattle.tree_model.proofs.TreeLemmas.{has_at, line_all}
use Rattle.addressing.specs.Addresses.{joined}
use Rattle.addressing.specs.Names.{names_to, structured_of}
use Rattle.addressing.proofs.PartLemmas.{joined_after}
use Rattle.entity_model.specs.Entity.{EntityData}
use Rattle.entity_model.specs.Sound.{has_free_name, IsSoundEntity}
use Rattle.m2m_names.proofs.ListLemmas.{all_reversed}

-- ---- members in order

type_first : (ty : Ty) (a b : Data) → AreSorted ((ty_member ty, a) ∷ (codes "uri", b) ∷ [])
unfolding IsStrictlySortedBy
type_first AccessControlPolicy a b = ((refl, tt), (tt, tt))
type_first Ae a b = ((refl, tt), (tt, tt))
type_first Container a b = ((refl, tt), (tt, tt))
type_first ContentInstance a b = ((refl, tt), (tt, tt))
type_first CseBase a b = ((refl, tt), (tt, tt))
type_first Group a b = ((refl, tt), (tt, tt))
type_first PollingChannel a b = ((refl, tt), (tt, tt))
type_first RemoteCse a b = ((refl, tt), (tt, tt))
type_first Subscription a b = ((refl, tt), (tt, tt))
type_first AccessControlPolicyAnnc a b = ((refl, tt), (tt, tt))
type_first AeAnnc a b = ((refl, tt), (tt, tt))
type_first ContainerAnnc a b = ((refl, tt), (tt, tt))
type_first ContentInstanceAnnc a b = ((refl, tt), (tt, tt))
type_first GroupAnnc a b = ((refl, tt), (tt, tt))

pub sorted_with_address : (es : List Entry) (ty : Ty) (a b : Data) → es ≡ ([] ++ (ty_member ty, a) ∷ []) ++ (codes "uri", b) ∷ [] → AreSorted es
sorted_with_address es ty a b is = subst AreSorted (sym is) (type_first ty a b)

-- the name of a type is UTF-8
pub type_utf8 : (ty : Ty) → IsUtf8 (ty_member ty)
type_utf8 AccessControlPolicy = graphic_is_utf8 (codes "m2m:acp") refl
type_utf8 Ae = graphic_is_utf8 (codes "m2m:ae") refl
type_utf8 Container = graphic_is_utf8 (codes "m2m:cnt") refl
type_utf8 ContentInstance = graphic_is_utf8 (codes "m2m:cin") refl
type_utf8 CseBase = graphic_is_utf8 (codes "m2m:cb") refl
type_utf8 Group = graphic_is_utf8 (codes "m2m:grp") refl
type_utf8 PollingChannel = graphic_is_utf8 (codes "m2m:pch") refl
type_utf8 RemoteCse = graphic_is_utf8 (codes "m2m:csr") refl
type_utf8 Subscription = graphic_is_utf8 (codes "m2m:sub") refl
type_utf8 AccessControlPolicyAnnc = graphic_is_utf8 (codes "m2m:acpA") refl
type_utf8 AeAnnc = graphic_is_utf8 (codes "m2m:aeA") refl
type_utf8 ContainerAnnc = graphic_is_utf8 (codes "m2m:cntA") refl
type_utf8 ContentInstanceAnnc = graphic_is_utf8 (codes "m2m:cinA") refl
type_utf8 GroupAnnc = graphic_is_utf8 (codes "m2m:grpA") refl

-- ---- the address of what comes last

path_last : (nodes : List ResourceData) (r p : ResourceData) → line_of r.parent nodes ≡ p ∷ line_of p.parent nodes → structured_of r.number (nodes ++ r ∷ []) ≡ structured_of r.parent nodes ++ 47 ∷ r.name
path_last nodes r p line =
    let name : ResourceData → List ℕ = λ s. s.name in
    let own : line_of r.number (nodes ++ r ∷ []) ≡ r ∷ line_of r.parent nodes = line-append r.number nodes r ∙ rw (eq-eqb r.number r.number refl) refl in
    let above : names_to r.parent nodes ≡ names_to p.parent nodes ++ p.name ∷ [] = ap (λ (rs : List ResourceData). reverse (map name rs)) line ∙ reverse-append (p.name ∷ []) (map name (line_of p.parent nodes)) in
    let names : names_to r.number (nodes ++ r ∷ []) ≡ names_to r.parent nodes ++ r.name ∷ [] = ap (λ (rs : List ResourceData). reverse (map name rs)) own ∙ reverse-append (r.name ∷ []) (map name (line_of r.parent nodes)) in
    ap joined (names ∙ ap (λ ns. ns ++ r.name ∷ []) above) ∙ joined_after (names_to p.parent nodes) p.name r.name
    ∙ ap (λ ns. joined ns ++ 47 ∷ r.name) (sym above)

pub path_of_last : (e : EntityData) (r : ResourceData) (parent path : List ℕ) → IsSoundEntity e → has r.parent e.nodes ≡ true → parent ≡ structured_of r.parent e.nodes → path ≡ (parent ++ 47 ∷ []) ++ r.name → path ≡ structured_of r.number (e.nodes ++ r ∷ [])
path_of_last e r parent path sound there above is =
    let found = has_at r.parent e.nodes there in
    let up = (stands e.nodes (tree_from_well_formed e.nodes sound.tree) r.parent found.0 found.1).line in
    is ∙ append_assoc parent (47 ∷ []) r.name ∙ ap (λ t. t ++ 47 ∷ r.name) above ∙ sym (path_last e.nodes r found.0 up)

-- ---- and it is a text

free_up : (e : EntityData) (n : ℕ) → IsSoundEntity e → list_all is_free_name (names_to n e.nodes) ≡ true
free_up e n sound =
    all_reversed is_free_name (map (λ (r : ResourceData). r.name) (line_of n e.nodes))
    (list_all-map is_free_name (λ (r : ResourceData). r.name) (line_of n e.nodes)
    ∙ line_all has_free_name n (reverse e.nodes) (all_reversed has_free_name e.nodes sound.names))

free_is_text : (name : List ℕ) → is_free_name name ≡ true → IsUtf8 name
free_is_text name free =
    name_is_utf8 name (free_name_parts name free).name

joined_is_text : (names : List (List ℕ)) → list_all is_free_name names ≡ true → IsUtf8 (joined names)
joined_is_text [] all = IsUtf8-nil
joined_is_text (s ∷ []) all = free_is_text s (and_parts (is_free_name s) true all).0
joined_is_text (s ∷ t ∷ names) all =
    let parts = and_parts (is_free_name s) (list_all is_free_name (t ∷ names)) all in
    IsUtf8-append s (47 ∷ joined (t ∷ names)) (free_is_text s parts.0)
    (IsUtf8-append (47 ∷ []) (joined (t ∷ names)) slash_utf8 (joined_is_text (t ∷ names) parts.1))

pub path_is_text : (e : EntityData) (r : ResourceData) (parent name path : List ℕ) → IsSoundEntity e → has r.parent e.nodes ≡ true → IsUtf8 name → name ≡ r.name → parent ≡ structured_of r.parent e.nodes → path ≡ (parent ++ 47 ∷ []) ++ r.name → IsUtf8 path
path_is_text e r parent name path sound there own named above is =
    let text : IsUtf8 parent = subst IsUtf8 (sym above) (joined_is_text (names_to r.parent e.nodes) (free_up e r.parent sound)) in
    subst IsUtf8 (sym is) (IsUtf8-append (parent ++ 47 ∷ []) r.name (IsUtf8-append parent (47 ∷ []) text slash_utf8) (subst IsUtf8 named own))
