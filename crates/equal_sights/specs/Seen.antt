-- What an originator sees of a list of resources. Whatever its rights, it sees of each resource the
-- number, type, name and parent, when it is due, `acpi`, `macp` and whether it owns it; the `aei`
-- of an AE; the `csi` of a remote CSE and the first http URL of its `poa`; the `enc` and the `exc`
-- of a subscription; and of a policy the bits that it has by `pv` and by `pvs`. Besides, it sees
-- what its rights show, and nothing else.
use Rattle.std.specs.Prelude.{◌≡◌, ℕ, nat_lt, Bool, true, false, ◌&&◌, ◌||◌, List, [], ◌∷◌}
use Rattle.std.specs.Prelude.{◌++◌, map, codes, Option, Some, None, option_map, unwrap_or, find}
use Rattle.std.specs.Prelude.{is_some, if◌then◌else◌}
use Rattle.std.specs.List.{filter_map}
use Rattle.std.specs.Option.{option_map_or, option_or}
use Rattle.m2m_names.specs.declared.attributes.Attr.{Attr}
use Rattle.m2m_names.specs.declared.attributes.Attr.TheVariants.{Cs, Csy, Lbl, Mbs, Mia, Mid, Mni}
use Rattle.m2m_names.specs.declared.attributes.Attr.TheVariants.{Mnm, Mt, Poa, Pv, Pvs, St}
use Rattle.m2m_names.specs.declared.types.Ty.TheVariants.{AccessControlPolicy, Container}
use Rattle.m2m_names.specs.declared.types.Ty.TheVariants.{ContentInstance, Group, RemoteCse}
use Rattle.m2m_names.specs.UrlReading.{host_end_at}
use Rattle.m2m_value.specs.Data.{Data, list, text, elements_of}
use Rattle.resource_model.specs.Attributes.{Row, is_attr, value_of}
use Rattle.resource_model.specs.Home.{HomeData}
use Rattle.resource_model.specs.Resource.{ResourceData, is_ty}
use Rattle.tree_model.specs.Tree.{at, due}
use Rattle.policy_eval.specs.Originators.{everyone, is_same}
use Rattle.policy_eval.specs.Rules.{is_attr_in, rules_in, rules_of, fan_rules, texts_of, listed_in}
use Rattle.policy_eval.specs.Rules.{written_rule, written_rules}
pub use Rattle.policy_eval.specs.Rights.{create_bit, retrieve_bit, update_bit, discovery_bit}
use Rattle.policy_eval.specs.Rights.{bits_by, do_give}
use Rattle.equal_sights.specs.Alike.{Agree, shape_attrs, Alike}

-- ---- rights of the originator, by what they show

-- The originator has this bit on the resource.
abbrev pub has_bit : HomeData → List ResourceData → List ℕ → ℕ → ResourceData → Bool
has_bit home nodes originator bit r = do_give home originator bit (rules_of nodes r)

-- The originator may add to the resource or change it, so that it can learn the resource's limits.
abbrev pub may_fill : HomeData → List ResourceData → List ℕ → ResourceData → Bool
may_fill home nodes originator r =
    has_bit home nodes originator create_bit r || has_bit home nodes originator update_bit r

-- a container that it may fill
abbrev pub fills : HomeData → List ResourceData → List ℕ → ResourceData → Bool
fills home nodes originator r = is_ty r.ty Container && may_fill home nodes originator r

-- an instance of a container that it may fill
abbrev pub is_filled_in : HomeData → List ResourceData → List ℕ → ResourceData → Bool
is_filled_in home nodes originator r =
    is_ty r.ty ContentInstance
    && option_map_or (fills home nodes originator) (at r.parent nodes) false

-- a group that it may change, or fan out to
abbrev pub may_use : HomeData → List ResourceData → List ℕ → ResourceData → Bool
may_use home nodes originator r =
    is_ty r.ty Group
    && (has_bit home nodes originator update_bit r
    || nat_lt 0 (bits_by home originator (fan_rules nodes r)))

-- ---- what is shown of a resource

-- what discovery may tell of it
abbrev pub found_attrs : List Attr
found_attrs = Lbl ∷ St ∷ Cs ∷ []

-- the limits of a container, and its count of instances and updates
abbrev pub limit_attrs : List Attr
limit_attrs = Mni ∷ Mbs ∷ Mia ∷ St ∷ []

-- the size of an instance
abbrev pub size_attrs : List Attr
size_attrs = Cs ∷ []

-- the members of a group
abbrev pub member_attrs : List Attr
member_attrs = Mid ∷ Mnm ∷ Mt ∷ Csy ∷ []

-- the value of an attribute is shown
abbrev pub is_shown : HomeData → List ResourceData → List ℕ → ResourceData → Attr → Bool
is_shown home nodes originator r a =
    is_attr_in (shape_attrs r.ty) a
    || has_bit home nodes originator retrieve_bit r
    || (has_bit home nodes originator discovery_bit r && is_attr_in found_attrs a)
    || (fills home nodes originator r && is_attr_in limit_attrs a)
    || (is_filled_in home nodes originator r && is_attr_in size_attrs a)
    || (may_use home nodes originator r && is_attr_in member_attrs a)

-- rules that give everyone these bits, as `pv` or `pvs` writes them
abbrev pub plain_rules : ℕ → Data
plain_rules bits = written_rules (written_rule everyone bits ∷ [])

-- of the rules of a policy the originator sees what they give it
abbrev pub seen_rules : HomeData → List ℕ → Data → Data
seen_rules home originator rules = plain_rules (bits_by home originator (rules_in (Some rules)))

-- the rules of a policy
abbrev pub is_policy_rules : ResourceData → Attr → Bool
is_policy_rules r a = is_ty r.ty AccessControlPolicy && is_attr_in (Pv ∷ Pvs ∷ []) a

-- a point of access that is an http URL (RFC 3986)
abbrev pub is_url : List ℕ → Bool
is_url address = is_some (host_end_at address)

-- the first of the points of access that is a URL
abbrev pub first_url : Option Data → Option (List ℕ)
first_url points = find is_url (texts_of (listed_in points))

-- the URL as the only point of access
abbrev pub only_point : List ℕ → Data
only_point url = list (elements_of (text url ∷ []))

-- of the points of access of a remote CSE the originator sees the first that is a URL, where one is
abbrev pub seen_points : Data → Option Data
seen_points points = option_map only_point (first_url (Some points))

-- the first URL in rows of `poa`; where rows are in order, one at most is of `poa`, and it is that
-- one's
abbrev pub way_in : List Row → Option (List ℕ)
way_in [] = None
way_in (row ∷ rows) =
    if is_attr Poa row.0 then option_or (first_url (Some row.1)) (way_in rows) else way_in rows

-- the points of access of a remote CSE
abbrev pub is_way : ResourceData → Attr → Bool
is_way r a = is_ty r.ty RemoteCse && is_attr a Poa

-- what it sees of a value that isn't shown: of rules what they give it, of points of access the way
-- in, and of all else nothing
abbrev pub hidden_value : HomeData → List ℕ → ResourceData → Attr → Data → Option Data
hidden_value home originator r a d =
    if is_policy_rules r a then Some (seen_rules home originator d) else
    if is_way r a then seen_points d else None

-- what it sees of a value
abbrev pub seen_value : HomeData → List ResourceData → List ℕ → ResourceData → Attr → Data →
    Option Data
seen_value home nodes originator r a d =
    if is_shown home nodes originator r a then Some d else hidden_value home originator r a d

-- An attribute with what the originator sees of its value.
abbrev pub seen_row : HomeData → List ResourceData → List ℕ → ResourceData → Row → Option Row
seen_row home nodes originator r row =
    option_map (λ d. (row.0, d)) (seen_value home nodes originator r row.0 row.1)

-- a text that never names the originator
abbrev pub another : List ℕ → List ℕ
another originator = originator ++ codes " "

-- whether it owns the resource: its own text where it does, however the owner's is spelled, else
-- another
abbrev pub seen_owner : HomeData → List ℕ → ResourceData → List ℕ
seen_owner home originator r =
    if is_same home originator r.owner then originator else another originator

-- the resource in all but the owner's name
abbrev pub with_seen_owner : HomeData → List ℕ → ResourceData → ResourceData
with_seen_owner home originator r = record r { owner = seen_owner home originator r }

-- When the resource was created, for an originator that may retrieve or discover it, or may fill
-- its container; else 0.
abbrev pub seen_ct : HomeData → List ResourceData → List ℕ → ResourceData → ℕ
seen_ct home nodes originator r =
    if has_bit home nodes originator retrieve_bit r || has_bit home nodes originator discovery_bit r
    || is_filled_in home nodes originator r
    then r.ct else 0

-- When the resource was last changed, for an originator that may retrieve or discover it; else 0.
abbrev pub seen_lt : HomeData → List ResourceData → List ℕ → ResourceData → ℕ
seen_lt home nodes originator r =
    if has_bit home nodes originator retrieve_bit r || has_bit home nodes originator discovery_bit r
    then r.lt else 0

-- where the expiry is hidden, when it is due is seen
abbrev pub seen_et : HomeData → List ResourceData → List ℕ → ResourceData → ℕ
seen_et home nodes originator r =
    if has_bit home nodes originator retrieve_bit r || is_filled_in home nodes originator r
    then r.et else unwrap_or (due nodes r) 0

-- the resource as the originator sees it
abbrev pub seen : HomeData → List ResourceData → List ℕ → ResourceData → ResourceData
seen home nodes originator r = record {
  number = r.number;
  ty = r.ty;
  name = r.name;
  parent = r.parent;
  owner = seen_owner home originator r;
  ct = seen_ct home nodes originator r;
  lt = seen_lt home nodes originator r;
  et = seen_et home nodes originator r;
  attrs = filter_map (seen_row home nodes originator r) r.attrs;
}

-- the list as the originator sees it
abbrev pub seen_list : HomeData → List ResourceData → List ℕ → List ResourceData
seen_list home nodes originator = map (seen home nodes originator) nodes

-- ---- the same, as a reader would say it

-- what a resource s, seen by the originator, shows of the resource r
pub record Shows (home : HomeData) (nodes : List ResourceData) (originator : List ℕ)
    (r s : ResourceData) : Type 0 where
  -- always: where it stands, whether the originator owns it, by what it is judged, named and told,
  -- what the rules of a policy give the originator, and the first URL of a remote CSE
  pub always : Alike home originator s r
  pub way : is_ty r.ty RemoteCse ≡ true → way_in s.attrs ≡ way_in r.attrs
  -- with RETRIEVE all but the owner's name
  pub retrieved : has_bit home nodes originator retrieve_bit r ≡ true →
      (s.attrs ≡ r.attrs) × (s.ct ≡ r.ct) × (s.lt ≡ r.lt) × (s.et ≡ r.et)
  -- with DISCOVERY
  pub found : has_bit home nodes originator discovery_bit r ≡ true →
      Agree found_attrs s r × (s.ct ≡ r.ct) × (s.lt ≡ r.lt)
  -- of a container that it may fill, and of its instances
  pub filled : fills home nodes originator r ≡ true → Agree limit_attrs s r
  pub inside : is_filled_in home nodes originator r ≡ true →
      Agree size_attrs s r × (s.ct ≡ r.ct) × (s.et ≡ r.et)
  -- of a group that it may use
  pub used : may_use home nodes originator r ≡ true → Agree member_attrs s r
  -- of an owner nothing but whether it is the originator
  pub owner : s.owner ≡ seen_owner home originator r
  -- of hidden rules nothing but what they give the originator
  pub rules : (a : Attr) → is_policy_rules r a ≡ true → is_shown home nodes originator r a ≡ false →
      value_of a s.attrs ≡ option_map (seen_rules home originator) (value_of a r.attrs)
  -- of hidden points of access nothing but the first URL
  pub points : is_ty r.ty RemoteCse ≡ true → is_shown home nodes originator r Poa ≡ false →
      value_of Poa s.attrs ≡ option_map only_point (way_in r.attrs)
  -- of other hidden attributes nothing
  pub hidden : (a : Attr) → is_shown home nodes originator r a ≡ false →
      is_policy_rules r a ≡ false → is_way r a ≡ false → value_of a s.attrs ≡ None
  -- hidden moments are 0, but when it is due is seen
  pub silent_ct : has_bit home nodes originator retrieve_bit r ≡ false →
      has_bit home nodes originator discovery_bit r ≡ false →
      is_filled_in home nodes originator r ≡ false → s.ct ≡ 0
  pub silent_lt : has_bit home nodes originator retrieve_bit r ≡ false →
      has_bit home nodes originator discovery_bit r ≡ false →
      s.lt ≡ 0
  pub silent_et : has_bit home nodes originator retrieve_bit r ≡ false →
      is_filled_in home nodes originator r ≡ false →
      s.et ≡ unwrap_or (due nodes r) 0
