-- What a text names, and which policies a content names by it, is the same on a list that keeps what
-- stands where.
use Rattle.sight_laws.proofs.Words.{◌==◌, ◌≡◌, ℕ, List, [], ◌∷◌, map, length, cond, ◌&&◌, Option, Some, None, is_some, option_map, Result, Ok, Err, refl, ap, ap₂, ◌∙◌, cons_option, filter_map, list_all, option_and_then}
use Rattle.sight_laws.proofs.Terms.{Attr, Acpi, Macp, Ty, AccessControlPolicy, Data, Entry, text, list, elements_of, as_text, HomeData, ResourceData, id_of, at, spot_resource, policy_at, seen, EntityData, link_row, links_live, listed, policy_addressed, policy_ids, policy_meant, policy_on}
use Rattle.sight_laws.proofs.Facts.{KeepsStanding, ae_id-seen, cse_id-seen, list_all-same}
use Rattle.addressing.specs.Addresses.{address_of}
use Rattle.addressing.specs.Laws.{named_here, spot_named}
use Rattle.addressing.specs.declared.addr.Addr.{Addr}
use Rattle.addressing.specs.declared.addr.Addr.TheVariants.{Local, Foreign, OtherProvider}
use Rattle.addressing.specs.declared.addr.AddrFault.{AddrFault}
use Rattle.addressing.specs.declared.spot.Spot.{Spot}
use Rattle.entity_model.specs.Entity.{blank}
use Rattle.equal_sights.specs.Shape.{shape_of}
use Rattle.policy_laws.proofs.AlikeLemmas.{ae_id-alike, cse_id-alike}
use Rattle.policy_laws.proofs.ShapeAlikeLemmas.{shape_alike}
use Rattle.sight_laws.proofs.SpotLemmas.{spot_of-kept, typed_at-kept}

-- the entity with each resource as a map turns it; what isn't named here is blank, as the outbox
abbrev pub view : EntityData → (ResourceData → ResourceData) → EntityData
view e g = record (blank e.home) { nodes = map g e.nodes; next = e.next; last = e.last }

-- what is seen of a resource, and its shape, stand where it stands
pub seen_stands : (home : HomeData) (nodes : List ResourceData) (o : List ℕ) → KeepsStanding (seen home nodes o)
seen_stands home nodes o = record {
  number = λ r. refl;
  ty = λ r. refl;
  name = λ r. refl;
  parent = λ r. refl;
  ae = ae_id-seen home nodes o;
  cse = cse_id-seen home nodes o;
}

pub shape_stands : (home : HomeData) (nodes : List ResourceData) (o : List ℕ) → KeepsStanding (shape_of home nodes o)
shape_stands home nodes o = record {
  number = λ r. refl;
  ty = λ r. refl;
  name = λ r. refl;
  parent = λ r. refl;
  ae = λ r. ae_id-alike home o (shape_of home nodes o r) r (shape_alike home nodes o r);
  cse = λ r. cse_id-alike home o (shape_of home nodes o r) r (shape_alike home nodes o r);
}

-- an id is of a type and a number
same_id : (s r : ResourceData) → s.ty ≡ r.ty → s.number ≡ r.number → id_of s ≡ id_of r
same_id s r ty number = rw (ty, number) refl

module _ (e : EntityData) (g : ResourceData → ResourceData) (stands : KeepsStanding g) where
  -- ---- an address

  pub spot-view : (address : List ℕ) → spot_named e.home address (map g e.nodes) ≡ spot_named e.home address e.nodes
  spot-view address = by (address_of e.home address)
    where
      by : (a : Result Addr AddrFault) → named_here a (map g e.nodes) ≡ named_here a e.nodes
      by (Ok (Local segments)) = spot_of-kept g stands.number stands.parent stands.ty stands.name stands.ae segments e.nodes
      by (Ok (Foreign address)) = refl
      by (Ok OtherProvider) = refl
      by (Err fault) = refl

  -- ---- a policy

  still_some : (p : Option ResourceData) → is_some (option_map g p) ≡ is_some p
  still_some None = refl
  still_some (Some r) = refl

  on_spot : (spot : Option Spot) → option_and_then (policy_on (map g e.nodes)) spot ≡ option_map g (option_and_then (policy_on e.nodes) spot)
  on_spot None = refl
  on_spot (Some spot) = by (spot_resource spot)
    where
      by : (n : Option ℕ) → option_and_then (policy_at (map g e.nodes)) n ≡ option_map g (option_and_then (policy_at e.nodes) n)
      by None = refl
      by (Some n) = typed_at-kept g stands.number stands.parent stands.ty stands.name stands.ae AccessControlPolicy n e.nodes

  policy-view : (d : Data) → policy_meant (view e g) d ≡ option_map g (policy_meant e d)
  policy-view d = by (as_text d)
    where
      by : (t : Option (List ℕ)) → option_and_then (policy_addressed (view e g)) t ≡ option_map g (option_and_then (policy_addressed e) t)
      by None = refl
      by (Some t) =
          ap (option_and_then (policy_on (map g e.nodes))) (spot-view t)
          ∙ on_spot (spot_named e.home t e.nodes)

  all_live : (ds : List Data) → list_all (λ (d : Data). is_some (policy_meant (view e g) d)) ds ≡ list_all (λ (d : Data). is_some (policy_meant e d)) ds
  all_live ds =
      list_all-same (λ (d : Data). is_some (policy_meant (view e g) d)) (λ (d : Data). is_some (policy_meant e d))
      (λ d. ap is_some (policy-view d) ∙ still_some (policy_meant e d)) ds

  pub links-view : (es : List Entry) → links_live (view e g) es ≡ links_live e es
  links-view es = ap₂ (λ a b. a && b) (all_live (listed Acpi es)) (all_live (listed Macp es))

  ids_view : (ds : List Data) → policy_ids (view e g) ds ≡ policy_ids e ds
  ids_view [] = refl
  ids_view (d ∷ ds) =
      ap (λ (p : Option ResourceData). map (λ (r : ResourceData). text (id_of r)) (cons_option p (filter_map (policy_meant (view e g)) ds))) (policy-view d)
      ∙ by (policy_meant e d) (ids_view ds)
    where
      by : (p : Option ResourceData) → policy_ids (view e g) ds ≡ policy_ids e ds → map (λ (r : ResourceData). text (id_of r)) (cons_option (option_map g p) (filter_map (policy_meant (view e g)) ds)) ≡ map (λ (r : ResourceData). text (id_of r)) (cons_option p (filter_map (policy_meant e) ds))
      by None rest = rest
      by (Some r) rest =
          ap₂ (λ (id : List ℕ) (xs : List Data). text id ∷ xs) (same_id (g r) r (stands.ty r) (stands.number r)) rest

  pub link_row-view : (es : List Entry) (attr : Attr) → link_row (view e g) es attr ≡ link_row e es attr
  link_row-view es attr = ap (λ (ids : List Data). cond (length (listed attr es) == 0) [] ((attr, list (elements_of ids)) ∷ [])) (ids_view (listed attr es))
