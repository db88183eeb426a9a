-- What a Delete leaves.
use Rattle.std.proofs.Common.{◌≡◌, ℕ, List, [], ◌∷◌, Bool, true, false, cond, Option, Some, None, inl, inr, refl, sym, ap, ◌∙◌}
use Rattle.std.proofs.lemmas.Bool.{cases_Bool, both_ways, not-true, not_from_false, not-false}
use Rattle.std.specs.List.{list_any}
use Rattle.std.specs.Option.{option_map_or}
use Rattle.m2m_names.specs.Operations.{op_row}
use Rattle.m2m_names.specs.declared.codes.Rsc.{Rsc}
use Rattle.m2m_names.specs.declared.codes.Rsc.TheVariants.{Deleted}
use Rattle.m2m_names.specs.declared.operations.Op.TheVariants.{Delete}
use Rattle.m2m_names.specs.declared.types.Ty.TheVariants.{CseBase}
use Rattle.primitive_json.specs.declared.request.RequestParts.{RequestParts}
use Rattle.resource_model.specs.Home.{HomeData}
use Rattle.resource_model.specs.Resource.{ResourceData, has_number, is_ty}
use Rattle.tree_model.specs.Tree.{at, has, line_of, without, is_spared}
use Rattle.tree_model.proofs.GrowthLemmas.{at-without, tree_from_well_formed}
use Rattle.tree_model.proofs.TreeLemmas.{at_has, at_number}
use Rattle.policy_eval.specs.Rights.{grants}
use Rattle.create_delete.specs.Changing.{effect_at}
use Rattle.entity_model.specs.Entity.{EntityData}
use Rattle.request_rules.specs.Order.{fault_at}
use Rattle.request_rules.specs.Requests.{is_for}
use Rattle.request_rules.specs.Rights.{is_granted}
use Rattle.entity_model.specs.Places.{Effect, reply_to}
use Rattle.entity_model.specs.Sound.{begins_with_base, spares_first, IsSoundEntity}
use Rattle.request_rules.proofs.OrderLemmas.{nothing_on, found_at, places_parts}
use Rattle.create_delete.proofs.EffectLemmas.{done_at, refused_at}
use Rattle.entity_model.proofs.SoundLemmas.{base_parts}
use Rattle.m2m_names.proofs.StepLemmas.{chosen}

abbrev removed_from : EntityData → RequestParts → ℕ → Effect
removed_from e request n = record {
  reply = reply_to request Deleted None;
  after = record { home = e.home; nodes = without (has_number n) e.nodes; next = e.next; last = e.last; items = e.items; numbered = e.numbered };
}

-- where nothing refuses it, the resource goes with all that stands below it
pub delete_done : (e : EntityData) (o : List ℕ) (request : RequestParts) (n : ℕ) → fault_at Delete e o request n ≡ None → effect_at Delete e o request n ≡ removed_from e request n
delete_done e o request n none =
    let found = found_at Delete e o request n none in
    done_at Delete e o request n found.0 found.1 none
    ∙ ap (λ (m : ℕ). removed_from e request m) (at_number n e.nodes found.0 found.1)

-- it is there, and of a type that may be deleted
abbrev pub is_deletable : ℕ → EntityData → Bool
is_deletable n e = option_map_or (λ (t : ResourceData). is_for Delete t.ty) (at n e.nodes) false

record Target (e : EntityData) (o : List ℕ) (n : ℕ) : Type 0 where
  target : ResourceData
  found : at n e.nodes ≡ Some target
  right : is_granted e o (op_row Delete).bit target.number ≡ true
  kind : is_for Delete target.ty ≡ true

target_of : (e : EntityData) (o : List ℕ) (request : RequestParts) (n : ℕ) → fault_at Delete e o request n ≡ None → Target e o n
target_of e o request n none =
    let found = found_at Delete e o request n none in
    let parts = places_parts Delete e o request found.0 (nothing_on Delete e o request n found.0 found.1 none) in
    record { target = found.0; found = found.1; right = parts.right; kind = parts.kind }

pub deletable : (e : EntityData) (o : List ℕ) (request : RequestParts) (n : ℕ) → fault_at Delete e o request n ≡ None → is_deletable n e ≡ true
deletable e o request n none =
    let t = target_of e o request n none in
    ap (λ (x : Option ResourceData). option_map_or (λ (r : ResourceData). is_for Delete r.ty) x false) t.found ∙ t.kind

deletable_found : (n : ℕ) (nodes : List ResourceData) (x : Option ResourceData) → at n nodes ≡ x → option_map_or (λ (r : ResourceData). is_for Delete r.ty) x false ≡ true → (t : ResourceData) × (at n nodes ≡ Some t) × (is_for Delete t.ty ≡ true)
deletable_found n nodes None is t = cc
deletable_found n nodes (Some r) is t = (r, is, t)

pub deletable_there : (n : ℕ) (e : EntityData) → is_deletable n e ≡ true → has n e.nodes ≡ true
deletable_there n e may = (let found = deletable_found n e.nodes (at n e.nodes) refl may in at_has n e.nodes found.0 found.1)

-- the CSEBase is the first resource, and nothing else is
spared : (home : HomeData) (nodes : List ResourceData) (n : ℕ) (t : ResourceData) → begins_with_base home nodes ≡ true → at n nodes ≡ Some t → is_ty t.ty CseBase ≡ false → spares_first (has_number n) nodes ≡ true
spared home [] n t base there other = refl
spared home (r ∷ nodes) n t base there other = elim (cases_Bool (has_number n r)) [
  | inl here ↦
      let same : Some r ≡ Some t = rw here at there in
      let is : is_ty r.ty CseBase ≡ is_ty t.ty CseBase = ap (λ (o : Option ResourceData). option_map_or (λ s. is_ty s.ty CseBase) o false) same in
      absurd (both_ways _ (is ∙ other) (base_parts home r nodes base).kind)
  | inr apart ↦ not_from_false _ apart
]

-- what may be deleted isn't the first resource
pub deletable_spared : (n : ℕ) (e : EntityData) → IsSoundEntity e → is_deletable n e ≡ true → spares_first (has_number n) e.nodes ≡ true
deletable_spared n e sound may =
    let found = deletable_found n e.nodes (at n e.nodes) refl may in
    spared e.home e.nodes n found.0 sound.base found.1 (not-true _ found.2)

-- ---- what it takes, and by what right

-- what is done where nothing refuses it
record IsDone (e : EntityData) (o : List ℕ) (request : RequestParts) (n : ℕ) : Type 0 where
  after : (effect_at Delete e o request n).after.nodes ≡ without (has_number n) e.nodes
  right : grants e.home e.nodes o (op_row Delete).bit n ≡ true

done_on : (e : EntityData) (o : List ℕ) (request : RequestParts) (n : ℕ) → fault_at Delete e o request n ≡ None → IsDone e o request n
done_on e o request n none =
    let t = target_of e o request n none in
    record {
      after = ap (λ (x : Effect). x.after.nodes) (delete_done e o request n none);
      right = ap (λ (m : ℕ). grants e.home e.nodes o (op_row Delete).bit m) (sym (at_number n e.nodes t.target t.found)) ∙ t.right;
    }

refused_same : (e : EntityData) (o : List ℕ) (request : RequestParts) (n : ℕ) (f : Rsc) → fault_at Delete e o request n ≡ Some f → (effect_at Delete e o request n).after.nodes ≡ e.nodes
refused_same e o request n f is = ap (λ (x : Effect). x.after.nodes) (refused_at Delete e o request n f is)

not_spared : (spared : Bool) (r : ResourceData) → cond spared (Some r) None ≡ None → spared ≡ false
not_spared true r gone = cc
not_spared false r gone = refl

pub deletion_takes : (e : EntityData) (o : List ℕ) (request : RequestParts) (n : ℕ) (r : ResourceData) → IsSoundEntity e → at r.number e.nodes ≡ Some r → at r.number (effect_at Delete e o request n).after.nodes ≡ None → (list_any (has_number n) (line_of r.number e.nodes) ≡ true) × (grants e.home e.nodes o (op_row Delete).bit n ≡ true)
deletion_takes e o request n r sound there gone = by_fault (fault_at Delete e o request n) refl
  where
    by_fault : (fault : Option Rsc) → fault_at Delete e o request n ≡ fault → (list_any (has_number n) (line_of r.number e.nodes) ≡ true) × (grants e.home e.nodes o (op_row Delete).bit n ≡ true)
    by_fault (Some f) is = (let same : Some r ≡ None = sym there ∙ ap (at r.number) (sym (refused_same e o request n f is)) ∙ gone in cc)
    by_fault None is =
        let done = done_on e o request n is in
        let left : at r.number (without (has_number n) e.nodes) ≡ None = ap (at r.number) (sym done.after) ∙ gone in
        let cut : cond (is_spared (has_number n) e.nodes r.number) (Some r) None ≡ None =
        ap (λ (x : Option ResourceData). cond (is_spared (has_number n) e.nodes r.number) x None) (sym there) ∙ sym (at-without (has_number n) r.number e.nodes (tree_from_well_formed e.nodes sound.tree)) ∙ left in
        (not-false _ (not_spared (is_spared (has_number n) e.nodes r.number) r cut), done.right)

pub deletion_keeps : (e : EntityData) (o : List ℕ) (request : RequestParts) (n : ℕ) (r : ResourceData) → IsSoundEntity e → at r.number (effect_at Delete e o request n).after.nodes ≡ Some r → at r.number e.nodes ≡ Some r
deletion_keeps e o request n r sound left = by_fault (fault_at Delete e o request n) refl
  where
    by_fault : (fault : Option Rsc) → fault_at Delete e o request n ≡ fault → at r.number e.nodes ≡ Some r
    by_fault (Some f) is = ap (at r.number) (sym (refused_same e o request n f is)) ∙ left
    by_fault None is =
        (chosen (is_spared (has_number n) e.nodes r.number) (at r.number e.nodes) r
        (sym (at-without (has_number n) r.number e.nodes (tree_from_well_formed e.nodes sound.tree)) ∙ ap (at r.number) (sym (done_on e o request n is).after) ∙ left)).1
