-- What an address names is the same on a list that keeps numbers, parents, types, names and AE-IDs.
use Rattle.sight_laws.proofs.Words.{bytes_eq, slice_get, ◌≡◌, ℕ, ◌+◌, ◌-◌, Bool, true, false, cond, ◌&&◌, List, [], ◌∷◌, length, map, find, Option, Some, None, is_some, refl, ap, ap₂, ◌∙◌, option_or}
use Rattle.sight_laws.proofs.Terms.{Ty, ContentInstance, Group, PollingChannel, HomeData, ResourceData, ae_id, is_ty, ae_of, at, child_of, children_of, first_number, instance_of, instances_of, is_ae, is_child, is_instance, is_under, last_number, number_at, of_type, resource_number, same_text, typed_at, seen, seen_list, base_named, base_of, first_named, id_named, is_at, next_named, poll_point, fan_point, spot_from, spot_of, Resource}
use Rattle.sight_laws.proofs.Facts.{length-map, slice_get-map, at-map, filter_image, find_image, same_chosen, ae_id-seen}
use Rattle.std.specs.Prelude.{codes}
use Rattle.std.proofs.Common.{◌==◌}
use Rattle.std.specs.Option.{option_and_then, option_map}
use Rattle.m2m_names.specs.Ids.{id_parts}

module _ (g : ResourceData → ResourceData) (number : (r : ResourceData) → (g r).number ≡ r.number) (parent : (r : ResourceData) → (g r).parent ≡ r.parent) (ty : (r : ResourceData) → (g r).ty ≡ r.ty) (name : (r : ResourceData) → (g r).name ≡ r.name) (aei : (r : ResourceData) → ae_id (g r) ≡ ae_id r) where
  number_of-kept : (o : Option ResourceData) → resource_number (option_map g o) ≡ resource_number o
  number_of-kept None = refl
  number_of-kept (Some r) = ap Some (number r)

  number_at-kept : (k : ℕ) (rs : List ResourceData) → number_at k (map g rs) ≡ number_at k rs
  number_at-kept k rs = ap resource_number (slice_get-map g rs k) ∙ number_of-kept (slice_get rs k)

  under-kept : (n : ℕ) (r : ResourceData) → is_under n (g r) ≡ is_under n r
  under-kept n r = ap (λ (m : ℕ). m == n) (parent r)

  base_of-kept : (nodes : List ResourceData) → base_of (map g nodes) ≡ base_of nodes
  base_of-kept nodes = ap first_number (filter_image g (is_under 0) (is_under 0) (under-kept 0) nodes) ∙ number_at-kept 0 (children_of 0 nodes)

  child_of-kept : (n : ℕ) (s : List ℕ) (nodes : List ResourceData) → child_of n s (map g nodes) ≡ child_of n s nodes
  child_of-kept n s nodes =
      ap resource_number (find_image g (is_child n s) (is_child n s) (λ r. ap₂ (λ a b. a && b) (under-kept n r) (ap (λ t. bytes_eq t s) (name r))) nodes)
      ∙ number_of-kept (find (is_child n s) nodes)

  ae_of-kept : (s : List ℕ) (nodes : List ResourceData) → ae_of s (map g nodes) ≡ ae_of s nodes
  ae_of-kept s nodes =
      ap resource_number (find_image g (is_ae s) (is_ae s) (λ r. ap (λ o. same_text o (Some s)) (aei r)) nodes)
      ∙ number_of-kept (find (is_ae s) nodes)

  instances_of-kept : (n : ℕ) (nodes : List ResourceData) → instances_of n (map g nodes) ≡ map g (instances_of n nodes)
  instances_of-kept n nodes = filter_image g (is_instance n) (is_instance n) (λ r. ap₂ (λ a b. a && b) (under-kept n r) (ap (λ (t : Ty). is_ty t ContentInstance) (ty r))) nodes

  instance_of-kept : (newest : Bool) (n : ℕ) (nodes : List ResourceData) → instance_of newest n (map g nodes) ≡ instance_of newest n nodes
  instance_of-kept true n nodes =
      ap last_number (instances_of-kept n nodes)
      ∙ ap (λ k. number_at (k - 1) (map g (instances_of n nodes))) (length-map (instances_of n nodes) g)
      ∙ number_at-kept (length (instances_of n nodes) - 1) (instances_of n nodes)
  instance_of-kept false n nodes = ap first_number (instances_of-kept n nodes) ∙ number_at-kept 0 (instances_of n nodes)

  pub typed_at-kept : (t : Ty) (n : ℕ) (nodes : List ResourceData) → typed_at t n (map g nodes) ≡ option_map g (typed_at t n nodes)
  typed_at-kept t n nodes = ap (option_and_then (of_type t)) (at-map g number n nodes) ∙ by_found (at n nodes)
    where
      by_found : (o : Option ResourceData) → option_and_then (of_type t) (option_map g o) ≡ option_map g (option_and_then (of_type t) o)
      by_found None = refl
      by_found (Some r) =
          let same : is_ty (g r).ty t ≡ is_ty r.ty t = ap (λ (u : Ty). is_ty u t) (ty r) in
          same_chosen (λ (x y : Option ResourceData). x ≡ option_map g y) _ _ _ _ _ _ same (λ is. refl) (λ other. refl)

  is_at-kept : (t : Ty) (n : ℕ) (nodes : List ResourceData) → is_at t n (map g nodes) ≡ is_at t n nodes
  is_at-kept t n nodes = ap is_some (typed_at-kept t n nodes) ∙ by_found (typed_at t n nodes)
    where
      by_found : (o : Option ResourceData) → is_some (option_map g o) ≡ is_some o
      by_found None = refl
      by_found (Some r) = refl

  id_named-kept : (s : List ℕ) (nodes : List ResourceData) → id_named s (map g nodes) ≡ id_named s nodes
  id_named-kept s nodes = by_parts (id_parts s)
    where
      by_parts : (o : Option (Ty × ℕ)) → resource_number (option_and_then (λ (id : Ty × ℕ). typed_at id.0 id.1 (map g nodes)) o) ≡ resource_number (option_and_then (λ (id : Ty × ℕ). typed_at id.0 id.1 nodes) o)
      by_parts None = refl
      by_parts (Some id) = ap resource_number (typed_at-kept id.0 id.1 nodes) ∙ number_of-kept (typed_at id.0 id.1 nodes)

  first_named-kept : (s : List ℕ) (nodes : List ResourceData) → first_named s (map g nodes) ≡ first_named s nodes
  first_named-kept s nodes =
      let base : base_named s (map g nodes) ≡ base_named s nodes = ap₂ (λ a b. cond (bytes_eq s (codes "-")) a b) (base_of-kept nodes) (child_of-kept 0 s nodes) in
      ap₂ option_or base (ap₂ option_or (id_named-kept s nodes) (ae_of-kept s nodes))

  next_named-kept : (n : ℕ) (s : List ℕ) (nodes : List ResourceData) → next_named n s (map g nodes) ≡ next_named n s nodes
  next_named-kept n s nodes =
      ap₂ (λ a b. cond (bytes_eq s (codes "la")) a b) (instance_of-kept true n nodes)
      (ap₂ (λ a b. cond (bytes_eq s (codes "ol")) a b) (instance_of-kept false n nodes) (child_of-kept n s nodes))

  spot_from-kept : (place n : ℕ) (names : List (List ℕ)) (nodes : List ResourceData) → spot_from place n names (map g nodes) ≡ spot_from place n names nodes
  spot_from-kept place n [] nodes = refl
  spot_from-kept place n (s ∷ names) nodes =
      ap₂ (λ fan rest. cond fan (Some (fan_point n (place + 1))) rest) (ap (λ b. bytes_eq s (codes "fopt") && b) (is_at-kept Group n nodes))
      (ap₂ (λ poll rest. cond poll (poll_point n names) rest) (ap (λ b. bytes_eq s (codes "pcu") && b) (is_at-kept PollingChannel n nodes))
      (ap (option_and_then (λ m. spot_from (place + 1) m names (map g nodes))) (next_named-kept n s nodes) ∙ later (λ m. spot_from-kept (place + 1) m names nodes) (next_named n s nodes)))
    where
      later : ((m : ℕ) → spot_from (place + 1) m names (map g nodes) ≡ spot_from (place + 1) m names nodes) → (o : Option ℕ) → option_and_then (λ m. spot_from (place + 1) m names (map g nodes)) o ≡ option_and_then (λ m. spot_from (place + 1) m names nodes) o
      later same None = refl
      later same (Some m) = same m

  pub spot_of-kept : (segments : List (List ℕ)) (nodes : List ResourceData) → spot_of segments (map g nodes) ≡ spot_of segments nodes
  spot_of-kept [] nodes = ap (option_map (λ n. Resource n)) (base_of-kept nodes)
  spot_of-kept (s ∷ names) nodes = ap (option_and_then (λ n. spot_from 1 n names (map g nodes))) (first_named-kept s nodes) ∙ later (first_named s nodes)
    where
      later : (o : Option ℕ) → option_and_then (λ n. spot_from 1 n names (map g nodes)) o ≡ option_and_then (λ n. spot_from 1 n names nodes) o
      later None = refl
      later (Some n) = spot_from-kept 1 n names nodes

pub spot_of-seen : (home : HomeData) (nodes : List ResourceData) (o : List ℕ) (segments : List (List ℕ)) → spot_of segments (seen_list home nodes o) ≡ spot_of segments nodes
spot_of-seen home nodes o segments =
    spot_of-kept (seen home nodes o) (λ r. refl) (λ r. refl) (λ r. refl) (λ r. refl) (ae_id-seen home nodes o) segments nodes
