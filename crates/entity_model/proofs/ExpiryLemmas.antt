-- What an expiry tells.
use Rattle.std.proofs.Common.{◌≡◌, ℕ, suc, List, [], ◌∷◌, Bool, not, Option, Some, refl, ap, ◌∙◌}
use Rattle.std.specs.List.{cons_option, filter, slice_get}
use Rattle.std.specs.Prelude.{map}
use Rattle.resource_model.specs.Resource.{ResourceData}
use Rattle.tree_model.specs.Changes.{deleted, those_of}
use Rattle.tree_model.specs.Tree.{at, has, live, numbers_of}
use Rattle.tree_model.proofs.GrowthLemmas.{tree_from_well_formed}
use Rattle.tree_model.proofs.OrderLemmas.{placed_stands}
use Rattle.entity_model.specs.Entity.{EntityData}
use Rattle.entity_model.specs.Expiry.{expiry_changes}
use Rattle.entity_model.specs.Sound.{IsSoundEntity}

-- resources of a list are those of their numbers
pub those_all : (nodes rs : List ResourceData) → ((k : ℕ) (s : ResourceData) → slice_get rs k ≡ Some s → at s.number nodes ≡ Some s) → those_of (numbers_of rs) nodes ≡ rs
those_all nodes [] each = refl
those_all nodes (s ∷ rs) each =
    ap (λ (o : Option ResourceData). cons_option o (those_of (numbers_of rs) nodes)) (each 0 s refl)
    ∙ ap (λ (ss : List ResourceData). s ∷ ss) (those_all nodes rs (λ k x got. each (suc k) x got))

pub expiry_told : (moment : ℕ) (e : EntityData) → IsSoundEntity e → expiry_changes moment e.nodes ≡ map deleted (filter (λ (r : ResourceData). not (has r.number (live moment e.nodes))) e.nodes)
expiry_told moment e sound =
    let gone : ResourceData → Bool = λ r. not (has r.number (live moment e.nodes)) in
    ap (map deleted) (those_all e.nodes (filter gone e.nodes) (λ k s got. placed_stands gone e.nodes k s (tree_from_well_formed e.nodes sound.tree) got))
