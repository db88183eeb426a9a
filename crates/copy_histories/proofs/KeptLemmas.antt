-- The resources of a sound entity are such as copies follow.
use Rattle.std.proofs.Common.{◌≡◌, ◌<◌, List, [], ◌∷◌, Some, None, refl, sym, ◌∙◌, arith}
use Rattle.std.proofs.lemmas.Bool.{ltb-true}
use Rattle.std.specs.Prelude.{nat_lt}
use Rattle.m2m_names.specs.Ids.{count_bound}
use Rattle.resource_model.specs.Resource.{ResourceData}
use Rattle.tree_model.specs.Tree.{at}
use Rattle.tree_model.proofs.GrowthLemmas.{stands, tree_from_well_formed}
use Rattle.tree_model.proofs.QuietLemmas.{number_passes}
use Rattle.attribute_rules.specs.Kinds.{are_kinds}
use Rattle.copy_laws.specs.Following.{IsKept, IsOperation, nothing}
use Rattle.copy_laws.proofs.KeptLemmas.{kept_from_kinds}
use Rattle.copy_laws.proofs.RemovalLemmas.{under_container}
use Rattle.entity_model.specs.Entity.{EntityData}
use Rattle.entity_model.specs.Sound.{IsSoundEntity}
use Rattle.entity_model.proofs.SoundLemmas.{IsFramed, framed_from}
use Rattle.copy_histories.proofs.RunLemmas.{Goes, goes_still}

-- all that stand in the list are such
abbrev pub AreKept : List ResourceData → Type 0
AreKept nodes = (r : ResourceData) → at r.number nodes ≡ Some r → IsKept r

pub framed_kept : (e : EntityData) → IsFramed e → AreKept e.nodes
framed_kept e framed r found =
    let below : r.number < e.next = ltb-true r.number e.next (number_passes (λ s. nat_lt s.number e.next) r.number e.nodes r framed.numbers found) in
    let above : r.parent < r.number = (stands e.nodes (tree_from_well_formed e.nodes framed.tree) r.number r found).above in
    let small : r.number < count_bound = omega (arith, framed.next) in
    let smaller : r.parent < count_bound = omega arith in
    kept_from_kinds r small smaller (number_passes are_kinds r.number e.nodes r framed.kinds found)

module _ (e : EntityData) (sound : IsSoundEntity e) where
  pub are_kept : AreKept e.nodes
  are_kept = framed_kept e (framed_from e sound)

  -- an operation that does nothing
  idle : IsOperation e.home e.nodes nothing [] e.nodes
  idle = record {
    kept = are_kept;
    left = are_kept;
    leads = tt;
    removes = tt;
    others = λ s found other. (s, found, record { number = refl; ty = refl; parent = refl; peers = refl; values = λ attr others. refl });
    lost = λ r found other gone. (let bad : Some r ≡ None = sym found ∙ gone in cc);
    containers = λ r c found instance above. under_container e.nodes sound.tree r c found instance above;
  }

  pub stays_still : Goes e.home e.nodes e.nodes [] (e.nodes ∷ [])
  stays_still = goes_still e.home e.nodes idle
