use Rattle.std.specs.Prelude.{slice_get}
use Rattle.std.proofs.Common.{◌≡◌, List, [], ◌∷◌, Option, Some, None, false, refl, sym, ap, ◌∙◌}
use Rattle.std.specs.Option.{option_map_or}
use Rattle.resource_model.specs.Home.{HomeData}
use Rattle.resource_model.specs.Resource.{ResourceData}
use Rattle.entity_model.specs.Sound.{begins_with_base}
use Rattle.entity_soundness.specs.Tested.{is_base}
use Rattle.entity_soundness.proofs.trees.begins_with_base.Goals as goal

by_first : (home : HomeData) (nodes : List ResourceData) (o : Option ResourceData) → o ≡ slice_get nodes 0 → option_map_or (is_base home) o false ≡ begins_with_base home nodes
by_first home [] None is = refl
by_first home [] (Some r) is = cc
by_first home (s ∷ nodes) None is = cc
by_first home (s ∷ nodes) (Some r) is = (let same : r ≡ s = cc in ap (is_base home) same)

pub returns-in-Some : goal.returns-in-Some
returns-in-Some g c = c.is_base.ensures ∙ by_first c.args.home.now (g.T.Tree.nodes c.args.tree.now) (Some c.in-Some.first.now) c.in-Some.ensures

pub returns-in-None : goal.returns-in-None
returns-in-None g c = by_first c.args.home.now (g.T.Tree.nodes c.args.tree.now) None c.in-None.ensures
