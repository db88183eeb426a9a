-- What a Create and an Update prepare, before anything is changed.
use Rattle.std.specs.Prelude.{◌≡◌, ℕ, List, [], false, Some}
use Rattle.m2m_names.specs.declared.operations.Op.TheVariants.{Create, Update}
use Rattle.primitive_json.specs.declared.request.RequestParts.{RequestParts}
use Rattle.resource_model.specs.Resource.{ResourceData}
use Rattle.tree_model.specs.Changes.{creation_changes}
use Rattle.tree_model.specs.Tree.{at}
use Rattle.entity_model.specs.Entity.{EntityData, copy_requests}
use Rattle.create_delete.specs.Changing.{pushed_by}
use Rattle.create_delete.specs.Joining.{MayJoin, gone_by}
use Rattle.create_delete.specs.NewResource.{IsReplacement}
use Rattle.create_delete.specs.Telling.{joined_told, told_effect_at, updated_told}
use Rattle.create_delete.specs.declared.creation.PreparedCreate.{PreparedCreate}
use Rattle.create_delete.specs.declared.updating.PreparedUpdate.{PreparedUpdate}

-- The resource may join, and the reply and the entity with it, told of that, are those of the
-- Create that the request asks for on the resource of the number; where it isn't copied, no copy
-- follows.
pub record IsPreparedCreate (e : EntityData) (originator : List ℕ) (request : RequestParts) (n : ℕ)
    (p : PreparedCreate) : Type 0 where
  pub may : MayJoin e p.resource p.update
  pub unsent : p.is_copied ≡ false
      → copy_requests e.home e.nodes (creation_changes e.nodes p.resource (gone_by p.update)) ≡ []
  pub reply : p.reply ≡ (told_effect_at Create e originator request n).reply
  pub after : joined_told e p.resource p.update
      ≡ (told_effect_at Create e originator request n).after

-- The resource may take its place, and the reply and the entity with it, told of that, are those of
-- the Update.
pub record IsPreparedUpdate (e : EntityData) (originator : List ℕ) (request : RequestParts) (n : ℕ)
    (p : PreparedUpdate) : Type 0 where
  pub may : IsReplacement e p.resource
  pub gone : p.gone ≡ pushed_by e p.resource
  pub reply : p.reply ≡ (told_effect_at Update e originator request n).reply
  pub after : (r : ResourceData) → at p.resource.number e.nodes ≡ Some r
      → updated_told e r p.resource p.named p.gone
      ≡ (told_effect_at Update e originator request n).after
