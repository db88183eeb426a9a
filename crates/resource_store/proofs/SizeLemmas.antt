-- The size of an instance stays where another attribute is set.
use Rattle.std.proofs.Common.{◌≡◌, ℕ, Option, cond, refl, ap, pos, unwrap_or}
use Rattle.std.specs.Option.{option_and_then}
use Rattle.m2m_names.specs.declared.attributes.Attr.{Attr}
use Rattle.m2m_names.specs.declared.attributes.Attr.TheVariants.{Cs, Exc, St}
use Rattle.m2m_names.specs.declared.types.Ty.TheVariants.{ContentInstance}
use Rattle.m2m_value.specs.Data.{Data, number as whole_number}
use Rattle.m2m_value.specs.Shapes.{as_count}
use Rattle.resource_model.specs.Resource.{ResourceData, is_ty}
use Rattle.tree_model.specs.Tree.{instance_size, recounted, restamped}
use Rattle.tree_model.proofs.MarkLemmas.{marked, IsAside, exc_aside, st_aside, other_kept}
use Rattle.resource_store.specs.KinRows.{row_size}

pub size_kept : (a : Attr) (aside : IsAside a) (d : Data) (lt : ℕ) (r : ResourceData) → instance_size (marked a d lt r) ≡ instance_size r
size_kept a aside d lt r = ap (λ (o : Option Data). unwrap_or (option_and_then as_count o) 0) (other_kept Cs a d r aside.cs refl)

row_kept : (a : Attr) (aside : IsAside a) (d : Data) (lt : ℕ) (r : ResourceData) → row_size (marked a d lt r) ≡ row_size r
row_kept a aside d lt r = ap (λ size. cond (is_ty r.ty ContentInstance) size 0) (size_kept a aside d lt r)

pub restamped_size : (lt st : ℕ) (r : ResourceData) → row_size (restamped lt st r) ≡ row_size r
restamped_size lt st r = row_kept St st_aside (whole_number (pos st)) lt r

pub recounted_size : (left : ℕ) (r : ResourceData) → row_size (recounted left r) ≡ row_size r
recounted_size left r = row_kept Exc exc_aside (whole_number (pos left)) r.lt r
