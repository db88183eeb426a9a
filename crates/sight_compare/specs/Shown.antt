-- What is seen of a value, and of a row of attributes.
use Rattle.std.specs.Prelude.{◌≡◌, ℕ, List, Option, Some, option_map, if◌then◌else◌}
use Rattle.m2m_names.specs.declared.attributes.Attr.{Attr}
use Rattle.m2m_value.specs.Data.{Data}
use Rattle.resource_model.specs.Attributes.{Row}
use Rattle.resource_model.specs.Home.{HomeData}
use Rattle.resource_model.specs.Resource.{ResourceData}
use Rattle.equal_sights.specs.Seen.{hidden_value, only_point, plain_rules}
use Rattle.sight_compare.specs.Looks.{look_at, shows}
use Rattle.sight_compare.specs.declared.values.Glance.{Glance}
use Rattle.sight_compare.specs.declared.values.Shown.{Shown}
use Rattle.sight_compare.specs.declared.values.Shown.TheVariants.{Whole, Rules, Point}
use Rattle.sight_compare.specs.declared.rows.SeenRow.{SeenRow}

-- A resource of a list is looked at by an originator, at home.
pub record IsGlance (home : HomeData) (nodes : List ResourceData) (originator : List ℕ)
    (r : ResourceData) (glance : Glance) : Type 0 where
  pub home_is : glance.home.now ≡ home
  pub originator_is : glance.originator.now ≡ originator
  pub resource_is : glance.resource.now ≡ r
  pub look_is : glance.look ≡ look_at home nodes originator r

-- The value that is seen: the attribute's own, or what stands in for it where it is hidden.
abbrev pub shown_data : Shown → Data
shown_data (Whole value) = value.now
shown_data (Rules bits) = plain_rules bits
shown_data (Point url) = only_point url.now

-- What is seen of the value of an attribute, at a glance.
abbrev pub value_at : Glance → Attr → Data → Option Data
value_at g a d =
    if shows g.look g.resource.now a then Some d
    else hidden_value g.home.now g.originator.now g.resource.now a d

-- The attribute with what is seen of its value.
abbrev pub row_at : Glance → Row → Option Row
row_at g row = option_map (λ d. (row.0, d)) (value_at g row.0 row.1)

-- A row that is seen, as data.
abbrev pub row_of : SeenRow → Row
row_of row = (row.attr, shown_data row.shown)
