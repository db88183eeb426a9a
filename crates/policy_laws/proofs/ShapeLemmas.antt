-- What an originator sees of a list has the shape of the list.
use Rattle.policy_laws.proofs.Words.{unwrap_or, ◌≡◌, ℕ, List, map, true, Option, Some, None, option_map, refl, sym, ap, ◌∙◌, option_and_then}
use Rattle.policy_laws.proofs.Terms.{Attr, Data, HomeData, ResourceData, at, due, is_well_formed, is_attr_in}
use Rattle.policy_laws.proofs.Facts.{or_left, map-map, tree_from_well_formed}
use Rattle.equal_sights.specs.Alike.{shape_attrs}
use Rattle.equal_sights.specs.Seen.{is_shown, is_policy_rules, is_way, seen_value, seen_row, seen_owner, seen, seen_list}
use Rattle.policy_laws.specs.Laws.{SightHasShape}
use Rattle.equal_sights.specs.Shape.{shape_value, shape_row, shape_of}
use Rattle.policy_laws.proofs.AlikeLemmas.{map_from_zip}
use Rattle.policy_laws.proofs.DueLemmas.{due-seen}
use Rattle.policy_laws.proofs.TwiceLemmas.{made, owner_twice, twice_filtered, value_twice, zip-found}

module _ (home : HomeData) (nodes : List ResourceData) (o : List ℕ) where
  is_shown-shape : (r : ResourceData) (a : Attr) → is_attr_in (shape_attrs r.ty) a ≡ true → is_shown home nodes o r a ≡ true
  is_shown-shape r a one = or_left _ _ (or_left _ _ (or_left _ _ (or_left _ _ (or_left _ _ one))))

  attrs-shape : (r : ResourceData) → (shape_of home (seen_list home nodes o) o (seen home nodes o r)).attrs ≡ (shape_of home nodes o r).attrs
  attrs-shape r =
      twice_filtered (shape_row home o (seen home nodes o r)) (seen_row home nodes o r) (shape_row home o r) (λ row. row_shape row.0 row.1) r.attrs
    where
      row_shape : (a : Attr) (d : Data) → option_and_then (shape_row home o (seen home nodes o r)) (option_map (λ x. (a, x)) (seen_value home nodes o r a d)) ≡ option_map (λ x. (a, x)) (shape_value home o r a d)
      row_shape a d =
          by_value (seen_value home nodes o r a d) _ (value_twice home o (is_attr_in (shape_attrs r.ty) a) (is_shown home nodes o r a) (is_policy_rules r a) (is_way r a) d (is_shown-shape r a))
        where
          by_value : (x y : Option Data) → option_and_then (shape_value home o (seen home nodes o r) a) x ≡ y → option_and_then (shape_row home o (seen home nodes o r)) (option_map (λ z. (a, z)) x) ≡ option_map (λ z. (a, z)) y
          by_value None y e = rw (sym e) refl
          by_value (Some x) y e = rw (sym e) refl

  module _ (well : is_well_formed nodes ≡ true) where
    shape-seen : (r : ResourceData) → at r.number nodes ≡ Some r → shape_of home (seen_list home nodes o) o (seen home nodes o r) ≡ shape_of home nodes o r
    shape-seen r found =
        let s = shape_of home (seen_list home nodes o) o (seen home nodes o r) in
        ap (λ owner. made r owner 0 0 s.et s.attrs) (owner_twice home o r)
        ∙ ap (λ (d : Option ℕ). made r (seen_owner home o r) 0 0 (unwrap_or d 0) s.attrs) (due-seen home nodes o well r found)
        ∙ ap (made r (seen_owner home o r) 0 0 (unwrap_or (due nodes r) 0)) (attrs-shape r)

pub sight_shape : SightHasShape
sight_shape home nodes o well =
    let twice = λ (r : ResourceData). shape_of home (seen_list home nodes o) o (seen home nodes o r) in
    map-map (shape_of home (seen_list home nodes o) o) (seen home nodes o) nodes
    ∙ map_from_zip (shape_of home nodes o) (map twice nodes) nodes
    (zip-found (λ s r. s ≡ shape_of home nodes o r) twice nodes (tree_from_well_formed nodes well) (shape-seen home nodes o well))
