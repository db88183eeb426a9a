-- Lists of attributes are equal exactly where the test says so.
use Rattle.std.specs.Prelude.{◌≡◌, List, true, bytes_eq, refl}
use Rattle.std.specs.Bool.{Decides}
use Rattle.std.specs.Cmp.Lexicographic.{pointwise, pointwise_decides}
use Rattle.std.proofs.Common.{ap, ◌∙◌, subst}
use Rattle.std.proofs.lemmas.Bool.{and_parts, and_from}
use Rattle.std.proofs.lemmas.Slice.Eq.{bytes_eq-Decides}
use Rattle.m2m_names.specs.Attributes.{attr_short}
use Rattle.m2m_names.specs.declared.attributes.Attr.{Attr}
use Rattle.m2m_names.proofs.AttributeLemmas.{same_attr}
use Rattle.m2m_value.specs.Data.{Data}
use Rattle.m2m_value.specs.Same.{same, same-Decides}
use Rattle.resource_model.specs.Attributes.{Row, same_row}

same_row-means : (x y : Row) → same_row x y ≡ true → x ≡ y
same_row-means x y h =
    let parts = and_parts (bytes_eq (attr_short x.0) (attr_short y.0)) (same x.1 y.1) h in
    ap (λ (a : Attr). (a, x.1))
    (same_attr x.0 y.0 ((bytes_eq-Decides (attr_short x.0) (attr_short y.0)).0 parts.0))
    ∙ ap (λ (d : Data). (y.0, d)) ((same-Decides x.1 y.1).0 parts.1)

same_row-refl : (x : Row) → same_row x x ≡ true
same_row-refl x =
    and_from _ _ ((bytes_eq-Decides (attr_short x.0) (attr_short x.0)).1 refl)
    ((same-Decides x.1 x.1).1 refl)

same_row-Decides : (x y : Row) → Decides (same_row x y) (x ≡ y)
same_row-Decides x y =
    (same_row-means x y, λ e. subst (λ r. same_row x r ≡ true) e (same_row-refl x))

-- The test of two lists row by row is true exactly of equal lists of attributes.
pub same_rows-Decides : (xs ys : List Row) → Decides (pointwise same_row xs ys) (xs ≡ ys)
same_rows-Decides = pointwise_decides same_row-Decides
