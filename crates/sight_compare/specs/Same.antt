-- Whether two homes and two resources are equal, as tests.
use Rattle.std.specs.Prelude.{◌≡◌, ◌==◌, ℕ, ℤ, Bool, ◌&&◌, bytes_eq, List}
use Rattle.std.specs.Bool.{Decides}
use Rattle.std.specs.Cmp.{signed_Decides}
use Rattle.std.specs.Cmp.Lexicographic.{pointwise, pointwise_decides}
use Rattle.std.specs.Ordering.{int_eq}
use Rattle.std.proofs.Common.{ap, ◌∙◌}
use Rattle.std.proofs.lemmas.Bool.{and_from, and_parts}
use Rattle.std.proofs.lemmas.Bool.Decides.{Decides-and, Decides-eqb}
use Rattle.std.proofs.lemmas.Slice.Eq.{bytes_eq-Decides}
use Rattle.m2m_names.proofs.TypeLemmas.{same_type}
use Rattle.m2m_names.specs.Types.{ty_row}
use Rattle.m2m_names.specs.declared.types.Ty.{Ty}
use Rattle.resource_model.specs.Attributes.{Row, same_row}
use Rattle.resource_model.specs.Home.{HomeData}
use Rattle.resource_model.specs.Resource.{ResourceData, is_ty}
use Rattle.resource_model.specs.SameRows.{same_rows-Decides}
use Rattle.entity_model.specs.Entity.{EntityData, blank}
use Rattle.equal_sights.specs.Seen.{seen_list}
use Rattle.equal_sights.specs.Sight.{sight}

-- Two homes are equal, part by part.
abbrev pub same_home : HomeData → HomeData → Bool
same_home g h =
    bytes_eq g.sp h.sp
    && bytes_eq g.csi h.csi
    && bytes_eq g.base h.base
    && int_eq g.cst h.cst
    && bytes_eq g.admin h.admin

-- Two resources stand at one place: their numbers, types, names and parents are equal.
abbrev pub same_place : ResourceData → ResourceData → Bool
same_place s r =
    (s.number == r.number)
    && is_ty s.ty r.ty
    && bytes_eq s.name r.name
    && (s.parent == r.parent)

-- Two resources have equal moments and equal attributes.
abbrev pub same_view : ResourceData → ResourceData → Bool
same_view s r =
    (s.ct == r.ct)
    && (s.lt == r.lt)
    && (s.et == r.et)
    && pointwise same_row s.attrs r.attrs

-- Two resources are equal.
abbrev pub same_resource : ResourceData → ResourceData → Bool
same_resource s r = same_place s r && bytes_eq s.owner r.owner && same_view s r

-- ---- the tests are true exactly of equals

same_ty-Decides : (a b : Ty) → Decides (is_ty a b) (a ≡ b)
same_ty-Decides a b =
    let number = Decides-eqb (ty_row a).number (ty_row b).number in
    (λ x. same_type a b (number.0 x), λ e. number.1 (ap (λ (t : Ty). (ty_row t).number) e))

-- `same_home` is true exactly of equal homes.
pub same_home-Decides : (g h : HomeData) → Decides (same_home g h) (g ≡ h)
same_home-Decides g h =
    let parts : Decides (same_home g h)
    (((((g.sp ≡ h.sp) × (g.csi ≡ h.csi)) × (g.base ≡ h.base)) × (g.cst ≡ h.cst))
    × (g.admin ≡ h.admin)) =
    Decides-and _ _
    (Decides-and _ _
    (Decides-and _ _
    (Decides-and _ _ (bytes_eq-Decides g.sp h.sp) (bytes_eq-Decides g.csi h.csi))
    (bytes_eq-Decides g.base h.base))
    (signed_Decides g.cst h.cst))
    (bytes_eq-Decides g.admin h.admin) in (
      λ x.
          let p = parts.0 x in
          ap (λ (t : List ℕ). record g { sp = t }) p.0.0.0.0
          ∙ ap (λ (t : List ℕ). record g { sp = h.sp; csi = t }) p.0.0.0.1
          ∙ ap (λ (t : List ℕ). record g { sp = h.sp; csi = h.csi; base = t }) p.0.0.1
          ∙ ap (λ (z : ℤ). record h { cst = z; admin = g.admin }) p.0.1
          ∙ ap (λ (t : List ℕ). record h { admin = t }) p.1,
      λ e.
          parts.1 (
            (
              (
                (ap (λ (v : HomeData). v.sp) e, ap (λ (v : HomeData). v.csi) e),
                ap (λ (v : HomeData). v.base) e,
              ),
              ap (λ (v : HomeData). v.cst) e,
            ),
            ap (λ (v : HomeData). v.admin) e,
          ),
    )

-- `same_place` is true exactly where the places are equal.
same_place-Decides : (s r : ResourceData) → Decides (same_place s r)
    ((((s.number ≡ r.number) × (s.ty ≡ r.ty)) × (s.name ≡ r.name)) × (s.parent ≡ r.parent))
same_place-Decides s r =
    Decides-and _ _
    (Decides-and _ _
    (Decides-and _ _ (Decides-eqb s.number r.number) (same_ty-Decides s.ty r.ty))
    (bytes_eq-Decides s.name r.name))
    (Decides-eqb s.parent r.parent)

-- `same_view` is true exactly where the moments and the attributes are equal.
same_view-Decides : (s r : ResourceData) → Decides (same_view s r)
    ((((s.ct ≡ r.ct) × (s.lt ≡ r.lt)) × (s.et ≡ r.et)) × (s.attrs ≡ r.attrs))
same_view-Decides s r =
    Decides-and _ _
    (Decides-and _ _
    (Decides-and _ _ (Decides-eqb s.ct r.ct) (Decides-eqb s.lt r.lt))
    (Decides-eqb s.et r.et))
    (same_rows-Decides s.attrs r.attrs)

-- `same_resource` is true exactly of equal resources.
pub same_resource-Decides : (s r : ResourceData) → Decides (same_resource s r) (s ≡ r)
same_resource-Decides s r =
    let place = same_place-Decides s r in
    let owner = bytes_eq-Decides s.owner r.owner in
    let view = same_view-Decides s r in (
      λ x.
          let both = and_parts (same_place s r && bytes_eq s.owner r.owner) (same_view s r) x in
          let front = and_parts (same_place s r) (bytes_eq s.owner r.owner) both.0 in
          let p = place.0 front.0 in
          let v = view.0 both.1 in
          ap (λ (n : ℕ). record s { number = n }) p.0.0.0
          ∙ ap (λ (t : Ty). record s { number = r.number; ty = t }) p.0.0.1
          ∙ ap (λ (t : List ℕ). record s { number = r.number; ty = r.ty; name = t }) p.0.1
          ∙ ap (λ (n : ℕ). record s {
            number = r.number;
            ty = r.ty;
            name = r.name;
            parent = n;
          }) p.1
          ∙ ap (λ (t : List ℕ). record r {
            owner = t;
            ct = s.ct;
            lt = s.lt;
            et = s.et;
            attrs = s.attrs;
          }) (owner.0 front.1)
          ∙ ap (λ (n : ℕ). record r { ct = n; lt = s.lt; et = s.et; attrs = s.attrs }) v.0.0.0
          ∙ ap (λ (n : ℕ). record r { lt = n; et = s.et; attrs = s.attrs }) v.0.0.1
          ∙ ap (λ (n : ℕ). record r { et = n; attrs = s.attrs }) v.0.1
          ∙ ap (λ (rows : List Row). record r { attrs = rows }) v.1,
      λ e.
          and_from _ _
          (and_from _ _
          (place.1 (
            (
              (ap (λ (v : ResourceData). v.number) e, ap (λ (v : ResourceData). v.ty) e),
              ap (λ (v : ResourceData). v.name) e,
            ),
            ap (λ (v : ResourceData). v.parent) e,
          ))
          (owner.1 (ap (λ (v : ResourceData). v.owner) e)))
          (view.1 (
            (
              (ap (λ (v : ResourceData). v.ct) e, ap (λ (v : ResourceData). v.lt) e),
              ap (λ (v : ResourceData). v.et) e,
            ),
            ap (λ (v : ResourceData). v.attrs) e,
          )),
    )

-- `pointwise same_resource` is true exactly of equal lists of resources.
pub same_resources-Decides : (ss rs : List ResourceData) →
    Decides (pointwise same_resource ss rs) (ss ≡ rs)
same_resources-Decides = pointwise_decides same_resource-Decides

-- Two sights are equal: their next numbers, last moments, homes and resources.
abbrev pub same_sights : EntityData → EntityData → Bool
same_sights d e =
    (d.next == e.next)
    && (d.last == e.last)
    && same_home d.home e.home
    && pointwise same_resource d.nodes e.nodes

-- `same_sights` is true exactly of equal sights of an originator.
pub same_sights-Decides : (originator : List ℕ) (d e : EntityData) →
    Decides (same_sights (sight originator d) (sight originator e))
    (sight originator d ≡ sight originator e)
same_sights-Decides originator d e =
    let mine = seen_list d.home d.nodes originator in
    let theirs = seen_list e.home e.nodes originator in
    let parts : Decides (same_sights (sight originator d) (sight originator e))
    ((((d.next ≡ e.next) × (d.last ≡ e.last)) × (d.home ≡ e.home)) × (mine ≡ theirs)) =
    Decides-and _ _
    (Decides-and _ _
    (Decides-and _ _ (Decides-eqb d.next e.next) (Decides-eqb d.last e.last))
    (same_home-Decides d.home e.home))
    (same_resources-Decides mine theirs) in (
      λ x.
          let p = parts.0 x in
          ap (λ (n : ℕ). record (blank d.home) { nodes = mine; next = n; last = d.last }) p.0.0.0
          ∙ ap (λ (n : ℕ). record (blank d.home) { nodes = mine; next = e.next; last = n }) p.0.0.1
          ∙ ap (λ (h : HomeData). record (blank h) { nodes = mine; next = e.next; last = e.last })
          p.0.1
          ∙ ap (λ (rs : List ResourceData). record (blank e.home) {
            nodes = rs;
            next = e.next;
            last = e.last;
          }) p.1,
      λ q.
          parts.1 (
            (
              (ap (λ (v : EntityData). v.next) q, ap (λ (v : EntityData). v.last) q),
              ap (λ (v : EntityData). v.home) q,
            ),
            ap (λ (v : EntityData). v.nodes) q,
          ),
    )
