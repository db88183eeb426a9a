-- What is written of a resource is read back as it.
use Rattle.std.proofs.Common.{◌≡◌, ℕ, ◌+◌, ◌-◌, ◌<◌, ◌≤◌, nat_le, List, [], ◌∷◌, ◌++◌, length, take, drop, get_or, Bool, true, false, Option, Some, None, option_map, option_and_then, if◌then◌else◌, Less, refl, sym, ap, ◌∙◌, subst, arith, append_assoc, length-append, le-leb}
use Rattle.std.proofs.lemmas.List.{append-nil, drop_all, get_or_append_left, get_or-append_right, take_all}
use Rattle.m2m_names.proofs.AttributeLemmas.{attr_again}
use Rattle.m2m_names.proofs.TypeLemmas.{ty_again}
use Rattle.m2m_names.specs.Attributes.{attr_of_short, attr_short}
use Rattle.m2m_names.specs.Stamps.{last_moment}
use Rattle.m2m_names.specs.Types.{is_type_number, ty_of_number, ty_row}
use Rattle.m2m_names.specs.declared.attributes.Attr.{Attr}
use Rattle.m2m_names.specs.declared.types.Ty.{Ty}
use Rattle.m2m_names.specs.declared.types.Ty.TheVariants.{AccessControlPolicy, Ae, Container, ContentInstance, CseBase, Group, PollingChannel, RemoteCse, Subscription, AccessControlPolicyAnnc, AeAnnc, ContainerAnnc, ContentInstanceAnnc, GroupAnnc}
use Rattle.m2m_value.specs.Data.{Data}
use Rattle.m2m_value.proofs.Levels.{entries-pairs_of}
use Rattle.resource_model.proofs.AttributeLemmas.{lacks_row, row_order}
use Rattle.resource_model.specs.Attributes.{AreInOrder, LacksRow, Row, attr_cmp, rows_after, rows_before, with_value}
use Rattle.resource_model.specs.Resource.{IsResource, ResourceData}
use Rattle.tree_model.specs.Shown.{members_of}
use Rattle.resource_lines.specs.Read.{joined, moment_in, moments_in, place_in, resource_in, resource_of, rows_in, rows_with, ty_in}
use Rattle.resource_lines.specs.Written.{attrs_data, count_data, moments_data, place_data, resource_data}

-- ---- attributes

-- a row that comes behind all others is put last
module _ (done rest : List Row) (row : Row) (order : AreInOrder (done ++ row ∷ rest)) where
  below : (k : ℕ) (d : Row) → k < length done → attr_cmp (get_or done k d).0 row.0 ≡ Less
  below k d low =
      let within : length done < length (done ++ row ∷ rest) = omega (arith, length-append done (row ∷ rest)) in
      let none : length done - length done ≡ 0 = omega arith in
      let there : get_or (done ++ row ∷ rest) (length done) d ≡ row =
      get_or-append_right done (row ∷ rest) (length done) (length done) d refl (omega arith) ∙ ap (λ n. get_or (row ∷ rest) n d) none in
      ap (λ (e : Row). attr_cmp e.0 row.0) (sym (get_or_append_left done (row ∷ rest) d k low))
      ∙ ap (λ (e : Row). attr_cmp (get_or (done ++ row ∷ rest) k d).0 e.0) (sym there)
      ∙ row_order (done ++ row ∷ rest) k (length done) d order low within

  lacks : LacksRow row.0 done (length done)
  lacks = lacks_row row.0 done (length done) (omega arith) below (λ k d from inside. absurd (omega (arith, from, inside)))

  pub put_last : with_value row.0 row.1 done ≡ done ++ row ∷ []
  put_last =
      ap (λ (rows : List Row). rows ++ row ∷ rows_after row.0 done) (lacks.before ∙ take_all (length done) done (omega arith))
      ∙ ap (λ (rows : List Row). done ++ row ∷ rows) (lacks.after ∙ drop_all (length done) done (omega arith))

rows_back : (done rest : List Row) → AreInOrder (done ++ rest) → rows_with done (members_of rest) ≡ Some (done ++ rest)
rows_back done [] order = ap Some (sym (append-nil done))
rows_back done (row ∷ rest) order =
    let more : (done ++ row ∷ []) ++ rest ≡ done ++ row ∷ rest = append_assoc done (row ∷ []) rest in
    ap (option_and_then (λ a. rows_with (with_value a row.1 done) (members_of rest))) (attr_again row.0)
    ∙ ap (λ rows. rows_with rows (members_of rest)) (put_last done rest row order)
    ∙ rows_back (done ++ row ∷ []) rest (subst AreInOrder (sym more) order)
    ∙ ap Some more

attrs_back : (rows : List Row) → AreInOrder rows → rows_in (attrs_data rows) ≡ Some rows
attrs_back rows order = ap (rows_with []) (entries-pairs_of (members_of rows)) ∙ rows_back [] rows order

-- ---- the other parts

moment_back : (moment : ℕ) → moment ≤ last_moment → moment_in (count_data moment) ≡ Some moment
moment_back moment within = ap (λ b. if b then Some moment else None) (le-leb _ _ within)

moments_back : (r : ResourceData) → IsResource r → moments_in (moments_data r) ≡ Some (record { ct = r.ct; lt = r.lt; et = r.et })
moments_back r is = rw (moment_back r.ct is.ct, moment_back r.lt is.lt, moment_back r.et is.et) refl

-- the number of each type is one that a type may have
known : (t : Ty) → is_type_number (ty_row t).number ≡ true
known AccessControlPolicy = refl
known Ae = refl
known Container = refl
known ContentInstance = refl
known CseBase = refl
known Group = refl
known PollingChannel = refl
known RemoteCse = refl
known Subscription = refl
known AccessControlPolicyAnnc = refl
known AeAnnc = refl
known ContainerAnnc = refl
known ContentInstanceAnnc = refl
known GroupAnnc = refl

ty_back : (t : Ty) → ty_in (count_data (ty_row t).number) ≡ Some t
ty_back t = ap (λ b. option_and_then ty_of_number (if b then Some (ty_row t).number else None)) (known t) ∙ ty_again t

place_back : (r : ResourceData) → place_in (place_data r) ≡ Some (record { number = r.number; ty = r.ty; parent = r.parent })
place_back r = rw (ty_back r.ty) refl

pub resource_back : (r : ResourceData) → IsResource r → AreInOrder r.attrs → resource_in (resource_data r) ≡ Some r
resource_back r is order = rw (place_back r, moments_back r is, attrs_back r.attrs order) refl
