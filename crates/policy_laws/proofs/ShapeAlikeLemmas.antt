-- The shape of a list is alike to it, so that it gives the originator the same rights.
use Rattle.policy_laws.proofs.Words.{◌≡◌, ℕ, List, Bool, true, cond, Option, Some, None, option_map, refl, sym, ap, ◌∙◌}
use Rattle.policy_laws.proofs.Terms.{Attr, Pv, Pvs, AccessControlPolicy, Data, is_ty, HomeData, ResourceData, at, is_attr_in, grants, relinks, fan_grants, value_of}
use Rattle.policy_laws.proofs.Facts.{and_from, at-map, same_Some}
use Rattle.equal_sights.specs.Alike.{Alike, AreAlike, shape_attrs}
use Rattle.equal_sights.specs.Seen.{is_policy_rules, is_way, seen_points, seen_rules}
use Rattle.equal_sights.specs.Shape.{shape_list, shape_of, shape_value}
use Rattle.policy_laws.proofs.AlikeLemmas.{alike-map, fan_grants-alike, grants-alike, relinks-alike}
use Rattle.policy_laws.proofs.SeenLemmas.{itself, owner_seen, policy_same, shown_or, value-shown}

module _ (home : HomeData) (nodes : List ResourceData) (o : List ℕ) where
  -- of the rules of a policy the shape keeps either all or what they give
  rules_kept : (r : ResourceData) (a : Attr) → is_policy_rules r a ≡ true → (d : Data) → shape_value home o r a d ≡ Some (cond (is_attr_in (shape_attrs r.ty) a) d (seen_rules home o d))
  rules_kept r a rules d =
      ap (λ b. cond (is_attr_in (shape_attrs r.ty) a) (Some d) (cond b (Some (seen_rules home o d)) (cond (is_way r a) (seen_points d) None))) rules
      ∙ shown_or (is_attr_in (shape_attrs r.ty) a) d (seen_rules home o d)

  -- the shape keeps what a resource is judged, named and told by
  pub shape_kept : (r : ResourceData) (a : Attr) → is_attr_in (shape_attrs r.ty) a ≡ true → value_of a (shape_of home nodes o r).attrs ≡ value_of a r.attrs
  shape_kept r a one = value-shown (shape_value home o r) a (λ d. d) (λ d. rw one refl) r.attrs ∙ itself _

  pub shape_alike : (r : ResourceData) → Alike home o (shape_of home nodes o r) r
  shape_alike r = record {
    number = refl;
    ty = refl;
    name = refl;
    parent = refl;
    owned = owner_seen home o r;
    shape = shape_kept r;
    pv = λ policy. rw (value-shown (shape_value home o r) Pv (λ d. cond (is_attr_in (shape_attrs r.ty) Pv) d (seen_rules home o d)) (rules_kept r Pv (and_from _ _ policy refl)) r.attrs) ((policy_same home o _ (value_of Pv r.attrs)).bits 0);
    pvs = λ policy. rw (value-shown (shape_value home o r) Pvs (λ d. cond (is_attr_in (shape_attrs r.ty) Pvs) d (seen_rules home o d)) (rules_kept r Pvs (and_from _ _ policy refl)) r.attrs) ((policy_same home o _ (value_of Pvs r.attrs)).bits 0);
  }

  pub shape_list_alike : AreAlike home o (shape_list home nodes o) nodes
  shape_list_alike = alike-map home o (shape_of home nodes o) shape_alike nodes

  pub at-shape : (n : ℕ) → at n (shape_list home nodes o) ≡ option_map (shape_of home nodes o) (at n nodes)
  at-shape n = at-map (shape_of home nodes o) (λ r. refl) n nodes

  pub grants-shape : (bit n : ℕ) → grants home (shape_list home nodes o) o bit n ≡ grants home nodes o bit n
  grants-shape bit n = grants-alike home o (shape_list home nodes o) nodes shape_list_alike bit n

  pub relinks-shape : (n : ℕ) → relinks home (shape_list home nodes o) o n ≡ relinks home nodes o n
  relinks-shape n = relinks-alike home o (shape_list home nodes o) nodes shape_list_alike n

  pub fan_grants-shape : (bit n : ℕ) → fan_grants home (shape_list home nodes o) o bit n ≡ fan_grants home nodes o bit n
  fan_grants-shape bit n = fan_grants-alike home o (shape_list home nodes o) nodes shape_list_alike bit n

-- a resource of the same number has the same shape in two lists of one shape
pub shape_at : (home : HomeData) (xs ys : List ResourceData) (o : List ℕ) (n : ℕ) (r q : ResourceData) → at n xs ≡ Some r → at n ys ≡ Some q → shape_list home xs o ≡ shape_list home ys o → shape_of home xs o r ≡ shape_of home ys o q
shape_at home xs ys o n r q found place same =
    let left : at n (shape_list home xs o) ≡ Some (shape_of home xs o r) = at-shape home xs o n ∙ ap (option_map (shape_of home xs o)) found in
    let right : at n (shape_list home ys o) ≡ Some (shape_of home ys o q) = at-shape home ys o n ∙ ap (option_map (shape_of home ys o)) place in
    same_Some (shape_of home xs o r) (shape_of home ys o q) (sym left ∙ ap (at n) same ∙ right)
