-- Lists of which an originator sees the same show it the same.
use Rattle.policy_laws.proofs.Words.{nat_lt, ◌≡◌, ℕ, List, Bool, true, false, ◌&&◌, ◌||◌, map, Option, Some, None, option_map, refl, sym, ap, ◌∙◌, option_map_or}
use Rattle.policy_laws.proofs.Terms.{Attr, Poa, Pv, Pvs, Ty, AccessControlPolicy, Container, ContentInstance, Group, RemoteCse, value_of, HomeData, ResourceData, is_ty, at, has, is_same, is_attr_in, rules_in, fan_rules, bits_by, has_bits}
use Rattle.policy_laws.proofs.Facts.{same_Some, at-map, has-map}
use Rattle.equal_sights.specs.Alike.{Alike, shape_attrs}
use Rattle.equal_sights.specs.Seen.{create_bit, update_bit, retrieve_bit, discovery_bit, has_bit, fills, is_filled_in, may_use, found_attrs, limit_attrs, size_attrs, member_attrs, is_shown, is_policy_rules, is_way, way_in, seen, seen_list, Shows}
use Rattle.policy_laws.proofs.AlikeLemmas.{rules-alike, fan_rules-alike}
use Rattle.policy_laws.proofs.SeenLemmas.{at-seen, seen_alike, seen_map_alike, seen_shows}

-- ---- what rights show is the same on what is seen of resources

module _ (home : HomeData) (o : List ℕ) (nodes rs : List ResourceData) where
  abbrev seen_of : List ResourceData
  seen_of = map (seen home nodes o) rs

  pub may-seen : (bit : ℕ) (r : ResourceData) → has_bit home (map (seen home nodes o) rs) o bit (seen home nodes o r) ≡ has_bit home rs o bit r
  may-seen bit r =
      ap (λ bits. has_bits bits bit) ((rules-alike home o seen_of rs (seen_map_alike home nodes o rs) (seen home nodes o r) r (seen_alike home nodes o r)).bits 0)

  pub fills-seen : (r : ResourceData) → fills home (map (seen home nodes o) rs) o (seen home nodes o r) ≡ fills home rs o r
  fills-seen r =
      ap (λ b. is_ty r.ty Container && (b || has_bit home seen_of o update_bit (seen home nodes o r))) (may-seen create_bit r)
      ∙ ap (λ b. is_ty r.ty Container && (has_bit home rs o create_bit r || b)) (may-seen update_bit r)

  pub is_filled_in-seen : (r : ResourceData) → is_filled_in home (map (seen home nodes o) rs) o (seen home nodes o r) ≡ is_filled_in home rs o r
  is_filled_in-seen r =
      ap (λ (p : Option ResourceData). is_ty r.ty ContentInstance && option_map_or (fills home seen_of o) p false) (at-map (seen home nodes o) (λ s. refl) r.parent rs)
      ∙ ap (λ b. is_ty r.ty ContentInstance && b) (above (at r.parent rs))
    where
      above : (p : Option ResourceData) → option_map_or (fills home seen_of o) (option_map (seen home nodes o) p) false ≡ option_map_or (fills home rs o) p false
      above None = refl
      above (Some p) = fills-seen p

  pub may_use-seen : (r : ResourceData) → may_use home (map (seen home nodes o) rs) o (seen home nodes o r) ≡ may_use home rs o r
  may_use-seen r =
      ap (λ b. is_ty r.ty Group && (b || nat_lt 0 (bits_by home o (fan_rules seen_of (seen home nodes o r))))) (may-seen update_bit r)
      ∙ ap (λ bits. is_ty r.ty Group && (has_bit home rs o update_bit r || nat_lt 0 bits)) ((fan_rules-alike home o seen_of rs (seen_map_alike home nodes o rs) (seen home nodes o r) r (seen_alike home nodes o r)).bits 0)

  -- an attribute is shown, by what the originator may do
  abbrev shown_by : Ty → Attr → Bool → Bool → Bool → Bool → Bool → Bool
  shown_by ty a retrieves finds fill inside uses =
      is_attr_in (shape_attrs ty) a || retrieves || (finds && is_attr_in found_attrs a) || (fill && is_attr_in limit_attrs a)
      || (inside && is_attr_in size_attrs a) || (uses && is_attr_in member_attrs a)

  pub is_shown-seen : (a : Attr) (r : ResourceData) → is_shown home (map (seen home nodes o) rs) o (seen home nodes o r) a ≡ is_shown home rs o r a
  is_shown-seen a r =
      let ss = seen_of in
      let s = seen home nodes o r in
      ap (λ b. shown_by r.ty a b (has_bit home ss o discovery_bit s) (fills home ss o s) (is_filled_in home ss o s) (may_use home ss o s)) (may-seen retrieve_bit r)
      ∙ ap (λ b. shown_by r.ty a (has_bit home rs o retrieve_bit r) b (fills home ss o s) (is_filled_in home ss o s) (may_use home ss o s)) (may-seen discovery_bit r)
      ∙ ap (λ b. shown_by r.ty a (has_bit home rs o retrieve_bit r) (has_bit home rs o discovery_bit r) b (is_filled_in home ss o s) (may_use home ss o s)) (fills-seen r)
      ∙ ap (λ b. shown_by r.ty a (has_bit home rs o retrieve_bit r) (has_bit home rs o discovery_bit r) (fills home rs o r) b (may_use home ss o s)) (is_filled_in-seen r)
      ∙ ap (λ b. shown_by r.ty a (has_bit home rs o retrieve_bit r) (has_bit home rs o discovery_bit r) (fills home rs o r) (is_filled_in home rs o r) b) (may_use-seen r)

-- ---- two lists of which the originator sees the same

module _ (home : HomeData) (o : List ℕ) (xs ys : List ResourceData) (same : seen_list home xs o ≡ seen_list home ys o) where
  module _ (r q : ResourceData) (e : seen home xs o r ≡ seen home ys o q) where
    -- what is the same on the seen list is the same on both
    pub same_by : (c : List ResourceData → ResourceData → Bool) → ((nodes : List ResourceData) (s : ResourceData) → c (seen_list home nodes o) (seen home nodes o s) ≡ c nodes s) → c xs r ≡ c ys q
    same_by c factors =
        sym (factors xs r) ∙ ap (λ (nodes : List ResourceData). c nodes (seen home xs o r)) same ∙ ap (c (seen_list home ys o)) e ∙ factors ys q

    through : {X : Type 0} (f : ResourceData → X) → f (seen home xs o r) ≡ f r → f (seen home ys o q) ≡ f q → f r ≡ f q
    through f left right = sym left ∙ ap f e ∙ right

    retrieves : has_bit home xs o retrieve_bit r ≡ has_bit home ys o retrieve_bit q
    retrieves = same_by (λ nodes s. has_bit home nodes o retrieve_bit s) (λ (nodes : List ResourceData). may-seen home o nodes nodes retrieve_bit)

    finds : has_bit home xs o discovery_bit r ≡ has_bit home ys o discovery_bit q
    finds = same_by (λ nodes s. has_bit home nodes o discovery_bit s) (λ (nodes : List ResourceData). may-seen home o nodes nodes discovery_bit)

    filling : fills home xs o r ≡ fills home ys o q
    filling = same_by (λ nodes s. fills home nodes o s) (λ (nodes : List ResourceData). fills-seen home o nodes nodes)

    within : is_filled_in home xs o r ≡ is_filled_in home ys o q
    within = same_by (λ nodes s. is_filled_in home nodes o s) (λ (nodes : List ResourceData). is_filled_in-seen home o nodes nodes)

    using_it : may_use home xs o r ≡ may_use home ys o q
    using_it = same_by (λ nodes s. may_use home nodes o s) (λ (nodes : List ResourceData). may_use-seen home o nodes nodes)

    showing : (a : Attr) → is_shown home xs o r a ≡ is_shown home ys o q a
    showing a = same_by (λ nodes s. is_shown home nodes o s a) (λ (nodes : List ResourceData). is_shown-seen home o nodes nodes a)

    value_through : (a : Attr) → value_of a (seen home xs o r).attrs ≡ value_of a r.attrs → value_of a (seen home ys o q).attrs ≡ value_of a q.attrs → value_of a r.attrs ≡ value_of a q.attrs
    value_through a left right = through (λ (x : ResourceData). value_of a x.attrs) left right

    pub same_alike : (s : ResourceData) → Alike home o s r → Alike home o s q
    same_alike s h =
        let left = seen_alike home xs o r in
        let right = seen_alike home ys o q in
        record {
          number = h.number ∙ ap (λ (x : ResourceData). x.number) e;
          ty = h.ty ∙ ap (λ (x : ResourceData). x.ty) e;
          name = h.name ∙ ap (λ (x : ResourceData). x.name) e;
          parent = h.parent ∙ ap (λ (x : ResourceData). x.parent) e;
          owned = h.owned ∙ through (λ (x : ResourceData). is_same home o x.owner) left.owned right.owned;
          shape = λ a one.
              let was : is_attr_in (shape_attrs r.ty) a ≡ true = ap (λ (x : ResourceData). is_attr_in (shape_attrs x.ty) a) e ∙ one in
              h.shape a was ∙ value_through a (left.shape a was) (right.shape a one);
          pv = λ policy.
              let was : is_ty r.ty AccessControlPolicy ≡ true = ap (λ (x : ResourceData). is_ty x.ty AccessControlPolicy) e ∙ policy in
              h.pv was ∙ through (λ (x : ResourceData). bits_by home o (rules_in (value_of Pv x.attrs))) (left.pv was) (right.pv policy);
          pvs = λ policy.
              let was : is_ty r.ty AccessControlPolicy ≡ true = ap (λ (x : ResourceData). is_ty x.ty AccessControlPolicy) e ∙ policy in
              h.pvs was ∙ through (λ (x : ResourceData). bits_by home o (rules_in (value_of Pvs x.attrs))) (left.pvs was) (right.pvs policy);
        }

    pub same_shows : (s : ResourceData) → Shows home xs o r s → Shows home ys o q s
    same_shows s h =
        let left = seen_shows home xs o r in
        let right = seen_shows home ys o q in
        record {
          always = same_alike s h.always;
          way = λ remote.
              let was : is_ty r.ty RemoteCse ≡ true = ap (λ (x : ResourceData). is_ty x.ty RemoteCse) e ∙ remote in
              h.way was ∙ through (λ (x : ResourceData). way_in x.attrs) (left.way was) (right.way remote);
          retrieved = λ may_it.
              let was = retrieves ∙ may_it in
              let mine = h.retrieved was in
              let l = left.retrieved was in
              let t = right.retrieved may_it in
              (mine.0 ∙ through (λ (x : ResourceData). x.attrs) l.0 t.0, mine.1 ∙ through (λ (x : ResourceData). x.ct) l.1 t.1, mine.2 ∙ through (λ (x : ResourceData). x.lt) l.2 t.2, mine.3 ∙ through (λ (x : ResourceData). x.et) l.3 t.3);
          found = λ may_it.
              let was = finds ∙ may_it in
              let mine = h.found was in
              let l = left.found was in
              let t = right.found may_it in
              (λ a one. mine.0 a one ∙ value_through a (l.0 a one) (t.0 a one), mine.1 ∙ through (λ (x : ResourceData). x.ct) l.1 t.1, mine.2 ∙ through (λ (x : ResourceData). x.lt) l.2 t.2);
          filled = λ may_it a one.
              let was = filling ∙ may_it in
              h.filled was a one ∙ value_through a (left.filled was a one) (right.filled may_it a one);
          inside = λ may_it.
              let was = within ∙ may_it in
              let mine = h.inside was in
              let l = left.inside was in
              let t = right.inside may_it in
              (λ a one. mine.0 a one ∙ value_through a (l.0 a one) (t.0 a one), mine.1 ∙ through (λ (x : ResourceData). x.ct) l.1 t.1, mine.2 ∙ through (λ (x : ResourceData). x.et) l.2 t.2);
          used = λ may_it a one.
              let was = using_it ∙ may_it in
              h.used was a one ∙ value_through a (left.used was a one) (right.used may_it a one);
          owner = h.owner ∙ sym left.owner ∙ ap (λ (x : ResourceData). x.owner) e ∙ right.owner;
          rules = λ a rules hides.
              let was : is_policy_rules r a ≡ true = ap (λ (x : ResourceData). is_policy_rules x a) e ∙ rules in
              let hid = showing a ∙ hides in
              h.rules a was hid ∙ sym (left.rules a was hid) ∙ ap (λ (x : ResourceData). value_of a x.attrs) e ∙ right.rules a rules hides;
          points = λ remote hides.
              let was : is_ty r.ty RemoteCse ≡ true = ap (λ (x : ResourceData). is_ty x.ty RemoteCse) e ∙ remote in
              let hid = showing Poa ∙ hides in
              h.points was hid ∙ sym (left.points was hid) ∙ ap (λ (x : ResourceData). value_of Poa x.attrs) e ∙ right.points remote hides;
          hidden = λ a hides other away. h.hidden a (showing a ∙ hides) (ap (λ (x : ResourceData). is_policy_rules x a) e ∙ other) (ap (λ (x : ResourceData). is_way x a) e ∙ away);
          silent_ct = λ right_off tell never. h.silent_ct (retrieves ∙ right_off) (finds ∙ tell) (within ∙ never);
          silent_lt = λ right_off tell. h.silent_lt (retrieves ∙ right_off) (finds ∙ tell);
          silent_et = λ right_off never.
              h.silent_et (retrieves ∙ right_off) (within ∙ never)
              ∙ sym (left.silent_et (retrieves ∙ right_off) (within ∙ never))
              ∙ ap (λ (x : ResourceData). x.et) e ∙ right.silent_et right_off never;
        }

  pub has-same : (n : ℕ) → has n xs ≡ has n ys
  has-same n =
      sym (has-map (seen home xs o) (λ r. refl) n xs) ∙ ap (has n) same ∙ has-map (seen home ys o) (λ r. refl) n ys

  pub shows-same : (n : ℕ) (r q s : ResourceData) → at n xs ≡ Some r → at n ys ≡ Some q → Shows home xs o r s → Shows home ys o q s
  shows-same n r q s here there shows =
      let left : at n (seen_list home xs o) ≡ Some (seen home xs o r) = at-seen home xs o n ∙ ap (option_map (seen home xs o)) here in
      let right : at n (seen_list home ys o) ≡ Some (seen home ys o q) = at-seen home ys o n ∙ ap (option_map (seen home ys o)) there in
      same_shows r q (same_Some (seen home xs o r) (seen home ys o q) (sym left ∙ ap (at n) same ∙ right)) s shows
