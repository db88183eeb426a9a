-- Rights on lists by which an originator is judged alike, and changes that keep lists alike.
use Rattle.policy_laws.proofs.Words.{◌==◌, ◌≡◌, ℕ, List, [], ◌∷◌, ◌++◌, map, Bool, true, false, Option, Some, None, inl, inr, refl, sym, ap, subst, ◌∙◌, arith, cond, bit_or, AllZip, cons_option, flat_map, list_all, option_and_then, option_map_or, option_or}
use Rattle.policy_laws.proofs.Terms.{ty_row, Attr, Acpi, Aei, Csi, Macp, Pv, Pvs, id_parts, Ty, AccessControlPolicy, Ae, ContentInstance, PollingChannel, RemoteCse, Data, as_text, is_attr, value_of, HomeData, ResourceData, is_ty, has_number, ae_id, cse_id, at, has, is_child, child_of, of_type, replaced, resource_number, resource_of_id, stays, staying, typed_at, without, all_bits, is_attr_in, only, Rule, rule_for, rules_in, policy_named, policy_of, policies_of, rules_by, listed_in, ids_at, lists_ids, registree, linked_rules, channel_rules, rules_of, fan_rules, link_rules, is_subject, with_rule, with_rules, bits_by, do_give, update_bit, grants, relinks, fan_grants}
use Rattle.policy_laws.proofs.Facts.{cases_Bool, and_parts, eqb-true, or_left, or_right, cond_both, list_any-append, AllZip-push, bit_at_or, bit_at-zero, same_from_bits}
use Rattle.equal_sights.specs.Alike.{id_attrs, told_attrs, shape_attrs, Alike, AreAlike, FindAlike}
use Rattle.policy_laws.proofs.ChoiceLemmas.{both_chosen, same_chosen}
use Rattle.policy_laws.proofs.UnionLemmas.{with_rules-append}

-- ---- bits that are joined from the left are a union

with_rule-zero : (home : HomeData) (o : List ℕ) (a : ℕ) (rule : Rule) → with_rule home o a rule ≡ bit_or a (with_rule home o 0 rule)
with_rule-zero home o a rule = elim (cases_Bool (is_subject home o rule.subjects)) [
  | inl t ↦ rw t (same_from_bits _ _ (λ i. omega (arith, bit_at_or a rule.bits i, bit_at_or a (bit_or 0 rule.bits) i, bit_at_or 0 rule.bits i, bit_at-zero i)))
  | inr f ↦ rw f (same_from_bits _ _ (λ i. omega (arith, bit_at_or a 0 i, bit_at-zero i)))
]

pub with_rules-zero : (home : HomeData) (o : List ℕ) (a : ℕ) (rules : List Rule) → with_rules home o a rules ≡ bit_or a (bits_by home o rules)
with_rules-zero home o a [] = same_from_bits _ _ (λ i. omega (arith, bit_at_or a 0 i, bit_at-zero i))
with_rules-zero home o a (rule ∷ rules) =
    let one = with_rule home o 0 rule in
    let rest = bits_by home o rules in
    let left : with_rules home o (with_rule home o a rule) rules ≡ bit_or (bit_or a one) rest =
    with_rules-zero home o (with_rule home o a rule) rules ∙ ap (λ n. bit_or n rest) (with_rule-zero home o a rule) in
    let right : with_rules home o one rules ≡ bit_or one rest = with_rules-zero home o one rules in
    left ∙ same_from_bits _ _ (λ i. omega (arith, bit_at_or (bit_or a one) rest i, bit_at_or a one i, bit_at_or a (bit_or one rest) i, bit_at_or one rest i)) ∙ ap (bit_or a) (sym right)

-- rules that give the originator the same
pub record GiveSame (home : HomeData) (o : List ℕ) (xs ys : List Rule) : Type 0 where
  pub bits : (a : ℕ) → with_rules home o a xs ≡ with_rules home o a ys

pub same_itself : (home : HomeData) (o : List ℕ) (xs : List Rule) → GiveSame home o xs xs
same_itself home o xs = record { bits = λ a. refl }

pub same_from_by : (home : HomeData) (o : List ℕ) (xs ys : List Rule) → bits_by home o xs ≡ bits_by home o ys → GiveSame home o xs ys
same_from_by home o xs ys e = record { bits = λ a. with_rules-zero home o a xs ∙ ap (bit_or a) e ∙ sym (with_rules-zero home o a ys) }

-- ---- changes of two lists that are related place by place

module _ (R : ResourceData → ResourceData → Type 0) (number : (s r : ResourceData) → R s r → s.number ≡ r.number) where
  number_test : (n : ℕ) (s r : ResourceData) → R s r → has_number n s ≡ has_number n r
  number_test n s r rel = ap (λ (m : ℕ). m == n) (number s r rel)

  pub has-zip : (ss rs : List ResourceData) → AllZip R ss rs → (n : ℕ) → has n ss ≡ has n rs
  has-zip [] [] zip n = refl
  has-zip [] (r ∷ rs) zip n = absurd zip
  has-zip (s ∷ ss) [] zip n = absurd zip
  has-zip (s ∷ ss) (r ∷ rs) zip n = rw (number_test n s r zip.0, has-zip ss rs zip.1 n) refl

  pub replaced-zip : (s r : ResourceData) → R s r → (ss rs : List ResourceData) → AllZip R ss rs → AllZip R (replaced s ss) (replaced r rs)
  replaced-zip s r rel [] [] zip = tt
  replaced-zip s r rel [] (u ∷ rs) zip = absurd zip
  replaced-zip s r rel (t ∷ ss) [] zip = absurd zip
  replaced-zip s r rel (t ∷ ss) (u ∷ rs) zip =
      let same : has_number s.number t ≡ has_number r.number u = ap (λ (m : ℕ). t.number == m) (number s r rel) ∙ number_test r.number t u zip.0 in
      same_chosen (AllZip R) _ _ _ _ _ _ same (λ t. (rel, zip.1)) (λ f. (zip.0, replaced-zip s r rel ss rs zip.1))

  module _ (parent : (s r : ResourceData) → R s r → s.parent ≡ r.parent) (p q : ResourceData → Bool) where
    stays-zip : (s r : ResourceData) → R s r → p s ≡ q r → (before older : List ResourceData) → AllZip R before older → stays p before s ≡ stays q older r
    stays-zip s r rel pick before older zip = rw (pick, parent s r rel, has-zip before older zip r.parent) refl

    staying-zip : (ss rs : List ResourceData) → AllZip (λ s r. R s r × (p s ≡ q r)) ss rs → (before older : List ResourceData) → AllZip R before older → AllZip R (staying p before ss) (staying q older rs)
    staying-zip [] [] zip before older stood = tt
    staying-zip [] (r ∷ rs) zip before older stood = absurd zip
    staying-zip (s ∷ ss) [] zip before older stood = absurd zip
    staying-zip (s ∷ ss) (r ∷ rs) zip before older stood =
        let same : stays p before s ≡ stays q older r = stays-zip s r zip.0.0 zip.0.1 before older stood in
        same_chosen (AllZip R) _ _ _ _ _ _ same
        (λ t. (zip.0.0, staying-zip ss rs zip.1 (before ++ s ∷ []) (older ++ r ∷ []) (AllZip-push R before older s r stood zip.0.0)))
        (λ f. staying-zip ss rs zip.1 before older stood)

    -- a removal by picks that agree
    pub without-zip : (ss rs : List ResourceData) → AllZip (λ s r. R s r × (p s ≡ q r)) ss rs → AllZip R (without p ss) (without q rs)
    without-zip ss rs zip = staying-zip ss rs zip [] [] tt

-- a relation that is wider
pub zip-wider : (R Q : ResourceData → ResourceData → Type 0) → ((s r : ResourceData) → R s r → Q s r) → (ss rs : List ResourceData) → AllZip R ss rs → AllZip Q ss rs
zip-wider R Q wider [] [] zip = tt
zip-wider R Q wider [] (r ∷ rs) zip = absurd zip
zip-wider R Q wider (s ∷ ss) [] zip = absurd zip
zip-wider R Q wider (s ∷ ss) (r ∷ rs) zip = (wider s r zip.0, zip-wider R Q wider ss rs zip.1)

-- a list and its image
pub zip-map : (R : ResourceData → ResourceData → Type 0) (g : ResourceData → ResourceData) (ok : ResourceData → Bool) → ((r : ResourceData) → ok r ≡ true → R (g r) r) → (rs : List ResourceData) → list_all ok rs ≡ true → AllZip R (map g rs) rs
zip-map R g ok rel [] all = tt
zip-map R g ok rel (r ∷ rs) all =
    let parts = and_parts (ok r) _ all in
    (rel r parts.0, zip-map R g ok rel rs parts.1)

pub map_from_zip : (g : ResourceData → ResourceData) (ss rs : List ResourceData) → AllZip (λ s r. s ≡ g r) ss rs → ss ≡ map g rs
map_from_zip g [] [] zip = refl
map_from_zip g [] (r ∷ rs) zip = absurd zip
map_from_zip g (s ∷ ss) [] zip = absurd zip
map_from_zip g (s ∷ ss) (r ∷ rs) zip = rw (zip.0, map_from_zip g ss rs zip.1) refl

-- ---- changes that keep lists alike

module _ (home : HomeData) (o : List ℕ) where
  numbers : (s r : ResourceData) → Alike home o s r → s.number ≡ r.number
  numbers s r alike = alike.number

  pub has-alike : (ss rs : List ResourceData) → AreAlike home o ss rs → (n : ℕ) → has n ss ≡ has n rs
  has-alike ss rs alike n = has-zip (Alike home o) numbers ss rs alike n

  pub append-alike : (ss rs : List ResourceData) (s r : ResourceData) → AreAlike home o ss rs → Alike home o s r → AreAlike home o (ss ++ s ∷ []) (rs ++ r ∷ [])
  append-alike ss rs s r alike one = AllZip-push (Alike home o) ss rs s r alike one

  pub replaced-alike : (ss rs : List ResourceData) (s r : ResourceData) → AreAlike home o ss rs → Alike home o s r → AreAlike home o (replaced s ss) (replaced r rs)
  replaced-alike ss rs s r alike one = replaced-zip (Alike home o) numbers s r one ss rs alike

  pub without-alike : (p q : ResourceData → Bool) (ss rs : List ResourceData) → AllZip (λ s r. Alike home o s r × (p s ≡ q r)) ss rs → AreAlike home o (without p ss) (without q rs)
  without-alike p q ss rs alike = without-zip (Alike home o) numbers (λ s r one. one.parent) p q ss rs alike

  -- a removal by picks that ask only what is alike
  pub removed-alike : (p q : ResourceData → Bool) → ((s r : ResourceData) → Alike home o s r → p s ≡ q r) → (ss rs : List ResourceData) → AreAlike home o ss rs → AreAlike home o (without p ss) (without q rs)
  removed-alike p q pick ss rs alike =
      without-alike p q ss rs (zip-wider (Alike home o) (λ s r. Alike home o s r × (p s ≡ q r)) (λ s r one. (one, pick s r one)) ss rs alike)

  pub alike-map : (g : ResourceData → ResourceData) → ((r : ResourceData) → Alike home o (g r) r) → (rs : List ResourceData) → AreAlike home o (map g rs) rs
  alike-map g alike [] = tt
  alike-map g alike (r ∷ rs) = (alike r, alike-map g alike rs)

-- ---- what names a resource

no_both : (ty : Ty) → is_ty ty Ae ≡ true → is_ty ty RemoteCse ≡ true → ⊥
no_both ty ae cse = omega (arith, eqb-true (ty_row ty).number 2 ae, eqb-true (ty_row ty).number 16 cse)

-- what holds of the attributes that name an AE, of those that name a remote CSE, and of none, holds of those of each type
pub id_attrs_hold : (P : List Attr → Type 0) (ty : Ty) → (is_ty ty Ae ≡ true → P (Aei ∷ [])) → (is_ty ty RemoteCse ≡ true → P (Csi ∷ [])) → P [] → P (id_attrs ty)
id_attrs_hold P ty ae cse none =
    cond_both (is_ty ty Ae) (Aei ∷ []) (cond (is_ty ty RemoteCse) (Csi ∷ []) []) P ae (λ other. cond_both (is_ty ty RemoteCse) (Csi ∷ []) [] P cse (λ neither. none))

-- a remote CSE is named by its CSE-ID
pub cse_named : (ty : Ty) → is_ty ty RemoteCse ≡ true → is_attr_in (id_attrs ty) Csi ≡ true
cse_named ty cse = elim (cases_Bool (is_ty ty Ae)) [
  | inl t ↦ absurd (no_both ty t cse)
  | inr f ↦ rw (f, cse) refl
]

-- what names a resource, and by what a subscription is told, is of its shape
pub ids_in_shape : (ty : Ty) (a : Attr) → is_attr_in (id_attrs ty) a ≡ true → is_attr_in (shape_attrs ty) a ≡ true
ids_in_shape ty a one =
    or_right _ _ (or_right _ _ (list_any-append (is_attr a) (id_attrs ty) (told_attrs ty) ∙ or_left _ _ one))

pub told_in_shape : (ty : Ty) (a : Attr) → is_attr_in (told_attrs ty) a ≡ true → is_attr_in (shape_attrs ty) a ≡ true
told_in_shape ty a one =
    or_right _ _ (or_right _ _ (list_any-append (is_attr a) (id_attrs ty) (told_attrs ty) ∙ or_right _ _ one))

pub same_ids : (a b c d : Option (List ℕ)) → a ≡ b → c ≡ d → option_or a c ≡ option_or b d
same_ids a b c d first second = ap (λ (x : Option (List ℕ)). option_or x c) first ∙ ap (option_or b) second

-- ---- rights are the same

-- the rules of a policy by one of its lists
abbrev by_list : Attr → ResourceData → List Rule
by_list attr p = rules_in (value_of attr p.attrs)

module _ (home : HomeData) (o : List ℕ) where
  pub alike_itself : (r : ResourceData) → Alike home o r r
  alike_itself r = record {
    number = refl;
    ty = refl;
    name = refl;
    parent = refl;
    owned = refl;
    shape = λ a one. refl;
    pv = λ policy. refl;
    pvs = λ policy. refl;
  }

  pub ty-alike : (s r : ResourceData) → Alike home o s r → (t : Ty) → is_ty s.ty t ≡ is_ty r.ty t
  ty-alike s r alike t = ap (λ x. is_ty x t) alike.ty

  pub ids-alike : (attr : Attr) (s r : ResourceData) → value_of attr s.attrs ≡ value_of attr r.attrs → ids_at attr s ≡ ids_at attr r
  ids-alike attr s r same = ap listed_in same

  pub ae_id-alike : (s r : ResourceData) → Alike home o s r → ae_id s ≡ ae_id r
  ae_id-alike s r alike =
      same_chosen (λ (x y : Option (List ℕ)). x ≡ y) _ _ _ _ _ _ (ty-alike s r alike Ae)
      (λ t. ap (option_and_then as_text) (alike.shape Aei (ids_in_shape r.ty Aei (rw t refl)))) (λ f. refl)

  pub cse_id-alike : (s r : ResourceData) → Alike home o s r → cse_id s ≡ cse_id r
  cse_id-alike s r alike =
      same_chosen (λ (x y : Option (List ℕ)). x ≡ y) _ _ _ _ _ _ (ty-alike s r alike RemoteCse)
      (λ t. ap (option_and_then as_text) (alike.shape Csi (ids_in_shape r.ty Csi (cse_named r.ty t)))) (λ f. refl)

  pub registree-alike : (s r : ResourceData) → Alike home o s r → registree s ≡ registree r
  registree-alike s r alike = same_ids (ae_id s) (ae_id r) (cse_id s) (cse_id r) (ae_id-alike s r alike) (cse_id-alike s r alike)

  pub at-alike : (ss rs : List ResourceData) → AreAlike home o ss rs → (n : ℕ) → FindAlike home o (at n ss) (at n rs)
  at-alike [] [] alike n = tt
  at-alike [] (r ∷ rs) alike n = absurd alike
  at-alike (s ∷ ss) [] alike n = absurd alike
  at-alike (s ∷ ss) (r ∷ rs) alike n =
      let same : has_number n s ≡ has_number n r = ap (λ (m : ℕ). m == n) alike.0.number in
      same_chosen (FindAlike home o) _ _ _ _ _ _ same (λ t. alike.0) (λ f. at-alike ss rs alike.1 n)

  pub child-alike : (ss rs : List ResourceData) → AreAlike home o ss rs → (parent : ℕ) (name : List ℕ) → child_of parent name ss ≡ child_of parent name rs
  child-alike [] [] alike parent name = refl
  child-alike [] (r ∷ rs) alike parent name = absurd alike
  child-alike (s ∷ ss) [] alike parent name = absurd alike
  child-alike (s ∷ ss) (r ∷ rs) alike parent name =
      let same : is_child parent name s ≡ is_child parent name r = rw (alike.0.parent, alike.0.name) refl in
      same_chosen (λ (x y : Option ResourceData). resource_number x ≡ resource_number y) _ _ _ _ _ _ same
      (λ t. ap (λ n. Some n) alike.0.number) (λ f. child-alike ss rs alike.1 parent name)

  -- two look-ups find alike policies, or both find none
  abbrev FindPolicies : Option ResourceData → Option ResourceData → Type 0
  FindPolicies None None = Unit {0}
  FindPolicies None (Some r) = ⊥
  FindPolicies (Some s) None = ⊥
  FindPolicies (Some s) (Some r) = Alike home o s r × (is_ty r.ty AccessControlPolicy ≡ true)

  type_alike : (ty : Ty) (p q : Option ResourceData) → FindAlike home o p q → FindAlike home o (option_and_then (of_type ty) p) (option_and_then (of_type ty) q)
  type_alike ty None None found = tt
  type_alike ty None (Some r) found = absurd found
  type_alike ty (Some s) None found = absurd found
  type_alike ty (Some s) (Some r) found =
      let same = ty-alike s r found ty in
      same_chosen (FindAlike home o) _ _ _ _ _ _ same (λ t. found) (λ f. tt)

  policy_alike : (p q : Option ResourceData) → FindAlike home o p q → FindPolicies (option_and_then (of_type AccessControlPolicy) p) (option_and_then (of_type AccessControlPolicy) q)
  policy_alike None None found = tt
  policy_alike None (Some r) found = absurd found
  policy_alike (Some s) None found = absurd found
  policy_alike (Some s) (Some r) found =
      let same = ty-alike s r found AccessControlPolicy in
      same_chosen FindPolicies _ _ _ _ _ _ same (λ t. (found, t)) (λ f. tt)

  same_owner : (s r : ResourceData) → Alike home o s r → GiveSame home o (rule_for (only s.owner) all_bits ∷ []) (rule_for (only r.owner) all_bits ∷ [])
  same_owner s r alike = record { bits = λ a. rw alike.owned refl }

  same_channel : (s r : ResourceData) → Alike home o s r → GiveSame home o (channel_rules s) (channel_rules r)
  same_channel s r alike = record { bits = λ a. rw (registree-alike s r alike) refl }

  same_pv : (s r : ResourceData) → Alike home o s r → is_ty r.ty AccessControlPolicy ≡ true → GiveSame home o (by_list Pv s) (by_list Pv r)
  same_pv s r alike policy = same_from_by home o _ _ (alike.pv policy)

  same_pvs : (s r : ResourceData) → Alike home o s r → is_ty r.ty AccessControlPolicy ≡ true → GiveSame home o (by_list Pvs s) (by_list Pvs r)
  same_pvs s r alike policy = same_from_by home o _ _ (alike.pvs policy)

  -- policies that are alike give the same
  same_policies : (f : ResourceData → List Rule) → ((s r : ResourceData) → Alike home o s r → is_ty r.ty AccessControlPolicy ≡ true → GiveSame home o (f s) (f r)) → (p q : Option ResourceData) → FindPolicies p q → (xs ys : List ResourceData) → ((a : ℕ) → with_rules home o a (flat_map f xs) ≡ with_rules home o a (flat_map f ys)) → (a : ℕ) → with_rules home o a (flat_map f (cons_option p xs)) ≡ with_rules home o a (flat_map f (cons_option q ys))
  same_policies f same None None found xs ys rest a = rest a
  same_policies f same None (Some r) found xs ys rest a = absurd found
  same_policies f same (Some s) None found xs ys rest a = absurd found
  same_policies f same (Some s) (Some r) found xs ys rest a =
      with_rules-append home o a (f s) (flat_map f xs) ∙ ap (λ n. with_rules home o n (flat_map f xs)) ((same s r found.0 found.1).bits a)
      ∙ rest (with_rules home o a (f r)) ∙ sym (with_rules-append home o a (f r) (flat_map f ys))

  -- what stands above gives the same
  same_above : (f g : ResourceData → List Rule) → ((s r : ResourceData) → Alike home o s r → GiveSame home o (f s) (g r)) → (p q : Option ResourceData) → FindAlike home o p q → GiveSame home o (option_map_or f p []) (option_map_or g q [])
  same_above f g same None None found = same_itself home o []
  same_above f g same None (Some r) found = absurd found
  same_above f g same (Some s) None found = absurd found
  same_above f g same (Some s) (Some r) found = same s r found

  same_rights : (wanted : ℕ) (f g : ResourceData → List Rule) → ((s r : ResourceData) → Alike home o s r → GiveSame home o (f s) (g r)) → (p q : Option ResourceData) → FindAlike home o p q → option_map_or (λ r. do_give home o wanted (f r)) p false ≡ option_map_or (λ r. do_give home o wanted (g r)) q false
  same_rights wanted f g same None None found = refl
  same_rights wanted f g same None (Some r) found = absurd found
  same_rights wanted f g same (Some s) None found = absurd found
  same_rights wanted f g same (Some s) (Some r) found = rw ((same s r found).bits 0) refl

  module _ (ss rs : List ResourceData) (all : AreAlike home o ss rs) where
    policy_of-alike : (id : Data) → FindPolicies (policy_of ss id) (policy_of rs id)
    policy_of-alike id = by_text (as_text id)
      where
        by_parts : (x : Option (Ty × ℕ)) → FindAlike home o (option_and_then (λ (q : Ty × ℕ). typed_at q.0 q.1 ss) x) (option_and_then (λ (q : Ty × ℕ). typed_at q.0 q.1 rs) x)
        by_parts None = tt
        by_parts (Some q) = type_alike q.0 (at q.1 ss) (at q.1 rs) (at-alike ss rs all q.1)

        by_text : (x : Option (List ℕ)) → FindPolicies (option_and_then (policy_named ss) x) (option_and_then (policy_named rs) x)
        by_text None = tt
        by_text (Some text) = policy_alike (resource_of_id text ss) (resource_of_id text rs) (by_parts (id_parts text))

    same_joined : (attr : Attr) → ((s r : ResourceData) → Alike home o s r → is_ty r.ty AccessControlPolicy ≡ true → GiveSame home o (by_list attr s) (by_list attr r)) → (ids : List Data) (a : ℕ) → with_rules home o a (rules_by attr ss ids) ≡ with_rules home o a (rules_by attr rs ids)
    same_joined attr same [] a = refl
    same_joined attr same (id ∷ ids) a =
        same_policies (by_list attr) same (policy_of ss id) (policy_of rs id) (policy_of-alike id) (policies_of ss ids) (policies_of rs ids) (same_joined attr same ids) a

    pub linked-alike : (attr : Attr) → ((s r : ResourceData) → Alike home o s r → is_ty r.ty AccessControlPolicy ≡ true → GiveSame home o (by_list attr s) (by_list attr r)) → (s r : ResourceData) → Alike home o s r → GiveSame home o (linked_rules attr ss s) (linked_rules attr rs r)
    linked-alike attr same s r alike = rw (ids-alike Acpi s r (alike.shape Acpi refl)) (both_chosen (GiveSame home o) (lists_ids Acpi r) _ _ _ _ (λ t. record { bits = same_joined attr same (ids_at Acpi r) }) (λ f. same_owner s r alike))

    -- what stands above alike resources is alike
    above-alike : (s r : ResourceData) → Alike home o s r → FindAlike home o (at s.parent ss) (at r.parent rs)
    above-alike s r alike = subst (λ (n : ℕ). FindAlike home o (at n ss) (at r.parent rs)) (sym alike.parent) (at-alike ss rs all r.parent)

    pub rules-alike : (s r : ResourceData) → Alike home o s r → GiveSame home o (rules_of ss s) (rules_of rs r)
    rules-alike s r alike =
        same_chosen (GiveSame home o) _ _ _ _ _ _ (ty-alike s r alike AccessControlPolicy) (same_pvs s r alike)
        (λ f. same_chosen (GiveSame home o) _ _ _ _ _ _ (ty-alike s r alike ContentInstance)
        (λ t. same_above (linked_rules Pv ss) (linked_rules Pv rs) (linked-alike Pv same_pv) (at s.parent ss) (at r.parent rs) (above-alike s r alike))
        (λ g. same_chosen (GiveSame home o) _ _ _ _ _ _ (ty-alike s r alike PollingChannel)
        (λ t. same_above channel_rules channel_rules same_channel (at s.parent ss) (at r.parent rs) (above-alike s r alike))
        (λ h. linked-alike Pv same_pv s r alike)))

    pub fan_rules-alike : (s r : ResourceData) → Alike home o s r → GiveSame home o (fan_rules ss s) (fan_rules rs r)
    fan_rules-alike s r alike = rw (ids-alike Macp s r (alike.shape Macp refl)) (both_chosen (GiveSame home o) (lists_ids Macp r) _ _ _ _ (λ t. record { bits = same_joined Pv same_pv (ids_at Macp r) }) (λ f. rules-alike s r alike))

    pub grants-alike : (bit n : ℕ) → grants home ss o bit n ≡ grants home rs o bit n
    grants-alike bit n = same_rights bit (rules_of ss) (rules_of rs) rules-alike (at n ss) (at n rs) (at-alike ss rs all n)

    pub relinks-alike : (n : ℕ) → relinks home ss o n ≡ relinks home rs o n
    relinks-alike n = same_rights update_bit (link_rules ss) (link_rules rs) (linked-alike Pvs same_pvs) (at n ss) (at n rs) (at-alike ss rs all n)

    pub fan_grants-alike : (bit n : ℕ) → fan_grants home ss o bit n ≡ fan_grants home rs o bit n
    fan_grants-alike bit n = same_rights bit (fan_rules ss) (fan_rules rs) fan_rules-alike (at n ss) (at n rs) (at-alike ss rs all n)
