-- Tables of names: what a change leaves at any name, and which resources of a list they find.
use Rattle.std.specs.Prelude.{◌==◌, nat_eq, option_and_then}
use Rattle.std.proofs.Common.{◌≡◌, ℕ, ◌⊎◌, List, [], ◌∷◌, ◌++◌, Bool, true, false, cond, ◌&&◌, Option, Some, None, Result, Ok, Err, OnOk, OnErr, option_map, pos, inl, inr, refl, sym, ap, ◌∙◌, subst}
use Rattle.std.proofs.lemmas.Bool.{cases_Bool, and_parts, and_from, or_left, or_right, eq-eqb, eqb-true, both_ways}
use Rattle.std.proofs.lemmas.Option.{same_Some}
use Rattle.std.proofs.lemmas.Slice.Eq.{bytes_eq-Decides}
use Rattle.std.specs.Cmp.Lexicographic.{nat_list_eq_equiv}
use Rattle.std.specs.HashMap.{HashMap, get, get_by, UpdatesBy}
use Rattle.std.specs.List.{filter, find, list_any, slice_get}
use Rattle.std.specs.Map.{lookup, IsKeyTest, AreApart, KeepsOthers}
use Rattle.std.specs.Option.{option_map_or, option_or}
use Rattle.std.specs.Str.{bytes_eq}
use Rattle.std.specs.declared.vec.Vec.{Vec}
use Rattle.m2m_value.proofs.Lookup.{bytes_eq_itself}
use Rattle.m2m_names.specs.declared.attributes.Attr.TheVariants.{Exc, St}
use Rattle.m2m_names.specs.declared.types.Ty.{Ty}
use Rattle.m2m_value.specs.Data.{number as whole_number}
use Rattle.resource_model.specs.Resource.{ResourceData, has_number, ae_id, cse_id}
use Rattle.tree_model.specs.Tree.{at, has, is_tree, is_child, is_ae, is_cse, may_stand, replaced, recounted, recounted_at, resource_number, restamped, restamped_at, same_text, standing, child_of, ae_of, cse_of}
use Rattle.tree_model.proofs.ApartLemmas.{names_apart, ae_ids_apart, cse_ids_apart}
use Rattle.tree_model.proofs.FoundLemmas.{any_found}
use Rattle.tree_model.proofs.GrowthLemmas.{at-filter, next_fits}
use Rattle.tree_model.proofs.OrderLemmas.{at_filtered, passes_filter, tree_ascends}
use Rattle.tree_model.proofs.MarkLemmas.{exc_aside, st_aside, stood_marked}
use Rattle.tree_model.proofs.TreeLemmas.{at-append, at-replaced, at-replaced_other, at_has, at_number}
use Rattle.resource_names.specs.Names.{checked, named_at, number_by, number_told, tells_itself, HasIds, HasNames, IsNamed}
use Rattle.resource_names.specs.declared.names.Names.{Names}
use Rattle.resource_names.specs.declared.named.Named.{Named}

-- ---- a change of one name

apart : (bs cs ks : List ℕ) → bytes_eq bs cs ≡ false → bytes_eq bs ks ≡ true → bytes_eq cs ks ≡ false
apart bs cs ks n y = nat_list_eq_equiv.symm cs ks ∙ sym (nat_list_eq_equiv.congr bs ks cs y) ∙ n

other_entries : {K X : Type 0} (eq : K → K → Bool) (test : K → Bool) (old new : List (K × X)) → KeepsOthers eq test old new → (other : K → Bool) → IsKeyTest eq other → AreApart test other → lookup other new ≡ lookup other old
unfolding KeepsOthers
other_entries eq test old new h = h

-- what a map with keys that are seen as bytes has at any bytes, once it was changed at some
module _ {V X S : Type 0} (bytes : V → List ℕ) where
  abbrev pub by_bytes : List ℕ → HashMap V X S → Option X
  by_bytes bs m = get_by (λ k. bytes_eq bs (bytes k)) m

  pub updated : (bs : List ℕ) (m n : HashMap V X S) (w : Option X) → UpdatesBy (λ x y. bytes_eq (bytes x) (bytes y)) (λ k. bytes_eq bs (bytes k)) m n w → (cs : List ℕ) → by_bytes cs n ≡ cond (bytes_eq bs cs) w (by_bytes cs m)
  updated bs m n w h cs = elim (cases_Bool (bytes_eq bs cs)) [
    | inl t ↦ rw t (subst (λ (ds : List ℕ). by_bytes ds n ≡ w) ((bytes_eq-Decides bs cs).0 t) h.1)
    | inr f ↦ rw f (other_entries _ _ _ _ h.3 _ (λ x y. nat_list_eq_equiv.congr cs (bytes x) (bytes y)) (λ k. apart bs cs (bytes k) f))
  ]

-- the bytes of a key
abbrev pub key_bytes : {Z : Type 0} → Vec ℕ Z → List ℕ
key_bytes key = key.items

-- an entry whose value passes a test is found still among those whose values pass
pub lookup_kept : {K X : Type 0} (test : K → Bool) (p : X → Bool) (es : List (K × X)) (v : X) → lookup test es ≡ Some v → p v ≡ true → lookup test (filter (λ e. p e.1) es) ≡ Some v
lookup_kept test p [] v found passes = cc
lookup_kept test p (e ∷ es) v found passes = elim (cases_Bool (test e.0)) [
  | inl t ↦
      let same : e.1 ≡ v = same_Some e.1 v (rw t at found) in
      rw (ap p same ∙ passes, t) (ap Some same)
  | inr f ↦
      let later = lookup_kept test p es v (rw f at found) passes in
      elim (cases_Bool (p e.1)) [
        | inl u ↦ rw (u, f) later
        | inr w ↦ rw w later
      ]
]

-- ---- a smaller list

module _ (nodes left : List ResourceData) (within : (r : ResourceData) → at r.number left ≡ Some r → at r.number nodes ≡ Some r) where
  names_within : {S : Type 0} (m : HashMap ℕ Names S) → HasNames nodes m → HasNames left m
  names_within m has_it r there told = has_it r (within r there) told

  ids_within : (id : ResourceData → Option (List ℕ)) (names : Names) → HasIds id nodes names → HasIds id left names
  ids_within id names has_it r text there is = has_it r text (within r there) is

  pub named_within : (named : Named) → IsNamed nodes named → IsNamed left named
  named_within named is = record {
    children = names_within named.children is.children;
    aes = ids_within ae_id named.aes is.aes;
    cses = ids_within cse_id named.cses is.cses;
  }

pub left_within : (nodes left : List ResourceData) → left ≡ filter (λ r. has r.number left) nodes → (r : ResourceData) → at r.number left ≡ Some r → at r.number nodes ≡ Some r
left_within nodes left kept r there =
    let both : cond (has r.number left) (at r.number nodes) None ≡ Some r = sym (ap (at r.number) kept ∙ at-filter (λ n. has n left) r.number nodes) ∙ there in
    sym (ap (λ b. cond b (at r.number nodes) None) (at_has r.number left r there)) ∙ both

pub last_within : (nodes : List ResourceData) (x r : ResourceData) → at r.number nodes ≡ Some r → at r.number (nodes ++ x ∷ []) ≡ Some r
last_within nodes x r there = at-append r.number nodes (x ∷ []) ∙ ap (λ o. option_or o (at r.number (x ∷ []))) there

-- ---- what is left is found still

names_left : {S : Type 0} (left : List ResourceData) (m n : HashMap ℕ Names S) → ((p : ℕ) (name : List ℕ) (k : ℕ) → named_at m p name ≡ Some k → has k left ≡ true → named_at n p name ≡ Some k) → HasNames left m → HasNames left n
names_left left m n keeps has_it r there told = keeps r.parent r.name r.number (has_it r there told) (at_has r.number left r there)

ids_left : (left : List ResourceData) (id : ResourceData → Option (List ℕ)) (m n : Names) → ((name : List ℕ) (k : ℕ) → number_by name m ≡ Some k → has k left ≡ true → number_by name n ≡ Some k) → HasIds id left m → HasIds id left n
ids_left left id m n keeps has_it r text there is = keeps text r.number (has_it r text there is) (at_has r.number left r there)

pub named_left : (left : List ResourceData) (before after : Named) → ((p : ℕ) (name : List ℕ) (k : ℕ) → named_at before.children p name ≡ Some k → has k left ≡ true → named_at after.children p name ≡ Some k) → ((name : List ℕ) (k : ℕ) → number_by name before.aes ≡ Some k → has k left ≡ true → number_by name after.aes ≡ Some k) → ((name : List ℕ) (k : ℕ) → number_by name before.cses ≡ Some k → has k left ≡ true → number_by name after.cses ≡ Some k) → IsNamed left before → IsNamed left after
named_left left before after children aes cses is = record {
  children = names_left left before.children after.children children is.children;
  aes = ids_left left ae_id before.aes after.aes aes is.aes;
  cses = ids_left left cse_id before.cses after.cses cses is.cses;
}

-- ---- one more

found_any : (p : ResourceData → Bool) (n : ℕ) (nodes : List ResourceData) (r : ResourceData) → at n nodes ≡ Some r → p r ≡ true → list_any p nodes ≡ true
found_any p n [] r found passes = cc
found_any p n (s ∷ nodes) r found passes = elim (cases_Bool (has_number n s)) [
  | inl t ↦ or_left (p s) (list_any p nodes) (ap p (same_Some s r (rw t at found)) ∙ passes)
  | inr f ↦ or_right (p s) (list_any p nodes) (found_any p n nodes r (rw f at found) passes)
]

bytes_same : (xs ys : List ℕ) → bytes_eq xs ys ≡ true → xs ≡ ys
bytes_same xs ys h = (bytes_eq-Decides xs ys).0 h

module _ (nodes : List ResourceData) (r : ResourceData) (next : may_stand nodes r ≡ true) where
  new_or_old : (s : ResourceData) → at s.number (nodes ++ r ∷ []) ≡ Some s → (at s.number nodes ≡ Some s) ⊎ (r ≡ s)
  new_or_old s there = by (at s.number nodes) refl
    where
      by : (o : Option ResourceData) → at s.number nodes ≡ o → (at s.number nodes ≡ Some s) ⊎ (r ≡ s)
      by (Some x) is = inl (is ∙ sym (at-append s.number nodes (r ∷ []) ∙ ap (λ o. option_or o (at s.number (r ∷ []))) is) ∙ there)
      by None is =
          let last : cond (has_number s.number r) (Some r) None ≡ Some s = sym (at-append s.number nodes (r ∷ []) ∙ ap (λ o. option_or o (at s.number (r ∷ []))) is) ∙ there in
          inr (elim (cases_Bool (has_number s.number r)) [
            | inl t ↦ same_Some r s (rw t at last)
            | inr f ↦ absurd (let none : None ≡ Some s = rw f at last in cc)
          ])

  pub names_grown : {S : Type 0} (m n : HashMap ℕ Names S) → HasNames nodes m → ((p : ℕ) (other : List ℕ) → named_at n p other ≡ cond (tells_itself r) (named_at m p other) (cond (nat_eq r.parent p && bytes_eq r.name other) (Some r.number) (named_at m p other))) → HasNames (nodes ++ r ∷ []) n
  names_grown m n has_it adds s there told = elim (new_or_old s there) [
    | inl old ↦
        adds s.parent s.name ∙ elim (cases_Bool (nat_eq r.parent s.parent && bytes_eq r.name s.name)) [
          | inl t ↦
              let parts = and_parts (nat_eq r.parent s.parent) (bytes_eq r.name s.name) t in
              let name : bytes_eq s.name r.name ≡ true = ap (λ (xs : List ℕ). bytes_eq s.name xs) (bytes_same r.name s.name parts.1) ∙ bytes_eq_itself s.name in
              let child : is_child r.parent r.name s ≡ true = and_from (s.parent == r.parent) (bytes_eq s.name r.name) (eq-eqb s.parent r.parent (sym (eqb-true r.parent s.parent parts.0))) name in
              absurd (both_ways _ (next_fits nodes r next).name (found_any (is_child r.parent r.name) s.number nodes s old child))
          | inr f ↦ rw f (elim (cases_Bool (tells_itself r)) [
            | inl u ↦ rw u (has_it s old told)
            | inr v ↦ rw v (has_it s old told)
          ])
        ]
    | inr same ↦
        let own : tells_itself r ≡ false = ap tells_itself same ∙ told in
        let here : (nat_eq r.parent s.parent && bytes_eq r.name s.name) ≡ true = and_from _ _ (eq-eqb r.parent s.parent (ap (λ (x : ResourceData). x.parent) same)) (ap (λ (x : ResourceData). bytes_eq r.name x.name) (sym same) ∙ bytes_eq_itself r.name) in
        adds s.parent s.name ∙ rw (own, here) (ap (λ (x : ResourceData). Some x.number) same)
  ]

  pub ids_grown : (id : ResourceData → Option (List ℕ)) (m n : Names) → list_any (λ s. same_text (id s) (id r)) nodes ≡ false → HasIds id nodes m → ((other : List ℕ) → number_by other n ≡ cond (option_map_or (λ (text : List ℕ). bytes_eq text other) (id r) false) (Some r.number) (number_by other m)) → HasIds id (nodes ++ r ∷ []) n
  ids_grown id m n free has_it adds s text there is = elim (new_or_old s there) [
    | inl old ↦
        adds text ∙ elim (cases_Bool (option_map_or (λ (t : List ℕ). bytes_eq t text) (id r) false)) [
          | inl t ↦ absurd (both_ways _ free (found_any (λ x. same_text (id x) (id r)) s.number nodes s old (shared (id r) t)))
          | inr f ↦ rw f (has_it s text old is)
        ]
    | inr same ↦
        let own : id r ≡ Some text = ap id same ∙ is in
        adds text ∙ rw (own, bytes_eq_itself text) (ap (λ (x : ResourceData). Some x.number) same)
  ]
    where
      shared : (o : Option (List ℕ)) → option_map_or (λ (t : List ℕ). bytes_eq t text) o false ≡ true → same_text (id s) o ≡ true
      shared None t = cc
      shared (Some own) t = ap (λ (x : Option (List ℕ)). same_text x (Some own)) is ∙ ap (λ (x : List ℕ). bytes_eq text x) (bytes_same own text t) ∙ bytes_eq_itself text

  -- where its id and its number are known by other names
  pub ids_added : (id : ResourceData → Option (List ℕ)) (m n : Names) (own : Option (List ℕ)) (number : ℕ) → list_any (λ s. same_text (id s) (id r)) nodes ≡ false → own ≡ id r → number ≡ r.number → HasIds id nodes m → ((other : List ℕ) → number_by other n ≡ cond (option_map_or (λ (text : List ℕ). bytes_eq text other) own false) (Some number) (number_by other m)) → HasIds id (nodes ++ r ∷ []) n
  ids_added id m n own number free is_id is_number has_it adds = ids_grown id m n free has_it (λ other.
      adds other
      ∙ ap (λ o. cond (option_map_or (λ (text : List ℕ). bytes_eq text other) o false) (Some number) (number_by other m)) is_id
      ∙ ap (λ k. cond (option_map_or (λ (text : List ℕ). bytes_eq text other) (id r) false) (Some k) (number_by other m)) is_number)

  -- what was noted of it hides nothing of the list
  pub names_before : {S : Type 0} (m : HashMap ℕ Names S) → HasNames (nodes ++ r ∷ []) m → HasNames nodes m
  names_before m has_both = names_within (nodes ++ r ∷ []) nodes (last_within nodes r) m has_both

  pub ids_before : (id : ResourceData → Option (List ℕ)) (names : Names) → HasIds id (nodes ++ r ∷ []) names → HasIds id nodes names
  ids_before id names has_both = ids_within (nodes ++ r ∷ []) nodes (last_within nodes r) id names has_both

pub ids_same : (id : ResourceData → Option (List ℕ)) (nodes : List ResourceData) (m n : Names) → ((other : List ℕ) → number_by other n ≡ number_by other m) → HasIds id nodes m → HasIds id nodes n
ids_same id nodes m n same has_it r text there is = same text ∙ has_it r text there is

-- ---- what holds where a call succeeds, or fails

pub on_ok : {A E : Type 0} (r : Result A E) (Q : List ℕ → Type 0) (P : Type 0) → ((x : List ℕ) → OnOk r (Q x)) → (((x : List ℕ) → Q x) → P) → OnOk r P
on_ok (Ok v) Q P each all = all each
on_ok (Err e) Q P each all = tt

pub on_err : {A E : Type 0} (r : Result A E) (Q : List ℕ → Type 0) (P : Type 0) → ((x : List ℕ) → OnErr r (Q x)) → (((x : List ℕ) → Q x) → P) → OnErr r P
on_err (Ok v) Q P each all = tt
on_err (Err e) Q P each all = all each

pub any_err : {A E : Type 0} (r : Result A E) (P : Type 0) → P → OnErr r P
any_err (Ok v) P holds = tt
any_err (Err e) P holds = holds

-- ---- one in the place of another

module _ (nodes : List ResourceData) (r : ResourceData) (stood : option_map standing (at r.number nodes) ≡ Some (standing r)) where
  -- what stands there now stood there, or one that stood as it does
  stood_alike : (s : ResourceData) → at s.number (replaced r nodes) ≡ Some s → (old : ResourceData) × (at old.number nodes ≡ Some old) × (old.number ≡ s.number) × (standing old ≡ standing s)
  stood_alike s there = by (at r.number nodes) refl
    where
      by : (o : Option ResourceData) → at r.number nodes ≡ o → (old : ResourceData) × (at old.number nodes ≡ Some old) × (old.number ≡ s.number) × (standing old ≡ standing s)
      by None none = absurd (let wrong : None ≡ Some (standing r) = ap (option_map standing) (sym none) ∙ stood in cc)
      by (Some old) found = elim (cases_Bool (s.number == r.number)) [
        | inl t ↦
            let same : s.number ≡ r.number = eqb-true s.number r.number t in
            let is : r ≡ s = same_Some r s (sym (at-replaced r nodes (at_has r.number nodes old found)) ∙ ap (λ k. at k (replaced r nodes)) (sym same) ∙ there) in
            let number : old.number ≡ r.number = at_number r.number nodes old found in
            let alike : standing old ≡ standing r = same_Some (standing old) (standing r) (ap (option_map standing) (sym found) ∙ stood) in
            (old, ap (λ k. at k nodes) number ∙ found, number ∙ sym same, alike ∙ ap standing is)
        | inr f ↦ (s, sym (at-replaced_other s.number r nodes (λ e. both_ways _ f (eq-eqb s.number r.number e))) ∙ there, refl, refl)
      ]

  names_replaced : {S : Type 0} (m : HashMap ℕ Names S) → HasNames nodes m → HasNames (replaced r nodes) m
  names_replaced m has_it s there told =
      let old = stood_alike s there in
      let name : old.0.name ≡ s.name = ap (λ (x : Ty × List ℕ × ℕ × Option (List ℕ) × Option (List ℕ)). x.1) old.3 in
      let parent : old.0.parent ≡ s.parent = ap (λ (x : Ty × List ℕ × ℕ × Option (List ℕ) × Option (List ℕ)). x.2) old.3 in
      let own : tells_itself old.0 ≡ false = ap (λ n. option_map_or (nat_eq n) (number_told old.0.name) false) old.2 ∙ ap (λ (x : List ℕ). option_map_or (nat_eq s.number) (number_told x) false) name ∙ told in
      ap (λ q. named_at m q s.name) (sym parent) ∙ ap (λ (x : List ℕ). named_at m old.0.parent x) (sym name) ∙ has_it old.0 old.1 own ∙ ap Some old.2

  ids_replaced : (id : ResourceData → Option (List ℕ)) (names : Names) → ((x y : ResourceData) → standing x ≡ standing y → id x ≡ id y) → HasIds id nodes names → HasIds id (replaced r nodes) names
  ids_replaced id names same has_it s text there is =
      let old = stood_alike s there in
      has_it old.0 text old.1 (same old.0 s old.3 ∙ is) ∙ ap Some old.2

  pub named_replaced : (named : Named) → IsNamed nodes named → IsNamed (replaced r nodes) named
  named_replaced named is = record {
    children = names_replaced named.children is.children;
    aes = ids_replaced ae_id named.aes (λ x y e. ap (λ (z : Ty × List ℕ × ℕ × Option (List ℕ) × Option (List ℕ)). z.3) e) is.aes;
    cses = ids_replaced cse_id named.cses (λ x y e. ap (λ (z : Ty × List ℕ × ℕ × Option (List ℕ) × Option (List ℕ)). z.4) e) is.cses;
  }

pub named_restamped : (nodes : List ResourceData) (n lt st : ℕ) (named : Named) → IsNamed nodes named → IsNamed (restamped_at n lt st nodes) named
named_restamped nodes n lt st named is = by (at n nodes) refl
  where
    by : (o : Option ResourceData) → at n nodes ≡ o → IsNamed (option_map_or (λ r. replaced (restamped lt st r) nodes) o nodes) named
    by None found = is
    by (Some r) found = named_replaced nodes (restamped lt st r) (stood_marked St st_aside (whole_number (pos st)) lt nodes n r found) named is

pub named_recounted : (nodes : List ResourceData) (n left : ℕ) (named : Named) → IsNamed nodes named → IsNamed (recounted_at n left nodes) named
named_recounted nodes n left named is = by (at n nodes) refl
  where
    by : (o : Option ResourceData) → at n nodes ≡ o → IsNamed (option_map_or (λ r. replaced (recounted left r) nodes) o nodes) named
    by None found = is
    by (Some r) found = named_replaced nodes (recounted left r) (stood_marked Exc exc_aside (whole_number (pos left)) r.lt nodes n r found) named is

-- ---- what a test finds

find-first : (p : ResourceData → Bool) (nodes : List ResourceData) → find p nodes ≡ slice_get (filter p nodes) 0
find-first p [] = refl
find-first p (s ∷ nodes) = elim (cases_Bool (p s)) [
  | inl t ↦ rw t refl
  | inr f ↦ rw f (find-first p nodes)
]

module _ (p : ResourceData → Bool) (nodes : List ResourceData) (tree : is_tree nodes ≡ true) where
  found_stands : (r : ResourceData) → find p nodes ≡ Some r → (at r.number nodes ≡ Some r) × (p r ≡ true)
  found_stands r found =
      let first : slice_get (filter p nodes) 0 ≡ Some r = sym (find-first p nodes) ∙ found in
      (at_filtered p nodes 0 r (tree_ascends nodes tree) first, passes_filter p nodes 0 r first)

  checked_own : (r : ResourceData) → at r.number nodes ≡ Some r → p r ≡ true → checked p nodes (Some r.number) ≡ Some r.number
  checked_own r there passes = rw (there, passes) refl

  checked_is : (o : Option ℕ) (n : ℕ) → checked p nodes o ≡ Some n → (r : ResourceData) × (at n nodes ≡ Some r) × (p r ≡ true)
  checked_is None n is = absurd (let none : None ≡ Some n = is in cc)
  checked_is (Some m) n is = by (at m nodes) refl
    where
      by : (o : Option ResourceData) → at m nodes ≡ o → (r : ResourceData) × (at n nodes ≡ Some r) × (p r ≡ true)
      by None there = absurd (let none : None ≡ Some n = rw there at is in cc)
      by (Some r) there =
          let kept : cond (p r) (Some m) None ≡ Some n = rw there at is in
          elim (cases_Bool (p r)) [
            | inl t ↦
                let same : m ≡ n = same_Some m n (rw t at kept) in
                (r, ap (λ k. at k nodes) (sym same) ∙ there, t)
            | inr f ↦ absurd (let none : None ≡ Some n = rw f at kept in cc)
          ]

  -- where no two pass the test
  module _ (one : (m n : ℕ) (r s : ResourceData) → at m nodes ≡ Some r → at n nodes ≡ Some s → p r ≡ true → p s ≡ true → m ≡ n) where
    sound : (o : Option ℕ) (n : ℕ) → checked p nodes o ≡ Some n → resource_number (find p nodes) ≡ Some n
    sound o n is = by (find p nodes) refl
      where
        it : (r : ResourceData) × (at n nodes ≡ Some r) × (p r ≡ true)
        it = checked_is o n is

        by : (found : Option ResourceData) → find p nodes ≡ found → resource_number (find p nodes) ≡ Some n
        by None none =
            let some : list_any p nodes ≡ true = found_any p n nodes it.0 it.1 it.2 in
            absurd (both_ways _ (any_found p nodes ∙ rw none refl) some)
        by (Some s) found =
            let there = found_stands s found in
            ap resource_number found ∙ ap Some (sym (one n s.number it.0 s it.1 there.0 it.2 there.1))

    -- of two numbers, of which one is that of what the test finds
    pub decided : (first second result : Option ℕ) → ((r : ResourceData) → find p nodes ≡ Some r → at r.number nodes ≡ Some r → p r ≡ true → (first ≡ Some r.number) ⊎ (second ≡ Some r.number)) → result ≡ option_or (checked p nodes first) (checked p nodes second) → result ≡ resource_number (find p nodes)
    decided first second result knows is = is ∙ by (checked p nodes first) refl
      where
        second_by : (found : Option ResourceData) → find p nodes ≡ found → checked p nodes first ≡ None → checked p nodes second ≡ resource_number found
        second_by None none not_first = none_by (checked p nodes second) refl
          where
            none_by : (o : Option ℕ) → checked p nodes second ≡ o → checked p nodes second ≡ None
            none_by None nothing = nothing
            none_by (Some n) some = absurd (let wrong : None ≡ Some n = sym (ap resource_number none) ∙ sound second n some in cc)
        second_by (Some r) found not_first =
            let there = found_stands r found in
            elim (knows r found there.0 there.1) [
              | inl e ↦ absurd (let wrong : None ≡ Some r.number = sym not_first ∙ ap (checked p nodes) e ∙ checked_own r there.0 there.1 in cc)
              | inr e ↦ ap (checked p nodes) e ∙ checked_own r there.0 there.1
            ]

        by : (o : Option ℕ) → checked p nodes first ≡ o → option_or (checked p nodes first) (checked p nodes second) ≡ resource_number (find p nodes)
        by (Some n) some = ap (λ o. option_or o (checked p nodes second)) some ∙ sym (sound first n some)
        by None none = ap (λ o. option_or o (checked p nodes second)) none ∙ second_by (find p nodes) refl none

-- ---- what each look-up finds

module _ (nodes : List ResourceData) (tree : is_tree nodes ≡ true) (named : Named) (is : IsNamed nodes named) where
  pub child_decided : (parent : ℕ) (name : List ℕ) (result : Option ℕ) → result ≡ option_or (checked (is_child parent name) nodes (number_told name)) (checked (is_child parent name) nodes (named_at named.children parent name)) → result ≡ child_of parent name nodes
  child_decided parent name result = decided (is_child parent name) nodes tree one (number_told name) (named_at named.children parent name) result knows
    where
      under : (r : ResourceData) → is_child parent name r ≡ true → r.parent ≡ parent
      under r h = eqb-true r.parent parent (and_parts (r.parent == parent) (bytes_eq r.name name) h).0

      called : (r : ResourceData) → is_child parent name r ≡ true → r.name ≡ name
      called r h = bytes_same r.name name (and_parts (r.parent == parent) (bytes_eq r.name name) h).1

      one : (m n : ℕ) (r s : ResourceData) → at m nodes ≡ Some r → at n nodes ≡ Some s → is_child parent name r ≡ true → is_child parent name s ≡ true → m ≡ n
      one m n r s left right first second = names_apart nodes m n r s tree left right (under r first ∙ sym (under s second)) (called r first ∙ sym (called s second))

      knows : (r : ResourceData) → find (is_child parent name) nodes ≡ Some r → at r.number nodes ≡ Some r → is_child parent name r ≡ true → (number_told name ≡ Some r.number) ⊎ (named_at named.children parent name ≡ Some r.number)
      knows r found there passes = elim (cases_Bool (tells_itself r)) [
        | inl t ↦ inl (ap number_told (sym (called r passes)) ∙ tells (number_told r.name) t)
        | inr f ↦ inr (ap (λ q. named_at named.children q name) (sym (under r passes)) ∙ ap (λ (x : List ℕ). named_at named.children r.parent x) (sym (called r passes)) ∙ is.children r there f)
      ]
        where
          tells : (o : Option ℕ) → option_map_or (nat_eq r.number) o false ≡ true → o ≡ Some r.number
          tells None t = cc
          tells (Some n) t = ap Some (sym (eqb-true r.number n t))

  -- the number that the name tells is that of the child
  pub child_told : (parent : ℕ) (name : List ℕ) (told first : Option ℕ) (n : ℕ) → told ≡ number_told name → first ≡ checked (is_child parent name) nodes told → first ≡ Some n → Some n ≡ child_of parent name nodes
  child_told parent name told first n tells checks is =
      let table = checked (is_child parent name) nodes (named_at named.children parent name) in
      child_decided parent name (Some n) (ap (λ o. option_or o table) (sym is ∙ checks ∙ ap (checked (is_child parent name) nodes) tells))

  -- it isn't, and the table decides
  pub child_in_table : (parent : ℕ) (name : List ℕ) (told first found result : Option ℕ) → told ≡ number_told name → first ≡ checked (is_child parent name) nodes told → first ≡ None → found ≡ named_at named.children parent name → result ≡ checked (is_child parent name) nodes found → result ≡ child_of parent name nodes
  child_in_table parent name told first found result tells checks is finds second =
      let table = checked (is_child parent name) nodes (named_at named.children parent name) in
      child_decided parent name result (second ∙ ap (checked (is_child parent name) nodes) finds ∙ ap (λ o. option_or o table) (sym is ∙ checks ∙ ap (checked (is_child parent name) nodes) tells))

  id_is : (o : Option (List ℕ)) (text : List ℕ) → same_text o (Some text) ≡ true → o ≡ Some text
  id_is None text share = cc
  id_is (Some own) text share = ap Some (bytes_same own text share)

  pub ae_decided : (aei : List ℕ) (result : Option ℕ) → result ≡ checked (is_ae aei) nodes (number_by aei named.aes) → result ≡ ae_of aei nodes
  ae_decided aei result = decided (is_ae aei) nodes tree (λ m n r s left right first second. ae_ids_apart nodes m n r s aei tree left right (id_is (ae_id r) aei first) (id_is (ae_id s) aei second)) None (number_by aei named.aes) result (λ r found there passes. inr (is.aes r aei there (id_is (ae_id r) aei passes)))

  pub cse_decided : (csi : List ℕ) (result : Option ℕ) → result ≡ checked (is_cse csi) nodes (number_by csi named.cses) → result ≡ cse_of csi nodes
  cse_decided csi result = decided (is_cse csi) nodes tree (λ m n r s left right first second. cse_ids_apart nodes m n r s csi tree left right (id_is (cse_id r) csi first) (id_is (cse_id s) csi second)) None (number_by csi named.cses) result (λ r found there passes. inr (is.cses r csi there (id_is (cse_id r) csi passes)))

-- a table in which no name is left goes, and nothing else is found
pub forgotten : {S : Type 0} (m now : HashMap ℕ Names S) (parent : ℕ) → ((name : List ℕ) → named_at m parent name ≡ None) → ((q : ℕ) → get nat_eq now q ≡ cond (nat_eq parent q) None (get nat_eq m q)) → (p : ℕ) (name : List ℕ) → named_at now p name ≡ named_at m p name
forgotten m now parent none updates p name = elim (cases_Bool (nat_eq parent p)) [
  | inl t ↦
      ap (λ (o : Option Names). option_and_then (λ (names : Names). number_by name names) o) (updates p ∙ ap (λ b. cond b None (get nat_eq m p)) t)
      ∙ sym (none name)
      ∙ ap (λ q. named_at m q name) (eqb-true parent p t)
  | inr f ↦ ap (λ (o : Option Names). option_and_then (λ (names : Names). number_by name names) o) (updates p ∙ ap (λ b. cond b None (get nat_eq m p)) f)
]
