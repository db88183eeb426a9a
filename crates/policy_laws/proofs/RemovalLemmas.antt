-- What a removal leaves of rights.
use Rattle.policy_laws.proofs.Words.{◌≡◌, ℕ, List, [], ◌∷◌, Bool, true, false, Option, Some, None, refl, sym, ◌∙◌, cons_option, flat_map, option_and_then, option_map_or}
use Rattle.policy_laws.proofs.Terms.{as_text, Attr, Acpi, Macp, Pv, Pvs, id_parts, Ty, AccessControlPolicy, ContentInstance, PollingChannel, Data, value_of, HomeData, ResourceData, is_ty, at, is_spared, is_tree, of_type, resource_of_id, typed_at, without, Rule, rules_in, policy_named, policy_of, policies_of, rules_by, ids_at, lists_ids, linked_rules, owner_rules, channel_rules, rules_of, fan_rules, link_rules, with_rules, bits_by, do_give, update_bit, grants, relinks, fan_grants}
use Rattle.policy_laws.proofs.Facts.{both_ways, same_Some, at-without}
use Rattle.policy_laws.specs.Laws.{IsNeverGained}
use Rattle.policy_laws.proofs.ChoiceLemmas.{both_chosen, found_where}
use Rattle.policy_laws.proofs.UnionLemmas.{IsBelow, below_itself, below_through, zero_below, with_rules_adds, with_rules_more, with_rules-append, has_more}

-- what the one list has at a number, the other has there
pub record Keeps (less more : List ResourceData) : Type 0 where
  pub found : (n : ℕ) (r : ResourceData) → at n less ≡ Some r → at n more ≡ Some r

pub keeps_without : (picks : ResourceData → Bool) (nodes : List ResourceData) → is_tree nodes ≡ true → Keeps (without picks nodes) nodes
keeps_without picks nodes tree = record {
  found = λ n r here. (found_where (is_spared picks nodes n) (at n nodes) r (sym (at-without picks n nodes tree) ∙ here)).1;
}

then_kept : {A B : Type 0} (f g : A → Option B) (o : Option A) (b : B) → ((x : A) → f x ≡ Some b → g x ≡ Some b) → option_and_then f o ≡ Some b → option_and_then g o ≡ Some b
then_kept f g None b kept found = found
then_kept f g (Some x) b kept found = kept x found

then_found : {A B : Type 0} (f : A → Option B) (o p : Option A) (b : B) → ((x : A) → o ≡ Some x → p ≡ Some x) → option_and_then f o ≡ Some b → option_and_then f p ≡ Some b
then_found f None p b kept found = cc
then_found f (Some x) p b kept found = rw (kept x refl) found

policy_kept : (less more : List ResourceData) → Keeps less more → (id : Data) (p : ResourceData) → policy_of less id ≡ Some p → policy_of more id ≡ Some p
policy_kept less more keeps id p found =
    then_kept (policy_named less) (policy_named more) (as_text id) p
    (λ text. then_found (of_type AccessControlPolicy) (resource_of_id text less) (resource_of_id text more) p
    (λ r. then_kept (λ (q : Ty × ℕ). typed_at q.0 q.1 less) (λ (q : Ty × ℕ). typed_at q.0 q.1 more) (id_parts text) r
    (λ q. then_found (of_type q.0) (at q.1 less) (at q.1 more) r (keeps.found q.1))))
    found

-- a list of policies that lacks some gives no more
policies_below : (home : HomeData) (o : List ℕ) (f : ResourceData → List Rule) (p q : Option ResourceData) (xs ys : List ResourceData) → ((r : ResourceData) → p ≡ Some r → q ≡ Some r) → ((a b : ℕ) → IsBelow a b → IsBelow (with_rules home o a (flat_map f xs)) (with_rules home o b (flat_map f ys))) → (a b : ℕ) → IsBelow a b → IsBelow (with_rules home o a (flat_map f (cons_option p xs))) (with_rules home o b (flat_map f (cons_option q ys)))
policies_below home o f None None xs ys kept rest a b ab = rest a b ab
policies_below home o f None (Some s) xs ys kept rest a b ab =
    rw (with_rules-append home o b (f s) (flat_map f ys)) (rest a _ (below_through _ _ _ ab (with_rules_adds home o b (f s))))
policies_below home o f (Some r) None xs ys kept rest a b ab =
    absurd (let none : None ≡ Some r = kept r refl in cc)
policies_below home o f (Some r) (Some s) xs ys kept rest a b ab =
    rw (same_Some s r (kept r refl), with_rules-append home o a (f r) (flat_map f xs), with_rules-append home o b (f r) (flat_map f ys))
    (rest _ _ (with_rules_more home o a b (f r) ab))

joined_below : (home : HomeData) (o : List ℕ) (attr : Attr) (less more : List ResourceData) → Keeps less more → (ids : List Data) (a b : ℕ) → IsBelow a b → IsBelow (with_rules home o a (rules_by attr less ids)) (with_rules home o b (rules_by attr more ids))
joined_below home o attr less more keeps [] a b ab = ab
joined_below home o attr less more keeps (id ∷ ids) a b ab =
    policies_below home o (λ (p : ResourceData). rules_in (value_of attr p.attrs)) (policy_of less id) (policy_of more id) (policies_of less ids) (policies_of more ids)
    (policy_kept less more keeps id) (joined_below home o attr less more keeps ids) a b ab

-- rules that give no more
pub record GiveLess (home : HomeData) (o : List ℕ) (less more : List Rule) : Type 0 where
  pub bits : IsBelow (bits_by home o less) (bits_by home o more)

less_itself : (home : HomeData) (o : List ℕ) (rules : List Rule) → GiveLess home o rules rules
less_itself home o rules = record { bits = below_itself (bits_by home o rules) }

linked_less : (home : HomeData) (o : List ℕ) (attr : Attr) (less more : List ResourceData) → Keeps less more → (r : ResourceData) → GiveLess home o (linked_rules attr less r) (linked_rules attr more r)
linked_less home o attr less more keeps r =
    both_chosen (GiveLess home o) (lists_ids Acpi r) _ _ _ _
    (λ t. record { bits = joined_below home o attr less more keeps (ids_at Acpi r) 0 0 (below_itself 0) }) (λ f. less_itself home o (owner_rules r))

above_less : (home : HomeData) (o : List ℕ) (f g : ResourceData → List Rule) (p q : Option ResourceData) → ((r : ResourceData) → p ≡ Some r → q ≡ Some r) → ((r : ResourceData) → GiveLess home o (f r) (g r)) → GiveLess home o (option_map_or f p []) (option_map_or g q [])
above_less home o f g None q kept less = record { bits = zero_below _ }
above_less home o f g (Some r) q kept less = rw (kept r refl) (less r)

pub rules_less : (home : HomeData) (o : List ℕ) (less more : List ResourceData) → Keeps less more → (r : ResourceData) → GiveLess home o (rules_of less r) (rules_of more r)
rules_less home o less more keeps r =
    both_chosen (GiveLess home o) (is_ty r.ty AccessControlPolicy) _ _ _ _ (λ t. less_itself home o (rules_in (value_of Pvs r.attrs)))
    (λ f. both_chosen (GiveLess home o) (is_ty r.ty ContentInstance) _ _ _ _
    (λ t. above_less home o (linked_rules Pv less) (linked_rules Pv more) (at r.parent less) (at r.parent more) (keeps.found r.parent) (linked_less home o Pv less more keeps))
    (λ g. both_chosen (GiveLess home o) (is_ty r.ty PollingChannel) _ _ _ _
    (λ t. above_less home o channel_rules channel_rules (at r.parent less) (at r.parent more) (keeps.found r.parent) (λ p. less_itself home o (channel_rules p)))
    (λ h. linked_less home o Pv less more keeps r)))

pub fan_less : (home : HomeData) (o : List ℕ) (less more : List ResourceData) → Keeps less more → (r : ResourceData) → GiveLess home o (fan_rules less r) (fan_rules more r)
fan_less home o less more keeps r =
    both_chosen (GiveLess home o) (lists_ids Macp r) _ _ _ _
    (λ t. record { bits = joined_below home o Pv less more keeps (ids_at Macp r) 0 0 (below_itself 0) }) (λ f. rules_less home o less more keeps r)

-- who has rights by fewer rules at a number had them
gives_more : (home : HomeData) (o : List ℕ) (wanted : ℕ) (f g : ResourceData → List Rule) (p q : Option ResourceData) → ((r : ResourceData) → p ≡ Some r → q ≡ Some r) → ((r : ResourceData) → GiveLess home o (f r) (g r)) → option_map_or (λ r. do_give home o wanted (f r)) p false ≡ true → option_map_or (λ r. do_give home o wanted (g r)) q false ≡ true
gives_more home o wanted f g None q kept less has = absurd (both_ways _ refl has)
gives_more home o wanted f g (Some r) q kept less has = rw (kept r refl) (has_more _ _ wanted (less r).bits has)

pub grants_before : (home : HomeData) (o : List ℕ) (bit n : ℕ) → IsNeverGained (λ nodes. grants home nodes o bit n)
grants_before home o bit n picks nodes tree has =
    let keeps = keeps_without picks nodes tree in
    gives_more home o bit (rules_of (without picks nodes)) (rules_of nodes) _ _ (keeps.found n) (rules_less home o _ _ keeps) has

pub relinks_before : (home : HomeData) (o : List ℕ) (n : ℕ) → IsNeverGained (λ nodes. relinks home nodes o n)
relinks_before home o n picks nodes tree has =
    let keeps = keeps_without picks nodes tree in
    gives_more home o update_bit (link_rules (without picks nodes)) (link_rules nodes) _ _ (keeps.found n) (linked_less home o Pvs _ _ keeps) has

pub fan_grants_before : (home : HomeData) (o : List ℕ) (bit n : ℕ) → IsNeverGained (λ nodes. fan_grants home nodes o bit n)
fan_grants_before home o bit n picks nodes tree has =
    let keeps = keeps_without picks nodes tree in
    gives_more home o bit (fan_rules (without picks nodes)) (fan_rules nodes) _ _ (keeps.found n) (fan_less home o _ _ keeps) has
