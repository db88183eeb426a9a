-- CSE-IDs in a set, and what is noted of containers.
use Rattle.std.specs.Prelude.{nat_eq, Result, Ok, Err, IfOk, IfSome}
use Rattle.std.proofs.Common.{◌≡◌, ℕ, List, [], ◌∷◌, ◌++◌, Bool, true, false, cond, ◌||◌, Option, Some, None, filter, inl, inr, refl, sym, ap, ◌∙◌, subst}
use Rattle.std.proofs.lemmas.Bool.{cases_Bool, eqb-true}
use Rattle.std.proofs.lemmas.Map.Text.{is_eq-slice_cmp}
use Rattle.std.proofs.lemmas.Option.{same_Some}
use Rattle.std.proofs.lemmas.Slice.Eq.{bytes_eq-Decides}
use Rattle.std.specs.BTreeSet as sorted
use Rattle.std.specs.BTreeSet.{BTreeSet}
use Rattle.std.specs.Cmp.{eq_by_cmp_equiv}
use Rattle.std.specs.Cmp.Lexicographic.{slice_cmp, nat_list_cmp_total, nat_list_eq_equiv}
use Rattle.std.specs.List.{AllByRecursion, list_any}
use Rattle.std.specs.Map.{IsKeyTest, AreApart}
use Rattle.std.specs.Ordering.{is_eq, nat_cmp}
use Rattle.std.specs.Set.{KeepsOthers}
use Rattle.std.specs.Str.{IsUtf8, bytes_eq}
use Rattle.std.specs.declared.vec.Vec.{Vec}
use Rattle.m2m_names.specs.declared.attributes.Attr.TheVariants.{At}
use Rattle.m2m_names.specs.declared.types.Ty.TheVariants.{ContentInstance}
use Rattle.m2m_value.specs.Data.{Data}
use Rattle.policy_eval.specs.Rules.{listed_in, texts_of}
use Rattle.resource_model.specs.Attributes.{value_of}
use Rattle.resource_model.specs.Resource.{ResourceData, is_ty}
use Rattle.subscription_match.proofs.SpendingLemmas.{same_number}
use Rattle.announce_copy.specs.Copies.{others_than}
use Rattle.announce_copy.specs.Peers.{AreNoted, AreTexts, each_once, has_text, is_one_of, listed_peers, noted_at, peers_at, peers_of}

-- ---- lists

-- all are others than none
pub others_than_none : (peers : List (List ℕ)) → others_than [] peers ≡ peers
others_than_none [] = refl
others_than_none (peer ∷ peers) = ap (λ (ps : List (List ℕ)). peer ∷ ps) (others_than_none peers)

pub any_last : (text key : List ℕ) (texts : List (List ℕ)) → is_one_of (texts ++ key ∷ []) text ≡ (bytes_eq text key || is_one_of texts text)
any_last text key [] = or_false (bytes_eq text key)
  where
    or_false : (b : Bool) → (b || false) ≡ (b || false)
    or_false b = refl
any_last text key (t ∷ texts) = ap (λ b. bytes_eq text t || b) (any_last text key texts) ∙ or_swapped (bytes_eq text t) (bytes_eq text key) (is_one_of texts text)
  where
    or_swapped : (a b c : Bool) → (a || (b || c)) ≡ (b || (a || c))
    or_swapped true true c = refl
    or_swapped true false c = refl
    or_swapped false b c = refl

-- ---- one more in a set

apart_in_order : (bs cs ks : List ℕ) → bytes_eq bs cs ≡ false → is_eq (slice_cmp nat_cmp bs ks) ≡ true → is_eq (slice_cmp nat_cmp cs ks) ≡ false
apart_in_order bs cs ks n y =
    is_eq-slice_cmp cs ks ∙ nat_list_eq_equiv.symm cs ks ∙ sym (nat_list_eq_equiv.congr bs ks cs (sym (is_eq-slice_cmp bs ks) ∙ y)) ∙ n

other_keys : {K : Type 0} (eq : K → K → Bool) (test : K → Bool) (old new : List K) → KeepsOthers eq test old new → (other : K → Bool) → IsKeyTest eq other → AreApart test other → list_any other new ≡ list_any other old
unfolding KeepsOthers
other_keys eq test old new h = h

all_last : (texts : List (List ℕ)) (key : List ℕ) → AllByRecursion IsUtf8 texts → IsUtf8 key → AllByRecursion IsUtf8 (texts ++ key ∷ [])
all_last [] key all one = (one, tt)
all_last (t ∷ texts) key all one = (all.0, all_last texts key all.1 one)

module _ {Z : Type 0} where
  text_added : (key : Vec ℕ Z) (old new : BTreeSet (Vec ℕ Z)) → sorted.Updates (λ x y. slice_cmp nat_cmp x.items y.items) old new key true → (text : List ℕ) → has_text new text ≡ (bytes_eq text key.items || has_text old text)
  text_added key old new h text = elim (cases_Bool (bytes_eq text key.items)) [
    | inl t ↦ rw t (subst (λ ds. has_text new ds ≡ true) (sym ((bytes_eq-Decides text key.items).0 t)) h.1)
    | inr f ↦
        let apart : bytes_eq key.items text ≡ false = nat_list_eq_equiv.symm key.items text ∙ f in
        rw f (other_keys _ _ _ _ h.3 _ (λ x y. (eq_by_cmp_equiv nat_list_cmp_total).congr text x.items y.items) (λ k. apart_in_order key.items text k.items apart))
  ]

  -- one more is in the set, and last in the list
  pub one_more : (texts more : List (List ℕ)) (key : Vec ℕ Z) (text : List ℕ) (old new : BTreeSet (Vec ℕ Z)) → AreTexts texts old → more ≡ texts ++ text ∷ [] → key.items ≡ text → IsUtf8 text → sorted.Updates (λ x y. slice_cmp nat_cmp x.items y.items) old new key true → AreTexts more new
  one_more texts more key text old new are is same utf8 h = record {
    same = λ other.
        text_added key old new h other
        ∙ ap (λ (ds : List ℕ). bytes_eq other ds || has_text old other) same
        ∙ ap (λ b. bytes_eq other text || b) (are.same other)
        ∙ sym (any_last other text texts)
        ∙ ap (λ (ts : List (List ℕ)). is_one_of ts other) (sym is);
    utf8 = subst (AllByRecursion IsUtf8) (sym is) (all_last texts text are.utf8 utf8);
  }

-- ---- what is noted

-- nothing yet
pub none_noted : (nodes : List ResourceData) (rows : List (ℕ × List (List ℕ))) → rows ≡ [] → AreNoted nodes rows
none_noted nodes rows is = record {
  says = λ n peers found. let none : None ≡ Some peers = sym (ap (λ (rs : List (ℕ × List (List ℕ))). noted_at rs n) is) ∙ found in cc;
}

-- one more
pub one_noted : (nodes : List ResourceData) (old new : List (ℕ × List (List ℕ))) (container : ℕ) (peers : List (List ℕ)) → AreNoted nodes old → peers ≡ peers_at container nodes → ((q : ℕ) → noted_at new q ≡ cond (is_eq (nat_cmp container q)) (Some peers) (noted_at old q)) → AreNoted nodes new
one_noted nodes old new container peers so is updates = record { says = by }
  where
    by : (n : ℕ) (found : List (List ℕ)) → noted_at new n ≡ Some found → found ≡ peers_at n nodes
    by n found there = elim (cases_Bool (nat_eq container n)) [
      | inl t ↦
          let at_it : noted_at new n ≡ Some peers = updates n ∙ rw (same_number container n ∙ t) refl in
          let same : peers ≡ found = same_Some peers found (sym at_it ∙ there) in
          sym same ∙ is ∙ ap (λ (m : ℕ). peers_at m nodes) (eqb-true container n t)
      | inr f ↦
          let before : noted_at new n ≡ noted_at old n = updates n ∙ rw (same_number container n ∙ f) refl in
          so.says n found (sym before ∙ there)
    ]

-- ---- an instance

-- it is announced to those that its container admits, as is noted
pub admitted_peers : {E : Type 0} (nodes : List ResourceData) (r : ResourceData) (container : ℕ) (values : List Data) (found : Option (List (List ℕ))) (result : Result (List (List ℕ)) E) → is_ty r.ty ContentInstance ≡ true → container ≡ r.parent → values ≡ listed_in (value_of At r.attrs) → found ≡ Some (peers_at container nodes) → IfSome found (λ listed. IfOk result (λ p. p ≡ each_once (filter (is_one_of listed) (texts_of values)))) → IfOk result (λ p. p ≡ peers_of nodes r)
admitted_peers nodes r container values found (Ok p) instance above listed is h =
    let now : p ≡ each_once (filter (is_one_of (peers_at container nodes)) (texts_of values)) = rw is at h in
    now
    ∙ ap (λ (n : ℕ). each_once (filter (is_one_of (peers_at n nodes)) (texts_of values))) above
    ∙ ap (λ (ds : List Data). each_once (filter (is_one_of (peers_at r.parent nodes)) (texts_of ds))) listed
    ∙ sym (by_type instance)
  where
    by_type : is_ty r.ty ContentInstance ≡ true → peers_of nodes r ≡ each_once (filter (is_one_of (peers_at r.parent nodes)) (listed_peers r))
    by_type t = rw t refl
admitted_peers nodes r container values found (Err e) instance above listed is h = tt
