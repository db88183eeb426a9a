-- What comes of a Create or an Update to two sound entities of which its originator sees the same is
-- seen alike; and an Update that names policies or rules leaves them of one shape.
use Rattle.machine_laws.proofs.Words.{◌≡◌, ℕ, List, true, false, Option, Some, None, refl, sym, ap, subst, ◌∙◌}
use Rattle.machine_laws.proofs.Terms.{is_originator, Op, Create, Update, RequestParts, HomeData, ResourceData, at, EntityData, told_effect_on, effect_of, sent_to, found_effect, operation_effect, resource_effect, claimed_originator}
use Rattle.machine_laws.proofs.Facts.{at_number, AreLeftAlike, AreSeenAlike, FoundAlike, found_alike, found_both, not_found}
use Rattle.group_fanout.specs.Operations.{change_effect}
use Rattle.sight_laws.specs.Laws.{changes_rules}
use Rattle.sight_laws.proofs.CreatedLemmas.{created-alike}
use Rattle.sight_laws.proofs.ShapeUpdateLemmas.{FoundBoth, each_found, found_shaped, neither_found, spots_shaped, updated-shaped}
use Rattle.sight_laws.proofs.UpdateAlikeLemmas.{updated-alike}
use Rattle.machine_laws.specs.Sight.{is_poll, shape, sight}
use Rattle.machine_laws.proofs.AddressAlikeLemmas.{AreAnsweredSo, carried_by_sight, effect_so}
use Rattle.machine_laws.proofs.RouteSightLemmas.{AreOrdered}
use Rattle.machine_laws.proofs.ShapeLemmas.{one_shape}
use Rattle.guard_laws.proofs.MemberLemmas.{IsSoundAt, MaySend, member_sound}

-- two entities of which the originator sees the same, and two of one shape
abbrev pub SameSight : List ℕ → EntityData → EntityData → Type 0
SameSight o a b = sight o a ≡ sight o b

abbrev pub SameShape : List ℕ → EntityData → EntityData → Type 0
SameShape o a b = shape o a ≡ shape o b

found_by_sight : (o : List ℕ) (one other : EntityData) → sight o one ≡ sight o other → (n : ℕ) → FoundBoth one other n
found_by_sight o one other same n = by (found_alike o one other same n)
  where
    by : FoundAlike o one other same n → FoundBoth one other n
    by (not_found none lacks) = neither_found none lacks
    by (found_both p q inp inq) = each_found p q inp inq

-- where the operation on a resource of both is answered alike, and leaves what holds of both
module _ (home : HomeData) (o : List ℕ) (request : RequestParts) (op : Op) (is : request.op ≡ op) (Rel : EntityData → EntityData → Type 0) (found : (one other : EntityData) → Rel one other → (n : ℕ) → FoundBoth one other n) (on : (one other : EntityData) (address : List ℕ) (p q : ResourceData) → IsSoundAt home one → IsSoundAt home other → Rel one other → at p.number one.nodes ≡ Some p → at q.number other.nodes ≡ Some q → q.number ≡ p.number → AreLeftAlike Rel (operation_effect op one (sent_to request address) p) (operation_effect op other (sent_to request address) q)) where
  found_of : (one other : EntityData) (address : List ℕ) (p q : Option ResourceData) → AreLeftAlike Rel (found_effect op one (sent_to request address) p) (found_effect op other (sent_to request address) q) → AreLeftAlike Rel (resource_effect one (sent_to request address) p) (resource_effect other (sent_to request address) q)
  found_of one other address p q alike =
      subst (λ (x : Op). AreLeftAlike Rel (found_effect x one (sent_to request address) p) (found_effect x other (sent_to request address) q)) (sym is) alike

  pub resources : (one other : EntityData) (address : List ℕ) (n : ℕ) → IsSoundAt home one → IsSoundAt home other → Rel one other → AreLeftAlike Rel (resource_effect one (sent_to request address) (at n one.nodes)) (resource_effect other (sent_to request address) (at n other.nodes))
  resources one other address n here there rel = by_found (found one other rel n)
    where
      by_found : FoundBoth one other n → AreLeftAlike Rel (resource_effect one (sent_to request address) (at n one.nodes)) (resource_effect other (sent_to request address) (at n other.nodes))
      by_found (neither_found none lacks) =
          found_of one other address (at n one.nodes) (at n other.nodes)
          (subst (λ (p : Option ResourceData). AreLeftAlike Rel (found_effect op one (sent_to request address) p) (found_effect op other (sent_to request address) (at n other.nodes))) (sym none)
          (subst (λ (q : Option ResourceData). AreLeftAlike Rel (found_effect op one (sent_to request address) None) (found_effect op other (sent_to request address) q)) (sym lacks)
          (record { reply = refl; after = rel })))
      by_found (each_found p q inp inq) =
          let np = at_number n one.nodes p inp in
          let nq = at_number n other.nodes q inq in
          found_of one other address (at n one.nodes) (at n other.nodes)
          (subst (λ (x : Option ResourceData). AreLeftAlike Rel (found_effect op one (sent_to request address) x) (found_effect op other (sent_to request address) (at n other.nodes))) (sym inp)
          (subst (λ (x : Option ResourceData). AreLeftAlike Rel (found_effect op one (sent_to request address) (Some p)) (found_effect op other (sent_to request address) x)) (sym inq)
          (on one other address p q here there rel (ap (λ (m : ℕ). at m one.nodes) np ∙ inp) (ap (λ (m : ℕ). at m other.nodes) nq ∙ inq) (nq ∙ sym np))))

module _ (home : HomeData) (o : List ℕ) (request : RequestParts) (claims : claimed_originator home request ≡ o) (may : MaySend home request) where
  asked : is_originator o ≡ true
  asked = ap is_originator (sym claims) ∙ may.originator

  claimed : (e : EntityData) → IsSoundAt home e → claimed_originator e.home request ≡ o
  claimed e at_home = ap (λ (h : HomeData). claimed_originator h request) at_home.home_is ∙ claims

  -- an operation that changes something, on a resource of both
  changed : (Rel : EntityData → EntityData → Type 0) (op : Op) (one other : EntityData) (address : List ℕ) (p q : ResourceData) → IsSoundAt home one → IsSoundAt home other → AreLeftAlike Rel (told_effect_on op one o (sent_to request address) p) (told_effect_on op other o (sent_to request address) q) → AreLeftAlike Rel (change_effect op one (sent_to request address) p) (change_effect op other (sent_to request address) q)
  unfolding change_effect
  changed Rel op one other address p q here there alike =
      let r = sent_to request address in
      subst (λ (t : List ℕ). AreLeftAlike Rel (told_effect_on op one t r p) (told_effect_on op other (claimed_originator other.home r) r q)) (sym (claimed one here))
      (subst (λ (t : List ℕ). AreLeftAlike Rel (told_effect_on op one o r p) (told_effect_on op other t r q)) (sym (claimed other there)) alike)

  created_on : (one other : EntityData) (address : List ℕ) (p q : ResourceData) → IsSoundAt home one → IsSoundAt home other → sight o one ≡ sight o other → at p.number one.nodes ≡ Some p → at q.number other.nodes ≡ Some q → q.number ≡ p.number → AreSeenAlike o (operation_effect Create one (sent_to request address) p) (operation_effect Create other (sent_to request address) q)
  created_on one other address p q here there same inp inq number =
      changed (SameSight o) Create one other address p q here there
      (created-alike o one other here.sound there.sound same (sent_to request address) p q inp inq number asked)

  updated_on : changes_rules request ≡ false → (one other : EntityData) (address : List ℕ) (p q : ResourceData) → IsSoundAt home one → IsSoundAt home other → sight o one ≡ sight o other → at p.number one.nodes ≡ Some p → at q.number other.nodes ≡ Some q → q.number ≡ p.number → AreSeenAlike o (operation_effect Update one (sent_to request address) p) (operation_effect Update other (sent_to request address) q)
  updated_on calm one other address p q here there same inp inq number =
      changed (SameSight o) Update one other address p q here there
      (updated-alike o one other here.sound there.sound same (sent_to request address) p q inp inq number calm)

  shaped_on : changes_rules request ≡ true → (one other : EntityData) (address : List ℕ) (p q : ResourceData) → IsSoundAt home one → IsSoundAt home other → shape o one ≡ shape o other → at p.number one.nodes ≡ Some p → at q.number other.nodes ≡ Some q → q.number ≡ p.number → AreLeftAlike (SameShape o) (operation_effect Update one (sent_to request address) p) (operation_effect Update other (sent_to request address) q)
  shaped_on rules one other address p q here there same inp inq number =
      changed (SameShape o) Update one other address p q here there
      (updated-shaped o one other here.sound there.sound same (sent_to request address) rules p q inp inq number)

  -- what is seen alike
  by_sight : (op : Op) → request.op ≡ op → ((one other : EntityData) (address : List ℕ) (p q : ResourceData) → IsSoundAt home one → IsSoundAt home other → sight o one ≡ sight o other → at p.number one.nodes ≡ Some p → at q.number other.nodes ≡ Some q → q.number ≡ p.number → AreSeenAlike o (operation_effect op one (sent_to request address) p) (operation_effect op other (sent_to request address) q)) → (one other : EntityData) → IsSoundAt home one → IsSoundAt home other → sight o one ≡ sight o other → AreOrdered one.nodes → AreOrdered other.nodes → AreAnsweredSo (SameSight o) (is_poll one request) (effect_of one request) (effect_of other request)
  by_sight op is on =
      effect_so o request (IsSoundAt home) (SameSight o)
      (carried_by_sight o request (IsSoundAt home) claimed (λ e at_home. at_home.sound.tree) (resources home o request op is (SameSight o) (found_by_sight o) on) (member_sound home request may))

  pub create_so : request.op ≡ Create → (one other : EntityData) → IsSoundAt home one → IsSoundAt home other → sight o one ≡ sight o other → AreOrdered one.nodes → AreOrdered other.nodes → AreAnsweredSo (SameSight o) (is_poll one request) (effect_of one request) (effect_of other request)
  create_so op = by_sight Create op created_on

  pub update_so : request.op ≡ Update → changes_rules request ≡ false → (one other : EntityData) → IsSoundAt home one → IsSoundAt home other → sight o one ≡ sight o other → AreOrdered one.nodes → AreOrdered other.nodes → AreAnsweredSo (SameSight o) (is_poll one request) (effect_of one request) (effect_of other request)
  update_so op calm = by_sight Update op (updated_on calm)

  -- and what has one shape
  pub rules_so : request.op ≡ Update → changes_rules request ≡ true → (one other : EntityData) → IsSoundAt home one → IsSoundAt home other → sight o one ≡ sight o other → AreOrdered one.nodes → AreOrdered other.nodes → AreAnsweredSo (SameShape o) (is_poll one request) (effect_of one request) (effect_of other request)
  rules_so op rules =
      effect_so o request (IsSoundAt home) (SameShape o) (record {
        by = claimed;
        well = λ e at_home. at_home.sound.tree;
        stays = member_sound home request may;
        from = λ one other here there same. one_shape one other o here.sound there.sound same;
        homes = λ one other same. ap (λ (e : EntityData). e.home) same;
        spots = λ one other same segments. spots_shaped o one other same segments;
        items = λ one other same first second. same;
        resources = resources home o request Update op (SameShape o) (found_shaped o) (shaped_on rules);
      })
