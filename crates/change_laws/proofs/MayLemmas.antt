-- No place refuses what an originator may do.
use Rattle.change_laws.proofs.Words.{◌≡◌, ℕ, List, [], ◌∷◌, true, false, Option, Some, None, unwrap_or, refl, ap, ◌∙◌, list_all, option_map_or}
use Rattle.change_laws.proofs.Terms.{BadChild, NotFound, Op, Create, Update, Delete, Ty, Entry, RequestParts, ResourceData, at, Creating, Updating, EntityData, Check, first_fault, refused, creation_of, admits_members, membership_edited, membership_new, creation_by, creation_places, expires_later, fault_at, fault_on, places, links_live, admits_content, is_content_for, named_by, takes_child, create_effect, delete_effect, effect_at, update_effect}
use Rattle.change_laws.proofs.Facts.{and_parts, and_from, AreAdmitted, members_parts, named_is, new_is, done_at}
use Rattle.m2m_names.specs.Types.{does_take}
use Rattle.request_rules.proofs.EditingLemmas.{content_admits}
use Rattle.change_laws.specs.Served.{MayCreate, MayDelete, MayUpdate}

-- where each place holds, none refuses
none_refuses : (checks : List Check) → list_all (λ (p : Check). p.holds) checks ≡ true → first_fault checks ≡ None
none_refuses [] all = refl
none_refuses (place ∷ rest) all =
    let both = and_parts place.holds (list_all (λ (p : Check). p.holds) rest) all in
    rw both.0 (none_refuses rest both.1)

-- of the resource that a number finds
found_none : (op : Op) (e : EntityData) (o : List ℕ) (request : RequestParts) (n : ℕ) (t : ResourceData) → at n e.nodes ≡ Some t → list_all (λ (p : Check). p.holds) (places op e o request t) ≡ true → fault_at op e o request n ≡ None
found_none op e o request n t there all =
    ap (λ (x : Option ResourceData). option_map_or (fault_on op e o request) x (Some NotFound)) there
    ∙ none_refuses (places op e o request t) all

-- ---- a Create

module _ (e : EntityData) (o : List ℕ) (request : RequestParts) (parent : ResourceData) (ty : Ty) (es : List Entry) (may : MayCreate e o request parent ty es) where
  names : named_by Create request parent ≡ es
  names = named_is request parent ty es may.child may.named

  members : AreAdmitted e (membership_new (creation_of e o ty parent es))
  members = members_parts e (membership_new (creation_of e o ty parent es)) may.members

  new : list_all (λ (p : Check). p.holds) (creation_places Create e o request parent) ≡ true
  new =
      ap (list_all (λ (p : Check). p.holds)) (new_is e o request parent ty es may.child may.named)
      ∙ and_from _ _ members.addresses (and_from _ _ may.unique (and_from _ _ may.room (and_from _ _ members.few (and_from _ _ members.consistent refl))))

  taken : takes_child Create request parent ≡ true
  taken = ap (λ (x : Option Ty). option_map_or (does_take parent.ty) x false) may.child ∙ may.takes

  admitted : admits_content Create request parent ≡ true
  admitted =
      ap (λ (x : Option Ty). option_map_or (is_content_for Creating request) x false) may.child
      ∙ content_admits Creating request ty es may.named ∙ may.admitted

  pub creation_holds : list_all (λ (p : Check). p.holds) (places Create e o request parent) ≡ true
  creation_holds =
      and_from _ _ may.right (and_from _ _ refl (and_from _ _ taken (and_from _ _ admitted
      (and_from _ _ (ap (expires_later e) names ∙ may.later) (and_from _ _ (ap (links_live e) names ∙ may.live) new)))))

pub creation_served : (e : EntityData) (o : List ℕ) (request : RequestParts) (n : ℕ) (parent : ResourceData) (ty : Ty) (es : List Entry) → at n e.nodes ≡ Some parent → MayCreate e o request parent ty es → effect_at Create e o request n ≡ create_effect request (creation_of e o ty parent es)
creation_served e o request n parent ty es there may =
    done_at Create e o request n parent there (found_none Create e o request n parent there (creation_holds e o request parent ty es may))
    ∙ ap (λ (x : Option Ty). option_map_or (λ (kind : Ty). create_effect request (creation_by e o request parent kind)) x (refused e request BadChild)) may.child
    ∙ ap (λ (x : Option (List Entry)). create_effect request (creation_of e o ty parent (unwrap_or x []))) may.named

-- ---- an Update

module _ (e : EntityData) (o : List ℕ) (request : RequestParts) (r : ResourceData) (es : List Entry) (may : MayUpdate e o request r es) where
  update_names : named_by Update request r ≡ es
  update_names = ap (λ (x : Option (List Entry)). unwrap_or x []) may.named

  edited : AreAdmitted e (membership_edited r (named_by Update request r))
  edited = members_parts e (membership_edited r (named_by Update request r)) (ap (λ (es : List Entry). admits_members e (membership_edited r es)) update_names ∙ may.members)

  pub update_holds : list_all (λ (p : Check). p.holds) (places Update e o request r) ≡ true
  update_holds =
      and_from _ _ may.right (and_from _ _ may.kind (and_from _ _ refl (and_from _ _ (content_admits Updating request r.ty es may.named ∙ may.admitted)
      (and_from _ _ (ap (expires_later e) update_names ∙ may.later) (and_from _ _ (ap (links_live e) update_names ∙ may.live)
      (and_from _ _ edited.addresses (and_from _ _ edited.few (and_from _ _ edited.consistent refl))))))))

pub update_served : (e : EntityData) (o : List ℕ) (request : RequestParts) (n : ℕ) (r : ResourceData) (es : List Entry) → at n e.nodes ≡ Some r → MayUpdate e o request r es → effect_at Update e o request n ≡ update_effect e request es r
update_served e o request n r es there may =
    done_at Update e o request n r there (found_none Update e o request n r there (update_holds e o request r es may))
    ∙ ap (λ (x : Option (List Entry)). update_effect e request (unwrap_or x []) r) may.named

-- ---- a Delete

pub deletion_served : (e : EntityData) (o : List ℕ) (request : RequestParts) (n : ℕ) (r : ResourceData) → at n e.nodes ≡ Some r → MayDelete e o request r → effect_at Delete e o request n ≡ delete_effect e request r
deletion_served e o request n r there may =
    done_at Delete e o request n r there (found_none Delete e o request n r there
    (and_from _ _ may.right (and_from _ _ may.kind (and_from _ _ refl (and_from _ _ refl holds)))))
  where
    holds : list_all (λ (p : Check). p.holds) [] ≡ true
    holds = refl
