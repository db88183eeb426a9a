-- Copies follow an operation.
use Rattle.std.specs.Prelude.{if◌then◌else◌, option_map, unwrap_or, ◌⊎◌, ◌==◌}
use Rattle.std.proofs.Common.{◌≡◌, ℕ, List, [], ◌∷◌, ◌++◌, map, Bool, true, false, not, ◌&&◌, ◌||◌, bytes_eq, Option, Some, None, is_some, inl, inr, refl, sym, ap, ◌∙◌, subst}
use Rattle.std.proofs.lemmas.Bool.{and_from, and_parts, cases_Bool, eq-eqb, eqb-true, false_from_ne_true, or_cases, or_left, or_right}
use Rattle.std.proofs.lemmas.List.{append-nil}
use Rattle.std.proofs.lemmas.List.Concat.{flat_map-append}
use Rattle.std.proofs.lemmas.Option.{same_Some}
use Rattle.std.specs.List.{AllByRecursion, list_any}
use Rattle.std.specs.Option.{option_map_or}
use Rattle.attribute_kinds.specs.Kinds.{is_cse_id}
use Rattle.m2m_names.specs.declared.attributes.Attr.{Attr}
use Rattle.m2m_names.specs.declared.attributes.Attr.TheVariants.{Mid}
use Rattle.m2m_names.specs.declared.types.Ty.{Ty}
use Rattle.m2m_names.specs.declared.types.Ty.TheVariants.{Container, ContentInstance}
use Rattle.m2m_value.specs.Data.{Data}
use Rattle.resource_model.specs.Attributes.{is_attr}
use Rattle.resource_model.specs.Home.{HomeData}
use Rattle.resource_model.specs.Resource.{ResourceData, has_number, is_ty}
use Rattle.tree_model.proofs.TreeLemmas.{at_has, at_none, at_number, has_from_at}
use Rattle.tree_model.specs.Changes.{created, deleted, updated}
use Rattle.tree_model.specs.Tree.{at, has}
use Rattle.announce_copy.specs.Announced.{copy_of, does_renew, renewal_of}
use Rattle.announce_copy.specs.Copies.{CopyDraft, copies_of, copies_of_all, copy_address, copy_path, creation_at, deletion_at, parent_address, renewal_at}
use Rattle.announce_copy.specs.Peers.{is_one_of, listed_peers}
use Rattle.copy_laws.specs.Following.{DoFollow, DoStand, DoesLead, IsAlike, IsChanged, IsGone, IsKept, IsMade, IsOperation, IsRun, StaysAlike, Operation, sent_along, stood_along, Lead, changed, changes_of, does_lead, lead_changes, made, no_instance, nothing, value_in_copy}
use Rattle.copy_laws.specs.Replica.{Kept, effect, effects, is_within, replica, those_to, value_given, value_left, with_entry}
use Rattle.copy_laws.specs.Standing.{Instances, does_stand, has_copy, is_announced_to, is_parent_announced_to, is_sent, stood_after}
use Rattle.copy_laws.proofs.AddressLemmas.{IsInstanceOf, instance_within, own_within, same_address, within_address}
use Rattle.copy_laws.proofs.ContentLemmas.{created_gives, created_there, renewal_leaves}
use Rattle.copy_laws.proofs.DraftLemmas.{effects-append, effects_where, gone_leaves, is_removed, sent_by_update, sent_of_created, sent_of_updated, those-append, where_so}
use Rattle.copy_laws.proofs.TextLemmas.{not_both, other_text, same_text, text_itself}

-- ---- resources

-- one number is that of one resource
one_at : (n : ℕ) (nodes : List ResourceData) (r s : ResourceData) → at n nodes ≡ Some r → at n nodes ≡ Some s → r ≡ s
one_at n nodes r s is same = same_Some r s (sym is ∙ same)

none_at : (n : ℕ) (nodes : List ResourceData) (r : ResourceData) → at n nodes ≡ None → at n nodes ≡ Some r → ⊥
none_at n nodes r none is = (let bad : None ≡ Some r = sym none ∙ is in cc)

-- one of a number stands at it
own_at : (n m : ℕ) (nodes : List ResourceData) (r : ResourceData) → n ≡ m → at n nodes ≡ Some r → at m nodes ≡ Some r
own_at n m nodes r is found = ap (λ (k : ℕ). at k nodes) (sym is) ∙ found

module _ (home : HomeData) (peer : List ℕ) where
  abbrev address_of : ResourceData → List ℕ
  address_of r = copy_address home peer r

  same_place : (r s : ResourceData) → r.ty ≡ s.ty → r.number ≡ s.number → r.parent ≡ s.parent → address_of r ≡ address_of s
  same_place r s ty number parent =
      ap (λ (t : Ty). address_of (record r { ty = t })) ty
      ∙ ap (λ (n : ℕ). address_of (record r { ty = s.ty; number = n })) number
      ∙ ap (λ (p : ℕ). address_of (record r { ty = s.ty; number = s.number; parent = p })) parent

  alike_place : (r s : ResourceData) → IsAlike home r s → address_of r ≡ address_of s
  alike_place r s alike = same_place r s alike.ty alike.number alike.parent

  alike_announced : (r s : ResourceData) → IsAlike home r s → is_announced_to peer r ≡ is_announced_to peer s
  alike_announced r s alike = ap (λ (peers : List (List ℕ)). is_one_of peers peer) alike.peers

  alike_type : (r s : ResourceData) → IsAlike home r s → is_ty r.ty ContentInstance ≡ is_ty s.ty ContentInstance
  alike_type r s alike = ap (λ (t : Ty). is_ty t ContentInstance) alike.ty

  -- what isn't an instance is told where it is announced, and has its copy there
  plain_sent : (nodes : List ResourceData) (r : ResourceData) → is_ty r.ty ContentInstance ≡ false → is_sent peer nodes r ≡ is_announced_to peer r
  plain_sent nodes r f = rw f (with_true (is_announced_to peer r))
    where
      with_true : (b : Bool) → (b && true) ≡ b
      with_true true = refl
      with_true false = refl

  plain_copy : (stood : Instances) (r : ResourceData) → is_ty r.ty ContentInstance ≡ false → has_copy peer stood r ≡ is_announced_to peer r
  plain_copy stood r f = rw f (with_true (is_announced_to peer r))
    where
      with_true : (b : Bool) → (b && true) ≡ b
      with_true true = refl
      with_true false = refl

  copy_announced : (stood : Instances) (r : ResourceData) → has_copy peer stood r ≡ true → is_announced_to peer r ≡ true
  copy_announced stood r has = (and_parts (is_announced_to peer r) _ has).0

  copy_stood : (stood : Instances) (r : ResourceData) → is_ty r.ty ContentInstance ≡ true → has_copy peer stood r ≡ true → stood r.number ≡ true
  copy_stood stood r t has =
      let second : (not (is_ty r.ty ContentInstance) || stood r.number) ≡ true = (and_parts (is_announced_to peer r) _ has).1 in
      rw t at second

  copy_from : (stood : Instances) (r : ResourceData) → is_announced_to peer r ≡ true → (is_ty r.ty ContentInstance ≡ true → stood r.number ≡ true) → has_copy peer stood r ≡ true
  copy_from stood r announced stands = elim (cases_Bool (is_ty r.ty ContentInstance)) [
    | inl t ↦ rw (announced, t, stands t) refl
    | inr f ↦ rw (announced, f) refl
  ]

  sent_from : (nodes : List ResourceData) (r : ResourceData) → is_announced_to peer r ≡ true → (is_ty r.ty ContentInstance ≡ true → is_parent_announced_to peer nodes r ≡ true) → is_sent peer nodes r ≡ true
  sent_from nodes r announced stands = elim (cases_Bool (is_ty r.ty ContentInstance)) [
    | inl t ↦ rw (announced, t, stands t) refl
    | inr f ↦ rw (announced, f) refl
  ]

  -- ---- what the first change leaves

  abbrev after_create : ResourceData → List ℕ → Attr → Kept → Kept
  after_create t address attr kept =
      if bytes_eq address (address_of t) then Some (unwrap_or kept (value_in_copy home t attr)) else kept

  abbrev after_renewal : ResourceData → List ℕ → Attr → Kept → Kept
  after_renewal t address attr kept =
      if bytes_eq address (address_of t) then option_map (value_left attr (Some (renewal_of t))) kept else kept

  abbrev after_removal : ResourceData → List ℕ → Kept → Kept
  after_removal t address kept = if is_within (address_of t) address then None else kept

  module _ (before : List ResourceData) where
    abbrev after_update : ResourceData → ResourceData → List Attr → List ℕ → Attr → Kept → Kept
    after_update r t named address attr kept =
        if is_sent peer before r
        then (if is_sent peer before t
        then (if does_renew named t then after_renewal t address attr kept else kept)
        else after_removal t address kept)
        else (if is_sent peer before t then after_create t address attr kept else kept)

    abbrev lead_effect : Lead → List ℕ → Attr → Kept → Kept
    lead_effect nothing address attr kept = kept
    lead_effect (made t) address attr kept =
        if is_sent peer before t then after_create t address attr kept else kept
    lead_effect (changed r t named) address attr kept = after_update r t named address attr kept

    creates : (t : ResourceData) → IsKept t → (address : List ℕ) (attr : Attr) (kept : Kept) → effect (creation_at home t peer) address attr kept ≡ after_create t address attr kept
    creates t is address attr kept =
        ap (λ (place : List ℕ). if bytes_eq address place then with_entry attr (Some (copy_of home t)) kept else kept) (created_there home peer t is)
        ∙ ap (λ (v : Option Data). if bytes_eq address (address_of t) then Some (unwrap_or kept v) else kept) (created_gives home t is attr)

    made_leaves : (t : ResourceData) → IsKept t → (address : List ℕ) (attr : Attr) (kept : Kept) → effects (those_to peer (copies_of_all home before (lead_changes (made t)))) address attr kept ≡ lead_effect (made t) address attr kept
    made_leaves t is address attr kept =
        ap (λ (ds : List CopyDraft). effects (those_to peer ds) address attr kept) (append-nil (copies_of home before (created t)))
        ∙ ap (λ (ds : List CopyDraft). effects ds address attr kept) (sent_of_created home peer before t is)
        ∙ effects_where (is_sent peer before t) (creation_at home t peer) address attr kept
        ∙ ap (λ (k : Kept). if is_sent peer before t then k else kept) (creates t is address attr kept)

    changed_leaves : (r t : ResourceData) (named : List Attr) → IsKept r → IsKept t → (address : List ℕ) (attr : Attr) (kept : Kept) → effects (those_to peer (copies_of_all home before (lead_changes (changed r t named)))) address attr kept ≡ lead_effect (changed r t named) address attr kept
    changed_leaves r t named kr kt address attr kept =
        ap (λ (ds : List CopyDraft). effects (those_to peer ds) address attr kept) (append-nil (copies_of home before (updated r t named)))
        ∙ ap (λ (ds : List CopyDraft). effects ds address attr kept) (sent_of_updated home peer before r t named kr kt)
        ∙ last
      where
        last : effects (sent_by_update home peer before r t named) address attr kept ≡ after_update r t named address attr kept
        last = elim (cases_Bool (is_sent peer before r)) [
          | inl a ↦ elim (cases_Bool (is_sent peer before t)) [
            | inl b ↦ rw (a, b) (effects_where (does_renew named t) (renewal_at (copy_path home t) t peer) address attr kept)
            | inr c ↦ rw (a, c) refl
          ]
          | inr d ↦ rw d (effects_where (is_sent peer before t) (creation_at home t peer) address attr kept ∙ ap (λ (k : Kept). if is_sent peer before t then k else kept) (creates t kt address attr kept))
        ]

    lead_leaves : (after : List ResourceData) (lead : Lead) → DoesLead home before after lead → ((r : ResourceData) → at r.number before ≡ Some r → IsKept r) → (address : List ℕ) (attr : Attr) (kept : Kept) → effects (those_to peer (copies_of_all home before (lead_changes lead))) address attr kept ≡ lead_effect lead address attr kept
    lead_leaves after nothing leads keeps address attr kept = refl
    lead_leaves after (made t) leads keeps address attr kept = made_leaves t leads.kept address attr kept
    lead_leaves after (changed r t named) leads keeps address attr kept = changed_leaves r t named (keeps r leads.there) leads.kept address attr kept

-- ---- an operation

either_kept : (b : Bool) (kept : Kept) → (if b then kept else kept) ≡ kept
either_kept true kept = refl
either_kept false kept = refl

is_none : (kept : Kept) → (is_some kept ≡ true → ⊥) → kept ≡ None
is_none None not_there = refl
is_none (Some v) not_there = absurd (not_there refl)

some_still : (f : Option Data → Option Data) (kept : Kept) → is_some kept ≡ true → is_some (option_map f kept) ≡ true
some_still f None some = some
some_still f (Some v) some = refl

module _ (home : HomeData) (peer : List ℕ) (before after gone : List ResourceData) (lead : Lead) (stood : Instances) (keeps : List ℕ → Attr → Kept) (op : IsOperation home before lead gone after) (stands : DoStand peer before stood) (old : DoFollow home peer stood before keeps) where
  abbrev place : ResourceData → List ℕ
  place r = copy_address home peer r

  abbrev next : Instances
  next = stood_after peer stood before after

  abbrev is_taken_at : List ℕ → List ResourceData → Bool
  is_taken_at address rs = is_removed home peer before address rs

  abbrev led : Lead → List ℕ → Attr → Kept → Kept
  led l address attr kept = lead_effect home peer before l address attr kept

  abbrev left : List ℕ → Attr → Kept
  left address attr = effects (those_to peer (copies_of_all home before (changes_of lead gone))) address attr (keeps address attr)

  removed_kept : (rs : List ResourceData) → AllByRecursion (IsGone before after) rs → AllByRecursion IsKept rs
  removed_kept [] all = tt
  removed_kept (r ∷ rs) all = (op.kept r all.0.there, removed_kept rs all.1)

  -- what the operation leaves at an address: nothing, where something is removed there, and else
  -- what its first change leaves
  leaves : (address : List ℕ) (attr : Attr) → left address attr ≡ (if is_taken_at address gone then None else led lead address attr (keeps address attr))
  leaves address attr =
      let first = copies_of_all home before (lead_changes lead) in
      let rest = copies_of_all home before (map deleted gone) in
      let kept = keeps address attr in
      ap (λ (ds : List CopyDraft). effects (those_to peer ds) address attr kept) (flat_map-append (copies_of home before) (lead_changes lead) (map deleted gone))
      ∙ ap (λ (ds : List CopyDraft). effects ds address attr kept) (those-append peer first rest)
      ∙ effects-append (those_to peer first) (those_to peer rest) address attr kept
      ∙ ap (effects (those_to peer rest) address attr) (lead_leaves home peer before after lead op.leads op.kept address attr kept)
      ∙ gone_leaves home peer before gone (removed_kept gone op.removes) address attr (led lead address attr kept)

  -- nothing is removed at what stays
  stays_at : (s : ResourceData) → at s.number after ≡ Some s → (rs : List ResourceData) → AllByRecursion (IsGone before after) rs → is_taken_at (place s) rs ≡ false
  stays_at s found [] all = refl
  stays_at s found (r ∷ rs) all = elim (cases_Bool (is_sent peer before r)) [
    | inl t ↦ elim (cases_Bool (is_within (place r) (place s))) [
      | inl within ↦ absurd (elim (within_address home peer r s (op.kept r all.0.there) (op.left s found) within) [
        | inl number ↦ none_at s.number after s (ap (λ (n : ℕ). at n after) (sym number) ∙ all.0.gone) found
        | inr below ↦ all.0.below s found below.parent
      ])
      | inr apart ↦ rw (t, apart) (stays_at s found rs all.1)
    ]
    | inr f ↦ rw f (stays_at s found rs all.1)
  ]

  -- something is at what goes, and below it
  taken_at : (r : ResourceData) → at r.number before ≡ Some r → is_sent peer before r ≡ true → (address : List ℕ) → is_within (place r) address ≡ true → (rs : List ResourceData) → AllByRecursion (IsGone before after) rs → list_any (has_number r.number) rs ≡ true → is_taken_at address rs ≡ true
  taken_at r found sent address within [] all named = (let bad : false ≡ true = named in cc)
  taken_at r found sent address within (g ∷ rs) all named = elim (or_cases (has_number r.number g) (list_any (has_number r.number) rs) named) [
    | inl own ↦
        let number : g.number ≡ r.number = eqb-true g.number r.number own in
        let same : g ≡ r = one_at r.number before g r (own_at g.number r.number before g number all.0.there) found in
        or_left _ _ (ap (λ (x : ResourceData). is_sent peer before x && is_within (place x) address) same ∙ and_from _ _ sent within)
    | inr later ↦ or_right _ _ (taken_at r found sent address within rs all.1 later)
  ]

  -- ---- what stands now

  -- an instance that has a copy: its container is announced, and it is new or stood before
  record StandsNow (s : ResourceData) : Type 0 where
    parent : is_parent_announced_to peer after s ≡ true
    since : (not (has s.number before) || stood s.number) ≡ true

  stands_now : (s : ResourceData) → at s.number after ≡ Some s → is_ty s.ty ContentInstance ≡ true → has_copy peer next s ≡ true → StandsNow s
  stands_now s found instance copied =
      let it : next s.number ≡ true = copy_stood home peer next s instance copied in
      let does : does_stand peer stood before after s ≡ true = sym (ap (λ (o : Option ResourceData). option_map_or (does_stand peer stood before after) o false) found) ∙ it in
      let parts = and_parts (is_ty s.ty ContentInstance && is_parent_announced_to peer after s) (not (has s.number before) || stood s.number) does in
      record {
        parent = (and_parts (is_ty s.ty ContentInstance) (is_parent_announced_to peer after s) parts.0).1;
        since = parts.1;
      }

  next_stands : (s : ResourceData) → at s.number after ≡ Some s → is_ty s.ty ContentInstance ≡ true → is_parent_announced_to peer after s ≡ true → (not (has s.number before) || stood s.number) ≡ true → next s.number ≡ true
  next_stands s found instance parent since =
      ap (λ (o : Option ResourceData). option_map_or (does_stand peer stood before after) o false) found
      ∙ and_from _ _ (and_from _ _ instance parent) since

  -- what stays as it was had its copy, if it has one
  had_copy : (r s : ResourceData) → at s.number before ≡ Some r → IsAlike home r s → at s.number after ≡ Some s → has_copy peer next s ≡ true → has_copy peer stood r ≡ true
  had_copy r s was alike found copied =
      copy_from home peer stood r (alike_announced home peer r s alike ∙ copy_announced home peer next s copied) (λ instance.
      let now = stands_now s found (sym (alike_type home peer r s alike) ∙ instance) copied in
      let there : has s.number before ≡ true = at_has s.number before r was in
      let since : stood s.number ≡ true = rw there at now.since in
      ap stood alike.number ∙ since)

  other_place : (t s : ResourceData) → IsKept t → IsKept s → (t.number == s.number) ≡ false → bytes_eq (place s) (place t) ≡ false
  other_place t s kt ks other = other_text (place s) (place t) (λ e.
      not_both (t.number == s.number) (eq-eqb t.number s.number (same_address home peer t s kt ks (sym e)).1) other)

  -- what is left under a resource that stays tells whether that is announced
  announced_by : (t s : ResourceData) → StaysAlike home t after → s.parent ≡ t.number → is_parent_announced_to peer after s ≡ true → is_announced_to peer t ≡ true
  announced_by t s new parent announced = by (at t.number after) refl
    where
      there : option_map_or (is_announced_to peer) (at t.number after) false ≡ true
      there = ap (λ (n : ℕ). option_map_or (is_announced_to peer) (at n after) false) (sym parent) ∙ announced

      by : (o : Option ResourceData) → at t.number after ≡ o → is_announced_to peer t ≡ true
      by None is = (let bad : false ≡ true = sym (ap (λ (o : Option ResourceData). option_map_or (is_announced_to peer) o false) is) ∙ there in cc)
      by (Some d) is =
          alike_announced home peer t d (new.alike d is)
          ∙ sym (ap (λ (o : Option ResourceData). option_map_or (is_announced_to peer) o false) is)
          ∙ there

  -- what is announced stays
  record IsLeft (t : ResourceData) : Type 0 where
    resource : ResourceData
    found : at resource.number after ≡ Some resource
    alike : IsAlike home t resource

  left_there : (t : ResourceData) → StaysAlike home t after → is_announced_to peer t ≡ true → IsLeft t
  left_there t new announced = by (at t.number after) refl
    where
      by : (o : Option ResourceData) → at t.number after ≡ o → IsLeft t
      by None is = (let bad : false ≡ true = ap (λ (peers : List (List ℕ)). is_one_of peers peer) (sym (new.lost is)) ∙ announced in cc)
      by (Some d) is = record {
        resource = d;
        found = own_at t.number d.number after d (sym (at_number t.number after d is)) is;
        alike = new.alike d is;
      }

  -- the first change leaves the copies of other resources
  spares : (l : Lead) → DoesLead home before after l → (s : ResourceData) → at s.number after ≡ Some s → does_lead l s.number ≡ false → has_copy peer next s ≡ true → (attr : Attr) (kept : Kept) → led l (place s) attr kept ≡ kept
  spares nothing leads s found other copied attr kept = refl
  spares (made t) leads s found other copied attr kept =
      rw (other_place t s leads.kept (op.left s found) other) (either_kept (is_sent peer before t) kept)
  spares (changed r t named) leads s found other copied attr kept =
      let apart : (t.number == s.number) ≡ false = ap (λ (n : ℕ). n == s.number) (sym leads.number) ∙ other in
      let elsewhere : bytes_eq (place s) (place t) ≡ false = other_place t s leads.kept (op.left s found) apart in
      elim (cases_Bool (is_sent peer before r)) [
        | inl a ↦ elim (cases_Bool (is_sent peer before t)) [
          | inl b ↦ rw (a, b, elsewhere) (either_kept (does_renew named t) kept)
          | inr c ↦
              let beside : is_within (place t) (place s) ≡ false = false_from_ne_true _ (λ within. elim (within_address home peer t s leads.kept (op.left s found) within) [
                | inl number ↦ not_both (t.number == s.number) (eq-eqb t.number s.number number) apart
                | inr below ↦
                    let now = stands_now s found below.instance copied in
                    let announced : is_announced_to peer t ≡ true = announced_by t s leads.stays below.parent now.parent in
                    let sent : is_sent peer before t ≡ true = plain_sent home peer before t leads.instance ∙ announced in
                    not_both _ sent c
              ]) in
              rw (a, c, beside) refl
        ]
        | inr d ↦ rw (d, elsewhere) (either_kept (is_sent peer before t) kept)
      ]

  untouched : (s : ResourceData) → at s.number after ≡ Some s → does_lead lead s.number ≡ false → has_copy peer next s ≡ true → (attr : Attr) → left (place s) attr ≡ keeps (place s) attr
  untouched s found other copied attr =
      leaves (place s) attr
      ∙ ap (λ b. if b then None else led lead (place s) attr (keeps (place s) attr)) (stays_at s found gone op.removes)
      ∙ spares lead op.leads s found other copied attr (keeps (place s) attr)

  -- no entry stands at the address of a resource that wasn't there, or had no copy
  no_entry : (s : ResourceData) → IsKept s → ((r : ResourceData) → at s.number before ≡ Some r → has_copy peer stood r ≡ true → ⊥) → (attr : Attr) → keeps (place s) attr ≡ None
  no_entry s kept none attr = is_none (keeps (place s) attr) (λ some.
      let there = old.only (place s) attr some in
      let number : s.number ≡ there.0.number = (same_address home peer s there.0 kept (op.kept there.0 there.1) there.3).1 in
      none there.0 (own_at there.0.number s.number before there.0 (sym number) there.1) there.2)

  -- ---- the copy of what the operation makes or changes

  record HasValue (s : ResourceData) (attr : Attr) (kept : Kept) : Type 0 where
    some : is_some kept ≡ true
    value : is_attr attr Mid ≡ false → kept ≡ Some (value_in_copy home s attr)

  value_of_alike : (t s : ResourceData) → IsAlike home t s → (attr : Attr) (kept : Kept) → kept ≡ Some (value_in_copy home t attr) → HasValue s attr kept
  value_of_alike t s alike attr kept is = record {
    some = ap is_some is;
    value = λ other. is ∙ ap (λ (v : Option Data). Some v) (alike.values attr other);
  }

  stays_as : (t s : ResourceData) → StaysAlike home t after → t.number ≡ s.number → at s.number after ≡ Some s → IsAlike home t s
  stays_as t s new number found = new.alike s (own_at s.number t.number after s (sym number) found)

  parent_still : (t s : ResourceData) → IsMade home before after t → IsAlike home t s → is_parent_announced_to peer before t ≡ is_parent_announced_to peer after s
  parent_still t s new alike =
      new.parent peer ∙ ap (λ (n : ℕ). option_map_or (is_announced_to peer) (at n after) false) alike.parent

  created_at : (t s : ResourceData) → place t ≡ place s → (attr : Attr) (kept : Kept) → kept ≡ None → after_create home peer t (place s) attr kept ≡ Some (value_in_copy home t attr)
  created_at t s same attr kept none =
      let here : bytes_eq (place s) (place t) ≡ true = ap (bytes_eq (place s)) same ∙ text_itself (place s) in
      rw (here, none) refl

  own_value : (l : Lead) → DoesLead home before after l → (s : ResourceData) → at s.number after ≡ Some s → does_lead l s.number ≡ true → has_copy peer next s ≡ true → (attr : Attr) → HasValue s attr (led l (place s) attr (keeps (place s) attr))
  own_value nothing leads s found own copied attr = (let bad : false ≡ true = own in cc)
  own_value (made t) leads s found own copied attr =
      let number : t.number ≡ s.number = eqb-true t.number s.number own in
      let alike : IsAlike home t s = stays_as t s leads.stays number found in
      let none : keeps (place s) attr ≡ None = no_entry s (op.left s found) (λ r there has. none_at s.number before r (ap (λ (n : ℕ). at n before) (sym number) ∙ leads.new) there) attr in
      let sent : is_sent peer before t ≡ true = sent_from home peer before t (alike_announced home peer t s alike ∙ copy_announced home peer next s copied) (λ instance.
      parent_still t s leads alike ∙ (stands_now s found (sym (alike_type home peer t s alike) ∙ instance) copied).parent) in
      value_of_alike t s alike attr _ (
      ap (λ b. if b then after_create home peer t (place s) attr (keeps (place s) attr) else keeps (place s) attr) sent
      ∙ created_at t s (alike_place home peer t s alike) attr (keeps (place s) attr) none)
  own_value (changed r t named) leads s found own copied attr =
      let kept = keeps (place s) attr in
      let number : t.number ≡ s.number = sym leads.number ∙ eqb-true r.number s.number own in
      let alike : IsAlike home t s = stays_as t s leads.stays number found in
      let plain : is_ty r.ty ContentInstance ≡ false = ap (λ (ty : Ty). is_ty ty ContentInstance) leads.ty ∙ leads.instance in
      let to_t : is_sent peer before t ≡ true = plain_sent home peer before t leads.instance ∙ alike_announced home peer t s alike ∙ copy_announced home peer next s copied in
      let here : place t ≡ place s = alike_place home peer t s alike in
      let was : place r ≡ place s = same_place home peer r t leads.ty leads.number leads.parent ∙ here in
      elim (cases_Bool (is_announced_to peer r)) [
        | inl a ↦
            let to_r : is_sent peer before r ≡ true = plain_sent home peer before r plain ∙ a in
            let had : has_copy peer stood r ≡ true = plain_copy home peer stood r plain ∙ a in
            let some : is_some kept ≡ true = sym (ap (λ (address : List ℕ). is_some (keeps address attr)) was) ∙ old.has r attr leads.there had in
            let value : is_attr attr Mid ≡ false → kept ≡ Some (value_in_copy home r attr) = λ other. sym (ap (λ (address : List ℕ). keeps address attr) was) ∙ old.values r attr leads.there had other in
            elim (cases_Bool (does_renew named t)) [
              | inl renews ↦
                  let left_so : led (changed r t named) (place s) attr kept ≡ option_map (value_left attr (Some (renewal_of t))) kept = rw (to_r, to_t, renews, ap (bytes_eq (place s)) here ∙ text_itself (place s)) refl in
                  record {
                    some = ap is_some left_so ∙ some_still (value_left attr (Some (renewal_of t))) kept some;
                    value = λ other.
                        left_so
                        ∙ ap (option_map (value_left attr (Some (renewal_of t)))) (value other)
                        ∙ ap (λ (v : Option Data). Some v) (renewal_leaves home r t leads.kept leads.ty leads.number attr ∙ alike.values attr other);
                  }
              | inr unnamed ↦
                  let left_so : led (changed r t named) (place s) attr kept ≡ kept = rw (to_r, to_t, unnamed) refl in
                  record {
                    some = ap is_some left_so ∙ some;
                    value = λ other.
                        left_so ∙ value other ∙ ap (λ (v : Option Data). Some v) (leads.unnamed unnamed attr other ∙ alike.values attr other);
                  }
            ]
        | inr b ↦
            let to_r : is_sent peer before r ≡ false = plain_sent home peer before r plain ∙ b in
            let none : kept ≡ None = no_entry s (op.left s found) (λ x there has.
            let same : x ≡ r = one_at s.number before x r there (own_at r.number s.number before r (eqb-true r.number s.number own) leads.there) in
            not_both (is_announced_to peer r) (ap (is_announced_to peer) (sym same) ∙ copy_announced home peer stood x has) b) attr in
            value_of_alike t s alike attr _ (
            ap (λ c. if c then (if is_sent peer before t then (if does_renew named t then after_renewal home peer t (place s) attr kept else kept) else after_removal home peer t (place s) kept) else (if is_sent peer before t then after_create home peer t (place s) attr kept else kept)) to_r
            ∙ ap (λ c. if c then after_create home peer t (place s) attr kept else kept) to_t
            ∙ created_at t s here attr kept none)
      ]

  copied_value : (s : ResourceData) (attr : Attr) → at s.number after ≡ Some s → has_copy peer next s ≡ true → HasValue s attr (left (place s) attr)
  copied_value s attr found copied = elim (cases_Bool (does_lead lead s.number)) [
    | inl own ↦
        let here : left (place s) attr ≡ led lead (place s) attr (keeps (place s) attr) = leaves (place s) attr ∙ ap (λ b. if b then None else led lead (place s) attr (keeps (place s) attr)) (stays_at s found gone op.removes) in
        subst (HasValue s attr) (sym here) (own_value lead op.leads s found own copied attr)
    | inr other ↦
        let was = op.others s found other in
        let had : has_copy peer stood was.0 ≡ true = had_copy was.0 s was.1 was.2 found copied in
        let there : at was.0.number before ≡ Some was.0 = own_at s.number was.0.number before was.0 (sym was.2.number) was.1 in
        let here : left (place s) attr ≡ keeps (place was.0) attr = untouched s found other copied attr ∙ ap (λ (address : List ℕ). keeps address attr) (sym (alike_place home peer was.0 s was.2)) in
        record {
          some = ap is_some here ∙ old.has was.0 attr there had;
          value = λ apart. here ∙ old.values was.0 attr there had apart ∙ ap (λ (v : Option Data). Some v) (was.2.values attr apart);
        }
  ]

  -- ---- no other entry

  -- a resource that stands now has its copy at this address
  record IsFound (address : List ℕ) : Type 0 where
    resource : ResourceData
    found : at resource.number after ≡ Some resource
    copied : has_copy peer next resource ≡ true
    here : address ≡ place resource

  -- an entry that comes of nothing is that of what is made or announced newly
  new_entry : (l : Lead) → DoesLead home before after l → (address : List ℕ) (attr : Attr) → is_some (led l address attr None) ≡ true → IsFound address
  new_entry nothing leads address attr some = (let bad : false ≡ true = some in cc)
  new_entry (made t) leads address attr some = elim (cases_Bool (is_sent peer before t)) [
    | inl sent ↦ elim (cases_Bool (bytes_eq address (place t))) [
      | inl here ↦
          let parts = and_parts (is_announced_to peer t) (not (is_ty t.ty ContentInstance) || is_parent_announced_to peer before t) sent in
          let it = left_there t leads.stays parts.0 in
          let s = it.resource in
          let alike : IsAlike home t s = it.alike in
          let found : at s.number after ≡ Some s = it.found in
          let absent : has s.number before ≡ false = has_from_at s.number before (ap (λ (n : ℕ). at n before) (sym alike.number) ∙ leads.new) in
          record {
            resource = s;
            found = found;
            copied = copy_from home peer next s (sym (alike_announced home peer t s alike) ∙ parts.0) (λ instance.
                let of_t : is_ty t.ty ContentInstance ≡ true = alike_type home peer t s alike ∙ instance in
                let parent : is_parent_announced_to peer before t ≡ true = rw of_t at parts.1 in
                next_stands s found instance (sym (parent_still t s leads alike) ∙ parent) (rw absent refl));
            here = same_text address (place t) here ∙ alike_place home peer t s alike;
          }
      | inr apart ↦ (let bad : false ≡ true = rw (sent, apart) at some in cc)
    ]
    | inr unsent ↦ (let bad : false ≡ true = rw unsent at some in cc)
  ]
  new_entry (changed r t named) leads address attr some = elim (cases_Bool (is_sent peer before r)) [
    | inl a ↦ elim (cases_Bool (is_sent peer before t)) [
      | inl b ↦ elim (cases_Bool (does_renew named t)) [
        | inl renews ↦ elim (cases_Bool (bytes_eq address (place t))) [
          | inl here ↦ (let bad : false ≡ true = rw (a, b, renews, here) at some in cc)
          | inr apart ↦ (let bad : false ≡ true = rw (a, b, renews, apart) at some in cc)
        ]
        | inr unnamed ↦ (let bad : false ≡ true = rw (a, b, unnamed) at some in cc)
      ]
      | inr c ↦ elim (cases_Bool (is_within (place t) address)) [
        | inl within ↦ (let bad : false ≡ true = rw (a, c, within) at some in cc)
        | inr beside ↦ (let bad : false ≡ true = rw (a, c, beside) at some in cc)
      ]
    ]
    | inr d ↦ elim (cases_Bool (is_sent peer before t)) [
      | inl sent ↦ elim (cases_Bool (bytes_eq address (place t))) [
        | inl here ↦
            let announced : is_announced_to peer t ≡ true = sym (plain_sent home peer before t leads.instance) ∙ sent in
            let it = left_there t leads.stays announced in
            let s = it.resource in
            let alike : IsAlike home t s = it.alike in
            let plain : is_ty s.ty ContentInstance ≡ false = sym (alike_type home peer t s alike) ∙ leads.instance in
            record {
              resource = s;
              found = it.found;
              copied = plain_copy home peer next s plain ∙ sym (alike_announced home peer t s alike) ∙ announced;
              here = same_text address (place t) here ∙ alike_place home peer t s alike;
            }
        | inr apart ↦ (let bad : false ≡ true = rw (d, sent, apart) at some in cc)
      ]
      | inr unsent ↦ (let bad : false ≡ true = rw (d, unsent) at some in cc)
    ]
  ]

  -- what is changed is still announced where its entry, or one below it, stays
  announced_still : (r t : ResourceData) (named : List Attr) → IsChanged home before after r t named → is_announced_to peer r ≡ true → (address : List ℕ) (attr : Attr) (kept : Kept) → is_within (place t) address ≡ true → is_some (led (changed r t named) address attr kept) ≡ true → is_announced_to peer t ≡ true
  announced_still r t named leads announced address attr kept within some = elim (cases_Bool (is_announced_to peer t)) [
    | inl still_so ↦ still_so
    | inr gone_now ↦
        let plain : is_ty r.ty ContentInstance ≡ false = ap (λ (ty : Ty). is_ty ty ContentInstance) leads.ty ∙ leads.instance in
        let to_r : is_sent peer before r ≡ true = plain_sent home peer before r plain ∙ announced in
        let to_t : is_sent peer before t ≡ false = plain_sent home peer before t leads.instance ∙ gone_now in
        let bad : false ≡ true = rw (to_r, to_t, within) at some in
        cc
  ]

  -- a resource that was there isn't the one that is made
  not_made : (t r : ResourceData) → IsMade home before after t → at r.number before ≡ Some r → t.number ≡ r.number → ⊥
  not_made t r new there same = none_at r.number before r (ap (λ (n : ℕ). at n before) (sym same) ∙ new.new) there

  -- what stays is as it was, or was changed
  record IsAltered (l : Lead) (c d : ResourceData) : Type 0 where
    to : ResourceData
    named : List Attr
    is : l ≡ changed c to named
    change : IsChanged home before after c to named
    alike : IsAlike home to d

  abbrev Others : Lead → Type 0
  Others l = (s : ResourceData) → at s.number after ≡ Some s → does_lead l s.number ≡ false → (r : ResourceData) × (at s.number before ≡ Some r) × IsAlike home r s

  as_it_was : (l : Lead) → Others l → (c d : ResourceData) → at c.number before ≡ Some c → at d.number after ≡ Some d → c.number ≡ d.number → does_lead l d.number ≡ false → IsAlike home c d
  as_it_was l others c d was is same other =
      let there = others d is other in
      let one : there.0 ≡ c = one_at d.number before there.0 c there.1 (own_at c.number d.number before c same was) in
      subst (λ (x : ResourceData). IsAlike home x d) one there.2

  descends : (l : Lead) → DoesLead home before after l → Others l → (c d : ResourceData) → at c.number before ≡ Some c → at d.number after ≡ Some d → c.number ≡ d.number → IsAlike home c d ⊎ IsAltered l c d
  descends nothing leads others c d was is same = inl (as_it_was nothing others c d was is same refl)
  descends (made t) leads others c d was is same =
      inl (as_it_was (made t) others c d was is same (false_from_ne_true _ (λ e. not_made t c leads was (eqb-true t.number d.number e ∙ sym same))))
  descends (changed r t named) leads others c d was is same = elim (cases_Bool (r.number == d.number)) [
    | inl own ↦
        let number : r.number ≡ d.number = eqb-true r.number d.number own in
        let one : r ≡ c = one_at d.number before r c (own_at r.number d.number before r number leads.there) (own_at c.number d.number before c same was) in
        inr (record {
          to = t;
          named = named;
          is = ap (λ (x : ResourceData). changed x t named) one;
          change = subst (λ (x : ResourceData). IsChanged home before after x t named) one leads;
          alike = stays_as t d leads.stays (sym leads.number ∙ number) is;
        })
    | inr other ↦ inl (as_it_was (changed r t named) others c d was is same other)
  ]

  -- at or below the place of a resource, wherever it stands
  abbrev AllWithin : ResourceData → List ℕ → Type 0
  AllWithin c address = (t : ResourceData) → c.ty ≡ t.ty → c.number ≡ t.number → c.parent ≡ t.parent → is_within (place t) address ≡ true

  -- what was announced, and stays, is announced still, where the entry at or below its address stays
  still_announced : (c d : ResourceData) → at c.number before ≡ Some c → at d.number after ≡ Some d → c.number ≡ d.number → is_announced_to peer c ≡ true → (address : List ℕ) (attr : Attr) (kept : Kept) → AllWithin c address → is_some (led lead address attr kept) ≡ true → is_announced_to peer d ≡ true
  still_announced c d was is same announced address attr kept within some = elim (descends lead op.leads op.others c d was is same) [
    | inl alike ↦ sym (alike_announced home peer c d alike) ∙ announced
    | inr altered ↦
        let t = altered.to in
        let change = altered.change in
        let below : is_within (place t) address ≡ true = within t change.ty change.number change.parent in
        let stays : is_some (led (changed c t altered.named) address attr kept) ≡ true = ap (λ (l : Lead). is_some (led l address attr kept)) (sym altered.is) ∙ some in
        sym (alike_announced home peer t d altered.alike) ∙ announced_still c t altered.named change announced address attr kept below stays
  ]

  record IsSamePlace (c d : ResourceData) : Type 0 where
    ty : c.ty ≡ d.ty
    parent : c.parent ≡ d.parent

  same_still : (c d : ResourceData) → at c.number before ≡ Some c → at d.number after ≡ Some d → c.number ≡ d.number → IsSamePlace c d
  same_still c d was is same = elim (descends lead op.leads op.others c d was is same) [
    | inl alike ↦ record { ty = alike.ty; parent = alike.parent }
    | inr altered ↦ record {
      ty = altered.change.ty ∙ altered.alike.ty;
      parent = altered.change.parent ∙ altered.alike.parent;
    }
  ]

  -- what is changed stays where it is announced still
  not_lost : (l : Lead) → DoesLead home before after l → (c : ResourceData) → at c.number before ≡ Some c → is_announced_to peer c ≡ true → does_lead l c.number ≡ true → (address : List ℕ) (attr : Attr) (kept : Kept) → AllWithin c address → is_some (led l address attr kept) ≡ true → at c.number after ≡ None → ⊥
  not_lost nothing leads c was announced own address attr kept within some none = (let bad : false ≡ true = own in cc)
  not_lost (made t) leads c was announced own address attr kept within some none = not_made t c leads was (eqb-true t.number c.number own)
  not_lost (changed r t named) leads c was announced own address attr kept within some none =
      let number : r.number ≡ c.number = eqb-true r.number c.number own in
      let one : r ≡ c = one_at c.number before r c (own_at r.number c.number before r number leads.there) was in
      let change : IsChanged home before after c t named = subst (λ (x : ResourceData). IsChanged home before after x t named) one leads in
      let stays : is_some (led (changed c t named) address attr kept) ≡ true = ap (λ (x : ResourceData). is_some (led (changed x t named) address attr kept)) (sym one) ∙ some in
      let still_so : is_announced_to peer t ≡ true = announced_still c t named change announced address attr kept (within t change.ty change.number change.parent) stays in
      let empty : listed_peers t ≡ [] = change.stays.lost (ap (λ (n : ℕ). at n after) (sym change.number) ∙ none) in
      let bad : false ≡ true = ap (λ (peers : List (List ℕ)). is_one_of peers peer) (sym empty) ∙ still_so in
      cc

  -- what was announced stays, where an entry at or below its address does
  stays_there : (c : ResourceData) → at c.number before ≡ Some c → is_announced_to peer c ≡ true → is_sent peer before c ≡ true → (address : List ℕ) (attr : Attr) → AllWithin c address → is_taken_at address gone ≡ false → is_some (led lead address attr (keeps address attr)) ≡ true → (d : ResourceData) × (at d.number after ≡ Some d) × (c.number ≡ d.number)
  stays_there c was announced sent address attr within untaken some = by (at c.number after) refl
    where
      by : (o : Option ResourceData) → at c.number after ≡ o → (d : ResourceData) × (at d.number after ≡ Some d) × (c.number ≡ d.number)
      by (Some d) is =
          let number : d.number ≡ c.number = at_number c.number after d is in
          (d, own_at c.number d.number after d (sym number) is, sym number)
      by None is = elim (cases_Bool (does_lead lead c.number)) [
        | inl own ↦ absurd (not_lost lead op.leads c was announced own address attr (keeps address attr) within some is)
        | inr other ↦ absurd (elim (op.lost c was other is) [
          | inl named ↦ not_both (is_taken_at address gone) (taken_at c was sent address (within c refl refl refl) gone op.removes named) untaken
          | inr none ↦
              let bad : false ≡ true = ap (λ (peers : List (List ℕ)). is_one_of peers peer) (sym none) ∙ announced in
              cc
        ])
      ]

  within_same : (c : ResourceData) (address : List ℕ) → address ≡ place c → AllWithin c address
  within_same c address here t ty number parent =
      ap (is_within (place t)) (here ∙ same_place home peer c t ty number parent) ∙ own_within home peer t

  -- the container of an instance with a copy, and that it is announced
  record HasContainer (r : ResourceData) : Type 0 where
    container : ResourceData
    there : at r.parent before ≡ Some container
    announced : is_announced_to peer container ≡ true

  container_of : (r : ResourceData) → is_parent_announced_to peer before r ≡ true → HasContainer r
  container_of r announced = by (at r.parent before) refl
    where
      by : (o : Option ResourceData) → at r.parent before ≡ o → HasContainer r
      by None is = (let bad : false ≡ true = sym (ap (λ (o : Option ResourceData). option_map_or (is_announced_to peer) o false) is) ∙ announced in cc)
      by (Some c) is = record {
        container = c;
        there = is;
        announced = sym (ap (λ (o : Option ResourceData). option_map_or (is_announced_to peer) o false) is) ∙ announced;
      }

  -- it is announced still, where the instance's entry stays
  container_still : (r : ResourceData) → at r.number before ≡ Some r → is_ty r.ty ContentInstance ≡ true → is_parent_announced_to peer before r ≡ true → (address : List ℕ) (attr : Attr) → address ≡ place r → is_taken_at address gone ≡ false → is_some (led lead address attr (keeps address attr)) ≡ true → option_map_or (is_announced_to peer) (at r.parent after) false ≡ true
  container_still r was instance announced address attr here untaken still =
      let has = container_of r announced in
      let c = has.container in
      let number : c.number ≡ r.parent = at_number r.parent before c has.there in
      let there : at c.number before ≡ Some c = own_at r.parent c.number before c (sym number) has.there in
      let kind : c.ty ≡ Container = op.containers r c was instance has.there in
      let plain : is_ty c.ty ContentInstance ≡ false = ap (λ (ty : Ty). is_ty ty ContentInstance) kind in
      let of : IsInstanceOf home c r = record { container = kind; instance = instance; parent = sym number } in
      let sent : is_sent peer before c ≡ true = plain_sent home peer before c plain ∙ has.announced in
      let within : is_within (place c) address ≡ true = ap (is_within (place c)) here ∙ instance_within home peer c r of in
      let below : AllWithin c address = λ t ty same parent. ap (λ (top : List ℕ). is_within top address) (sym (same_place home peer c t ty same parent)) ∙ within in
      let now = stays_there c there has.announced sent address attr below untaken still in
      let still_so : is_announced_to peer now.0 ≡ true = still_announced c now.0 there now.1 now.2 has.announced address attr (keeps address attr) below still in
      let found : at r.parent after ≡ Some now.0 = own_at now.0.number r.parent after now.0 (sym now.2 ∙ number) now.1 in
      ap (λ (o : Option ResourceData). option_map_or (is_announced_to peer) o false) found ∙ still_so

  -- an entry that stays is that of a resource that stays
  old_entry : (address : List ℕ) (attr : Attr) → is_some (keeps address attr) ≡ true → is_taken_at address gone ≡ false → is_some (led lead address attr (keeps address attr)) ≡ true → IsFound address
  old_entry address attr some untaken still =
      let there = old.only address attr some in
      let r = there.0 in
      let was : at r.number before ≡ Some r = there.1 in
      let had : has_copy peer stood r ≡ true = there.2 in
      let here : address ≡ place r = there.3 in
      let announced : is_announced_to peer r ≡ true = copy_announced home peer stood r had in
      let with_parent : is_ty r.ty ContentInstance ≡ true → is_parent_announced_to peer before r ≡ true = λ instance.
      let before_it = stands r.number (copy_stood home peer stood r instance had) in
      let one : before_it.0 ≡ r = one_at r.number before before_it.0 r before_it.1 was in
      ap (is_parent_announced_to peer before) (sym one) ∙ before_it.3 in
      let sent : is_sent peer before r ≡ true = sent_from home peer before r announced with_parent in
      let now = stays_there r was announced sent address attr (within_same r address here) untaken still in
      let s = now.0 in
      let found : at s.number after ≡ Some s = now.1 in
      let number : r.number ≡ s.number = now.2 in
      let still_so : is_announced_to peer s ≡ true = still_announced r s was found number announced address attr (keeps address attr) (within_same r address here) still in
      let same = same_still r s was found number in
      record {
        resource = s;
        found = found;
        copied = copy_from home peer next s still_so (λ instance.
            let of_r : is_ty r.ty ContentInstance ≡ true = ap (λ (ty : Ty). is_ty ty ContentInstance) same.ty ∙ instance in
            let parent : is_parent_announced_to peer after s ≡ true = ap (λ (n : ℕ). option_map_or (is_announced_to peer) (at n after) false) (sym same.parent) ∙ container_still r was of_r (with_parent of_r) address attr here untaken still in
            let since : stood s.number ≡ true = ap stood (sym number) ∙ copy_stood home peer stood r of_r had in
            next_stands s found instance parent (or_right _ _ since));
        here = here ∙ same_place home peer r s same.ty number same.parent;
      }

  only_entry : (address : List ℕ) (attr : Attr) → is_some (left address attr) ≡ true → IsFound address
  only_entry address attr some = elim (cases_Bool (is_taken_at address gone)) [
    | inl taken ↦ (let bad : false ≡ true = rw taken at (sym (ap is_some (leaves address attr)) ∙ some) in cc)
    | inr untaken ↦
        let still : is_some (led lead address attr (keeps address attr)) ≡ true = rw untaken at (sym (ap is_some (leaves address attr)) ∙ some) in
        by untaken still (keeps address attr) refl
  ]
    where
      by : is_taken_at address gone ≡ false → is_some (led lead address attr (keeps address attr)) ≡ true → (kept : Kept) → keeps address attr ≡ kept → IsFound address
      by untaken still None is = new_entry lead op.leads address attr (ap (λ (k : Kept). is_some (led lead address attr k)) (sym is) ∙ still)
      by untaken still (Some v) is = old_entry address attr (ap is_some is) untaken still

  pub operation_follows : DoFollow home peer next after left
  operation_follows = record {
    has = λ r attr found copied. (copied_value r attr found copied).some;
    values = λ r attr found copied other. (copied_value r attr found copied).value other;
    only = λ address attr some.
        let it = only_entry address attr some in
        (it.resource, it.found, it.copied, it.here);
  }

  -- and the instances that stand then have containers that are announced
  pub next_instances : DoStand peer after next
  next_instances n it = by (at n after) refl
    where
      by : (o : Option ResourceData) → at n after ≡ o → (r : ResourceData) × (at n after ≡ Some r) × (is_ty r.ty ContentInstance ≡ true) × (is_parent_announced_to peer after r ≡ true)
      by None is = (let bad : false ≡ true = sym (ap (λ (o : Option ResourceData). option_map_or (does_stand peer stood before after) o false) is) ∙ it in cc)
      by (Some r) is =
          let does : does_stand peer stood before after r ≡ true = sym (ap (λ (o : Option ResourceData). option_map_or (does_stand peer stood before after) o false) is) ∙ it in
          let first = and_parts (is_ty r.ty ContentInstance) (is_parent_announced_to peer after r) (and_parts _ (not (has r.number before) || stood r.number) does).0 in
          (r, is, first.0, first.1)

-- ---- a run

-- what is kept is the same for all purposes
same_follows : (home : HomeData) (peer : List ℕ) (stood : Instances) (nodes : List ResourceData) (keeps others : List ℕ → Attr → Kept) → ((address : List ℕ) (attr : Attr) → keeps address attr ≡ others address attr) → DoFollow home peer stood nodes keeps → DoFollow home peer stood nodes others
same_follows home peer stood nodes keeps others same follows = record {
  has = λ r attr found copied. ap is_some (sym (same (copy_address home peer r) attr)) ∙ follows.has r attr found copied;
  values = λ r attr found copied other. sym (same (copy_address home peer r) attr) ∙ follows.values r attr found copied other;
  only = λ address attr some. follows.only address attr (ap is_some (same address attr) ∙ some);
}

run_follows : (home : HomeData) (peer : List ℕ) (run : List Operation) (before after : List ResourceData) (stood : Instances) (keeps : List ℕ → Attr → Kept) → IsRun home before run after → DoStand peer before stood → DoFollow home peer stood before keeps → DoFollow home peer (stood_along peer stood before run) after (λ address attr. effects (those_to peer (sent_along home before run)) address attr (keeps address attr))
run_follows home peer [] before after stood keeps is stands follows =
    subst (λ (nodes : List ResourceData). DoFollow home peer stood nodes keeps) is follows
run_follows home peer (o ∷ run) before after stood keeps is stands follows =
    let sent = copies_of_all home before (changes_of o.lead o.gone) in
    let later = sent_along home o.after run in
    let middle : List ℕ → Attr → Kept = λ address attr. effects (those_to peer sent) address attr (keeps address attr) in
    same_follows home peer _ after (λ address attr. effects (those_to peer later) address attr (middle address attr)) _
    (λ address attr.
    sym (effects-append (those_to peer sent) (those_to peer later) address attr (keeps address attr))
    ∙ ap (λ (ds : List CopyDraft). effects ds address attr (keeps address attr)) (sym (those-append peer sent later)))
    (run_follows home peer run o.after after (stood_after peer stood before o.after) middle is.1
    (next_instances home peer before o.after o.gone o.lead stood keeps is.0 stands follows)
    (operation_follows home peer before o.after o.gone o.lead stood keeps is.0 stands follows))

-- from resources of which none is announced
pub copies_follow : (home : HomeData) (peer : List ℕ) (before : List ResourceData) (run : List Operation) (after : List ResourceData) → ((r : ResourceData) → at r.number before ≡ Some r → listed_peers r ≡ []) → IsRun home before run after → DoFollow home peer (stood_along peer no_instance before run) after (replica peer (sent_along home before run))
copies_follow home peer before run after none is =
    run_follows home peer run before after no_instance (λ address attr. None) is
    (λ n it. (let bad : false ≡ true = it in cc))
    (record {
      has = λ r attr found copied. absurd (unannounced r found copied);
      values = λ r attr found copied other. absurd (unannounced r found copied);
      only = λ address attr some. (let bad : false ≡ true = some in cc);
    })
  where
    unannounced : (r : ResourceData) → at r.number before ≡ Some r → has_copy peer no_instance r ≡ true → ⊥
    unannounced r found copied =
        let bad : false ≡ true = ap (λ (peers : List (List ℕ)). is_one_of peers peer) (sym (none r found)) ∙ copy_announced home peer no_instance r copied in
        cc
