-- What a change sends to one CSE: one operation at most.
use Rattle.std.specs.Prelude.{if◌then◌else◌}
use Rattle.std.proofs.Common.{◌≡◌, ℕ, List, [], ◌∷◌, ◌++◌, map, filter, Bool, true, false, not, ◌&&◌, ◌||◌, bytes_eq, Option, Some, None, inl, inr, refl, sym, ap, ◌∙◌, subst}
use Rattle.std.proofs.lemmas.Bool.{cases_Bool}
use Rattle.std.proofs.lemmas.List.Elements.{filter-append}
use Rattle.std.proofs.lemmas.Option.{same_Some}
use Rattle.std.specs.List.{AllByRecursion, filter_map, flat_map, list_any}
use Rattle.std.specs.Option.{option_map_or}
use Rattle.attribute_kinds.specs.Kinds.{is_cse_id}
use Rattle.m2m_names.specs.declared.attributes.Attr.{Attr}
use Rattle.m2m_names.specs.declared.types.Ty.TheVariants.{ContentInstance}
use Rattle.resource_model.specs.Home.{HomeData}
use Rattle.resource_model.specs.Resource.{ResourceData, is_ty}
use Rattle.tree_model.specs.Changes.{ChangeData, created, updated, deleted}
use Rattle.tree_model.specs.Tree.{at}
use Rattle.announce_copy.specs.Announced.{does_renew}
use Rattle.announce_copy.specs.Copies.{CopyDraft, copies_of, copies_of_all, copy_address, copy_path, creation_at, deletion_at, followed_at, others_than, renewal_at}
use Rattle.announce_copy.specs.Peers.{each_once, is_one_of, listed_peers, new_after, peers_at, peers_of}
use Rattle.announce_copy.proofs.PeerLemmas.{any_last}
use Rattle.copy_laws.specs.Following.{IsKept}
use Rattle.copy_laws.specs.Replica.{Kept, effect, effects, goes_to, is_within, those_to}
use Rattle.copy_laws.specs.Standing.{is_announced_to, is_parent_announced_to, is_sent}
use Rattle.copy_laws.proofs.AddressLemmas.{copy_leads, parent_leads}
use Rattle.copy_laws.proofs.TextLemmas.{either_way, not_both, same_text, text_itself}

-- ---- effects one after another

pub effects-append : (xs ys : List CopyDraft) (address : List ℕ) (attr : Attr) (kept : Kept) → effects (xs ++ ys) address attr kept ≡ effects ys address attr (effects xs address attr kept)
effects-append [] ys address attr kept = refl
effects-append (x ∷ xs) ys address attr kept = effects-append xs ys address attr (effect x address attr kept)

-- those that a CSE is sent of some, and then of others
pub those-append : (peer : List ℕ) (xs ys : List CopyDraft) → those_to peer (xs ++ ys) ≡ those_to peer xs ++ those_to peer ys
those-append peer xs ys = filter-append (goes_to peer) xs ys

-- what is sent where a test says so, and nothing else
abbrev pub where_so : {X : Type 0} → Bool → X → List X
where_so b x = if b then x ∷ [] else []

pub effects_where : (b : Bool) (draft : CopyDraft) (address : List ℕ) (attr : Attr) (kept : Kept) → effects (where_so b draft) address attr kept ≡ (if b then effect draft address attr kept else kept)
effects_where true draft address attr kept = refl
effects_where false draft address attr kept = refl

-- ---- one text among some

module _ (peer : List ℕ) where
  -- those that are this one
  abbrev pub ones : List (List ℕ) → List (List ℕ)
  ones texts = filter (λ q. bytes_eq q peer) texts

  ones_once : (seen texts : List (List ℕ)) → ones (new_after seen texts) ≡ (if is_one_of seen peer then [] else where_so (is_one_of texts peer) peer)
  ones_once seen [] = elim (cases_Bool (is_one_of seen peer)) [ inl t ↦ rw t refl | inr f ↦ rw f refl ]
  ones_once seen (t ∷ texts) = elim (cases_Bool (is_one_of seen t)) [
    | inl old ↦ elim (cases_Bool (bytes_eq peer t)) [
      | inl same ↦
          let there : is_one_of seen peer ≡ true = ap (is_one_of seen) (same_text peer t same) ∙ old in
          rw (old, there) (ones_once seen texts ∙ rw there refl)
      | inr other ↦ rw (old, other) (ones_once seen texts)
    ]
    | inr new ↦ elim (cases_Bool (bytes_eq peer t)) [
      | inl same ↦
          let is : peer ≡ t = same_text peer t same in
          let absent : is_one_of seen peer ≡ false = ap (is_one_of seen) is ∙ new in
          let now : is_one_of (seen ++ t ∷ []) peer ≡ true = any_last peer t seen ∙ rw same refl in
          let rest : ones (new_after (seen ++ t ∷ []) texts) ≡ [] = ones_once (seen ++ t ∷ []) texts ∙ rw now refl in
          rw (new, either_way t peer ∙ same, rest, absent, same) (ap (λ (q : List ℕ). q ∷ []) (sym is))
      | inr other ↦
          let now : is_one_of (seen ++ t ∷ []) peer ≡ is_one_of seen peer = any_last peer t seen ∙ rw other refl in
          rw (new, either_way t peer ∙ other, other) (
          ones_once (seen ++ t ∷ []) texts
          ∙ ap (λ b. if b then [] else where_so (is_one_of texts peer) peer) now)
    ]
  ]

  -- there is one among them
  abbrev some_there : List (List ℕ) → Bool
  some_there [] = false
  some_there (x ∷ xs) = true

  any_there : (texts : List (List ℕ)) → is_one_of texts peer ≡ some_there (ones texts)
  any_there [] = refl
  any_there (t ∷ texts) = elim (cases_Bool (bytes_eq peer t)) [
    | inl same ↦ rw (same, either_way t peer ∙ same) refl
    | inr other ↦ rw (other, either_way t peer ∙ other) (any_there texts)
  ]

  there_where : (b : Bool) → some_there (where_so b peer) ≡ b
  there_where true = refl
  there_where false = refl

  -- an admitted one
  any_admitted : (known texts : List (List ℕ)) → is_one_of (filter (is_one_of known) texts) peer ≡ (is_one_of known peer && is_one_of texts peer)
  any_admitted known [] = none (is_one_of known peer)
    where
      none : (b : Bool) → false ≡ (b && false)
      none true = refl
      none false = refl
  any_admitted known (t ∷ texts) = elim (cases_Bool (is_one_of known t)) [
    | inl is ↦ elim (cases_Bool (bytes_eq peer t)) [
      | inl same ↦
          let own : is_one_of known peer ≡ true = ap (is_one_of known) (same_text peer t same) ∙ is in
          rw (is, same, own) refl
      | inr other ↦ rw (is, other) (any_admitted known texts)
    ]
    | inr isnt ↦ elim (cases_Bool (bytes_eq peer t)) [
      | inl same ↦
          let own : is_one_of known peer ≡ false = ap (is_one_of known) (same_text peer t same) ∙ isnt in
          rw isnt (any_admitted known texts ∙ rw own refl)
      | inr other ↦ rw (isnt, other) (any_admitted known texts)
    ]
  ]

  any_once : (texts : List (List ℕ)) → is_one_of (each_once texts) peer ≡ is_one_of texts peer
  any_once texts =
      any_there (each_once texts)
      ∙ ap some_there (ones_once [] texts)
      ∙ there_where (is_one_of texts peer)

  -- ---- to whom a resource is announced

  any_at : (nodes : List ResourceData) (r : ResourceData) → is_one_of (peers_at r.parent nodes) peer ≡ is_parent_announced_to peer nodes r
  any_at nodes r = by (at r.parent nodes) refl
    where
      by : (o : Option ResourceData) → at r.parent nodes ≡ o → is_one_of (peers_at r.parent nodes) peer ≡ is_parent_announced_to peer nodes r
      by None is = rw is refl
      by (Some c) is = rw is (any_once (listed_peers c))

  -- once, where what it is told is sent
  pub ones_of_peers : (nodes : List ResourceData) (r : ResourceData) → ones (peers_of nodes r) ≡ where_so (is_sent peer nodes r) peer
  ones_of_peers nodes r = elim (cases_Bool (is_ty r.ty ContentInstance)) [
    | inl t ↦
        rw t (
        ones_once [] (filter (is_one_of (peers_at r.parent nodes)) (listed_peers r))
        ∙ ap (λ b. where_so b peer) (
        any_admitted (peers_at r.parent nodes) (listed_peers r)
        ∙ ap (λ b. b && is_one_of (listed_peers r) peer) (any_at nodes r)
        ∙ turned (is_parent_announced_to peer nodes r) (is_one_of (listed_peers r) peer)))
    | inr f ↦ rw f (ones_once [] (listed_peers r) ∙ ap (λ b. where_so b peer) (with_true (is_one_of (listed_peers r) peer)))
  ]
    where
      turned : (a b : Bool) → (a && b) ≡ (b && a)
      turned true true = refl
      turned true false = refl
      turned false true = refl
      turned false false = refl

      with_true : (a : Bool) → a ≡ (a && true)
      with_true true = refl
      with_true false = refl

  pub any_of_peers : (nodes : List ResourceData) (r : ResourceData) → is_one_of (peers_of nodes r) peer ≡ is_sent peer nodes r
  any_of_peers nodes r =
      any_there (peers_of nodes r) ∙ ap some_there (ones_of_peers nodes r) ∙ there_where (is_sent peer nodes r)

  ones_others : (known texts : List (List ℕ)) → ones (others_than known texts) ≡ (if is_one_of known peer then [] else ones texts)
  ones_others known [] = elim (cases_Bool (is_one_of known peer)) [ inl t ↦ rw t refl | inr f ↦ rw f refl ]
  ones_others known (t ∷ texts) = elim (cases_Bool (bytes_eq t peer)) [
    | inl same ↦
        let is : t ≡ peer = same_text t peer same in
        elim (cases_Bool (is_one_of known t)) [
          | inl old ↦
              let own : is_one_of known peer ≡ true = ap (is_one_of known) (sym is) ∙ old in
              rw old (ones_others known texts ∙ rw own refl)
          | inr new ↦
              let own : is_one_of known peer ≡ false = ap (is_one_of known) (sym is) ∙ new in
              let rest : ones (others_than known texts) ≡ ones texts = ones_others known texts ∙ rw own refl in
              rw (new, same, own) (ap (λ (qs : List (List ℕ)). t ∷ qs) rest)
        ]
    | inr other ↦ elim (cases_Bool (is_one_of known t)) [
      | inl old ↦ rw (old, other) (ones_others known texts)
      | inr new ↦ rw (new, other) (ones_others known texts)
    ]
  ]

  -- ---- what is sent to each

  sent_of_map : (f : List ℕ → CopyDraft) (peers : List (List ℕ)) → AllByRecursion (λ (q : List ℕ). goes_to peer (f q) ≡ bytes_eq q peer) peers → those_to peer (map f peers) ≡ map f (ones peers)
  sent_of_map f [] each = refl
  sent_of_map f (q ∷ peers) each = elim (cases_Bool (bytes_eq q peer)) [
    | inl t ↦ rw (each.0, t) (ap (λ (ds : List CopyDraft). f q ∷ ds) (sent_of_map f peers each.1))
    | inr n ↦ rw (each.0, n) (sent_of_map f peers each.1)
  ]

  sent_of_some : (f : List ℕ → Option CopyDraft) (peers : List (List ℕ)) → AllByRecursion (λ (q : List ℕ). (d : CopyDraft) → f q ≡ Some d → goes_to peer d ≡ bytes_eq q peer) peers → those_to peer (filter_map f peers) ≡ filter_map f (ones peers)
  sent_of_some f [] each = refl
  sent_of_some f (q ∷ peers) each = by (sent_of_some f peers each.1) (f q) refl
    where
      by : those_to peer (filter_map f peers) ≡ filter_map f (ones peers) → (o : Option CopyDraft) → f q ≡ o → those_to peer (filter_map f (q ∷ peers)) ≡ filter_map f (ones (q ∷ peers))
      by rest None is = elim (cases_Bool (bytes_eq q peer)) [
        | inl t ↦ rw (is, t, is) rest
        | inr n ↦ rw (is, n) rest
      ]
      by rest (Some d) is =
          let goes : goes_to peer d ≡ bytes_eq q peer = each.0 d is in
          elim (cases_Bool (bytes_eq q peer)) [
            | inl t ↦ rw (is, goes, t, is) (ap (λ (ds : List CopyDraft). d ∷ ds) rest)
            | inr n ↦ rw (is, goes, n) rest
          ]

  map_where : (f : List ℕ → CopyDraft) (b : Bool) → map f (where_so b peer) ≡ where_so b (f peer)
  map_where f true = refl
  map_where f false = refl

-- ---- who is announced to is a CSE

all_once : (seen texts : List (List ℕ)) → AllByRecursion (λ (q : List ℕ). is_cse_id q ≡ true) texts → AllByRecursion (λ (q : List ℕ). is_cse_id q ≡ true) (new_after seen texts)
all_once seen [] all = tt
all_once seen (t ∷ texts) all = elim (cases_Bool (is_one_of seen t)) [
  | inl old ↦ rw old (all_once seen texts all.1)
  | inr new ↦ rw new (all.0, all_once (seen ++ t ∷ []) texts all.1)
]

all_filtered : (p : List ℕ → Bool) (texts : List (List ℕ)) → AllByRecursion (λ (q : List ℕ). is_cse_id q ≡ true) texts → AllByRecursion (λ (q : List ℕ). is_cse_id q ≡ true) (filter p texts)
all_filtered p [] all = tt
all_filtered p (t ∷ texts) all = elim (cases_Bool (p t)) [
  | inl is ↦ rw is (all.0, all_filtered p texts all.1)
  | inr isnt ↦ rw isnt (all_filtered p texts all.1)
]

peers_are : (nodes : List ResourceData) (r : ResourceData) → IsKept r → AllByRecursion (λ (q : List ℕ). is_cse_id q ≡ true) (peers_of nodes r)
peers_are nodes r kept = elim (cases_Bool (is_ty r.ty ContentInstance)) [
  | inl t ↦ rw t (all_once [] _ (all_filtered (is_one_of (peers_at r.parent nodes)) (listed_peers r) kept.peers))
  | inr f ↦ rw f (all_once [] (listed_peers r) kept.peers)
]

each_of : {P Q : List ℕ → Type 0} → ((q : List ℕ) → P q → Q q) → (texts : List (List ℕ)) → AllByRecursion P texts → AllByRecursion Q texts
each_of to [] all = tt
each_of to (t ∷ texts) all = (to t all.0, each_of to texts all.1)

-- ---- a change

module _ (home : HomeData) (peer : List ℕ) (nodes : List ResourceData) where
  creation_goes : (r : ResourceData) (q : List ℕ) → is_cse_id q ≡ true → goes_to peer (creation_at home r q) ≡ bytes_eq q peer
  creation_goes r q is = ap (λ (t : List ℕ). bytes_eq t peer) (parent_leads home q r is)

  deletion_goes : (r : ResourceData) (q : List ℕ) → is_cse_id q ≡ true → goes_to peer (deletion_at (copy_path home r) q) ≡ bytes_eq q peer
  deletion_goes r q is = ap (λ (t : List ℕ). bytes_eq t peer) (copy_leads home q r is)

  renewal_goes : (s : ResourceData) (q : List ℕ) → is_cse_id q ≡ true → goes_to peer (renewal_at (copy_path home s) s q) ≡ bytes_eq q peer
  renewal_goes s q is = ap (λ (t : List ℕ). bytes_eq t peer) (copy_leads home q s is)

  -- of a creation: the Create, where the resource is announced
  pub sent_of_created : (r : ResourceData) → IsKept r → those_to peer (copies_of home nodes (created r)) ≡ where_so (is_sent peer nodes r) (creation_at home r peer)
  sent_of_created r kept =
      sent_of_map peer (creation_at home r) (peers_of nodes r) (each_of (creation_goes r) (peers_of nodes r) (peers_are nodes r kept))
      ∙ ap (map (creation_at home r)) (ones_of_peers peer nodes r)
      ∙ map_where peer (creation_at home r) (is_sent peer nodes r)

  -- of a deletion: the Delete, where it was
  pub sent_of_deleted : (r : ResourceData) → IsKept r → those_to peer (copies_of home nodes (deleted r)) ≡ where_so (is_sent peer nodes r) (deletion_at (copy_path home r) peer)
  sent_of_deleted r kept =
      sent_of_map peer (deletion_at (copy_path home r)) (peers_of nodes r) (each_of (deletion_goes r) (peers_of nodes r) (peers_are nodes r kept))
      ∙ ap (map (deletion_at (copy_path home r))) (ones_of_peers peer nodes r)
      ∙ map_where peer (deletion_at (copy_path home r)) (is_sent peer nodes r)

  -- what is sent for an Update, where it is sent there before and after
  abbrev pub sent_by_update : ResourceData → ResourceData → List Attr → List CopyDraft
  sent_by_update r s named =
      if is_sent peer nodes r
      then (if is_sent peer nodes s
      then where_so (does_renew named s) (renewal_at (copy_path home s) s peer)
      else deletion_at (copy_path home s) peer ∷ [])
      else where_so (is_sent peer nodes s) (creation_at home s peer)

  module _ (r s : ResourceData) (named : List Attr) where
    abbrev follows : List ℕ → Option CopyDraft
    follows = followed_at (copy_path home s) (does_renew named s) (peers_of nodes s) s

    followed_goes : (q : List ℕ) → is_cse_id q ≡ true → (d : CopyDraft) → follows q ≡ Some d → goes_to peer d ≡ bytes_eq q peer
    followed_goes q is d e = elim (cases_Bool (is_one_of (peers_of nodes s) q)) [
      | inl t ↦ elim (cases_Bool (does_renew named s)) [
        | inl u ↦
            let both : Some (renewal_at (copy_path home s) s q) ≡ Some d = rw (t, u) at e in
            ap (goes_to peer) (sym (same_Some (renewal_at (copy_path home s) s q) d both)) ∙ renewal_goes s q is
        | inr v ↦ (let none : None ≡ Some d = rw (t, v) at e in cc)
      ]
      | inr f ↦
          let both : Some (deletion_at (copy_path home s) q) ≡ Some d = rw f at e in
          ap (goes_to peer) (sym (same_Some (deletion_at (copy_path home s) q) d both)) ∙ deletion_goes s q is
    ]

    pub sent_of_updated : IsKept r → IsKept s → those_to peer (copies_of home nodes (updated r s named)) ≡ sent_by_update r s named
    sent_of_updated kr ks =
        let before = peers_of nodes r in
        let after = peers_of nodes s in
        let new = others_than before after in
        let first : those_to peer (filter_map follows before) ≡ filter_map follows (where_so (is_sent peer nodes r) peer) =
        sent_of_some peer follows before (each_of followed_goes before (peers_are nodes r kr))
        ∙ ap (filter_map follows) (ones_of_peers peer nodes r) in
        let second : those_to peer (map (creation_at home s) new) ≡ map (creation_at home s) (if is_sent peer nodes r then [] else where_so (is_sent peer nodes s) peer) =
        sent_of_map peer (creation_at home s) new (each_of (creation_goes s) new (all_filtered (λ q. not (is_one_of before q)) after (peers_are nodes s ks)))
        ∙ ap (map (creation_at home s)) (
        ones_others peer before after
        ∙ ap (λ b. if b then [] else ones peer after) (any_of_peers peer nodes r)
        ∙ ap (λ (qs : List (List ℕ)). if is_sent peer nodes r then [] else qs) (ones_of_peers peer nodes s)) in
        those-append peer (filter_map follows before) (map (creation_at home s) new)
        ∙ ap (λ (ds : List CopyDraft). ds ++ those_to peer (map (creation_at home s) new)) first
        ∙ ap (λ (ds : List CopyDraft). filter_map follows (where_so (is_sent peer nodes r) peer) ++ ds) second
        ∙ last
      where
        last : filter_map follows (where_so (is_sent peer nodes r) peer) ++ map (creation_at home s) (if is_sent peer nodes r then [] else where_so (is_sent peer nodes s) peer) ≡ sent_by_update r s named
        last = elim (cases_Bool (is_sent peer nodes r)) [
          | inl t ↦ elim (cases_Bool (is_sent peer nodes s)) [
            | inl u ↦ elim (cases_Bool (does_renew named s)) [
              | inl v ↦ rw (t, any_of_peers peer nodes s, u, v) refl
              | inr w ↦ rw (t, any_of_peers peer nodes s, u, w) refl
            ]
            | inr n ↦ rw (t, any_of_peers peer nodes s, n) refl
          ]
          | inr f ↦ rw f (map_where peer (creation_at home s) (is_sent peer nodes s))
        ]

-- ---- what a CSE is sent leaves at an address

module _ (home : HomeData) (peer : List ℕ) (before : List ResourceData) where
  -- at or below the address of one of these, if its removal is sent there
  abbrev pub is_removed : List ℕ → List ResourceData → Bool
  is_removed address gone =
      list_any (λ r. is_sent peer before r && is_within (copy_address home peer r) address) gone

  pub gone_leaves : (gone : List ResourceData) → AllByRecursion IsKept gone → (address : List ℕ) (attr : Attr) (kept : Kept) → effects (those_to peer (copies_of_all home before (map deleted gone))) address attr kept ≡ (if is_removed address gone then None else kept)
  gone_leaves [] all address attr kept = refl
  gone_leaves (r ∷ gone) all address attr kept =
      let draft = deletion_at (copy_path home r) peer in
      let others = copies_of_all home before (map deleted gone) in
      let after : Kept = if is_sent peer before r then (if is_within (copy_address home peer r) address then None else kept) else kept in
      ap (λ (ds : List CopyDraft). effects ds address attr kept) (those-append peer (copies_of home before (deleted r)) others)
      ∙ effects-append (those_to peer (copies_of home before (deleted r))) (those_to peer others) address attr kept
      ∙ ap (λ (ds : List CopyDraft). effects (those_to peer others) address attr (effects ds address attr kept)) (sent_of_deleted home peer before r all.0)
      ∙ ap (effects (those_to peer others) address attr) (effects_where (is_sent peer before r) draft address attr kept)
      ∙ gone_leaves gone all.1 address attr after
      ∙ last (is_sent peer before r) (is_within (copy_address home peer r) address) (is_removed address gone)
    where
      last : (b c rest : Bool) → (if rest then None else (if b then (if c then None else kept) else kept)) ≡ (if (b && c) || rest then None else kept)
      last true true true = refl
      last true true false = refl
      last true false rest = refl
      last false c rest = refl
