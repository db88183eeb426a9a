-- What is sent about copies is so by right.
use Rattle.std.specs.Prelude.{codes, if◌then◌else◌, ⊤}
use Rattle.std.proofs.Common.{◌≡◌, ℕ, ◌<◌, List, [], ◌∷◌, ◌++◌, map, filter, Bool, true, false, not, bytes_eq, Option, Some, None, inl, inr, refl, sym, ap, ◌∙◌, append_assoc, append-nil, arith}
use Rattle.std.proofs.lemmas.Bool.{both_ways, eq-eqb, or_left, or_right}
use Rattle.std.proofs.lemmas.Slice.Eq.{bytes_eq-Decides}
use Rattle.std.specs.List.{AllByRecursion, cons_option, filter_map, flat_map}
use Rattle.std.specs.Option.{option_map_or, option_or}
use Rattle.m2m_names.specs.declared.attributes.Attr.{Attr}
use Rattle.m2m_names.specs.declared.attributes.Attr.TheVariants.{Acpi, At, St}
use Rattle.m2m_names.specs.declared.codes.Rsc.{Rsc}
use Rattle.m2m_names.specs.declared.operations.Op.{Op}
use Rattle.m2m_names.specs.declared.operations.Op.TheVariants.{Create, Retrieve, Update, Delete, Notify}
use Rattle.m2m_names.specs.declared.types.Ty.{Ty}
use Rattle.m2m_names.specs.declared.types.Ty.TheVariants.{Container, ContentInstance}
use Rattle.m2m_value.specs.Data.{Data}
use Rattle.primitive_json.specs.declared.request.RequestParts.{RequestParts}
use Rattle.resource_model.specs.Home.{HomeData}
use Rattle.resource_model.specs.Resource.{ResourceData, is_ty}
use Rattle.tree_model.specs.Changes.{ChangeData, created, updated, deleted, those_of}
use Rattle.tree_model.specs.Tree.{at, has, is_tree, may_stand, overdue_numbers}
use Rattle.tree_model.proofs.GrowthLemmas.{below_lacks, growth, next_fits, tree_from_well_formed}
use Rattle.tree_model.proofs.TreeLemmas.{at-append, at_none, at_number}
use Rattle.policy_eval.specs.Rights.{update_bit}
use Rattle.policy_eval.specs.Rules.{is_attr_in, listed_in, texts_of}
use Rattle.announce_copy.specs.Announced.{copy_name, does_renew}
use Rattle.announce_copy.specs.Copies.{CopyDraft, copies_of, copies_of_all, copy_path, creation_at, deletion_at, followed_at, others_than, parent_path, registration_path, renewal_at}
use Rattle.announce_copy.specs.Items.{copy_note}
use Rattle.announce_copy.specs.Peers.{each_once, is_one_of, listed_peers, new_after, peers_at, peers_of}
use Rattle.entity_model.specs.Entity.{EntityData, copy_requests}
use Rattle.request_rules.specs.Order.{fault_at}
use Rattle.request_rules.specs.Rights.{is_granted}
use Rattle.create_delete.specs.Changes.{changes_by, named_attrs, only_in, update_made}
use Rattle.create_delete.specs.Changing.{effect_at}
use Rattle.create_delete.specs.Guard.{ChangesByRight, DiffersIn, container_update_attrs, link_attrs}
use Rattle.create_delete.proofs.RightLemmas.{changes_by_right, stays_sound}
use Rattle.copy_rights.specs.Sent.{ExpiriesWithdrawCopies, IsAnnouncedByRight, IsSentByRight, OperationsAnnounceByRight, Withdraws}

-- ---- all of a list

all-append : {X : Type 0} (P : X → Type 0) (xs ys : List X) → AllByRecursion P xs → AllByRecursion P ys → AllByRecursion P (xs ++ ys)
all-append P [] ys all more = more
all-append P (x ∷ xs) ys all more = (all.0, all-append P xs ys all.1 more)

all-map : {A X : Type 0} (P : X → Type 0) (f : A → X) (xs : List A) → AllByRecursion (λ a. P (f a)) xs → AllByRecursion P (map f xs)
all-map P f [] all = all
all-map P f (x ∷ xs) all = (all.0, all-map P f xs all.1)

all-flat : {A X : Type 0} (P : X → Type 0) (f : A → List X) (xs : List A) → AllByRecursion (λ a. AllByRecursion P (f a)) xs → AllByRecursion P (flat_map f xs)
all-flat P f [] all = all
all-flat P f (x ∷ xs) all = all-append P (f x) (flat_map f xs) all.0 (all-flat P f xs all.1)

all-weaker : {X : Type 0} (P Q : X → Type 0) (xs : List X) → ((x : X) → P x → Q x) → AllByRecursion P xs → AllByRecursion Q xs
all-weaker P Q [] each all = all
all-weaker P Q (x ∷ xs) each all = (each x all.0, all-weaker P Q xs each all.1)

all-both : {X : Type 0} (P Q : X → Type 0) (xs : List X) → AllByRecursion P xs → AllByRecursion Q xs → AllByRecursion (λ x. P x × Q x) xs
all-both P Q [] all both = all
all-both P Q (x ∷ xs) all both = ((all.0, both.0), all-both P Q xs all.1 both.1)

all-choice : {X : Type 0} (P : X → Type 0) (b : Bool) (xs ys : List X) → AllByRecursion P xs → AllByRecursion P ys → AllByRecursion P (if b then xs else ys)
all-choice P true xs ys first second = first
all-choice P false xs ys first second = second

all-where : {X : Type 0} (P : X → Type 0) (b : Bool) (x : X) (xs : List X) → (b ≡ true → P x) → AllByRecursion P xs → AllByRecursion P (if b then x ∷ xs else xs)
all-where P true x xs one all = (one refl, all)
all-where P false x xs one all = all

all-filter : {X : Type 0} (P : X → Type 0) (p : X → Bool) (xs : List X) → AllByRecursion (λ x. p x ≡ true → P x) xs → AllByRecursion P (filter p xs)
all-filter P p [] all = all
all-filter P p (x ∷ xs) all = all-where P (p x) x (filter p xs) all.0 (all-filter P p xs all.1)

-- of what an option has, if it has something
abbrev OfSome : {X : Type 0} → (X → Type 0) → Option X → Type 0
OfSome P None = ⊤
OfSome P (Some x) = P x

all-option : {X : Type 0} (P : X → Type 0) (o : Option X) (xs : List X) → OfSome P o → AllByRecursion P xs → AllByRecursion P (cons_option o xs)
all-option P None xs one all = all
all-option P (Some x) xs one all = (one, all)

all-filter_map : {A X : Type 0} (P : X → Type 0) (h : A → Option X) (xs : List A) → AllByRecursion (λ a. OfSome P (h a)) xs → AllByRecursion P (filter_map h xs)
all-filter_map P h [] all = all
all-filter_map P h (x ∷ xs) all = all-option P (h x) (filter_map h xs) all.0 (all-filter_map P h xs all.1)

each_one : {X : Type 0} (P : X → Type 0) (xs : List X) → ((x : X) → P x) → AllByRecursion P xs
each_one P [] each = tt
each_one P (x ∷ xs) each = (each x, each_one P xs each)

was_false : (b : Bool) → not b ≡ true → b ≡ false
was_false true t = (let bad : false ≡ true = t in cc)
was_false false t = refl

-- ---- resources that stand

stands_all : (P : ResourceData → Type 0) (nodes : List ResourceData) → is_tree nodes ≡ true → ((r : ResourceData) → at r.number nodes ≡ Some r → P r) → AllByRecursion P nodes
stands_all P = growth may_stand (λ nodes. ((r : ResourceData) → at r.number nodes ≡ Some r → P r) → AllByRecursion P nodes) (λ each. tt) (λ before r grew next holds each.
    let fact = next_fits before r next in
    let old : (s : ResourceData) → at s.number before ≡ Some s → P s = λ s found. each s (at-append s.number before (r ∷ []) ∙ ap (λ (o : Option ResourceData). option_or o (at s.number (r ∷ []))) found) in
    let free : at r.number before ≡ None = at_none r.number before (below_lacks r.number before fact.number) in
    let here : at r.number (r ∷ []) ≡ Some r = rw (eq-eqb r.number r.number refl) refl in
    let new : P r = each r (at-append r.number before (r ∷ []) ∙ ap (λ (o : Option ResourceData). option_or o (at r.number (r ∷ []))) free ∙ here) in
    all-append P before (r ∷ []) (holds old) (new, tt))

only_all : (P : ResourceData → Type 0) (nodes others : List ResourceData) → is_tree nodes ≡ true → ((r : ResourceData) → at r.number nodes ≡ Some r → at r.number others ≡ None → P r) → AllByRecursion P (only_in nodes others)
only_all P nodes others tree each =
    all-filter P (λ r. not (has r.number others)) nodes
    (stands_all (λ r. not (has r.number others) ≡ true → P r) nodes tree (λ r found lacks. each r found (at_none r.number others (was_false (has r.number others) lacks))))

-- ---- to whom a resource is announced

text_itself : (t : List ℕ) → bytes_eq t t ≡ true
text_itself t = (bytes_eq-Decides t t).1 refl

themselves : (texts : List (List ℕ)) → AllByRecursion (λ t. is_one_of texts t ≡ true) texts
themselves [] = tt
themselves (t ∷ texts) = (
  or_left _ _ (text_itself t),
  all-weaker (λ p. is_one_of texts p ≡ true) (λ p. is_one_of (t ∷ texts) p ≡ true) texts (λ p there. or_right (bytes_eq p t) _ there) (themselves texts),
)

once_all : (P : List ℕ → Type 0) (seen texts : List (List ℕ)) → AllByRecursion P texts → AllByRecursion P (new_after seen texts)
once_all P seen [] all = all
once_all P seen (t ∷ texts) all =
    all-choice P (is_one_of seen t) (new_after seen texts) (t ∷ new_after (seen ++ t ∷ []) texts)
    (once_all P seen texts all.1) (all.0, once_all P (seen ++ t ∷ []) texts all.1)

peers_listed : (nodes : List ResourceData) (r : ResourceData) → AllByRecursion (λ p. is_one_of (listed_peers r) p ≡ true) (peers_of nodes r)
peers_listed nodes r =
    let P : List ℕ → Type 0 = λ p. is_one_of (listed_peers r) p ≡ true in
    let admitted = filter (is_one_of (peers_at r.parent nodes)) (listed_peers r) in
    all-choice P (is_ty r.ty ContentInstance) (each_once admitted) (each_once (listed_peers r))
    (once_all P [] admitted (all-filter P (is_one_of (peers_at r.parent nodes)) (listed_peers r)
    (all-weaker P (λ p. is_one_of (peers_at r.parent nodes) p ≡ true → P p) (listed_peers r) (λ p is admits. is) (themselves (listed_peers r)))))
    (once_all P [] (listed_peers r) (themselves (listed_peers r)))

-- by its type, its parent and its `at`
abbrev peers_by : List ResourceData → Ty → ℕ → Option Data → List (List ℕ)
peers_by nodes ty parent listed =
    if is_ty ty ContentInstance
    then each_once (filter (is_one_of (peers_at parent nodes)) (texts_of (listed_in listed)))
    else each_once (texts_of (listed_in listed))

-- so two that differ in other attributes alone are announced to the same CSEs
same_peers : (nodes : List ResourceData) (attrs : List Attr) (r s : ResourceData) → DiffersIn attrs r s → is_attr_in attrs At ≡ false → peers_of nodes s ≡ peers_of nodes r
same_peers nodes attrs r s differs other =
    ap (peers_of nodes) differs.rest
    ∙ ap (λ (d : Option Data). peers_by nodes r.ty r.parent d) (differs.others At other)

links_else : (ty : Ty) → is_attr_in (link_attrs ty) At ≡ false
links_else ty = by (is_ty ty Container)
  where
    by : (b : Bool) → is_attr_in (if b then Acpi ∷ St ∷ [] else Acpi ∷ []) At ≡ false
    by true = refl
    by false = refl

-- ---- where copies stand

-- the path leads to where this CSE is registered, or below
abbrev Leads : HomeData → List ℕ → Type 0
Leads home path = (rest : List ℕ) × (path ≡ registration_path home ++ rest)

parent_leads : (home : HomeData) (r : ResourceData) → Leads home (parent_path home r)
parent_leads home r = by (is_ty r.ty ContentInstance)
  where
    by : (b : Bool) → Leads home (if b then registration_path home ++ codes "/" ++ copy_name Container r.parent else registration_path home)
    by true = (codes "/" ++ copy_name Container r.parent, append_assoc (registration_path home) (codes "/") (copy_name Container r.parent))
    by false = ([], sym (append-nil (registration_path home)))

below_leads : (home : HomeData) (path more : List ℕ) → Leads home path → Leads home (path ++ more)
below_leads home path more leads =
    (leads.0 ++ more, ap (λ (start : List ℕ). start ++ more) leads.1 ∙ append_assoc (registration_path home) leads.0 more)

copy_leads : (home : HomeData) (r : ResourceData) → Leads home (copy_path home r)
copy_leads home r =
    below_leads home (parent_path home r ++ codes "/") (copy_name r.ty r.number)
    (below_leads home (parent_path home r) (codes "/") (parent_leads home r))

-- ---- what is sent for one change

module _ (e : EntityData) (o : List ℕ) (n : ℕ) (after : EntityData) where
  abbrev IsSoSent : CopyDraft → Type 0
  IsSoSent draft = IsSentByRight e o n after (copy_note e.home e.nodes draft)

  creation_so : (r : ResourceData) (p : List ℕ) → is_one_of (listed_peers r) p ≡ true → IsAnnouncedByRight e o n after r → at r.number after.nodes ≡ Some r → IsSoSent (creation_at e.home r p)
  creation_so r p listed right stands =
      let leads = parent_leads e.home r in
      record {
        resource = r;
        goes = record { peer = p; rest = leads.0; to = ap (λ (path : List ℕ). p ++ path) leads.1; listed = listed };
        right = right;
        says = inr (r, refl, stands, inl refl);
      }

  deletion_so : (r : ResourceData) (path p : List ℕ) → Leads e.home path → is_one_of (listed_peers r) p ≡ true → at r.number e.nodes ≡ Some r → IsSoSent (deletion_at path p)
  deletion_so r path p leads listed stood = record {
    resource = r;
    goes = record { peer = p; rest = leads.0; to = ap (λ (x : List ℕ). p ++ x) leads.1; listed = listed };
    right = inl stood;
    says = inl refl;
  }

  renewal_so : (r s : ResourceData) (path p : List ℕ) → Leads e.home path → is_one_of (listed_peers r) p ≡ true → at r.number e.nodes ≡ Some r → s.number ≡ r.number → at r.number after.nodes ≡ Some s → IsSoSent (renewal_at path s p)
  renewal_so r s path p leads listed stood same left = record {
    resource = r;
    goes = record { peer = p; rest = leads.0; to = ap (λ (x : List ℕ). p ++ x) leads.1; listed = listed };
    right = inl stood;
    says = inr (s, same, left, inr refl);
  }

  followed_so : (r s : ResourceData) (path p : List ℕ) (stays renews : Bool) → Leads e.home path → is_one_of (listed_peers r) p ≡ true → at r.number e.nodes ≡ Some r → s.number ≡ r.number → at r.number after.nodes ≡ Some s → OfSome IsSoSent (if stays then (if renews then Some (renewal_at path s p) else None) else Some (deletion_at path p))
  followed_so r s path p true true leads listed stood same left = renewal_so r s path p leads listed stood same left
  followed_so r s path p true false leads listed stood same left = tt
  followed_so r s path p false renews leads listed stood same left = deletion_so r path p leads listed stood

  created_so : (r : ResourceData) → IsAnnouncedByRight e o n after r → at r.number after.nodes ≡ Some r → AllByRecursion IsSoSent (copies_of e.home e.nodes (created r))
  created_so r right stands =
      all-map IsSoSent (creation_at e.home r) (peers_of e.nodes r)
      (all-weaker (λ p. is_one_of (listed_peers r) p ≡ true) (λ p. IsSoSent (creation_at e.home r p)) (peers_of e.nodes r) (λ p listed. creation_so r p listed right stands) (peers_listed e.nodes r))

  deleted_so : (r : ResourceData) → at r.number e.nodes ≡ Some r → AllByRecursion IsSoSent (copies_of e.home e.nodes (deleted r))
  deleted_so r stood =
      let path = copy_path e.home r in
      all-map IsSoSent (deletion_at path) (peers_of e.nodes r)
      (all-weaker (λ p. is_one_of (listed_peers r) p ≡ true) (λ p. IsSoSent (deletion_at path p)) (peers_of e.nodes r) (λ p listed. deletion_so r path p (copy_leads e.home r) listed stood) (peers_listed e.nodes r))

  -- to a CSE to which it wasn't announced, an updated resource is announced by UPDATE
  module _ (by : ChangesByRight Update e o n [] after) (r s : ResourceData) (stood : at r.number e.nodes ≡ Some r) (stands : at s.number after.nodes ≡ Some s) (same : s.number ≡ r.number) where
    apart : (p : List ℕ) → is_one_of (peers_of e.nodes r) p ≡ false → is_one_of (peers_of e.nodes s) p ≡ true → peers_of e.nodes s ≡ peers_of e.nodes r → ⊥
    apart p lacks has is = both_ways (is_one_of (peers_of e.nodes r) p) lacks (sym (ap (λ (peers : List (List ℕ)). is_one_of peers p) is) ∙ has)

    newly : (p : List ℕ) → is_one_of (peers_of e.nodes r) p ≡ false → is_one_of (peers_of e.nodes s) p ≡ true → is_granted e o update_bit s.number ≡ true
    newly p lacks has =
        let differs : s ≡ r → ⊥ = λ is. apart p lacks has (ap (peers_of e.nodes) is) in
        elim (by.changed r s (record { same = same; was = stood; is = stands; differs = differs })) [
          | inl updates ↦ ap (λ (m : ℕ). is_granted e o update_bit m) same ∙ updates.0
          | inr others ↦ elim others [
            | inl links ↦ absurd (apart p lacks has (same_peers e.nodes (link_attrs r.ty) r s links.1 (links_else r.ty)))
            | inr more ↦ elim more [
              | inl fills ↦ absurd (apart p lacks has (same_peers e.nodes container_update_attrs r s fills.3 refl))
              | inr lowered ↦ absurd (let told : 0 < 0 = lowered.told in omega (arith, told))
            ]
          ]
        ]

    newly_so : (p : List ℕ) → is_one_of (listed_peers s) p ≡ true → is_one_of (peers_of e.nodes s) p ≡ true → not (is_one_of (peers_of e.nodes r) p) ≡ true → IsSoSent (creation_at e.home s p)
    newly_so p listed has lacks =
        creation_so s p listed (inr (stands, inr (newly p (was_false (is_one_of (peers_of e.nodes r) p) lacks) has))) stands

    updated_so : (named : List Attr) → AllByRecursion IsSoSent (copies_of e.home e.nodes (updated r s named))
    updated_so named =
        let path = copy_path e.home s in
        let renews = does_renew named s in
        let known = peers_of e.nodes r in
        let peers = peers_of e.nodes s in
        let left : at r.number after.nodes ≡ Some s = ap (λ (m : ℕ). at m after.nodes) (sym same) ∙ stands in
        all-append IsSoSent (filter_map (followed_at path renews peers s) known) (map (creation_at e.home s) (others_than known peers))
        (all-filter_map IsSoSent (followed_at path renews peers s) known
        (all-weaker (λ p. is_one_of (listed_peers r) p ≡ true) (λ p. OfSome IsSoSent (followed_at path renews peers s p)) known (λ p listed. followed_so r s path p (is_one_of peers p) renews (copy_leads e.home s) listed stood same left) (peers_listed e.nodes r)))
        (all-map IsSoSent (creation_at e.home s) (others_than known peers)
        (all-filter (λ p. IsSoSent (creation_at e.home s p)) (λ p. not (is_one_of known p)) peers
        (all-weaker (λ p. (is_one_of (listed_peers s) p ≡ true) × (is_one_of peers p ≡ true)) (λ p. not (is_one_of known p) ≡ true → IsSoSent (creation_at e.home s p)) peers (λ p both lacks. newly_so p both.0 both.1 lacks)
        (all-both (λ p. is_one_of (listed_peers s) p ≡ true) (λ p. is_one_of peers p ≡ true) peers (peers_listed e.nodes s) (themselves peers)))))

  -- ---- for all changes of an operation

  abbrev AreSoSent : List ChangeData → Type 0
  AreSoSent changes = AllByRecursion (λ (c : ChangeData). AllByRecursion IsSoSent (copies_of e.home e.nodes c)) changes

  requests_so : (changes : List ChangeData) → AreSoSent changes → AllByRecursion (IsSentByRight e o n after) (copy_requests e.home e.nodes changes)
  unfolding copy_requests
  requests_so changes all =
      all-map (IsSentByRight e o n after) (copy_note e.home e.nodes) (copies_of_all e.home e.nodes changes)
      (all-flat IsSoSent (copies_of e.home e.nodes) changes all)

  module _ (tree : is_tree e.nodes ≡ true) (left_tree : is_tree after.nodes ≡ true) where
    gone_so : AreSoSent (map deleted (only_in e.nodes after.nodes))
    gone_so =
        all-map (λ (c : ChangeData). AllByRecursion IsSoSent (copies_of e.home e.nodes c)) deleted (only_in e.nodes after.nodes)
        (only_all (λ r. AllByRecursion IsSoSent (copies_of e.home e.nodes (deleted r))) e.nodes after.nodes tree (λ r found lacks. deleted_so r found))

    new_so : ChangesByRight Create e o n [] after → AreSoSent (map created (only_in after.nodes e.nodes))
    new_so by =
        all-map (λ (c : ChangeData). AllByRecursion IsSoSent (copies_of e.home e.nodes c)) created (only_in after.nodes e.nodes)
        (only_all (λ r. AllByRecursion IsSoSent (copies_of e.home e.nodes (created r))) after.nodes e.nodes left_tree (λ r found lacks.
        created_so r (inr (found, inl (by.created r (lacks, found)))) found))

    made_so : (request : RequestParts) (x y : Option ResourceData) → ChangesByRight Update e o n [] after → at n e.nodes ≡ x → at n after.nodes ≡ y → AreSoSent (update_made request x y)
    made_so request None y by found left = tt
    made_so request (Some r) None by found left = tt
    made_so request (Some r) (Some s) by found left =
        let own : r.number ≡ n = at_number n e.nodes r found in
        let same : s.number ≡ n = at_number n after.nodes s left in
        (updated_so by r s (ap (λ (m : ℕ). at m e.nodes) own ∙ found) (ap (λ (m : ℕ). at m after.nodes) same ∙ left) (same ∙ sym own) (named_attrs request r), tt)

    changes_so : (op : Op) (request : RequestParts) → ChangesByRight op e o n [] after → AreSoSent (changes_by op request n e after)
    changes_so Create request by =
        all-append (λ (c : ChangeData). AllByRecursion IsSoSent (copies_of e.home e.nodes c)) (map created (only_in after.nodes e.nodes)) (map deleted (only_in e.nodes after.nodes)) (new_so by) gone_so
    changes_so Retrieve request by = tt
    changes_so Update request by =
        all-append (λ (c : ChangeData). AllByRecursion IsSoSent (copies_of e.home e.nodes c)) (update_made request (at n e.nodes) (at n after.nodes)) (map deleted (only_in e.nodes after.nodes))
        (made_so request (at n e.nodes) (at n after.nodes) by refl refl) gone_so
    changes_so Delete request by = gone_so
    changes_so Notify request by = tt

    unless_refused : (op : Op) (request : RequestParts) (fault : Option Rsc) → ChangesByRight op e o n [] after → AreSoSent (option_map_or (λ (f : Rsc). []) fault (changes_by op request n e after))
    unless_refused op request None by = changes_so op request by
    unless_refused op request (Some f) by = tt

pub announced_by_right : OperationsAnnounceByRight
announced_by_right op e o request n sound originator =
    let after = (effect_at op e o request n).after in
    let left = stays_sound op e o request n sound originator in
    requests_so e o n after _
    (unless_refused e o n after (tree_from_well_formed e.nodes sound.tree) (tree_from_well_formed after.nodes left.tree) op request (fault_at op e o request n) (changes_by_right op e o request n sound originator))

-- ---- an expiry

module _ (e : EntityData) where
  abbrev IsGone : CopyDraft → Type 0
  IsGone draft = Withdraws e.home e.nodes (copy_note e.home e.nodes draft)

  withdrawn : (r : ResourceData) → at r.number e.nodes ≡ Some r → AllByRecursion IsGone (copies_of e.home e.nodes (deleted r))
  withdrawn r stood =
      let path = copy_path e.home r in
      let leads = copy_leads e.home r in
      all-map IsGone (deletion_at path) (peers_of e.nodes r)
      (all-weaker (λ p. is_one_of (listed_peers r) p ≡ true) (λ p. IsGone (deletion_at path p)) (peers_of e.nodes r)
      (λ p listed. record {
        resource = r;
        stood = stood;
        goes = record { peer = p; rest = leads.0; to = ap (λ (x : List ℕ). p ++ x) leads.1; listed = listed };
        deletes = refl;
        says = refl;
      })
      (peers_listed e.nodes r))

  found_gone : (n : ℕ) (found : Option ResourceData) → at n e.nodes ≡ found → OfSome (λ (r : ResourceData). AllByRecursion IsGone (copies_of e.home e.nodes (deleted r))) found
  found_gone n None is = tt
  found_gone n (Some r) is = withdrawn r (ap (λ (m : ℕ). at m e.nodes) (at_number n e.nodes r is) ∙ is)

  taken_gone : (gone : List ℕ) → AllByRecursion (Withdraws e.home e.nodes) (copy_requests e.home e.nodes (map deleted (those_of gone e.nodes)))
  unfolding copy_requests
  taken_gone gone =
      let sends : ChangeData → Type 0 = λ c. AllByRecursion IsGone (copies_of e.home e.nodes c) in
      let changes = map deleted (those_of gone e.nodes) in
      all-map (Withdraws e.home e.nodes) (copy_note e.home e.nodes) (copies_of_all e.home e.nodes changes)
      (all-flat IsGone (copies_of e.home e.nodes) changes
      (all-map sends deleted (those_of gone e.nodes)
      (all-filter_map (λ (r : ResourceData). sends (deleted r)) (λ m. at m e.nodes) gone
      (each_one (λ m. OfSome (λ (r : ResourceData). sends (deleted r)) (at m e.nodes)) gone (λ m. found_gone m (at m e.nodes) refl)))))

pub expiry_withdraws : ExpiriesWithdrawCopies
expiry_withdraws e moment = taken_gone e (overdue_numbers moment e.nodes)
