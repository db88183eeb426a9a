-- The operations on copies among what is appended to the outbox.
use Rattle.std.specs.Prelude.{◌&&◌}
use Rattle.std.proofs.Common.{◌≡◌, ℕ, List, [], ◌∷◌, ◌++◌, map, Bool, Option, inl, inr, refl, ap, ◌∙◌}
use Rattle.std.proofs.lemmas.Bool.{cases_Bool}
use Rattle.std.proofs.lemmas.List.Elements.{filter_map-append}
use Rattle.std.specs.List.{cons_option, filter_map}
use Rattle.primitive_json.specs.declared.note.Kind.{Kind}
use Rattle.primitive_json.specs.declared.note.Kind.TheVariants.{Copy, Notification, Relay}
use Rattle.primitive_json.specs.declared.note.NoteParts.{NoteParts}
use Rattle.resource_model.specs.Home.{HomeData}
use Rattle.resource_model.specs.Resource.{ResourceData}
use Rattle.tree_model.specs.Changes.{ChangeData}
use Rattle.notify_outbox.specs.Items.{next_number, request_id, under_id}
use Rattle.notify_outbox.specs.declared.item.Item.{Item}
use Rattle.subscription_match.specs.Items.{items_of}
use Rattle.subscription_match.specs.Notices.{notes_of_all}
use Rattle.subscription_match.specs.Spending.{kept}
use Rattle.subscription_match.specs.declared.drafts.DraftParts.{DraftParts}
use Rattle.announce_copy.specs.Copies.{CopyDraft, copies_of_all}
use Rattle.announce_copy.specs.Items.{copy_notes}
use Rattle.entity_model.specs.Entity.{copy_requests, items_from}
use Rattle.machine_laws.specs.Outbox.{Account, Waits, aged, aged_line, does_wait, given, is_too_old, noted, notes_told}
use Rattle.copy_histories.specs.Histories.{copies_in, copy_in, copy_in_note}
use Rattle.copy_histories.proofs.RunLemmas.{bare}

-- ---- in notes

abbrev pub copy_of_note : NoteParts → Option CopyDraft
copy_of_note note = copy_in_note note.kind note

abbrev pub copies_in_notes : List NoteParts → List CopyDraft
copies_in_notes notes = filter_map copy_of_note notes

-- a notification is none
none_in : (home : HomeData) (nodes : List ResourceData) (drafts : List DraftParts) → copies_in_notes (items_of home nodes drafts) ≡ []
none_in home nodes [] = refl
none_in home nodes (draft ∷ drafts) = none_in home nodes drafts

-- each request about a copy is one
each_in : (home : HomeData) (nodes : List ResourceData) (drafts : List CopyDraft) → copies_in_notes (copy_notes home nodes drafts) ≡ map bare drafts
each_in home nodes [] = refl
each_in home nodes (draft ∷ drafts) = ap (λ (ds : List CopyDraft). bare draft ∷ ds) (each_in home nodes drafts)

requests_in : (home : HomeData) (nodes : List ResourceData) (changes : List ChangeData) → copies_in_notes (copy_requests home nodes changes) ≡ map bare (copies_of_all home nodes changes)
unfolding copy_requests
requests_in home nodes changes = each_in home nodes (copies_of_all home nodes changes)

-- what changes send
pub told_in : (home : HomeData) (nodes : List ResourceData) (going : List ℕ) (changes : List ChangeData) → copies_in_notes (notes_told home nodes going changes) ≡ map bare (copies_of_all home nodes changes)
told_in home nodes going changes =
    let told = items_of home nodes (kept nodes (notes_of_all home nodes going changes)) in
    filter_map-append copy_of_note told (copy_requests home nodes changes)
    ∙ ap (λ (ds : List CopyDraft). ds ++ copies_in_notes (copy_requests home nodes changes)) (none_in home nodes (kept nodes (notes_of_all home nodes going changes)))
    ∙ requests_in home nodes changes

-- ---- in items

abbrev pub copy_of_item : Item → Option CopyDraft
copy_of_item item = copy_of_note item.note

abbrev pub copies_in_items : List Item → List CopyDraft
copies_in_items items = filter_map copy_of_item items

same_under : (kind : Kind) (id : List ℕ) (note : NoteParts) → copy_in_note kind (under_id id note) ≡ copy_in_note kind note
same_under Copy id note = refl
same_under Notification id note = refl
same_under Relay id note = refl

pub items_in : (count since : ℕ) (notes : List NoteParts) → copies_in_items (items_from count since notes) ≡ copies_in_notes notes
items_in count since [] = refl
items_in count since (note ∷ notes) =
    ap (λ (d : Option CopyDraft). cons_option d (copies_in_items (items_from (next_number count) since notes))) (same_under note.kind (request_id (next_number count)) note)
    ∙ ap (cons_option (copy_of_note note)) (items_in (next_number count) since notes)

-- ---- in an account

waiting_in : (items : List Item) → copies_in (map (λ (item : Item). record { item = item; fate = Waits }) items) ≡ copies_in_items items
waiting_in [] = refl
waiting_in (item ∷ items) = ap (cons_option (copy_of_item item)) (waiting_in items)

pub noted_in : (items : List Item) (account : Account) → copies_in (noted items account) ≡ copies_in account ++ copies_in_items items
noted_in items account =
    filter_map-append copy_in account (map (λ (item : Item). record { item = item; fate = Waits }) items)
    ∙ ap (λ (ds : List CopyDraft). copies_in account ++ ds) (waiting_in items)

-- what is dropped was sent as well
pub aged_in : (moment : ℕ) (account : Account) → copies_in (aged moment account) ≡ copies_in account
aged_in moment [] = refl
aged_in moment (line ∷ account) =
    ap (λ (d : Option CopyDraft). cons_option d (copies_in (aged moment account))) by
    ∙ ap (cons_option (copy_in line)) (aged_in moment account)
  where
    by : copy_in (aged_line moment line) ≡ copy_in line
    by = elim (cases_Bool (is_too_old moment line)) [
      | inl t ↦ rw t refl
      | inr f ↦ rw f refl
    ]

-- and so is what is given away
pub given_in : (picks : Item → Bool) (account : Account) → copies_in (given picks account) ≡ copies_in account
given_in picks [] = refl
given_in picks (line ∷ account) = elim (cases_Bool (does_wait line.fate && picks line.item)) [
  | inl t ↦ rw t refl
  | inr f ↦ rw f (ap (cons_option (copy_in line)) (given_in picks account))
]
