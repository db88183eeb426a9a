-- What comes of a request that may change an entity.
use Rattle.guard_laws.proofs.Words.{Contains, ℤ, pos, codes, unwrap_or, ◌≡◌, ℕ, List, [], ◌∷◌, true, false, Option, Some, None, inl, inr, refl, sym, ap, subst, ◌∙◌, arith, option_map_or}
use Rattle.m2m_names.specs.StatusCodes.{is_success}
use Rattle.cse_machine.proofs.KeptLemmas.{comes_at, refuses_on, told_refused}
use Rattle.guard_laws.proofs.Terms.{is_originator, ty_member, Ty, Rsc, BadChild, Created, Deleted, NoPrivilege, Updated, Op, Create, Update, Delete, Data, object, text, pairs_of, Entry, ReplyParts, RequestParts, ResourceData, Row, at, structured_of, EntityData, Effect, refusal, refused, reply_to, IsSoundEntity, fault_on, creation_by, child_ty, named_by, may_do, OthersAreShownByRight, create_effect, created_content, told_rows, update_effect, updated_content, updated_resource, drafts_at, told_effect_at, addressed, claimed_originator}
use Rattle.guard_laws.proofs.Facts.{cases_Bool, true≢false, append-nil, addresses_under, ids_under, references_under, told_by_right}
use Rattle.std.specs.Prelude.{◌++◌, map}
use Rattle.std.specs.Ordering.{int_eq}
use Rattle.m2m_value.specs.View.{entries, member_of}
use Rattle.m2m_value.proofs.Levels.{entries-pairs_of}
use Rattle.tree_model.specs.Shown.{members_of, shown_rows, wrapped}
use Rattle.request_rules.specs.Creation.{new_resource}
use Rattle.retrieve_laws.specs.Told.{addresses_in, ids_below, listed_parts, references_in, shown_id, shown_reference, values_under}
use Rattle.retrieve_laws.proofs.ToldLemmas.{none_referred, none_under}
use Rattle.create_delete.specs.Guard.{ChangesByRight}
use Rattle.guard_laws.specs.Guard.{DoesShow, HasRight, IsGuardedAlone}

-- ---- a refusal

nothing_in : {A : Type 0} (x : A) → Contains [] x → ⊥
nothing_in x there = omega (arith, there.1)

-- what it tells of other resources, it tells by right
abbrev pub IsToldByRight : EntityData → RequestParts → ReplyParts → Type 0
IsToldByRight e request reply = OthersAreShownByRight e.home e.nodes (claimed_originator e.home request) reply

-- a content tells nothing of them
abbrev TellsNone : Option Data → Type 0
TellsNone content = (option_map_or ids_below content [] ≡ []) × (option_map_or references_in content [] ≡ []) × (option_map_or addresses_in content [] ≡ [])

tells_none : (e : EntityData) (request : RequestParts) (rsc : Rsc) (content : Option Data) → TellsNone content → IsToldByRight e request (reply_to request rsc content)
tells_none e request rsc content none = record {
  below = λ address told. absurd (nothing_in address (subst (λ (addresses : List (List ℕ)). Contains addresses address) none.0 told));
  referred = λ address told. absurd (nothing_in address (subst (λ (addresses : List (List ℕ)). Contains addresses address) none.1 told));
  found = λ address told. absurd (nothing_in address (subst (λ (addresses : List (List ℕ)). Contains addresses address) none.2 told));
}

-- a reply without content tells nothing of them
pub tells_nothing : (e : EntityData) (request : RequestParts) (rsc : Rsc) → IsToldByRight e request (reply_to request rsc None)
tells_nothing e request rsc = tells_none e request rsc None (refl, refl, refl)

-- a refusal shows nothing
pub shows_none : (request : RequestParts) (fault : Rsc) → is_success fault ≡ false → DoesShow (refusal request fault) → ⊥
shows_none request fault other shows = elim shows [
  | inl content ↦ content refl
  | inr fine ↦ true≢false (sym fine ∙ other)
]

-- what shows something, is done by right
pub shows_by_right : (op : Op) (e : EntityData) (request : RequestParts) (t : ResourceData) → at t.number e.nodes ≡ Some t → addressed e request.to ≡ Some t → request.op ≡ op → DoesShow (told_effect_at op e (claimed_originator e.home request) request t.number).reply → HasRight e request
shows_by_right op e request t there named is shows =
    let o = claimed_originator e.home request in
    elim (cases_Bool (may_do op e o request t.number)) [
      | inl right ↦ record { target = t; named = named; right = ap (λ (p : Op). may_do p e o request t.number) is ∙ right }
      | inr none ↦
          let refuses : fault_on op e o request t ≡ Some NoPrivilege = rw none refl in
          absurd (shows_none request NoPrivilege refl (subst DoesShow (ap (λ (x : Effect). x.reply) (told_refused op e request t there NoPrivilege refuses)) shows))
    ]

-- ---- a Create and an Update

-- what the reply to one tells of other resources

wrapped_tells : (ty : Ty) (rows : List Row) → TellsNone (Some (wrapped ty rows))
wrapped_tells ty rows = (
  ids_under ty (members_of rows) ∙ ap (map shown_id) (none_under rows),
  references_under ty (members_of rows) ∙ ap (λ (d : Option Data). map shown_reference (listed_parts d)) (none_referred rows),
  addresses_under ty (members_of rows),
)

address_tells : (address : List ℕ) → TellsNone (Some (object (pairs_of ((codes "m2m:uri", text address) ∷ []))))
address_tells address = (refl, refl, refl)

framed_tells : (ty : Ty) (rows : List Row) (address : List ℕ) → TellsNone (Some (object (pairs_of ((codes "m2m:rce", object (pairs_of ((ty_member ty, object (pairs_of (members_of rows))) ∷ (codes "uri", text address) ∷ []))) ∷ []))))
framed_tells ty rows address =
    let members = pairs_of (members_of rows) in (
      ap (map shown_id) (append-nil (values_under members) ∙ none_under rows),
      ap (map shown_reference) (append-nil (listed_parts (member_of (codes "ch") (entries members))))
          ∙ ap (λ (es : List Entry). map shown_reference (listed_parts (member_of (codes "ch") es))) (entries-pairs_of (members_of rows))
          ∙ ap (λ (d : Option Data). map shown_reference (listed_parts d)) (none_referred rows),
      refl,
    )

created_tells : (rcn : ℤ) (e : EntityData) (r : ResourceData) → TellsNone (created_content rcn e r)
created_tells rcn e r = elim (cases_Bool (int_eq rcn (pos 0))) [
  | inl a ↦ rw a (refl, refl, refl)
  | inr a ↦ elim (cases_Bool (int_eq rcn (pos 1))) [
    | inl b ↦ rw (a, b) (wrapped_tells r.ty (shown_rows e.home e.nodes r))
    | inr b ↦ elim (cases_Bool (int_eq rcn (pos 2))) [
      | inl c ↦ rw (a, b, c) (address_tells (structured_of r.number (e.nodes ++ r ∷ [])))
      | inr c ↦ rw (a, b, c) (framed_tells r.ty (shown_rows e.home e.nodes r) (structured_of r.number (e.nodes ++ r ∷ [])))
    ]
  ]
]

updated_tells : (rcn : ℤ) (e : EntityData) (es : List Entry) (r : ResourceData) → TellsNone (updated_content rcn e es r)
updated_tells rcn e es r = elim (cases_Bool (int_eq rcn (pos 0))) [
  | inl a ↦ rw a (refl, refl, refl)
  | inr a ↦ rw a (wrapped_tells r.ty (told_rows e es r))
]

module _ (e : EntityData) (request : RequestParts) (t : ResourceData) (there : at t.number e.nodes ≡ Some t) where
  abbrev who : List ℕ
  who = claimed_originator e.home request

  created_told : (ty : Option Ty) → IsToldByRight e request (option_map_or (λ (y : Ty). create_effect request (creation_by e who request t y)) ty (refused e request BadChild)).reply
  created_told None = tells_nothing e request BadChild
  created_told (Some ty) =
      let made = creation_by e who request t ty in
      tells_none e request Created (created_content (unwrap_or request.rcn (pos 1)) e (new_resource made)) (created_tells (unwrap_or request.rcn (pos 1)) e (new_resource made))

  pub create_told : IsToldByRight e request (told_effect_at Create e (claimed_originator e.home request) request t.number).reply
  create_told = comes_at e request t there Create (λ x. IsToldByRight e request x.reply) (λ f other. tells_nothing e request f) (λ none. created_told (child_ty request))

  updated_told : (es : List Entry) → IsToldByRight e request (update_effect e request es t).reply
  updated_told es =
      let now = updated_resource e es t in
      tells_none e request Updated (updated_content (unwrap_or request.rcn (pos 1)) e es now) (updated_tells (unwrap_or request.rcn (pos 1)) e es now)

  pub update_told : IsToldByRight e request (told_effect_at Update e (claimed_originator e.home request) request t.number).reply
  update_told = comes_at e request t there Update (λ x. IsToldByRight e request x.reply) (λ f other. tells_nothing e request f) (λ none. updated_told (named_by Update request t))

  -- what an operation changes, it changes by right
  pub change_guarded : (op : Op) → IsSoundEntity e → is_originator who ≡ true → addressed e request.to ≡ Some t → request.op ≡ op → IsToldByRight e request (told_effect_at op e who request t.number).reply → IsGuardedAlone e request (told_effect_at op e who request t.number).reply (told_effect_at op e who request t.number).after
  change_guarded op sound originator named is told =
      let by = told_by_right op e who request t.number sound originator in
      record {
        shown = shows_by_right op e request t there named is;
        others = told;
        changes = inr (record {
          target = t;
          named = named;
          right = subst (λ (p : Op). ChangesByRight p e who t.number (drafts_at p e who request t.number) (told_effect_at op e who request t.number).after) (sym is) by;
        });
      }

-- ---- a Delete

module _ (e : EntityData) (request : RequestParts) (t : ResourceData) (there : at t.number e.nodes ≡ Some t) where
  pub delete_told : IsToldByRight e request (told_effect_at Delete e (claimed_originator e.home request) request t.number).reply
  delete_told = comes_at e request t there Delete (λ x. IsToldByRight e request x.reply) (λ f other. tells_nothing e request f) (λ none. tells_nothing e request Deleted)

-- ---- what was served

-- where it was served, no place refused it
pub unrefused : (op : Op) (e : EntityData) (request : RequestParts) (t : ResourceData) (there : at t.number e.nodes ≡ Some t) → is_success (told_effect_at op e (claimed_originator e.home request) request t.number).reply.rsc ≡ true → fault_on op e (claimed_originator e.home request) request t ≡ None
unrefused op e request t there served = by_place (fault_on op e (claimed_originator e.home request) request t) refl
  where
    by_place : (fault : Option Rsc) → fault_on op e (claimed_originator e.home request) request t ≡ fault → fault_on op e (claimed_originator e.home request) request t ≡ None
    by_place None is = is
    by_place (Some f) is =
        absurd (true≢false (sym served ∙ ap (λ (x : Effect). is_success x.reply.rsc) (told_refused op e request t there f is) ∙ refuses_on op e request t there f is))
