use Rattle.std.proofs.Common.{◌≡◌, ℕ, Option, Ok, Err, option_map, refl, not, ◌&&◌, ◌||◌, sym, ap, ◌∙◌, subst}
use Rattle.m2m_names.specs.declared.types.Ty.TheVariants.{ContentInstance}
use Rattle.resource_model.specs.Home.{HomeData}
use Rattle.resource_model.specs.Resource.{is_ty}
use Rattle.entity_model.specs.Entity.{EntityData}
use Rattle.entity_model.specs.Places.{first_fault}
use Rattle.request_rules.specs.Asked.{Creation, creation_of}
use Rattle.request_rules.specs.Creation.{has_place, has_room, name_for, takes_instance}
use Rattle.request_rules.specs.Groups.{MembershipData, group_rows, have_addresses, membership_new, membership_of}
use Rattle.request_rules.specs.Judged.{IsCreateBy, Judges}
use Rattle.request_rules.specs.Order.{member_places}
use Rattle.request_rules.proofs.CreatingLemmas.{new_by_addresses, new_by_members, new_by_room, new_by_unique}
use Rattle.request_rules.proofs.JudgedLemmas.{judges_refused}
use Rattle.request_rules.proofs.refusing.judge_creation.Goals as goal

pub returns-then-not-branch : goal.returns-then-not-branch
returns-then-not-branch g c =
    let e = c.args.entity.now in
    let made : Creation = creation_of e c.args.originator.now c.args.ty c.args.parent.now c.args.named.now in
    let asked : option_map membership_of c.membership_new-group.result ≡ membership_new made = c.membership_new-group.ensures in
    let addresses : c.in_ok-have_addresses.field-0 ≡ have_addresses e.home (membership_new made) = c.in_ok-have_addresses.ensures ∙ ap (λ (h : HomeData). have_addresses h (option_map membership_of c.membership_new-group.result)) (ap (λ (x : EntityData). x.home) c.entity.view_is) ∙ ap (have_addresses e.home) asked in
    sym (new_by_addresses made (sym addresses ∙ c.if-not-branch.true))

pub returns-then-not-branch-2 : goal.returns-then-not-branch-2
returns-then-not-branch-2 g c =
    let e = c.args.entity.now in
    let made : Creation = creation_of e c.args.originator.now c.args.ty c.args.parent.now c.args.named.now in
    let asked : option_map membership_of c.membership_new-group.result ≡ membership_new made = c.membership_new-group.ensures in
    let addresses : c.in_ok-have_addresses.field-0 ≡ have_addresses e.home (membership_new made) = c.in_ok-have_addresses.ensures ∙ ap (λ (h : HomeData). have_addresses h (option_map membership_of c.membership_new-group.result)) (ap (λ (x : EntityData). x.home) c.entity.view_is) ∙ ap (have_addresses e.home) asked in
    sym (new_by_unique made (sym addresses ∙ c.if-not-branch.false) (sym c.in_ok-is_unique.ensures ∙ c.if-not-branch-2.true))

pub returns-then-not-has_room : goal.returns-then-not-has_room
returns-then-not-has_room g c =
    let e = c.args.entity.now in
    let made : Creation = creation_of e c.args.originator.now c.args.ty c.args.parent.now c.args.named.now in
    let asked : option_map membership_of c.membership_new-group.result ≡ membership_new made = c.membership_new-group.ensures in
    let addresses : c.in_ok-have_addresses.field-0 ≡ have_addresses e.home (membership_new made) = c.in_ok-have_addresses.ensures ∙ ap (λ (h : HomeData). have_addresses h (option_map membership_of c.membership_new-group.result)) (ap (λ (x : EntityData). x.home) c.entity.view_is) ∙ ap (have_addresses e.home) asked in
    let room : c.has_room.result ≡ has_room made = c.has_room.ensures ∙ ap (λ (n : ℕ). has_place e c.args.parent.now.number && (not (is_ty c.args.ty ContentInstance) || takes_instance c.args.parent.now n)) c.size_named-size.ensures in
    sym (new_by_room made (sym addresses ∙ c.if-not-branch.false) (sym c.in_ok-is_unique.ensures ∙ c.if-not-branch-2.false) (sym room ∙ c.if-not-has_room.true))

pub returns : goal.returns
returns g c =
    let e = c.args.entity.now in
    let made : Creation = creation_of e c.args.originator.now c.args.ty c.args.parent.now c.args.named.now in
    let asked : option_map membership_of c.membership_new-group.result ≡ membership_new made = c.membership_new-group.ensures in
    let addresses : c.in_ok-have_addresses.field-0 ≡ have_addresses e.home (membership_new made) = c.in_ok-have_addresses.ensures ∙ ap (λ (h : HomeData). have_addresses h (option_map membership_of c.membership_new-group.result)) (ap (λ (x : EntityData). x.home) c.entity.view_is) ∙ ap (have_addresses e.home) asked in
    let room : c.has_room.result ≡ has_room made = c.has_room.ensures ∙ ap (λ (n : ℕ). has_place e c.args.parent.now.number && (not (is_ty c.args.ty ContentInstance) || takes_instance c.args.parent.now n)) c.size_named-size.ensures in
    judges_refused c.in-Err.refusal _ _ (λ rows. rows.items ≡ group_rows e (option_map membership_of c.membership_new-group.result)) (IsCreateBy e c.args.ty c.args.parent.now c.args.named.now)
    (sym (new_by_members made (sym addresses ∙ c.if-not-branch.false) (sym c.in_ok-is_unique.ensures ∙ c.if-not-branch-2.false) (sym room ∙ c.if-not-has_room.false))
    ∙ ap (λ (m : Option MembershipData). first_fault (member_places e m)) (sym asked))
    c.in-Err.ensures

pub returns-in-Ok : goal.returns-in-Ok
returns-in-Ok g c =
    let e = c.args.entity.now in
    let made : Creation = creation_of e c.args.originator.now c.args.ty c.args.parent.now c.args.named.now in
    let asked : option_map membership_of c.membership_new-group.result ≡ membership_new made = c.membership_new-group.ensures in
    let addresses : c.in_ok-have_addresses.field-0 ≡ have_addresses e.home (membership_new made) = c.in_ok-have_addresses.ensures ∙ ap (λ (h : HomeData). have_addresses h (option_map membership_of c.membership_new-group.result)) (ap (λ (x : EntityData). x.home) c.entity.view_is) ∙ ap (have_addresses e.home) asked in
    let room : c.has_room.result ≡ has_room made = c.has_room.ensures ∙ ap (λ (n : ℕ). has_place e c.args.parent.now.number && (not (is_ty c.args.ty ContentInstance) || takes_instance c.args.parent.now n)) c.size_named-size.ensures in
    let kept = subst (λ (m : Option MembershipData). Judges (Ok c.in-Ok.members) (first_fault (member_places e m)) (λ rows. rows.items ≡ group_rows e m)) asked c.in-Ok.ensures in (
      sym (new_by_members made (sym addresses ∙ c.if-not-branch.false) (sym c.in_ok-is_unique.ensures ∙ c.if-not-branch-2.false) (sym room ∙ c.if-not-has_room.false))
          ∙ kept.0,
      record {
        parent = refl;
        ty = refl;
        named = refl;
        name = c.in_ok-name.ensures.value ∙ ap (λ (x : EntityData). name_for c.args.ty x.next c.args.named.now) c.entity.view_is;
        utf8 = c.in_ok-name.ensures.utf8;
        expiry = c.expiry_for.ensures.value;
        last = c.expiry_for.ensures.last;
        size = c.size_named-size.ensures;
        members = kept.1;
        links = c.requires.links;
      },
    )

pub is_unique-requires-clause-name : goal.is_unique-requires-clause-name
is_unique-requires-clause-name g c =
    c.in_ok-name.ensures.value ∙ ap (λ (x : EntityData). name_for c.args.ty x.next c.args.named.now) c.entity.view_is
