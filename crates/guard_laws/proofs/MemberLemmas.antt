-- What comes of requests to the members of a group, one after another.
use Rattle.guard_laws.proofs.Words.{◌≡◌, ℕ, zero, suc, List, [], ◌∷◌, take, true, refl, ap, ◌∙◌}
use Rattle.cse_machine.proofs.MemberLemmas.{member_kept, of_member}
use Rattle.guard_laws.proofs.Terms.{is_originator, RequestParts, HomeData, EntityData, IsSoundEntity, Single, after_members, member_effect, requests_to, sent_to, single_of, singles_of, claimed_originator}
use Rattle.guard_laws.specs.Guard.{AreGuarded}
use Rattle.guard_laws.proofs.OperatedLemmas.{IsGuardedIn, operated_guarded, operated_sound, refused_guarded}

-- ---- one after another

-- a request may be sent to each of its members
pub record MaySend (home : HomeData) (request : RequestParts) : Type 0 where
  pub originator : is_originator (claimed_originator home request) ≡ true

-- what each of them leaves so, all of them leave so
pub members_leave : (P : EntityData → Type 0) (request : RequestParts) → ((e : EntityData) (address : List ℕ) → P e → P (member_effect e (sent_to request address)).after) → (addresses : List (List ℕ)) (e : EntityData) → P e → P (after_members e (requests_to request addresses))
members_leave P request each [] e holds = holds
members_leave P request each (address ∷ addresses) e holds =
    members_leave P request each addresses (member_effect e (sent_to request address)).after (each e address holds)

-- a sound entity of a home
pub record IsSoundAt (home : HomeData) (e : EntityData) : Type 0 where
  pub sound : IsSoundEntity e
  pub home_is : e.home ≡ home

module _ (home : HomeData) (request : RequestParts) (may : MaySend home request) where
  asks : (e : EntityData) → e.home ≡ home → is_originator (claimed_originator e.home request) ≡ true
  asks e is = ap (λ (h : HomeData). is_originator (claimed_originator h request)) is ∙ may.originator

  pub member_sound : (e : EntityData) (address : List ℕ) → IsSoundAt home e → IsSoundAt home (member_effect e (sent_to request address)).after
  member_sound e address at_home =
      let one = sent_to request address in
      record {
        sound = of_member e one (λ x. IsSoundEntity x.after) (λ fault other. at_home.sound)
            (λ way. operated_sound e one way.target way.there request.op at_home.sound (asks e at_home.home_is));
        home_is = (member_kept e one).home ∙ at_home.home_is;
      }

  pub members_sound : (addresses : List (List ℕ)) (e : EntityData) → IsSoundAt home e → IsSoundAt home (after_members e (requests_to request addresses))
  members_sound addresses e at_home = members_leave (IsSoundAt home) request member_sound addresses e at_home

  member_guarded : (e : EntityData) (address : List ℕ) → IsSoundAt home e → IsGuardedIn e (sent_to request address) (member_effect e (sent_to request address))
  member_guarded e address at_home =
      let one = sent_to request address in
      of_member e one (IsGuardedIn e one) (λ fault other. refused_guarded e one fault other)
      (λ way. operated_guarded e one way.target way.there request.op at_home.sound (asks e at_home.home_is) refl way.named)

  -- each of them is guarded in the entity that the one before it left
  pub members_guarded : (addresses : List (List ℕ)) (e : EntityData) → IsSoundAt home e → AreGuarded e (singles_of e (requests_to request addresses)) (after_members e (requests_to request addresses))
  members_guarded [] e at_home = refl
  members_guarded (address ∷ addresses) e at_home = (
    member_guarded e address at_home,
    members_guarded addresses (member_effect e (sent_to request address)).after (member_sound e address at_home),
  )

pub take_singles : (done : ℕ) (requests : List RequestParts) (e : EntityData) → take done (singles_of e requests) ≡ singles_of e (take done requests)
take_singles zero requests e = refl
take_singles (suc done) [] e = refl
take_singles (suc done) (request ∷ requests) e =
    ap (λ (singles : List Single). single_of request (member_effect e request) ∷ singles) (take_singles done requests (member_effect e request).after)

-- ---- what changes no resource

module _ (request : RequestParts) (keeps : (e : EntityData) (address : List ℕ) → (member_effect e (sent_to request address)).after.nodes ≡ e.nodes) where
  pub members_still : (addresses : List (List ℕ)) (e : EntityData) → (after_members e (requests_to request addresses)).nodes ≡ e.nodes
  members_still [] e = refl
  members_still (address ∷ addresses) e =
      members_still addresses (member_effect e (sent_to request address)).after ∙ keeps e address
