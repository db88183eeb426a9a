-- What an operation on a resource gives is guarded, sound and of the same entity.
use Rattle.guard_laws.proofs.Words.{◌≡◌, ℕ, List, Bool, true, false, cond, Some, inl, refl, sym, ap, subst, ◌∙◌}
use Rattle.m2m_names.specs.StatusCodes.{is_success}
use Rattle.guard_laws.proofs.ReadingLemmas.{Reading, found_read, reading, refused_read, shown_read}
use Rattle.guard_laws.proofs.Terms.{is_originator, Rsc, Op, Create, Retrieve, Update, Delete, Notify, ReplyParts, RequestParts, ResourceData, at, grants, EntityData, reading_bit, refusal, refused, Effect, IsSoundEntity, is_discovery, may_do, discovered, retrieved, told_effect_at, addressed, change_effect, operation_effect, reading_reply, claimed_originator, has_right}
use Rattle.guard_laws.proofs.Facts.{discovered_by_right, retrieved_by_right, told_stays_sound, changing_at}
use Rattle.guard_laws.specs.Guard.{DoesShow, HasRight, IsGuardedAlone}
use Rattle.guard_laws.proofs.ChangingLemmas.{IsToldByRight, tells_nothing, shows_none, change_guarded, create_told, delete_told, update_told}
use Rattle.guard_laws.proofs.OwnLemmas.{apart_addresses}
use Rattle.guard_laws.proofs.RelayLemmas.{relay_guarded, relay_sound}

-- ---- where nothing changes

-- a reply that leaves the entity as it is
still : (e : EntityData) (request : RequestParts) (reply : ReplyParts) → (DoesShow reply → HasRight e request) → IsToldByRight e request reply → IsGuardedAlone e request reply e
still e request reply shown others = record { shown = shown; others = others; changes = inl refl }

-- ---- what comes of a request

abbrev pub IsGuardedIn : EntityData → RequestParts → Effect → Type 0
IsGuardedIn e request effect = IsGuardedAlone e request effect.reply effect.after

pub refused_guarded : (e : EntityData) (request : RequestParts) (fault : Rsc) → is_success fault ≡ false → IsGuardedIn e request (refused e request fault)
refused_guarded e request fault other =
    still e request (refusal request fault) (λ shows. absurd (shows_none request fault other shows)) (tells_nothing e request fault)

-- ---- reading

module _ (e : EntityData) (sound : IsSoundEntity e) (request : RequestParts) (r : ResourceData) where
  abbrev o : List ℕ
  o = claimed_originator e.home request

  one_of : (b : Bool) (x y : ReplyParts) → IsToldByRight e request x → IsToldByRight e request y → IsToldByRight e request (cond b x y)
  one_of true x y first second = first
  one_of false x y first second = second

  -- what it tells of others
  tells : IsToldByRight e request (reading_reply e request r.number)
  tells =
      one_of (is_discovery request) (discovered e.home e.nodes o request r.number) (retrieved e.home e.nodes o request r.number)
      (discovered_by_right e.home e.nodes o (apart_addresses e sound) request r.number) (retrieved_by_right e.home e.nodes o (apart_addresses e sound) request r.number)

  -- the right that it needs
  right_is : (discovers : Bool) → request.op ≡ Retrieve → is_discovery request ≡ discovers → grants e.home e.nodes o (reading_bit discovers) r.number ≡ true → has_right e request r.number ≡ true
  right_is discovers op is right =
      ap (λ (p : Op). may_do p e o request r.number) op
      ∙ ap (λ (d : Bool). grants e.home e.nodes o (reading_bit d) r.number) is ∙ right

  -- what it shows, it shows by that right
  shows_by_right : (reply : ReplyParts) → addressed e request.to ≡ Some r → request.op ≡ Retrieve → Reading e request r reply → DoesShow reply → HasRight e request
  shows_by_right reply named op (refused_read fault other is) shows = absurd (shows_none request fault other (subst DoesShow is shows))
  shows_by_right reply named op (found_read d right) shows = record { target = r; named = named; right = right_is true op d right }
  shows_by_right reply named op (shown_read d right) shows = record { target = r; named = named; right = right_is false op d right }

  pub read_guarded : addressed e request.to ≡ Some r → request.op ≡ Retrieve → at r.number e.nodes ≡ Some r → IsGuardedAlone e request (reading_reply e request r.number) e
  read_guarded named op there =
      still e request (reading_reply e request r.number)
      (shows_by_right (reading_reply e request r.number) named op (reading e request r there)) tells

-- ---- an operation on a resource

-- what an operation on what its address names gives
module _ (e : EntityData) (request : RequestParts) (r : ResourceData) (there : at r.number e.nodes ≡ Some r) where
  -- what comes of a change, as what is done on the resource of the number
  as_changed : (op : Op) (P : Effect → Type 0) → P (told_effect_at op e (claimed_originator e.home request) request r.number) → P (change_effect op e request r)
  as_changed op P holds = subst P (sym (changing_at op e request r there)) holds

  pub operated_guarded : (op : Op) → IsSoundEntity e → is_originator (claimed_originator e.home request) ≡ true → request.op ≡ op → addressed e request.to ≡ Some r → IsGuardedIn e request (operation_effect op e request r)
  operated_guarded Create sound originator op named =
      as_changed Create (IsGuardedIn e request) (change_guarded e request r there Create sound originator named op (create_told e request r there))
  operated_guarded Retrieve sound originator op named = read_guarded e sound request r named op there
  operated_guarded Update sound originator op named =
      as_changed Update (IsGuardedIn e request) (change_guarded e request r there Update sound originator named op (update_told e request r there))
  operated_guarded Delete sound originator op named =
      as_changed Delete (IsGuardedIn e request) (change_guarded e request r there Delete sound originator named op (delete_told e request r there))
  operated_guarded Notify sound originator op named = relay_guarded e request r there named op

  pub operated_sound : (op : Op) → IsSoundEntity e → is_originator (claimed_originator e.home request) ≡ true → IsSoundEntity (operation_effect op e request r).after
  operated_sound Create sound originator =
      as_changed Create (λ x. IsSoundEntity x.after) (told_stays_sound Create e (claimed_originator e.home request) request r.number sound originator)
  operated_sound Retrieve sound originator = sound
  operated_sound Update sound originator =
      as_changed Update (λ x. IsSoundEntity x.after) (told_stays_sound Update e (claimed_originator e.home request) request r.number sound originator)
  operated_sound Delete sound originator =
      as_changed Delete (λ x. IsSoundEntity x.after) (told_stays_sound Delete e (claimed_originator e.home request) request r.number sound originator)
  operated_sound Notify sound originator = relay_sound e request r there sound
