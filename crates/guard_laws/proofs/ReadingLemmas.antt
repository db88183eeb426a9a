-- What reading a resource gives.
use Rattle.guard_laws.proofs.Words.{◌≡◌, ℕ, List, true, false, Option, Some, inl, inr, refl, sym, ap, subst, ◌∙◌, option_map_or}
use Rattle.m2m_names.specs.StatusCodes.{is_success}
use Rattle.guard_laws.proofs.Terms.{Rsc, NotFound, NoPrivilege, ReplyParts, RequestParts, ResourceData, at, grants, discovery_bit, retrieve_bit, EntityData, refusal, refused, discovered, retrieved, retrieved_of, reading_reply, is_discovery, claimed_originator}
use Rattle.guard_laws.proofs.Facts.{cases_Bool}

-- ---- reading

-- reading is refused; or it looks for resources by DISCOVERY, or shows by RETRIEVE
pub data Reading (e : EntityData) (request : RequestParts) (r : ResourceData) (reply : ReplyParts) : Type 0 where
  refused_read : (fault : Rsc) → is_success fault ≡ false → reply ≡ refusal request fault → Reading e request r reply
  found_read : is_discovery request ≡ true → grants e.home e.nodes (claimed_originator e.home request) discovery_bit r.number ≡ true → Reading e request r reply
  shown_read : is_discovery request ≡ false → grants e.home e.nodes (claimed_originator e.home request) retrieve_bit r.number ≡ true → Reading e request r reply

module _ (e : EntityData) (request : RequestParts) (r : ResourceData) (there : at r.number e.nodes ≡ Some r) where
  abbrev o : List ℕ
  o = claimed_originator e.home request

  found_way : is_discovery request ≡ true → Reading e request r (discovered e.home e.nodes o request r.number)
  found_way d = elim (cases_Bool (grants e.home e.nodes o discovery_bit r.number)) [
    | inl t ↦ found_read d t
    | inr f ↦ refused_read NoPrivilege refl (rw f refl)
  ]

  shown_way : is_discovery request ≡ false → Reading e request r (retrieved_of e.home e.nodes o request r)
  shown_way d = elim (cases_Bool (grants e.home e.nodes o retrieve_bit r.number)) [
    | inr f ↦ refused_read NoPrivilege refl (rw f refl)
    | inl t ↦ shown_read d t
  ]

  pub reading : Reading e request r (reading_reply e request r.number)
  reading = elim (cases_Bool (is_discovery request)) [
    | inl d ↦ (let is : reading_reply e request r.number ≡ discovered e.home e.nodes o request r.number = rw d refl in subst (Reading e request r) (sym is) (found_way d))
    | inr d ↦
        let is : reading_reply e request r.number ≡ retrieved e.home e.nodes o request r.number = rw d refl in
        let of : retrieved e.home e.nodes o request r.number ≡ retrieved_of e.home e.nodes o request r =
        ap (λ (x : Option ResourceData). option_map_or (retrieved_of e.home e.nodes o request) x (refusal request NotFound)) there in
        subst (Reading e request r) (sym (is ∙ of)) (shown_way d)
  ]
