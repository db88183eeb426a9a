-- The order of refusals holds of a Retrieve.
use Rattle.machine_laws.proofs.Words.{◌≡◌, ℕ, List, Bool, true, false, Option, Some, None, inl, inr, refl, sym, ap, ◌∙◌, option_map_or}
use Rattle.machine_laws.proofs.Terms.{Rsc, NoPrivilege, NotFound, Retrieve, RequestParts, ResourceData, at, grants, EntityData, reading_bit, refusal, fault_on, is_discovery, may_do, retrieved_of, reading_reply, claimed_originator}
use Rattle.machine_laws.proofs.Facts.{cases_Bool, same_Some, reading_found, reading_shown}
use Rattle.machine_laws.specs.Order.{RetrievesAreRefusedInOrder}

module _ (e : EntityData) (request : RequestParts) (r : ResourceData) (there : at r.number e.nodes ≡ Some r) where
  abbrev o : List ℕ
  o = claimed_originator e.home request

  -- without its right it is answered that
  refused_without : (looks : Bool) → is_discovery request ≡ looks → grants e.home e.nodes o (reading_bit looks) r.number ≡ false → reading_reply e request r.number ≡ refusal request NoPrivilege
  refused_without true d none = reading_found e request r.number o refl d ∙ rw none refl
  refused_without false d none =
      let of : retrieved_of e.home e.nodes o request r ≡ refusal request NoPrivilege = rw none refl in
      reading_shown e request r.number o refl d
      ∙ ap (λ (x : Option ResourceData). option_map_or (retrieved_of e.home e.nodes o request) x (refusal request NotFound)) there
      ∙ of

  pub refused_in_order : (fault : Rsc) → fault_on Retrieve e o request r ≡ Some fault → reading_reply e request r.number ≡ refusal request fault
  refused_in_order fault is = elim (cases_Bool (may_do Retrieve e o request r.number)) [
    | inl t ↦
        let passes : fault_on Retrieve e o request r ≡ None = rw t refl in
        let none : None ≡ Some fault = sym passes ∙ is in cc
    | inr f ↦
        let refuses : fault_on Retrieve e o request r ≡ Some NoPrivilege = rw f refl in
        refused_without (is_discovery request) refl f
        ∙ ap (refusal request) (same_Some NoPrivilege fault (sym refuses ∙ is))
  ]

pub retrieves_in_order : RetrievesAreRefusedInOrder
retrieves_in_order e request target fault there is = refused_in_order e request target there fault is
