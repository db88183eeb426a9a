-- Who asks, and what is read.
use Rattle.std.specs.Prelude.{nat_lt, unwrap_or}
use Rattle.std.proofs.Common.{◌≡◌, ℕ, List, length, true, ◌&&◌, Option, Some, None, is_some, inl, inr, refl, ap, ◌∙◌}
use Rattle.std.specs.Option.{option_and_then}
use Rattle.std.proofs.lemmas.Bool.{cases_Bool, false≢true}
use Rattle.std.proofs.lemmas.Option.{same_Some}
use Rattle.m2m_names.specs.Name.{is_originator}
use Rattle.primitive_json.specs.declared.request.RequestParts.{RequestParts}
use Rattle.resource_model.specs.Home.{HomeData}
use Rattle.addressing.specs.Short.{short_of, shortened}
use Rattle.addressing.proofs.ShortLemmas.{short_is_originator}
use Rattle.cse_machine.specs.Answer.{has_originator, is_registration, said_originator}
use Rattle.request_rules.specs.Creation.{c_stem}
use Rattle.group_fanout.specs.Rights.{claimed_originator}

-- ---- who asks

pub short_is : (home : HomeData) (text o : List ℕ) → short_of home text ≡ Some o → shortened home text ≡ o
short_is home text o e = elim (cases_Bool (is_originator text && nat_lt 0 (length (shortened home text)))) [
  | inl t ↦ same_Some (shortened home text) o (rw t at e)
  | inr f ↦ (let none : None ≡ Some o = rw f at e in cc)
]

pub claimed_is : (home : HomeData) (request : RequestParts) (o : List ℕ) → option_and_then (short_of home) (said_originator request) ≡ Some o → claimed_originator home request ≡ o
claimed_is home request o said = elim (cases_Bool (is_registration request)) [
  | inl t ↦ short_is home (unwrap_or request.fr c_stem) o (rw t at said)
  | inr f ↦ by_fr request.fr (rw f at said)
]
  where
    by_fr : (fr : Option (List ℕ)) → option_and_then (short_of home) fr ≡ Some o → shortened home (unwrap_or fr c_stem) ≡ o
    by_fr None e = let none : None ≡ Some o = e in cc
    by_fr (Some text) e = short_is home text o e

originator_of : (home : HomeData) (said : Option (List ℕ)) (o : List ℕ) → option_and_then (short_of home) said ≡ Some o → is_originator o ≡ true
originator_of home None o is = let none : None ≡ Some o = is in cc
originator_of home (Some text) o is = short_is_originator home text o is

-- who asks so, is an originator
pub claimed_valid : (home : HomeData) (request : RequestParts) → has_originator home request ≡ true → is_originator (claimed_originator home request) ≡ true
claimed_valid home request has = by_short (option_and_then (short_of home) (said_originator request)) refl has
  where
    by_short : (short : Option (List ℕ)) → option_and_then (short_of home) (said_originator request) ≡ short → is_some short ≡ true → is_originator (claimed_originator home request) ≡ true
    by_short None is some = absurd (false≢true some)
    by_short (Some o) is some =
        ap is_originator (claimed_is home request o is) ∙ originator_of home (said_originator request) o is
