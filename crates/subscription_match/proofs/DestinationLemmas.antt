-- The texts of URLs.
use Rattle.std.specs.Prelude.{is_some, IfSome, IfNone}
use Rattle.std.proofs.Common.{◌≡◌, ℕ, List, false, Option, Some, None, refl, sym, ap}
use Rattle.m2m_names.specs.UrlReading.{host_end_at}
use Rattle.m2m_names.specs.Urls.{IsUrl}
use Rattle.m2m_names.proofs.UrlLemmas.{url_found, url_only}
use Rattle.subscription_match.specs.Destinations.{is_url}

-- what a reader tells of a text
pub url_told : {A : Type 0} (text : List ℕ) (place : A → ℕ) (r : Option A) → IfSome r (λ p. IsUrl text (place p)) → IfNone r ((n : ℕ) → ¬ (IsUrl text n)) → is_some r ≡ is_url text
url_told text place (Some p) found none = ap is_some (sym (url_only text (place p) found))
url_told text place None found none = no_url (host_end_at text) refl
  where
    no_url : (o : Option ℕ) → host_end_at text ≡ o → false ≡ is_some (host_end_at text)
    no_url None is = ap is_some (sym is)
    no_url (Some n) is = absurd (none n (url_found text n is))
