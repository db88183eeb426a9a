-- Laws of targets.
use Rattle.std.specs.Prelude.{◌≡◌, ◌≢◌, ◌↔◌, ℕ, List, IsTrue, Option, Some, None, codes}
use Rattle.http_uri.specs.Grammar.{IsAuthority, IsUriText}
use Rattle.http_target.specs.Targets.{PathAndQuery, split_target, target_parts, is_authority}

-- What is taken for an authority is what the crate http_uri reads as one.
abbrev pub AuthoritiesAreOfUris : Type 0
AuthoritiesAreOfUris = (text : List ℕ) → IsTrue (is_authority text) ↔ IsAuthority text

-- The text is a URI as the crate http_uri reads it, with a path: no `*`, and no authority alone.
-- This is its path, with its query.
pub record IsUriWithPath (text : List ℕ) (parts : PathAndQuery) : Type 0 where
  pub scheme : Option (List ℕ)
  pub authority : Option (List ℕ)
  pub kept : List ℕ
  pub spells : IsUriText text scheme authority kept
  pub no_asterisk : text ≢ codes "*"
  pub not_alone : scheme ≡ None → authority ≡ None
  pub cut : parts ≡ split_target kept

-- What is taken for a target is what the crate http_uri reads as a URI with a path, and its path
-- and query are those of that URI (RFC 9112, section 3.2).
abbrev pub TargetsAreOfUris : Type 0
TargetsAreOfUris = (target : List ℕ) (parts : PathAndQuery)
    → (target_parts target ≡ Some parts) ↔ IsUriWithPath target parts
