-- The short form of an originator is one.
use Rattle.std.specs.Prelude.{codes, drop, nat_eq, nat_lt, take}
use Rattle.std.proofs.Common.{◌≡◌, ℕ, ◌≤◌, true, ◌&&◌, List, length, Option, Some, None, IfSome, Bor, inl, inr, refl, sym, ap, subst, ◌∙◌, arith}
use Rattle.std.specs.Char.{is_ascii_graphic}
use Rattle.std.specs.List.{list_all, starts_with}
use Rattle.std.specs.Option.{option_and_then, option_map, unwrap_or}
use Rattle.std.proofs.lemmas.Bool.{and_from, and_parts, cases_Bool, le-leb}
use Rattle.std.proofs.lemmas.List.{length-drop, take-append-drop}
use Rattle.std.proofs.lemmas.Option.{same_Some}
use Rattle.m2m_names.specs.Name.{is_originator, originator_limit}
use Rattle.resource_model.specs.Home.{HomeData}
use Rattle.addressing.specs.Short.{behind, behind_cse, behind_provider, chosen, ends_part, short_of, shortened, without_cse, without_provider}
use Rattle.m2m_names.proofs.NameLemmas.{printable_parts}
use Rattle.m2m_names.proofs.ListLemmas.{append_parts}

-- the end of a text: as printable, and no longer
pub record Ends (s t : List ℕ) : Type 0 where
  pub graphic : list_all is_ascii_graphic s ≡ true → list_all is_ascii_graphic t ≡ true
  pub size : length t ≤ length s

itself : (s : List ℕ) → Ends s s
itself s = record { graphic = λ h. h; size = omega arith }

further : (r s t : List ℕ) → Ends r s → Ends s t → Ends r t
further r s t a b = record { graphic = λ h. b.graphic (a.graphic h); size = omega (arith, a.size, b.size) }

dropped : (n : ℕ) (s : List ℕ) → Ends s (drop n s)
dropped n s = record {
  graphic = λ h. (append_parts is_ascii_graphic (take n s) (drop n s) (ap (list_all is_ascii_graphic) (take-append-drop n s) ∙ h)).back;
  size = omega (arith, length-drop n s);
}

behind_ends : (front s t : List ℕ) → behind front s ≡ Some t → Ends s t
behind_ends front s t e = elim (cases_Bool (starts_with nat_eq s front)) [
  | inl is ↦ subst (Ends s) (same_Some (drop (length front) s) t (rw is at e)) (dropped (length front) s)
  | inr f ↦ (let none : None ≡ Some t = rw f at e in cc)
]

then_behind : (front s t : List ℕ) (o : Option (List ℕ)) → ((r : List ℕ) → o ≡ Some r → Ends s r) → option_and_then (behind front) o ≡ Some t → Ends s t
then_behind front s t None ends e = let none : None ≡ Some t = e in cc
then_behind front s t (Some r) ends e = further s r t (ends r refl) (behind_ends front r t e)

provider_ends : (home : HomeData) (s : List ℕ) → Ends s (without_provider home s)
provider_ends home s = by_found (behind_provider home s) (λ r e. then_behind home.sp s r (behind (codes "//") s) (λ q. behind_ends (codes "//") s q) e)
  where
    by_found : (o : Option (List ℕ)) → ((r : List ℕ) → o ≡ Some r → Ends s r) → Ends s (chosen o s)
    by_found None ends = itself s
    by_found (Some r) ends = elim (cases_Bool (ends_part r)) [
      | inl t ↦ rw t (ends r refl)
      | inr f ↦ rw f (itself s)
    ]

cse_ends : (home : HomeData) (s : List ℕ) → Ends s (without_cse home s)
cse_ends home s = by_found (behind_cse home s) (λ r e. then_behind (codes "/") s r _ (λ q h. then_behind home.csi s q (behind (codes "/") s) (λ p. behind_ends (codes "/") s p) h) e)
  where
    by_found : (o : Option (List ℕ)) → ((r : List ℕ) → o ≡ Some r → Ends s r) → Ends s (unwrap_or o s)
    by_found None ends = itself s
    by_found (Some r) ends = ends r refl

pub short_is_originator : (home : HomeData) (text t : List ℕ) → short_of home text ≡ Some t → is_originator t ≡ true
short_is_originator home text t e = elim (cases_Bool (is_originator text && nat_lt 0 (length (shortened home text)))) [
  | inr f ↦ (let none : None ≡ Some t = rw f at e in cc)
  | inl h ↦
      let both = and_parts (is_originator text) (nat_lt 0 (length (shortened home text))) h in
      let parts = printable_parts originator_limit text both.0 in
      let most : length text ≤ 256 = parts.filled.most in
      let ends : Ends text (shortened home text) = further text (without_provider home text) (shortened home text) (provider_ends home text) (cse_ends home (without_provider home text)) in
      subst (λ s. is_originator s ≡ true) (same_Some (shortened home text) t (rw h at e))
      (and_from _ _ (and_from _ _ both.1 (le-leb (length (shortened home text)) 256 (omega (arith, most, ends.size)))) (ends.graphic parts.graphic))
]

pub some_is_originator : (home : HomeData) (text : List ℕ) (r : Option (Bor (List ℕ))) → option_map (λ t. t.now) r ≡ short_of home text → IfSome r (λ t. is_originator t.now ≡ true)
some_is_originator home text None e = tt
some_is_originator home text (Some t) e = short_is_originator home text t.now (sym e)
