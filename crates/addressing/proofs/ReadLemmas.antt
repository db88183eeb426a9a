-- The steps by which a text is read.
use Rattle.std.proofs.Common.{◌≡◌, ℕ, true, false, List, [], ◌∷◌, ◌++◌, map, Bor, Option, Some, None, Result, Err, inl, inr, refl, sym, ap, subst, ◌∙◌, append_assoc, append-nil}
use Rattle.std.specs.Option.{option_and_then}
use Rattle.std.proofs.lemmas.Bool.{and_from, cases_Bool, false_from_ne_true, both_ways}
use Rattle.std.proofs.lemmas.List.{map-append}
use Rattle.std.proofs.lemmas.List.Folds.{list_all-append}
use Rattle.m2m_names.specs.Name.{is_name}
use Rattle.resource_model.specs.Home.{HomeData}
use Rattle.addressing.specs.declared.addr.Addr.{Addr}
use Rattle.addressing.specs.declared.addr.AddrFault.{AddrFault}
use Rattle.addressing.specs.declared.addr.AddrFault.TheVariants.{Shape}
use Rattle.addressing.specs.Addresses.{GivesAddress, MayTakeMemory, are_names, by_cse, by_names, by_provider, cut_at, of_provider, between_slashes, under, unless_shapeless}
use Rattle.addressing.proofs.PartLemmas.{parts_by, parts_by_cut, names_parts}
use Rattle.m2m_names.proofs.ListLemmas.{append_parts}

-- ---- the first part

pub parts_cut : (text : List ℕ) (cut : List ℕ × List ℕ) → Some cut ≡ cut_at text → between_slashes text ≡ cut.0 ∷ between_slashes cut.1
parts_cut text cut is = parts_by_cut text ∙ ap (λ o. parts_by o text) (sym is)

pub parts_alone : (text : List ℕ) → None ≡ cut_at text → between_slashes text ≡ text ∷ []
parts_alone text is = parts_by_cut text ∙ ap (λ o. parts_by o text) (sym is)

-- ---- behind slashes

pub by_cse_cut : (home : HomeData) (rest front behind : List ℕ) (r : Result Addr AddrFault) → Some (front, behind) ≡ cut_at rest → GivesAddress r (unless_shapeless (under home rest (front ∷ between_slashes behind))) → GivesAddress r (unless_shapeless (by_cse home rest))
by_cse_cut home rest front behind r is gives =
    let cut : List ℕ × List ℕ = (front, behind) in
    subst (λ parts. GivesAddress r (unless_shapeless (under home rest parts))) (sym (parts_cut rest cut is)) gives

pub by_cse_alone : (home : HomeData) (rest : List ℕ) (r : Result Addr AddrFault) → None ≡ cut_at rest → GivesAddress r (unless_shapeless (under home rest (rest ∷ []))) → GivesAddress r (unless_shapeless (by_cse home rest))
by_cse_alone home rest r is gives =
    subst (λ parts. GivesAddress r (unless_shapeless (under home rest parts))) (sym (parts_alone rest is)) gives

pub by_provider_cut : (home : HomeData) (rest sp behind : List ℕ) (r : Result Addr AddrFault) → Some (sp, behind) ≡ cut_at rest → GivesAddress r (unless_shapeless (of_provider home sp behind)) → GivesAddress r (unless_shapeless (by_provider home rest))
by_provider_cut home rest sp behind r is gives =
    subst (λ (o : Option (List ℕ × List ℕ)). GivesAddress r (unless_shapeless (option_and_then (λ (cut : List ℕ × List ℕ). of_provider home cut.0 cut.1) o))) is gives

pub by_provider_alone : (home : HomeData) (rest : List ℕ) → None ≡ cut_at rest → unless_shapeless (by_provider home rest) ≡ Err Shape
by_provider_alone home rest is =
    ap (λ (o : Option (List ℕ × List ℕ)). unless_shapeless (option_and_then (λ (cut : List ℕ × List ℕ). of_provider home cut.0 cut.1) o)) (sym is)

-- ---- names, one after another

-- whether they are names or not
pub names_may_take : (text : List ℕ) → MayTakeMemory (unless_shapeless (by_names text))
names_may_take text = elim (cases_Bool (are_names (between_slashes text))) [
  | inl t ↦ rw t tt
  | inr f ↦ rw f tt
]

pub names_push : (names : List (Bor (List ℕ))) (name : Bor (List ℕ)) → are_names (map (λ t. t.now) names) ≡ true → is_name name.now ≡ true → are_names (map (λ t. t.now) (names ++ name ∷ [])) ≡ true
names_push names name are is =
    ap are_names (map-append (λ (t : Bor (List ℕ)). t.now) names (name ∷ []))
    ∙ list_all-append is_name (map (λ (t : Bor (List ℕ)). t.now) names) (name.now ∷ [])
    ∙ and_from _ _ are (and_from _ _ is refl)

pub parts_push : (names : List (Bor (List ℕ))) (parts rest all : List (List ℕ)) (name : Bor (List ℕ)) → map (λ t. t.now) names ++ parts ≡ all → parts ≡ name.now ∷ rest → map (λ t. t.now) (names ++ name ∷ []) ++ rest ≡ all
parts_push names parts rest all name before is =
    ap (λ ns. ns ++ rest) (map-append (λ (t : Bor (List ℕ)). t.now) names (name ∷ []))
    ∙ append_assoc (map (λ (t : Bor (List ℕ)). t.now) names) (name.now ∷ []) rest
    ∙ ap (λ ps. map (λ (t : Bor (List ℕ)). t.now) names ++ ps) (sym is) ∙ before

pub names_fail : (names parts rest all : List (List ℕ)) (name : List ℕ) → names ++ parts ≡ all → parts ≡ name ∷ rest → is_name name ≡ false → are_names all ≡ false
names_fail names parts rest all name before is none = false_from_ne_true _ (λ are.
    let whole : are_names (names ++ name ∷ rest) ≡ true = ap (λ ps. are_names (names ++ ps)) (sym is) ∙ ap are_names before ∙ are in
    let later = (append_parts is_name names (name ∷ rest) whole).back in
    both_ways (is_name name) none (names_parts name rest later).first)

pub all_read : (names all : List (List ℕ)) → names ++ [] ≡ all → names ≡ all
all_read names all is = sym (append-nil names) ∙ is

-- an address in absolute form, by whether a CSE is said
pub ruleset by_provider_cases = (by_provider_cut, by_provider_alone)

-- an address with a CSE, by whether anything is said behind it
pub ruleset by_cse_cases = (by_cse_cut, by_cse_alone)

-- the names so far, and where one is none
pub ruleset names_so_far = (names_push, parts_push, names_fail, all_read)
