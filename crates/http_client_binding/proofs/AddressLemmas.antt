-- An address is read back from its path.
use Rattle.std.proofs.Common.{◌≡◌, ℕ, Bool, true, false, not, ◌&&◌, nat_eq, List, ◌∷◌, ◌++◌, drop, codes, IsTrue, refl, sym, ap, ◌∙◌}
use Rattle.std.specs.Bool.{if◌then◌else◌}
use Rattle.std.specs.List.{starts_with}
use Rattle.std.proofs.lemmas.Bool.{and_parts, cond-true, cond-false, not-true}
use Rattle.http_uri.specs.ByteClasses.{slash}
use Rattle.http_target.specs.Targets.{has_segment, is_of_sp, has_provider, is_of_world, address_of_path}
use Rattle.http_client_binding.specs.TargetWriting.{path_of_address, has_own_path}
use Rattle.m2m_names.proofs.NameLemmas.{starts_rest}

-- the path of `//s/c`, of `/c`, and of an address of neither kind
world_back : (rest : List ℕ) → has_provider rest ≡ true → address_of_path (codes "/_" ++ slash ∷ rest) ≡ slash ∷ slash ∷ rest
world_back rest h = cond-true _ _ _ h

sp_back : (rest : List ℕ) → has_segment rest ≡ true → address_of_path (codes "/~" ++ slash ∷ rest) ≡ slash ∷ rest
sp_back rest h = cond-true _ _ _ h

plain_back : (to : List ℕ) → (not (is_of_sp (slash ∷ to)) && not (is_of_world (slash ∷ to))) ≡ true → address_of_path (slash ∷ to) ≡ to
plain_back to h =
    let parts = and_parts (not (is_of_sp (slash ∷ to))) (not (is_of_world (slash ∷ to))) h in
    cond-false _ _ _ (not-true (is_of_sp (slash ∷ to)) parts.0) ∙ cond-false _ _ _ (not-true (is_of_world (slash ∷ to)) parts.1)

by_front : (to : List ℕ) (two one : Bool) → starts_with nat_eq to (codes "//") ≡ two → starts_with nat_eq to (codes "/") ≡ one
    → (if two then has_provider (drop 2 to) else (if one then has_segment (drop 1 to) else not (is_of_sp (slash ∷ to)) && not (is_of_world (slash ∷ to)))) ≡ true
    → address_of_path (if two then codes "/_" ++ drop 1 to else (if one then codes "/~" ++ to else slash ∷ to)) ≡ to
by_front to true one is_two is_one h =
    let rest = drop 2 to in
    let is : to ≡ slash ∷ slash ∷ rest = starts_rest to (codes "//") is_two in
    ap (λ t. address_of_path (codes "/_" ++ drop 1 t)) is ∙ world_back rest h ∙ sym is
by_front to false true is_two is_one h =
    let rest = drop 1 to in
    let is : to ≡ slash ∷ rest = starts_rest to (codes "/") is_one in
    ap (λ t. address_of_path (codes "/~" ++ t)) is ∙ sp_back rest h ∙ sym is
by_front to false false is_two is_one h = plain_back to h

pub address_back : (to : List ℕ) → IsTrue (has_own_path to) → address_of_path (path_of_address to) ≡ to
address_back to h = by_front to (starts_with nat_eq to (codes "//")) (starts_with nat_eq to (codes "/")) refl refl h
