use Rattle.std.proofs.Common.{◌≡◌, ◌++◌, ◌⊎◌, ℕ, List, Option, false, map, Bor, sym, ap, subst, ◌∙◌}
use Rattle.std.specs.Prelude.{IfOk, IfErr, IsTrue, option_map}
use Rattle.addressing.specs.declared.addr.AddrFault.TheVariants.{OutOfMemory, Shape}
use Rattle.addressing.specs.Addresses.{are_names, between_slashes, parts_left}
use Rattle.addressing.proofs.reading.names_in.Goals as goal

pub more_names-requires : goal.more_names-requires
more_names-requires c =
    ap (λ (ns : List (Bor (List ℕ))). are_names (map (λ n. n.now) ns)) c.as_slice.ensures.value ∙ c.loop-left.invariant.1

pub returns-then-is_full-clause-ok : goal.returns-then-is_full-clause-ok
returns-then-is_full-clause-ok c =
    let all : map (λ n. n.now) c.as_slice.result.now ++ between_slashes c.in-Some.rest.now ≡ between_slashes c.args.text.now =
    ap (λ (ns : List (Bor (List ℕ))). map (λ n. n.now) ns ++ between_slashes c.in-Some.rest.now) c.as_slice.ensures.value
    ∙ ap (λ (o : Option (Bor (List ℕ))). map (λ n. n.now) c.loop-left.names.items ++ parts_left (option_map (λ t. t.now) o)) (sym c.in-Some.is)
    ∙ c.loop-left.invariant.0 in
    subst (λ (ps : List (List ℕ)). IfOk c.more_names.result (λ names. (names ≡ ps) × IsTrue (are_names ps))) all c.more_names.ensures.ok

pub returns-then-is_full-clause-err : goal.returns-then-is_full-clause-err
returns-then-is_full-clause-err c =
    let all : map (λ n. n.now) c.as_slice.result.now ++ between_slashes c.in-Some.rest.now ≡ between_slashes c.args.text.now =
    ap (λ (ns : List (Bor (List ℕ))). map (λ n. n.now) ns ++ between_slashes c.in-Some.rest.now) c.as_slice.ensures.value
    ∙ ap (λ (o : Option (Bor (List ℕ))). map (λ n. n.now) c.loop-left.names.items ++ parts_left (option_map (λ t. t.now) o)) (sym c.in-Some.is)
    ∙ c.loop-left.invariant.0 in
    subst (λ (ps : List (List ℕ)). IfErr c.more_names.result (λ fault. (fault ≡ OutOfMemory) ⊎ ((fault ≡ Shape) × (are_names ps ≡ false)))) all c.more_names.ensures.err
