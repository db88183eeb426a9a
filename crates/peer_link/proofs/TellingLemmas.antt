-- Exchanges that failed.
use Rattle.std.proofs.Common.{◌≡◌, ℕ, List, [], ◌∷◌, ◌++◌, true, Option, Some, None, refl}
use Rattle.std.specs.List.{list_all}
use Rattle.std.proofs.lemmas.Bool.{and_from, and_parts}
use Rattle.m2m_io.specs.Link.{Exchange, told_behind}
use Rattle.peer_link.specs.PeerTalk.{are_unanswered, is_unanswered}

all_failed : (xs : List Exchange) (x : Exchange) → list_all is_unanswered xs ≡ true → is_unanswered x ≡ true → list_all is_unanswered (xs ++ x ∷ []) ≡ true
all_failed [] x all one = and_from (is_unanswered x) true one refl
all_failed (y ∷ xs) x all one =
    let parts = and_parts (is_unanswered y) (list_all is_unanswered xs) all in
    and_from (is_unanswered y) (list_all is_unanswered (xs ++ x ∷ [])) parts.0 (all_failed xs x parts.1 one)

-- behind exchanges that failed, one more that failed is told
pub one_more_failed : (told : Option (List Exchange)) (host request : List ℕ) → are_unanswered told ≡ true → are_unanswered (told_behind told (record { host = host; request = request; answer = None })) ≡ true
one_more_failed None host request all = refl
one_more_failed (Some xs) host request all = all_failed xs (record { host = host; request = request; answer = None }) all refl
