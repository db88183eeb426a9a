-- Where nothing is asked behind a request, what was asked is the requests.
use Rattle.std.proofs.Common.{◌≡◌, ℕ, zero, suc, ◌+◌, ◌≤◌, Bool, true, false, List, [], ◌∷◌, ◌++◌, length, map, take, refl, sym, subst, ◌∙◌, arith}
use Rattle.std.specs.List.{All, flat_map}
use Rattle.std.proofs.lemmas.List.Elements.{All-append, All-cons, All-head, All-nil, All-tail}
use Rattle.primitive_json.specs.declared.reply.ReplyParts.{ReplyParts}
use Rattle.primitive_json.specs.declared.request.RequestParts.{RequestParts}
use Rattle.desk_replies.specs.Rule.{AreWhole, Group, EachRequestIsAskedAlone, IsBegun, IsWhole, plainly, replies_of, reply_by, requests_of}

take_none : (n : ℕ) → take {A = RequestParts} n [] ≡ []
take_none zero = refl
take_none (suc n) = refl

plain_requests : (groups : List Group) → flat_map (requests_of plainly) groups ≡ map (λ (group : Group). group.request) groups
plain_requests [] = refl
plain_requests (g ∷ gs) = λ i. g.request ∷ (take_none (length g.outcomes) i ++ plain_requests gs i)

none_of : (xs : List ReplyParts) → length xs ≡ 0 → xs ≡ []
none_of [] e = refl
none_of (x ∷ xs) e = let no : ⊥ = omega (arith, e) in absurd no

alone_whole : (groups : List Group) → All (IsWhole plainly) groups → All (λ (group : Group). group.replies ≡ []) groups
alone_whole [] whole = All-nil (λ (group : Group). group.replies ≡ [])
alone_whole (g ∷ gs) whole =
    let here = All-head (IsWhole plainly) g gs whole in
    All-cons (λ (group : Group). group.replies ≡ []) g gs (none_of g.replies (here.each ∙ here.all)) (alone_whole gs (All-tail (IsWhole plainly) g gs whole))

alone_begun : (group : Group) → IsBegun plainly group → group.replies ≡ []
alone_begun group begun =
    let few : length group.outcomes ≤ 0 = begun.front in
    let each : length group.replies ≡ length group.outcomes = begun.each in
    none_of group.replies (omega (arith, few, each))

alone : (flag : Bool) (groups : List Group) → AreWhole plainly flag groups → All (λ (group : Group). group.replies ≡ []) groups
alone true groups whole = alone_whole groups whole
alone false groups last =
    subst (λ gs. All (λ (group : Group). group.replies ≡ []) gs) (sym last.groups_are)
    (All-append (λ (group : Group). group.replies ≡ []) last.before (last.last ∷ []) (alone_whole last.before last.whole)
    (All-cons (λ (group : Group). group.replies ≡ []) last.last [] (alone_begun last.last last.begun) (All-nil (λ (group : Group). group.replies ≡ []))))

plain_replies : (groups : List Group) → All (λ (group : Group). group.replies ≡ []) groups → flat_map replies_of groups ≡ map (reply_by plainly) groups
plain_replies [] none = refl
plain_replies (g ∷ gs) none =
    let here : g.replies ≡ [] = All-head (λ (group : Group). group.replies ≡ []) g gs none in
    let rest = plain_replies gs (All-tail (λ (group : Group). group.replies ≡ []) g gs none) in
    λ i. g.reply ∷ (here i ++ rest i)

-- the requests are those that were asked, and the replies those that their outcomes gave
pub plain_asked : EachRequestIsAskedAlone
plain_asked xs asked a = (
  sym a.grouped.requests ∙ plain_requests a.groups ∙ a.requests_are,
  sym a.grouped.replies ∙ plain_replies a.groups (alone a.is_whole a.groups a.whole) ∙ a.replies_are,
)
