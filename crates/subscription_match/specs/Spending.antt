-- Subscriptions that count what they are told, and go when all is spent (TS-0001, 9.6.8:
-- expirationCounter).
use Rattle.std.specs.Prelude.{ℕ, ◌-◌, ◌==◌, nat_eq, nat_lt, Bool, true, false, List, [], ◌∷◌}
use Rattle.std.specs.Prelude.{◌++◌, length, filter, if◌then◌else◌, Option, None}
use Rattle.std.specs.Prelude.{option_and_then, option_map, is_some, map, ◌&&◌}
use Rattle.std.specs.Map.{lookup}
use Rattle.std.specs.Option.{option_map_or, option_or}
use Rattle.std.specs.Ordering.{is_eq, nat_cmp}
use Rattle.m2m_names.specs.declared.attributes.Attr.TheVariants.{Exc}
use Rattle.resource_model.specs.Attributes.{count_at}
use Rattle.resource_model.specs.Resource.{ResourceData}
use Rattle.subscription_match.specs.declared.drafts.DraftParts.{DraftParts}
use Rattle.tree_model.specs.Tree.{at, recounted, without}

-- ---- what is left to a subscription

-- how many notifications are left, where the subscription counts
abbrev pub left_to : ResourceData → Option ℕ
left_to sub = count_at Exc sub.attrs

-- to that of a number
abbrev pub left_at : List ResourceData → ℕ → Option ℕ
left_at nodes n = option_and_then left_to (at n nodes)

-- ---- what is kept

-- a draft is for the subscription of this number
abbrev pub is_for : ℕ → DraftParts → Bool
is_for n draft = option_map_or (λ m. nat_eq m n) draft.subscription false

-- a draft is for a subscription that counts
abbrev pub is_counted : List ResourceData → DraftParts → Bool
is_counted nodes draft = option_map_or (λ n. is_some (left_at nodes n)) draft.subscription false

-- how many of these are for the one of a number
abbrev pub count_for : ℕ → List DraftParts → ℕ
count_for n drafts = length (filter (is_for n) drafts)

-- For a subscription one more is kept after these: it doesn't count, or they are fewer than all
-- that were left to it.
abbrev pub has_left : List ResourceData → List DraftParts → ℕ → Bool
has_left nodes earlier n = option_map_or (nat_lt (count_for n earlier)) (left_at nodes n) true

-- a draft is kept after these; a notice always is
abbrev pub is_kept : List ResourceData → List DraftParts → DraftParts → Bool
is_kept nodes earlier draft = option_map_or (has_left nodes earlier) draft.subscription true

-- those that are kept after these
abbrev pub kept_after : List ResourceData → List DraftParts → List DraftParts → List DraftParts
kept_after nodes earlier [] = []
kept_after nodes earlier (draft ∷ drafts) =
    if is_kept nodes earlier draft
    then draft ∷ kept_after nodes (earlier ++ draft ∷ []) drafts
    else kept_after nodes (earlier ++ draft ∷ []) drafts

-- what is kept of what an operation tells
abbrev pub kept : List ResourceData → List DraftParts → List DraftParts
kept nodes drafts = kept_after nodes [] drafts

-- which of them are
abbrev pub marks_after : List ResourceData → List DraftParts → List DraftParts → List Bool
marks_after nodes earlier [] = []
marks_after nodes earlier (draft ∷ drafts) =
    is_kept nodes earlier draft ∷ marks_after nodes (earlier ++ draft ∷ []) drafts

-- ---- what is left then

-- what is left after these to the subscription of a number that counts: not below nothing
abbrev pub left_after : List ResourceData → List DraftParts → ℕ → Option ℕ
left_after nodes drafts n = option_map (λ left. left - count_for n drafts) (left_at nodes n)

-- the same, of those that are told something
abbrev pub spent : List ResourceData → List DraftParts → ℕ → Option ℕ
spent nodes drafts n =
    if count_for n drafts == 0 then None else left_after nodes drafts n

-- the number of notifications that stands at the number of a subscription
abbrev pub left_in : List (ℕ × ℕ) → ℕ → Option ℕ
left_in rows n = lookup (λ m. is_eq (nat_cmp n m)) rows

-- what is left by what stands there, else by the tree
abbrev pub left_now : List ResourceData → List (ℕ × ℕ) → ℕ → Option ℕ
left_now nodes rows n = option_or (left_in rows n) (left_at nodes n)

-- the number that stands there where one is taken from what is left to a subscription that counts
abbrev pub left_taken : List ResourceData → List (ℕ × ℕ) → ℕ → ℕ → Option ℕ
left_taken nodes rows taken n =
    if nat_eq taken n && is_some (left_now nodes rows n)
    then option_map (λ left. left - 1) (left_now nodes rows n)
    else left_in rows n

-- ---- the subscriptions after an operation

-- what the drafts of an operation leave to a resource, where it counts and is told something
abbrev pub left_of : List DraftParts → ResourceData → Option ℕ
left_of drafts r =
    if count_for r.number drafts == 0 then None
    else option_map (λ left. left - count_for r.number drafts) (left_to r)

-- nothing: it is spent
abbrev pub is_spent : List DraftParts → ResourceData → Bool
is_spent drafts r = option_map_or (λ left. left == 0) (left_of drafts r) false

-- lowered by as many as are for it; its moment of change and all else stay
abbrev pub lowered : List DraftParts → ResourceData → ResourceData
lowered drafts r = option_map_or (λ left. recounted left r) (left_of drafts r) r

-- what the drafts of an operation leave of the resources as the operation has left these: those
-- that are spent go, and the others that count are lowered
abbrev pub nodes_spent : List DraftParts → List ResourceData → List ResourceData
nodes_spent drafts nodes = map (lowered drafts) (without (is_spent drafts) nodes)
