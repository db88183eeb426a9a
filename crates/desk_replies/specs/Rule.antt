-- How the reply to a request comes of what a desk answers.
use Rattle.std.specs.Prelude.{◌≡◌, ◌≤◌, ◌⊎◌, Bool, true, false, List, [], ◌∷◌, ◌++◌, length, map}
use Rattle.std.specs.Prelude.{take, Result, Ok, Err}
use Rattle.std.specs.List.{All, flat_map}
use Rattle.primitive_json.specs.declared.reply.ReplyParts.{ReplyParts}
use Rattle.primitive_json.specs.declared.request.RequestParts.{RequestParts}
use Rattle.cse_machine.specs.declared.event.Outcome.{Outcome}
use Rattle.desk_replies.specs.Asking.{Asked, nothing_asked}

-- What is asked for one request, and how it is answered by that.
pub record ReplyRule : Type 0 where
  -- the requests that are asked behind it, once its own outcome is known
  pub behind : RequestParts → Outcome → List RequestParts
  -- the reply, by its own outcome, the reply that this gives, and the replies to those behind it
  pub told : Outcome → ReplyParts → List ReplyParts → ReplyParts

-- nothing is asked behind a request, and its outcome gives the reply
abbrev pub plainly : ReplyRule
plainly = record { behind = λ request outcome. []; told = λ outcome reply replies. reply }

-- ---- what was asked for one request

-- a request, and what came of it and of those that were asked behind it
pub record Group : Type 0 where
  pub request : RequestParts
  pub outcome : Outcome
  pub reply : ReplyParts
  pub outcomes : List Outcome
  pub replies : List ReplyParts

-- the requests that were asked: the first, and then as many behind it as there are outcomes
abbrev pub requests_of : ReplyRule → Group → List RequestParts
requests_of rule group =
    group.request ∷ take (length group.outcomes) (rule.behind group.request group.outcome)

-- what came of them: of the first, and of those behind it
abbrev pub outcomes_of : Group → List Outcome
outcomes_of group = group.outcome ∷ group.outcomes

-- the replies that these outcomes gave, in the order of the requests
abbrev pub replies_of : Group → List ReplyParts
replies_of group = group.reply ∷ group.replies

-- the reply to the first of them
abbrev pub reply_by : ReplyRule → Group → ReplyParts
reply_by rule group = rule.told group.outcome group.reply group.replies

-- All that the rule has asked was asked, and each request has its reply.
pub record IsWhole (rule : ReplyRule) (group : Group) : Type 0 where
  pub all : length group.outcomes ≡ length (rule.behind group.request group.outcome)
  pub each : length group.replies ≡ length group.outcomes

-- The first was asked, and of those behind it a front; each request has its reply.
pub record IsBegun (rule : ReplyRule) (group : Group) : Type 0 where
  pub front : length group.outcomes ≤ length (rule.behind group.request group.outcome)
  pub each : length group.replies ≡ length group.outcomes

-- ---- what was asked for several

-- These groups were asked, one after another, and nothing else.
pub record IsGrouped (rule : ReplyRule) (groups : List Group) (asked : Asked) : Type 0 where
  pub requests : flat_map (requests_of rule) groups ≡ asked.requests
  pub outcomes : flat_map outcomes_of groups ≡ asked.outcomes
  pub replies : flat_map replies_of groups ≡ asked.replies

-- of the last group a front was asked, and the others are whole
pub record LastIsBegun (rule : ReplyRule) (groups : List Group) : Type 0 where
  pub before : List Group
  pub last : Group
  pub groups_are : groups ≡ before ++ last ∷ []
  pub whole : All (IsWhole rule) before
  pub begun : IsBegun rule last

-- All groups are whole; or memory ran out in the last one.
abbrev pub AreWhole : ReplyRule → Bool → List Group → Type 0
AreWhole rule true groups = All (IsWhole rule) groups
AreWhole rule false groups = LastIsBegun rule groups

-- Requests were answered by this rule: each by a group of its own, in order, and these are the
-- replies. Where memory ran out in the last group, its reply is none that is given.
pub record IsAnswered (rule : ReplyRule) (requests : List RequestParts) (asked : Asked)
    : Type 0 where
  pub groups : List Group
  pub replies : List ReplyParts
  pub is_whole : Bool
  pub requests_are : map (λ (group : Group). group.request) groups ≡ requests
  pub grouped : IsGrouped rule groups asked
  pub replies_are : map (reply_by rule) groups ≡ replies
  pub whole : AreWhole rule is_whole groups

-- One request was answered by this rule. Where memory ran out, a front of its group was asked, or
-- nothing.
abbrev pub AnswersOne : {E : Type 0} → ReplyRule → RequestParts → Asked → Result ReplyParts E
    → Type 0
AnswersOne rule request asked (Ok reply) =
    (group : Group) × (group.request ≡ request) × IsGrouped rule (group ∷ []) asked
    × IsWhole rule group × (reply ≡ reply_by rule group)
AnswersOne rule request asked (Err starved) =
    (asked ≡ nothing_asked)
    ⊎ ((group : Group) × (group.request ≡ request) × IsGrouped rule (group ∷ []) asked
    × IsBegun rule group)

-- ---- laws

-- Where nothing is asked behind a request, each request was asked alone, in order, and nothing
-- else; and it was answered by the reply that its outcome gave.
abbrev pub EachRequestIsAskedAlone : Type 0
EachRequestIsAskedAlone =
    (requests : List RequestParts) (asked : Asked) (answers : IsAnswered plainly requests asked)
    → (asked.requests ≡ requests) × (asked.replies ≡ answers.replies)
