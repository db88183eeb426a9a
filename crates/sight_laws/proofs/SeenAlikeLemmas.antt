-- Effects that an originator sees alike.
use Rattle.sight_laws.proofs.Words.{◌≡◌, ℕ, List, true, Option, Some, None, option_map, refl, sym, ap, ◌∙◌, option_map_or}
use Rattle.sight_laws.proofs.Terms.{Rsc, RequestParts, HomeData, ResourceData, at, is_well_formed, seen, seen_list, nodes_spent, DraftParts, EntityData, Effect, refused}
use Rattle.sight_laws.proofs.Facts.{none-some, same_Some, at-seen}
use Rattle.equal_sights.specs.Sight.{sight}
use Rattle.sight_laws.proofs.ToldLemmas.{OnlySubsCount, for_whom, spent-same}

-- two effects that reply the same and leave entities of which this holds
pub record AreLeftAlike (Rel : EntityData → EntityData → Type 0) (x y : Effect) : Type 0 where
  pub reply : x.reply ≡ y.reply
  pub after : Rel x.after y.after

-- two effects that the originator sees alike
abbrev pub AreSeenAlike : List ℕ → Effect → Effect → Type 0
AreSeenAlike o = AreLeftAlike (λ a b. sight o a ≡ sight o b)

-- where the same place refuses a request, or what else comes of it is seen alike
pub by_fault : (e other : EntityData) (o : List ℕ) (request : RequestParts) (f : Option Rsc) (x y : Effect) → sight o e ≡ sight o other → AreSeenAlike o x y → AreSeenAlike o (option_map_or (refused e request) f x) (option_map_or (refused other request) f y)
by_fault e other o request None x y same alike = alike
by_fault e other o request (Some fault) x y same alike = record { reply = refl; after = same }

-- what comes of two entities of which the originator sees the same is seen alike, where each gives
-- what is seen as what comes of it on what the originator sees
pub through_sight : (o : List ℕ) (f : EntityData → Effect) (one other : EntityData) → sight o one ≡ sight o other → AreSeenAlike o (f (sight o one)) (f one) → AreSeenAlike o (f (sight o other)) (f other) → AreSeenAlike o (f one) (f other)
through_sight o f one other same mine theirs = record {
  reply = sym mine.reply ∙ ap (λ (e : EntityData). (f e).reply) same ∙ theirs.reply;
  after = sym mine.after ∙ ap (λ (e : EntityData). sight o (f e).after) same ∙ theirs.after;
}

-- ---- what is told leaves alike what is seen alike

module _ (o : List ℕ) (one other : EntityData) (same : sight o one ≡ sight o other) where
  pub same_home : one.home ≡ other.home
  same_home = ap (λ (e : EntityData). e.home) same

  pub same_last : one.last ≡ other.last
  same_last = ap (λ (e : EntityData). e.last) same

  pub same_seen : seen_list one.home one.nodes o ≡ seen_list one.home other.nodes o
  same_seen = ap (λ (e : EntityData). e.nodes) same ∙ ap (λ (h : HomeData). seen_list h other.nodes o) (sym same_home)

  -- where drafts are for the same
  pub spent_alike : (drafts others : List DraftParts) → is_well_formed one.nodes ≡ true → is_well_formed other.nodes ≡ true → OnlySubsCount one.nodes → OnlySubsCount other.nodes → for_whom drafts ≡ for_whom others → sight o (record one { nodes = nodes_spent drafts one.nodes }) ≡ sight o (record other { nodes = nodes_spent others other.nodes })
  spent_alike drafts others well wells counts count whom =
      ap (λ (ns : List ResourceData). record (sight o one) { nodes = ns })
      (spent-same one.home o one.nodes other.nodes drafts others well wells counts count same_seen whom
      ∙ ap (λ (h : HomeData). seen_list h (nodes_spent others other.nodes) o) same_home)
      ∙ ap (λ (e : EntityData). record e { nodes = seen_list other.home (nodes_spent others other.nodes) o }) same

  -- and a resource of the same number in both
  pub seen_same : (n : ℕ) (p q : ResourceData) → at n one.nodes ≡ Some p → at n other.nodes ≡ Some q → seen one.home one.nodes o p ≡ seen other.home other.nodes o q
  seen_same n p q first second =
      let left : at n (seen_list one.home one.nodes o) ≡ Some (seen one.home one.nodes o p) = at-seen one.home one.nodes o n ∙ ap (option_map (seen one.home one.nodes o)) first in
      let right : at n (seen_list other.home other.nodes o) ≡ Some (seen other.home other.nodes o q) = at-seen other.home other.nodes o n ∙ ap (option_map (seen other.home other.nodes o)) second in
      same_Some (seen one.home one.nodes o p) (seen other.home other.nodes o q) (sym left ∙ ap (λ (e : EntityData). at n e.nodes) same ∙ right)

  -- what stands at a number: none in both, or a resource in each
  pub data FoundAlike (n : ℕ) : Type 0 where
    not_found : at n one.nodes ≡ None → at n other.nodes ≡ None → FoundAlike n
    found_both : (p q : ResourceData) → at n one.nodes ≡ Some p → at n other.nodes ≡ Some q → FoundAlike n

  pub found_alike : (n : ℕ) → FoundAlike n
  found_alike n = by (at n one.nodes) (at n other.nodes) refl refl (sym (at-seen one.home one.nodes o n) ∙ ap (at n) (ap (λ (e : EntityData). e.nodes) same) ∙ at-seen other.home other.nodes o n)
    where
      by : (p q : Option ResourceData) → at n one.nodes ≡ p → at n other.nodes ≡ q → option_map (seen one.home one.nodes o) (at n one.nodes) ≡ option_map (seen other.home other.nodes o) (at n other.nodes) → FoundAlike n
      by None None first second alike = not_found first second
      by (Some p) (Some q) first second alike = found_both p q first second
      by None (Some q) first second alike =
          absurd (none-some (seen other.home other.nodes o q) (sym (ap (option_map (seen one.home one.nodes o)) first) ∙ alike ∙ ap (option_map (seen other.home other.nodes o)) second))
      by (Some p) None first second alike =
          absurd (none-some (seen one.home one.nodes o p) (sym (ap (option_map (seen other.home other.nodes o)) second) ∙ sym alike ∙ ap (option_map (seen one.home one.nodes o)) first))
