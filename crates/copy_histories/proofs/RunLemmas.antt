-- Operations one after another: what they send, and what instances stand.
use Rattle.std.proofs.Common.{◌≡◌, ℕ, List, [], ◌∷◌, ◌++◌, append_assoc, map, None, inl, inr, refl, sym, ap, ◌∙◌, subst}
use Rattle.std.proofs.lemmas.Bool.{cases_Bool}
use Rattle.std.proofs.lemmas.List.{append-nil, map-append}
use Rattle.m2m_names.specs.declared.attributes.Attr.{Attr}
use Rattle.resource_model.specs.Home.{HomeData}
use Rattle.resource_model.specs.Resource.{ResourceData}
use Rattle.announce_copy.specs.Copies.{CopyDraft, copies_of_all}
use Rattle.copy_laws.specs.Following.{IsOperation, IsRun, Lead, Operation, changes_of, nothing, sent_along, stood_along}
use Rattle.copy_laws.specs.Replica.{Kept, effect, effects, goes_to, replica, those_to}
use Rattle.copy_laws.specs.Standing.{Instances, stood_after}
use Rattle.copy_histories.specs.Histories.{stood_through}

-- ---- what is carried out

-- the type of what is made stands apart from the content, and is carried out by nothing
abbrev pub bare : CopyDraft → CopyDraft
bare draft = (draft.0, draft.1, None, draft.3)

effects-bare : (drafts : List CopyDraft) (address : List ℕ) (attr : Attr) (kept : Kept) → effects (map bare drafts) address attr kept ≡ effects drafts address attr kept
effects-bare [] address attr kept = refl
effects-bare (draft ∷ drafts) address attr kept = effects-bare drafts address attr (effect draft address attr kept)

those_to-bare : (peer : List ℕ) (drafts : List CopyDraft) → those_to peer (map bare drafts) ≡ map bare (those_to peer drafts)
those_to-bare peer [] = refl
those_to-bare peer (draft ∷ drafts) = elim (cases_Bool (goes_to peer draft)) [
  | inl t ↦ rw t (ap (λ (ds : List CopyDraft). bare draft ∷ ds) (those_to-bare peer drafts))
  | inr f ↦ rw f (those_to-bare peer drafts)
]

pub replica-bare : (peer : List ℕ) (drafts : List CopyDraft) (address : List ℕ) (attr : Attr) → replica peer (map bare drafts) address attr ≡ replica peer drafts address attr
replica-bare peer drafts address attr =
    ap (λ (ds : List CopyDraft). effects ds address attr None) (those_to-bare peer drafts)
    ∙ effects-bare (those_to peer drafts) address attr None

-- ---- runs

-- the resources that an operation leaves
abbrev pub left_by : Operation → List ResourceData
left_by o = o.after

pub run_on : (home : HomeData) (run more : List Operation) (before middle after : List ResourceData) → IsRun home before run middle → IsRun home middle more after → IsRun home before (run ++ more) after
run_on home [] more before middle after first second = subst (λ (nodes : List ResourceData). IsRun home nodes more after) (sym first) second
run_on home (o ∷ run) more before middle after first second = (first.0, run_on home run more o.after middle after first.1 second)

pub sent_on : (home : HomeData) (run more : List Operation) (before middle : List ResourceData) → IsRun home before run middle → sent_along home before (run ++ more) ≡ sent_along home before run ++ sent_along home middle more
sent_on home [] more before middle first = ap (λ (nodes : List ResourceData). sent_along home nodes more) first
sent_on home (o ∷ run) more before middle first =
    ap (λ (ds : List CopyDraft). copies_of_all home before (changes_of o.lead o.gone) ++ ds) (sent_on home run more o.after middle first.1)
    ∙ sym (append_assoc (copies_of_all home before (changes_of o.lead o.gone)) (sent_along home o.after run) (sent_along home middle more))

pub stood_on : (home : HomeData) (peer : List ℕ) (stood : Instances) (run more : List Operation) (before middle : List ResourceData) → IsRun home before run middle → stood_along peer stood before (run ++ more) ≡ stood_along peer (stood_along peer stood before run) middle more
stood_on home peer stood [] more before middle first = ap (λ (nodes : List ResourceData). stood_along peer stood nodes more) first
stood_on home peer stood (o ∷ run) more before middle first = stood_on home peer (stood_after peer stood before o.after) run more o.after middle first.1

-- the instances that stand along a run stand along the trees that it leaves
pub stood_trees : (peer : List ℕ) (stood : Instances) (nodes : List ResourceData) (run : List Operation) → stood_along peer stood nodes run ≡ stood_through peer stood nodes (map left_by run)
stood_trees peer stood nodes [] = refl
stood_trees peer stood nodes (o ∷ run) = stood_trees peer (stood_after peer stood nodes o.after) o.after run

-- ---- what leads from resources to others

-- A run leads from the first to the second, sends these, and leaves these trees one after another.
pub record Goes (home : HomeData) (before after : List ResourceData) (sent : List CopyDraft) (trees : List (List ResourceData)) : Type 0 where
  pub run : List Operation
  pub is : IsRun home before run after
  pub sends : sent ≡ map bare (sent_along home before run)
  pub leaves : map left_by run ≡ trees

-- what two leave, one behind the other
pub both_leave : (home : HomeData) (before middle after : List ResourceData) (sent more : List CopyDraft) (trees later : List (List ResourceData)) (first : Goes home before middle sent trees) (second : Goes home middle after more later) → map left_by (first.run ++ second.run) ≡ trees ++ later
both_leave home before middle after sent more trees later first second =
    map-append left_by first.run second.run
    ∙ ap (λ (ts : List (List ResourceData)). ts ++ map left_by second.run) first.leaves
    ∙ ap (λ (ts : List (List ResourceData)). trees ++ ts) second.leaves

-- one after another
pub goes_on : (home : HomeData) (before middle after : List ResourceData) (sent more : List CopyDraft) (trees later : List (List ResourceData)) → Goes home before middle sent trees → Goes home middle after more later → Goes home before after (sent ++ more) (trees ++ later)
goes_on home before middle after sent more trees later first second = record {
  run = first.run ++ second.run;
  is = run_on home first.run second.run before middle after first.is second.is;
  sends =
      ap (λ (ds : List CopyDraft). ds ++ more) first.sends
      ∙ ap (λ (ds : List CopyDraft). map bare (sent_along home before first.run) ++ ds) second.sends
      ∙ sym (map-append bare (sent_along home before first.run) (sent_along home middle second.run))
      ∙ sym (ap (map bare) (sent_on home first.run second.run before middle first.is));
  leaves = both_leave home before middle after sent more trees later first second;
}

-- by none
pub goes_nowhere : (home : HomeData) (nodes : List ResourceData) → Goes home nodes nodes [] []
goes_nowhere home nodes = record { run = []; is = refl; sends = refl; leaves = refl }

-- by one operation
pub goes_once : (home : HomeData) (before : List ResourceData) (lead : Lead) (gone after : List ResourceData) (sent : List CopyDraft) → IsOperation home before lead gone after → sent ≡ map bare (copies_of_all home before (changes_of lead gone)) → Goes home before after sent (after ∷ [])
goes_once home before lead gone after sent op sends = record {
  run = record { lead = lead; gone = gone; after = after } ∷ [];
  is = (op, refl);
  sends = sends ∙ ap (map bare) (sym (append-nil (copies_of_all home before (changes_of lead gone))));
  leaves = refl;
}

-- by one that does nothing
pub goes_still : (home : HomeData) (nodes : List ResourceData) → IsOperation home nodes nothing [] nodes → Goes home nodes nodes [] (nodes ∷ [])
goes_still home nodes op = goes_once home nodes nothing [] nodes [] op refl
