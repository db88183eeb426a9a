-- How the journal of a CSE that answers later grows.
use Rattle.std.proofs.Common.{◌≡◌, ⊎_elim, ℕ, List, [], ◌∷◌, ◌++◌, true, refl, ap, ◌∙◌, append_assoc}
use Rattle.resource_model.specs.Home.{HomeData}
use Rattle.entity_model.specs.Entity.{EntityData}
use Rattle.accepted_requests.specs.Entries.{no_entries}
use Rattle.later_replies.specs.Entries.{LaterData, opened}
use Rattle.journal_lines.specs.declared.deed.Dated.{Dated}
use Rattle.journal_opening.proofs.HomeLemmas.{made_home}
use Rattle.journal_opening.specs.Journals.{IsJournalOf, made_of}
use Rattle.later_opening.proofs.ActLemmas.{deeds_are_acts, deeds_of_deeds, requests_of_deeds, spells_acts_join}
use Rattle.later_opening.specs.Acts.{SpellsAct, deeds_in}
use Rattle.later_opening.specs.Journals.{IsLaterJournalOf, MakesLater}
use Rattle.later_opening.specs.Laws.{as_acts}
use Rattle.later_opening.specs.Making.{act_fits, later_of, made_of_acts, requests_of}
use Rattle.later_opening.specs.Snapshots.{IsLaterSnapshot, KeepsMakingLater}
use Rattle.later_opening.specs.declared.act.Act.{Act}

pub journal_grows : (home : HomeData) (base : EntityData) (acts : List Act) (text : List ℕ) (act : Act) (more : List ℕ) → IsLaterJournalOf home base acts text → SpellsAct act more
    → act_fits act (made_of (deeds_in acts) base).last (requests_of acts no_entries) ≡ true → IsLaterJournalOf home base (acts ++ act ∷ []) (text ++ more)
journal_grows home base acts text act more journal spells fits = record {
  front = journal.front;
  lines = journal.lines ++ more;
  split = ap (λ (l : List ℕ). l ++ more) journal.split ∙ append_assoc journal.front journal.lines more;
  opens = journal.opens;
  spells = spells_acts_join base no_entries acts act journal.lines more journal.spells spells fits;
}

pub plain_journal : (home : HomeData) (base : EntityData) (deeds : List Dated) (text : List ℕ) → IsJournalOf home base deeds text
    → IsLaterJournalOf home base (as_acts deeds) text × (made_of_acts (as_acts deeds) base ≡ opened (made_of deeds base))
plain_journal home base deeds text journal = (
  record {
    front = journal.front;
    lines = journal.lines;
    split = journal.split;
    opens = journal.opens;
    spells = deeds_are_acts deeds base no_entries journal.lines journal.spells;
  },
  ap (λ (ds : List Dated). later_of (made_of ds base) (requests_of (as_acts deeds) no_entries)) (deeds_of_deeds deeds)
      ∙ ap (later_of (made_of deeds base)) (requests_of_deeds deeds no_entries),
)

-- what a journal makes is a CSE of its home
pub later_at_home : (home : HomeData) (text : List ℕ) (d : LaterData) → MakesLater home text d → d.inner.home ≡ home
later_at_home home text d makes =
    ap (λ (x : LaterData). x.inner.home) makes.made
    ∙ made_home (deeds_in makes.acts) makes.base
    ∙ ⊎_elim (λ first. ap (λ (x : EntityData). x.home) first.opens) (λ kept. kept.own) makes.journal.opens

-- a snapshot is a journal that makes the CSE
pub later_snapshot_makes : (d : LaterData) (bytes : List ℕ) → IsLaterSnapshot d bytes → KeepsMakingLater d.inner.home d bytes
later_snapshot_makes d bytes is = record {
  text = is.text;
  makes = is.makes;
  keeps = record { behind = 10 ∷ []; split = is.rest; shut = refl };
}
