-- A text that is refused has no snapshot at its front.
use Rattle.std.proofs.Common.{◌≡◌, ◌⊎◌, ℕ, ◌+◌, ◌<◌, ◌≤◌, List, ◌++◌, length, true, false, Ok, Err, inl, inr, ⊎_elim, refl, sym, ap, ◌∙◌, subst, arith}
use Rattle.std.proofs.lemmas.Bool.{both_ways}
use Rattle.m2m_value.specs.Shapes.{largest_count}
use Rattle.resource_model.specs.Home.{HomeData}
use Rattle.resource_model.specs.Resource.{ResourceData}
use Rattle.notify_outbox.specs.declared.item.Item.{Item}
use Rattle.journal_lines.specs.Lines.{line_len}
use Rattle.journal_lines.specs.declared.header.HeaderFault.TheVariants as header
use Rattle.journal_lines.specs.declared.header.HeaderFault.{HeaderFault}
use Rattle.entity_lines.specs.Heads.{first_head}
use Rattle.entity_lines.specs.declared.heads.Head.{Head}
use Rattle.entity_model.specs.Entity.{EntityData}
use Rattle.entity_model.specs.Sound.{IsSoundEntity}
use Rattle.entity_soundness.specs.Tested.{are_sound}
use Rattle.entity_soundness.proofs.FollowLemmas.{numbers_ascend}
use Rattle.entity_soundness.proofs.SoundnessLemmas.{passes}
use Rattle.entity_snapshot.proofs.ItemsLemmas.{no_items}
use Rattle.entity_snapshot.proofs.ResourcesLemmas.{no_resources}
use Rattle.entity_snapshot.proofs.SnapshotLemmas.{front_head, front_read, items_there, nodes_at, nodes_there, same_read, sound_dests, tests_pass}
use Rattle.entity_snapshot.specs.Opening.{HaltsBehind, IsUnopened, ReadsBehind, ReadsUnsound, StopsBehind, StopsBehindResources, snapshot_fault}
use Rattle.entity_snapshot.specs.Reading.{HaltsItems, HaltsResources, ReadsResources, StopsInResources}
use Rattle.entity_snapshot.specs.Snapshots.{SpellsEntity, entity_head, entity_of}
use Rattle.entity_snapshot.specs.declared.fault.SnapshotFault.{SnapshotFault}
use Rattle.entity_snapshot.specs.declared.fault.SnapshotFault.TheVariants.{NoHeader, OtherFormat, OtherHome, BadLine, Unsound, OutOfMemory}

-- ---- why a text is refused

pub refused_head : (home : HomeData) (text : List ℕ) (fault : HeaderFault) (told : SnapshotFault) → told ≡ snapshot_fault fault → (fault ≡ header.OutOfMemory) ⊎ (first_head home text ≡ Err fault) → IsUnopened home text told
refused_head home text fault told is why = subst (IsUnopened home text) (sym is) (by_fault fault why)
  where
    by_fault : (f : HeaderFault) → (f ≡ header.OutOfMemory) ⊎ (first_head home text ≡ Err f) → IsUnopened home text (snapshot_fault f)
    by_fault header.NoHeader w = ⊎_elim (λ e. absurd cc) (λ e. e) w
    by_fault header.OtherFormat w = ⊎_elim (λ e. absurd cc) (λ e. e) w
    by_fault header.OtherHome w = ⊎_elim (λ e. absurd cc) (λ e. e) w
    by_fault header.OutOfMemory w = tt

pub halts_resources : (text : List ℕ) (head : Head) (from : ℕ) (fault : SnapshotFault) → from ≡ line_len text + 1 → HaltsResources text from head.resources fault → HaltsBehind text head fault
halts_resources text head from NoHeader is halts = absurd halts
halts_resources text head from OtherFormat is halts = absurd halts
halts_resources text head from OtherHome is halts = absurd halts
halts_resources text head from (BadLine number) is halts = (halts.0, inl (subst (λ n. StopsInResources text n head.resources halts.0) is halts.1), halts.2)
halts_resources text head from Unsound is halts = absurd halts
halts_resources text head from OutOfMemory is halts = tt

pub halts_items : (text : List ℕ) (head : Head) (at : ℕ) (nodes : List ResourceData) (fault : SnapshotFault) → ReadsResources text (line_len text + 1) head.resources at nodes → HaltsItems text at head.items head.numbered head.last fault → HaltsBehind text head fault
halts_items text head at nodes NoHeader resources halts = absurd halts
halts_items text head at nodes OtherFormat resources halts = absurd halts
halts_items text head at nodes OtherHome resources halts = absurd halts
halts_items text head at nodes (BadLine number) resources halts = (halts.0, inr (record { at = at; nodes = nodes; resources = resources; stops = halts.1 }), halts.2)
halts_items text head at nodes Unsound resources halts = absurd halts
halts_items text head at nodes OutOfMemory resources halts = tt

pub refused_behind : (home : HomeData) (text : List ℕ) (head : Head) (fault : SnapshotFault) → first_head home text ≡ Ok head → HaltsBehind text head fault → IsUnopened home text fault
refused_behind home text head NoHeader read halts = absurd halts
refused_behind home text head OtherFormat read halts = absurd halts
refused_behind home text head OtherHome read halts = absurd halts
refused_behind home text head (BadLine number) read halts = (head, read, halts)
refused_behind home text head Unsound read halts = (head, read, inl halts)
refused_behind home text head OutOfMemory read halts = tt

pub refused_unsound : (home : HomeData) (text : List ℕ) (head : Head) (end : ℕ) (nodes : List ResourceData) (items : List Item) → first_head home text ≡ Ok head → ReadsBehind text head end nodes items → are_sound home nodes head.next head.last ≡ false → IsUnopened home text Unsound
refused_unsound home text head end nodes items read behind fails = (
  head,
  read,
  inr (record {
    end = end;
    nodes = nodes;
    items = items;
    behind = behind;
    unsound = λ sound. both_ways _ fails (passes (entity_of home head nodes items) sound (numbers_ascend head.last head.numbered 0 0 items behind.each.follow)).0;
  }),
)

-- ---- then none stands there

module _ (home : HomeData) (text : List ℕ) (e : EntityData) (front back : List ℕ) (spells : SpellsEntity e front) (own : e.home ≡ home) (at : text ≡ front ++ back) where
  never_stops : (place : ℕ) → StopsBehind (front ++ back) (entity_head e) place → ⊥
  never_stops place stops = ⊎_elim in_resources in_items stops
    where
      in_resources : StopsInResources (front ++ back) (line_len (front ++ back) + 1) (length e.nodes) place → ⊥
      in_resources s = both_ways _ (no_resources (front ++ back) (line_len (front ++ back) + 1) (length e.nodes) place s e.nodes (nodes_there e front back spells)) spells.sound.tree

      in_items : StopsBehindResources (front ++ back) (entity_head e) place → ⊥
      in_items s = both_ways _ (no_items (front ++ back) s.at (length e.items) e.numbered e.last place s.stops e.items (items_there e front back spells s.at (nodes_at e front back spells s.at s.nodes s.resources)) (sound_dests e front back spells)) (tests_pass e front back spells).1

  never_unsound : (head : Head) → first_head home text ≡ Ok head → ReadsUnsound home text head → ⊥
  never_unsound head read s = s.unsound (subst IsSoundEntity (sym (same_read home text e front back spells own at head s.end s.nodes s.items read s.behind).0) spells.sound)

  never_high : (head : Head) → first_head home text ≡ Ok head → largest_count < head.numbered → ⊥
  never_high head read high = (let most : e.numbered ≤ largest_count = spells.most in let same : head.numbered ≡ e.numbered = ap (λ (h : Head). h.numbered) (front_head home text e front back spells own at head read) in absurd (omega (arith, high, most, same)))

  never_err : {A : Type 0} (fault : HeaderFault) → first_head home text ≡ Err fault → A
  never_err fault refused = (let both : Err fault ≡ Ok (entity_head e) = sym refused ∙ front_read home text e front back spells own at in absurd cc)

  pub none_refused : (fault : SnapshotFault) → IsUnopened home text fault → fault ≡ OutOfMemory
  none_refused NoHeader refused = never_err header.NoHeader refused
  none_refused OtherFormat refused = never_err header.OtherFormat refused
  none_refused OtherHome refused = never_err header.OtherHome refused
  none_refused (BadLine number) refused = absurd (never_stops refused.2.0 (subst (λ (t : List ℕ). StopsBehind t (entity_head e) refused.2.0) at (subst (λ (h : Head). StopsBehind text h refused.2.0) (front_head home text e front back spells own at refused.0 refused.1) refused.2.1)))
  none_refused Unsound refused = absurd (⊎_elim (never_high refused.0 refused.1) (never_unsound refused.0 refused.1) refused.2)
  none_refused OutOfMemory refused = refl
