-- What is written behind the line at which the sights agree.
use Rattle.std.proofs.Common.{◌≡◌, ◌≢◌, ◌⊎◌, ℕ, ◌+◌, Bool, true, false, List, [], ◌∷◌, ◌++◌, codes, Option, Some, None, if◌then◌else◌, inl, inr, refl, sym, ap, ◌∙◌, subst}
use Rattle.std.specs.Str.{bytes_eq}
use Rattle.std.proofs.lemmas.Option.{same_Some}
use Rattle.std.proofs.lemmas.Slice.Eq.{bytes_eq-Decides}
use Rattle.primitive_json.specs.declared.request.RequestParts.{RequestParts}
use Rattle.resource_model.specs.Home.{HomeData, IsHome}
use Rattle.entity_model.specs.Entity.{EntityData, swept}
use Rattle.entity_model.specs.Opening.{opening}
use Rattle.entity_model.specs.Sound.{IsSoundEntity}
use Rattle.entity_model.proofs.SoundLemmas.{sound_opening}
use Rattle.equal_sights.specs.Sight.{sight}
use Rattle.cse_machine.specs.History.{IsDone}
use Rattle.cse_machine.specs.Step.{Step}
use Rattle.cse_machine.specs.declared.event.Event.{Event}
use Rattle.cse_machine.specs.declared.event.Event.TheVariants.{Ask as AskEvent, Tick}
use Rattle.cse_machine.specs.declared.event.Outcome.{Outcome}
use Rattle.cse_machine.specs.declared.event.Outcome.TheVariants.{Ticked}
use Rattle.group_fanout.specs.Rights.{claimed_originator}
use Rattle.guard_laws.proofs.HistoryLemmas.{sound_step}
use Rattle.cse_machine.proofs.SameLemmas.{same_entity}
use Rattle.machine_laws.specs.Sight.{IsRequestBy, is_calm, is_poll}
use Rattle.machine_laws.proofs.AlikeLemmas.{AreStillAlike, step_alike}
use Rattle.primitive_replay.specs.Script.{as_line}
use Rattle.primitive_replay.specs.declared.line.Line.{Line}
use Rattle.primitive_replay.specs.declared.line.Line.TheVariants.{Empty, Reading, Ask}
use Rattle.twin_replay.specs.Forms.{is_from, is_own_short}
use Rattle.twin_replay.specs.Sides.{AsksSides, ComparesSides, IsVerdict, Prepares, TakesLine, later_last, starting}
use Rattle.twin_replay.specs.Texts.{agree_line, answer_text, differ_line, outcome_text}
use Rattle.twin_replay.specs.Twins.{TakesText, TakesTexts, next_form}
use Rattle.twin_replay.specs.declared.lines.Part.TheVariants.{Asking}
use Rattle.twin_replay.specs.declared.lines.TwinLine.{TwinLine}
use Rattle.twin_replay.specs.declared.lines.TwinLine.TheVariants.{OpensLeft, PreparesLeft, OpensRight, PreparesRight, Compares, AsksBoth}
use Rattle.twin_replay.specs.declared.sides.Sides.{Sides}
use Rattle.twin_laws.specs.Laws.{AgreeAndAnswerTheSame, AgreeingSidesAnswerTheSame, AreAnsweredTheSame, HasMemory, ReadsTheSame, SaysAgree, SaysTheSame, is_calm_line}
use Rattle.twin_laws.proofs.FormLemmas.{IsRequestOf, behind_originator, claimed, has_form, own_short}

-- ---- sound sides

-- both entities are sound, and of the home of the sides
record AreSound (sides : Sides) : Type 0 where
  left : IsSoundEntity sides.left
  right : IsSoundEntity sides.right
  left_home : sides.left.home ≡ sides.home

-- an entity that took a step
record HasStepped (before after : EntityData) : Type 0 where
  sound : IsSoundEntity after
  home : after.home ≡ before.home

stepped : (reading : ℕ) (event : Event) (outcome : Outcome) (before after : EntityData) → IsSoundEntity before → Step reading event before outcome after → HasStepped before after
stepped reading event outcome before after sound step = record {
  sound = sound_step reading event before after outcome sound step;
  home = (same_entity reading event outcome before after step).home;
}

prepared : (line : Line) (reading now : ℕ) (before after : EntityData) → IsSoundEntity before → Prepares line reading now before after → HasStepped before after
prepared Empty reading now before after sound p = record { sound = subst IsSoundEntity (sym p.1) sound; home = ap (λ (e : EntityData). e.home) p.1 }
prepared (Reading moment) reading now before after sound p = record { sound = subst IsSoundEntity (sym p.1) sound; home = ap (λ (e : EntityData). e.home) p.1 }
prepared (Ask request) reading now before after sound p = stepped reading (AskEvent request) p.1.outcome before after sound p.1.step

kept_sound : (line : TwinLine) (sides next : Sides) (said : Option (List ℕ)) → AreSound sides → TakesLine line sides next said → AreSound next
kept_sound OpensLeft sides next said sound t = subst AreSound (sym t.next_is) (record { left = sound.left; right = sound.right; left_home = sound.left_home })
kept_sound (PreparesLeft line) sides next said sound t =
    let p = t.0 in
    let s = prepared line sides.reading p.reading sides.left p.after sound.left p.prepares in
    subst AreSound (sym p.next_is) (record { left = s.sound; right = sound.right; left_home = s.home ∙ sound.left_home })
kept_sound OpensRight sides next said sound t = subst AreSound (sym t.next_is) (record { left = sound.left; right = sound.right; left_home = sound.left_home })
kept_sound (PreparesRight line) sides next said sound t =
    let p = t.0 in
    let s = prepared line sides.reading p.reading sides.right p.after sound.right p.prepares in
    subst AreSound (sym p.next_is) (record { left = sound.left; right = s.sound; left_home = sound.left_home })
kept_sound (Compares originator) sides next said sound t =
    let p = t.2 in
    let left = stepped (later_last sides) Tick Ticked sides.left p.left sound.left p.left_ticks in
    let right = stepped (later_last sides) Tick Ticked sides.right p.right sound.right p.right_ticks in
    subst AreSound (sym p.next_is) (record { left = left.sound; right = right.sound; left_home = left.home ∙ sound.left_home })
kept_sound (AsksBoth request) sides next said sound t =
    let p = t.2 in
    let left = stepped sides.reading (AskEvent request) p.left_outcome sides.left p.left sound.left p.left_step in
    let right = stepped sides.reading (AskEvent request) p.right_outcome sides.right p.right sound.right p.right_step in
    subst AreSound (sym p.next_is) (record { left = left.sound; right = right.sound; left_home = left.home ∙ sound.left_home })

-- ---- sides that look the same

-- the originator that asks both has the same sight of them
record LooksTheSame (o : List ℕ) (sides : Sides) : Type 0 where
  sound : AreSound sides
  part : sides.part ≡ Asking o
  own : is_own_short sides.home o ≡ true
  same : sight o sides.left ≡ sight o sides.right

read_same : (left right : List ℕ) (b : Bool) → bytes_eq left right ≡ b → left ≡ right → ReadsTheSame (if b then as_line (codes "same " ++ left) else as_line (codes "left " ++ left) ++ as_line (codes "right " ++ right))
read_same left right true is same = record { rest = left; text_is = refl }
read_same left right false is same = let clash : false ≡ true = sym is ∙ (bytes_eq-Decides left right).1 same in cc

module _ (o : List ℕ) (sides : Sides) (looks : LooksTheSame o sides) (request : RequestParts) (from : is_from o request ≡ true) where
  by : IsRequestBy sides.left.home o request
  by = claimed sides.left.home o request (subst (λ (h : HomeData). is_own_short h o ≡ true) (sym looks.sound.left_home) looks.own) from

  module _ (next : Sides) (text : List ℕ) (p : AsksSides request sides next text) (left_done : IsDone p.left_outcome) (right_done : IsDone p.right_outcome) where
    alike : AreStillAlike o sides.left p.left p.right (is_poll (swept sides.reading sides.left) request) (is_calm request) p.left_outcome p.right_outcome
    alike = step_alike o sides.left sides.right looks.sound.left looks.sound.right looks.same sides.reading (AskEvent request) p.left p.right p.left_outcome p.right_outcome by p.left_step p.right_step left_done right_done

    answered : is_poll (swept sides.reading sides.left) request ≡ false → ReadsTheSame text
    answered unpolled =
        let texts = ap (outcome_text request) (alike.outcome unpolled) in
        subst ReadsTheSame (sym p.text_is) (read_same (outcome_text request p.left_outcome) (outcome_text request p.right_outcome) _ refl texts)

    still : is_calm request ≡ true → LooksTheSame o next
    still calm = subst (LooksTheSame o) (sym p.next_is) (record {
      sound = record { left = alike.sound; right = alike.sounds; left_home = sym alike.home ∙ looks.sound.left_home };
      part = looks.part;
      own = looks.own;
      same = alike.seen calm;
    })

-- a line behind the originator, as it was taken
asked_so : (o : List ℕ) (place : ℕ) (sides next : Sides) (text : List ℕ) (said : Option (List ℕ)) → LooksTheSame o sides → (t : TakesText place sides text next said) → IsRequestOf o t.line
asked_so o place sides next text said looks t =
    let form = has_form (next_form sides) place text t.line t.is in
    behind_originator o text t.line (rw looks.part at form)

-- what is written for it, and what it leaves
record GoesOnSo (o : List ℕ) (line : TwinLine) (sides next : Sides) (said : Option (List ℕ)) : Type 0 where
  says : SaysTheSame line sides said
  looks : is_calm_line line ≡ true → LooksTheSame o next

goes_so : (o : List ℕ) (sides next : Sides) (said : Option (List ℕ)) (line : TwinLine) → LooksTheSame o sides → IsRequestOf o line → (takes : TakesLine line sides next said) → HasMemory line sides next said takes → GoesOnSo o line sides next said
goes_so o sides next said line looks asked =
    subst (λ (l : TwinLine). (takes : TakesLine l sides next said) → HasMemory l sides next said takes → GoesOnSo o l sides next said) (sym asked.is)
    (λ takes met. record {
      says = λ unpolled. (takes.0, takes.1, answered o sides looks asked.request asked.from next takes.0 takes.2 met.0 met.1 unpolled);
      looks = λ calm. still o sides looks asked.request asked.from next takes.0 takes.2 met.0 met.1 calm;
    })

all_so : (o : List ℕ) (place : ℕ) (sides : Sides) (texts : List (List ℕ)) (after : Sides) (said : List (List ℕ)) → LooksTheSame o sides → (takes : TakesTexts place sides texts after said) → AreAnsweredTheSame place sides texts after said takes
all_so o place sides [] after said looks takes = tt
all_so o place sides (text ∷ texts) after said looks takes = λ met.
    let so = goes_so o sides takes.0 takes.1 takes.3.line looks (asked_so o place sides takes.0 text takes.1 looks takes.3) takes.3.takes met in
    (so.says, λ calm. all_so o (place + 1) takes.0 texts after takes.2 (so.looks calm) takes.5)

-- ---- the line at which they agree

agrees : (o : List ℕ) (left right : EntityData) (text : List ℕ) → IsVerdict o left right text → text ≡ agree_line → sight o left ≡ sight o right
agrees o left right text verdict is = elim verdict [
  | inl same ↦ same.0
  | inr differs ↦ let clash : agree_line ≡ differ_line = sym is ∙ differs.1 in cc
]

looks_so : (place : ℕ) (sides next : Sides) (text : List ℕ) (said : Option (List ℕ)) (line : TwinLine) → AreSound sides → next_form sides text ≡ Some line → (takes : TakesLine line sides next said) → SaysAgree line said → (o : List ℕ) × LooksTheSame o next
looks_so place sides next text said OpensLeft sound form takes agree = absurd agree
looks_so place sides next text said (PreparesLeft line) sound form takes agree = absurd agree
looks_so place sides next text said OpensRight sound form takes agree = absurd agree
looks_so place sides next text said (PreparesRight line) sound form takes agree = absurd agree
looks_so place sides next text said (Compares o) sound form takes agree =
    let p = takes.2 in
    let kept = kept_sound (Compares o) sides next said sound takes in
    let is : takes.0 ≡ agree_line = same_Some takes.0 agree_line (sym takes.1 ∙ agree) in (
      o,
      record {
        sound = kept;
        part = ap (λ (s : Sides). s.part) p.next_is;
        own = subst (λ (h : HomeData). is_own_short h o ≡ true) (sym (ap (λ (s : Sides). s.home) p.next_is)) (own_short sides.part sides.home text o form);
        same = subst (λ (s : Sides). sight o s.left ≡ sight o s.right) (sym p.next_is) (agrees o p.left p.right takes.0 p.verdict is);
      },
    )
looks_so place sides next text said (AsksBoth request) sound form takes agree = absurd agree

from_here : (place : ℕ) (sides : Sides) (texts : List (List ℕ)) (after : Sides) (said : List (List ℕ)) → AreSound sides → (takes : TakesTexts place sides texts after said) → AgreeAndAnswerTheSame place sides texts after said takes
from_here place sides [] after said sound takes = tt
from_here place sides (text ∷ texts) after said sound takes = (
  λ agree.
      let form = has_form (next_form sides) place text takes.3.line takes.3.is in
      let looks = looks_so place sides takes.0 text takes.1 takes.3.line sound form takes.3.takes agree in
      all_so looks.0 (place + 1) takes.0 texts after takes.2 looks.1 takes.5,
  from_here (place + 1) takes.0 texts after takes.2 (kept_sound takes.3.line sides takes.0 takes.1 sound takes.3.takes) takes.5,
)

pub agreeing : AgreeingSidesAnswerTheSame
agreeing home texts after said is takes =
    from_here 1 (starting home) texts after said (record {
      left = sound_opening home 0 is;
      right = sound_opening home 0 is;
      left_home = refl;
    }) takes
