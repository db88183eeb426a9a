use Rattle.std.proofs.Common.{◌≡◌, false, ◌++◌, List, ℕ, inl, inr, refl, ap, subst, ◌∙◌}
use Rattle.journal_file.specs.Gates.{KeepsBeforeOrAfter, text_of}
use Rattle.kept_file.specs.Crashes.{LeavesOnly}
use Rattle.kept_object.specs.State.{KeptData}
use Rattle.kept_object.specs.Steps.{OnSettle}
use Rattle.kept_object.proofs.ReplaceLemmas.{put_alone, settles_then}
use Rattle.kept_object.proofs.object.KeptObject.settle.Goals as goal

-- it isn't replaced
pub returns-then-len-self : goal.returns-then-len-self
returns-then-len-self g c =
    let K = g.F.KeptFile in
    let old : KeptData g.row.O.Denot g.row.F.Denot = record { object = c.self.inside.object; journal = c.self.inside.journal; pending = c.self.inside.pending.items } in
    let new : KeptData g.row.O.Denot g.row.F.Denot = record { object = c.self.inside.object; journal = c.append.new.self; pending = c.clear.new.self.items } in
    let right : old.journal.is_failed ≡ false = ap (λ (s : KeptData g.row.O.Denot g.row.F.Denot). s.journal.is_failed) c.self.view_is ∙ c.requires in
    let works : c.append.new.self.is_failed ≡ false = c.in-Ok.ensures.failed in
    subst (λ (s : KeptData g.row.O.Denot g.row.F.Denot). OnSettle {O = g.row.O-Outcome.Denot} g.O.Recorder.keeps K.tells K.seen K.may_leave K.moment K.left_since s _ new) c.self.view_is
    (inr (record {
      came = record {
        object = refl;
        pending = c.clear.ensures.items;
        works = works;
        text = λ told. inl (c.in-Ok.ensures.kept told ∙ ap (λ (l : List ℕ). text_of K.seen old.journal ++ l) c.deref.ensures.value);
        settled = λ told. c.append.ensures.ready told works;
      };
      any_moment = put_alone g.O.Recorder.keeps K.tells K.seen K.may_leave K.moment K.left_since old new
          (λ told. subst (λ (l : List ℕ). LeavesOnly K.moment K.left_since old.journal.file new.journal.file (KeepsBeforeOrAfter (text_of K.seen old.journal) l)) c.deref.ensures.value
          (c.append.ensures.any_moment told right));
    }))

-- it may be replaced
pub returns-else-len-self : goal.returns-else-len-self
returns-else-len-self g c =
    let K = g.F.KeptFile in
    let old : KeptData g.row.O.Denot g.row.F.Denot = record { object = c.self.inside.object; journal = c.self.inside.journal; pending = c.self.inside.pending.items } in
    let mid : KeptData g.row.O.Denot g.row.F.Denot = record { object = c.self.inside.object; journal = c.append.new.self; pending = c.clear.new.self.items } in
    let right : old.journal.is_failed ≡ false = ap (λ (s : KeptData g.row.O.Denot g.row.F.Denot). s.journal.is_failed) c.self.view_is ∙ c.requires in
    subst (λ (s : KeptData g.row.O.Denot g.row.F.Denot). OnSettle {O = g.row.O-Outcome.Denot} g.O.Recorder.keeps K.tells K.seen K.may_leave K.moment K.left_since s c.replace.result c.replace.new.self) c.self.view_is
    (inr (settles_then g.O.Recorder.keeps K.tells K.seen K.may_leave K.moment K.left_since old mid c.replace.new.self c.replace.result refl c.clear.ensures.items
    (λ told. c.in-Ok.ensures.kept told ∙ ap (λ (l : List ℕ). text_of K.seen old.journal ++ l) c.deref.ensures.value)
    (λ told. subst (λ (l : List ℕ). LeavesOnly K.moment K.left_since old.journal.file mid.journal.file (KeepsBeforeOrAfter (text_of K.seen old.journal) l)) c.deref.ensures.value
    (c.append.ensures.any_moment told right))
    c.replace.ensures))

-- the file failed
pub returns-in-Err : goal.returns-in-Err
returns-in-Err g c =
    let K = g.F.KeptFile in
    let old : KeptData g.row.O.Denot g.row.F.Denot = record { object = c.self.inside.object; journal = c.self.inside.journal; pending = c.self.inside.pending.items } in
    let new : KeptData g.row.O.Denot g.row.F.Denot = record { object = c.self.inside.object; journal = c.append.new.self; pending = c.self.inside.pending.items } in
    let right : old.journal.is_failed ≡ false = ap (λ (s : KeptData g.row.O.Denot g.row.F.Denot). s.journal.is_failed) c.self.view_is ∙ c.requires in
    subst (λ (s : KeptData g.row.O.Denot g.row.F.Denot). OnSettle {O = g.row.O-Outcome.Denot} g.O.Recorder.keeps K.tells K.seen K.may_leave K.moment K.left_since s _ new) c.self.view_is
    (inr (record {
      came = c.in-Err.ensures.failed;
      any_moment = put_alone g.O.Recorder.keeps K.tells K.seen K.may_leave K.moment K.left_since old new
          (λ told. subst (λ (l : List ℕ). LeavesOnly K.moment K.left_since old.journal.file new.journal.file (KeepsBeforeOrAfter (text_of K.seen old.journal) l)) c.deref.ensures.value
          (c.append.ensures.any_moment told right));
    }))
