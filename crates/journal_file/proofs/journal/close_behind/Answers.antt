use Rattle.std.proofs.Common.{◌≡◌, ◌∷◌, [], length, take, sym, subst, ◌∙◌, arith}
use Rattle.std.proofs.lemmas.List.{length-take-le}
use Rattle.kept_file.specs.Crashes.{Overwrites, TornCut, TornWrite}
use Rattle.kept_file.proofs.MomentLemmas.{leaves_wider, runs_on}
use Rattle.journal_file.specs.Gates.{KeepsText}
use Rattle.journal_file.proofs.GateLemmas.{closed_end, keeps_cut, keeps_end, on_ok}
use Rattle.journal_file.proofs.journal.close_behind.Goals as goal

pub returns-in_err-cut_synced-clause-any_moment : goal.returns-in_err-cut_synced-clause-any_moment
returns-in_err-cut_synced-clause-any_moment g c = λ told.
    let K = g.F.KeptFile in
    let old = c.args.file.now in
    let len = c.args.len in
    let text = take len (K.seen old) in
    let size = length-take-le len (K.seen old) (c.requires.within told) in
    leaves_wider K.moment K.left_since old c.cut_synced.new.file (TornCut len (K.seen old)) (KeepsText text)
    (λ b cut. keeps_cut text len size (K.seen old) b (c.requires.text told) cut) (c.cut_synced.ensures.any_moment told)

pub returns-clause-any_moment : goal.returns-clause-any_moment
returns-clause-any_moment g c = λ told.
    let K = g.F.KeptFile in
    let old = c.args.file.now in
    let len = c.args.len in
    let text = take len (K.seen old) in
    let size = length-take-le len (K.seen old) (c.requires.within told) in
    let mid = c.cut_synced.new.file in
    let new = c.write_synced.new.file in
    let is : K.seen mid ≡ text = c.in_ok-cut_synced.ensures.cut told in
    let cut = leaves_wider K.moment K.left_since old mid (TornCut len (K.seen old)) (KeepsText text)
    (λ b cut. keeps_cut text len size (K.seen old) b (c.requires.text told) cut) (c.cut_synced.ensures.any_moment told) in
    let closed = leaves_wider K.moment K.left_since mid new (TornWrite len 1 (K.seen mid)) (KeepsText text)
    (λ b torn. keeps_end text len size 1 b (omega arith) (subst (λ t. TornWrite len 1 t b) is torn)) (c.write_synced.ensures.any_moment told) in
    runs_on K.moment K.left_since old mid new (KeepsText text) cut closed

pub returns-clause-rest : goal.returns-clause-rest
returns-clause-rest g c = λ told.
    let K = g.F.KeptFile in
    let len = c.args.len in
    let text = take len (K.seen c.args.file.now) in
    let size = length-take-le len (K.seen c.args.file.now) (c.requires.within told) in
    let is : K.seen c.cut_synced.new.file ≡ text = c.in_ok-cut_synced.ensures.cut told in
    on_ok c.write_synced.result
    (λ over. closed_end text len size (K.seen c.write_synced.new.file)
    (subst (λ t. Overwrites t len (10 ∷ []) (K.seen c.write_synced.new.file)) is over)) (c.write_synced.ensures.written told)
