use Rattle.std.proofs.Common.{◌≡◌, ◌++◌, ◌∷◌, [], inl, length, take, drop, sym, subst, ap, ◌∙◌, arith}
use Rattle.std.proofs.lemmas.List.{take_rest}
use Rattle.kept_file.specs.Crashes.{Overwrites, TornWrite}
use Rattle.kept_file.proofs.MomentLemmas.{leaves_wider, runs_on}
use Rattle.journal_file.specs.Gates.{Begins, KeepsBeforeOrAfter, at_rest}
use Rattle.journal_file.proofs.GateLemmas.{gate_opened, gate_torn, keeps_behind, on_ok}
use Rattle.journal_file.proofs.journal.put.Goals as goal

-- behind the closed gate
pub returns-in_err-write_behind-clause-any_moment : goal.returns-in_err-write_behind-clause-any_moment
returns-in_err-write_behind-clause-any_moment g c = λ told.
    let K = g.F.KeptFile in
    let old = c.args.file.now in
    let len = c.args.len in
    let text = take len (K.seen old) in
    leaves_wider K.moment K.left_since old c.write_behind.new.file (Begins (K.seen old)) (KeepsBeforeOrAfter text c.args.batch.now)
    (λ b front. inl (keeps_behind text len (c.requires.len told) b (subst (λ t. Begins t b) (c.requires.rest told) front))) (c.write_behind.ensures.any_moment told)

-- and then the gate
pub returns-clause-any_moment : goal.returns-clause-any_moment
returns-clause-any_moment g c = λ told.
    let K = g.F.KeptFile in
    let old = c.args.file.now in
    let len = c.args.len in
    let batch = c.args.batch.now in
    let text = take len (K.seen old) in
    let P = KeepsBeforeOrAfter text batch in
    let mid = c.write_behind.new.file in
    let new = c.write_synced.new.file in
    let behind = leaves_wider K.moment K.left_since old mid (Begins (K.seen old)) P
    (λ b front. inl (keeps_behind text len (c.requires.len told) b (subst (λ t. Begins t b) (c.requires.rest told) front))) (c.write_behind.ensures.any_moment told) in
    let is : K.seen mid ≡ at_rest text ++ at_rest (drop 1 batch) =
    c.in_ok-write_behind.ensures.written told
    ∙ ap (λ l. K.seen c.args.file.now ++ at_rest l) (take_rest batch 1)
    ∙ ap (λ t. t ++ at_rest (drop 1 batch)) (c.requires.rest told) in
    let gate = leaves_wider K.moment K.left_since mid new (TornWrite len 1 (K.seen mid)) P
    (λ b torn. gate_torn text len (c.requires.len told) batch b c.requires.batch (subst (λ t. TornWrite len 1 t b) is torn)) (c.write_synced.ensures.any_moment told) in
    runs_on K.moment K.left_since old mid new P behind gate

pub returns-clause-rest : goal.returns-clause-rest
returns-clause-rest g c = λ told.
    let K = g.F.KeptFile in
    let len = c.args.len in
    let batch = c.args.batch.now in
    let text = take len (K.seen c.args.file.now) in
    let is : K.seen c.write_behind.new.file ≡ at_rest text ++ at_rest (drop 1 batch) =
    c.in_ok-write_behind.ensures.written told
    ∙ ap (λ l. K.seen c.args.file.now ++ at_rest l) (take_rest batch 1)
    ∙ ap (λ t. t ++ at_rest (drop 1 batch)) (c.requires.rest told) in
    on_ok c.write_synced.result
    (λ over. gate_opened text len (c.requires.len told) batch (K.seen c.write_synced.new.file) c.requires.batch
    (subst (λ t. Overwrites t len (64 ∷ []) (K.seen c.write_synced.new.file)) is over)) (c.write_synced.ensures.written told)
