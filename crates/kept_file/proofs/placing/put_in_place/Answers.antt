use Rattle.std.proofs.Common.{◌≡◌, sym, ap, ◌∙◌, subst}
use Rattle.kept_file.specs.Crashes.{LeavesThis}
use Rattle.kept_file.proofs.PlaceLemmas.{at_first, given_on, stays_on}
use Rattle.kept_file.proofs.placing.put_in_place.Goals as goal

pub returns-in_err-file-clause-any_moment : goal.returns-in_err-file-clause-any_moment
returns-in_err-file-clause-any_moment g c = λ told.
    let K = g.N.KeptName in
    let old = c.args.name.now in
    let first = at_first K.seen K.may_leave K.moment K.left_since (g.met.N.KeptName.only_now told) c.args.bytes.now old (c.requires told) in
    let made = stays_on K.seen K.may_leave K.moment K.left_since (g.met.N.KeptName.only_now told) c.args.bytes.now old old c.make.new.self first (c.make.ensures.crash told) (c.make.ensures.time told) in
    made.leaves

pub returns-in_err-fill-clause-any_moment : goal.returns-in_err-fill-clause-any_moment
returns-in_err-fill-clause-any_moment g c = λ told.
    let K = g.N.KeptName in
    let old = c.args.name.now in
    let first = at_first K.seen K.may_leave K.moment K.left_since (g.met.N.KeptName.only_now told) c.args.bytes.now old (c.requires told) in
    let made = stays_on K.seen K.may_leave K.moment K.left_since (g.met.N.KeptName.only_now told) c.args.bytes.now old old c.make.new.self first (c.make.ensures.crash told) (c.make.ensures.time told) in
    made.leaves

pub returns-in_err-give-clause-any_moment : goal.returns-in_err-give-clause-any_moment
returns-in_err-give-clause-any_moment g c = λ told.
    let K = g.N.KeptName in
    let old = c.args.name.now in
    let first = at_first K.seen K.may_leave K.moment K.left_since (g.met.N.KeptName.only_now told) c.args.bytes.now old (c.requires told) in
    let made = stays_on K.seen K.may_leave K.moment K.left_since (g.met.N.KeptName.only_now told) c.args.bytes.now old old c.make.new.self first (c.make.ensures.crash told) (c.make.ensures.time told) in
    let given = given_on K.seen K.may_leave K.moment K.left_since (g.met.N.KeptName.only_now told) c.args.bytes.now old c.make.new.self c.give.new.self _ (c.in_ok-fill.ensures.seen (c.make.ensures.tells told)) made (c.give.ensures.crash told) (c.give.ensures.time told) in
    given.leaves

pub returns-in_err-sync-clause-any_moment : goal.returns-in_err-sync-clause-any_moment
returns-in_err-sync-clause-any_moment g c = λ told.
    let K = g.N.KeptName in
    let old = c.args.name.now in
    let first = at_first K.seen K.may_leave K.moment K.left_since (g.met.N.KeptName.only_now told) c.args.bytes.now old (c.requires told) in
    let made = stays_on K.seen K.may_leave K.moment K.left_since (g.met.N.KeptName.only_now told) c.args.bytes.now old old c.make.new.self first (c.make.ensures.crash told) (c.make.ensures.time told) in
    let given = given_on K.seen K.may_leave K.moment K.left_since (g.met.N.KeptName.only_now told) c.args.bytes.now old c.make.new.self c.give.new.self _ (c.in_ok-fill.ensures.seen (c.make.ensures.tells told)) made (c.give.ensures.crash told) (c.give.ensures.time told) in
    let synced = stays_on K.seen K.may_leave K.moment K.left_since (g.met.N.KeptName.only_now told) c.args.bytes.now old c.give.new.self c.sync.new.self given (c.sync.ensures.crash told) (c.sync.ensures.time told) in
    synced.leaves

pub returns-clause-any_moment : goal.returns-clause-any_moment
returns-clause-any_moment g c = λ told.
    let K = g.N.KeptName in
    let old = c.args.name.now in
    let first = at_first K.seen K.may_leave K.moment K.left_since (g.met.N.KeptName.only_now told) c.args.bytes.now old (c.requires told) in
    let made = stays_on K.seen K.may_leave K.moment K.left_since (g.met.N.KeptName.only_now told) c.args.bytes.now old old c.make.new.self first (c.make.ensures.crash told) (c.make.ensures.time told) in
    let given = given_on K.seen K.may_leave K.moment K.left_since (g.met.N.KeptName.only_now told) c.args.bytes.now old c.make.new.self c.give.new.self _ (c.in_ok-fill.ensures.seen (c.make.ensures.tells told)) made (c.give.ensures.crash told) (c.give.ensures.time told) in
    let synced = stays_on K.seen K.may_leave K.moment K.left_since (g.met.N.KeptName.only_now told) c.args.bytes.now old c.give.new.self c.sync.new.self given (c.sync.ensures.crash told) (c.sync.ensures.time told) in
    synced.leaves
