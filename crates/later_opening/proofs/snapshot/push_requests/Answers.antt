use Rattle.std.proofs.Common.{◌≡◌, ◌<◌, ◌≤◌, ◌++◌, Bool, ℕ, List, [], if◌then◌else◌, sym, ap, subst, arith, rules, eq-eqb, ne_eqb}
use Rattle.std.specs.Prelude.{flat_map}
use Rattle.accepted_requests.specs.Entries.{LaterEntryData, LaterRequestsData}
use Rattle.later_lines.specs.Words.{word_lines}
use Rattle.later_lines.specs.declared.word.Word.TheVariants.{Given}
use Rattle.later_opening.proofs.SnapshotLemmas.{given_appended, given_past, lines_with_given, lines_without_given, number_unkept, on_both_ok, on_ok, some}
use Rattle.later_opening.specs.Snapshots.{AppendsWords, CanBeKeptAt, entry_lines, last_of, requests_lines}
use Rattle.later_opening.proofs.snapshot.push_requests.Goals as goal

-- ---- not all of them are put

pub returns-in_err-last-clause-unkept : goal.returns-in_err-last-clause-unkept
returns-in_err-last-clause-unkept c = λ fault can.
    let given = c.requests.inside.given in
    let here : CanBeKeptAt c.args.moment (some c.requests.inside.entries.items given) = subst (CanBeKeptAt c.args.moment) (sym c.requests.view_is) can in
    c.in_err-last.ensures.unkept (search rules) given (subst (λ (l : List LaterEntryData). CanBeKeptAt c.args.moment (some l given)) (sym c.deref.ensures.value) here)

-- ---- the last of them has the last number

pub returns-then-requests-last-clause-lines : goal.returns-then-requests-last-clause-lines
returns-then-requests-last-clause-lines c =
    let text = c.args.text.now.items in
    let mid = c.push_entries.new.text.items in
    let entries = c.requests.inside.entries.items in
    let given = c.requests.inside.given in
    let last = c.in_ok-last.last in
    let lines : mid ≡ text ++ flat_map entry_lines entries = subst (λ (l : List LaterEntryData). mid ≡ text ++ flat_map entry_lines l) c.deref.ensures.value c.in_ok-last.ensures.lines in
    let is : last ≡ last_of 0 entries = subst (λ (l : List LaterEntryData). last ≡ last_of 0 l) c.deref.ensures.value c.in_ok-last.ensures.last in
    subst (λ (q : LaterRequestsData). mid ≡ text ++ requests_lines q) c.requests.view_is
    (lines_without_given entries given last text mid lines is (ap (λ (b : Bool). if b then [] else word_lines (Given given)) (eq-eqb given last c.if-requests-last.true)))

-- ---- it has a greater one

pub returns-then-requests-last-2-clause-unkept : goal.returns-then-requests-last-2-clause-unkept
returns-then-requests-last-2-clause-unkept c = λ fault can.
    let entries = c.requests.inside.entries.items in
    let given = c.requests.inside.given in
    let last = c.in_ok-last.last in
    let here : CanBeKeptAt c.args.moment (some entries given) = subst (CanBeKeptAt c.args.moment) (sym c.requests.view_is) can in
    let is : last ≡ last_of 0 entries = subst (λ (l : List LaterEntryData). last ≡ last_of 0 l) c.deref.ensures.value c.in_ok-last.ensures.last in
    let low : given < last = c.if-requests-last-2.true in
    let high : last_of 0 entries ≤ given = given_past 0 given entries here.numbered in
    absurd (omega (arith, low, high, is))

-- ---- it is put

pub returns-clause-put : goal.returns-clause-put
returns-clause-put c =
    let text = c.args.text.now.items in
    let mid = c.push_entries.new.text.items in
    let new = c.push_given.new.text.items in
    let entries = c.requests.inside.entries.items in
    let last = c.in_ok-last.last in
    on_both_ok _ _ _ (λ put back. λ e at.
    let words : AppendsWords e (some entries last) text mid = subst (λ (l : List LaterEntryData). AppendsWords e (some l last) text mid) c.deref.ensures.value (c.in_ok-last.ensures.put e at) in
    subst (λ (q : LaterRequestsData). AppendsWords e q text new) c.requests.view_is
    (given_appended e entries last c.requests.inside.given text mid new words c.if-requests-last-2.false back put))
    c.push_given.result c.push_given.ensures.written c.push_given.ensures.reads_back

pub returns-clause-lines : goal.returns-clause-lines
returns-clause-lines c =
    let text = c.args.text.now.items in
    let mid = c.push_entries.new.text.items in
    let new = c.push_given.new.text.items in
    let entries = c.requests.inside.entries.items in
    let given = c.requests.inside.given in
    let last = c.in_ok-last.last in
    let lines : mid ≡ text ++ flat_map entry_lines entries = subst (λ (l : List LaterEntryData). mid ≡ text ++ flat_map entry_lines l) c.deref.ensures.value c.in_ok-last.ensures.lines in
    let is : last ≡ last_of 0 entries = subst (λ (l : List LaterEntryData). last ≡ last_of 0 l) c.deref.ensures.value c.in_ok-last.ensures.last in
    on_ok _ _ (λ put.
    subst (λ (q : LaterRequestsData). new ≡ text ++ requests_lines q) c.requests.view_is
    (lines_with_given entries given last text mid new lines is (ap (λ (b : Bool). if b then [] else word_lines (Given given)) (ne_eqb given last c.if-requests-last.false)) put))
    c.push_given.result c.push_given.ensures.written

pub returns-clause-unkept : goal.returns-clause-unkept
returns-clause-unkept c = λ fault can.
    let given = c.requests.inside.given in
    let here : CanBeKeptAt c.args.moment (some c.requests.inside.entries.items given) = subst (CanBeKeptAt c.args.moment) (sym c.requests.view_is) can in
    number_unkept given (c.push_given.ensures.unkept fault) here.given
