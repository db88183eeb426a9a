-- A value nests no deeper than what it is kept from.
use Rattle.std.proofs.Common.{◌≡◌, ◌≤◌, suc, max, Option, Some, None, Result, Ok, Err, IfOk, is_err, true≢false, refl, ap, arith}
use Rattle.std.proofs.lemmas.Result.{IfOk-at_ok}
use Rattle.serde_json.specs.Data as json
use Rattle.m2m_value.specs.Data.{Data, number, list, object, Elements, element, Pairs, pair, depth, elements_depth, pairs_depth}
use Rattle.m2m_value.specs.Reading.{followed, whole_of, value_kept, value_if, elements_in, pairs_in, reading_depth, Gives}
use Rattle.m2m_value.specs.declared.fault.ValFault.{ValFault}

-- each value that is told meets P
abbrev IfTold : {A : Type 0} → (A → Type 0) → Result A ValFault → Type 0
IfTold P r = IfOk r P

followed_by : {A B : Type 0} (P : A → Type 0) (Q : B → Type 0) (r : Result A ValFault) (next : A → Result B ValFault) → IfTold P r → ((a : A) → P a → IfTold Q (next a)) → IfTold Q (followed r next)
followed_by P Q (Ok a) next h step = step a h
followed_by P Q (Err fault) next h step = tt

any_told : {A : Type 0} (P : A → Type 0) (r : Result A ValFault) → ((a : A) → P a) → IfTold P r
any_told P (Ok a) h = h a
any_told P (Err fault) h = tt

mutual
  pub no_deeper : (j : json.Data) → IfTold (λ d. depth d ≤ json.depth j) (value_kept j)
  no_deeper json.null = omega arith
  no_deeper (json.boolean b) = omega arith
  no_deeper (json.number n) = followed_by (λ z. Unit {0}) (λ d. depth d ≤ 0) (whole_of n) (λ z. Ok (number z)) (any_told (λ z. Unit {0}) (whole_of n) (λ z. tt)) (λ z h. let none : 0 ≤ 0 = omega arith in none)
  no_deeper (json.string s) = omega arith
  no_deeper (json.array js) = followed_by (λ es. elements_depth es ≤ json.items_depth js) (λ d. depth d ≤ suc (json.items_depth js)) (elements_in js) (λ es. Ok (list es)) (no_deeper_elements js) (λ es h. omega (arith, h))
  no_deeper (json.object ms) = followed_by (λ ps. pairs_depth ps ≤ json.members_depth ms) (λ d. depth d ≤ suc (json.members_depth ms)) (pairs_in ms) (λ ps. Ok (object ps)) (no_deeper_pairs ms) (λ ps h. omega (arith, h))

  no_deeper_elements : (js : json.Items) → IfTold (λ es. elements_depth es ≤ json.items_depth js) (elements_in js)
  no_deeper_elements json.no_items = omega arith
  no_deeper_elements (json.item j js) =
      let Q : Elements → Type 0 = λ es. elements_depth es ≤ max (json.depth j) (json.items_depth js) in
      followed_by (λ d. depth d ≤ json.depth j) Q (value_kept j) (λ e. followed (elements_in js) (λ es. Ok (element e es))) (no_deeper j) (λ d h.
      followed_by (λ es. elements_depth es ≤ json.items_depth js) Q (elements_in js) (λ es. Ok (element d es)) (no_deeper_elements js) (λ es k. omega (arith, h, k)))

  no_deeper_pairs : (ms : json.Members) → IfTold (λ ps. pairs_depth ps ≤ json.members_depth ms) (pairs_in ms)
  no_deeper_pairs json.no_members = omega arith
  no_deeper_pairs (json.member k j ms) =
      let Q : Pairs → Type 0 = λ ps. pairs_depth ps ≤ max (json.depth j) (json.members_depth ms) in
      followed_by (λ d. depth d ≤ json.depth j) Q (value_kept j) (λ e. followed (pairs_in ms) (λ ps. Ok (pair k e ps))) (no_deeper j) (λ d h.
      followed_by (λ ps. pairs_depth ps ≤ json.members_depth ms) Q (pairs_in ms) (λ ps. Ok (pair k d ps)) (no_deeper_pairs ms) (λ ps l. omega (arith, h, l)))

-- what is kept of a value is as shallow as it
pub shallow : (r : Result Data ValFault) (j : json.Data) → Gives (λ d. d) r (value_kept j) → json.depth j ≤ reading_depth → IfOk r (λ d. depth d ≤ reading_depth)
shallow (Ok d) j told h = let within : depth d ≤ json.depth j = IfOk-at_ok (λ v. depth v ≤ json.depth j) told (no_deeper j) in omega (arith, within)
shallow (Err fault) j told h = tt

-- and so is what is kept of a value that was read
pub shallow_read : (o : Option json.Data) (d : Data) → value_if o ≡ Ok d → ((j : json.Data) → o ≡ Some j → json.depth j ≤ reading_depth) → depth d ≤ reading_depth
shallow_read None d told h = absurd (true≢false (ap is_err told))
shallow_read (Some j) d told h = let within : depth d ≤ json.depth j = IfOk-at_ok (λ v. depth v ≤ json.depth j) told (no_deeper j) in let low = h j refl in omega (arith, within, low)
