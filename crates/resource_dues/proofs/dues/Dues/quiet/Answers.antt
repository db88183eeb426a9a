use Rattle.std.proofs.Common.{◌≤◌, refl, arith, inl, inr}
use Rattle.std.specs.Prelude.{nat_le}
use Rattle.std.proofs.lemmas.Bool.{both_ways, leb-true, or_cases}
use Rattle.m2m_names.specs.Stamps.{last_moment}
use Rattle.resource_dues.specs.Dues.{is_listed}
use Rattle.resource_dues.proofs.DuesLemmas.{first_least, nothing_listed, quiet_until}
use Rattle.resource_dues.proofs.dues.Dues.quiet.Goals as goal

pub returns-in-Some : goal.returns-in-Some
returns-in-Some c nodes tree told =
    let entries = c.args.self.now.moments.keys in
    quiet_until nodes entries _ tree told (λ moment n is. elim (or_cases (nat_le last_moment moment) (is_listed moment n entries) is) [
      | inl last ↦ (let late : last_moment ≤ moment = leb-true last_moment moment last in omega (arith, late))
      | inr listed ↦ (let late : c.in-Some.entry.now.0 ≤ moment = first_least c.in-Some.entry.now entries moment n c.in-Some.ensures.all_from listed in omega (arith, late))
    ])

pub returns-in-None : goal.returns-in-None
returns-in-None c nodes tree told =
    let entries = c.args.self.now.moments.keys in
    quiet_until nodes entries _ tree told (λ moment n is. elim (or_cases (nat_le last_moment moment) (is_listed moment n entries) is) [
      | inl last ↦ leb-true last_moment moment last
      | inr listed ↦ absurd (nothing_listed moment n entries (λ less. both_ways _ refl (c.in-None.ensures.variant.1 less)) listed)
    ])
