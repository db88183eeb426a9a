use Rattle.std.specs.Prelude.{is_ok}
use Rattle.std.specs.Option.{option_and_then}
use Rattle.std.proofs.Common.{◌≡◌, ℕ, true, List, Option, sym, ap, ◌∙◌, subst}
use Rattle.primitive_json.specs.declared.request.RequestParts.{RequestParts}
use Rattle.addressing.specs.Addresses.{address_of}
use Rattle.accepted_requests.specs.Entries.{numbered}
use Rattle.accepted_requests.specs.Names.{is_here, number_in}
use Rattle.accepted_requests.proofs.AskedLemmas.{owned_by}
use Rattle.accepted_requests.proofs.asked.Asked.of.Goals as goal

pub returns-clause-asked : goal.returns-clause-asked
returns-clause-asked c = λ who ok short.
    let home = c.args.home.now in
    let request = c.args.request.now in
    let sent : c.entries-target.result.now ≡ request.to = c.entries-target.ensures ∙ ap (λ (r : RequestParts). r.to) c.parts.ensures.same in
    let read : is_ok (address_of home c.entries-target.result.now) ≡ true = subst (λ (to : List ℕ). is_ok (address_of home to) ≡ true) (sym sent) ok in
    let number = c.target_of-is_here.ensures.number read ∙ ap (λ (to : List ℕ). number_in (address_of home to)) sent in
    record {
      originator = c.short_asking-originator.ensures.value ∙ short;
      here = c.target_of-is_here.ensures.here read ∙ ap (λ (to : List ℕ). is_here (address_of home to)) sent;
      number = number;
      own =
          c.owns-is_own.ensures who (c.short_asking-originator.ensures.value ∙ short)
          ∙ ap (λ (n : Option ℕ). owned_by home (option_and_then (λ (k : ℕ). numbered k c.args.requests.now) n) who) number;
    }

pub returns-clause-originator : goal.returns-clause-originator
returns-clause-originator c = c.short_asking-originator.ensures.originator
