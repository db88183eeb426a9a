use Rattle.std.proofs.Common.{◌≡◌}
use Rattle.std.specs.Str.{bytes_eq}
use Rattle.std.proofs.lemmas.Slice.Eq.{bytes_eq-Decides}
use Rattle.m2m_names.specs.Attributes.{attr_short, attr_of_short, all_attrs}
use Rattle.m2m_names.proofs.LookupLemmas.{none_at, found_at}
use Rattle.m2m_names.proofs.AttributeLemmas.{attr_again}
use Rattle.m2m_names.proofs.attributes.Attr.from_short_bytes.Goals as goal

pub returns-clause-found : goal.returns-clause-found
returns-clause-found c =
    found_at (λ a. bytes_eq (attr_short a) c.args.text.now) all_attrs (λ a. attr_short a ≡ c.args.text.now)
    (λ a. (bytes_eq-Decides (attr_short a) c.args.text.now).0) c.find.result c.find.ensures

pub returns-clause-none : goal.returns-clause-none
returns-clause-none c = none_at attr_short attr_of_short attr_again c.args.text.now c.find.result c.find.ensures
