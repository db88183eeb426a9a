use Rattle.std.proofs.Common.{◌≡◌}
use Rattle.std.specs.Str.{bytes_eq}
use Rattle.std.proofs.lemmas.Slice.Eq.{bytes_eq-Decides}
use Rattle.m2m_names.specs.Types.{all_types, ty_row, ty_of_word}
use Rattle.m2m_names.proofs.LookupLemmas.{none_at, found_at}
use Rattle.m2m_names.proofs.TypeLemmas.{ty_of_word-word}
use Rattle.m2m_names.proofs.types.Ty.from_word.Goals as goal

pub returns-clause-found : goal.returns-clause-found
returns-clause-found c =
    found_at (λ ty. bytes_eq (ty_row ty).word c.args.word.now) all_types (λ ty. (ty_row ty).word ≡ c.args.word.now)
    (λ ty. (bytes_eq-Decides (ty_row ty).word c.args.word.now).0) c.find_word.result c.find_word.ensures

pub returns-clause-none : goal.returns-clause-none
returns-clause-none c = none_at (λ ty. (ty_row ty).word) ty_of_word ty_of_word-word c.args.word.now c.find_word.result c.find_word.ensures
