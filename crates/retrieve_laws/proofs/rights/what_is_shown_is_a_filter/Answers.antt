use Rattle.retrieve_laws.proofs.Words.{◌∙◌, ap, sym, take}
use Rattle.retrieve_laws.proofs.Terms.{may_retrieve, most_shown, forest_of}
use Rattle.retrieve_laws.proofs.CutLemmas.{preorder-cut}
use Rattle.retrieve_laws.proofs.ReachLemmas.{filtered_is_reached}
use Rattle.retrieve_laws.proofs.rights.what_is_shown_is_a_filter.Goals as goal

pub returns : goal.returns
returns c = λ home nodes o n r tree there.
    preorder-cut (forest_of (may_retrieve home nodes o) n nodes) most_shown
    ∙ ap (take most_shown) (sym (filtered_is_reached nodes tree (may_retrieve home nodes o) n r there))
