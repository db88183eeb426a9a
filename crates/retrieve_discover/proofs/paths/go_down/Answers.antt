use Rattle.std.proofs.Common.{◌≡◌, ℕ, List, [], ◌∷◌, ◌++◌, IsUtf8, ap, sym, ◌∙◌, subst}
use Rattle.std.proofs.lemmas.List.{append_assoc}
use Rattle.retrieve_discover.proofs.PathLemmas.{down_utf8}
use Rattle.retrieve_discover.proofs.paths.go_down.Goals as goal

pub returns-clause-utf8 : goal.returns-clause-utf8
returns-clause-utf8 c = λ above.
    let path : List ℕ = c.args.path.now.items in
    let name : List ℕ = c.entries.result.now in
    let own : IsUtf8 name = subst IsUtf8 (sym c.entries.ensures) c.name.ensures.utf8 in
    let is : c.extend_from_slice.new.self.items ≡ path ++ 47 ∷ name = c.in_ok-extend_from_slice.ensures.items ∙ ap (λ (t : List ℕ). t ++ name) c.in_ok-push.ensures.items ∙ append_assoc path (47 ∷ []) name in
    subst IsUtf8 (sym is) (down_utf8 path name above own)
