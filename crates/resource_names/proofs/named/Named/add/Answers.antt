use Rattle.std.proofs.Common.{[], ◌∷◌, ◌++◌}
use Rattle.resource_model.specs.Resource.{ae_id, cse_id}
use Rattle.tree_model.proofs.GrowthLemmas.{next_fits}
use Rattle.resource_names.specs.Names.{IsNamed}
use Rattle.resource_names.proofs.NameLemmas.{any_err, ids_added, ids_before, ids_same, names_before, names_grown, on_err, on_ok}
use Rattle.resource_names.proofs.named.Named.add.Goals as goal

pub returns-in_err-add_id-clause-err : goal.returns-in_err-add_id-clause-err
returns-in_err-add_id-clause-err c =
    let nodes = c.args.list.now in
    let r = c.args.resource.now in
    let P : Type 0 = IsNamed nodes (record { children = c.add_child.new.children; aes = c.add_id.new.ids; cses = c.args.self.now.cses; nameless = 0 }) in
    any_err c.from_residual-in_err-add_id.result P (record {
      children = names_before nodes r c.requires.next c.add_child.new.children (names_grown nodes r c.requires.next c.args.self.now.children c.add_child.new.children c.requires.named.children c.in_ok-add_child.ensures.ok);
      aes = ids_same ae_id nodes c.args.self.now.aes c.add_id.new.ids c.in_err-add_id.ensures.err c.requires.named.aes;
      cses = c.requires.named.cses;
    })

pub returns-clause-ok : goal.returns-clause-ok
returns-clause-ok c =
    let nodes = c.args.list.now in
    let r = c.args.resource.now in
    let P : Type 0 = IsNamed (nodes ++ r ∷ []) (record { children = c.add_child.new.children; aes = c.add_id.new.ids; cses = c.add_id-2.new.ids; nameless = 0 }) in
    on_ok c.add_id-2.result _ P c.add_id-2.ensures.ok (λ adds. record {
      children = names_grown nodes r c.requires.next c.args.self.now.children c.add_child.new.children c.requires.named.children c.in_ok-add_child.ensures.ok;
      aes = ids_added nodes r c.requires.next ae_id c.args.self.now.aes c.add_id.new.ids _ c.number.result (next_fits nodes r c.requires.next).ae c.ae_id.ensures c.number.ensures.value c.requires.named.aes c.in_ok-add_id.ensures.ok;
      cses = ids_added nodes r c.requires.next cse_id c.args.self.now.cses c.add_id-2.new.ids _ c.number-2.result (next_fits nodes r c.requires.next).cse c.cse_id.ensures c.number-2.ensures.value c.requires.named.cses adds;
    })

pub returns-clause-err : goal.returns-clause-err
returns-clause-err c =
    let nodes = c.args.list.now in
    let r = c.args.resource.now in
    let P : Type 0 = IsNamed nodes (record { children = c.add_child.new.children; aes = c.add_id.new.ids; cses = c.add_id-2.new.ids; nameless = 0 }) in
    on_err c.add_id-2.result _ P c.add_id-2.ensures.err (λ same. record {
      children = names_before nodes r c.requires.next c.add_child.new.children (names_grown nodes r c.requires.next c.args.self.now.children c.add_child.new.children c.requires.named.children c.in_ok-add_child.ensures.ok);
      aes = ids_before nodes r c.requires.next ae_id c.add_id.new.ids (ids_added nodes r c.requires.next ae_id c.args.self.now.aes c.add_id.new.ids _ c.number.result (next_fits nodes r c.requires.next).ae c.ae_id.ensures c.number.ensures.value c.requires.named.aes c.in_ok-add_id.ensures.ok);
      cses = ids_same cse_id nodes c.args.self.now.cses c.add_id-2.new.ids same c.requires.named.cses;
    })
