use Rattle.std.proofs.Common.{◌≡◌, ℕ, List, [], ◌∷◌, ◌++◌, codes, ap, sym, ◌∙◌, subst}
use Rattle.m2m_value.specs.Data.{Data}
use Rattle.m2m_value.specs.Node.{AreSorted, HaveTextKeys}
use Rattle.retrieve_discover.proofs.MemberLemmas.{pushed_three, reference_sorted, reference_texts}
use Rattle.retrieve_discover.proofs.references.reference.Goals as goal

pub of-requires : goal.of-requires
of-requires g c =
    let name : Data = c.in_ok-name_of.field-0 in
    let typ : Data = c.of_num.result in
    let val : Data = c.in_ok-address.field-0 in
    let is : c.push-3.new.self.items ≡ (codes "nm", name) ∷ (codes "typ", typ) ∷ (codes "val", val) ∷ [] =
    pushed_three c.in_ok-members.members.items c.push.new.self.items c.push-2.new.self.items c.push-3.new.self.items (codes "nm", name) (codes "typ", typ) (codes "val", val) c.in_ok-members.ensures.items
    (c.in_ok-push.ensures.items ∙ ap (λ (k : List ℕ). c.in_ok-members.members.items ++ (k, name) ∷ []) c.named.ensures)
    (c.in_ok-push-2.ensures.items ∙ ap (λ (k : List ℕ). c.push.new.self.items ++ (k, typ) ∷ []) c.named-2.ensures)
    (c.in_ok-push-3.ensures.items ∙ ap (λ (k : List ℕ). c.push-2.new.self.items ++ (k, val) ∷ []) c.named-3.ensures) in
    subst AreSorted (sym is) (reference_sorted name typ val)

pub of_obj-requires : goal.of_obj-requires
of_obj-requires g c =
    let name : Data = c.in_ok-name_of.field-0 in
    let typ : Data = c.of_num.result in
    let val : Data = c.in_ok-address.field-0 in
    let is : c.push-3.new.self.items ≡ (codes "nm", name) ∷ (codes "typ", typ) ∷ (codes "val", val) ∷ [] =
    pushed_three c.in_ok-members.members.items c.push.new.self.items c.push-2.new.self.items c.push-3.new.self.items (codes "nm", name) (codes "typ", typ) (codes "val", val) c.in_ok-members.ensures.items
    (c.in_ok-push.ensures.items ∙ ap (λ (k : List ℕ). c.in_ok-members.members.items ++ (k, name) ∷ []) c.named.ensures)
    (c.in_ok-push-2.ensures.items ∙ ap (λ (k : List ℕ). c.push.new.self.items ++ (k, typ) ∷ []) c.named-2.ensures)
    (c.in_ok-push-3.ensures.items ∙ ap (λ (k : List ℕ). c.push-2.new.self.items ++ (k, val) ∷ []) c.named-3.ensures) in
    subst HaveTextKeys (sym (c.of.ensures ∙ is)) (reference_texts name typ val)
