-- Where the tree knows that nothing is due, no instance is.
use Rattle.std.specs.Prelude.{nat_le}
use Rattle.std.proofs.Common.{◌≡◌, ℕ, ◌+◌, ◌<◌, ◌≤◌, List, [], ◌∷◌, true, false, Option, Some, None, option_map, inl, inr, refl, sym, ap, ◌∙◌, arith}
use Rattle.std.proofs.lemmas.Bool.{cases_Bool, and_parts, eqb-true, ne_eqb, leb-true, lt-leb}
use Rattle.std.specs.List.{filter, list_all, list_any}
use Rattle.m2m_names.specs.Types.{ty_row}
use Rattle.m2m_names.specs.declared.attributes.Attr.TheVariants.{Mia}
use Rattle.m2m_names.specs.declared.types.Ty.TheVariants.{CseBase, ContentInstance}
use Rattle.resource_model.specs.Attributes.{count_at}
use Rattle.resource_model.specs.Resource.{ResourceData, is_ty}
use Rattle.tree_model.specs.Tree.{at, age_of, age_end, end_by, lesser, is_instance, is_quiet, are_quiet, instances_of}
use Rattle.tree_model.proofs.QuietLemmas.{lesser_least}
use Rattle.container_limits.specs.Limits.{is_due_by, is_age, is_mia_of}
use Rattle.tree_model.proofs.TreeLemmas.{kin_parts}

-- the end by the age that the container allows
same_age : (mia : Option ℕ) (age : ℕ) → is_age mia age ≡ true → mia ≡ Some age
same_age None age same = cc
same_age (Some own) age same = ap Some (eqb-true own age same)

same_end : (container : Option ResourceData) (age : ℕ) (r : ResourceData) → is_age (age_of container) age ≡ true → age_end container r ≡ Some (r.ct + age)
same_end None age r has = cc
same_end (Some c) age r has = ap (option_map (λ a. r.ct + a)) (same_age (count_at Mia c.attrs) age has)

-- it is due no earlier than the tree says
end_later : (container : Option ResourceData) (mia : Option ℕ) (r : ResourceData) → is_mia_of container mia ≡ true → lesser r.et (age_end container r) ≤ end_by mia r
end_later container None r own = lesser_least r.et (age_end container r)
end_later container (Some age) r own =
    let same : lesser r.et (age_end container r) ≡ end_by (Some age) r = ap (lesser r.et) (same_end container age r own) in
    omega arith

instance_quiet : (nodes : List ResourceData) (c until moment : ℕ) (mia : Option ℕ) (r : ResourceData) → moment < until → is_mia_of (at c nodes) mia ≡ true → is_instance c r ≡ true → is_quiet nodes until r ≡ true → is_due_by mia moment r ≡ false
instance_quiet nodes c until moment mia r before own instance quiet =
    let kin = kin_parts ContentInstance c r instance in
    let number : (ty_row r.ty).number ≡ 4 = eqb-true (ty_row r.ty).number 4 kin.kind in
    let other : is_ty r.ty CseBase ≡ false = ne_eqb (ty_row r.ty).number 5 (λ e. omega arith) in
    let held : nat_le until (lesser r.et (age_end (at r.parent nodes) r)) ≡ true = rw (other, kin.kind) at quiet in
    let moved : nat_le until (lesser r.et (age_end (at c nodes) r)) ≡ true = ap (λ (n : ℕ). nat_le until (lesser r.et (age_end (at n nodes) r))) (sym kin.under) ∙ held in
    let least : until ≤ lesser r.et (age_end (at c nodes) r) = leb-true until (lesser r.et (age_end (at c nodes) r)) moved in
    let later : lesser r.et (age_end (at c nodes) r) ≤ end_by mia r = end_later (at c nodes) mia r own in
    lt-leb (end_by mia r) moment (omega (arith, before, least, later))

instances_quiet : (nodes rs : List ResourceData) (c until moment : ℕ) (mia : Option ℕ) → moment < until → is_mia_of (at c nodes) mia ≡ true → list_all (is_quiet nodes until) rs ≡ true → list_any (is_due_by mia moment) (filter (is_instance c) rs) ≡ false
instances_quiet nodes [] c until moment mia before own quiet = refl
instances_quiet nodes (r ∷ rs) c until moment mia before own quiet =
    let parts = and_parts (is_quiet nodes until r) (list_all (is_quiet nodes until) rs) quiet in
    let rest = instances_quiet nodes rs c until moment mia before own parts.1 in
    elim (cases_Bool (is_instance c r)) [
      | inl t ↦ rw t (rw (instance_quiet nodes c until moment mia r before own t parts.0) rest)
      | inr f ↦ rw f rest
    ]

pub no_instance_due : (nodes : List ResourceData) (c until moment : ℕ) (mia : Option ℕ) → are_quiet until nodes ≡ true → moment < until → is_mia_of (at c nodes) mia ≡ true → list_any (is_due_by mia moment) (instances_of c nodes) ≡ false
no_instance_due nodes c until moment mia quiet before own = instances_quiet nodes nodes c until moment mia before own quiet
