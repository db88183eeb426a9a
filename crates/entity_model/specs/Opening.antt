-- The entity that nothing has happened to yet.
use Rattle.std.specs.Prelude.{ℕ, List, [], ◌∷◌, codes}
use Rattle.m2m_names.specs.Ids.{id_text}
use Rattle.m2m_names.specs.Operations.{all_bits}
use Rattle.m2m_names.specs.Stamps.{last_moment}
use Rattle.m2m_names.specs.declared.attributes.Attr.TheVariants.{Acpi, Pv, Pvs}
use Rattle.m2m_names.specs.declared.types.Ty.TheVariants.{AccessControlPolicy, CseBase}
use Rattle.m2m_value.specs.Data.{Data, text, list, elements_of}
use Rattle.resource_model.specs.Attributes.{Row}
use Rattle.resource_model.specs.Home.{HomeData}
use Rattle.resource_model.specs.Resource.{ResourceData}
use Rattle.policy_eval.specs.Originators.{everyone}
use Rattle.policy_eval.specs.Rules.{written_rule, written_rules}
use Rattle.policy_eval.specs.Rights.{create_bit}
use Rattle.entity_model.specs.Entity.{EntityData, blank, cut}

-- the number of the CSEBase
abbrev pub base_number : ℕ
base_number = 1

-- the number of the administrator's policy
abbrev pub admin_policy : ℕ
admin_policy = 2

-- the administrator may do all
abbrev pub admin_rule : HomeData → Data
admin_rule home = written_rule home.admin all_bits

-- everyone may create
abbrev pub entry_rule : Data
entry_rule = written_rule everyone create_bit

-- what the administrator's policy gives, and who may change it
abbrev pub opening_pv : HomeData → Data
opening_pv home = written_rules (admin_rule home ∷ entry_rule ∷ [])

-- Who may change the administrator's policy: the administrator alone, as written in `pvs` (TS-0001,
-- 9.6.2).
abbrev pub opening_pvs : HomeData → Data
opening_pvs home = written_rules (admin_rule home ∷ [])

-- The attributes of the administrator's policy (TS-0001, 9.6.2).
abbrev pub policy_rows : HomeData → List Row
policy_rows home = (Pv, opening_pv home) ∷ (Pvs, opening_pvs home) ∷ []

-- the CSEBase is judged by that policy
abbrev pub opening_rows : List Row
opening_rows =
    (Acpi, list (elements_of (text (id_text AccessControlPolicy admin_policy) ∷ []))) ∷ []

-- the CSEBase (TS-0001, 9.6.3)
abbrev pub opening_base : HomeData → ℕ → ResourceData
opening_base home moment = record {
  number = base_number;
  ty = CseBase;
  name = home.base;
  parent = 0;
  owner = home.admin;
  ct = moment;
  lt = moment;
  et = last_moment;
  attrs = opening_rows;
}

-- the administrator's policy (TS-0001, 9.6.2)
abbrev pub opening_policy : HomeData → ℕ → ResourceData
opening_policy home moment = record {
  number = admin_policy;
  ty = AccessControlPolicy;
  name = codes "acpAdmin";
  parent = base_number;
  owner = home.admin;
  ct = moment;
  lt = moment;
  et = last_moment;
  attrs = policy_rows home;
}

-- The resources that a CSE opens with: the CSEBase and the administrator's policy.
abbrev pub opening_nodes : HomeData → ℕ → List ResourceData
opening_nodes home moment = opening_base home moment ∷ opening_policy home moment ∷ []

-- the entity as it opens
abbrev pub opening : HomeData → ℕ → EntityData
opening home reading = record (blank home) {
  nodes = opening_nodes home (cut reading);
  next = 3;
  last = cut reading;
}
