-- How the logic stores an entity: as nested pairs.
use Rattle.std.specs.Prelude.{ℕ, ℤ, List, refl}
use Rattle.std.specs.Coded.{Coded, code_by, coded×, coded_ℕ, coded_ℤ, coded_list}
use Rattle.resource_model.specs.Codes.{resource_code}
use Rattle.resource_model.specs.Home.{HomeData}
use Rattle.resource_model.specs.Resource.{ResourceData}
use Rattle.notify_outbox.specs.contracts.item.Item as item
use Rattle.notify_outbox.specs.declared.item.Item.{Item}
use Rattle.entity_model.specs.Entity.{EntityData}

abbrev HomeParts : Type 0
HomeParts = List ℕ × (List ℕ × (List ℕ × (ℤ × List ℕ)))

-- The home of a CSE is stored as nested pairs of its five parts, which give it back unchanged.
abbrev pub home_code : Coded HomeData
home_code =
    code_by HomeParts
    (coded× (coded_list coded_ℕ) (coded× (coded_list coded_ℕ) (coded× (coded_list coded_ℕ)
    (coded× coded_ℤ (coded_list coded_ℕ)))))
    (λ h. (h.sp, (h.csi, (h.base, (h.cst, h.admin)))))
    (λ p. record { sp = p.0; csi = p.1.0; base = p.1.1.0; cst = p.1.1.1.0; admin = p.1.1.1.1 })
    (λ _. refl)

abbrev EntityParts : Type 0
EntityParts = HomeData × (List ResourceData × (ℕ × (ℕ × (List Item × ℕ))))

-- An entity is stored as its home, its resources, its next number and the moment of its last event.
-- These give it back unchanged.
abbrev pub entity_code : Coded EntityData
entity_code =
    code_by EntityParts
    (coded× home_code (coded× (coded_list resource_code) (coded× coded_ℕ (coded× coded_ℕ
    (coded× (coded_list item.the_row.coded) coded_ℕ)))))
    (λ e. (e.home, (e.nodes, (e.next, (e.last, (e.items, e.numbered))))))
    (λ p. record {
      home = p.0;
      nodes = p.1.0;
      next = p.1.1.0;
      last = p.1.1.1.0;
      items = p.1.1.1.1.0;
      numbered = p.1.1.1.1.1;
    })
    (λ _. refl)
