-- The tests hold of every sound entity, and what passes them is one.
use Rattle.std.specs.Prelude.{◌≡◌, ℕ, ◌<◌, ◌≤◌, List, [], ◌∷◌, IsTrue, ⊤}
use Rattle.tree_model.specs.Tree.{is_well_formed}
use Rattle.notify_outbox.specs.declared.item.Item.{Item}
use Rattle.resource_model.specs.Home.{IsHome}
use Rattle.entity_model.specs.Entity.{EntityData}
use Rattle.entity_model.specs.Sound.{IsSoundEntity}
use Rattle.entity_soundness.specs.Tested.{are_sound, do_follow}

-- the numbers of the items ascend, from above the first of these up to the second
abbrev pub AreNumbered : ℕ → ℕ → List Item → Type 0
AreNumbered number most [] = ⊤
AreNumbered number most (item ∷ items) =
    (number < item.number) × (item.number ≤ most) × AreNumbered item.number most items

-- A sound entity whose items are numbered in order passes.
abbrev pub SoundEntitiesPass : Type 0
SoundEntitiesPass = (e : EntityData) → IsSoundEntity e → AreNumbered 0 e.numbered e.items
    → IsTrue (are_sound e.home e.nodes e.next e.last)
    × IsTrue (do_follow e.last e.numbered 0 0 e.items)

-- An entity of a home whose resources are a well-formed tree, and which passes, is sound.
abbrev pub WhatPassesIsSound : Type 0
WhatPassesIsSound = (e : EntityData) → IsHome e.home → IsTrue (is_well_formed e.nodes)
    → IsTrue (are_sound e.home e.nodes e.next e.last)
    → IsTrue (do_follow e.last e.numbered 0 0 e.items) → IsSoundEntity e
