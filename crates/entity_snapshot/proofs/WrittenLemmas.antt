-- What is written of an entity is a snapshot of it.
use Rattle.std.proofs.Common.{◌≡◌, ℕ, ◌<◌, ◌≤◌, List, [], ◌∷◌, ◌++◌, Bool, true, false, ◌&&◌, refl, sym, ap, ◌∙◌, subst, append_assoc}
use Rattle.std.specs.List.{AllByRecursion, flat_map, list_all}
use Rattle.std.proofs.lemmas.List.{append-nil}
use Rattle.std.proofs.lemmas.List.Concat.{flat_map-append}
use Rattle.entity_snapshot.proofs.EachLemmas.{spells_join}
use Rattle.m2m_value.specs.Shapes.{largest_count}
use Rattle.resource_model.specs.Resource.{ResourceData}
use Rattle.notify_outbox.specs.declared.item.Item.{Item}
use Rattle.notify_outbox.proofs.OrderLemmas.{each_parts}
use Rattle.entity_lines.specs.Heads.{SpellsHead, head_line}
use Rattle.entity_lines.specs.Items.{CanBeKept, SpellsItem, item_lines}
use Rattle.entity_lines.specs.Resources.{SpellsResource, resource_line}
use Rattle.entity_model.specs.Entity.{EntityData}
use Rattle.entity_model.specs.Sound.{IsSoundEntity}
use Rattle.entity_soundness.specs.Laws.{AreNumbered}
use Rattle.entity_snapshot.specs.Snapshots.{SpellsEach, SpellsEntity, entity_head, snapshot_of}

pub written_spells : (e : EntityData) → SpellsHead e.home (entity_head e) (head_line e.home (entity_head e)) → SpellsEach SpellsResource e.nodes (flat_map resource_line e.nodes) → SpellsEach SpellsItem e.items (flat_map item_lines e.items) → IsSoundEntity e → AreNumbered 0 e.numbered e.items → e.numbered ≤ largest_count → SpellsEntity e (snapshot_of e)
written_spells e says resources each sound numbered most = record {
  head = head_line e.home (entity_head e);
  nodes = flat_map resource_line e.nodes;
  items = flat_map item_lines e.items;
  split = refl;
  says = says;
  resources = resources;
  each = each;
  sound = sound;
  numbered = numbered;
  most = most;
}

-- ---- one after another

-- these are written, and the rest is left
pub record HasPushed {X : Type 0} (line : X → List ℕ) (Spells : X → List ℕ → Type 0) (all left : List X) (start text : List ℕ) : Type 0 where
  pub done : List X
  pub split : all ≡ done ++ left
  pub written : text ≡ start ++ flat_map line done
  pub spells : SpellsEach Spells done (flat_map line done)

module _ {X : Type 0} (line : X → List ℕ) (Spells : X → List ℕ → Type 0) where
  pub push_none : (all : List X) (start : List ℕ) → HasPushed line Spells all all start start
  push_none all start = record { done = []; split = refl; written = sym (append-nil start); spells = refl }

  flat_last : (xs : List X) (x : X) → flat_map line (xs ++ x ∷ []) ≡ flat_map line xs ++ line x
  flat_last xs x = flat_map-append line xs (x ∷ []) ∙ ap (λ (l : List ℕ). flat_map line xs ++ l) (append-nil (line x))

  pub push_more : (all left : List X) (start text next : List ℕ) (x : X) → HasPushed line Spells all (x ∷ left) start text → next ≡ text ++ line x → Spells x (line x) → HasPushed line Spells all left start next
  push_more all left start text next x pushed is spells = record {
    done = pushed.done ++ x ∷ [];
    split = pushed.split ∙ sym (append_assoc pushed.done (x ∷ []) left);
    written = is ∙ ap (λ (l : List ℕ). l ++ line x) pushed.written ∙ append_assoc start (flat_map line pushed.done) (line x) ∙ ap (λ (l : List ℕ). start ++ l) (sym (flat_last pushed.done x));
    spells = subst (SpellsEach Spells (pushed.done ++ x ∷ [])) (sym (flat_last pushed.done x)) (spells_join Spells pushed.done x (flat_map line pushed.done) (line x) pushed.spells spells);
  }

  pub push_all : (all : List X) (start text : List ℕ) → HasPushed line Spells all [] start text → (text ≡ start ++ flat_map line all) × SpellsEach Spells all (flat_map line all)
  push_all all start text pushed =
      let same : pushed.done ≡ all = sym (append-nil pushed.done) ∙ sym pushed.split in (
        pushed.written ∙ ap (λ (xs : List X). start ++ flat_map line xs) same,
        subst (λ (xs : List X). SpellsEach Spells xs (flat_map line xs)) same pushed.spells,
      )

-- the items so far are numbered in order, up to this number
pub record HasNumbered (all left : List Item) (number most : ℕ) : Type 0 where
  pub whole : AreNumbered number most left → AreNumbered 0 most all
  pub rest : AreNumbered 0 most all → AreNumbered number most left

pub number_none : (all : List Item) (most : ℕ) → HasNumbered all all 0 most
number_none all most = record { whole = λ h. h; rest = λ h. h }

pub number_more : (all left : List Item) (x : Item) (number most : ℕ) → HasNumbered all (x ∷ left) number most → number < x.number → x.number ≤ most → HasNumbered all left x.number most
number_more all left x number most has above within = record { whole = λ h. has.whole (above, within, h); rest = λ h. (has.rest h).2 }

-- ---- where one isn't kept

-- one of a list isn't so
pub one_fails : {X : Type 0} (p : X → Bool) (all done left : List X) (x : X) → all ≡ done ++ x ∷ left → p x ≡ false → list_all p all ≡ false
one_fails p all [] left x is fails = ap (list_all p) is ∙ ap (λ b. b && list_all p left) fails
one_fails p all (y ∷ done) left x is fails = ap (list_all p) is ∙ with_first (p y) (one_fails p (done ++ x ∷ left) done left x refl fails)
  where
    with_first : (b : Bool) → list_all p (done ++ x ∷ left) ≡ false → (b && list_all p (done ++ x ∷ left)) ≡ false
    with_first true h = h
    with_first false h = refl

-- one of the items can be kept, where all can
pub one_kept : (all done left : List Item) (x : Item) → all ≡ done ++ x ∷ left → AllByRecursion CanBeKept all → CanBeKept x
one_kept all done left x is kept = (each_parts CanBeKept done (x ∷ left) (subst (AllByRecursion CanBeKept) is kept)).1.0
