-- A snapshot is read as the entity that it is of.
use Rattle.std.proofs.Common.{◌≡◌, ℕ, ◌+◌, ◌≤◌, List, [], ◌∷◌, ◌++◌, length, take, drop, true, Some, Ok, refl, sym, ap, ◌∙◌, subst, arith, append_assoc, length-append}
use Rattle.std.proofs.lemmas.List.{drop-drop, drop_at, take_at}
use Rattle.std.specs.List.{AllByRecursion}
use Rattle.m2m_value.specs.Shapes.{largest_count}
use Rattle.primitive_json.specs.Notes.{IsSoundDest}
use Rattle.resource_model.specs.Home.{HomeData, IsHome}
use Rattle.resource_model.specs.Resource.{ResourceData}
use Rattle.notify_outbox.specs.declared.item.Item.{Item}
use Rattle.journal_lines.specs.Lines.{line_len}
use Rattle.entity_lines.proofs.SpelledLemmas.{head_begins, head_read, item_begins, item_read, resource_begins, resource_read}
use Rattle.entity_lines.specs.Heads.{SpellsHead, first_head, head_of}
use Rattle.entity_lines.specs.Items.{SpellsItem, first_item, item_len}
use Rattle.entity_lines.specs.Resources.{SpellsResource, first_resource}
use Rattle.entity_lines.specs.declared.heads.Head.{Head}
use Rattle.entity_model.specs.Entity.{EntityData}
use Rattle.entity_model.specs.Sound.{IsSoundEntity}
use Rattle.entity_soundness.specs.Tested.{are_sound, do_follow}
use Rattle.entity_soundness.proofs.FollowLemmas.{numbers_ascend}
use Rattle.entity_soundness.proofs.SoundnessLemmas.{passes, sound_from}
use Rattle.entity_snapshot.proofs.EachLemmas.{each_begins, each_read}
use Rattle.entity_snapshot.specs.Opening.{ReadsBehind}
use Rattle.entity_snapshot.specs.Reading.{HaveSoundDests, ReadsItems, ReadsResources, each_len, items_in, resource_len, resources_in}
use Rattle.entity_snapshot.specs.Snapshots.{SpellsEach, SpellsEntity, entity_head, entity_of}

-- how many bytes so many have
abbrev pub resources_len : ℕ → List ℕ → ℕ
resources_len count text = each_len resource_len count text

abbrev pub items_len : ℕ → List ℕ → ℕ
items_len count text = each_len item_len count text

-- ---- what is read is a snapshot of what it is read as

module _ (home : HomeData) (head : Head) (text : List ℕ) (nodes : List ResourceData) (items : List Item) (at end : ℕ) where
  abbrev len : ℕ
  len = line_len text + 1

  abbrev entity : EntityData
  entity = entity_of home head nodes items

  pub sound_read : IsHome home → ReadsResources text len head.resources at nodes → ReadsItems text at head.items end head.numbered head.last items → are_sound home nodes head.next head.last ≡ true → IsSoundEntity entity
  sound_read is resources each sound = sound_from entity is resources.well sound each.follow

  none_extra : (rs : List ResourceData) → AllByRecursion (λ (r : ResourceData). Unit {0}) rs
  none_extra [] = tt
  none_extra (r ∷ rs) = (tt, none_extra rs)

  -- as many are there as the head says
  same_head : length nodes ≡ head.resources → length items ≡ head.items → head ≡ entity_head entity
  same_head few some =
      ap (λ n. head_of head.next head.last head.numbered n head.items) (sym few)
      ∙ ap (λ n. head_of head.next head.last head.numbered (length nodes) n) (sym some)

  pub spells_read : IsHome home → first_head home text ≡ Ok head → ReadsResources text len head.resources at nodes → ReadsItems text at head.items end head.numbered head.last items → are_sound home nodes head.next head.last ≡ true → head.numbered ≤ largest_count → SpellsEntity entity (take end text)
  spells_read is read resources each sound most =
      let one = head_begins home head text read in
      let two = each_begins first_resource resource_len SpellsResource (λ r. Unit {0}) (λ r t found extra. resource_begins r t found) head.resources (drop len text) nodes resources.each.read (none_extra nodes) in
      let three = each_begins first_item item_len SpellsItem (λ (i : Item). IsSoundDest i.note.dest) (λ i t found dest. item_begins i t found dest) head.items (drop at text) items each.each.read each.sound in
      let behind_head : drop len text ≡ one.back = ap (drop len) one.split ∙ drop_at one.front one.back len one.size in
      let behind_nodes : drop at text ≡ two.0.back =
      ap (λ n. drop n text) resources.each.size ∙ sym (drop-drop (resources_len head.resources (drop len text)) len text)
      ∙ ap (drop (resources_len head.resources (drop len text))) two.0.split
      ∙ drop_at two.0.front two.0.back (resources_len head.resources (drop len text)) two.0.size in
      let whole : text ≡ (one.front ++ (two.0.front ++ three.0.front)) ++ three.0.back =
      one.split
      ∙ ap (λ (l : List ℕ). one.front ++ l) (sym behind_head ∙ two.0.split ∙ ap (λ (l : List ℕ). two.0.front ++ l) (sym behind_nodes ∙ three.0.split) ∙ sym (append_assoc two.0.front three.0.front three.0.back))
      ∙ sym (append_assoc one.front (two.0.front ++ three.0.front) three.0.back) in
      let size : length (one.front ++ (two.0.front ++ three.0.front)) ≡ end =
      omega (arith, length-append one.front (two.0.front ++ three.0.front), length-append two.0.front three.0.front, one.size, two.0.size, three.0.size, resources.each.size, each.each.size) in
      record {
        head = one.front;
        nodes = two.0.front;
        items = three.0.front;
        split = ap (take end) whole ∙ take_at (one.front ++ (two.0.front ++ three.0.front)) three.0.back end size;
        says = subst (λ (h : Head). SpellsHead home h one.front) (same_head two.1 three.1) one.spells;
        resources = two.0.spells;
        each = three.0.spells;
        sound = sound_read is resources each sound;
        numbered = numbers_ascend head.last head.numbered 0 0 items each.follow;
        most = most;
      }

-- ---- a snapshot is read as the entity that it is of

module _ (e : EntityData) (front back : List ℕ) (spells : SpellsEntity e front) where
  abbrev whole : List ℕ
  whole = front ++ back

  abbrev head_len : ℕ
  head_len = length spells.head

  abbrev nodes_end : ℕ
  nodes_end = length spells.head + length spells.nodes

  apart : whole ≡ spells.head ++ (spells.nodes ++ (spells.items ++ back))
  apart =
      ap (λ (l : List ℕ). l ++ back) spells.split
      ∙ append_assoc spells.head (spells.nodes ++ spells.items) back
      ∙ ap (λ (l : List ℕ). spells.head ++ l) (append_assoc spells.nodes spells.items back)

  pub head_there : first_head e.home whole ≡ Ok (entity_head e)
  head_there = ap (first_head e.home) apart ∙ (head_read e.home (entity_head e) spells.head (spells.nodes ++ (spells.items ++ back)) spells.says).0

  pub head_size : line_len whole + 1 ≡ head_len
  head_size = ap (λ (l : List ℕ). line_len l + 1) apart ∙ (head_read e.home (entity_head e) spells.head (spells.nodes ++ (spells.items ++ back)) spells.says).1

  left_head : drop (line_len whole + 1) whole ≡ spells.nodes ++ (spells.items ++ back)
  left_head = ap (λ n. drop n whole) head_size ∙ ap (drop head_len) apart ∙ drop_at spells.head (spells.nodes ++ (spells.items ++ back)) head_len refl

  pub nodes_there : resources_in (length e.nodes) (drop (line_len whole + 1) whole) ≡ Some e.nodes
  nodes_there = ap (resources_in (length e.nodes)) left_head ∙ (each_read first_resource resource_len SpellsResource (λ r f b s. resource_read r f b s) e.nodes spells.nodes (spells.items ++ back) spells.resources).0

  pub nodes_size : resources_len (length e.nodes) (drop (line_len whole + 1) whole) ≡ length spells.nodes
  nodes_size = ap (resources_len (length e.nodes)) left_head ∙ (each_read first_resource resource_len SpellsResource (λ r f b s. resource_read r f b s) e.nodes spells.nodes (spells.items ++ back) spells.resources).1

  left_nodes : drop nodes_end whole ≡ spells.items ++ back
  left_nodes =
      sym (drop-drop (length spells.nodes) head_len whole)
      ∙ ap (drop (length spells.nodes)) (ap (drop head_len) apart ∙ drop_at spells.head (spells.nodes ++ (spells.items ++ back)) head_len refl)
      ∙ drop_at spells.nodes (spells.items ++ back) (length spells.nodes) refl

  pub items_there : (at : ℕ) → at ≡ nodes_end → items_in (length e.items) (drop at whole) ≡ Some e.items
  items_there at is = ap (λ n. items_in (length e.items) (drop n whole)) is ∙ ap (items_in (length e.items)) left_nodes ∙ (each_read first_item item_len SpellsItem (λ i f b s. item_read i f b s) e.items spells.items back spells.each).0

  pub items_size : (at : ℕ) → at ≡ nodes_end → items_len (length e.items) (drop at whole) ≡ length spells.items
  items_size at is = ap (λ n. items_len (length e.items) (drop n whole)) is ∙ ap (items_len (length e.items)) left_nodes ∙ (each_read first_item item_len SpellsItem (λ i f b s. item_read i f b s) e.items spells.items back spells.each).1

  pub tests_pass : (are_sound e.home e.nodes e.next e.last ≡ true) × (do_follow e.last e.numbered 0 0 e.items ≡ true)
  tests_pass = passes e spells.sound spells.numbered

  dests : (items : List Item) (text : List ℕ) → SpellsEach SpellsItem items text → HaveSoundDests items
  dests [] text each = tt
  dests (i ∷ items) text each = (each.3.sound, dests items each.1 each.4)

  pub sound_dests : HaveSoundDests e.items
  sound_dests = dests e.items spells.items spells.each

  pub front_size : length front ≡ nodes_end + length spells.items
  front_size = omega (arith, ap length spells.split, length-append spells.head (spells.nodes ++ spells.items), length-append spells.nodes spells.items)

  -- where the resources are read, they end where the items begin
  pub nodes_at : (at : ℕ) (nodes : List ResourceData) → ReadsResources whole (line_len whole + 1) (length e.nodes) at nodes → at ≡ nodes_end
  nodes_at at nodes resources = omega (arith, resources.each.size, nodes_size, head_size)

  -- where it is read, it is read as it
  module _ (end : ℕ) (nodes : List ResourceData) (items : List Item) (behind : ReadsBehind whole (entity_head e) end nodes items) where
    at_is : behind.at ≡ nodes_end
    at_is = nodes_at behind.at nodes behind.resources

    same_nodes : nodes ≡ e.nodes
    same_nodes = (let both : Some nodes ≡ Some e.nodes = sym behind.resources.each.read ∙ nodes_there in cc)

    same_items : items ≡ e.items
    same_items = (let both : Some items ≡ Some e.items = sym behind.each.each.read ∙ items_there behind.at at_is in cc)

    pub same_end : end ≡ length front
    same_end = omega (arith, behind.each.each.size, items_size behind.at at_is, at_is, front_size)

    pub same_entity : entity_of e.home (entity_head e) nodes items ≡ e
    same_entity = ap (λ (rs : List ResourceData). entity_of e.home (entity_head e) rs items) same_nodes ∙ ap (λ (is : List Item). entity_of e.home (entity_head e) e.nodes is) same_items

  -- all of it is read
  pub reads_behind : ReadsBehind whole (entity_head e) (length front) e.nodes e.items
  reads_behind = record {
    at = nodes_end;
    resources = record {
      each = record {
        read = nodes_there;
        size = omega (arith, head_size, nodes_size);
        within = omega (arith, length-append front back, front_size);
      };
      well = spells.sound.tree;
    };
    each = record {
      each = record {
        read = items_there nodes_end refl;
        size = omega (arith, front_size, items_size nodes_end refl);
        within = omega (arith, length-append front back);
      };
      follow = tests_pass.1;
      sound = sound_dests;
    };
    most = spells.most;
  }

-- ---- a snapshot that stands at the front of a text

module _ (home : HomeData) (text : List ℕ) (e : EntityData) (front back : List ℕ) (spells : SpellsEntity e front) (own : e.home ≡ home) (at : text ≡ front ++ back) where
  -- its head is read
  pub front_read : first_head home text ≡ Ok (entity_head e)
  front_read = ap (first_head home) at ∙ ap (λ (h : HomeData). first_head h (front ++ back)) (sym own) ∙ head_there e front back spells

  pub front_head : (head : Head) → first_head home text ≡ Ok head → head ≡ entity_head e
  front_head head read = (let both : Ok head ≡ Ok (entity_head e) = sym read ∙ front_read in cc)

  -- what is read behind it is read as it
  module _ (head : Head) (end : ℕ) (nodes : List ResourceData) (items : List Item) (read : first_head home text ≡ Ok head) (behind : ReadsBehind text head end nodes items) where
    there : ReadsBehind (front ++ back) (entity_head e) end nodes items
    there = subst (λ (t : List ℕ). ReadsBehind t (entity_head e) end nodes items) at (subst (λ (h : Head). ReadsBehind text h end nodes items) (front_head head read) behind)

    pub same_read : (entity_of home head nodes items ≡ e) × (end ≡ length front)
    same_read = (
      ap (λ (h : Head). entity_of home h nodes items) (front_head head read)
          ∙ ap (λ (h : HomeData). entity_of h (entity_head e) nodes items) (sym own)
          ∙ same_entity e front back spells end nodes items there,
      same_end e front back spells end nodes items there,
    )

-- no text is a snapshot of two
pub one_entity : (e f : EntityData) (one other back behind : List ℕ) → SpellsEntity e one → SpellsEntity f other → e.home ≡ f.home → one ++ back ≡ other ++ behind → (e ≡ f) × (one ≡ other)
one_entity e f one other back behind spells spelled home same =
    let read = same_read f.home (other ++ behind) e one back spells home (sym same) (entity_head f) (length other) f.nodes f.items (head_there f other behind spelled) (reads_behind f other behind spelled) in (
      sym read.0,
      sym (take_at one back (length one) refl) ∙ ap (take (length one)) same ∙ ap (λ n. take n (other ++ behind)) (sym read.1) ∙ take_at other behind (length other) refl,
    )

-- ---- the entity that is opened, which has numbered so many items

pub sound_opened : (home inside : HomeData) (text : List ℕ) (head : Head) (end numbered : ℕ) (nodes : List ResourceData) (items : List Item) → inside ≡ home → IsHome inside → ReadsBehind text head end nodes items → numbered ≡ head.numbered → are_sound home nodes head.next head.last ≡ true → IsSoundEntity (record { home = inside; nodes = nodes; next = head.next; last = head.last; items = items; numbered = numbered })
sound_opened home inside text head end numbered nodes items same is behind count sound =
    subst (λ (h : HomeData). IsSoundEntity (record { home = h; nodes = nodes; next = head.next; last = head.last; items = items; numbered = numbered })) (sym same)
    (subst (λ n. IsSoundEntity (record { home = home; nodes = nodes; next = head.next; last = head.last; items = items; numbered = n })) (sym count)
    (sound_read home head text nodes items behind.at end (subst IsHome same is) behind.resources behind.each sound))

pub spells_opened : (home : HomeData) (text : List ℕ) (head : Head) (end numbered : ℕ) (nodes : List ResourceData) (items : List Item) → IsHome home → first_head home text ≡ Ok head → ReadsBehind text head end nodes items → numbered ≡ head.numbered → are_sound home nodes head.next head.last ≡ true → SpellsEntity (record { home = home; nodes = nodes; next = head.next; last = head.last; items = items; numbered = numbered }) (take end text)
spells_opened home text head end numbered nodes items is read behind count sound =
    subst (λ n. SpellsEntity (record { home = home; nodes = nodes; next = head.next; last = head.last; items = items; numbered = n }) (take end text)) (sym count)
    (spells_read home head text nodes items behind.at end is read behind.resources behind.each sound behind.most)

pub same_opened : (home : HomeData) (text : List ℕ) (head : Head) (end numbered : ℕ) (nodes : List ResourceData) (items : List Item) → first_head home text ≡ Ok head → ReadsBehind text head end nodes items → numbered ≡ head.numbered → (e : EntityData) (front back : List ℕ) → SpellsEntity e front → e.home ≡ home → text ≡ front ++ back → (record { home = home; nodes = nodes; next = head.next; last = head.last; items = items; numbered = numbered } ≡ e) × (end ≡ length front)
same_opened home text head end numbered nodes items read behind count e front back spells own at =
    let same = same_read home text e front back spells own at head end nodes items read behind in (
      ap (λ n. entity_of home (head_of head.next head.last n head.resources head.items) nodes items) count ∙ same.0,
      same.1,
    )
