-- What is written of a head, a resource or an item spells it.
use Rattle.std.proofs.Common.{◌≡◌, ℕ, ◌≤◌, List, [], ◌∷◌, ◌++◌, true, Option, Some, None, IfNone, option_and_then, if◌then◌else◌, Ok, Err, refl, sym, ap, ◌∙◌, arith}
use Rattle.std.specs.Option.{option_map_or}
use Rattle.std.specs.Result.{result_ok}
use Rattle.m2m_value.specs.Data.{Data, depth}
use Rattle.m2m_value.specs.Reading.{reading, reading_depth}
use Rattle.m2m_value.specs.Same.{same, same-Decides}
use Rattle.m2m_value.specs.Spelling.{text_of}
use Rattle.primitive_json.specs.declared.note.Dest.{Dest}
use Rattle.primitive_json.specs.declared.note.Dest.TheVariants.{Direct, Peer, Channel, Nowhere}
use Rattle.primitive_json.specs.declared.note.Kind.{Kind}
use Rattle.primitive_json.specs.declared.note.Kind.TheVariants.{Notification, Relay, Copy}
use Rattle.notify_outbox.specs.declared.item.Item.{Item}
use Rattle.resource_model.specs.Home.{HomeData}
use Rattle.resource_model.specs.Resource.{ResourceData}
use Rattle.resource_lines.specs.Read.{resource_in}
use Rattle.resource_lines.specs.Written.{resource_data}
use Rattle.journal_lines.proofs.EndLemmas.{inner_whole}
use Rattle.journal_lines.proofs.InnerLemmas.{inner_text}
use Rattle.journal_lines.specs.Header.{home_data}
use Rattle.journal_lines.specs.Lines.{deed_at, dated_lines}
use Rattle.journal_lines.specs.Spelled.{SpellsDated, has_no_end}
use Rattle.journal_lines.specs.declared.deed.Deed.TheVariants.{Ask}
use Rattle.journal_lines.specs.declared.header.HeaderFault.TheVariants.{NoHeader, OtherHome}
use Rattle.primitive_json.specs.Notes.{IsSoundDest}
use Rattle.entity_lines.specs.Heads.{SpellsHead, head_by, head_data, head_items, head_line, head_spelled}
use Rattle.entity_lines.specs.Items.{SpellsItem, dest_data, dest_in, item_lines, item_tag, kind_number, kind_of, tag_data, tag_in, tag_spelled}
use Rattle.entity_lines.specs.Values.{values_in}
use Rattle.entity_lines.specs.declared.heads.Head.{Head}
use Rattle.entity_lines.specs.Resources.{SpellsResource, resource_line}

-- what is said where there is none
pub said_of_none : {A : Type 0} (o : Option A) (P : Type 0) → ((x : A) → o ≡ Some x → ⊥) → IfNone o P → P
said_of_none None P not_some said = said
said_of_none (Some x) P not_some said = absurd (not_some x refl)

-- no line ends inside what is written of a value
pub value_whole : (d : Data) → has_no_end (text_of d) ≡ true
value_whole d = inner_whole (text_of d) (inner_text d)

pub resource_spells : (r : ResourceData) → reading (text_of (resource_data r)) ≡ Ok (resource_data r) → resource_in (resource_data r) ≡ Some r → SpellsResource r (resource_line r)
resource_spells r read back = record {
  line = text_of (resource_data r);
  split = refl;
  whole = value_whole (resource_data r);
  means = ap (λ o. option_and_then resource_in (result_ok o)) read ∙ back;
}

-- ---- the head

module _ (home : HomeData) (head : Head) where
  own_home : same (home_data home) (home_data home) ≡ true
  own_home = (same-Decides (home_data home) (home_data home)).1 refl

  head_back : head_by home (head_items home head) ≡ Ok head
  head_back = ap (λ b. if b then Ok head else Err OtherHome) own_home

  pub head_spells : reading (text_of (head_data home head)) ≡ Ok (head_data home head) → SpellsHead home head (head_line home head)
  head_spells read = record {
    line = text_of (head_data home head);
    split = refl;
    whole = value_whole (head_data home head);
    means = ap (λ r. option_map_or (λ d. head_by home (values_in d)) (result_ok r) (Err NoHeader)) read ∙ head_back;
  }

  pub head_depth : depth (head_data home head) ≤ reading_depth
  head_depth = omega arith

-- ---- an item

kind_back : (kind : Kind) → kind_of (kind_number kind) ≡ Some kind
kind_back Notification = refl
kind_back Relay = refl
kind_back Copy = refl

pub dest_back : (dest : Dest) → dest_in (dest_data dest) ≡ Some dest
dest_back (Direct url) = refl
dest_back (Peer url) = refl
dest_back (Channel number) = refl
dest_back Nowhere = refl

pub tag_back : (item : Item) → tag_in (tag_data item) ≡ Some (item_tag item)
tag_back item = rw (kind_back item.note.kind, dest_back item.note.dest) refl

dest_depth : (dest : Dest) → depth (dest_data dest) ≤ 1
dest_depth (Direct url) = omega arith
dest_depth (Peer url) = omega arith
dest_depth (Channel number) = omega arith
dest_depth Nowhere = omega arith

pub tag_depth : (item : Item) → depth (tag_data item) ≤ reading_depth
tag_depth item = (let few = dest_depth item.note.dest in omega (arith, few))

pub tag_read : (item : Item) → reading (text_of (tag_data item)) ≡ Ok (tag_data item) → tag_spelled (text_of (tag_data item)) ≡ Some (item_tag item)
tag_read item read = ap (λ r. option_and_then tag_in (result_ok r)) read ∙ tag_back item

pub item_spells : (item : Item) → tag_spelled (text_of (tag_data item)) ≡ Some (item_tag item) → SpellsDated (deed_at item.since (Ask item.note.request)) (dated_lines item.since (Ask item.note.request)) → IsSoundDest item.note.dest → SpellsItem item (item_lines item)
item_spells item means asks sound = record {
  line = text_of (tag_data item);
  lines = dated_lines item.since (Ask item.note.request);
  split = refl;
  whole = value_whole (tag_data item);
  means = means;
  asks = asks;
  sound = sound;
}
