-- What spells a head, a resource or an item is read as it, and what is read is spelled so.
use Rattle.std.proofs.Common.{◌≡◌, ℕ, ◌+◌, ◌<◌, ◌≤◌, nat_lt, List, [], ◌∷◌, ◌++◌, length, take, drop, Bool, true, false, cond, if◌then◌else◌, Option, Some, None, option_and_then, Ok, Err, inl, inr, refl, sym, ap, ◌∙◌, subst, arith, append_assoc, length-append}
use Rattle.std.proofs.lemmas.Bool.{cases_Bool}
use Rattle.std.specs.declared.result.Result.{Result}
use Rattle.resource_model.specs.Home.{HomeData}
use Rattle.resource_model.specs.Resource.{ResourceData}
use Rattle.primitive_json.specs.Notes.{IsSoundDest}
use Rattle.primitive_json.specs.declared.request.RequestParts.{RequestParts}
use Rattle.notify_outbox.specs.declared.item.Item.{Item}
use Rattle.journal_lines.proofs.EndLemmas.{behind_then, first_then, front_whole, has_then, line_then, split_line}
use Rattle.journal_lines.proofs.SpelledLemmas.{dated_begins, dated_read}
use Rattle.journal_lines.specs.Lines.{behind_line, deed_at, dated_len, ended, first_dated, first_line, has_line, line_len}
use Rattle.journal_lines.specs.Spelled.{BeginsWithDated, SpellsDated, has_no_end}
use Rattle.journal_lines.specs.declared.deed.Dated.{Dated}
use Rattle.journal_lines.specs.declared.deed.Deed.{Deed}
use Rattle.journal_lines.specs.declared.deed.Deed.TheVariants.{Ask, Take, Tick}
use Rattle.journal_lines.specs.declared.header.HeaderFault.{HeaderFault}
use Rattle.journal_lines.specs.declared.header.HeaderFault.TheVariants.{NoHeader}
use Rattle.entity_lines.specs.Heads.{SpellsHead, first_head, head_spelled}
use Rattle.entity_lines.specs.Items.{SpellsItem, asked_item, dated_item, first_item, item_len, item_of, item_tag, tag_spelled}
use Rattle.entity_lines.specs.Laws.{BeginsBy}
use Rattle.entity_lines.specs.Resources.{SpellsResource, first_resource, resource_spelled}
use Rattle.entity_lines.specs.declared.heads.Head.{Head}
use Rattle.entity_lines.specs.declared.items.Tag.{Tag}

-- ---- one line

-- a line, whatever stands behind it
module _ (line back : List ℕ) (whole : has_no_end line ≡ true) where
  pub line_apart : ended line ++ back ≡ line ++ 10 ∷ back
  line_apart = append_assoc line (10 ∷ []) back

  pub line_has : has_line (ended line ++ back) ≡ true
  line_has = ap has_line line_apart ∙ has_then line back whole

  pub line_first : first_line (ended line ++ back) ≡ line
  line_first = ap first_line line_apart ∙ first_then line back whole

  pub line_behind : behind_line (ended line ++ back) ≡ back
  line_behind = ap behind_line line_apart ∙ behind_then line back whole

  pub line_size : line_len (ended line ++ back) + 1 ≡ length (ended line)
  line_size = omega (arith, ap line_len line_apart, line_then line back whole, length-append line (10 ∷ []))

-- the first line of a text
module _ (text : List ℕ) (has : has_line text ≡ true) where
  pub line_split : text ≡ ended (first_line text) ++ behind_line text
  line_split = split_line text has ∙ sym (append_assoc (first_line text) (10 ∷ []) (behind_line text))

  pub first_size : length (ended (first_line text)) ≡ line_len text + 1
  first_size = sym (line_size (first_line text) (behind_line text) (front_whole text)) ∙ ap (λ (l : List ℕ). line_len l + 1) (sym line_split)

-- ---- the head

module _ (home : HomeData) (head : Head) where
  pub head_read : (front back : List ℕ) → SpellsHead home head front → (first_head home (front ++ back) ≡ Ok head) × (line_len (front ++ back) + 1 ≡ length front)
  head_read front back spells =
      let line = spells.line in
      let at : front ++ back ≡ ended line ++ back = ap (λ (l : List ℕ). l ++ back) spells.split in (
        ap (first_head home) at
            ∙ ap (λ b. if b then head_spelled home (first_line (ended line ++ back)) else Err NoHeader) (line_has line back spells.whole)
            ∙ ap (head_spelled home) (line_first line back spells.whole)
            ∙ spells.means,
        ap (λ (l : List ℕ). line_len l + 1) at ∙ line_size line back spells.whole ∙ ap length (sym spells.split),
      )

  err_ok : {A : Type 0} → Err NoHeader ≡ Ok head → A
  err_ok e = absurd cc

  pub head_begins : (text : List ℕ) → first_head home text ≡ Ok head → BeginsBy (SpellsHead home head) (line_len text + 1) text
  head_begins text read = elim (cases_Bool (has_line text)) [
    | inl has ↦ record {
      front = ended (first_line text);
      back = behind_line text;
      split = line_split text has;
      spells = record {
        line = first_line text;
        split = refl;
        whole = front_whole text;
        means = sym (ap (λ b. if b then head_spelled home (first_line text) else Err NoHeader) has) ∙ read;
      };
      size = first_size text has;
    }
    | inr none ↦ err_ok (sym (ap (λ b. if b then head_spelled home (first_line text) else Err NoHeader) none) ∙ read)
  ]

none_some : {A B : Type 0} (x : A) → None ≡ Some x → B
none_some x e = absurd cc

-- ---- a resource

module _ (r : ResourceData) where
  pub resource_read : (front back : List ℕ) → SpellsResource r front → (first_resource (front ++ back) ≡ Some r) × (line_len (front ++ back) + 1 ≡ length front)
  resource_read front back spells =
      let line = spells.line in
      let at : front ++ back ≡ ended line ++ back = ap (λ (l : List ℕ). l ++ back) spells.split in (
        ap first_resource at
            ∙ ap (λ b. if b then resource_spelled (first_line (ended line ++ back)) else None) (line_has line back spells.whole)
            ∙ ap resource_spelled (line_first line back spells.whole)
            ∙ spells.means,
        ap (λ (l : List ℕ). line_len l + 1) at ∙ line_size line back spells.whole ∙ ap length (sym spells.split),
      )

  pub resource_begins : (text : List ℕ) → first_resource text ≡ Some r → BeginsBy (SpellsResource r) (line_len text + 1) text
  resource_begins text read = elim (cases_Bool (has_line text)) [
    | inl has ↦ record {
      front = ended (first_line text);
      back = behind_line text;
      split = line_split text has;
      spells = record {
        line = first_line text;
        split = refl;
        whole = front_whole text;
        means = sym (ap (λ b. if b then resource_spelled (first_line text) else None) has) ∙ read;
      };
      size = first_size text has;
    }
    | inr none ↦ none_some r (sym (ap (λ b. if b then resource_spelled (first_line text) else None) none) ∙ read)
  ]

-- ---- an item

-- what the lines behind the first one give
abbrev behind_tag : List ℕ → Tag → Option Item
behind_tag text tag = option_and_then (dated_item tag) (first_dated text)

module _ (item : Item) where
  pub item_read : (front back : List ℕ) → SpellsItem item front → (first_item (front ++ back) ≡ Some item) × (item_len (front ++ back) ≡ length front)
  item_read front back spells =
      let line = spells.line in
      let rest : List ℕ = spells.lines ++ back in
      let at : front ++ back ≡ ended line ++ rest = ap (λ (l : List ℕ). l ++ back) spells.split ∙ append_assoc (ended line) spells.lines back in
      let deed = dated_read (deed_at item.since (Ask item.note.request)) spells.lines back spells.asks in
      let behind : behind_line (ended line ++ rest) ≡ rest = line_behind line rest spells.whole in (
        ap first_item at
            ∙ ap (λ b. if b then option_and_then (behind_tag (behind_line (ended line ++ rest))) (tag_spelled (first_line (ended line ++ rest))) else None) (line_has line rest spells.whole)
            ∙ ap (λ (l : List ℕ). option_and_then (behind_tag (behind_line (ended line ++ rest))) (tag_spelled l)) (line_first line rest spells.whole)
            ∙ ap (option_and_then (behind_tag (behind_line (ended line ++ rest)))) spells.means
            ∙ ap (λ (l : List ℕ). behind_tag l (item_tag item)) behind
            ∙ ap (option_and_then (dated_item (item_tag item))) deed.0,
        omega (
          arith,
          ap item_len at,
          line_size line rest spells.whole,
          ap dated_len behind,
          deed.1,
          ap length spells.split,
          length-append (ended line) spells.lines,
        ),
      )

  -- the tag and the request that an item was read from
  module _ (text : List ℕ) (sound : IsSoundDest item.note.dest) (has : has_line text ≡ true) where
    by_deed : (tag : Tag) → tag_spelled (first_line text) ≡ Some tag → (since : ℕ) (deed : Deed) → first_dated (behind_line text) ≡ Some (deed_at since deed) → asked_item tag since deed ≡ Some item → BeginsBy (SpellsItem item) (item_len text) text
    by_deed tag tagged since (Ask request) found made =
        let whole : Some (item_of tag since request) ≡ Some item = made in
        let same : item_of tag since request ≡ item = cc in
        let begins = dated_begins (behind_line text) (deed_at since (Ask request)) found in
        record {
          front = ended (first_line text) ++ begins.front;
          back = begins.back;
          split = line_split text has ∙ ap (λ (l : List ℕ). ended (first_line text) ++ l) begins.split ∙ sym (append_assoc (ended (first_line text)) begins.front begins.back);
          spells = record {
            line = first_line text;
            lines = begins.front;
            split = refl;
            whole = front_whole text;
            means = tagged ∙ ap (λ (i : Item). Some (item_tag i)) same;
            asks = subst (λ (i : Item). SpellsDated (deed_at i.since (Ask i.note.request)) begins.front) same begins.spells;
            sound = sound;
          };
          size = omega (arith, length-append (ended (first_line text)) begins.front, first_size text has, begins.len);
        }
    by_deed tag tagged since Take found made = none_some item made
    by_deed tag tagged since Tick found made = none_some item made

    by_dated : (tag : Tag) → tag_spelled (first_line text) ≡ Some tag → (o : Option Dated) → first_dated (behind_line text) ≡ o → option_and_then (dated_item tag) o ≡ Some item → BeginsBy (SpellsItem item) (item_len text) text
    by_dated tag tagged None found made = none_some item made
    by_dated tag tagged (Some dated) found made = by_deed tag tagged dated.moment dated.deed found made

    by_tag : (o : Option Tag) → tag_spelled (first_line text) ≡ o → option_and_then (behind_tag (behind_line text)) o ≡ Some item → BeginsBy (SpellsItem item) (item_len text) text
    by_tag None tagged made = none_some item made
    by_tag (Some tag) tagged made = by_dated tag tagged (first_dated (behind_line text)) refl made

  -- the tag that an item was read from
  tag_by_deed : (tag : Tag) (since : ℕ) (deed : Deed) → asked_item tag since deed ≡ Some item → tag.dest ≡ item.note.dest
  tag_by_deed tag since (Ask request) made =
      let whole : Some (item_of tag since request) ≡ Some item = made in
      let same : item_of tag since request ≡ item = cc in
      ap (λ (i : Item). i.note.dest) same
  tag_by_deed tag since Take made = none_some item made
  tag_by_deed tag since Tick made = none_some item made

  tag_by_dated : (tag : Tag) (o : Option Dated) → option_and_then (dated_item tag) o ≡ Some item → tag.dest ≡ item.note.dest
  tag_by_dated tag None made = none_some item made
  tag_by_dated tag (Some dated) made = tag_by_deed tag dated.moment dated.deed made

  tag_by_line : (text : List ℕ) (o : Option Tag) → tag_spelled (first_line text) ≡ o → option_and_then (behind_tag (behind_line text)) o ≡ Some item → (tag : Tag) × (tag_spelled (first_line text) ≡ Some tag) × (tag.dest ≡ item.note.dest)
  tag_by_line text None tagged made = none_some item made
  tag_by_line text (Some tag) tagged made = (tag, tagged, tag_by_dated tag (first_dated (behind_line text)) made)

  pub tag_there : (text : List ℕ) → first_item text ≡ Some item → (tag : Tag) × (tag_spelled (first_line text) ≡ Some tag) × (tag.dest ≡ item.note.dest)
  tag_there text read = elim (cases_Bool (has_line text)) [
    | inl has ↦ tag_by_line text (tag_spelled (first_line text)) refl (sym (ap (λ b. if b then option_and_then (behind_tag (behind_line text)) (tag_spelled (first_line text)) else None) has) ∙ read)
    | inr none ↦ none_some item (sym (ap (λ b. if b then option_and_then (behind_tag (behind_line text)) (tag_spelled (first_line text)) else None) none) ∙ read)
  ]

  pub item_begins : (text : List ℕ) → first_item text ≡ Some item → IsSoundDest item.note.dest → BeginsBy (SpellsItem item) (item_len text) text
  item_begins text read sound = elim (cases_Bool (has_line text)) [
    | inl has ↦ by_tag text sound has (tag_spelled (first_line text)) refl (sym (ap (λ b. if b then option_and_then (behind_tag (behind_line text)) (tag_spelled (first_line text)) else None) has) ∙ read)
    | inr none ↦ none_some item (sym (ap (λ b. if b then option_and_then (behind_tag (behind_line text)) (tag_spelled (first_line text)) else None) none) ∙ read)
  ]
