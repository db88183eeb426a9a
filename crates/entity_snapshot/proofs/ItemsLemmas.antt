-- Items that are put into an outbox one after another.
use Rattle.std.proofs.Common.{◌≡◌, ℕ, ◌+◌, ◌<◌, ◌≤◌, List, [], ◌∷◌, ◌++◌, length, take, drop, ◌-◌, Bool, true, false, ◌&&◌, Option, Some, None, option_map, IfSome, refl, sym, ap, ◌∙◌, subst, arith, append_assoc}
use Rattle.std.proofs.lemmas.Bool.{both_ways, false_from_ne_true}
use Rattle.std.proofs.lemmas.List.{append-nil, take_rest}
use Rattle.std.specs.List.{AllByRecursion}
use Rattle.primitive_json.specs.Notes.{IsSoundDest}
use Rattle.notify_outbox.specs.Outbox.{OutboxData}
use Rattle.notify_outbox.specs.declared.item.Item.{Item}
use Rattle.notify_outbox.proofs.OrderLemmas.{each_append, each_parts, each_weaker}
use Rattle.entity_lines.specs.Items.{first_item, item_len}
use Rattle.entity_soundness.specs.Tested.{do_follow, follows}
use Rattle.entity_soundness.proofs.FollowLemmas.{follow_front, follow_parts}
use Rattle.entity_snapshot.proofs.EachLemmas.{read_more, read_next, read_none}
use Rattle.entity_snapshot.specs.Reading.{FollowsNone, HaveSoundDests, PutsBack, ReadsEach, ReadsItems, StopsInItems, items_in}
use Rattle.entity_snapshot.specs.declared.reading.Behind.{Behind}

-- where no item is found, none is there
pub no_item : (found : Option (Item × ℕ)) (item : Item) → ((x : Item × ℕ) → found ≡ Some x → ⊥) → option_map (λ (f : Item × ℕ). f.0) found ≡ Some item → ⊥
no_item None item not_some is = none_some item is
  where
    none_some : (i : Item) → None ≡ Some i → ⊥
    none_some i e = cc
no_item (Some x) item not_some is = not_some x refl

-- where the one that is found may not stand behind these, none may
pub none_follows : (text : List ℕ) (most last : ℕ) (behind : Behind) (x : Item) → first_item text ≡ Some x → follows last most behind.number behind.since x ≡ false → FollowsNone text most last behind
none_follows text most last behind x found unfit item read sound =
    let both : Some x ≡ Some item = sym found ∙ read in
    let same : x ≡ item = cc in
    ap (follows last most behind.number behind.since) (sym same) ∙ unfit

-- the first item behind a place is put
pub put_back_there : (text : List ℕ) (at most last : ℕ) (behind : Behind) (found : Option (Behind × ℕ)) (next : Behind) (len : ℕ) (before after : OutboxData) → found ≡ Some (next, len) → IfSome found (λ (f : Behind × ℕ). PutsBack (take (length text - at) (drop at text)) f.1 most last behind f.0 before after) → PutsBack (drop at text) len most last behind next before after
put_back_there text at most last behind found next len before after is said =
    let there : List ℕ = take (length text - at) (drop at text) in
    subst (λ (l : List ℕ). PutsBack l len most last behind next before after) (take_rest text at) (subst (λ (o : Option (Behind × ℕ)). IfSome o (λ (f : Behind × ℕ). PutsBack there f.1 most last behind f.0 before after)) is said)

-- so many items are put, of which the last is such a one
pub record HasPutBack (text : List ℕ) (from done at most last : ℕ) (behind : Behind) (outbox : OutboxData) : Type 0 where
  pub each : ReadsEach first_item item_len text from done at outbox.items
  pub number : outbox.count ≡ behind.number
  pub within : behind.number ≤ most
  pub order : AllByRecursion (λ (i : Item). i.since ≤ behind.since) outbox.items
  pub sound : HaveSoundDests outbox.items
  pub follow : (ys : List Item) → do_follow last most 0 0 (outbox.items ++ ys) ≡ do_follow last most behind.number behind.since ys

pub put_back_none : (text : List ℕ) (from most last : ℕ) (outbox : OutboxData) → from ≤ length text → outbox.items ≡ [] → outbox.count ≡ 0 → HasPutBack text from 0 from most last (record { number = 0; since = 0 }) outbox
put_back_none text from most last outbox within none zero = record {
  each = subst (ReadsEach first_item item_len text from 0 from) (sym none) (read_none first_item item_len text from within);
  number = zero;
  within = omega arith;
  order = subst (AllByRecursion (λ (i : Item). i.since ≤ 0)) (sym none) tt;
  sound = subst HaveSoundDests (sym none) tt;
  follow = λ ys. ap (λ (l : List Item). do_follow last most 0 0 (l ++ ys)) none;
}

module _ (text : List ℕ) (from done at most last : ℕ) (behind : Behind) (before : OutboxData) (has : HasPutBack text from done at most last behind before) where
  pub put_back_more : (len : ℕ) (next : Behind) (after : OutboxData) → PutsBack (drop at text) len most last behind next before after → HasPutBack text from (done + 1) (at + len) most last next after
  put_back_more len next after puts =
      let x = puts.item in
      let fits = follow_parts last most behind.number behind.since x puts.fits in
      let later : behind.since ≤ next.since = omega (arith, puts.since, fits.later) in
      record {
        each = subst (ReadsEach first_item item_len text from (done + 1) (at + len)) (sym puts.items) (read_more first_item item_len text from done at before.items has.each x len puts.found puts.size puts.within);
        number = puts.count;
        within = omega (arith, puts.number, fits.within);
        order = subst (AllByRecursion (λ (i : Item). i.since ≤ next.since)) (sym puts.items)
            (each_append (λ (i : Item). i.since ≤ next.since) before.items (x ∷ []) (each_weaker (λ (i : Item). i.since ≤ behind.since) (λ (i : Item). i.since ≤ next.since) (λ i le. up i le later) before.items has.order) (omega (arith, puts.since), tt));
        sound = subst HaveSoundDests (sym puts.items) (each_append (λ (i : Item). IsSoundDest i.note.dest) before.items (x ∷ []) has.sound (puts.sound, tt));
        follow = λ ys.
            ap (λ (l : List Item). do_follow last most 0 0 (l ++ ys)) puts.items
            ∙ ap (do_follow last most 0 0) (append_assoc before.items (x ∷ []) ys)
            ∙ has.follow (x ∷ ys)
            ∙ ap (λ b. b && do_follow last most x.number x.since ys) puts.fits
            ∙ ap (λ n. do_follow last most n x.since ys) (sym puts.number)
            ∙ ap (λ n. do_follow last most next.number n ys) (sym puts.since);
      }
    where
      up : (i : Item) → i.since ≤ behind.since → behind.since ≤ next.since → i.since ≤ next.since
      up i le later = omega (arith, le, later)

  -- the items so far are read
  pub put_back_read : ReadsItems text from done at most last before.items
  put_back_read = record {
    each = has.each;
    follow = ap (do_follow last most 0 0) (sym (append-nil before.items)) ∙ has.follow [];
    sound = has.sound;
  }

  pub put_back_stops : (count : ℕ) → done < count → FollowsNone (drop at text) most last behind → StopsInItems text from count most last at
  put_back_stops count low none = record {
    done = done;
    items = before.items;
    few = low;
    read = put_back_read;
    none = λ x found sound. has.follow (x ∷ []) ∙ ap (λ b. b && do_follow last most x.number x.since []) (none x found sound);
  }

-- where none may stand, the lines of so many aren't those of items that follow each other
pub no_items : (text : List ℕ) (from count most last place : ℕ) → StopsInItems text from count most last place → (items : List Item) → items_in count (drop from text) ≡ Some items → HaveSoundDests items → do_follow last most 0 0 items ≡ false
no_items text from count most last place stops items whole sound =
    let next = read_next first_item item_len text from stops.done place stops.items stops.read.each count items stops.few whole in
    let x : Item = next.0 in
    let zs : List Item = next.1 in
    let dests = each_parts (λ (i : Item). IsSoundDest i.note.dest) stops.items (x ∷ zs) (subst HaveSoundDests next.3 sound) in
    let unfit = stops.none x next.2 dests.1.0 in
    let apart : stops.items ++ x ∷ zs ≡ (stops.items ++ x ∷ []) ++ zs = sym (append_assoc stops.items (x ∷ []) zs) in
    false_from_ne_true (do_follow last most 0 0 items) (λ follow. both_ways _ unfit (follow_front last most 0 0 (stops.items ++ x ∷ []) zs (sym (ap (do_follow last most 0 0) (next.3 ∙ apart)) ∙ follow)))
