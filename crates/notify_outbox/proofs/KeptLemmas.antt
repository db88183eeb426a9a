-- The queues are kept through each change.
use Rattle.std.proofs.Common.{◌≡◌, ℕ, ◌+◌, ◌-◌, ◌<◌, ◌≤◌, min, List, [], ◌∷◌, ◌++◌, length, Option, refl, sym, ap, ◌∙◌, subst, arith, length-append}
use Rattle.primitive_json.specs.declared.note.NoteParts.{NoteParts}
use Rattle.notify_outbox.specs.Items.{item_channel, item_under, next_number}
use Rattle.notify_outbox.specs.Outbox.{OutboxData, appended}
use Rattle.notify_outbox.specs.Queues.{joined, in_order, Precedes, AreApart, AreKept, Pops, Puts}
use Rattle.notify_outbox.specs.declared.item.Item.{Item}
use Rattle.notify_outbox.specs.declared.queues.Queue.{Queue}
use Rattle.notify_outbox.proofs.OrderLemmas.{each_append, each_parts, each_weaker, each_with, each_unordered, Each, order_last, apart_parts, apart_with}

-- no items
pub kept_none : AreKept [] 0 0
kept_none = record { each = tt; apart = tt; numbered = tt; young = tt; few = omega arith }

-- the first of a queue is taken
pub kept_popped : (qs new : List Queue) (count oldest i : ℕ) (x : Item) → AreKept qs count oldest → Pops i qs new x → AreKept new count oldest
kept_popped qs new count oldest i x kept pops = record {
  each = pops.each kept.each;
  apart = subst AreApart (sym pops.is) (apart_parts pops.before pops.after x (subst AreApart pops.was kept.apart)).1;
  numbered = fewer (λ (z : Item). z.number ≤ count) kept.numbered;
  young = fewer (λ (z : Item). oldest ≤ z.since) kept.young;
  few = shorter;
}
  where
    fewer : (P : Item → Type 0) → Each P (joined qs) → Each P (joined new)
    fewer P h = (let parts = each_parts P pops.before (x ∷ pops.after) (subst (Each P) pops.was h) in subst (Each P) (sym pops.is) (each_append P pops.before pops.after parts.0 parts.1.1))

    shorter : length (joined new) ≤ count
    shorter =
        let long : length (joined qs) ≡ length pops.before + length (x ∷ pops.after) = ap length pops.was ∙ length-append pops.before (x ∷ pops.after) in
        let short : length (joined new) ≡ length pops.before + length pops.after = ap length pops.is ∙ length-append pops.before pops.after in
        let bound : length (joined qs) ≤ count = kept.few in
        omega arith

-- of what is left there is one less
pub popped_fewer : (qs new : List Queue) (i : ℕ) (x : Item) → Pops i qs new x → length (joined new) + 1 ≡ length (joined qs)
popped_fewer qs new i x pops =
    let long : length (joined qs) ≡ length pops.before + length (x ∷ pops.after) = ap length pops.was ∙ length-append pops.before (x ∷ pops.after) in
    let short : length (joined new) ≡ length pops.before + length pops.after = ap length pops.is ∙ length-append pops.before pops.after in
    omega arith

-- and where one is put, there is one more
pub put_longer : (qs new : List Queue) (channel : Option ℕ) (x : Item) → Puts channel (x ∷ []) qs new → length (joined new) ≡ length (joined qs) + 1
put_longer qs new channel x puts =
    let was : length (joined qs) ≡ length puts.before + length puts.after = ap length puts.was ∙ length-append puts.before puts.after in
    let is : length (joined new) ≡ length puts.before + length (x ∷ puts.after) = ap length puts.is ∙ length-append puts.before (x ∷ puts.after) in
    omega arith

-- an item with the next number is put behind the others of its channel
module _ (qs new : List Queue) (count oldest : ℕ) (x : Item) (number : count < x.number) (kept : AreKept qs count oldest) (puts : Puts (item_channel x) (x ∷ []) qs new) where
  less : Each (λ (z : Item). z.number < x.number) (joined qs)
  less = each_weaker (λ (z : Item). z.number ≤ count) (λ (z : Item). z.number < x.number) (λ z le. below z le) (joined qs) kept.numbered
    where
      below : (z : Item) → z.number ≤ count → z.number < x.number
      below z le = omega (arith, number)

  less_parts : Each (λ (z : Item). z.number < x.number) (puts.before ++ puts.after)
  less_parts = subst (Each (λ (z : Item). z.number < x.number)) puts.was less

  -- it is the last of all
  pub put_last : in_order (joined new) ≡ in_order (joined qs) ++ x ∷ []
  put_last = ap in_order puts.is ∙ order_last puts.before puts.after x less_parts ∙ ap (λ (l : List Item). in_order l ++ x ∷ []) (sym puts.was)

  more : (P Q : Item → Type 0) → ((z : Item) → P z → Q z) → Q x → Each P (joined qs) → Each Q (joined new)
  more P Q f q h =
      let parts = each_parts Q puts.before puts.after (each_weaker P Q f (puts.before ++ puts.after) (subst (Each P) puts.was h)) in
      subst (Each Q) (sym puts.is) (each_append Q puts.before (x ∷ puts.after) parts.0 (q, parts.1))

  pub kept_put : Each (λ (z : Item). z.since ≤ x.since) (in_order (joined qs)) → AreKept new x.number (min oldest x.since)
  kept_put before = record {
    each = puts.each kept.each ((refl, tt, tt), behind);
    apart = subst AreApart (sym puts.is) (apart_with puts.before puts.after x (subst AreApart puts.was kept.apart) less_parts);
    numbered = more (λ (z : Item). z.number ≤ count) (λ (z : Item). z.number ≤ x.number) (λ z le. up z le) (omega arith) kept.numbered;
    young = more (λ (z : Item). oldest ≤ z.since) (λ (z : Item). min oldest x.since ≤ z.since) (λ z le. young z le) (omega arith) kept.young;
    few = longer;
  }
    where
      behind : Each (λ y. Each (Precedes y) (x ∷ [])) (joined qs)
      behind = each_with (λ (z : Item). z.number < x.number) (λ (z : Item). z.since ≤ x.since) (λ y. Each (Precedes y) (x ∷ [])) (λ z lt le. ((lt, le), tt)) (joined qs) less (each_unordered (λ (z : Item). z.since ≤ x.since) (joined qs) before)

      up : (z : Item) → z.number ≤ count → z.number ≤ x.number
      up z le = omega (arith, number)

      young : (z : Item) → oldest ≤ z.since → min oldest x.since ≤ z.since
      young z le = omega arith

      longer : length (joined new) ≤ x.number
      longer =
          let was : length (joined qs) ≡ length puts.before + length puts.after = ap length puts.was ∙ length-append puts.before puts.after in
          let is : length (joined new) ≡ length puts.before + length (x ∷ puts.after) = ap length puts.is ∙ length-append puts.before (x ∷ puts.after) in
          let bound : length (joined qs) ≤ count = kept.few in
          omega (arith, number)

-- more were numbered
pub kept_more : (qs : List Queue) (count more oldest : ℕ) → count ≤ more → AreKept qs count oldest → AreKept qs more oldest
kept_more qs count more oldest le kept = record {
  each = kept.each;
  apart = kept.apart;
  numbered = each_weaker (λ (z : Item). z.number ≤ count) (λ (z : Item). z.number ≤ more) (λ z below. up z below) (joined qs) kept.numbered;
  young = kept.young;
  few = (let few = kept.few in omega (arith, le));
}
  where
    up : (z : Item) → z.number ≤ count → z.number ≤ more
    up z below = omega (arith, le)

-- none was appended before an earlier moment either
pub kept_lower : (qs : List Queue) (count oldest since : ℕ) → AreKept qs count oldest → AreKept qs count (min oldest since)
kept_lower qs count oldest since kept = record {
  each = kept.each;
  apart = kept.apart;
  numbered = kept.numbered;
  young = each_weaker (λ (z : Item). oldest ≤ z.since) (λ (z : Item). min oldest since ≤ z.since) (λ z le. lower z le) (joined qs) kept.young;
  few = kept.few;
}
  where
    lower : (z : Item) → oldest ≤ z.since → min oldest since ≤ z.since
    lower z le = omega arith

pub puts_as : (qs new : List Queue) (channel : Option ℕ) (node : List Item) (x : Item) → channel ≡ item_channel x → node ≡ x ∷ [] → Puts channel node qs new → Puts (item_channel x) (x ∷ []) qs new
puts_as qs new channel node x at is puts = subst (λ (l : List Item). Puts (item_channel x) l qs new) is (subst (λ (c : Option ℕ). Puts c node qs new) at puts)

-- the list with it, as it is appended
pub appended_view : (items now : List Item) (count room left since : ℕ) (note : NoteParts) (x : Item) → now ≡ items ++ x ∷ [] → x ≡ item_under (count + 1) since note → count + 1 ≡ next_number count → left + 1 ≡ room → record { items = now; count = count + 1; room = left } ≡ appended note since (record { items = items; count = count; room = room })
appended_view items now count room left since note x is item next more =
    ap (λ (l : List Item). whole l (count + 1) left) (is ∙ ap (λ (i : Item). items ++ i ∷ []) (item ∙ ap (λ (n : ℕ). item_under n since note) next))
    ∙ ap (λ (n : ℕ). whole (items ++ item_under (next_number count) since note ∷ []) n left) next
    ∙ ap (λ (n : ℕ). whole (items ++ item_under (next_number count) since note ∷ []) (next_number count) n) less
  where
    whole : List Item → ℕ → ℕ → OutboxData
    whole l n m = record { items = l; count = n; room = m }

    less : left ≡ room - 1
    less = omega arith
