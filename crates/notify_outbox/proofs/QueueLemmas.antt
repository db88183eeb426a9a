-- Queues, one changed.
use Rattle.std.proofs.Common.{◌≡◌, ℕ, suc, ◌+◌, ◌<◌, ◌≤◌, List, [], ◌∷◌, ◌++◌, length, take, drop, get_or, set, false, not, ◌==◌, Option, inl, inr, sym, ap, ◌∙◌, subst, arith, append_assoc, length-append}
use Rattle.std.proofs.lemmas.Bool.{cases_Bool, eqb-true, false≢true}
use Rattle.std.proofs.lemmas.List.{append-nil, get_or_default, nil_from_length, set-get_or, set_split}
use Rattle.std.proofs.lemmas.List.Concat.{flat_map-append}
use Rattle.std.proofs.lemmas.List.Elements as elements
use Rattle.std.proofs.Math.Numerals.{suc-eq-add-one}
use Rattle.std.specs.List.{AllByRecursion}
use Rattle.notify_outbox.specs.Queues.{joined, Precedes, IsQueueOf, IsQueue, Pops, Puts}
use Rattle.notify_outbox.specs.declared.item.Item.{Item}
use Rattle.notify_outbox.specs.declared.queues.Queue.{Queue}
use Rattle.notify_outbox.proofs.OrderLemmas.{each_append, each_parts, Each}

abbrev pub AreQueues : List Queue → Type 0
AreQueues qs = AllByRecursion IsQueue qs

split_queues : (qs : List Queue) (i : ℕ) (d : Queue) → i < length qs → qs ≡ take i qs ++ get_or qs i d ∷ drop (suc i) qs
split_queues qs i d lt = sym (set-get_or qs i d) ∙ set_split qs i (get_or qs i d) lt

joined_parts : (qs rs : List Queue) (q : Queue) → joined (qs ++ q ∷ rs) ≡ joined qs ++ (q.items ++ joined rs)
joined_parts qs rs q = flat_map-append (λ (r : Queue). r.items) qs (q ∷ rs)

pub joined_at : (qs : List Queue) (i : ℕ) (d : Queue) → i < length qs → joined qs ≡ joined (take i qs) ++ ((get_or qs i d).items ++ joined (drop (suc i) qs))
joined_at qs i d lt = ap joined (split_queues qs i d lt) ∙ joined_parts (take i qs) (drop (suc i) qs) (get_or qs i d)

pub joined_set : (qs : List Queue) (i : ℕ) (q : Queue) → i < length qs → joined (set qs i q) ≡ joined (take i qs) ++ (q.items ++ joined (drop (suc i) qs))
joined_set qs i q lt = ap joined (set_split qs i q lt) ∙ joined_parts (take i qs) (drop (suc i) qs) q

pub queue_at : (qs : List Queue) (i : ℕ) (d : Queue) → i < length qs → AreQueues qs → IsQueue (get_or qs i d)
queue_at qs i d lt h = elements.All-get_or IsQueue qs i d lt (elements.All-from_recursion IsQueue qs h)

pub queues_set : (qs : List Queue) (i : ℕ) (q : Queue) → IsQueue q → AreQueues qs → AreQueues (set qs i q)
queues_set qs i q is h = elements.recursion_from_All IsQueue (set qs i q) (elements.All-set IsQueue qs i q is (elements.All-from_recursion IsQueue qs h))

pub queue_grows : (channel : Option ℕ) (xs ys : List Item) → IsQueueOf channel xs → IsQueueOf channel ys → Each (λ x. Each (Precedes x) ys) xs → IsQueueOf channel (xs ++ ys)
queue_grows channel [] ys h k f = k
queue_grows channel (x ∷ xs) ys h k f = (h.0, each_append (Precedes x) xs ys h.1 f.0, queue_grows channel xs ys h.2 k f.1)

-- ---- a queue grows

module _ (qs new : List Queue) (i : ℕ) (d : Queue) (node : List Item) (lt : i < length qs) where
  abbrev grown : Queue
  grown = record (get_or qs i d) { items = (get_or qs i d).items ++ node }

  pub puts_at : new ≡ set qs i grown → Puts (get_or qs i d).channel node qs new
  puts_at is = record {
    before = before;
    after = after;
    was = joined_at qs i d lt ∙ sym (append_assoc (joined (take i qs)) (get_or qs i d).items after);
    is =
        ap joined is ∙ joined_set qs i grown lt
        ∙ ap (λ (l : List Item). joined (take i qs) ++ l) (append_assoc (get_or qs i d).items node after)
        ∙ sym (append_assoc (joined (take i qs)) (get_or qs i d).items (node ++ after));
    each = λ h f. subst AreQueues (sym is) (queues_set qs i grown (queue_grows (get_or qs i d).channel (get_or qs i d).items node (queue_at qs i d lt h) f.0 (of_queue f.1)) h);
  }
    where
      after : List Item
      after = joined (drop (suc i) qs)

      before : List Item
      before = joined (take i qs) ++ (get_or qs i d).items

      of_queue : Each (λ x. Each (Precedes x) node) (joined qs) → Each (λ x. Each (Precedes x) node) (get_or qs i d).items
      of_queue f = (each_parts (λ x. Each (Precedes x) node) (get_or qs i d).items after (each_parts (λ x. Each (Precedes x) node) (joined (take i qs)) ((get_or qs i d).items ++ after) (subst (Each (λ x. Each (Precedes x) node)) (joined_at qs i d lt) f)).1).0

pub puts_last : (qs new : List Queue) (channel : Option ℕ) (node : List Item) → new ≡ qs ++ record { channel = channel; items = node } ∷ [] → Puts channel node qs new
puts_last qs new channel node is = record {
  before = joined qs;
  after = [];
  was = sym (append-nil (joined qs));
  is = ap joined is ∙ joined_parts qs [] (record { channel = channel; items = node });
  each = λ h f. subst AreQueues (sym is) (each_append IsQueue qs (record { channel = channel; items = node } ∷ []) h (f.0, tt));
}

pub put_there : (qs : List Queue) (i : ℕ) (r q : Queue) (node : List Item) → i < length qs → r ≡ get_or qs i r → q.channel ≡ r.channel → q.items ≡ r.items ++ node → (d : Queue) → Puts (get_or qs i d).channel node qs (set qs i q)
put_there qs i r q node lt at channel items d = puts_at qs (set qs i q) i d node lt (ap (set qs i) same)
  where
    here : r ≡ get_or qs i d
    here = at ∙ get_or_default qs i r d lt

    same : q ≡ record (get_or qs i d) { items = (get_or qs i d).items ++ node }
    same =
        ap (λ (c : Option ℕ). record { channel = c; items = q.items }) (channel ∙ ap (λ (p : Queue). p.channel) here)
        ∙ ap (λ (l : List Item). record { channel = (get_or qs i d).channel; items = l }) (items ∙ ap (λ (p : Queue). p.items ++ node) here)

-- no queue is longer than all together
pub short_at : (qs : List Queue) (i : ℕ) (r : Queue) → i < length qs → r ≡ get_or qs i r → length r.items ≤ length (joined qs)
short_at qs i r lt at =
    let here : length r.items ≡ length (get_or qs i r).items = ap (λ (q : Queue). length q.items) at in
    let whole : length (joined qs) ≡ length (joined (take i qs) ++ ((get_or qs i r).items ++ joined (drop (suc i) qs))) = ap length (joined_at qs i r lt) in
    let outer = length-append (joined (take i qs)) ((get_or qs i r).items ++ joined (drop (suc i) qs)) in
    let inner = length-append (get_or qs i r).items (joined (drop (suc i) qs)) in
    omega arith

-- ---- the first of a queue goes

module _ (qs new : List Queue) (i : ℕ) (x : Item) (lt : i < length qs) (d : Queue) (rest : List Item) where
  pub pops_at : (get_or qs i d).items ≡ x ∷ rest → new ≡ set qs i (record (get_or qs i d) { items = rest }) → Pops i qs new x
  pops_at first is = record {
    before = joined (take i qs);
    after = rest ++ joined (drop (suc i) qs);
    was = joined_at qs i d lt ∙ ap (λ (l : List Item). joined (take i qs) ++ (l ++ joined (drop (suc i) qs))) first;
    is = ap joined is ∙ joined_set qs i (record (get_or qs i d) { items = rest }) lt;
    front = λ e. ap (λ (q : Queue). take 1 q.items) (get_or_default qs i e d lt) ∙ ap (take 1) first;
    each = λ h. subst AreQueues (sym is) (queues_set qs i (record (get_or qs i d) { items = rest }) (tail_of (queue_at qs i d lt h)) h);
  }
    where
      tail_of : IsQueue (get_or qs i d) → IsQueueOf (get_or qs i d).channel rest
      tail_of h = (let whole : IsQueueOf (get_or qs i d).channel (x ∷ rest) = subst (IsQueueOf (get_or qs i d).channel) first h in whole.2)

pub pop_there : (qs : List Queue) (i : ℕ) (r q : Queue) (x : Item) → i < length qs → r ≡ get_or qs i r → q.channel ≡ r.channel → r.items ≡ x ∷ q.items → Pops i qs (set qs i q) x
pop_there qs i r q x lt at channel items = pops_at qs (set qs i q) i x lt r q.items (ap (λ (p : Queue). p.items) (sym at) ∙ items) (ap (set qs i) same)
  where
    same : q ≡ record (get_or qs i r) { items = q.items }
    same = ap (λ (c : Option ℕ). record { channel = c; items = q.items }) (channel ∙ ap (λ (p : Queue). p.channel) at)

-- what is tidied after it is taken
pub pops_tidied : (qs new last : List Queue) (i : ℕ) (x : Item) → Pops i qs new x → joined last ≡ joined new → (AreQueues new → AreQueues last) → Pops i qs last x
pops_tidied qs new last i x pops same each = record {
  before = pops.before;
  after = pops.after;
  was = pops.was;
  is = same ∙ pops.is;
  front = pops.front;
  each = λ h. each (pops.each h);
}

-- ---- what is first

pub first_taken : (xs : List Item) (x : Item) → 0 < length xs → x ≡ get_or xs 0 x → take 1 xs ≡ x ∷ []
first_taken [] x lt e = absurd (omega arith)
first_taken (y ∷ ys) x lt e = ap (λ (z : Item). z ∷ []) (sym e)

pub filled_at : (qs : List Queue) (i : ℕ) (r : Queue) → r ≡ get_or qs i r → ((d : Queue) → 0 < length (get_or qs i d).items) → 0 < length r.items
filled_at qs i r at some = subst (λ (q : Queue). 0 < length q.items) (sym at) (some r)

pub front_there : (qs : List Queue) (i : ℕ) (r : Queue) (x : Item) → i < length qs → r ≡ get_or qs i r → take 1 r.items ≡ x ∷ [] → (d : Queue) → take 1 (get_or qs i d).items ≡ x ∷ []
front_there qs i r x lt at e d = ap (λ (q : Queue). take 1 q.items) (sym (at ∙ get_or_default qs i r d lt)) ∙ e

zero_of : (n : ℕ) → not (n == 0) ≡ false → n ≡ 0
zero_of n f = elim (cases_Bool (n == 0)) [
  | inl t ↦ eqb-true n 0 t
  | inr g ↦ absurd (false≢true (sym f ∙ ap not g))
]

pub empty_at : (qs : List Queue) (i : ℕ) (r d : Queue) → i < length qs → r ≡ get_or qs i r → not (length r.items == 0) ≡ false → (get_or qs i d).items ≡ []
empty_at qs i r d lt at f = ap (λ (q : Queue). q.items) (sym (at ∙ get_or_default qs i r d lt)) ∙ nil_from_length r.items (zero_of (length r.items) f)

-- an empty queue goes
pub tidied : (qs new : List Queue) (i : ℕ) (d : Queue) → i < length qs → (get_or qs i d).items ≡ [] → new ≡ take i qs ++ drop (i + 1) qs → (joined new ≡ joined qs) × (AreQueues qs → AreQueues new)
tidied qs new i d lt empty is = (same, λ h. subst AreQueues (sym is) (each_append IsQueue (take i qs) (drop (i + 1) qs) (elements.recursion_from_All IsQueue (take i qs) (elements.All-take IsQueue i qs (elements.All-from_recursion IsQueue qs h))) (elements.recursion_from_All IsQueue (drop (i + 1) qs) (elements.All-drop IsQueue (i + 1) qs (elements.All-from_recursion IsQueue qs h)))))
  where
    same : joined new ≡ joined qs
    same =
        ap joined is ∙ flat_map-append (λ (r : Queue). r.items) (take i qs) (drop (i + 1) qs)
        ∙ ap (λ (n : ℕ). joined (take i qs) ++ joined (drop n qs)) (sym (suc-eq-add-one i))
        ∙ sym (joined_at qs i d lt ∙ ap (λ (l : List Item). joined (take i qs) ++ (l ++ joined (drop (suc i) qs))) empty)
