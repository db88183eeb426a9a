-- What is kept of what `json` read, a turn at a time.
use Rattle.std.proofs.Common.{◌≡◌, ℕ, ◌≤◌, List, [], ◌∷◌, ◌++◌, ℤ, Option, Some, None, option_map, option_and_then, Ok, is_err, Ordering, Less, Equal, Greater, true≢false, refl, sym, ap, ◌∙◌, subst, arith}
use Rattle.std.proofs.Math.Nat.{le-max_left, le-max_right}
use Rattle.std.specs.BTreeMap.{insert_entry}
use Rattle.std.specs.Ordering.{match_ordering}
use Rattle.json.specs.Json as json
use Rattle.json.specs.Tree.{depth, items_depth, members_depth}
use Rattle.serde_json.specs.Data as serde
use Rattle.serde_json.specs.Data.{put}
use Rattle.serde_json.specs.Read.{of_json, of_items, of_members}
use Rattle.m2m_value.specs.Data.{Data, Entry, number, list, object, Elements, element, Pairs, pair, pairs_of}
use Rattle.m2m_value.specs.Reading.{followed, whole_of, value_kept, value_if, elements_in, elements_if, pairs_in, pairs_if}
use Rattle.m2m_value.proofs.Answering.{after_kept, one_more}
use Rattle.m2m_value.proofs.Lookup.{compared}

-- ---- what is kept of one value

number_if : (o : Option serde.Num) (n : serde.Num) → o ≡ Some n → value_if (option_map serde.number o) ≡ followed (whole_of n) (λ z. Ok (number z))
number_if o n e = rw e refl

-- a number is kept that is whole
pub number_kept : (o : Option serde.Num) (n : serde.Num) (z : ℤ) → o ≡ Some n → whole_of n ≡ Ok z → value_if (option_map serde.number o) ≡ Ok (number z)
number_kept o n z e whole = number_if o n e ∙ ap (λ r. followed r (λ x. Ok (number x))) whole

list_if : (o : Option serde.Items) → value_if (option_map serde.array o) ≡ followed (elements_if o) (λ es. Ok (list es))
list_if None = refl
list_if (Some ds) = refl

-- a list is kept whose elements are
pub list_kept : (o : Option serde.Items) (es : Elements) → elements_if o ≡ Ok es → value_if (option_map serde.array o) ≡ Ok (list es)
list_kept o es told = list_if o ∙ ap (λ r. followed r (λ x. Ok (list x))) told

object_if : (o : Option serde.Members) → value_if (option_map serde.object o) ≡ followed (pairs_if o) (λ ps. Ok (object ps))
object_if None = refl
object_if (Some ms) = refl

-- an object is kept whose pairs are
pub object_kept : (o : Option serde.Members) (ps : Pairs) → pairs_if o ≡ Ok ps → value_if (option_map serde.object o) ≡ Ok (object ps)
object_kept o ps told = object_if o ∙ ap (λ r. followed r (λ x. Ok (object x))) told

-- where a value is kept, one was read
read_of : (o : Option serde.Data) (v : Data) → value_if o ≡ Ok v → (x : serde.Data) × (o ≡ Some x) × (value_kept x ≡ Ok v)
read_of None v told = absurd (true≢false (ap is_err told))
read_of (Some x) v told = (x, refl, told)

-- ---- the elements of a list

item_if : (x : serde.Data) (o : Option serde.Items) (v : Data) → value_kept x ≡ Ok v → elements_if (option_map (serde.item x) o) ≡ followed (elements_if o) (λ es. Ok (element v es))
item_if x None v told = refl
item_if x (Some ds) v told = ap (λ r. followed r (λ e. followed (elements_in ds) (λ es. Ok (element e es)))) told

-- an element that is kept comes behind those that are
pub item_taken : (vs more : List Data) (j : json.Json) (js : json.Items) (v : Data) → value_if (of_json j) ≡ Ok v → more ≡ vs ++ v ∷ []
    → after_kept vs (elements_if (of_items (json.item j js))) ≡ after_kept more (elements_if (of_items js))
item_taken vs more j js v told pushed =
    let x = read_of (of_json j) v told in
    ap (λ o. after_kept vs (elements_if (option_and_then (λ d. option_map (serde.item d) (of_items js)) o))) x.1
    ∙ ap (after_kept vs) (item_if x.0 (of_items js) v x.2)
    ∙ one_more vs v (elements_if (of_items js))
    ∙ ap (λ l. after_kept l (elements_if (of_items js))) (sym pushed)

-- ---- the members of an object

-- these entries are what is kept of these members
abbrev pub AreKept : serde.Members → List Entry → Type 0
AreKept serde.no_members [] = Unit {0}
AreKept serde.no_members (e ∷ es) = ⊥
AreKept (serde.member k d ms) [] = ⊥
AreKept (serde.member k d ms) (e ∷ es) = (k ≡ e.0) × (value_kept d ≡ Ok e.1) × AreKept ms es

pub pairs_kept : (ms : serde.Members) (es : List Entry) → AreKept ms es → pairs_in ms ≡ Ok (pairs_of es)
pairs_kept serde.no_members [] h = refl
pairs_kept serde.no_members (e ∷ es) h = absurd h
pairs_kept (serde.member k d ms) [] h = absurd h
pairs_kept (serde.member k d ms) (e ∷ es) h =
    ap (λ r. followed r (λ v. followed (pairs_in ms) (λ ps. Ok (pair k v ps)))) h.1
    ∙ ap (λ r. followed r (λ ps. Ok (pair k e.1 ps))) (pairs_kept ms es h.2)
    ∙ ap (λ (n : List ℕ). Ok (pair n e.1 (pairs_of es))) h.0

put_kept_at : (o : Ordering) (k l : List ℕ) (c d : serde.Data) (v : Data) (ms rest : serde.Members) (e : Entry) (es more : List Entry) → value_kept d ≡ Ok v → AreKept (serde.member l c ms) (e ∷ es) → AreKept rest more
    → AreKept (match_ordering o (serde.member k d (serde.member l c ms)) (serde.member l d ms) (serde.member l c rest)) (match_ordering o ((k, v) ∷ e ∷ es) ((e.0, v) ∷ es) (e ∷ more))
put_kept_at Less k l c d v ms rest e es more told h behind = (refl, told, h)
put_kept_at Equal k l c d v ms rest e es more told h behind = (h.0, told, h.2)
put_kept_at Greater k l c d v ms rest e es more told h behind = (h.0, h.1, behind)

-- a member goes in at the same place on both sides
put_kept : (k : List ℕ) (d : serde.Data) (v : Data) (ms : serde.Members) (es : List Entry) → value_kept d ≡ Ok v → AreKept ms es → AreKept (put k d ms) (insert_entry compared es k v)
put_kept k d v serde.no_members [] told h = (refl, told, tt)
put_kept k d v serde.no_members (e ∷ es) told h = absurd h
put_kept k d v (serde.member l c ms) [] told h = absurd h
put_kept k d v (serde.member l c ms) (e ∷ es) told h =
    subst (λ o. AreKept (match_ordering o (serde.member k d (serde.member l c ms)) (serde.member l d ms) (serde.member l c (put k d ms))) (insert_entry compared (e ∷ es) k v))
    (ap (compared k) (sym h.0))
    (put_kept_at (compared k e.0) k l c d v ms (put k d ms) e es (insert_entry compared es k v) told h (put_kept k d v ms es told h.2))

-- some members, of which these entries are kept, go on with the rest of those that are read
abbrev pub GoOn : json.Members → json.Members → List Entry → Type 0
GoOn all rest es = (found : serde.Members) × (of_members all serde.no_members ≡ of_members rest found) × AreKept found es

pub none_yet : (all : json.Members) → GoOn all all []
none_yet all = (serde.no_members, refl, tt)

pub member_taken : (all : json.Members) (k : List ℕ) (j : json.Json) (rest : json.Members) (es : List Entry) (v : Data) → value_if (of_json j) ≡ Ok v
    → GoOn all (json.member k j rest) es → GoOn all rest (insert_entry compared es k v)
member_taken all k j rest es v told on =
    let x = read_of (of_json j) v told in (
      put k x.0 on.0,
      on.1 ∙ ap (option_and_then (λ d. of_members rest (put k d on.0))) x.1,
      put_kept k x.0 v on.0 es x.2 on.2,
    )

pub all_taken : (all : json.Members) (es : List Entry) → GoOn all json.no_members es → pairs_if (of_members all serde.no_members) ≡ Ok (pairs_of es)
all_taken all es on = ap pairs_if on.1 ∙ pairs_kept on.0 es on.2

-- ---- what stands in a list or an object is less deep

pub below_items : (j : json.Json) (js : json.Items) (n : ℕ) → items_depth (json.item j js) ≤ n → (depth j ≤ n) × (items_depth js ≤ n)
below_items j js n h = let here = le-max_left (depth j) (items_depth js) in let later = le-max_right (depth j) (items_depth js) in (omega (arith, here, h), omega (arith, later, h))

pub below_members : (k : List ℕ) (j : json.Json) (ms : json.Members) (n : ℕ) → members_depth (json.member k j ms) ≤ n → (depth j ≤ n) × (members_depth ms ≤ n)
below_members k j ms n h = let here = le-max_left (depth j) (members_depth ms) in let later = le-max_right (depth j) (members_depth ms) in (omega (arith, here, h), omega (arith, later, h))
