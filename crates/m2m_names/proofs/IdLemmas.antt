-- The number that digits spell, and the type and number of a resource id, as no others do.
use Rattle.std.specs.Prelude.{nat_lt, take, drop, ◌==◌, ◌&&◌, not}
use Rattle.std.proofs.Common.{Bool, cond, false, length, ◌≤◌, inl, inr, sym, append_assoc, ◌≡◌, ℕ, zero, suc, ◌+◌, ◌*◌, ◌-◌, ◌/◌, ◌%◌, ◌^◌, ◌<◌, List, [], ◌∷◌, ◌++◌, get_or, true, Option, Some, None, refl, ap, ◌∙◌, arith}
use Rattle.std.specs.Fmt.{decimal}
use Rattle.std.proofs.lemmas.Bool.{cases_Bool, and_parts, ltb-true, eqb-false, eqb-true, and_from, both_ways, cond-true, le-leb, lt-ltb, ne_eqb}
use Rattle.std.proofs.lemmas.List.{append-nil, take-append-drop}
use Rattle.std.proofs.lemmas.Option.{same_Some}
use Rattle.std.proofs.lemmas.Fmt.{decimal_by_steps, decimal_step, decimal_digit, first_decimal}
use Rattle.std.proofs.lemmas.Slice.Eq.{bytes_eq-Decides}
use Rattle.std.specs.Char.{is_ascii_digit}
use Rattle.std.specs.List.{list_all}
use Rattle.std.specs.Option.{option_and_then, option_map}
use Rattle.std.specs.Str.{bytes_eq}
use Rattle.std.proofs.Math.Seq.{drop-append_seam, take-append_seam}
use Rattle.m2m_names.specs.Types.{all_types, ty_row, ty_of_word}
use Rattle.m2m_names.proofs.LookupLemmas.{found_at}
use Rattle.m2m_names.proofs.NameLemmas.{digit_range}
use Rattle.m2m_names.proofs.TypeLemmas.{ty_of_word-word}
use Rattle.m2m_names.specs.declared.types.Ty.{Ty}
use Rattle.m2m_names.specs.declared.types.Ty.TheVariants.{AccessControlPolicy, Ae, Container, ContentInstance, CseBase, Group, PollingChannel, RemoteCse, Subscription, AccessControlPolicyAnnc, AeAnnc, ContainerAnnc, ContentInstanceAnnc, GroupAnnc}
use Rattle.m2m_names.specs.Ids.{with_digit, number_from, is_written, number_written, id_text, word_len, id_parts}
use Rattle.m2m_names.proofs.UrlLemmas.{Stops, front_is}

with_digit_value : (m d : ℕ) → d < 10 → 10 * m + d < 2 ^ 63 → with_digit m (48 + d) ≡ Some (10 * m + d)
with_digit_value m d digit small =
    let value : 10 * m + ((48 + d) - 48) ≡ 10 * m + d = omega arith in
    let is : is_ascii_digit (48 + d) ≡ true = and_from _ _ (le-leb 48 (48 + d) (omega arith)) (le-leb (48 + d) 57 (omega arith)) in
    cond-true (is_ascii_digit (48 + d) && nat_lt (10 * m + ((48 + d) - 48)) (2 ^ 63)) (Some (10 * m + ((48 + d) - 48))) None (and_from _ _ is (lt-ltb _ _ (omega (arith, value, small))))
    ∙ ap (λ n. Some n) value

one_more : (m d n : ℕ) → d < 10 → 10 * m + d ≡ n → n < 2 ^ 63 → number_from m ((48 + d) ∷ []) ≡ Some n
one_more m d n digit is small =
    ap (option_and_then (λ k. number_from k [])) (with_digit_value m d digit (omega (arith, is, small))) ∙ ap (λ k. Some k) is

number-append : (xs ys : List ℕ) (m : ℕ) → number_from m (xs ++ ys) ≡ option_and_then (λ k. number_from k ys) (number_from m xs)
number-append [] ys m = refl
number-append (x ∷ xs) ys m = after (λ k. number-append xs ys k) (with_digit m x)
  where
    after : ((k : ℕ) → number_from k (xs ++ ys) ≡ option_and_then (λ j. number_from j ys) (number_from k xs)) → (o : Option ℕ) → option_and_then (λ k. number_from k (xs ++ ys)) o ≡ option_and_then (λ k. number_from k ys) (option_and_then (λ k. number_from k xs) o)
    after later None = refl
    after later (Some k) = later k

-- its digits in decimal spell a number
pub number-decimal : (n : ℕ) → n < 2 ^ 63 → number_from 0 (decimal n) ≡ Some n
number-decimal n small =
    decimal_by_steps (λ n ds. n < 2 ^ 63 → number_from 0 ds ≡ Some n)
    (λ n digit small. one_more 0 n n digit (omega arith) small)
    (λ n ds big earlier small.
    number-append ds ((48 + n % 10) ∷ []) 0
    ∙ ap (option_and_then (λ k. number_from k ((48 + n % 10) ∷ []))) (earlier (omega arith))
    ∙ one_more (n / 10) (n % 10) n (omega arith) (omega arith) small)
    n (omega arith) small

-- its digits in decimal are as a number is written
written_from_first : (ds : List ℕ) → 48 < get_or ds 0 0 → is_written ds ≡ true
written_from_first [] above = absurd (omega (arith, above))
written_from_first (d ∷ ds) above = rw (ne_eqb d 48 (λ e. omega (arith, above, e))) refl

written-decimal : (n : ℕ) → n < 2 ^ 63 → is_written (decimal n) ≡ true
written-decimal zero small = ap is_written (decimal_digit 0 (omega arith))
written-decimal (suc n) small = written_from_first (decimal (suc n)) (first_decimal (suc n) (omega arith) (omega (arith, small)))

-- ---- no other digits spell it

after_digit : (b : Bool) (k n : ℕ) (ds : List ℕ) → option_and_then (λ m. number_from m ds) (cond b (Some k) None) ≡ Some n → (b ≡ true) × (number_from k ds ≡ Some n)
after_digit true k n ds read = (refl, read)
after_digit false k n ds read = cc

-- a digit that is read
digit_bounds : (m d : ℕ) → (is_ascii_digit d && nat_lt (10 * m + (d - 48)) (2 ^ 63)) ≡ true → (48 ≤ d) × (d ≤ 57) × (10 * m + (d - 48) < 2 ^ 63)
digit_bounds m d passes =
    let parts = and_parts (is_ascii_digit d) _ passes in
    let range = digit_range d parts.0 in
    (range.0, range.1, ltb-true (10 * m + (d - 48)) (2 ^ 63) parts.1)

one_more_digit : (m d : ℕ) → 0 < m → 48 ≤ d → d ≤ 57 → 10 * m + (d - 48) < 2 ^ 63 → decimal (10 * m + (d - 48)) ≡ decimal m ++ d ∷ []
one_more_digit m d some low high small =
    let n = 10 * m + (d - 48) in
    let front : n / 10 ≡ m = omega (arith, some, low, high) in
    let last : 48 + n % 10 ≡ d = omega (arith, some, low, high) in
    decimal_step n (omega (arith, some)) (omega (arith, small)) ∙ ap (λ k. decimal k ++ (48 + n % 10) ∷ []) front ∙ ap (λ k. decimal m ++ k ∷ []) last

-- digits that are read after a number are those that follow its own
digits_read : (ds : List ℕ) (m n : ℕ) → 0 < m → number_from m ds ≡ Some n → decimal n ≡ decimal m ++ ds
digits_read [] m n some read = ap decimal (sym (same_Some m n read)) ∙ sym (append-nil (decimal m))
digits_read (d ∷ ds) m n some read =
    let one = after_digit (is_ascii_digit d && nat_lt (10 * m + (d - 48)) (2 ^ 63)) (10 * m + (d - 48)) n ds read in
    let bounds = digit_bounds m d one.0 in
    digits_read ds (10 * m + (d - 48)) n (omega (arith, some)) one.1
    ∙ ap (λ (front : List ℕ). front ++ ds) (one_more_digit m d some bounds.0 bounds.1 bounds.2)
    ∙ append_assoc (decimal m) (d ∷ []) ds

-- digits as a number is written are those in decimal of what they spell
pub decimal-written : (ds : List ℕ) (n : ℕ) → is_written ds ≡ true → number_from 0 ds ≡ Some n → decimal n ≡ ds
decimal-written [] n written read = absurd (both_ways _ refl written)
decimal-written (d ∷ ds) n written read =
    let one = after_digit (is_ascii_digit d && nat_lt (10 * 0 + (d - 48)) (2 ^ 63)) (10 * 0 + (d - 48)) n ds read in
    let bounds = digit_bounds 0 d one.0 in
    let single : decimal (10 * 0 + (d - 48)) ≡ d ∷ [] = ap decimal (omega arith) ∙ decimal_digit (d - 48) (omega (arith, bounds.1)) ∙ ap (λ k. k ∷ []) (omega (arith, bounds.0)) in
    elim (cases_Bool (d == 48)) [
      | inr f ↦
          digits_read ds (10 * 0 + (d - 48)) n (omega (arith, bounds.0, eqb-false d 48 f)) one.1 ∙ ap (λ (front : List ℕ). front ++ ds) single
      | inl t ↦ alone ds (rw t at written) one.1 single
    ]
  where
    alone : (ds : List ℕ) → (length ds == 0) ≡ true → number_from (10 * 0 + (d - 48)) ds ≡ Some n → decimal (10 * 0 + (d - 48)) ≡ d ∷ [] → decimal n ≡ d ∷ ds
    alone [] none read single = ap decimal (sym (same_Some _ n read)) ∙ single
    alone (x ∷ xs) none read single = absurd (omega (arith, eqb-true (length (x ∷ xs)) 0 none))

-- the text of a number in decimal is read as that number, and no other text is
pub number_written-decimal : (n : ℕ) → n < 2 ^ 63 → number_written (decimal n) ≡ Some n
number_written-decimal n small =
    cond-true (is_written (decimal n)) (number_from 0 (decimal n)) None (written-decimal n small)
    ∙ number-decimal n small

pub decimal-number_written : (ds : List ℕ) (n : ℕ) → number_written ds ≡ Some n → decimal n ≡ ds
decimal-number_written ds n read = elim (cases_Bool (is_written ds)) [
  | inl t ↦ decimal-written ds n t (rw t at read)
  | inr f ↦ (let none : None ≡ Some n = rw f at read in cc)
]

-- ---- resource ids

word_has_no_digit : (ty : Ty) → list_all (λ byte. not (is_ascii_digit byte)) (ty_row ty).word ≡ true
word_has_no_digit AccessControlPolicy = refl
word_has_no_digit Ae = refl
word_has_no_digit Container = refl
word_has_no_digit ContentInstance = refl
word_has_no_digit CseBase = refl
word_has_no_digit Group = refl
word_has_no_digit PollingChannel = refl
word_has_no_digit RemoteCse = refl
word_has_no_digit Subscription = refl
word_has_no_digit AccessControlPolicyAnnc = refl
word_has_no_digit AeAnnc = refl
word_has_no_digit ContainerAnnc = refl
word_has_no_digit ContentInstanceAnnc = refl
word_has_no_digit GroupAnnc = refl

digit_is : (d : ℕ) → d < 10 → is_ascii_digit (48 + d) ≡ true
digit_is d digit = and_from _ _ (le-leb 48 (48 + d) (omega arith)) (le-leb (48 + d) 57 (omega arith))

-- a text in decimal begins with a digit
starts_by_digit : (n : ℕ) → n < 2 ^ 63 → Stops (λ byte. not (is_ascii_digit byte)) (decimal n)
starts_by_digit n small =
    decimal_by_steps (λ n ds. Stops (λ byte. not (is_ascii_digit byte)) ds)
    (λ n digit. ap not (digit_is n digit))
    (λ n ds big earlier. longer ds (n % 10) (omega arith) earlier)
    n (omega (arith, small))
  where
    longer : (ds : List ℕ) (d : ℕ) → d < 10 → Stops (λ byte. not (is_ascii_digit byte)) ds → Stops (λ byte. not (is_ascii_digit byte)) (ds ++ (48 + d) ∷ [])
    longer [] d digit stops = ap not (digit_is d digit)
    longer (x ∷ ds) d digit stops = stops

word_len-id : (ty : Ty) (n : ℕ) → n < 2 ^ 63 → word_len (id_text ty n) ≡ length (ty_row ty).word
word_len-id ty n small =
    front_is (λ byte. not (is_ascii_digit byte)) (ty_row ty).word (decimal n) (word_has_no_digit ty) (starts_by_digit n small)

-- the resource id of a type and a number is read as these
pub id_parts-id_text : (ty : Ty) (n : ℕ) → n < 2 ^ 63 → id_parts (id_text ty n) ≡ Some (ty, n)
id_parts-id_text ty n small =
    let word = (ty_row ty).word in
    let len = word_len-id ty n small in
    let front : take (word_len (id_text ty n)) (id_text ty n) ≡ word = ap (λ k. take k (word ++ decimal n)) len ∙ take-append_seam word (decimal n) in
    let rest : drop (word_len (id_text ty n)) (id_text ty n) ≡ decimal n = ap (λ k. drop k (word ++ decimal n)) len ∙ drop-append_seam word (decimal n) in
    ap (λ w. option_and_then (λ t. option_map (λ m. (t, m)) (number_written (drop (word_len (id_text ty n)) (id_text ty n)))) (ty_of_word w)) front
    ∙ ap (option_and_then (λ t. option_map (λ m. (t, m)) (number_written (drop (word_len (id_text ty n)) (id_text ty n))))) (ty_of_word-word ty)
    ∙ ap (λ ds. option_map (λ m. (ty, m)) (number_written ds)) rest
    ∙ ap (option_map (λ m. (ty, m))) (number_written-decimal n small)

-- the word of the type that was found stands before the first digit
word_from : (text : List ℕ) (t : Ty) → ty_of_word (take (word_len text) text) ≡ Some t → (ty_row t).word ≡ take (word_len text) text
word_from text t is = found_at (λ ty. bytes_eq (ty_row ty).word (take (word_len text) text)) all_types (λ ty. (ty_row ty).word ≡ take (word_len text) text) (λ ty. (bytes_eq-Decides (ty_row ty).word (take (word_len text) text)).0) (Some t) (sym is)

-- and no other text is
pub id_text-id_parts : (text : List ℕ) (ty : Ty) (n : ℕ) → id_parts text ≡ Some (ty, n) → id_text ty n ≡ text
id_text-id_parts text ty n read =
    let k = word_len text in
    by_word (ty_of_word (take k text)) (number_written (drop k text)) refl refl read
  where
    by_word : (t : Option Ty) (m : Option ℕ) → ty_of_word (take (word_len text) text) ≡ t → number_written (drop (word_len text) text) ≡ m → option_and_then {U = Ty × ℕ} (λ u. option_map (λ k. (u, k)) m) t ≡ Some (ty, n) → id_text ty n ≡ text
    by_word None m is_word is_number e = let none : None ≡ Some (ty, n) = e in cc
    by_word (Some t) None is_word is_number e = let none : None ≡ Some (ty, n) = e in cc
    by_word (Some t) (Some m) is_word is_number e =
        let p : Ty × ℕ = (t, m) in
        let q : Ty × ℕ = (ty, n) in
        let same = same_Some p q e in
        ap (λ (p : Ty × ℕ). id_text p.0 p.1) (sym same)
        ∙ ap (λ w. w ++ decimal m) (word_from text t is_word)
        ∙ ap (λ ds. take (word_len text) text ++ ds) (decimal-number_written (drop (word_len text) text) m is_number)
        ∙ take-append-drop (word_len text) text
