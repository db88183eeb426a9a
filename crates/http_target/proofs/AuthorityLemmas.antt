-- A text is an authority where the test says so.
use Rattle.std.proofs.Common.{◌≡◌, ℕ, zero, suc, ◌-◌, ◌<◌, ◌==◌, nat_lt, nat_le, Bool, true, false, not, ◌||◌, ◌&&◌, List, [], ◌∷◌, ◌++◌, length, take, get_or, Result, Ok, Err, IfOk, OnOk, refl, sym, ◌∙◌, subst, arith, append_assoc, append-nil}
use Rattle.std.proofs.lemmas.Bool.{and_parts, and_from, false≢true, ltb-true, lt-ltb, leb-true, le-leb, eqb-true, eq-eqb}
use Rattle.http_uri.specs.ByteClasses.{is_authority_byte, count_of}
use Rattle.http_uri.specs.Error.{IsOutOfMemory, UnlessOutOfMemory}
use Rattle.http_uri.specs.declared.error.UriError.{UriError}
use Rattle.http_uri.specs.Grammar.{last_piece, MayFollow, IsAuthority}
use Rattle.http_target.specs.Laws.{AuthoritiesAreOfUris}
use Rattle.http_target.specs.Targets.{may_follow, may_all_follow, is_authority}

implied : (a b : Bool) → (not a || b) ≡ true → a ≡ true → b ≡ true
implied true b h is = h
implied false b h is = absurd (false≢true is)

implies : (a b : Bool) → (a ≡ true → b ≡ true) → (not a || b) ≡ true
implies true b f = f refl
implies false b f = refl

isnt : (a : Bool) → not a ≡ true → a ≡ true → ⊥
isnt true h is = false≢true h
isnt false h is = false≢true is

is_not : (a : Bool) → ¬ (a ≡ true) → not a ≡ true
is_not true wrong = absurd (wrong refl)
is_not false wrong = refl

-- ---- one byte

abbrev few_colons : List ℕ → ℕ → Bool
few_colons front b = not (b == 58) || nat_lt (count_of 58 (last_piece front)) 8

abbrev opens_once : List ℕ → ℕ → Bool
opens_once front b = not (b == 91) || ((count_of 91 front == 0) && (count_of 37 (last_piece front) == 0))

abbrev closes_once : List ℕ → ℕ → Bool
closes_once front b = not (b == 93) || (nat_lt 0 (count_of 91 front) && (count_of 93 front == 0))

may_from : (front : List ℕ) (b : ℕ) → may_follow front b ≡ true → MayFollow front b
unfolding may_follow
may_from front b h =
    let three = and_parts (is_authority_byte b && few_colons front b && opens_once front b) (closes_once front b) h in
    let two = and_parts (is_authority_byte b && few_colons front b) (opens_once front b) three.0 in
    let one = and_parts (is_authority_byte b) (few_colons front b) two.0 in
    let opening = λ (is : b ≡ 91). and_parts (count_of 91 front == 0) (count_of 37 (last_piece front) == 0) (implied (b == 91) _ two.1 (eq-eqb b 91 is)) in
    let closing = λ (is : b ≡ 93). and_parts (nat_lt 0 (count_of 91 front)) (count_of 93 front == 0) (implied (b == 93) _ three.1 (eq-eqb b 93 is)) in
    record {
      byte = one.0;
      colons = λ is. ltb-true (count_of 58 (last_piece front)) 8 (implied (b == 58) _ one.1 (eq-eqb b 58 is));
      opening = λ is. (eqb-true (count_of 91 front) 0 (opening is).0, eqb-true (count_of 37 (last_piece front)) 0 (opening is).1);
      closing = λ is. (ltb-true 0 (count_of 91 front) (closing is).0, eqb-true (count_of 93 front) 0 (closing is).1);
    }

may_to : (front : List ℕ) (b : ℕ) → MayFollow front b → may_follow front b ≡ true
unfolding may_follow
may_to front b h =
    let colons = implies (b == 58) (nat_lt (count_of 58 (last_piece front)) 8) (λ e. lt-ltb (count_of 58 (last_piece front)) 8 (h.colons (eqb-true b 58 e))) in
    let opening = implies (b == 91) ((count_of 91 front == 0) && (count_of 37 (last_piece front) == 0))
    (λ e. let is = h.opening (eqb-true b 91 e) in and_from _ _ (eq-eqb (count_of 91 front) 0 is.0) (eq-eqb (count_of 37 (last_piece front)) 0 is.1)) in
    let closing = implies (b == 93) (nat_lt 0 (count_of 91 front) && (count_of 93 front == 0))
    (λ e. let is = h.closing (eqb-true b 93 e) in and_from _ _ (lt-ltb 0 (count_of 91 front) is.0) (eq-eqb (count_of 93 front) 0 is.1)) in
    and_from (is_authority_byte b && few_colons front b && opens_once front b) (closes_once front b)
    (and_from (is_authority_byte b && few_colons front b) (opens_once front b) (and_from (is_authority_byte b) (few_colons front b) h.byte colons) opening)
    closing

-- ---- each byte

all_from : (front rest : List ℕ) → may_all_follow front rest ≡ true → (i : ℕ) → i < length rest → MayFollow (front ++ take i rest) (get_or rest i 0)
all_from front [] h i lt = absurd (omega arith)
all_from front (b ∷ rest) h zero lt =
    let parts = and_parts (may_follow front b) (may_all_follow (front ++ b ∷ []) rest) h in
    subst (λ t. MayFollow t b) (sym (append-nil front)) (may_from front b parts.0)
all_from front (b ∷ rest) h (suc i) lt =
    let parts = and_parts (may_follow front b) (may_all_follow (front ++ b ∷ []) rest) h in
    subst (λ t. MayFollow t (get_or rest i 0)) (append_assoc front (b ∷ []) (take i rest)) (all_from (front ++ b ∷ []) rest parts.1 i (omega arith))

all_to : (front rest : List ℕ) → ((i : ℕ) → i < length rest → MayFollow (front ++ take i rest) (get_or rest i 0)) → may_all_follow front rest ≡ true
all_to front [] f = refl
all_to front (b ∷ rest) f =
    and_from (may_follow front b) (may_all_follow (front ++ b ∷ []) rest)
    (may_to front b (subst (λ t. MayFollow t b) (append-nil front) (f 0 (omega arith))))
    (all_to (front ++ b ∷ []) rest (λ i lt. subst (λ t. MayFollow t (get_or rest i 0)) (sym (append_assoc front (b ∷ []) (take i rest))) (f (suc i) (omega arith))))

-- ---- the whole

abbrev lasting : List ℕ → Bool
lasting text = nat_lt 0 (length text) && may_all_follow [] text

abbrev is_closed : List ℕ → Bool
is_closed text = count_of 91 text == count_of 93 text

abbrev one_colon : List ℕ → Bool
one_colon text = nat_le (count_of 58 (last_piece text)) 1

abbrev no_percent : List ℕ → Bool
no_percent text = count_of 37 (last_piece text) == 0

abbrev has_host : List ℕ → Bool
has_host text = not (get_or text (length text - 1) 0 == 64)

authority_from : (text : List ℕ) → is_authority text ≡ true → IsAuthority text
unfolding is_authority
authority_from text h =
    let four = and_parts (lasting text && is_closed text && one_colon text && no_percent text) (has_host text) h in
    let three = and_parts (lasting text && is_closed text && one_colon text) (no_percent text) four.0 in
    let two = and_parts (lasting text && is_closed text) (one_colon text) three.0 in
    let one = and_parts (lasting text) (is_closed text) two.0 in
    let front = and_parts (nat_lt 0 (length text)) (may_all_follow [] text) one.0 in
    record {
      nonempty = ltb-true 0 (length text) front.0;
      bytes = all_from [] text front.1;
      closed = eqb-true (count_of 91 text) (count_of 93 text) one.1;
      one_colon = leb-true (count_of 58 (last_piece text)) 1 two.1;
      no_percent = eqb-true (count_of 37 (last_piece text)) 0 three.1;
      has_host = λ e. isnt (get_or text (length text - 1) 0 == 64) four.1 (eq-eqb (get_or text (length text - 1) 0) 64 e);
    }

authority_to : (text : List ℕ) → IsAuthority text → is_authority text ≡ true
unfolding is_authority
authority_to text h =
    let front = and_from (nat_lt 0 (length text)) (may_all_follow [] text) (lt-ltb 0 (length text) h.nonempty) (all_to [] text h.bytes) in
    let host = is_not (get_or text (length text - 1) 0 == 64) (λ e. h.has_host (eqb-true (get_or text (length text - 1) 0) 64 e)) in
    and_from (lasting text && is_closed text && one_colon text && no_percent text) (has_host text)
    (and_from (lasting text && is_closed text && one_colon text) (no_percent text)
    (and_from (lasting text && is_closed text) (one_colon text)
    (and_from (lasting text) (is_closed text) front (eq-eqb (count_of 91 text) (count_of 93 text) h.closed))
    (le-leb (count_of 58 (last_piece text)) 1 h.one_colon))
    (eq-eqb (count_of 37 (last_piece text)) 0 h.no_percent))
    host

-- what the reader of authorities tells
pub told_authority : (text : List ℕ) → IsAuthority text → true ≡ is_authority text
told_authority text h = sym (authority_to text h)

no_authority_by : (text : List ℕ) (b : Bool) → is_authority text ≡ b → ¬ (IsAuthority text) → false ≡ is_authority text
no_authority_by text true is wrong = absurd (wrong (authority_from text is))
no_authority_by text false is wrong = sym is

pub told_no_authority : (text : List ℕ) → ¬ (IsAuthority text) → false ≡ is_authority text
told_no_authority text wrong = no_authority_by text (is_authority text) refl wrong

pub refused_authority : {E : Type 0} (text : List ℕ) (error : UriError) (r : Result Bool E) → IfOk r (λ is. is ≡ false) → OnOk r (¬ (IsOutOfMemory error))
    → UnlessOutOfMemory error (¬ (IsAuthority text)) → IfOk r (λ is. is ≡ is_authority text)
refused_authority text error (Ok is) denied told wrong = denied ∙ told_no_authority text (wrong told)
refused_authority text error (Err e) denied told wrong = tt

pub authorities_are_of_uris : AuthoritiesAreOfUris
authorities_are_of_uris text = (authority_from text, authority_to text)
