-- A target is a URI of the crate http_uri with a path.
use Rattle.std.proofs.Common.{◌≡◌, ◌≢◌, ℕ, ◌+◌, ◌<◌, ◌≤◌, ◌⊎◌, ◌==◌, nat_eq, nat_le, Bool, true, false, ◌||◌, ◌&&◌, List, [], ◌∷◌, ◌++◌, length, take, drop, get_or, Option, Some, None, cond, unwrap_or, refl, sym, ap, ◌∙◌, arith, inl, inr, codes, IfSome}
use Rattle.std.specs.List.{list_all, starts_with}
use Rattle.std.specs.Option.{option_map_or}
use Rattle.std.specs.Str.{is_utf8}
use Rattle.std.specs.Cmp.Lexicographic.{pointwise}
use Rattle.std.proofs.lemmas.Bool.Decides.{Decides-eqb}
use Rattle.std.proofs.lemmas.Slice.Eq.{starts_is}
use Rattle.std.proofs.lemmas.Bool.{cases_Bool, and_parts, and_from, or_cases, or_left, or_right, false≢true, leb-true, le-leb, eqb-true, eq-eqb}
use Rattle.std.proofs.lemmas.List.{length-take, length-drop, get_or-take}
use Rattle.std.proofs.lemmas.List.Sums.{AllPass-from_list_all, list_all-from_AllPass}
use Rattle.std.proofs.lemmas.Str.{IsUtf8-from_is_utf8, is_utf8-from_IsUtf8}
use Rattle.http_uri.specs.ByteClasses.{is_path_byte, is_query_byte, is_delimiter, split_once_front, split_once_back, index_of, question_mark}
use Rattle.http_uri.specs.Grammar.{AllPass, IsAbsoluteForm, IsOriginForm, IsPathAndQuery, IsPathInput, IsTail, IsUriText, scheme_len, authority_len, normal_scheme, without_fragment}
use Rattle.http_uri.proofs.SchemeLemmas.{AllPass_front}
use Rattle.http_uri.proofs.UriLemmas.{cut_len, cut_rest, cut_authority, cut_tail, cut_scheme, cut_first, absolute_from_cuts}
use Rattle.http_target.specs.Laws.{IsUriWithPath, TargetsAreOfUris}
use Rattle.http_target.specs.Targets.{PathAndQuery, split_target, target_parts, is_path_and_query, is_origin_form, is_absolute_form, is_tail, is_authority, has_scheme, hierarchy_of, authority_of, tail_of}
use Rattle.http_target.proofs.AuthorityLemmas.{authorities_are_of_uris}
use Rattle.m2m_names.proofs.NameLemmas.{starts_rest}

-- ---- a path with its query

passed-query : (back : Option (List ℕ)) → option_map_or (list_all is_query_byte) back true ≡ true → IfSome back (AllPass is_query_byte)
passed-query None h = tt
passed-query (Some query) h = AllPass-from_list_all is_query_byte query h

query-passes : (back : Option (List ℕ)) → IfSome back (AllPass is_query_byte) → option_map_or (list_all is_query_byte) back true ≡ true
query-passes None h = refl
query-passes (Some query) h = list_all-from_AllPass is_query_byte query h

-- the text begins as the path and the query of a URI may
abbrev Begins : List ℕ → Type 0
Begins text = (text ≡ []) ⊎ ((text ≡ codes "*") ⊎ ((get_or text 0 0 ≡ 47) ⊎ (get_or text 0 0 ≡ 63)))

path_from : (text : List ℕ) → is_path_and_query text ≡ true → Begins text → length text ≤ 65534 → IsPathAndQuery text
path_from text h begins short =
    let path = list_all is_path_byte (split_once_front question_mark text) in
    let query = option_map_or (list_all is_query_byte) (split_once_back question_mark text) true in
    let two = and_parts (path && query) (is_utf8 text) h in
    let one = and_parts path query two.0 in
    record {
      start = begins;
      path = AllPass-from_list_all is_path_byte (split_once_front question_mark text) one.0;
      query = passed-query (split_once_back question_mark text) one.1;
      utf8 = IsUtf8-from_is_utf8 text two.1;
      short = short;
    }

path_to : (text : List ℕ) → IsPathAndQuery text → is_path_and_query text ≡ true
path_to text h =
    let path = list_all is_path_byte (split_once_front question_mark text) in
    let query = option_map_or (list_all is_query_byte) (split_once_back question_mark text) true in
    and_from (path && query) (is_utf8 text)
    (and_from path query (list_all-from_AllPass is_path_byte (split_once_front question_mark text) h.path) (query-passes (split_once_back question_mark text) h.query))
    (is_utf8-from_IsUtf8 text h.utf8)

-- ---- what is kept before a fragment

mark_of : (b : ℕ) → is_delimiter b ≡ true → (b == 35) ≡ false → (b ≡ 47) ⊎ (b ≡ 63)
mark_of b h other = elim (or_cases ((b == 47) || (b == 63)) (b == 35) h) [
  | inr hash ↦ absurd (false≢true (sym other ∙ hash))
  | inl two ↦ elim (or_cases (b == 47) (b == 63) two) [
    | inl slash ↦ inl (eqb-true b 47 slash)
    | inr mark ↦ inr (eqb-true b 63 mark)
  ]
]

kept_begins : (text : List ℕ) → is_delimiter (get_or text 0 0) ≡ true → Begins (without_fragment text)
kept_begins [] h = absurd (false≢true h)
kept_begins (b ∷ rest) h = elim (cases_Bool (b == 35)) [
  | inl hash ↦ inl (rw hash refl)
  | inr other ↦
      let some : 0 < index_of 35 (b ∷ rest) = rw other (omega arith) in
      let same : get_or (without_fragment (b ∷ rest)) 0 0 ≡ b = get_or-take (index_of 35 (b ∷ rest)) (b ∷ rest) 0 0 some in
      inr (inr (elim (mark_of b h other) [ inl slash ↦ inl (same ∙ slash) | inr mark ↦ inr (same ∙ mark) ]))
]

path_input : (text : List ℕ) → is_delimiter (get_or text 0 0) ≡ true → length text ≤ 65534 → is_path_and_query (without_fragment text) ≡ true → IsPathInput text
path_input text delimits short h =
    let shorter : length (without_fragment text) ≤ 65534 = omega (arith, short, length-take (index_of 35 text) text) in
    record { start = inr delimits; short = short; kept = path_from (without_fragment text) h (kept_begins text delimits) shorter }

-- ---- the front of a text

first_slash : (text : List ℕ) → starts_with nat_eq text (codes "/") ≡ true → get_or text 0 0 ≡ 47
first_slash text h = ap (λ t. get_or t 0 0) (starts_rest text (codes "/") h)

slash_first : (text : List ℕ) → get_or text 0 0 ≡ 47 → starts_with nat_eq text (codes "/") ≡ true
slash_first [] h = absurd (omega (arith, h))
slash_first (b ∷ rest) h = (starts_is Decides-eqb (b ∷ rest) (codes "/") (starts_with nat_eq (b ∷ rest) (codes "/")) refl).1 rest (ap (λ c. c ∷ rest) h)

-- ---- the tail of an absolute URI

abbrev kept_of : List ℕ → List ℕ
kept_of [] = codes "/"
kept_of (b ∷ rest) = without_fragment (b ∷ rest)

tail_from : (text : List ℕ) → length text ≤ 65534 → is_tail text ≡ true → IsTail text (kept_of text)
tail_from [] short h = inl (refl, refl)
tail_from (b ∷ rest) short h = elim (or_cases (length (b ∷ rest) == 0) (is_delimiter b && is_path_and_query (without_fragment (b ∷ rest))) h) [
  | inl empty ↦ absurd (omega (arith, eqb-true (length (b ∷ rest)) 0 empty))
  | inr both ↦
      let parts = and_parts (is_delimiter b) (is_path_and_query (without_fragment (b ∷ rest))) both in
      inr (parts.0, path_input (b ∷ rest) parts.0 short parts.1, refl)
]

tail_to : (text kept : List ℕ) → IsTail text kept → is_tail text ≡ true
tail_to text kept (inl empty) =
    or_left (length text == 0) (is_delimiter (get_or text 0 0) && is_path_and_query (without_fragment text)) (eq-eqb (length text) 0 (ap length empty.0))
tail_to text kept (inr h) =
    or_right (length text == 0) (is_delimiter (get_or text 0 0) && is_path_and_query (without_fragment text))
    (and_from (is_delimiter (get_or text 0 0)) (is_path_and_query (without_fragment text)) h.0 (path_to (without_fragment text) h.1.kept))

kept-cut : (text : List ℕ) → split_target (without_fragment text) ≡ split_target (kept_of text)
kept-cut [] = refl
kept-cut (b ∷ rest) = refl

tail_cut : (text kept : List ℕ) → IsTail text kept → split_target (without_fragment text) ≡ split_target kept
tail_cut text kept (inl empty) = ap (λ t. split_target (without_fragment t)) empty.0 ∙ sym (ap split_target empty.1)
tail_cut text kept (inr h) = sym (ap split_target h.2)

-- ---- a target is such a URI

-- a target of a path alone
record IsPathAlone (target : List ℕ) : Type 0 where
  slash : starts_with nat_eq target (codes "/") ≡ true
  short : length target ≤ 65534
  path : is_path_and_query (without_fragment target) ≡ true

origin_parts : (target : List ℕ) → is_origin_form target ≡ true → IsPathAlone target
origin_parts target h =
    let two = and_parts (starts_with nat_eq target (codes "/") && nat_le (length target) 65534) (is_path_and_query (without_fragment target)) h in
    let one = and_parts (starts_with nat_eq target (codes "/")) (nat_le (length target) 65534) two.0 in
    record { slash = one.0; short = leb-true (length target) 65534 one.1; path = two.1 }

origin_from : (target : List ℕ) (parts : PathAndQuery) → is_origin_form target ≡ true → split_target (without_fragment target) ≡ parts → IsUriWithPath target parts
origin_from target parts h cut =
    let origin = origin_parts target h in
    let first = first_slash target origin.slash in
    record {
      scheme = None;
      authority = None;
      kept = without_fragment target;
      spells = (origin.short, ((inr first, path_input target (ap is_delimiter first) origin.short origin.path), refl));
      no_asterisk = λ star. omega (arith, sym first ∙ ap (λ t. get_or t 0 0) star);
      not_alone = λ e. refl;
      cut = sym cut;
    }

absolute_from : (target : List ℕ) (parts : PathAndQuery) → is_absolute_form target ≡ true → split_target (without_fragment (tail_of target)) ≡ parts → IsUriWithPath target parts
unfolding is_absolute_form
absolute_from target parts h cut =
    let three = and_parts (nat_le (length target) 65534 && has_scheme target && is_tail (tail_of target)) (is_authority (authority_of target)) h in
    let two = and_parts (nat_le (length target) 65534 && has_scheme target) (is_tail (tail_of target)) three.0 in
    let one = and_parts (nat_le (length target) 65534) (has_scheme target) two.0 in
    let n = scheme_len target in
    let rest = hierarchy_of target in
    let end = authority_len rest in
    let named = and_parts (nat_le n 64) (starts_with nat_eq (drop n target) (codes "://")) one.1 in
    let short = leb-true (length target) 65534 one.0 in
    let valid = (authorities_are_of_uris (authority_of target)).0 three.1 in
    let marks : take 3 (drop n target) ≡ codes "://" = ap (take 3) (starts_rest (drop n target) (codes "://") named.1) in
    let few = leb-true n 64 named.0 in
    let room : 3 < length target = omega (arith, valid.nonempty, length-take end rest, length-drop (n + 3) target) in
    let name_short : length (take n target) ≤ 64 = omega (arith, length-take n target, few) in
    let tail_short : length (tail_of target) ≤ 65534 = omega (arith, length-drop end rest, length-drop (n + 3) target, short) in
    let scheme = normal_scheme (take n target) in
    record {
      scheme = Some scheme;
      authority = Some (authority_of target);
      kept = kept_of (tail_of target);
      spells = (
        short,
        absolute_from_cuts target scheme (authority_of target) (kept_of (tail_of target)) n end (room, marks) refl
            (AllPass_front target n refl, name_short) refl refl valid (tail_from (tail_of target) tail_short two.1),
      );
      no_asterisk = λ star. omega (arith, ap length star, room);
      not_alone = λ e. cc;
      cut = sym cut ∙ kept-cut (tail_of target);
    }

by_form : (target : List ℕ) (parts : PathAndQuery) (origin absolute : Bool) → is_origin_form target ≡ origin → is_absolute_form target ≡ absolute
    → (cond origin (Some (split_target (without_fragment target))) (cond absolute (Some (split_target (without_fragment (tail_of target)))) None)) ≡ Some parts
    → IsUriWithPath target parts
by_form target parts true absolute o a h = origin_from target parts o (ap (λ (r : Option PathAndQuery). unwrap_or r parts) h)
by_form target parts false true o a h = absolute_from target parts a (ap (λ (r : Option PathAndQuery). unwrap_or r parts) h)
by_form target parts false false o a h = cc

-- ---- and such a URI is a target

at_origin : (origin absolute : Bool) (x y : PathAndQuery) → origin ≡ true → cond origin (Some x) (cond absolute (Some y) None) ≡ Some x
at_origin true absolute x y is = refl
at_origin false absolute x y is = absurd (false≢true is)

at_absolute : (origin absolute : Bool) (x y : PathAndQuery) → ¬ (origin ≡ true) → absolute ≡ true → cond origin (Some x) (cond absolute (Some y) None) ≡ Some y
at_absolute true absolute x y other is = absurd (other refl)
at_absolute false true x y other is = refl
at_absolute false false x y other is = absurd (false≢true is)

origin_to : (target : List ℕ) (parts : PathAndQuery) (kept : List ℕ) → length target ≤ 65534 → IsOriginForm target → kept ≡ without_fragment target → target ≢ codes "*" → parts ≡ split_target kept → target_parts target ≡ Some parts
origin_to target parts kept short origin kept_is no_asterisk cut = elim origin.0 [
  | inl star ↦ absurd (no_asterisk star)
  | inr slash ↦
      let is : is_origin_form target ≡ true =
      and_from (starts_with nat_eq target (codes "/") && nat_le (length target) 65534) (is_path_and_query (without_fragment target))
      (and_from (starts_with nat_eq target (codes "/")) (nat_le (length target) 65534) (slash_first target slash) (le-leb (length target) 65534 short))
      (path_to (without_fragment target) origin.1.kept) in
      at_origin (is_origin_form target) (is_absolute_form target) (split_target (without_fragment target)) (split_target (without_fragment (tail_of target))) is
      ∙ ap Some (sym (cut ∙ ap split_target kept_is))
]

absolute_to : (target : List ℕ) (parts : PathAndQuery) (scheme authority kept : List ℕ) → length target ≤ 65534 → IsAbsoluteForm target scheme authority kept → parts ≡ split_target kept → target_parts target ≡ Some parts
unfolding is_absolute_form
absolute_to target parts scheme authority kept short h cut =
    let n = scheme_len target in
    let rest : hierarchy_of target ≡ authority ++ h.tail = cut_rest target scheme authority kept h in
    let authority_is : authority_of target ≡ authority = ap (λ r. take (authority_len r) r) rest ∙ cut_authority target scheme authority kept h in
    let tail_is : tail_of target ≡ h.tail = ap (λ r. drop (authority_len r) r) rest ∙ cut_tail target scheme authority kept h in
    let few : n ≤ 64 = omega (arith, cut_len target scheme authority kept h, h.is_scheme.1) in
    let marks : starts_with nat_eq (drop n target) (codes "://") ≡ true = ap (pointwise nat_eq (codes "://")) (cut_scheme target scheme authority kept h).1 in
    let schemed : has_scheme target ≡ true = and_from (nat_le n 64) (starts_with nat_eq (drop n target) (codes "://")) (le-leb n 64 few) marks in
    let valid : is_authority (authority_of target) ≡ true = ap is_authority authority_is ∙ (authorities_are_of_uris authority).1 h.is_authority in
    let tailed : is_tail (tail_of target) ≡ true = ap is_tail tail_is ∙ tail_to h.tail kept h.is_tail in
    let is : is_absolute_form target ≡ true =
    and_from (nat_le (length target) 65534 && has_scheme target && is_tail (tail_of target)) (is_authority (authority_of target))
    (and_from (nat_le (length target) 65534 && has_scheme target) (is_tail (tail_of target))
    (and_from (nat_le (length target) 65534) (has_scheme target) (le-leb (length target) 65534 short) schemed) tailed) valid in
    let no_origin = λ (o : is_origin_form target ≡ true).
    cut_first target scheme authority kept h
    (first_slash target (origin_parts target o).slash) in
    at_absolute (is_origin_form target) (is_absolute_form target) (split_target (without_fragment target)) (split_target (without_fragment (tail_of target))) no_origin is
    ∙ ap Some (ap (λ t. split_target (without_fragment t)) tail_is ∙ tail_cut h.tail kept h.is_tail ∙ sym cut)

by_parts : (target : List ℕ) (parts : PathAndQuery) (scheme authority : Option (List ℕ)) (kept : List ℕ) → IsUriText target scheme authority kept → target ≢ codes "*" → (scheme ≡ None → authority ≡ None) → parts ≡ split_target kept → target_parts target ≡ Some parts
by_parts target parts None None kept spells no_asterisk not_alone cut = origin_to target parts kept spells.0 spells.1.0 spells.1.1 no_asterisk cut
by_parts target parts None (Some authority) kept spells no_asterisk not_alone cut = let e = not_alone refl in cc
by_parts target parts (Some scheme) None kept spells no_asterisk not_alone cut = absurd spells.1
by_parts target parts (Some scheme) (Some authority) kept spells no_asterisk not_alone cut = absolute_to target parts scheme authority kept spells.0 spells.1 cut

pub targets_are_of_uris : TargetsAreOfUris
targets_are_of_uris target parts = (
  λ h. by_form target parts (is_origin_form target) (is_absolute_form target) refl refl h,
  λ h. by_parts target parts h.scheme h.authority h.kept h.spells h.no_asterisk h.not_alone h.cut,
)
