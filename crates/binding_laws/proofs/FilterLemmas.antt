-- The conditions of a filter are read from the pairs that are written of it.
use Rattle.binding_laws.proofs.Words.{◌≡◌, ℕ, ◌<◌, ◌^◌, true, List, [], ◌∷◌, ◌++◌, map, Option, Some, None, IfSome, IsTrue, ◌⊎◌, inl, inr, refl, sym, ap, subst, ◌∙◌, append-nil, append_assoc, arith, ℤ, pos, Ok, Err, option_map, option_and_then, unwrap_or, decimal, signed_decimal, AllByRecursion, flat_map, option_map_or}
use Rattle.binding_laws.proofs.Terms.{timestamp, Retrieve, number_spelled, is_type_number, is_label_text, IsMoment, ValueOf, FilterField, filter_field, asked_of, name_of_condition, sort_of_condition, no_conditions, usage_number, usage_numbered, IsValueOfKind, are_labels, are_type_numbers, Condition, CreatedAfter, CreatedBefore, ExpireAfter, ExpireBefore, Usage, OneLabel, Limit, ModifiedSince, StateTagBigger, StateTagSmaller, SizeAbove, SizeBelow, OneType, UnmodifiedSince, Sort, Moment, Count, Labels, Types, Use, FilterParts, Discovery, Conditional, and_then, Pair, labels_spelled, pair_said, placed, said_more, types_spelled, usage_spelled, with_condition, with_filter, with_text, said_by, Query, condition_pairs, condition_texts, filter_pairs, pairs_at, texts_of_sort, written_order}
use Rattle.binding_laws.proofs.Facts.{moment_at-timestamp}
use Rattle.std.proofs.lemmas.Option.{same_Some}
use Rattle.m2m_names.specs.StampReading.{moment_at}
use Rattle.filter_criteria.specs.declared.filter.FilterUsage.{FilterUsage}
use Rattle.http_target.specs.declared.fault.BindFault.TheVariants as bind
use Rattle.binding_laws.specs.ReadBack.{IsOneWord, IsTellable}
use Rattle.binding_laws.proofs.EachLemmas.{each_parts}
use Rattle.binding_laws.proofs.TextLemmas.{label_back, number_back, short_by, type_back, whole_back}

-- ---- fields

-- what is put into a field is there, and nothing else of it counts
pub record IsField {A : Type 0} (field : FilterField A) : Type 0 where
  pub same : (p : FilterParts) → field.with_value (field.value p) p ≡ p
  pub again : (x y : A) (p : FilterParts) → field.with_value x (field.with_value y p) ≡ field.with_value x p
  pub told : (x : A) (p : FilterParts) → field.value (field.with_value x p) ≡ x

is_field : (c : Condition) → IsField (filter_field c)
is_field CreatedAfter = record { same = λ p. refl; again = λ x y p. refl; told = λ x p. refl }
is_field CreatedBefore = record { same = λ p. refl; again = λ x y p. refl; told = λ x p. refl }
is_field ExpireAfter = record { same = λ p. refl; again = λ x y p. refl; told = λ x p. refl }
is_field ExpireBefore = record { same = λ p. refl; again = λ x y p. refl; told = λ x p. refl }
is_field Usage = record { same = λ p. refl; again = λ x y p. refl; told = λ x p. refl }
is_field OneLabel = record { same = λ p. refl; again = λ x y p. refl; told = λ x p. refl }
is_field Limit = record { same = λ p. refl; again = λ x y p. refl; told = λ x p. refl }
is_field ModifiedSince = record { same = λ p. refl; again = λ x y p. refl; told = λ x p. refl }
is_field StateTagBigger = record { same = λ p. refl; again = λ x y p. refl; told = λ x p. refl }
is_field StateTagSmaller = record { same = λ p. refl; again = λ x y p. refl; told = λ x p. refl }
is_field SizeAbove = record { same = λ p. refl; again = λ x y p. refl; told = λ x p. refl }
is_field SizeBelow = record { same = λ p. refl; again = λ x y p. refl; told = λ x p. refl }
is_field OneType = record { same = λ p. refl; again = λ x y p. refl; told = λ x p. refl }
is_field UnmodifiedSince = record { same = λ p. refl; again = λ x y p. refl; told = λ x p. refl }

-- ---- the texts of one condition

-- what a filter has of a condition that isn't given
abbrev none_of : (sort : Sort) → ValueOf sort
none_of Moment = None
none_of Count = None
none_of Labels = []
none_of Types = []
none_of Use = None

-- the filter with what texts say in a field, one after another
abbrev said_texts : (sort : Sort) → FilterField (ValueOf sort) → List (List ℕ) → FilterParts → Option FilterParts
said_texts sort field [] p = Some p
said_texts sort field (text ∷ texts) p = option_and_then (said_texts sort field texts) (with_text sort field text p)

-- a value that isn't given leaves an empty field as it is
left_empty : {A : Type 0} (field : FilterField A) (nothing : A) (p : FilterParts) → IsField field → field.value p ≡ nothing
    → Some p ≡ Some (field.with_value nothing p)
left_empty field nothing p law fresh = ap Some (sym (law.same p) ∙ ap (λ v. field.with_value v p) fresh)

labels_on : (field : FilterField (List (List ℕ))) → IsField field → (labels : List (List ℕ)) (p : FilterParts)
    → are_labels labels ≡ true → AllByRecursion IsOneWord labels
    → said_texts Labels field labels p ≡ Some (field.with_value (field.value p ++ labels) p)
labels_on field law [] p kinds words = ap Some (sym (law.same p) ∙ ap (λ v. field.with_value v p) (sym (append-nil (field.value p))))
labels_on field law (label ∷ labels) p kinds words =
    let parts = each_parts is_label_text label labels kinds in
    let next : FilterParts = field.with_value (field.value p ++ label ∷ []) p in
    let said : labels_spelled label ≡ Some (label ∷ []) = label_back label parts.first words.0.utf8 words.0.word in
    ap (λ (more : Option (List (List ℕ))). option_and_then (said_texts Labels field labels) (option_map (λ values. field.with_value (field.value p ++ values) p) more)) said
    ∙ labels_on field law labels next parts.rest words.1
    ∙ ap Some (law.again (field.value next ++ labels) (field.value p ++ label ∷ []) p)
    ∙ ap (λ v. Some (field.with_value (v ++ labels) p)) (law.told (field.value p ++ label ∷ []) p)
    ∙ ap (λ v. Some (field.with_value v p)) (append_assoc (field.value p) (label ∷ []) labels)

types_on : (field : FilterField (List ℕ)) → IsField field → (types : List ℕ) (p : FilterParts) → are_type_numbers types ≡ true
    → said_texts Types field (map decimal types) p ≡ Some (field.with_value (field.value p ++ types) p)
types_on field law [] p kinds = ap Some (sym (law.same p) ∙ ap (λ v. field.with_value v p) (sym (append-nil (field.value p))))
types_on field law (n ∷ types) p kinds =
    let parts = each_parts is_type_number n types kinds in
    let next : FilterParts = field.with_value (field.value p ++ n ∷ []) p in
    let said : types_spelled (decimal n) ≡ Some (n ∷ []) = type_back n parts.first in
    ap (λ (more : Option (List ℕ)). option_and_then (said_texts Types field (map decimal types)) (option_map (λ values. field.with_value (field.value p ++ values) p) more)) said
    ∙ types_on field law types next parts.rest
    ∙ ap Some (law.again (field.value next ++ types) (field.value p ++ n ∷ []) p)
    ∙ ap (λ v. Some (field.with_value (v ++ types) p)) (law.told (field.value p ++ n ∷ []) p)
    ∙ ap (λ v. Some (field.with_value v p)) (append_assoc (field.value p) (n ∷ []) types)

usage_back : (usage : FilterUsage) → usage_spelled (signed_decimal (usage_number usage)) ≡ Some usage
usage_back Discovery = ap (option_and_then usage_numbered) (whole_back (pos 1) (short_by 1 (omega arith)))
usage_back Conditional = ap (option_and_then usage_numbered) (whole_back (pos 2) (short_by 2 (omega arith)))

-- one value is placed in an empty field
placed_so : {A : Type 0} (field : FilterField (Option A)) (p : FilterParts) (read : Option A) (value : A) → field.value p ≡ None → read ≡ Some value
    → option_and_then (λ (q : FilterParts). Some q) (option_map (λ o. field.with_value o p) (placed (field.value p) read)) ≡ Some (field.with_value (Some value) p)
placed_so field p read value fresh is = λ i. option_and_then (λ (q : FilterParts). Some q) (option_map (λ o. field.with_value o p) (placed (fresh i) (is i)))

-- the texts of a condition say what the filter has of it
texts_back : (sort : Sort) (field : FilterField (ValueOf sort)) → IsField field → (value : ValueOf sort) (p : FilterParts)
    → IsValueOfKind sort value → IsTellable sort value → field.value p ≡ none_of sort
    → said_texts sort field (texts_of_sort sort value) p ≡ Some (field.with_value value p)
texts_back Moment field law None p kind told fresh = left_empty field None p law fresh
texts_back Moment field law (Some at) p kind told fresh = placed_so field p (moment_at (timestamp at)) at fresh (moment_at-timestamp (timestamp at) at kind refl)
texts_back Count field law None p kind told fresh = left_empty field None p law fresh
texts_back Count field law (Some n) p kind told fresh = placed_so field p (number_spelled (decimal n)) n fresh (number_back n told)
texts_back Labels field law labels p kind told fresh =
    labels_on field law labels p kind told ∙ ap (λ v. Some (field.with_value (v ++ labels) p)) fresh
texts_back Types field law types p kind told fresh =
    types_on field law types p kind ∙ ap (λ v. Some (field.with_value (v ++ types) p)) fresh
texts_back Use field law None p kind told fresh = left_empty field None p law fresh
texts_back Use field law (Some usage) p kind told fresh =
    placed_so field p (usage_spelled (signed_decimal (usage_number usage))) usage fresh (usage_back usage)

-- ---- the pairs of one condition

-- a query with this result content and this filter
abbrev pub query_with : Option ℤ → Option FilterParts → Query
query_with rcn fc = record { rcn = rcn; rt = None; fc = fc; drt = None }

more_is : (c : Condition) (text : List ℕ) (q : Query) → said_more Retrieve (name_of_condition c, text) q ≡ with_filter c text q
more_is CreatedAfter text q = refl
more_is CreatedBefore text q = refl
more_is ExpireAfter text q = refl
more_is ExpireBefore text q = refl
more_is Usage text q = refl
more_is OneLabel text q = refl
more_is Limit text q = refl
more_is ModifiedSince text q = refl
more_is StateTagBigger text q = refl
more_is StateTagSmaller text q = refl
more_is SizeAbove text q = refl
more_is SizeBelow text q = refl
more_is OneType text q = refl
more_is UnmodifiedSince text q = refl

-- where one question follows another and is answered, both are
pub record Follows {A B : Type 0} (first : Option A) (next : A → Option B) (found : B) : Type 0 where
  pub value : A
  pub here : first ≡ Some value
  pub there : next value ≡ Some found

follows : {A B : Type 0} (first : Option A) (next : A → Option B) (found : B) → option_and_then next first ≡ Some found → Follows first next found
follows None next found e = cc
follows (Some a) next found e = record { value = a; here = refl; there = e }

-- one pair of a condition says what its text says
pair_back : (c : Condition) (text : List ℕ) (rcn : Option ℤ) (fc : Option FilterParts) (p : FilterParts)
    → with_condition c text (unwrap_or fc no_conditions) ≡ Some p
    → pair_said Retrieve (name_of_condition c, text) (query_with rcn fc) ≡ Ok (query_with rcn (Some p))
pair_back c text rcn fc p said =
    let q : Query = query_with rcn fc in
    let more : said_more Retrieve (name_of_condition c, text) q ≡ Some (query_with rcn (Some p)) =
    more_is c text q ∙ ap (option_map (λ f. record q { fc = Some f })) said in
    ap (λ o. option_map_or (λ said. Ok said) o (Err (bind.Query (name_of_condition c)))) more

-- the pairs of texts, behind a filter
pairs_on : (c : Condition) (texts : List (List ℕ)) (rcn : Option ℤ) (p last : FilterParts) (rest : List Pair)
    → said_texts (sort_of_condition c) (filter_field c) texts p ≡ Some last
    → said_by Retrieve (pairs_at (name_of_condition c) texts ++ rest) (query_with rcn (Some p)) ≡ said_by Retrieve rest (query_with rcn (Some last))
pairs_on c [] rcn p last rest said = ap (λ f. said_by Retrieve rest (query_with rcn (Some f))) (same_Some p last said)
pairs_on c (text ∷ texts) rcn p last rest said =
    let one = follows (with_text (sort_of_condition c) (filter_field c) text p) (said_texts (sort_of_condition c) (filter_field c) texts) last said in
    ap (λ r. and_then r (said_by Retrieve (pairs_at (name_of_condition c) texts ++ rest))) (pair_back c text rcn (Some p) one.value one.here)
    ∙ pairs_on c texts rcn one.value last rest one.there

-- ---- all conditions

-- the filter has these conditions so far, or there is none yet
abbrev pub IsFilled : FilterParts → Option FilterParts → Type 0
IsFilled p fc = ((fc ≡ None) × (p ≡ no_conditions)) ⊎ (fc ≡ Some p)

filled_so : (p : FilterParts) (fc : Option FilterParts) → IsFilled p fc → unwrap_or fc no_conditions ≡ p
filled_so p fc (inl none) = ap (λ o. unwrap_or o no_conditions) none.0 ∙ sym none.1
filled_so p fc (inr some) = ap (λ o. unwrap_or o no_conditions) some

abbrev put : Condition → FilterParts → FilterParts → FilterParts
put c f p = (filter_field c).with_value (asked_of c f) p

abbrev fill : FilterParts → List Condition → FilterParts → FilterParts
fill f [] p = p
fill f (c ∷ cs) p = fill f cs (put c f p)

-- the conditions aren't there yet, each when its turn comes
abbrev AreFresh : FilterParts → List Condition → FilterParts → Type 0
AreFresh f [] p = Unit {0}
AreFresh f (c ∷ cs) p = ((filter_field c).value p ≡ none_of (sort_of_condition c)) × AreFresh f cs (put c f p)

-- what the pairs of conditions say, behind what was said
pub record SaysFilter (pairs rest : List Pair) (rcn : Option ℤ) (fc : Option FilterParts) (p : FilterParts) : Type 0 where
  pub read : Option FilterParts
  pub said : said_by Retrieve (pairs ++ rest) (query_with rcn fc) ≡ said_by Retrieve rest (query_with rcn read)
  pub filled : IsFilled p read

by_texts : (c : Condition) (texts : List (List ℕ)) (rcn : Option ℤ) (fc : Option FilterParts) (p last : FilterParts) (rest : List Pair)
    → IsFilled p fc → said_texts (sort_of_condition c) (filter_field c) texts p ≡ Some last
    → SaysFilter (pairs_at (name_of_condition c) texts) rest rcn fc last
by_texts c [] rcn fc p last rest filled said = record {
  read = fc;
  said = refl;
  filled = subst (λ (f : FilterParts). IsFilled f fc) (same_Some p last said) filled;
}
by_texts c (text ∷ texts) rcn fc p last rest filled said =
    let one = follows (with_text (sort_of_condition c) (filter_field c) text p) (said_texts (sort_of_condition c) (filter_field c) texts) last said in
    let first = ap (with_condition c text) (filled_so p fc filled) ∙ one.here in
    record {
      read = Some last;
      said = ap (λ r. and_then r (said_by Retrieve (pairs_at (name_of_condition c) texts ++ rest))) (pair_back c text rcn fc one.value first)
          ∙ pairs_on c texts rcn one.value last rest one.there;
      filled = inr refl;
    }

conditions_back : (cs : List Condition) (f : FilterParts) (rcn : Option ℤ) (fc : Option FilterParts) (p : FilterParts) (rest : List Pair)
    → AllByRecursion (λ c. IsValueOfKind (sort_of_condition c) (asked_of c f)) cs
    → AllByRecursion (λ c. IsTellable (sort_of_condition c) (asked_of c f)) cs
    → AreFresh f cs p → IsFilled p fc
    → SaysFilter (flat_map (condition_pairs f) cs) rest rcn fc (fill f cs p)
conditions_back [] f rcn fc p rest kinds told fresh filled = record { read = fc; said = refl; filled = filled }
conditions_back (c ∷ cs) f rcn fc p rest kinds told fresh filled =
    let later : List Pair = flat_map (condition_pairs f) cs in
    let here = texts_back (sort_of_condition c) (filter_field c) (is_field c) (asked_of c f) p kinds.0 told.0 fresh.0 in
    let one = by_texts c (condition_texts f c) rcn fc p (put c f p) (later ++ rest) filled here in
    let then = conditions_back cs f rcn one.read (put c f p) rest kinds.1 told.1 fresh.1 one.filled in
    record {
      read = then.read;
      said = ap (λ ps. said_by Retrieve ps (query_with rcn fc)) (append_assoc (condition_pairs f c) later rest) ∙ one.said ∙ then.said;
      filled = then.filled;
    }

-- ---- the filter

-- what holds of each condition, in another order
in_order : {P : Condition → Type 0} → ((c : Condition) → P c) → (cs : List Condition) → AllByRecursion P cs
in_order each [] = tt
in_order each (c ∷ cs) = (each c, in_order each cs)

pub filter_back : (f : FilterParts) (rcn : Option ℤ) (rest : List Pair)
    → ((c : Condition) → IsValueOfKind (sort_of_condition c) (asked_of c f))
    → ((c : Condition) → IsTellable (sort_of_condition c) (asked_of c f))
    → SaysFilter (filter_pairs (Some f)) rest rcn None f
filter_back f rcn rest kinds told =
    conditions_back written_order f rcn None no_conditions rest
    (in_order kinds written_order) (in_order told written_order)
    (refl, (refl, (refl, (refl, (refl, (refl, (refl, (refl, (refl, (refl, (refl, (refl, (refl, (refl, tt))))))))))))))
    (inl (refl, refl))
