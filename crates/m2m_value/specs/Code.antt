-- How the logic stores a value: as a list of marks that gives it back.
use Rattle.std.specs.Prelude.{◌≡◌, ℕ, ◌==◌, ℤ, pos, List, [], ◌∷◌, Bool, true, false, cond, refl}
use Rattle.std.specs.Coded.{Coded, code_by, coded×, coded_ℕ, coded_ℤ, coded_list}
use Rattle.std.proofs.Common.{ap, ◌∙◌}
use Rattle.m2m_value.specs.Data.{Data, null, boolean, number, text, list, object, Elements}
use Rattle.m2m_value.specs.Data.{no_elements, element, Pairs, no_pairs, pair, Entry}

-- a kind, a number and bytes
abbrev pub Mark : Type 0
Mark = ℕ × (ℤ × List ℕ)

abbrev bare : ℕ → Mark
bare kind = (kind, (pos 0, []))

abbrev truth_mark : Bool → Mark
truth_mark false = bare 1
truth_mark true = bare 2

-- the marks of a value, then others: each list and each object follows the mark that joins its
-- parts
abbrev mutual
  pub marks_onto : Data → List Mark → List Mark
  marks_onto null rest = bare 0 ∷ rest
  marks_onto (boolean b) rest = truth_mark b ∷ rest
  marks_onto (number z) rest = (3, (z, [])) ∷ rest
  marks_onto (text s) rest = (4, (pos 0, s)) ∷ rest
  marks_onto (list es) rest = element_marks_onto es rest
  marks_onto (object ps) rest = pair_marks_onto ps rest

  pub element_marks_onto : Elements → List Mark → List Mark
  element_marks_onto no_elements rest = bare 5 ∷ rest
  element_marks_onto (element d es) rest = bare 6 ∷ marks_onto d (element_marks_onto es rest)

  pub pair_marks_onto : Pairs → List Mark → List Mark
  pair_marks_onto no_pairs rest = bare 7 ∷ rest
  pair_marks_onto (pair k d ps) rest = (8, (pos 0, k)) ∷ marks_onto d (pair_marks_onto ps rest)

-- a value goes in front of the list after it
abbrev onto_elements : Data → List Data → List Data
onto_elements d (list es ∷ rest) = list (element d es) ∷ rest
onto_elements d _ = []

abbrev onto_pairs : List ℕ → Data → List Data → List Data
onto_pairs k d (object ps ∷ rest) = object (pair k d ps) ∷ rest
onto_pairs k d _ = []

abbrev joined_element : List Data → List Data
joined_element [] = []
joined_element (d ∷ rest) = onto_elements d rest

abbrev joined_pair : List ℕ → List Data → List Data
joined_pair k [] = []
joined_pair k (d ∷ rest) = onto_pairs k d rest

abbrev step : ℕ → ℤ → List ℕ → List Data → List Data
step kind z s after =
    cond (kind == 0) (null ∷ after)
    (cond (kind == 1) (boolean false ∷ after) (cond (kind == 2) (boolean true ∷ after)
    (cond (kind == 3) (number z ∷ after)
    (cond (kind == 4) (text s ∷ after) (cond (kind == 5) (list no_elements ∷ after)
    (cond (kind == 6) (joined_element after)
    (cond (kind == 7) (object no_pairs ∷ after) (joined_pair s after))))))))

-- the values that the marks stand for
abbrev pub values_marked : List Mark → List Data
values_marked [] = []
values_marked (m ∷ ms) = step m.0 m.1.0 m.1.1 (values_marked ms)

abbrev first : List Data → Data
first [] = null
first (d ∷ ds) = d

truth_back : (b : Bool) (rest : List Mark) →
    values_marked (truth_mark b ∷ rest) ≡ boolean b ∷ values_marked rest
truth_back false rest = refl
truth_back true rest = refl

mutual
  pub marks_back : (d : Data) (rest : List Mark) →
      values_marked (marks_onto d rest) ≡ d ∷ values_marked rest
  marks_back null rest = refl
  marks_back (boolean b) rest = truth_back b rest
  marks_back (number z) rest = refl
  marks_back (text s) rest = refl
  marks_back (list es) rest = element_marks_back es rest
  marks_back (object ps) rest = pair_marks_back ps rest

  pub element_marks_back : (es : Elements) (rest : List Mark) →
      values_marked (element_marks_onto es rest) ≡ list es ∷ values_marked rest
  element_marks_back no_elements rest = refl
  element_marks_back (element d es) rest =
      ap joined_element (marks_back d (element_marks_onto es rest))
      ∙ ap (onto_elements d) (element_marks_back es rest)

  pub pair_marks_back : (ps : Pairs) (rest : List Mark) →
      values_marked (pair_marks_onto ps rest) ≡ object ps ∷ values_marked rest
  pair_marks_back no_pairs rest = refl
  pair_marks_back (pair k d ps) rest = ap (joined_pair k) (marks_back d (pair_marks_onto ps rest))
      ∙ ap (onto_pairs k d) (pair_marks_back ps rest)

-- A value is stored as its marks, which give it back unchanged.
abbrev pub data_code : Coded Data
data_code =
    code_by (List Mark) (coded_list (coded× coded_ℕ (coded× coded_ℤ (coded_list coded_ℕ))))
    (λ d. marks_onto d []) (λ ms. first (values_marked ms)) (λ d. ap first (marks_back d []))

-- A member of an object is stored as its key and its value, which give it back unchanged.
abbrev pub entry_code : Coded Entry
entry_code = coded× (coded_list coded_ℕ) data_code
