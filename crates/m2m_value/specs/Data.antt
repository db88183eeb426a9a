-- A JSON value as plain data (RFC 8259, section 3), for numbers that are whole.
use Rattle.std.specs.Prelude.{ℕ, suc, max, ℤ, List, [], ◌∷◌, Bool}

mutual
  -- A JSON value: null, a boolean, a whole number, a text by its bytes, a list, or an object (RFC
  -- 8259, section 3).
  pub data Data : Type 0 where
    null : Data
    boolean : Bool → Data
    number : ℤ → Data
    text : List ℕ → Data
    list : Elements → Data
    object : Pairs → Data

  -- The elements of a list, in order (RFC 8259, section 5).
  pub data Elements : Type 0 where
    no_elements : Elements
    element : Data → Elements → Elements

  -- The members of an object, each a key and its value, in order (RFC 8259, section 4).
  pub data Pairs : Type 0 where
    no_pairs : Pairs
    pair : List ℕ → Data → Pairs → Pairs

-- a key and its value
abbrev pub Entry : Type 0
Entry = List ℕ × Data

-- the elements, as a list of them
abbrev pub elements_of : List Data → Elements
elements_of [] = no_elements
elements_of (d ∷ ds) = element d (elements_of ds)

-- the pairs, as a list of them
abbrev pub pairs_of : List Entry → Pairs
pairs_of [] = no_pairs
pairs_of (e ∷ es) = pair e.0 e.1 (pairs_of es)

-- how deep lists and objects nest: 0 for what is neither
abbrev mutual
  pub depth : Data → ℕ
  depth null = 0
  depth (boolean b) = 0
  depth (number z) = 0
  depth (text s) = 0
  depth (list es) = suc (elements_depth es)
  depth (object ps) = suc (pairs_depth ps)

  pub elements_depth : Elements → ℕ
  elements_depth no_elements = 0
  elements_depth (element d es) = max (depth d) (elements_depth es)

  pub pairs_depth : Pairs → ℕ
  pairs_depth no_pairs = 0
  pairs_depth (pair k d ps) = max (depth d) (pairs_depth ps)
