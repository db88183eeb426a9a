-- The conditions of a filter, as a table, and the filter that members make (TS-0004, 8.2.5).
use Rattle.std.specs.Prelude.{ℕ, Bool, false, ℤ, pos, List, [], ◌∷◌, Option, None, find}
use Rattle.std.specs.Prelude.{is_some, codes, fold, option_and_then}
use Rattle.std.specs.List.{AllByRecursion, list_all, filter_map}
use Rattle.std.specs.Option.{option_map_or}
use Rattle.std.specs.Ordering.{int_eq}
use Rattle.std.specs.Str.{bytes_eq}
use Rattle.m2m_names.specs.StampReading.{moment_at}
use Rattle.m2m_value.specs.Data.{Data, null, boolean, number, text, list, object, Entry}
use Rattle.m2m_value.specs.Shapes.{as_count, is_label, is_label_text}
use Rattle.m2m_value.specs.View.{as_number, as_text, as_object, elements, member_of}
use Rattle.filter_criteria.specs.Values.{where_it, read_type_number}
use Rattle.filter_criteria.specs.declared.condition.Condition.{Condition}
use Rattle.filter_criteria.specs.declared.condition.Condition.TheVariants.{CreatedAfter}
use Rattle.filter_criteria.specs.declared.condition.Condition.TheVariants.{CreatedBefore}
use Rattle.filter_criteria.specs.declared.condition.Condition.TheVariants.{ExpireAfter}
use Rattle.filter_criteria.specs.declared.condition.Condition.TheVariants.{ExpireBefore}
use Rattle.filter_criteria.specs.declared.condition.Condition.TheVariants.{Usage, OneLabel, Limit}
use Rattle.filter_criteria.specs.declared.condition.Condition.TheVariants.{ModifiedSince}
use Rattle.filter_criteria.specs.declared.condition.Condition.TheVariants.{StateTagBigger}
use Rattle.filter_criteria.specs.declared.condition.Condition.TheVariants.{StateTagSmaller}
use Rattle.filter_criteria.specs.declared.condition.Condition.TheVariants.{SizeAbove, SizeBelow}
use Rattle.filter_criteria.specs.declared.condition.Condition.TheVariants.{OneType, UnmodifiedSince}
use Rattle.filter_criteria.specs.declared.condition.Sort.{Sort}
use Rattle.filter_criteria.specs.declared.condition.Sort.TheVariants.{Moment, Count, Labels, Types}
use Rattle.filter_criteria.specs.declared.condition.Sort.TheVariants.{Use}
use Rattle.filter_criteria.specs.declared.filter.FilterParts.{FilterParts}
use Rattle.filter_criteria.specs.declared.filter.FilterUsage.{FilterUsage}
use Rattle.filter_criteria.specs.declared.filter.FilterUsage.TheVariants.{Discovery, Conditional}

-- ---- what the value of a condition is read as

-- the moment of a timestamp
abbrev pub read_moment : Data → Option ℕ
read_moment d = option_and_then moment_at (as_text d)

-- a label: a text of 1 to 256 bytes
abbrev pub label_of : Data → Option (List ℕ)
label_of d = where_it is_label_text (as_text d)

-- the number that stands for a use of filters (TS-0004, 6.3.4.2.31)
abbrev pub usage_number : FilterUsage → ℤ
usage_number Discovery = pos 1
usage_number Conditional = pos 2

-- Both uses of a filter, in the order of their numbers.
abbrev pub all_usages : List FilterUsage
all_usages = Discovery ∷ Conditional ∷ []

-- the use of a number
abbrev pub usage_numbered : ℤ → Option FilterUsage
usage_numbered z = find (λ usage. int_eq (usage_number usage) z) all_usages

-- The use that a value stands for as a number.
abbrev pub read_usage : Data → Option FilterUsage
read_usage d = option_and_then usage_numbered (as_number d)

-- the values of which one is to hold: the elements of a list, and any other value alone
abbrev pub alternatives : Data → List Data
alternatives null = null ∷ []
alternatives (boolean b) = boolean b ∷ []
alternatives (number z) = number z ∷ []
alternatives (text s) = text s ∷ []
alternatives (list es) = elements es
alternatives (object ps) = object ps ∷ []

-- what the alternatives are read as
abbrev pub all_of : {A : Type 0} → (Data → Option A) → Data → List A
all_of read d = filter_map read (alternatives d)

-- ---- the table

-- what stands for a condition: its short name, and the sort of its value
pub record ConditionRow : Type 0 where
  pub name : List ℕ
  pub sort : Sort

abbrev pub condition_row : List ℕ → Sort → ConditionRow
condition_row name sort = record { name = name; sort = sort }

-- The short name and the sort of each condition (TS-0004, 8.2.5).
abbrev pub row_of_condition : Condition → ConditionRow
row_of_condition CreatedAfter = condition_row (codes "cra") Moment
row_of_condition CreatedBefore = condition_row (codes "crb") Moment
row_of_condition ExpireAfter = condition_row (codes "exa") Moment
row_of_condition ExpireBefore = condition_row (codes "exb") Moment
row_of_condition Usage = condition_row (codes "fu") Use
row_of_condition OneLabel = condition_row (codes "lbl") Labels
row_of_condition Limit = condition_row (codes "lim") Count
row_of_condition ModifiedSince = condition_row (codes "ms") Moment
row_of_condition StateTagBigger = condition_row (codes "stb") Count
row_of_condition StateTagSmaller = condition_row (codes "sts") Count
row_of_condition SizeAbove = condition_row (codes "sza") Count
row_of_condition SizeBelow = condition_row (codes "szb") Count
row_of_condition OneType = condition_row (codes "ty") Types
row_of_condition UnmodifiedSince = condition_row (codes "us") Moment

-- all conditions, in byte order of their short names
abbrev pub all_conditions : List Condition
all_conditions =
    CreatedAfter ∷ CreatedBefore ∷ ExpireAfter ∷ ExpireBefore ∷ Usage ∷ OneLabel ∷ Limit ∷
    ModifiedSince ∷ StateTagBigger ∷ StateTagSmaller ∷ SizeAbove ∷ SizeBelow ∷ OneType ∷
    UnmodifiedSince ∷ []

-- The short name of a condition (TS-0004, 8.2.5).
abbrev pub name_of_condition : Condition → List ℕ
name_of_condition condition = (row_of_condition condition).name

-- The sort of value that a condition takes.
abbrev pub sort_of_condition : Condition → Sort
sort_of_condition condition = (row_of_condition condition).sort

-- the condition of a short name
abbrev pub condition_named : List ℕ → Option Condition
condition_named name =
    find (λ condition. bytes_eq (name_of_condition condition) name) all_conditions

-- the value is of the sort
abbrev pub is_of : Sort → Data → Bool
is_of Moment d = is_some (read_moment d)
is_of Count d = is_some (as_count d)
is_of Labels d = list_all is_label (alternatives d)
is_of Types d = list_all (λ d. is_some (read_type_number d)) (alternatives d)
is_of Use d = is_some (read_usage d)

-- the member is a condition, and its value of the sort of it
abbrev pub is_condition : Entry → Bool
is_condition e =
    option_map_or (λ condition. is_of (sort_of_condition condition) e.1)
    (condition_named e.0) false

-- an object of conditions
abbrev pub is_filter : Data → Bool
is_filter d = option_map_or (λ es. list_all is_condition es) (as_object d) false

-- ---- the fields of a filter

-- what a filter has of a condition of each sort
abbrev pub ValueOf : Sort → Type 0
ValueOf Moment = Option ℕ
ValueOf Count = Option ℕ
ValueOf Labels = List (List ℕ)
ValueOf Types = List ℕ
ValueOf Use = Option FilterUsage

-- a field: what a filter has there, and the filter that has something else there
pub record FilterField (A : Type 0) : Type 0 where
  pub value : FilterParts → A
  pub with_value : A → FilterParts → FilterParts

abbrev pub field_by : {A : Type 0} → (FilterParts → A) → (A → FilterParts → FilterParts)
    → FilterField A
field_by value with_value = record { value = value; with_value = with_value }

-- the field of a condition
abbrev pub filter_field : (condition : Condition)
    → FilterField (ValueOf (sort_of_condition condition))
filter_field CreatedAfter = field_by (λ f. f.cra) (λ at f. record f { cra = at })
filter_field CreatedBefore = field_by (λ f. f.crb) (λ at f. record f { crb = at })
filter_field ExpireAfter = field_by (λ f. f.exa) (λ at f. record f { exa = at })
filter_field ExpireBefore = field_by (λ f. f.exb) (λ at f. record f { exb = at })
filter_field Usage = field_by (λ f. f.fu) (λ usage f. record f { fu = usage })
filter_field OneLabel = field_by (λ f. f.lbl) (λ labels f. record f { lbl = labels })
filter_field Limit = field_by (λ f. f.lim) (λ n f. record f { lim = n })
filter_field ModifiedSince = field_by (λ f. f.ms) (λ at f. record f { ms = at })
filter_field StateTagBigger = field_by (λ f. f.stb) (λ n f. record f { stb = n })
filter_field StateTagSmaller = field_by (λ f. f.sts) (λ n f. record f { sts = n })
filter_field SizeAbove = field_by (λ f. f.sza) (λ n f. record f { sza = n })
filter_field SizeBelow = field_by (λ f. f.szb) (λ n f. record f { szb = n })
filter_field OneType = field_by (λ f. f.ty) (λ types f. record f { ty = types })
filter_field UnmodifiedSince = field_by (λ f. f.us) (λ at f. record f { us = at })

-- what a filter has of a condition
abbrev pub asked_of : (condition : Condition) → FilterParts → ValueOf (sort_of_condition condition)
asked_of condition f = (filter_field condition).value f

-- The relation holds of what the filter has of each condition.
abbrev pub OfEachCondition : ((sort : Sort) → ValueOf sort → Type 0) → FilterParts → Type 0
OfEachCondition Holds f =
    AllByRecursion (λ condition. Holds (sort_of_condition condition) (asked_of condition f))
    all_conditions

-- a filter without conditions
abbrev pub no_conditions : FilterParts
no_conditions = record {
  crb = None;
  cra = None;
  ms = None;
  us = None;
  sts = None;
  stb = None;
  exb = None;
  exa = None;
  lbl = [];
  ty = [];
  sza = None;
  szb = None;
  fu = None;
  lim = None;
}

-- ---- the filter that the members make

-- the labels of the value at `lbl`, if there is one
abbrev pub labels_of : Option Data → List (List ℕ)
labels_of d = option_map_or (all_of label_of) d []

-- what the value of a condition of each sort is read as, if there is one
abbrev pub read_of_sort : (sort : Sort) → Option Data → ValueOf sort
read_of_sort Moment d = option_and_then read_moment d
read_of_sort Count d = option_and_then as_count d
read_of_sort Labels d = labels_of d
read_of_sort Types d = option_map_or (all_of read_type_number) d []
read_of_sort Use d = option_and_then read_usage d

-- the value at the name of a condition
abbrev pub value_for : Condition → List Entry → Option Data
value_for condition es = member_of (name_of_condition condition) es

-- what the members say of a condition
abbrev pub said_of : (condition : Condition) → List Entry → ValueOf (sort_of_condition condition)
said_of condition es = read_of_sort (sort_of_condition condition) (value_for condition es)

-- the filter that has of each condition what the members say of it
abbrev pub filter_in : List Entry → FilterParts
filter_in es =
    fold (λ f condition. (filter_field condition).with_value (said_of condition es) f) no_conditions
    all_conditions

-- the filter with these labels in place of its own
abbrev pub relabelled : List (List ℕ) → FilterParts → FilterParts
relabelled labels f = (filter_field OneLabel).with_value labels f
