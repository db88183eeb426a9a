-- What the conditions of a filter look at.
use Rattle.sight_laws.proofs.Words.{◌≡◌, ℕ, List, Bool, true, false, ◌||◌, Option, Some, None, cond, refl, sym, ap, ◌∙◌, length, ◌==◌, option_and_then, list_all, list_any, option_map_or}
use Rattle.sight_laws.proofs.Terms.{ty_row, Cs, Lbl, St, Ty, ContentInstance, Data, as_list, FilterParts, value_of, ResourceData, is_ty, due, is_over_bound, is_under_bound, is_from_bound, is_that_label, meets}
use Rattle.m2m_value.specs.Shapes.{as_count}
use Rattle.filter_criteria.specs.Conditions.{all_conditions}
use Rattle.filter_criteria.specs.declared.condition.Condition.{Condition}
use Rattle.filter_criteria.specs.declared.condition.Condition.TheVariants.{Limit, Usage, CreatedAfter, CreatedBefore, ExpireAfter, ExpireBefore, ModifiedSince, OneLabel, OneType, SizeAbove, SizeBelow, StateTagBigger, StateTagSmaller, UnmodifiedSince}

abbrev count_in : Option Data → Option ℕ
count_in d = option_and_then as_count d

abbrev label_in : Option Data → List ℕ → Bool
label_in d label = option_map_or (list_any (is_that_label label)) (option_and_then as_list d) false

abbrev size_by : Option Data → Ty → Option ℕ
size_by d ty = cond (is_ty ty ContentInstance) (count_in d) None

abbrev holds_by : FilterParts → ℕ → ℕ → Option ℕ → Option Data → Option Data → Option Data → Ty → Condition → Bool
holds_by f ct lt moment st cs lbl ty CreatedBefore = is_under_bound f.crb (Some ct)
holds_by f ct lt moment st cs lbl ty CreatedAfter = is_over_bound f.cra (Some ct)
holds_by f ct lt moment st cs lbl ty ModifiedSince = is_over_bound f.ms (Some lt)
holds_by f ct lt moment st cs lbl ty UnmodifiedSince = is_under_bound f.us (Some lt)
holds_by f ct lt moment st cs lbl ty StateTagSmaller = is_under_bound f.sts (count_in st)
holds_by f ct lt moment st cs lbl ty StateTagBigger = is_over_bound f.stb (count_in st)
holds_by f ct lt moment st cs lbl ty ExpireBefore = is_under_bound f.exb moment
holds_by f ct lt moment st cs lbl ty ExpireAfter = is_over_bound f.exa moment
holds_by f ct lt moment st cs lbl ty OneLabel = (length f.lbl == 0) || list_any (label_in lbl) f.lbl
holds_by f ct lt moment st cs lbl ty OneType = (length f.ty == 0) || list_any (λ n. n == (ty_row ty).number) f.ty
holds_by f ct lt moment st cs lbl ty SizeAbove = is_from_bound f.sza (size_by cs ty)
holds_by f ct lt moment st cs lbl ty SizeBelow = is_under_bound f.szb (size_by cs ty)
holds_by f ct lt moment st cs lbl ty Usage = true
holds_by f ct lt moment st cs lbl ty Limit = true

abbrev met_by : FilterParts → ℕ → ℕ → Option ℕ → Option Data → Option Data → Option Data → Ty → Bool
met_by f ct lt moment st cs lbl ty = list_all (holds_by f ct lt moment st cs lbl ty) all_conditions

meets_is : (nodes : List ResourceData) (f : FilterParts) (r : ResourceData) → meets nodes f r ≡ met_by f r.ct r.lt (due nodes r) (value_of St r.attrs) (value_of Cs r.attrs) (value_of Lbl r.attrs) r.ty
meets_is nodes f r = refl

-- two resources are alike by what the conditions look at
pub record LooksAlike (more nodes : List ResourceData) (s r : ResourceData) : Type 0 where
  pub ct : s.ct ≡ r.ct
  pub lt : s.lt ≡ r.lt
  pub moment : due more s ≡ due nodes r
  pub st : value_of St s.attrs ≡ value_of St r.attrs
  pub cs : value_of Cs s.attrs ≡ value_of Cs r.attrs
  pub lbl : value_of Lbl s.attrs ≡ value_of Lbl r.attrs
  pub ty : s.ty ≡ r.ty

pub meets-alike : (more nodes : List ResourceData) (f : FilterParts) (s r : ResourceData) → LooksAlike more nodes s r → meets more f s ≡ meets nodes f r
meets-alike more nodes f s r same =
    let lbl = value_of Lbl s.attrs in
    let cs = value_of Cs s.attrs in
    let st = value_of St s.attrs in
    meets_is more f s
    ∙ ap (λ x. met_by f x s.lt (due more s) st cs lbl s.ty) same.ct
    ∙ ap (λ x. met_by f r.ct x (due more s) st cs lbl s.ty) same.lt
    ∙ ap (λ x. met_by f r.ct r.lt x st cs lbl s.ty) same.moment
    ∙ ap (λ x. met_by f r.ct r.lt (due nodes r) x cs lbl s.ty) same.st
    ∙ ap (λ x. met_by f r.ct r.lt (due nodes r) (value_of St r.attrs) x lbl s.ty) same.cs
    ∙ ap (λ x. met_by f r.ct r.lt (due nodes r) (value_of St r.attrs) (value_of Cs r.attrs) x s.ty) same.lbl
    ∙ ap (met_by f r.ct r.lt (due nodes r) (value_of St r.attrs) (value_of Cs r.attrs) (value_of Lbl r.attrs)) same.ty
    ∙ sym (meets_is nodes f r)
