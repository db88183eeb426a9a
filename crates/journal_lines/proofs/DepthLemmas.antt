-- How deep the values of a list nest, one after another.
use Rattle.std.proofs.Common.{◌≡◌, ℕ, suc, ◌+◌, ◌-◌, ◌<◌, ◌≤◌, max, nat_le, nat_lt, List, [], Some, None, length, drop, get_or, Bool, true, false, ◌&&◌, refl, sym, ap, ◌∙◌, arith, inl, inr, le-leb}
use Rattle.std.proofs.lemmas.List.{drop_more}
use Rattle.m2m_value.specs.Data.{Data, Entry, null, boolean, number, text, list, object, depth, elements_depth, elements_of, pairs_depth, pairs_of}
use Rattle.m2m_value.specs.View.{as_list, as_object}
use Rattle.m2m_value.proofs.Levels.{list_seen, object_seen}
use Rattle.std.proofs.lemmas.Bool.{cases_Bool, leb-true, ltb-true}
use Rattle.std.proofs.lemmas.Bool.Decides.{nat_tests}

-- both, where the first is no deeper
pub depth_both : (a b most : ℕ) → nat_le (max a b) most ≡ nat_le a most && nat_le b most
depth_both a b most = grind (arith, nat_tests)

-- one level down
pub depth_down : (n most : ℕ) → 0 < most → nat_le (suc n) most ≡ nat_le n (most - 1)
depth_down n most some = grind (arith, nat_tests)

pub depth_none : (n most : ℕ) → most ≤ 0 → nat_le (suc n) most ≡ false
depth_none n most none = grind (arith, nat_tests)

-- what stands from a place on is what stands there, and then the rest
pub items_from : (values : List Data) (i : ℕ) (most : ℕ) → i < length values
    → nat_le (elements_depth (elements_of (drop i values))) most
    ≡ nat_le (depth (get_or values i null)) most && nat_le (elements_depth (elements_of (drop (i + 1) values))) most
items_from values i most within =
    ap (λ ds. nat_le (elements_depth (elements_of ds)) most) (drop_more values i null within)
    ∙ depth_both (depth (get_or values i null)) (elements_depth (elements_of (drop (i + 1) values))) most

pub members_from : (es : List Entry) (i : ℕ) (most : ℕ) → i < length es
    → nat_le (pairs_depth (pairs_of (drop i es))) most
    ≡ nat_le (depth (get_or es i ([], null)).1) most && nat_le (pairs_depth (pairs_of (drop (i + 1) es))) most
members_from es i most within =
    ap (λ ds. nat_le (pairs_depth (pairs_of ds)) most) (drop_more es i ([], null) within)
    ∙ depth_both (depth (get_or es i ([], null)).1) (pairs_depth (pairs_of (drop (i + 1) es))) most

-- how deep a value is that is a list, one that is an object, and one that is neither
pub depth_list : (d : Data) (ds : List Data) → as_list d ≡ Some ds → depth d ≡ suc (elements_depth (elements_of ds))
depth_list d ds is = ap depth (list_seen d ds is)

pub depth_object : (d : Data) (es : List Entry) → as_object d ≡ Some es → depth d ≡ suc (pairs_depth (pairs_of es))
depth_object d es is = ap depth (object_seen d es is)

pub depth_alone : (d : Data) → as_list d ≡ None → as_object d ≡ None → depth d ≡ 0
depth_alone null no_list no_object = refl
depth_alone (boolean b) no_list no_object = refl
depth_alone (number z) no_list no_object = refl
depth_alone (text s) no_list no_object = refl
depth_alone (list es) no_list no_object = cc
depth_alone (object ps) no_list no_object = cc

pub ruleset depth_rules = (depth_down, depth_none, depth_list, depth_object, depth_alone)
