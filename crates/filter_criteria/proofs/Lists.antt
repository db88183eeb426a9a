-- Lists that grow by one, and the alternatives of a condition.
use Rattle.std.proofs.Common.{◌≡◌, ℕ, ◌+◌, ◌<◌, ◌==◌, false, List, [], ◌∷◌, ◌++◌, length, bytes_eq, take, get_or, Option, Some, None, append-nil, append_assoc, refl, ap, ◌∙◌}
use Rattle.std.proofs.lemmas.Bool.{both_ways, eq-eqb, false_from_ne_true}
use Rattle.std.proofs.lemmas.List.{take_more}
use Rattle.std.proofs.lemmas.Slice.Eq.{bytes_eq-Decides}
use Rattle.std.proofs.lemmas.List.Elements.{filter_map-append}
use Rattle.std.specs.List.{AllByRecursion, cons_option, filter_map}
use Rattle.m2m_value.specs.Data.{Data, null, boolean, number, text, list, object}
use Rattle.m2m_value.specs.View.{as_list}
use Rattle.m2m_value.proofs.Levels.{elements-elements_of, list_seen}
use Rattle.filter_criteria.specs.Conditions.{alternatives}

pub all_push : {X : Type 0} (P : X → Type 0) (xs : List X) (x : X) → AllByRecursion P xs → P x → AllByRecursion P (xs ++ x ∷ [])
all_push P [] x h one = (one, tt)
all_push P (y ∷ xs) x h one = (h.0, all_push P xs x h.1 one)

pub filter_map-more : {X Y : Type 0} (f : X → Option Y) (xs : List X) (i : ℕ) (d : X) → i < length xs → filter_map f (take (i + 1) xs) ≡ filter_map f (take i xs) ++ filter_map f (get_or xs i d ∷ [])
filter_map-more f xs i d within = ap (filter_map f) (take_more xs i d within) ∙ filter_map-append f (take i xs) (get_or xs i d ∷ [])

next : {Y : Type 0} (ys : List Y) (o : Option Y) (zs : List Y) → (ys ++ cons_option o []) ++ zs ≡ ys ++ cons_option o zs
next ys None zs = ap (λ l. l ++ zs) (append-nil ys)
next ys (Some y) zs = append_assoc ys (y ∷ []) zs

-- what is taken of the next, and of those behind it
pub filter_map-next : {X Y : Type 0} (f : X → Option Y) (ys : List Y) (x : X) (rest : List X) → (ys ++ filter_map f (x ∷ [])) ++ filter_map f rest ≡ ys ++ filter_map f (x ∷ rest)
filter_map-next f ys x rest = next ys (f x) (filter_map f rest)

-- bytes of which there aren't as many are others
pub lengths_apart : (xs ys : List ℕ) → (length xs == length ys) ≡ false → bytes_eq xs ys ≡ false
lengths_apart xs ys apart = false_from_ne_true _ (λ same. both_ways _ apart (eq-eqb (length xs) (length ys) (ap length ((bytes_eq-Decides xs ys).0 same))))

-- the alternatives of what is seen as a list are its elements, and what isn't is alone
pub alternatives_of_list : (d : Data) (ds : List Data) → as_list d ≡ Some ds → alternatives d ≡ ds
alternatives_of_list d ds seen = ap alternatives (list_seen d ds seen) ∙ elements-elements_of ds

pub alternative : (d : Data) → as_list d ≡ None → alternatives d ≡ d ∷ []
alternative null seen = refl
alternative (boolean b) seen = refl
alternative (number z) seen = refl
alternative (text s) seen = refl
alternative (list es) seen = cc
alternative (object ps) seen = refl

pub ruleset alternatives_rules = (alternatives_of_list, alternative)
