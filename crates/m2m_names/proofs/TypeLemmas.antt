-- The table of types.
use Rattle.std.proofs.Common.{◌≡◌, eq-eqb, ap, refl, Bool, eqb, Some}
use Rattle.std.specs.Bool.{Decides}
use Rattle.std.specs.List.{list_any}
use Rattle.std.proofs.lemmas.Bool.{eqb-true}
use Rattle.std.proofs.lemmas.Bool.Decides.{Decides-by_or}
use Rattle.std.proofs.lemmas.List.Elements.{Decides-contains}
use Rattle.m2m_names.proofs.LookupLemmas.{same_key}
use Rattle.m2m_names.specs.declared.types.Ty.{Ty}
use Rattle.m2m_names.specs.declared.types.Ty.TheVariants.{AccessControlPolicy, Ae, Container, ContentInstance, CseBase, Group, PollingChannel, RemoteCse, Subscription, AccessControlPolicyAnnc, AeAnnc, ContainerAnnc, ContentInstanceAnnc, GroupAnnc}
use Rattle.m2m_names.specs.Types.{ty_row, ty_of_number, ty_of_word, does_take, Takes}

-- each type is found at its number
pub ty_again : (ty : Ty) → ty_of_number (ty_row ty).number ≡ Some ty
ty_again AccessControlPolicy = refl
ty_again Ae = refl
ty_again Container = refl
ty_again ContentInstance = refl
ty_again CseBase = refl
ty_again Group = refl
ty_again PollingChannel = refl
ty_again RemoteCse = refl
ty_again Subscription = refl
ty_again AccessControlPolicyAnnc = refl
ty_again AeAnnc = refl
ty_again ContainerAnnc = refl
ty_again ContentInstanceAnnc = refl
ty_again GroupAnnc = refl

-- types with one number are one type
pub same_type : (a b : Ty) → (ty_row a).number ≡ (ty_row b).number → a ≡ b
same_type = same_key (λ ty. (ty_row ty).number) ty_of_number ty_again

same_number : (child ty : Ty) → Decides (eqb (ty_row ty).number (ty_row child).number) (ty ≡ child)
same_number child ty =
    (λ e. same_type ty child (eqb-true (ty_row ty).number (ty_row child).number e), λ e. eq-eqb _ _ (ap (λ t. (ty_row t).number) e))

-- the test by numbers tells whether the type is among those that the parent takes
pub does_take-Takes : (parent child : Ty) → Decides (does_take parent child) (Takes parent child)
does_take-Takes parent child =
    let p : Ty → Bool = λ ty. eqb (ty_row ty).number (ty_row child).number in
    let types = (ty_row parent).takes in
    Decides-contains types child (list_any p types)
    (Decides-by_or p (λ ty. ty ≡ child) (list_any p) (same_number child) refl (λ _ _. refl) types)

-- each type is found at its word
pub ty_of_word-word : (ty : Ty) → ty_of_word (ty_row ty).word ≡ Some ty
ty_of_word-word AccessControlPolicy = refl
ty_of_word-word Ae = refl
ty_of_word-word Container = refl
ty_of_word-word ContentInstance = refl
ty_of_word-word CseBase = refl
ty_of_word-word Group = refl
ty_of_word-word PollingChannel = refl
ty_of_word-word RemoteCse = refl
ty_of_word-word Subscription = refl
ty_of_word-word AccessControlPolicyAnnc = refl
ty_of_word-word AeAnnc = refl
ty_of_word-word ContainerAnnc = refl
ty_of_word-word ContentInstanceAnnc = refl
ty_of_word-word GroupAnnc = refl
