-- Texts that are compared with an originator by its full form.
use Rattle.std.specs.Prelude.{nat_eq}
use Rattle.std.proofs.Common.{◌≡◌, ℕ, List, ◌++◌, ◌&&◌, Bool, true, false, length, drop, inl, inr, refl, sym, ap, ◌∙◌}
use Rattle.std.proofs.lemmas.Bool.{cases_Bool}
use Rattle.std.proofs.lemmas.Bool.Decides.{Decides-eqb}
use Rattle.std.proofs.lemmas.Slice.Eq.{starts_is}
use Rattle.std.specs.List.{starts_with}
use Rattle.std.specs.Str.{bytes_eq}
use Rattle.std.specs.Prelude.{codes}
use Rattle.resource_model.specs.Home.{HomeData}
use Rattle.policy_eval.specs.Originators.{full_form, is_front, is_same}
use Rattle.policy_eval.proofs.FormLemmas.{front_apart, front_behind, same_apart, same_behind}
use Rattle.known_rights.specs.Askers.{AskerData, IsFormOf, own_start}

-- the full form of a text
pub form_itself : (home : HomeData) (text : List ℕ) → starts_with nat_eq text (codes "/") ≡ true → full_form home text ≡ text
form_itself home text t = rw t refl

pub form_behind : (home : HomeData) (text : List ℕ) → starts_with nat_eq text (codes "/") ≡ false → full_form home text ≡ own_start home ++ text
form_behind home text f = rw f refl

-- what begins with a word is that word and what stands behind it
behind_start : (form start : List ℕ) → starts_with nat_eq form start ≡ true → form ≡ start ++ drop (length start) form
behind_start form start t = (starts_is Decides-eqb form start (starts_with nat_eq form start) refl).0 t

-- a text with a slash is compared with the form, and else with what stands behind own CSE-ID
pub same_with_slash : (a : AskerData) (form own text : List ℕ) (is_own : Bool) → IsFormOf a form is_own own → starts_with nat_eq text (codes "/") ≡ true → is_same a.home a.originator text ≡ bytes_eq form text
same_with_slash a form own text is_own h t =
    ap (λ f. bytes_eq f (full_form a.home text)) (sym h.full) ∙ ap (bytes_eq form) (form_itself a.home text t)

pub same_without : (a : AskerData) (form own text : List ℕ) (is_own : Bool) → IsFormOf a form is_own own → starts_with nat_eq text (codes "/") ≡ false → is_same a.home a.originator text ≡ (is_own && bytes_eq own text)
same_without a form own text is_own h f =
    let start = own_start a.home in
    let one : is_same a.home a.originator text ≡ bytes_eq form (start ++ text) = ap (λ w. bytes_eq w (full_form a.home text)) (sym h.full) ∙ ap (bytes_eq form) (form_behind a.home text f) in
    elim (cases_Bool (starts_with nat_eq form start)) [
      | inl t ↦
          let split : form ≡ start ++ own = behind_start form start t ∙ ap (λ w. start ++ w) (sym h.rest) in
          let own_is : is_own ≡ true = h.starts ∙ t in
          one ∙ ap (λ w. bytes_eq w (start ++ text)) split ∙ same_behind start own text ∙ ap (λ b. b && bytes_eq own text) (sym own_is)
      | inr n ↦
          let own_is : is_own ≡ false = h.starts ∙ n in
          one ∙ same_apart start form text n ∙ ap (λ b. b && bytes_eq own text) (sym own_is)
    ]

pub front_with_slash : (a : AskerData) (form own text : List ℕ) (is_own : Bool) → IsFormOf a form is_own own → starts_with nat_eq text (codes "/") ≡ true → is_front a.home a.originator text ≡ starts_with nat_eq form text
front_with_slash a form own text is_own h t =
    ap (λ f. starts_with nat_eq f (full_form a.home text)) (sym h.full) ∙ ap (starts_with nat_eq form) (form_itself a.home text t)

pub front_without : (a : AskerData) (form own text : List ℕ) (is_own : Bool) → IsFormOf a form is_own own → starts_with nat_eq text (codes "/") ≡ false → is_front a.home a.originator text ≡ (is_own && starts_with nat_eq own text)
front_without a form own text is_own h f =
    let start = own_start a.home in
    let one : is_front a.home a.originator text ≡ starts_with nat_eq form (start ++ text) = ap (λ w. starts_with nat_eq w (full_form a.home text)) (sym h.full) ∙ ap (starts_with nat_eq form) (form_behind a.home text f) in
    elim (cases_Bool (starts_with nat_eq form start)) [
      | inl t ↦
          let split : form ≡ start ++ own = behind_start form start t ∙ ap (λ w. start ++ w) (sym h.rest) in
          let own_is : is_own ≡ true = h.starts ∙ t in
          one ∙ ap (λ w. starts_with nat_eq w (start ++ text)) split ∙ front_behind start own text ∙ ap (λ b. b && starts_with nat_eq own text) (sym own_is)
      | inr n ↦
          let own_is : is_own ≡ false = h.starts ∙ n in
          one ∙ front_apart start form text n ∙ ap (λ b. b && starts_with nat_eq own text) (sym own_is)
    ]
