-- Names and identifiers are texts.
use Rattle.std.proofs.Common.{◌≡◌, ℕ, List, ◌++◌, true, bytes_eq, IfOk, IsUtf8, Result, inl, inr, refl, sym, subst}
use Rattle.std.proofs.lemmas.Bool.{cases_Bool}
use Rattle.std.proofs.lemmas.Result.{IfOk-weaker}
use Rattle.std.proofs.lemmas.Str.{IsUtf8-append}
use Rattle.m2m_names.specs.Name.{is_originator, originator_limit}
use Rattle.m2m_names.proofs.NameLemmas.{graphic_is_utf8, printable_is_utf8}
use Rattle.request_rules.specs.Creation.{ae_stem, c_stem, s_stem}

originator_is_text : (o : List ℕ) → is_originator o ≡ true → IsUtf8 o
originator_is_text o is = printable_is_utf8 originator_limit o is

pub text_of_originator : {E : Type 0} (o : List ℕ) (r : Result (List ℕ) E) → is_originator o ≡ true → IfOk r (λ t. t ≡ o) → IfOk r (λ t. IsUtf8 t)
text_of_originator o r is told = IfOk-weaker r (λ t. t ≡ o) (λ t. IsUtf8 t) (λ t same. subst IsUtf8 (sym same) (originator_is_text o is)) told

stem_is_text : (o : List ℕ) → IsUtf8 (ae_stem o)
stem_is_text o = elim (cases_Bool (bytes_eq o s_stem)) [
  | inl t ↦ rw t (graphic_is_utf8 s_stem refl)
  | inr f ↦ rw f (graphic_is_utf8 c_stem refl)
]

pub stem_before : (o id t : List ℕ) → IsUtf8 id → t ≡ ae_stem o ++ id → IsUtf8 t
stem_before o id t text is = subst IsUtf8 (sym is) (IsUtf8-append (ae_stem o) id (stem_is_text o) text)
