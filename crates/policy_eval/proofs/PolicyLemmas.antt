-- Policies by the numbers in their resource ids.
use Rattle.std.specs.Prelude.{nat_eq, codes}
use Rattle.std.proofs.Common.{cond, ◌≡◌, ◌≢◌, ℕ, suc, Bool, true, false, List, [], ◌∷◌, ◌++◌, take, drop, Option, Some, None, inl, inr, refl, sym, ap, ◌∙◌, arith}
use Rattle.std.proofs.lemmas.Bool.{cases_Bool, eqb-true}
use Rattle.std.specs.Char.{is_ascii_digit}
use Rattle.std.specs.Fmt.{decimal}
use Rattle.std.specs.Option.{option_and_then, option_map}
use Rattle.std.specs.Str.{bytes_eq}
use Rattle.m2m_names.specs.Ids.{id_parts, is_written, number_from, number_written, word_len}
use Rattle.m2m_names.specs.Types.{ty_of_word, ty_row}
use Rattle.m2m_names.specs.declared.types.Ty.{Ty}
use Rattle.m2m_names.specs.declared.types.Ty.TheVariants.{AccessControlPolicy, AccessControlPolicyAnnc}
use Rattle.m2m_names.proofs.IdLemmas.{id_text-id_parts}
use Rattle.m2m_names.proofs.TypeLemmas.{same_type}
use Rattle.m2m_value.specs.Data.{Data}
use Rattle.m2m_value.specs.View.{as_text}
use Rattle.resource_model.specs.Resource.{ResourceData, is_ty}
use Rattle.tree_model.specs.Tree.{at, of_type, typed_at}
use Rattle.policy_eval.specs.Rules.{policy_at, policy_named, policy_number, policy_of}

-- the number of an id, where it is that of a policy
abbrev if_policy : Ty × ℕ → Option ℕ
if_policy p = cond (is_ty p.0 AccessControlPolicy) (Some p.1) None

-- ---- the policy that an id names is that of its number

is_policy : (t : Ty) → is_ty t AccessControlPolicy ≡ true → t ≡ AccessControlPolicy
is_policy t is = same_type t AccessControlPolicy (eqb-true (ty_row t).number (ty_row AccessControlPolicy).number is)

typed_twice : (o : Option ResourceData) → option_and_then (of_type AccessControlPolicy) (option_and_then (of_type AccessControlPolicy) o) ≡ option_and_then (of_type AccessControlPolicy) o
typed_twice None = refl
typed_twice (Some r) = elim (cases_Bool (is_ty r.ty AccessControlPolicy)) [
  | inl t ↦ rw (t, t) refl
  | inr f ↦ rw f refl
]

-- what is of another type is no policy
typed_apart : (t : Ty) → is_ty t AccessControlPolicy ≡ false → (o : Option ResourceData) → option_and_then (of_type AccessControlPolicy) (option_and_then (of_type t) o) ≡ None
typed_apart t other None = refl
typed_apart t other (Some r) = elim (cases_Bool (is_ty r.ty t)) [
  | inl same ↦
      let no : is_ty r.ty AccessControlPolicy ≡ false = ap (λ n. nat_eq n (ty_row AccessControlPolicy).number) (eqb-true (ty_row r.ty).number (ty_row t).number same) ∙ other in
      rw (same, no) refl
  | inr f ↦ rw f refl
]

-- The policy that an id names is that of the number in the id.
pub named_as_numbered : (nodes : List ResourceData) (id : List ℕ) → policy_named nodes id ≡ option_and_then (policy_at nodes) (policy_number id)
named_as_numbered nodes id = by (id_parts id)
  where
    by : (o : Option (Ty × ℕ)) → option_and_then (of_type AccessControlPolicy) (option_and_then (λ (p : Ty × ℕ). typed_at p.0 p.1 nodes) o) ≡ option_and_then (policy_at nodes) (option_and_then if_policy o)
    by None = refl
    by (Some p) = elim (cases_Bool (is_ty p.0 AccessControlPolicy)) [
      | inl t ↦
          ap (λ ty. option_and_then (of_type AccessControlPolicy) (typed_at ty p.1 nodes)) (is_policy p.0 t)
          ∙ typed_twice (at p.1 nodes)
          ∙ ap (λ b. option_and_then (policy_at nodes) (cond b (Some p.1) None)) (sym t)
      | inr f ↦
          typed_apart p.0 f (at p.1 nodes)
          ∙ ap (λ b. option_and_then (policy_at nodes) (cond b (Some p.1) None)) (sym f)
    ]

-- The policy that a value names, by the number in it.
pub policy_as_numbered : (nodes : List ResourceData) (d : Data) → policy_of nodes d ≡ option_and_then (policy_at nodes) (option_and_then policy_number (as_text d))
policy_as_numbered nodes d = by (as_text d)
  where
    by : (t : Option (List ℕ)) → option_and_then (policy_named nodes) t ≡ option_and_then (policy_at nodes) (option_and_then policy_number t)
    by None = refl
    by (Some text) = named_as_numbered nodes text

-- ---- the number in the id of a policy

policy_kept : (m : Option ℕ) → option_and_then if_policy (option_map (λ n. (AccessControlPolicy, n)) m) ≡ m
policy_kept None = refl
policy_kept (Some n) = refl

copy_gone : (m : Option ℕ) → option_and_then if_policy (option_map (λ n. (AccessControlPolicyAnnc, n)) m) ≡ None
copy_gone None = refl
copy_gone (Some n) = refl

-- no longer word is that of policies
longer_word : (d : ℕ) (w : List ℕ) (m : Option ℕ) → option_and_then if_policy (option_and_then (λ ty. option_map (λ n. (ty, n)) m) (ty_of_word (codes "acp" ++ d ∷ w))) ≡ None
longer_word d w m = elim (cases_Bool (bytes_eq (codes "A") (d ∷ w))) [
  | inl t ↦ rw t (copy_gone m)
  | inr f ↦ rw f refl
]

-- digits spell a number, and nothing else does
no_digit : (b : Bool) (d : ℕ) (ds : List ℕ) → is_ascii_digit d ≡ false → cond b (number_from 0 (d ∷ ds)) None ≡ None
no_digit true d ds f = rw f refl
no_digit false d ds f = refl

-- Behind the word of policies an id has the digits of its number.
pub number_behind : (rest : List ℕ) → policy_number (codes "acp" ++ rest) ≡ number_written rest
number_behind [] = refl
number_behind (d ∷ ds) = elim (cases_Bool (is_ascii_digit d)) [
  | inl t ↦
      let len : word_len text ≡ 3 = rw t refl in
      ap given len ∙ policy_kept (number_written (d ∷ ds))
  | inr f ↦
      let len : word_len text ≡ suc (suc (suc (suc (word_len ds)))) = rw f (omega arith) in
      ap given len
      ∙ longer_word d (take (word_len ds) ds) (number_written (drop (word_len ds) ds))
      ∙ sym (no_digit (is_written (d ∷ ds)) d ds f)
]
  where
    text : List ℕ
    text = codes "acp" ++ d ∷ ds

    given : ℕ → Option ℕ
    given k = option_and_then if_policy (option_and_then (λ ty. option_map (λ n. (ty, n)) (number_written (drop k text))) (ty_of_word (take k text)))

-- what an id with a policy's number begins with
word_first : (text : List ℕ) (o : Option (Ty × ℕ)) → id_parts text ≡ o → ((rest : List ℕ) → text ≢ codes "acp" ++ rest) → option_and_then if_policy o ≡ None
word_first text None is apart = refl
word_first text (Some p) is apart = elim (cases_Bool (is_ty p.0 AccessControlPolicy)) [
  | inl t ↦
      let spelled : (ty_row p.0).word ++ decimal p.1 ≡ text = id_text-id_parts text p.0 p.1 is in
      absurd (apart (decimal p.1) (sym spelled ∙ ap (λ ty. (ty_row ty).word ++ decimal p.1) (is_policy p.0 t)))
  | inr f ↦ rw f refl
]

-- No other text is the id of a policy.
pub number_apart : (text : List ℕ) → ((rest : List ℕ) → text ≢ codes "acp" ++ rest) → policy_number text ≡ None
number_apart text apart = word_first text (id_parts text) refl apart
