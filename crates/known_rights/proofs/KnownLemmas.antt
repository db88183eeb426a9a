-- What is known of bits, once more is known.
use Rattle.std.proofs.Common.{◌≡◌, ℕ, List, [], ◌∷◌, ◌++◌, Option, Some, None, option_map, inl, inr, refl, sym, ap, subst, ◌∙◌}
use Rattle.std.proofs.lemmas.List.Elements.{Contains-push_cases}
use Rattle.std.proofs.lemmas.Option.{same_Some}
use Rattle.std.specs.List.{Contains}
use Rattle.std.specs.Int.RustNames.{bit_or}
use Rattle.std.specs.Option.{option_and_then, option_map_or}
use Rattle.m2m_names.specs.declared.attributes.Attr.TheVariants.{Acpi, Pv}
use Rattle.m2m_value.specs.Data.{Data}
use Rattle.m2m_value.specs.View.{as_text}
use Rattle.resource_model.specs.Attributes.{value_of}
use Rattle.resource_model.specs.Home.{HomeData}
use Rattle.resource_model.specs.Resource.{ResourceData}
use Rattle.tree_model.specs.Tree.{at}
use Rattle.tree_model.proofs.TreeLemmas.{at_number}
use Rattle.known_rights.specs.Known.{IsRead}
use Rattle.known_rights.specs.declared.known.ReadList.{ReadList}
use Rattle.known_rights.specs.Tables.{AreBits, AreLent, NotesOrStays, lent_rules, rules_by_id}
use Rattle.known_rights.proofs.BesidesLemmas.{rules_besides}
use Rattle.policy_eval.specs.Rights.{bits_by, with_rule, with_rules}
use Rattle.policy_eval.specs.Rules.{Rule, ids_at, listed_in, policy_at, policy_number, policy_of, rules_by}
use Rattle.policy_eval.proofs.PolicyLemmas.{policy_as_numbered}

-- a table with the bits of one more resource
pub bits_noted : (rules : ResourceData → List Rule) (home : HomeData) (nodes : List ResourceData) (o : List ℕ) (old new : List (ℕ × ℕ)) (r : ResourceData) (number bits : ℕ) → AreBits rules home nodes o old → at r.number nodes ≡ Some r → number ≡ r.number → bits ≡ bits_by home o (rules r) → NotesOrStays old new number bits → AreBits rules home nodes o new
bits_noted rules home nodes o old new r number bits had there is gives puts s b stands e = elim puts [
  | inl noted ↦ elim (Contains-push_cases old (number, bits) (s.number, b) (subst (λ (t : List (ℕ × ℕ)). Contains t (s.number, b)) noted e)) [
    | inl before ↦ had s b stands before
    | inr same ↦
        let at_one : r.number ≡ s.number = sym is ∙ ap (λ (p : ℕ × ℕ). p.0) same in
        let one : r ≡ s = same_Some r s (sym there ∙ ap (λ n. at n nodes) at_one ∙ stands) in
        sym (ap (λ (p : ℕ × ℕ). p.1) same) ∙ gives ∙ ap (λ q. bits_by home o (rules q)) one
  ]
  | inr stays ↦ had s b stands (subst (λ (t : List (ℕ × ℕ)). Contains t (s.number, b)) stays e)
]

-- what a number finds is found by its own
pub at_itself : (n : ℕ) (nodes : List ResourceData) (r : ResourceData) → at n nodes ≡ Some r → at r.number nodes ≡ Some r
at_itself n nodes r found = ap (λ k. at k nodes) (at_number n nodes r found) ∙ found

-- ---- policies by their ids

-- a table with the bits of one more policy
pub lent_noted : (home : HomeData) (nodes : List ResourceData) (o : List ℕ) (old new : List (ℕ × ℕ)) (n : ℕ) (p : ResourceData) → AreLent home nodes o old → policy_at nodes n ≡ Some p → NotesOrStays old new n (bits_by home o (lent_rules p)) → AreLent home nodes o new
lent_noted home nodes o old new n p had found puts m b e = elim puts [
  | inl noted ↦ elim (Contains-push_cases old (n, bits_by home o (lent_rules p)) (m, b) (subst (λ (t : List (ℕ × ℕ)). Contains t (m, b)) noted e)) [
    | inl before ↦ had m b before
    | inr same ↦
        ap (λ k. option_map (λ q. bits_by home o (lent_rules q)) (policy_at nodes k)) (sym (ap (λ (q : ℕ × ℕ). q.0) same))
        ∙ ap (option_map (λ q. bits_by home o (lent_rules q))) found
        ∙ ap (λ (q : ℕ × ℕ). Some q.1) same
  ]
  | inr stays ↦ had m b (subst (λ (t : List (ℕ × ℕ)). Contains t (m, b)) stays e)
]

-- the policy that an id names, by the number in the id
pub named_by : (nodes : List ResourceData) (id : Data) (n : ℕ) → option_and_then policy_number (as_text id) ≡ Some n → policy_of nodes id ≡ policy_at nodes n
named_by nodes id n numbered = policy_as_numbered nodes id ∙ ap (option_and_then (policy_at nodes)) numbered

-- an id without a policy's number gives nothing
pub gives_nothing : (home : HomeData) (nodes : List ResourceData) (o : List ℕ) (id : Data) (bits : ℕ) → option_and_then policy_number (as_text id) ≡ None → bits ≡ with_rules home o bits (rules_by_id nodes id)
gives_nothing home nodes o id bits none =
    ap (λ (found : Option ResourceData). with_rules home o bits (option_map_or lent_rules found [])) (sym (policy_as_numbered nodes id ∙ ap (option_and_then (policy_at nodes)) none))

-- what a policy gives that an id names
pub policy_gives : (home : HomeData) (nodes : List ResourceData) (o : List ℕ) (id : Data) (n : ℕ) (found : Option ResourceData) (bits : ℕ) → option_and_then policy_number (as_text id) ≡ Some n → found ≡ policy_at nodes n → with_rules home o bits (option_map_or lent_rules found []) ≡ with_rules home o bits (rules_by_id nodes id)
policy_gives home nodes o id n found bits numbered is =
    ap (λ (f : Option ResourceData). with_rules home o bits (option_map_or lent_rules f [])) (is ∙ sym (named_by nodes id n numbered))

-- what is known of the policy that an id names is what it gives
given_by : (home : HomeData) (o : List ℕ) (found : Option ResourceData) (bits own : ℕ) → option_map (λ p. bits_by home o (lent_rules p)) found ≡ Some own → bit_or bits own ≡ with_rules home o bits (option_map_or lent_rules found [])
given_by home o None bits own e = absurd (let none : None ≡ Some own = e in cc)
given_by home o (Some p) bits own e =
    ap (bit_or bits) (sym (same_Some (bits_by home o (lent_rules p)) own e)) ∙ sym (rules_besides home o bits (lent_rules p))

pub known_gives : (home : HomeData) (nodes : List ResourceData) (o : List ℕ) (table : List (ℕ × ℕ)) (id : Data) (n bits own : ℕ) → AreLent home nodes o table → Contains table (n, own) → option_and_then policy_number (as_text id) ≡ Some n → bit_or bits own ≡ with_rules home o bits (rules_by_id nodes id)
known_gives home nodes o table id n bits own lent has numbered =
    given_by home o (policy_at nodes n) bits own (lent n own has)
    ∙ policy_gives home nodes o id n (policy_at nodes n) bits numbered refl

with_rules-append : (home : HomeData) (o : List ℕ) (bits : ℕ) (xs ys : List Rule) → with_rules home o bits (xs ++ ys) ≡ with_rules home o (with_rules home o bits xs) ys
with_rules-append home o bits [] ys = refl
with_rules-append home o bits (x ∷ xs) ys = with_rules-append home o (with_rule home o bits x) xs ys

-- the rules of the policies that ids name are those of the first, and then those of the others
pub one_id_more : (home : HomeData) (o : List ℕ) (nodes : List ResourceData) (bits : ℕ) (id : Data) (ids : List Data) → with_rules home o (with_rules home o bits (rules_by_id nodes id)) (rules_by Pv nodes ids) ≡ with_rules home o bits (rules_by Pv nodes (id ∷ ids))
one_id_more home o nodes bits id ids = by (policy_of nodes id) refl
  where
    by : (found : Option ResourceData) → policy_of nodes id ≡ found → with_rules home o (with_rules home o bits (option_map_or lent_rules found [])) (rules_by Pv nodes ids) ≡ with_rules home o bits (rules_by Pv nodes (id ∷ ids))
    by None is = rw is refl
    by (Some p) is = rw is (sym (with_rules-append home o bits (lent_rules p) (rules_by Pv nodes ids)))

-- ---- the list that was read last

-- who has that list has the bits that it gave
pub read_again : (home : HomeData) (nodes : List ResourceData) (o : List ℕ) (last : Option ReadList) (read : ReadList) (r : ResourceData) (lent acpi : Data) → IsRead home nodes o last → last ≡ Some read → at read.number nodes ≡ Some r → value_of Acpi r.attrs ≡ Some lent → lent ≡ acpi → read.bits ≡ bits_by home o (rules_by Pv nodes (listed_in (Some acpi)))
read_again home nodes o last read r lent acpi known is there value one =
    let known_now : IsRead home nodes o (Some read) = subst (IsRead home nodes o) is known in
    known_now r there
    ∙ ap (λ (v : Option Data). bits_by home o (rules_by Pv nodes (listed_in v))) (value ∙ ap Some one)

-- what was read of one is what its list gives
pub list_read : (home : HomeData) (nodes : List ResourceData) (o : List ℕ) (r : ResourceData) (acpi : Data) (read : ReadList) → at r.number nodes ≡ Some r → value_of Acpi r.attrs ≡ Some acpi → read.number ≡ r.number → read.bits ≡ bits_by home o (rules_by Pv nodes (listed_in (Some acpi))) → IsRead home nodes o (Some read)
list_read home nodes o r acpi read there value is gives s stands =
    let one : r ≡ s = same_Some r s (sym there ∙ ap (λ (n : ℕ). at n nodes) (sym is) ∙ stands) in
    gives
    ∙ ap (λ (v : Option Data). bits_by home o (rules_by Pv nodes (listed_in v))) (sym value)
    ∙ ap (λ (q : ResourceData). bits_by home o (rules_by Pv nodes (ids_at Acpi q))) one
