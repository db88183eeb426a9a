-- A resource with another value of an attribute that copies don't have, and another last change.
use Rattle.std.specs.Prelude.{if◌then◌else◌}
use Rattle.std.proofs.Common.{◌≡◌, ℕ, List, Bool, true, false, ◌||◌, bytes_eq, Option, Some, None, inl, inr, refl, sym, ap, ◌∙◌, subst}
use Rattle.std.proofs.lemmas.Bool.{cases_Bool, false_from_ne_true}
use Rattle.std.proofs.lemmas.Option.{same_Some}
use Rattle.std.specs.List.{AllByRecursion, list_any}
use Rattle.std.specs.Option.{option_or}
use Rattle.attribute_kinds.specs.Kinds.{is_cse_id, is_content}
use Rattle.m2m_names.specs.Attributes.{attr_short}
use Rattle.m2m_names.specs.declared.attributes.Attr.{Attr}
use Rattle.m2m_names.specs.declared.attributes.Attr.TheVariants.{Aa, At, Et, Lbl}
use Rattle.m2m_names.specs.declared.types.Ty.{Ty}
use Rattle.m2m_value.specs.Data.{Data}
use Rattle.m2m_value.specs.Shapes.{is_text_of}
use Rattle.policy_eval.specs.Rules.{is_attr_in, listed_in, texts_of}
use Rattle.resource_model.proofs.AttributeLemmas.{is_attr-same, is_attr-itself, value-with_value_same, value-with_value_other}
use Rattle.resource_model.specs.Attributes.{is_attr, value_of, with_value}
use Rattle.resource_model.specs.Home.{HomeData}
use Rattle.resource_model.specs.Resource.{ResourceData}
use Rattle.announce_copy.specs.Announced.{always_announced, announceable_attrs, announced_value, default_value, is_announced, lists_attr}
use Rattle.announce_copy.specs.Peers.{listed_peers}
use Rattle.tree_model.proofs.MarkLemmas.{marked}
use Rattle.copy_laws.proofs.TextLemmas.{not_both}
use Rattle.copy_laws.specs.Following.{IsAlike, IsKept, common_value, value_in_copy}

-- it isn't in a copy, and says nothing of what is announced, nor to whom
pub record IsBeside (a : Attr) : Type 0 where
  pub aa : is_attr Aa a ≡ false
  pub at : is_attr At a ≡ false
  pub lbl : is_attr Lbl a ≡ false
  pub unannounced : (ty : Ty) → is_attr_in (announceable_attrs ty) a ≡ false

module _ (a : Attr) (beside : IsBeside a) (d : Data) (lt : ℕ) (r : ResourceData) where
  abbrev turned : ResourceData
  turned = marked a d lt r

  other_value : (b : Attr) → is_attr b a ≡ false → value_of b turned.attrs ≡ value_of b r.attrs
  other_value b apart = value-with_value_other a b d r.attrs (λ e. not_both (is_attr b a) (ap (λ (c : Attr). is_attr c a) e ∙ is_attr-itself a) apart)

  same_peers : listed_peers turned ≡ listed_peers r
  same_peers = ap (λ (o : Option Data). texts_of (listed_in o)) (other_value At beside.at)

  same_lists : (b : Attr) → lists_attr turned b ≡ lists_attr r b
  same_lists b = ap (λ (o : Option Data). list_any (is_text_of (bytes_eq (attr_short b))) (listed_in o)) (other_value Aa beside.aa)

  same_announced : (b : Attr) → is_attr b a ≡ false → announced_value turned b ≡ announced_value r b
  same_announced b apart =
      ap (λ c. if is_attr_in always_announced b || c then option_or (value_of b turned.attrs) (default_value b) else None) (same_lists b)
      ∙ ap (λ (o : Option Data). if is_announced r b then option_or o (default_value b) else None) (other_value b apart)

  pub marked_kept : is_content d ≡ true → IsKept r → IsKept turned
  marked_kept content kept = record {
    number = kept.number;
    parent = kept.parent;
    peers = subst (AllByRecursion (λ (peer : List ℕ). is_cse_id peer ≡ true)) (sym same_peers) kept.peers;
    values = λ attr v is. elim (cases_Bool (is_attr attr a)) [
      | inl t ↦
          let own : value_of attr turned.attrs ≡ Some d = ap (λ (c : Attr). value_of c turned.attrs) (is_attr-same attr a t) ∙ value-with_value_same a d r.attrs in
          let same : d ≡ v = same_Some d v (sym own ∙ is) in
          ap is_content (sym same) ∙ content
      | inr f ↦ kept.values attr v (sym (other_value attr f) ∙ is)
    ];
  }

  module _ (home : HomeData) where
    same_common : (b : Attr) → common_value home turned b ≡ common_value home r b
    same_common b = elim (cases_Bool (is_attr b Et)) [
      | inl et ↦ rw et refl
      | inr none ↦ elim (cases_Bool (is_attr b Lbl)) [
        | inl lbl ↦ rw (none, lbl) (other_value Lbl beside.lbl)
        | inr other ↦ rw (none, other) refl
      ]
    ]

    same_copy : (b : Attr) → value_in_copy home turned b ≡ value_in_copy home r b
    same_copy b = elim (cases_Bool (is_attr_in (announceable_attrs r.ty) b)) [
      | inl can ↦
          let apart : is_attr b a ≡ false = false_from_ne_true _ (λ t.
          not_both (is_attr_in (announceable_attrs r.ty) b) can (ap (is_attr_in (announceable_attrs r.ty)) (is_attr-same b a t) ∙ beside.unannounced r.ty)) in
          ap (λ c. if c then announced_value turned b else common_value home turned b) can
          ∙ same_announced b apart
          ∙ sym (ap (λ c. if c then announced_value r b else common_value home r b) can)
      | inr cannot ↦
          ap (λ c. if c then announced_value turned b else common_value home turned b) cannot
          ∙ same_common b
          ∙ sym (ap (λ c. if c then announced_value r b else common_value home r b) cannot)
    ]

-- its copies are as they were
pub marked_alike : (home : HomeData) (a : Attr) → IsBeside a → (d : Data) (lt : ℕ) (r : ResourceData) → IsAlike home r (marked a d lt r)
marked_alike home a beside d lt r = record {
  number = refl;
  ty = refl;
  parent = refl;
  peers = sym (same_peers a beside d lt r);
  values = λ attr other. sym (same_copy a beside d lt r home attr);
}
