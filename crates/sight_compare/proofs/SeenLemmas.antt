-- What is seen on two sides, as tests.
use Rattle.std.proofs.Common.{◌≡◌, ◌≢◌, ℕ, ◌+◌, List, [], ◌∷◌, ◌++◌, length, Bool, true, false, not, Option, Some, None, refl, ap, sym, ◌∙◌, subst, arith, length-append}
use Rattle.std.specs.Prelude.{◌==◌, ◌&&◌, pos, nat_abs, bytes_eq, is_some, IfSome, IfNone, codes, if◌then◌else◌}
use Rattle.std.specs.Cmp.Lexicographic.{pointwise}
use Rattle.std.specs.Bool.{Decides}
use Rattle.std.specs.List.{cons_option, filter_map}
use Rattle.std.specs.Option.{option_map}
use Rattle.std.proofs.lemmas.Bool.{and_left, false_from_ne_true}
use Rattle.std.proofs.lemmas.Bool.Decides.{Decides-eqb, same_from_decides}
use Rattle.std.specs.Cmp.{signed_Decides}
use Rattle.std.specs.Ordering.{int_eq}
use Rattle.std.proofs.lemmas.Slice.Eq.{bytes_eq-Decides}
use Rattle.m2m_names.specs.declared.attributes.Attr.{Attr}
use Rattle.m2m_names.specs.UrlReading.{host_end_at}
use Rattle.m2m_names.specs.Urls.{IsUrl}
use Rattle.m2m_names.proofs.UrlLemmas.{url_found, url_only}
use Rattle.m2m_value.specs.Data.{Data}
use Rattle.m2m_value.specs.Same.{same, same-Decides}
use Rattle.resource_model.specs.Attributes.{Row, same_row}
use Rattle.resource_model.specs.Home.{HomeData}
use Rattle.resource_model.specs.Resource.{ResourceData}
use Rattle.equal_sights.specs.Seen.{another, is_url, only_point, plain_rules}
use Rattle.equal_sights.specs.Seen.{hidden_value, seen, seen_ct, seen_et, seen_lt, seen_row}
use Rattle.sight_compare.specs.Looks.{ct_at, et_at, lt_at, same_times, shows}
use Rattle.sight_compare.specs.Same.{same_view}
use Rattle.sight_compare.specs.Shown.{IsGlance, row_at, value_at}
use Rattle.sight_compare.specs.declared.values.Glance.{Glance}
use Rattle.sight_compare.proofs.StandInLemmas.{and_true}

-- what a reader tells of a text
pub url_told : {A : Type 0} (text : List ℕ) (place : A → ℕ) (r : Option A) → IfSome r (λ p. IsUrl text (place p)) → IfNone r ((n : ℕ) → ¬ (IsUrl text n)) → is_some r ≡ is_url text
url_told text place (Some p) found none = ap is_some (sym (url_only text (place p) found))
url_told text place None found none = no_url (host_end_at text) refl
  where
    no_url : (o : Option ℕ) → host_end_at text ≡ o → false ≡ is_some (host_end_at text)
    no_url None is = ap is_some (sym is)
    no_url (Some n) is = absurd (none n (url_found text n is))

-- the test of two values is the same both ways round
pub same_turned : (a b : Data) → same a b ≡ same b a
same_turned a b =
    let ways = same-Decides b a in
    let back : Decides (same b a) (a ≡ b) = (λ h. sym (ways.0 h), λ e. ways.1 (sym e)) in
    same_from_decides (same a b) (same b a) (same-Decides a b) back

-- what stands in for hidden rules is the same where the bits are
same_bits : (a b : ℕ) → int_eq (pos a) (pos b) ≡ (a == b)
same_bits a b =
    let bits = Decides-eqb a b in
    let signed : Decides (a == b) (pos a ≡ pos b) = (λ h. ap pos (bits.0 h), λ e. bits.1 (ap nat_abs e)) in
    same_from_decides (int_eq (pos a) (pos b)) (a == b) (signed_Decides (pos a) (pos b)) signed

pub rules_same : (a b : ℕ) → same (plain_rules a) (plain_rules b) ≡ (a == b)
rules_same a b =
    let x : Bool = int_eq (pos a) (pos b) in
    and_true ((x && true) && true) ∙ and_true (x && true) ∙ and_true x ∙ same_bits a b

-- and what stands in for hidden points of access where the URLs are
pub points_same : (u v : List ℕ) → same (only_point u) (only_point v) ≡ bytes_eq u v
points_same u v = and_true (bytes_eq u v)

-- what is known of two values that are seen
pub ruleset seen_values = (same_turned, rules_same, points_same)

-- ---- the owner, as it is seen

abbrev owner_by : List ℕ → Bool → List ℕ
owner_by o owns = if owns then o else another o

alike : (o : List ℕ) → bytes_eq o o ≡ true
alike o = (bytes_eq-Decides o o).1 refl

longer : (o : List ℕ) → o ≢ another o
longer o e =
    let long : length o ≡ length o + 1 = ap length e ∙ length-append o (codes " ") in
    omega (arith, long)

apart : (o : List ℕ) → bytes_eq o (another o) ≡ false
apart o = false_from_ne_true _ (λ h. longer o ((bytes_eq-Decides o (another o)).0 h))

apart_back : (o : List ℕ) → bytes_eq (another o) o ≡ false
apart_back o = false_from_ne_true _ (λ h. longer o (sym ((bytes_eq-Decides (another o) o).0 h)))

owned_both : (o : List ℕ) (b : Bool) → b ≡ bytes_eq o (owner_by o b)
owned_both o true = sym (alike o)
owned_both o false = sym (apart o)

owned_neither : (o : List ℕ) (b : Bool) → not b ≡ bytes_eq (another o) (owner_by o b)
owned_neither o true = sym (apart_back o)
owned_neither o false = sym (alike (another o))

-- an owner on one side, and who is judged on the other
pub owned : (o p : List ℕ) (a b x y : Bool) → o ≡ p → x ≡ a → x ≡ true → y ≡ b → y ≡ bytes_eq (owner_by o a) (owner_by p b)
owned o p a b x y one is here other =
    other ∙ owned_both o b
    ∙ ap (λ (v : Bool). bytes_eq (owner_by o v) (owner_by o b)) (sym here ∙ is)
    ∙ ap (λ (q : List ℕ). bytes_eq (owner_by o a) (owner_by q b)) one

-- and who is none
pub unowned : (o p : List ℕ) (a b x y : Bool) → o ≡ p → x ≡ a → x ≡ false → y ≡ b → not y ≡ bytes_eq (owner_by o a) (owner_by p b)
unowned o p a b x y one is there other =
    ap not other ∙ owned_neither o b
    ∙ ap (λ (v : Bool). bytes_eq (owner_by o v) (owner_by o b)) (sym there ∙ is)
    ∙ ap (λ (q : List ℕ). bytes_eq (owner_by o a) (owner_by q b)) one

-- ---- rows

-- a row that is seen stands in front of those behind it
pub row_seen : (g : Glance) (a : Attr) (d v : Data) (rows : List Row) → value_at g a d ≡ Some v → filter_map (row_at g) ((a, d) ∷ rows) ≡ (a, v) ∷ filter_map (row_at g) rows
row_seen g a d v rows seen =
    ap (λ (o : Option Data). cons_option (option_map (λ (x : Data). (a, x)) o) (filter_map (row_at g) rows)) seen

-- and one that isn't is left out
pub row_hidden : (g : Glance) (a : Attr) (d : Data) (rows : List Row) → value_at g a d ≡ None → filter_map (row_at g) ((a, d) ∷ rows) ≡ filter_map (row_at g) rows
row_hidden g a d rows hidden =
    ap (λ (o : Option Data). cons_option (option_map (λ (x : Data). (a, x)) o) (filter_map (row_at g) rows)) hidden

-- ---- a resource at a glance

-- the moments and the rows of a glance are those that are seen
module _ (home : HomeData) (nodes : List ResourceData) (o : List ℕ) (r : ResourceData) (g : Glance) (at : IsGlance home nodes o r g) where
  ct_seen : ct_at g.look g.resource.now ≡ seen_ct home nodes o r
  ct_seen = λ i. ct_at (at.look_is i) (at.resource_is i)

  lt_seen : lt_at g.look g.resource.now ≡ seen_lt home nodes o r
  lt_seen = λ i. lt_at (at.look_is i) (at.resource_is i)

  et_seen : et_at nodes g.look g.resource.now ≡ seen_et home nodes o r
  et_seen = λ i. et_at nodes (at.look_is i) (at.resource_is i)

  rows_seen : (rows : List Row) → filter_map (row_at g) rows ≡ filter_map (seen_row home nodes o r) rows
  rows_seen rows =
      λ i. filter_map (λ (row : Row). option_map (λ (d : Data). (row.0, d))
      (if shows (at.look_is i) (at.resource_is i) row.0 then Some row.1
      else hidden_value (at.home_is i) (at.originator_is i) (at.resource_is i) row.0 row.1)) rows

-- what two glances show
module _ (home beside : HomeData) (nodes others : List ResourceData) (o p : List ℕ) (r s : ResourceData) (g h : Glance) (at : IsGlance home nodes o r g) (by : IsGlance beside others p s h) where
  abbrev times : Bool
  times = same_times nodes g.look g.resource.now others h.look h.resource.now

  times_seen : times ≡ ((seen_ct home nodes o r == seen_ct beside others p s) && (seen_lt home nodes o r == seen_lt beside others p s) && (seen_et home nodes o r == seen_et beside others p s))
  times_seen =
      λ i. (ct_seen home nodes o r g at i == ct_seen beside others p s h by i)
      && (lt_seen home nodes o r g at i == lt_seen beside others p s h by i)
      && (et_seen home nodes o r g at i == et_seen beside others p s h by i)

  pub view_same : (time rows : Bool) → time ≡ times → rows ≡ pointwise same_row (filter_map (row_at g) r.attrs) (filter_map (row_at h) s.attrs)
      → (time && rows) ≡ same_view (seen home nodes o r) (seen beside others p s)
  view_same time rows t e =
      ap (λ (b : Bool). b && rows) (t ∙ times_seen)
      ∙ ap (λ (b : Bool). ((seen_ct home nodes o r == seen_ct beside others p s) && (seen_lt home nodes o r == seen_lt beside others p s) && (seen_et home nodes o r == seen_et beside others p s)) && b)
      (e ∙ (λ i. pointwise same_row (rows_seen home nodes o r g at r.attrs i) (rows_seen beside others p s h by s.attrs i)))

  -- where the moments differ, the rest needn't be looked at
  pub view_apart : (time : Bool) → time ≡ times → time ≡ false → false ≡ same_view (seen home nodes o r) (seen beside others p s)
  view_apart time t differ =
      let rows = pointwise same_row (filter_map (row_at g) r.attrs) (filter_map (row_at h) s.attrs) in
      sym (and_left time rows differ) ∙ view_same time rows t refl
