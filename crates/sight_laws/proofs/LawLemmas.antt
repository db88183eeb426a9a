-- What holds on a resource holds on that of a number.
use Rattle.sight_laws.proofs.Words.{◌≡◌, ℕ, List, true, Option, Some, None, option_map, refl, sym, ap, subst, ◌∙◌, option_map_or}
use Rattle.sight_laws.proofs.Terms.{NotFound, Create, Update, RequestParts, ResourceData, at, seen, EntityData, Effect, on_found, fault_at, fault_on, told_effect_at, told_effect_on}
use Rattle.sight_laws.proofs.Facts.{at_number, at-seen}
use Rattle.m2m_names.specs.declared.operations.Op.{Op}
use Rattle.sight_laws.specs.Laws.{CreatesAreSeenAlike, RuleUpdatesKeepOneShape, UpdatesAreSeenAlike}
use Rattle.equal_sights.specs.Sight.{sight}
use Rattle.sight_laws.proofs.CreatedLemmas.{created-alike}
use Rattle.sight_laws.proofs.ShapeUpdateLemmas.{updated_at-shaped}
use Rattle.sight_laws.proofs.UpdateAlikeLemmas.{updated-alike}
use Rattle.sight_laws.proofs.SeenAlikeLemmas.{AreSeenAlike, FoundAlike, found_alike, found_both, not_found}

pub refusal_seen : (op : Op) (e : EntityData) (o : List ℕ) (request : RequestParts) (n : ℕ) → ((r : ResourceData) → at r.number e.nodes ≡ Some r → fault_on op (sight o e) o request (seen e.home e.nodes o r) ≡ fault_on op e o request r) → fault_at op (sight o e) o request n ≡ fault_at op e o request n
refusal_seen op e o request n same = ap (λ (p : Option ResourceData). option_map_or (fault_on op (sight o e) o request) p (Some NotFound)) (at-seen e.home e.nodes o n) ∙ by (at n e.nodes) refl
  where
    by : (p : Option ResourceData) → at n e.nodes ≡ p → option_map_or (fault_on op (sight o e) o request) (option_map (seen e.home e.nodes o) p) (Some NotFound) ≡ option_map_or (fault_on op e o request) p (Some NotFound)
    by None none = refl
    by (Some r) found = same r (ap (λ (m : ℕ). at m e.nodes) (at_number n e.nodes r found) ∙ found)

-- what comes of the operation on the resource of a number
module _ (op : Op) (o : List ℕ) (x y : EntityData) (request : RequestParts) (n : ℕ) (same : sight o x ≡ sight o y) (on : (p q : ResourceData) → at p.number x.nodes ≡ Some p → at q.number y.nodes ≡ Some q → q.number ≡ p.number → AreSeenAlike o (told_effect_on op x o request p) (told_effect_on op y o request q)) where
  abbrev at_x : Option ResourceData → Effect
  at_x p = on_found x request (told_effect_on op x o request) p

  abbrev at_y : Option ResourceData → Effect
  at_y q = on_found y request (told_effect_on op y o request) q

  found_so : (p q : Option ResourceData) → at n x.nodes ≡ p → at n y.nodes ≡ q → AreSeenAlike o (at_x p) (at_y q) → AreSeenAlike o (told_effect_at op x o request n) (told_effect_at op y o request n)
  found_so p q first second alike =
      subst (λ (r : Option ResourceData). AreSeenAlike o (at_x r) (told_effect_at op y o request n)) (sym first)
      (subst (λ (r : Option ResourceData). AreSeenAlike o (at_x p) (at_y r)) (sym second) alike)

  by : FoundAlike o x y same n → AreSeenAlike o (told_effect_at op x o request n) (told_effect_at op y o request n)
  by (not_found none lacks) = found_so None None none lacks (record { reply = refl; after = same })
  by (found_both p q inx iny) =
      let np = at_number n x.nodes p inx in
      let nq = at_number n y.nodes q iny in
      found_so (Some p) (Some q) inx iny
      (on p q (ap (λ (m : ℕ). at m x.nodes) np ∙ inx) (ap (λ (m : ℕ). at m y.nodes) nq ∙ iny) (nq ∙ sym np))

  pub at_alike : AreSeenAlike o (told_effect_at op x o request n) (told_effect_at op y o request n)
  at_alike = by (found_alike o x y same n)

pub create_at_alike : CreatesAreSeenAlike
create_at_alike x y o request n soundx soundy same originator =
    let alike = at_alike Create o x y request n same (λ p q inx iny number. created-alike o x y soundx soundy same request p q inx iny number originator) in
    (alike.reply, alike.after)

pub update_at_alike : UpdatesAreSeenAlike
update_at_alike x y o request n soundx soundy same calm =
    let alike = at_alike Update o x y request n same (λ p q inx iny number. updated-alike o x y soundx soundy same request p q inx iny number calm) in
    (alike.reply, alike.after)

pub rules_at_alike : RuleUpdatesKeepOneShape
rules_at_alike x y o request n soundx soundy same rules =
    let alike = updated_at-shaped o x y soundx soundy same request rules n in
    (alike.reply, alike.after)
