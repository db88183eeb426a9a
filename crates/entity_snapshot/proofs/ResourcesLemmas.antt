-- Resources that are put into a tree one after another.
use Rattle.std.proofs.Common.{◌≡◌, ℕ, ◌+◌, ◌<◌, ◌≤◌, List, [], ◌∷◌, ◌++◌, length, take, drop, ◌-◌, Bool, true, false, ◌&&◌, Option, Some, None, option_map, IfSome, refl, sym, ap, ◌∙◌, subst, append_assoc}
use Rattle.std.proofs.lemmas.Bool.{and_parts, both_ways, false_from_ne_true}
use Rattle.std.proofs.lemmas.List.{append-nil, take_rest}
use Rattle.resource_model.specs.Resource.{ResourceData}
use Rattle.tree_model.specs.Tree.{fits_in, grows, is_well_formed}
use Rattle.tree_model.proofs.GrowthLemmas.{fits_parts, next_fits}
use Rattle.tree_model.proofs.KeptLemmas.{is_well_formed-append}
use Rattle.entity_lines.specs.Resources.{first_resource}
use Rattle.entity_snapshot.proofs.EachLemmas.{read_more, read_next, read_none}
use Rattle.entity_snapshot.specs.Reading.{FitsNone, PutsFirst, ReadsEach, ReadsResources, StopsInResources, resource_len, resources_in}

-- none is put yet
pub put_none : (text : List ℕ) (from : ℕ) → from ≤ length text → ReadsResources text from 0 from []
put_none text from within = record { each = read_none first_resource resource_len text from within; well = refl }

-- where no resource is found, none fits
pub none_found : (text : List ℕ) (before : List ResourceData) (found : Option (ResourceData × ℕ)) → ((x : ResourceData × ℕ) → found ≡ Some x → ⊥) → option_map (λ (f : ResourceData × ℕ). f.0) found ≡ first_resource text → FitsNone text before
none_found text before None not_some is = λ r read. absurd (none_some r (is ∙ read))
  where
    none_some : (r : ResourceData) → None ≡ Some r → ⊥
    none_some r e = cc
none_found text before (Some x) not_some is = λ r read. absurd (not_some x refl)

-- where the one that is found doesn't fit, none does
pub none_fits : (text : List ℕ) (before : List ResourceData) (r : ResourceData) → first_resource text ≡ Some r → fits_in before r ≡ false → FitsNone text before
none_fits text before r found unfit s read =
    let both : Some r ≡ Some s = sym found ∙ read in
    let same : r ≡ s = cc in
    ap (fits_in before) (sym same) ∙ unfit

-- the first line behind a place is put
pub put_there : (text : List ℕ) (at : ℕ) (found : Option ℕ) (len : ℕ) (before after : List ResourceData) → found ≡ Some len → IfSome found (λ n. PutsFirst (take (length text - at) (drop at text)) n before after) → PutsFirst (drop at text) len before after
put_there text at found len before after is said =
    let there : List ℕ = take (length text - at) (drop at text) in
    subst (λ (l : List ℕ). PutsFirst l len before after) (take_rest text at) (subst (λ (o : Option ℕ). IfSome o (λ n. PutsFirst there n before after)) is said)

-- one more is put
pub put_more : (text : List ℕ) (from done at len : ℕ) (before after : List ResourceData) → ReadsResources text from done at before → PutsFirst (drop at text) len before after → ReadsResources text from (done + 1) (at + len) after
put_more text from done at len before after has puts = record {
  each = subst (ReadsEach first_resource resource_len text from (done + 1) (at + len)) (sym puts.put) (read_more first_resource resource_len text from done at before has.each puts.resource len puts.found puts.size puts.within);
  well = (let fits = fits_parts before puts.resource puts.fits in subst (λ (rs : List ResourceData). is_well_formed rs ≡ true) (sym puts.put) (is_well_formed-append before puts.resource has.well (next_fits before puts.resource fits.stands) fits.taken));
}

-- each of a list that grows fits behind those before it
fits_there : (before xs : List ResourceData) (r : ResourceData) (ys : List ResourceData) → grows fits_in before (xs ++ r ∷ ys) ≡ true → fits_in (before ++ xs) r ≡ true
fits_there before [] r ys grew =
    let parts = and_parts (fits_in before r) _ grew in
    ap (λ (l : List ResourceData). fits_in l r) (append-nil before) ∙ parts.0
fits_there before (x ∷ xs) r ys grew =
    let parts = and_parts (fits_in before x) _ grew in
    ap (λ (l : List ResourceData). fits_in l r) (sym (append_assoc before (x ∷ []) xs)) ∙ fits_there (before ++ x ∷ []) xs r ys parts.1

-- where none fits, the lines of so many aren't those of a tree
pub no_resources : (text : List ℕ) (from count place : ℕ) → StopsInResources text from count place → (rs : List ResourceData) → resources_in count (drop from text) ≡ Some rs → is_well_formed rs ≡ false
no_resources text from count place stops rs whole =
    let next = read_next first_resource resource_len text from stops.done place stops.nodes stops.read.each count rs stops.few whole in
    let unfit = stops.none next.0 next.2 in
    false_from_ne_true (is_well_formed rs) (λ well. both_ways _ unfit (fits_there [] stops.nodes next.0 next.1 (subst (λ (l : List ResourceData). is_well_formed l ≡ true) next.3 well)))
