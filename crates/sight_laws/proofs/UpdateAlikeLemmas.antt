-- Two sound entities of which an originator sees the same are seen alike after its Update.
use Rattle.sight_laws.proofs.Words.{nat_eq, unwrap_or, ◌≡◌, ℕ, List, [], ◌∷◌, true, false, Bool, Option, Some, None, inl, inr, refl, sym, ap, subst, ◌∙◌, list_any, option_map_or}
use Rattle.sight_laws.proofs.Terms.{Attr, Rsc, Updated, Update, Ty, ContentInstance, CseBase, Entry, RequestParts, HomeData, ResourceData, is_ty, update_changes, at, is_well_formed, replaced, grants, update_bit, NewValue, ShowNoMore, changed, has_bit, seen, seen_list, notes_of_all, nodes_spent, DraftParts, EntityData, refused, reply_to, wanted_content, IsSoundEntity, fault_on, content_for, named_by, named_for, is_relink, may_do, changes_by, named_attrs, nodes_updated, pushed_by, updated_resource, without_all, IsReplacement, gone_numbers, told_effect_by, told_effect_on, IsUpdatable}
use Rattle.sight_laws.proofs.Facts.{both_ways, cases_Bool, not-true, or_parts, is_well_formed-replaced, replace-same, without-same, places_parts, updating_changes, updating_gone, names_link, replacement, updatable, updates_attributes, sound_updated}
use Rattle.sight_laws.specs.Laws.{changes_rules, names_rules}
use Rattle.equal_sights.specs.Sight.{sight}
use Rattle.sight_laws.proofs.PlacesLemmas.{update_refused}
use Rattle.sight_laws.proofs.RuleEditLemmas.{calm_for}
use Rattle.sight_laws.proofs.SeenAlikeLemmas.{AreSeenAlike, same_home, same_last, same_seen, seen_same, spent_alike}
use Rattle.sight_laws.proofs.ToldLemmas.{for_whom, numbers_told_all, sound_counts, update_seen, whom_all}
use Rattle.sight_laws.proofs.UpdateSeenLemmas.{changes_judge_none, changes_of, changes_seen, content_seen, new_expiry, pushed_seen, updated_changed}

-- ---- an update that no place refuses, by which everyone is judged as before

pub record IsDoneCalmly (e : EntityData) (o : List ℕ) (request : RequestParts) (r : ResourceData) : Type 0 where
  pub may : IsUpdatable e (named_by Update request r) r
  pub right : may_do Update e o request r.number ≡ true
  pub bit : has_bit e.home e.nodes o update_bit r ≡ true

pub done_calmly : (e : EntityData) (o : List ℕ) (request : RequestParts) (r : ResourceData) → at r.number e.nodes ≡ Some r → changes_rules request ≡ false → fault_on Update e o request r ≡ None → IsDoneCalmly e o request r
done_calmly e o request r there calm none = by (content_for request r.ty) refl
  where
    right_is : may_do Update e o request r.number ≡ true
    right_is = (places_parts Update e o request r none).right

    by : (es : Option (List Entry)) → content_for request r.ty ≡ es → IsDoneCalmly e o request r
    by None lacks = absurd (updates_attributes e o request r none lacks)
    by (Some es) whole =
        let named : es ≡ named_by Update request r = sym (ap (λ (x : Option (List Entry)). unwrap_or x []) whole) in
        record {
          may = subst (λ (xs : List Entry). IsUpdatable e xs r) named (updatable e o request r es none there whole);
          right = right_is;
          bit = elim (cases_Bool (is_relink request)) [
            | inl links ↦
                let alone = names_link request r.ty es links whole in
                absurd (both_ways _ (ap names_rules named ∙ calm_for request calm r.ty) (ap names_rules alone.1))
            | inr f ↦
                let granted : grants e.home e.nodes o update_bit r.number ≡ true = rw f at right_is in
                (let here : has_bit e.home e.nodes o update_bit r ≡ true = rw there at granted in here)
          ];
        }

-- ---- what it replies

module _ (e : EntityData) (o : List ℕ) (request : RequestParts) (r : ResourceData) (there : at r.number e.nodes ≡ Some r) (calm : changes_rules request ≡ false) where
  update_reply : (told_effect_on Update (sight o e) o request (seen e.home e.nodes o r)).reply ≡ (told_effect_on Update e o request r).reply
  update_reply =
      ap (λ (f : Option Rsc). (option_map_or (refused (sight o e) request) f (told_effect_by Update (sight o e) o request (seen e.home e.nodes o r))).reply) (update_refused e o request r there)
      ∙ by (fault_on Update e o request r) refl
    where
      by : (f : Option Rsc) → fault_on Update e o request r ≡ f → (option_map_or (refused (sight o e) request) f (told_effect_by Update (sight o e) o request (seen e.home e.nodes o r))).reply ≡ (option_map_or (refused e request) f (told_effect_by Update e o request r)).reply
      by (Some fault) is = refl
      by None none =
          let done = done_calmly e o request r there calm none in
          ap (reply_to request Updated) (content_seen e o request r there done.right done.bit done.may.sorted done.may (wanted_content request.rcn))

-- ---- what it leaves

module _ (o : List ℕ) (e : EntityData) (sound : IsSoundEntity e) (request : RequestParts) (r : ResourceData) (there : at r.number e.nodes ≡ Some r) (calm : changes_rules request ≡ false) (done : IsDoneCalmly e o request r) where
  abbrev named : List Entry
  named = named_by Update request r

  abbrev now : ResourceData
  now = updated_resource e named r

  abbrev left : EntityData
  left = record e { nodes = nodes_updated e now }

  new : IsReplacement e now
  new = replacement e named r sound done.may

  pub left_sound : IsSoundEntity left
  left_sound = sound_updated e now sound new

  -- a list in which it is as it is now
  pub replaced_well : is_well_formed (replaced (updated_resource e (named_by Update request r) r) e.nodes) ≡ true
  replaced_well = is_well_formed-replaced now e.nodes new.stood ∙ sound.tree

  pub shows_no_more : ShowNoMore e.home e.nodes o r (changes_of e (named_by Update request r) r)
  shows_no_more = record {
    other = (or_parts (is_ty r.ty CseBase) (is_ty r.ty ContentInstance) (not-true _ done.may.kind)).1;
    free = changes_judge_none e named r done.may.sorted done.may (calm_for request calm r.ty);
    reach = λ some. done.bit;
  }

  -- whom it is told to
  pub whom : for_whom (notes_of_all left.home e.nodes (gone_numbers e left) (changes_by Update request r.number e left)) ≡ numbers_told_all (pushed_by e now) (seen_list e.home e.nodes o) (update_changes (seen_list e.home e.nodes o) r now (named_attrs request r) (pushed_by e now))
  whom =
      whom_all left.home e.nodes (gone_numbers e left) (changes_by Update request r.number e left)
      ∙ ap (λ (going : List ℕ). numbers_told_all going e.nodes (changes_by Update request r.number e left)) (updating_gone e sound now new)
      ∙ ap (numbers_told_all (pushed_by e now) e.nodes) (updating_changes e sound now new request r there)
      ∙ sym (update_seen e.home e.nodes o (pushed_by e now) r now (named_attrs request r))

-- ---- two entities

module _ (o : List ℕ) (x y : EntityData) (soundx : IsSoundEntity x) (soundy : IsSoundEntity y) (same : sight o x ≡ sight o y) (request : RequestParts) (p q : ResourceData) (inx : at p.number x.nodes ≡ Some p) (iny : at q.number y.nodes ≡ Some q) (number : q.number ≡ p.number) (calm : changes_rules request ≡ false) where
  seen_is : seen x.home x.nodes o p ≡ seen y.home y.nodes o q
  seen_is = seen_same o x y same p.number p q inx (ap (λ (n : ℕ). at n y.nodes) (sym number) ∙ iny)

  through : {X : Type 0} (f : EntityData → ResourceData → X) → f (sight o x) (seen x.home x.nodes o p) ≡ f x p → f (sight o y) (seen y.home y.nodes o q) ≡ f y q → f x p ≡ f y q
  through f first second =
      sym first
      ∙ ap (λ (e : EntityData). f e (seen x.home x.nodes o p)) same
      ∙ ap (f (sight o y)) seen_is
      ∙ second

  fault_same : fault_on Update x o request p ≡ fault_on Update y o request q
  fault_same = through (λ (e : EntityData) (r : ResourceData). fault_on Update e o request r) (update_refused x o request p inx) (update_refused y o request q iny)

  reply_same : (told_effect_on Update x o request p).reply ≡ (told_effect_on Update y o request q).reply
  reply_same = through (λ (e : EntityData) (r : ResourceData). (told_effect_on Update e o request r).reply) (update_reply x o request p inx calm) (update_reply y o request q iny calm)

  ty_same : p.ty ≡ q.ty
  ty_same = ap (λ (r : ResourceData). r.ty) seen_is

  module _ (mine : IsDoneCalmly x o request p) (theirs : IsDoneCalmly y o request q) where
    abbrev now_of : EntityData → ResourceData → ResourceData
    now_of e r = updated_resource e (named_by Update request r) r

    abbrev changes_by_it : EntityData → ResourceData → List NewValue
    changes_by_it e r = changes_of e (named_by Update request r) r

    abbrev pushed : EntityData → ResourceData → List ℕ
    pushed e r = pushed_by e (now_of e r)

    changes_same : changes_by_it x p ≡ changes_by_it y q
    changes_same = through changes_by_it (changes_seen x o request p inx mine.right mine.bit) (changes_seen y o request q iny theirs.right theirs.bit)

    pushed_same : pushed x p ≡ pushed y q
    pushed_same = through pushed (pushed_seen x o request p inx mine.right mine.bit) (pushed_seen y o request q iny theirs.right theirs.bit)

    abbrev ends : ResourceData → Option ℕ
    ends r = new_expiry (named_by Update request r)

    -- the second as the first is changed
    turned : changed (changes_by_it x p) (Some x.last) (ends p) q ≡ now_of y q
    turned =
        ap (λ (changes : List NewValue). changed changes (Some x.last) (ends p) q) changes_same
        ∙ ap (λ (m : ℕ). changed (changes_by_it y q) (Some m) (ends p) q) (same_last o x y same)
        ∙ ap (λ (ty : Ty). changed (changes_by_it y q) (Some y.last) (new_expiry (named_for request ty)) q) ty_same
        ∙ sym (updated_changed y (named_by Update request q) q)

    nodes_alike : seen_list x.home (nodes_updated x (now_of x p)) o ≡ seen_list y.home (nodes_updated y (now_of y q)) o
    nodes_alike =
        let gone = pushed x p in
        let first = changed (changes_by_it x p) (Some x.last) (ends p) p in
        let second = changed (changes_by_it x p) (Some x.last) (ends p) q in
        let is : now_of x p ≡ first = updated_changed x (named_by Update request p) p in
        let wellx : is_well_formed (replaced first x.nodes) ≡ true = ap (λ (c : ResourceData). is_well_formed (replaced c x.nodes)) (sym is) ∙ replaced_well o x soundx request p inx calm mine in
        let welly : is_well_formed (replaced second y.nodes) ≡ true = ap (λ (c : ResourceData). is_well_formed (replaced c y.nodes)) turned ∙ replaced_well o y soundy request q iny calm theirs in
        ap (λ (c : ResourceData). seen_list x.home (without_all gone (replaced c x.nodes)) o) is
        ∙ without-same x.home (replaced first x.nodes) (replaced second y.nodes) o (λ n. list_any (nat_eq n) gone) wellx welly
        (replace-same x.home x.nodes y.nodes o p.number p q (changes_by_it x p) (Some x.last) (ends p) soundx.tree soundy.tree inx (ap (λ (n : ℕ). at n y.nodes) (sym number) ∙ iny)
        (shows_no_more o x soundx request p inx calm mine) (same_seen o x y same))
        ∙ ap (λ (c : ResourceData). seen_list x.home (without_all gone (replaced c y.nodes)) o) turned
        ∙ ap (λ (going : List ℕ). seen_list x.home (without_all going (replaced (now_of y q) y.nodes)) o) pushed_same
        ∙ ap (λ (h : HomeData). seen_list h (nodes_updated y (now_of y q)) o) (same_home o x y same)

    abbrev left_of : EntityData → ResourceData → EntityData
    left_of e r = record e { nodes = nodes_updated e (now_of e r) }

    left_alike : sight o (left_of x p) ≡ sight o (left_of y q)
    left_alike =
        ap (λ (ns : List ResourceData). record (sight o x) { nodes = ns }) nodes_alike
        ∙ ap (λ (e : EntityData). record e { nodes = seen_list y.home (left_of y q).nodes o }) same

    abbrev drafts_of : EntityData → ResourceData → List DraftParts
    drafts_of e r = notes_of_all (left_of e r).home e.nodes (gone_numbers e (left_of e r)) (changes_by Update request r.number e (left_of e r))

    abbrev whom_of : List ResourceData → ℕ → List Attr → List ℕ → List ℕ
    whom_of nodes n attrs gone = numbers_told_all gone nodes (update_changes nodes p (record p { number = n }) attrs gone)

    whom_same : for_whom (drafts_of x p) ≡ for_whom (drafts_of y q)
    whom_same =
        whom o x soundx request p inx calm mine
        ∙ ap (λ (e : EntityData). whom_of e.nodes p.number (named_attrs request p) (pushed x p)) same
        ∙ ap (λ (n : ℕ). whom_of (seen_list y.home y.nodes o) n (named_attrs request p) (pushed x p)) (sym number)
        ∙ ap (λ (r : ResourceData). whom_of (seen_list y.home y.nodes o) q.number (named_attrs request r) (pushed x p)) seen_is
        ∙ ap (whom_of (seen_list y.home y.nodes o) q.number (named_attrs request q)) pushed_same
        ∙ sym (whom o y soundy request q iny calm theirs)

    done_alike : sight o (told_effect_by Update x o request p).after ≡ sight o (told_effect_by Update y o request q).after
    done_alike =
        let one = left_sound o x soundx request p inx calm mine in
        let other = left_sound o y soundy request q iny calm theirs in
        spent_alike o (left_of x p) (left_of y q) left_alike (drafts_of x p) (drafts_of y q) one.tree other.tree
        (sound_counts (left_of x p) one) (sound_counts (left_of y q) other) whom_same

  after_same : (fault : Option Rsc) → fault_on Update x o request p ≡ fault → sight o (option_map_or (refused x request) fault (told_effect_by Update x o request p)).after ≡ sight o (option_map_or (refused y request) fault (told_effect_by Update y o request q)).after
  after_same (Some fault) is = same
  after_same None none =
      done_alike (done_calmly x o request p inx calm none) (done_calmly y o request q iny calm (sym fault_same ∙ none))

  -- what comes of an Update of both is seen alike
  pub updated-alike : AreSeenAlike o (told_effect_on Update x o request p) (told_effect_on Update y o request q)
  updated-alike = record {
    reply = reply_same;
    after =
        after_same (fault_on Update x o request p) refl
        ∙ ap (λ (f : Option Rsc). sight o (option_map_or (refused y request) f (told_effect_by Update y o request q)).after) fault_same;
  }
