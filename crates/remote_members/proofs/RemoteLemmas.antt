-- What is told of members, with the replies to their own requests.
use Rattle.std.proofs.Common.{◌≡◌, ℕ, true, false, List, [], ◌∷◌, ◌++◌, codes, length, map, Option, Some, None, is_some, inl, inr, refl, sym, ap, ◌∙◌, arith}
use Rattle.std.specs.Prelude.{option_and_then, unwrap_or}
use Rattle.std.specs.List.{cons_option, list_any}
use Rattle.std.specs.Option.{option_map_or}
use Rattle.std.specs.Str.{bytes_eq}
use Rattle.std.proofs.lemmas.Bool.{cases_Bool, false≢true, or_parts, true≢false}
use Rattle.std.proofs.lemmas.Option.{same_Some}
use Rattle.std.proofs.lemmas.Slice.Eq.{bytes_eq-Decides}
use Rattle.std.proofs.lemmas.List.{length-map, map-append}
use Rattle.std.proofs.lemmas.List.Elements.{filter_map-append}
use Rattle.m2m_value.specs.Data.{Data, Elements, boolean, element, elements_of, list, no_elements, no_pairs, null, number, object, pair, text}
use Rattle.m2m_value.specs.View.{as_list, elements}
use Rattle.m2m_value.proofs.Levels.{elements-elements_of}
use Rattle.primitive_json.specs.declared.reply.ReplyParts.{ReplyParts}
use Rattle.primitive_json.specs.declared.request.RequestParts.{RequestParts}
use Rattle.resource_model.specs.Home.{HomeData}
use Rattle.group_fanout.specs.Fan.{gathering, object_with, sent_to}
use Rattle.remote_members.specs.Asking.{requests_for}
use Rattle.remote_members.specs.Remote.{alone_at, is_away, remote_address, remote_addresses, entries_anew, replies_left, replies_in, told_by, told_in, told_of_members}
use Rattle.remote_members.specs.Wide.{completed, members_away, with_entries, tells_of_away}

-- ---- the requests

pub requests-append : (home : HomeData) (request : RequestParts) (xs ys : List Data)
    → requests_for home request (xs ++ ys) ≡ requests_for home request xs ++ requests_for home request ys
requests-append home request xs ys =
    ap (map (sent_to request)) (filter_map-append (remote_address home) xs ys)
    ∙ map-append (sent_to request) (remote_addresses home xs) (remote_addresses home ys)

pub requests-length : (home : HomeData) (request : RequestParts) (xs : List Data)
    → length (requests_for home request xs) ≡ length (remote_addresses home xs)
requests-length home request xs = length-map (remote_addresses home xs) (sent_to request)

-- ---- what is told

-- as many replies as there are members away tell of all of these, and others of those behind
told-append : (a : Option (List ℕ)) (x : Data) (rs ss : List ReplyParts) (more : List (List ℕ))
    → length rs ≡ length (cons_option a more)
    → (told_by a x (rs ++ ss) ≡ told_by a x rs) × (replies_left a (rs ++ ss) ≡ replies_left a rs ++ ss) × (length (replies_left a rs) ≡ length more)
told-append None x rs ss more same = (refl, refl, same)
told-append (Some to) x [] ss more same = (let no : ⊥ = omega (arith, same) in absurd no)
told-append (Some to) x (r ∷ rs) ss more same = (refl, refl, omega (arith, same))

pub entries_anew-append : (home : HomeData) (xs ys : List Data) (rs ss : List ReplyParts) → length rs ≡ length (remote_addresses home xs)
    → entries_anew home (xs ++ ys) (rs ++ ss) ≡ entries_anew home xs rs ++ entries_anew home ys ss
entries_anew-append home [] ys [] ss same = refl
entries_anew-append home [] ys (r ∷ rs) ss same = (let no : ⊥ = omega (arith, same) in absurd no)
entries_anew-append home (x ∷ xs) ys rs ss same =
    let a = remote_address home x in
    let front = told-append a x rs ss (remote_addresses home xs) same in
    let rest = entries_anew-append home xs ys (replies_left a rs) ss front.2 in
    (λ i. front.0 i ∷ entries_anew home (xs ++ ys) (front.1 i))
    ∙ ap (λ v. told_by a x rs ∷ v) rest

-- ---- where no member is away

none_away : (home : HomeData) (x : Data) → is_away home x ≡ false → remote_address home x ≡ None
none_away home x none = by (remote_address home x) refl
  where
    by : (a : Option (List ℕ)) → remote_address home x ≡ a → remote_address home x ≡ None
    by None is = is
    by (Some to) is = absurd (true≢false (sym (ap (λ (v : Option (List ℕ)). is_some v) is) ∙ none))

pub addresses_none : (home : HomeData) (xs : List Data) → list_any (is_away home) xs ≡ false → remote_addresses home xs ≡ []
addresses_none home [] none = refl
addresses_none home (x ∷ xs) none =
    let parts = or_parts (is_away home x) (list_any (is_away home) xs) none in
    ap (λ (a : Option (List ℕ)). cons_option a (remote_addresses home xs)) (none_away home x parts.0) ∙ addresses_none home xs parts.1

pub anew_none : (home : HomeData) (xs : List Data) (rs : List ReplyParts) → list_any (is_away home) xs ≡ false → entries_anew home xs rs ≡ xs
anew_none home [] rs none = refl
anew_none home (x ∷ xs) rs none =
    let parts = or_parts (is_away home x) (list_any (is_away home) xs) none in
    let here = none_away home x parts.0 in
    (λ i. told_by (here i) x rs ∷ entries_anew home xs (replies_left (here i) rs))
    ∙ ap (λ v. x ∷ v) (anew_none home xs rs parts.1)

-- ---- the content that tells of members

-- an object of one member of this name is the object with it
alone_is : (name : List ℕ) (d x : Data) → alone_at name d ≡ Some x → d ≡ object_with name x
alone_is name null x some = cc
alone_is name (boolean b) x some = cc
alone_is name (number z) x some = cc
alone_is name (text s) x some = cc
alone_is name (list es) x some = cc
alone_is name (object no_pairs) x some = cc
alone_is name (object (pair k v no_pairs)) x some = elim (cases_Bool (bytes_eq name k)) [
  | inl t ↦
      let same : Some v ≡ Some x = rw t at some in
      let key : name ≡ k = (bytes_eq-Decides name k).0 t in
      ap (λ (l : List ℕ). object (pair l v no_pairs)) (sym key) ∙ ap (λ (d : Data). object (pair name d no_pairs)) (same_Some v x same)
  | inr f ↦ (let none : None ≡ Some x = rw f at some in cc)
]
alone_is name (object (pair k v (pair l w ps))) x some = cc

elements_of-elements : (es : Elements) → elements_of (elements es) ≡ es
elements_of-elements no_elements = refl
elements_of-elements (element d es) = ap (element d) (elements_of-elements es)

-- a list is its elements
list_is : (d : Data) (ds : List Data) → as_list d ≡ Some ds → d ≡ list (elements_of ds)
list_is null ds some = cc
list_is (boolean b) ds some = cc
list_is (number z) ds some = cc
list_is (text s) ds some = cc
list_is (list es) ds some = ap list (sym (elements_of-elements es)) ∙ ap (λ v. list (elements_of v)) (same_Some (elements es) ds some)
list_is (object ps) ds some = cc

-- what tells of members is the gathering of that
pub gathering_of : (content : Data) (entries : List Data) → told_in content ≡ Some entries → content ≡ gathering entries
gathering_of content entries some = by (alone_at (codes "m2m:agr") content) refl
  where
    within : (a : Data) (o : Option Data) → alone_at (codes "m2m:rsp") a ≡ o → option_and_then as_list o ≡ Some entries
        → a ≡ object_with (codes "m2m:rsp") (list (elements_of entries))
    within a None is told = cc
    within a (Some l) is told =
        alone_is (codes "m2m:rsp") a l is ∙ ap (object_with (codes "m2m:rsp")) (list_is l entries told)

    by : (o : Option Data) → alone_at (codes "m2m:agr") content ≡ o → content ≡ gathering entries
    by None is =
        let no : None ≡ Some entries = sym (ap (λ (v : Option Data). option_and_then replies_in v) is) ∙ some in
        cc
    by (Some a) is =
        let told : replies_in a ≡ Some entries = sym (ap (λ (v : Option Data). option_and_then replies_in v) is) ∙ some in
        alone_is (codes "m2m:agr") content a is
        ∙ ap (object_with (codes "m2m:agr")) (within a (alone_at (codes "m2m:rsp") a) refl told)

-- and so in a reply
told_back : (content : Option Data) (entries : List Data) → told_of_members content ≡ Some entries → content ≡ Some (gathering entries)
told_back None entries some = cc
told_back (Some content) entries some = ap Some (gathering_of content entries some)

-- a gathering tells what it gathers
pub told_gathering : (entries : List Data) → told_of_members (Some (gathering entries)) ≡ Some entries
told_gathering entries = ap Some (elements-elements_of entries)

-- a reply that tells of no member away stays as it is
pub stays_whole : (home : HomeData) (reply : ReplyParts) → tells_of_away home reply ≡ false
    → (members_away home reply ≡ []) × ((rs : List ReplyParts) → completed home reply rs ≡ reply)
stays_whole home reply none = by (told_of_members reply.pc) refl
  where
    by : (told : Option (List Data)) → told_of_members reply.pc ≡ told
        → (members_away home reply ≡ []) × ((rs : List ReplyParts) → completed home reply rs ≡ reply)
    by None is = (
      ap (λ (o : Option (List Data)). remote_addresses home (unwrap_or o [])) is,
      λ rs. ap (λ (o : Option (List Data)). option_map_or (λ entries. with_entries reply (entries_anew home entries rs)) o reply) is,
    )
    by (Some entries) is =
        let away : list_any (is_away home) entries ≡ false =
        sym (ap (λ (o : Option (List Data)). list_any (is_away home) (unwrap_or o [])) is) ∙ none in (
          ap (λ (o : Option (List Data)). remote_addresses home (unwrap_or o [])) is ∙ addresses_none home entries away,
          λ rs.
              ap (λ (o : Option (List Data)). option_map_or (λ entries. with_entries reply (entries_anew home entries rs)) o reply) is
              ∙ ap (λ (v : List Data). with_entries reply v) (anew_none home entries rs away)
              ∙ ap (λ (c : Option Data). record reply { pc = c }) (sym (told_back reply.pc entries is)),
        )

-- one that tells of some tells of members
pub some_told : (home : HomeData) (reply : ReplyParts) → tells_of_away home reply ≡ true → told_of_members reply.pc ≡ None → ⊥
some_told home reply some none =
    false≢true (sym (ap (λ (o : Option (List Data)). list_any (is_away home) (unwrap_or o [])) none) ∙ some)
