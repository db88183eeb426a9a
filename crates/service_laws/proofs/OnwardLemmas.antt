-- What goes on to another CSE says all that was asked.
use Rattle.service_laws.proofs.Words.{◌≡◌, ℕ, ◌≤◌, Bool, true, false, cond, nat_eq, nat_lt, List, [], ◌∷◌, ◌++◌, length, drop, codes, Option, Some, None, IfSome, IsTrue, Result, Ok, Err, is_some, inl, inr, refl, sym, ap, subst, ◌∙◌, arith, AllByRecursion, after_first, before_first, list_all, position_or_len, starts_with, option_and_then, option_map_or, result_unwrap_or}
use Rattle.service_laws.proofs.Terms.{ReplyParts, RequestParts, has_own_path, path_of_address, EntityData, swept, Outcome, Done, Forward, Item, Ticked, Starved}
use Rattle.service_laws.proofs.Facts.{and_from, cases_Bool, false≢true, le-leb, lt-ltb, ltb-false, take_all, same_Some}
use Rattle.std.specs.Char.{is_ascii_graphic}
use Rattle.std.specs.Str.{bytes_eq}
use Rattle.std.proofs.lemmas.Bool.Decides.{nat_tests}
use Rattle.m2m_names.specs.Name.{is_name, is_originator, is_unreserved, originator_limit}
use Rattle.m2m_names.specs.UrlReading.{host_end_at}
use Rattle.m2m_names.proofs.ListLemmas.{all_weaker}
use Rattle.m2m_names.proofs.LookupLemmas.{find_passes}
use Rattle.m2m_names.proofs.NameLemmas.{free_name_parts, name_parts, printable_parts, starts_rest}
use Rattle.m2m_names.proofs.UrlLemmas.{url_found}
use Rattle.policy_eval.specs.Originators.{full_form, own_lead}
use Rattle.policy_eval.specs.Rules.{listed_in, texts_of}
use Rattle.filter_criteria.specs.Conditions.{OfEachCondition}
use Rattle.filter_criteria.specs.declared.filter.FilterParts.{FilterParts}
use Rattle.primitive_json.specs.Form.{has_form}
use Rattle.primitive_json.specs.Notes.{IsSomeUrl}
use Rattle.resource_model.specs.Attributes.{value_of}
use Rattle.resource_model.specs.Home.{HomeData, IsHome}
use Rattle.resource_model.specs.Resource.{ResourceData}
use Rattle.resource_model.proofs.HomeLemmas.{home_parts}
use Rattle.m2m_names.specs.declared.attributes.Attr.TheVariants.{Poa}
use Rattle.tree_model.specs.Tree.{at}
use Rattle.addressing.specs.Addresses.{address_of, are_names, between_slashes, by_cse, cut_at, is_slash, joined, of_provider, shaped, under, unless_shapeless}
use Rattle.addressing.specs.declared.addr.Addr.{Addr}
use Rattle.addressing.specs.declared.addr.Addr.TheVariants.{Local, Foreign, OtherProvider}
use Rattle.addressing.specs.declared.addr.AddrFault.{AddrFault}
use Rattle.addressing.specs.declared.addr.AddrFault.TheVariants.{TooLong}
use Rattle.m2m_names.specs.Urls.{point_limit}
use Rattle.addressing.proofs.PartLemmas.{joined-between_slashes, names_parts, parts_by, parts_by_cut}
use Rattle.subscription_match.specs.Destinations.{cse_named, first_url, is_url}
use Rattle.http_uri.specs.ByteClasses.{split_once_back}
use Rattle.http_target.specs.Targets.{has_provider, has_segment}
use Rattle.http_client_binding.specs.QueryWriting.{query_pairs, query_part, query_text}
use Rattle.http_frames.specs.Text.{IsTarget}
use Rattle.retarget.specs.Routes.{comes_from_cse, forwarded, routed_to}
use Rattle.retarget.specs.declared.routing.Route.TheVariants as to
use Rattle.entity_model.specs.Places.{refusal}
use Rattle.entity_model.proofs.TellingLemmas.{sound_swept}
use Rattle.group_fanout.specs.Rights.{claimed_originator}
use Rattle.cse_machine.specs.Answer.{EventEffect, address_effect, effect_of, has_originator, onward_effect, point_of, route_effect}
use Rattle.cse_machine.proofs.PlaceLemmas.{claimed_valid}
use Rattle.cse_machine.proofs.JudgedLemmas.{heard_effect, is_heard, judged, refused_effect, turned_down}
use Rattle.binding_laws.specs.AsRead.{IsAsRead, IsText}
use Rattle.binding_laws.specs.ReadBack.{IsOneWord, IsTellable, SaysAll, is_no_space}
use Rattle.binding_laws.proofs.PlainLemmas.{is_part_byte, parts_address, parts_target, parts_utf8}
use Rattle.binding_laws.proofs.TargetLemmas.{all_append}
use Rattle.service_laws.specs.Onward.{CanBeSaid, IsSayable, WhatGoesOnIsAnsweredThere, WhatGoesOnSaysAll}
use Rattle.service_laws.specs.Peers.{AnswersOnce}
use Rattle.service_laws.proofs.PeerLemmas.{answered_there, gives_told}
use Rattle.service_laws.proofs.RepeatLemmas.{first_repeats, id_of_kind, kind_repeated}

-- ---- addresses

-- a text with slashes whose parts are names
record HasNames (text : List ℕ) : Type 0 where
  first : List ℕ
  more : List (List ℕ)
  parts : between_slashes text ≡ first ∷ more
  names : are_names (first ∷ more) ≡ true

part_byte : (b : ℕ) → is_unreserved b ≡ true → is_part_byte b ≡ true
part_byte b h = rw h refl

-- it is of bytes of names and slashes
joined_bytes : (first : List ℕ) (more : List (List ℕ)) → are_names (first ∷ more) ≡ true → list_all is_part_byte (joined (first ∷ more)) ≡ true
joined_bytes first [] are = all_weaker is_unreserved is_part_byte part_byte first (name_parts first (names_parts first [] are).first).unreserved
joined_bytes first (next ∷ more) are =
    let parts = names_parts first (next ∷ more) are in
    all_append is_part_byte first (47 ∷ joined (next ∷ more))
    (all_weaker is_unreserved is_part_byte part_byte first (name_parts first parts.first).unreserved)
    (joined_bytes next more parts.rest)

names_bytes : (text : List ℕ) → HasNames text → list_all is_part_byte text ≡ true
names_bytes text h =
    subst (λ (t : List ℕ). list_all is_part_byte t ≡ true) (sym (ap joined h.parts) ∙ joined-between_slashes text) (joined_bytes h.first h.more h.names)

-- and begins with one of them
abbrev first_of : List (List ℕ) → List ℕ
first_of [] = []
first_of (x ∷ xs) = x

first_is : (text : List ℕ) (test : Bool) → nat_lt (position_or_len is_slash text) (length text) ≡ test → (first : List ℕ) (more : List (List ℕ))
    → parts_by (cut_at text) text ≡ first ∷ more → before_first is_slash text ≡ first
first_is text true t first more is =
    let parts : before_first is_slash text ∷ between_slashes (after_first is_slash text) ≡ first ∷ more = rw t at is in
    ap first_of parts
first_is text false f first more is =
    let parts : text ∷ [] ≡ first ∷ more = rw f at is in
    take_all (position_or_len is_slash text) text (ltb-false (position_or_len is_slash text) (length text) f) ∙ ap first_of parts

name_some : (name : List ℕ) → is_name name ≡ true → nat_lt 0 (length name) ≡ true
name_some name is = lt-ltb 0 (length name) (name_parts name is).filled.some

names_segment : (text : List ℕ) → HasNames text → has_segment text ≡ true
names_segment text h =
    let front = first_is text (nat_lt (position_or_len is_slash text) (length text)) refl h.first h.more (sym (parts_by_cut text) ∙ h.parts) in
    ap (λ (t : List ℕ). nat_lt 0 (length t)) front ∙ name_some h.first (names_parts h.first h.more h.names).first

-- what stands under another CSE-ID
under_names : (home : HomeData) (rest text : List ℕ) (parts : List (List ℕ)) → between_slashes rest ≡ parts → under home rest parts ≡ Some (Foreign text) → HasNames rest
under_names home rest text [] is found = let none : None ≡ Some (Foreign text) = found in cc
under_names home rest text (csi ∷ segments) is found = elim (cases_Bool (are_names (csi ∷ segments))) [
  | inl t ↦ record { first = csi; more = segments; parts = is; names = t }
  | inr f ↦ (let none : None ≡ Some (Foreign text) = rw f at found in cc)
]

by_cse_names : (home : HomeData) (rest text : List ℕ) → by_cse home rest ≡ Some (Foreign text) → HasNames rest
by_cse_names home rest text found = under_names home rest text (between_slashes rest) refl found

-- behind a provider
record HasProvider (rest : List ℕ) : Type 0 where
  sp : List ℕ
  behind : List ℕ
  cut : cut_at rest ≡ Some (sp, behind)
  name : is_name sp ≡ true
  names : HasNames behind

of_provider_names : (home : HomeData) (rest sp behind text : List ℕ) → cut_at rest ≡ Some (sp, behind) → of_provider home sp behind ≡ Some (Foreign text) → HasProvider rest
of_provider_names home rest sp behind text cut found = elim (cases_Bool (is_name sp)) [
  | inr f ↦ (let none : None ≡ Some (Foreign text) = rw f at found in cc)
  | inl t ↦ elim (cases_Bool (bytes_eq sp home.sp)) [
    | inl own ↦ record {
      sp = sp;
      behind = behind;
      cut = cut;
      name = t;
      names = by_cse_names home behind text (rw (t, own) at found);
    }
    | inr other ↦ elim (cases_Bool (are_names (between_slashes behind))) [
      | inl names ↦ (let none : Some OtherProvider ≡ Some (Foreign text) = rw (t, other, names) at found in cc)
      | inr wild ↦ (let none : None ≡ Some (Foreign text) = rw (t, other, wild) at found in cc)
    ]
  ]
]

by_provider_names : (home : HomeData) (rest text : List ℕ) (cut : Option (List ℕ × List ℕ)) → cut_at rest ≡ cut
    → option_and_then (λ (c : List ℕ × List ℕ). of_provider home c.0 c.1) cut ≡ Some (Foreign text) → HasProvider rest
by_provider_names home rest text None is found = let none : None ≡ Some (Foreign text) = found in cc
by_provider_names home rest text (Some c) is found = of_provider_names home rest c.0 c.1 text is found

provider_names : (rest : List ℕ) → (h : HasProvider rest) → HasNames rest
provider_names rest h = record {
  first = h.sp;
  more = h.names.first ∷ h.names.more;
  parts = parts_by_cut rest ∙ ap (λ (c : Option (List ℕ × List ℕ)). parts_by c rest) h.cut ∙ ap (λ (ps : List (List ℕ)). h.sp ∷ ps) h.names.parts;
  names = and_from _ _ h.name h.names.names;
}

-- the cut at the slash, as the binding has it
back_cut : (rest behind : List ℕ) (front : List ℕ) → cut_at rest ≡ Some (front, behind) → split_once_back 47 rest ≡ Some behind
back_cut rest behind front cut = elim (cases_Bool (nat_lt (position_or_len is_slash rest) (length rest))) [
  | inl t ↦
      let there : Some (before_first is_slash rest, after_first is_slash rest) ≡ Some (front, behind) = rw t at cut in
      let pair = same_Some (before_first is_slash rest, after_first is_slash rest) (front, behind) there in
      rw t (ap (λ (p : List ℕ × List ℕ). Some p.1) pair)
  | inr f ↦ (let none : None ≡ Some (front, behind) = rw f at cut in cc)
]

provider_there : (rest : List ℕ) → HasProvider rest → has_provider rest ≡ true
provider_there rest h =
    and_from _ _ (names_segment rest (provider_names rest h))
    (ap (λ (o : Option (List ℕ)). option_map_or has_segment o false) (back_cut rest h.behind h.sp h.cut) ∙ names_segment h.behind h.names)

-- an address that leads to another CSE is of names and slashes, and has a path of its own
pub record IsPlainAddress (to : List ℕ) : Type 0 where
  pub bytes : list_all is_part_byte to ≡ true
  pub own : has_own_path to ≡ true

foreign_shaped : (home : HomeData) (to text : List ℕ) → shaped home to ≡ Some (Foreign text) → IsPlainAddress to
foreign_shaped home to text found = elim (cases_Bool (starts_with nat_eq to (codes "//"))) [
  | inl two ↦
      let rest = drop 2 to in
      let is : to ≡ 47 ∷ 47 ∷ rest = starts_rest to (codes "//") two in
      let provider = by_provider_names home rest text (cut_at rest) refl (rw two at found) in
      record {
        bytes = subst (λ (t : List ℕ). list_all is_part_byte t ≡ true) (sym is) (names_bytes rest (provider_names rest provider));
        own = rw two (provider_there rest provider);
      }
  | inr other ↦ elim (cases_Bool (starts_with nat_eq to (codes "/"))) [
    | inl one ↦
        let rest = drop 1 to in
        let is : to ≡ 47 ∷ rest = starts_rest to (codes "/") one in
        let names = by_cse_names home rest text (rw (other, one) at found) in
        record {
          bytes = subst (λ (t : List ℕ). list_all is_part_byte t ≡ true) (sym is) (names_bytes rest names);
          own = rw (other, one) (names_segment rest names);
        }
    | inr none ↦ elim (cases_Bool (are_names (between_slashes to))) [
      | inl names ↦ (let no : Some (Local (between_slashes to)) ≡ Some (Foreign text) = rw (other, none, names) at found in cc)
      | inr wild ↦ (let no : None ≡ Some (Foreign text) = rw (other, none, wild) at found in cc)
    ]
  ]
]

found_addr : (a b : Addr) → unless_shapeless (Some a) ≡ unless_shapeless (Some b) → a ≡ b
found_addr a b e = ap (λ (r : Result Addr AddrFault). result_unwrap_or r a) e

foreign_found : (home : HomeData) (to text : List ℕ) (a : Option Addr) → shaped home to ≡ a → unless_shapeless a ≡ Ok (Foreign text) → IsPlainAddress to
foreign_found home to text None is found = cc
foreign_found home to text (Some addr) is found = foreign_shaped home to text (is ∙ ap Some (found_addr addr (Foreign text) found))

pub foreign_plain : (home : HomeData) (to text : List ℕ) → address_of home to ≡ Ok (Foreign text) → IsPlainAddress to
foreign_plain home to text found = elim (cases_Bool (nat_lt point_limit (length to))) [
  | inl long ↦ (let none : Err TooLong ≡ Ok (Foreign text) = rw long at found in cc)
  | inr short ↦ foreign_found home to text (shaped home to) refl (rw short at found)
]

-- ---- what goes on

-- A request goes on to a URL: it has its form, says who asks, and its address leads to a CSE whose first URL this is.
pub record WentOn (e : EntityData) (request : RequestParts) (url : List ℕ) (sent : RequestParts) : Type 0 where
  pub form : has_form request ≡ true
  pub originator : has_originator e.home request ≡ true
  pub text : List ℕ
  pub address : address_of e.home request.to ≡ Ok (Foreign text)
  pub url_is : is_url url ≡ true
  pub same : sent ≡ forwarded e.home (claimed_originator e.home request) request

-- the URL and the request of what goes on
abbrev url_of : Outcome → List ℕ
url_of (Done reply) = []
url_of (Forward poa onward) = poa
url_of (Item given) = []
url_of Ticked = []
url_of (Starved done) = []

abbrev sent_of : RequestParts → Outcome → RequestParts
sent_of other (Done reply) = other
sent_of other (Forward poa onward) = onward
sent_of other (Item given) = other
sent_of other Ticked = other
sent_of other (Starved done) = other

no_reply : (reply : ReplyParts) (url : List ℕ) (sent : RequestParts) → Forward url sent ≡ Done reply → ⊥
no_reply reply url sent same = cc

no_url : (url : List ℕ) → None ≡ Some url → ⊥
no_url url same = cc

module _ (e : EntityData) (request : RequestParts) (url : List ℕ) (sent : RequestParts) where
  abbrev Goes : Outcome → Type 0
  Goes outcome = Forward url sent ≡ outcome

  abbrev onward : RequestParts
  onward = forwarded e.home (claimed_originator e.home request) request

  by_point : (poa : Option (List ℕ)) → Goes (onward_effect e request poa).outcome → (poa ≡ Some url) × (sent ≡ onward)
  by_point None is = absurd (no_reply _ url sent is)
  by_point (Some poa) is = (ap (λ (o : Outcome). Some (url_of o)) (sym is), ap (sent_of sent) is)

  by_cse_at : (n : ℕ) (found : Option ResourceData) → at n e.nodes ≡ found → option_and_then first_url found ≡ Some url → is_url url ≡ true
  by_cse_at n None is point = absurd (no_url url point)
  by_cse_at n (Some cse) is point =
      let texts = texts_of (listed_in (value_of Poa cse.attrs)) in
      subst (λ (o : Option (List ℕ)). IfSome o (λ (x : List ℕ). is_url x ≡ true)) point (find_passes is_url texts)

  by_route : (cse : ResourceData) (far some : Bool) → Goes (route_effect e request [] (cond far to.NoHop (cond some (to.Forward cse.number) to.NoPoint))).outcome → (point_of e.nodes cse.number ≡ Some url) × (sent ≡ onward)
  by_route cse true some is = absurd (no_reply _ url sent is)
  by_route cse false false is = absurd (no_reply _ url sent is)
  by_route cse false true is = by_point (point_of e.nodes cse.number) is

  by_found : (cse : Option ResourceData) → Goes (route_effect e request [] (option_map_or (routed_to e.nodes (claimed_originator e.home request)) cse to.Unknown)).outcome → (is_url url ≡ true) × (sent ≡ onward)
  by_found None is = absurd (no_reply _ url sent is)
  by_found (Some cse) is =
      let goes = by_route cse (comes_from_cse e.nodes (claimed_originator e.home request)) (is_some (first_url cse)) is in
      (by_cse_at cse.number (at cse.number e.nodes) refl goes.0, goes.1)

  by_address : (a : Result Addr AddrFault) → has_form request ≡ true → has_originator e.home request ≡ true → address_of e.home request.to ≡ a → Goes (address_effect e request a).outcome → WentOn e request url sent
  by_address (Ok (Local segments)) form by is goes = absurd (no_reply _ url sent goes)
  by_address (Ok (Foreign text)) form by is goes =
      let found = by_found (cse_named text e.nodes) goes in
      record { form = form; originator = by; text = text; address = is; url_is = found.0; same = found.1 }
  by_address (Ok OtherProvider) form by is goes = absurd (no_reply _ url sent goes)
  by_address (Err fault) form by is goes = absurd (no_reply _ url sent goes)

  pub went_on : Goes (effect_of e request).outcome → WentOn e request url sent
  went_on is = elim (judged e request) [
    | turned_down fault other at ↦ absurd (no_reply (refusal request fault) url sent (is ∙ ap (λ (x : EventEffect). x.outcome) (refused_effect e request fault at)))
    | is_heard none facts ↦ by_address (address_of e.home request.to) facts.form facts.originator refl (is ∙ ap (λ (x : EventEffect). x.outcome) (heard_effect e request none))
  ]

-- ---- its originator

-- what stands behind the own CSE-ID is printable where it was
pub lead_graphic : (home : HomeData) (o : List ℕ) → IsHome home → list_all is_ascii_graphic o ≡ true → list_all is_ascii_graphic (codes "/" ++ (own_lead home ++ o)) ≡ true
lead_graphic home o is graphic =
    let csi = name_parts home.csi (free_name_parts home.csi (home_parts home is).csi).name in
    all_append is_ascii_graphic (own_lead home) o
    (all_append is_ascii_graphic home.csi (codes "/") (all_weaker is_unreserved is_ascii_graphic unreserved_graphic home.csi csi.unreserved) refl)
    graphic
  where
    unreserved_graphic : (b : ℕ) → is_unreserved b ≡ true → is_ascii_graphic b ≡ true
    unreserved_graphic b h = grind (arith, nat_tests)

-- a full form that isn't too long is that of an originator
full_originator : (home : HomeData) (o : List ℕ) → IsHome home → is_originator o ≡ true → length (full_form home o) ≤ originator_limit → is_originator (full_form home o) ≡ true
full_originator home o is valid short = elim (cases_Bool (starts_with nat_eq o (codes "/"))) [
  | inl t ↦ rw t valid
  | inr f ↦
      let text = codes "/" ++ (own_lead home ++ o) in
      let fits : length text ≤ originator_limit = rw f at short in
      rw f (and_from _ _ (and_from _ _ (lt-ltb 0 (length text) (omega arith)) (le-leb (length text) originator_limit fits))
      (lead_graphic home o is (printable_parts originator_limit o valid).graphic))
]

-- ---- together

pub url_some : (url : List ℕ) (place : Option ℕ) → host_end_at url ≡ place → is_some place ≡ true → IsSomeUrl url
url_some url None is some = absurd (false≢true some)
url_some url (Some n) is some = (n, url_found url n is)

-- labels that are texts and have no space
one_words : (labels : List (List ℕ)) → AllByRecursion IsText labels → AllByRecursion (λ (label : List ℕ). IsTrue (list_all is_no_space label)) labels → AllByRecursion IsOneWord labels
one_words [] texts words = tt
one_words (label ∷ labels) texts words =
    (record { bytes = texts.0.bytes; utf8 = texts.0.utf8; word = words.0 }, one_words labels texts.1 words.1)

-- a filter that can be said is told
filter_told : (f : FilterParts) → AllByRecursion IsText f.lbl → OfEachCondition IsSayable f → OfEachCondition IsTellable f
filter_told f texts h = (h.0, (h.1.0, (h.1.1.0, (h.1.1.1.0, (h.1.1.1.1.0, (one_words f.lbl texts h.1.1.1.1.1.0, h.1.1.1.1.1.1))))))

told_if : (fc : Option FilterParts) → IfSome fc (λ f. AllByRecursion IsText f.lbl) → IfSome fc (OfEachCondition IsSayable) → IfSome fc (OfEachCondition IsTellable)
told_if None texts said = tt
told_if (Some f) texts said = filter_told f texts said

-- a request that went on, as its originator's full form is said
all_said : (e : EntityData) (request sent : RequestParts) (url : List ℕ) → IsHome e.home → IsAsRead request → WentOn e request url sent
    → CanBeSaid (forwarded e.home (claimed_originator e.home request) request) url
    → SaysAll (forwarded e.home (claimed_originator e.home request) request) url
all_said e request sent url home read went can =
    let o = claimed_originator e.home request in
    let plain : IsPlainAddress request.to = foreign_plain e.home request.to went.text went.address in
    record {
      sendable = record {
        kinds = record {
          form = read.kinds.form;
          no_more = read.kinds.no_more;
          to = read.kinds.to;
          fr = full_originator e.home o home (claimed_valid e.home request went.originator) can.fr;
          rqet = read.kinds.rqet;
          fc = read.kinds.fc;
        };
        is_url = url_some url (host_end_at url) refl went.url_is;
        target = subst (λ (front : List ℕ). IsTarget ((front ++ path_of_address request.to) ++ query_part (query_text request))) (sym can.root) (parts_target request.to (query_pairs request) plain.bytes);
        head = can.head;
        body = can.body;
      };
      root = can.root;
      to_own = plain.own;
      to_bytes = parts_address request.to plain.bytes;
      to_utf8 = parts_utf8 request.to plain.bytes;
      rt = refl;
      rqet = can.rqet;
      fc = told_if request.fc read.labels can.fc;
      pc = read.pc;
    }

pub goes_on_said : WhatGoesOnSaysAll
goes_on_said reading request before after url sent goes =
    let e = swept reading before in
    let went = went_on e request url sent goes.step.0 in
    subst (λ (r : RequestParts). SaysAll r url) (sym went.same)
    (all_said e request sent url (sound_swept reading before goes.sound).home goes.read went
    (subst (λ (r : RequestParts). CanBeSaid r url) went.same goes.said))

pub goes_on_answered : WhatGoesOnIsAnsweredThere
goes_on_answered reading request before after url sent goes there left given now answer talks =
    let says = goes_on_said reading request before after url sent goes in
    let one = answered_there sent url there left given now answer says talks in
    let once : AnswersOnce there left given now talks.new.link (record sent { fc = one.0 }) one.2 = one.3 in
    let repeats = first_repeats once.reading (record sent { fc = one.0 }) there left once.outcome one.2 once.carried once.step once.gives in
    let kind = kind_repeated (record sent { fc = one.0 }) one.2 repeats (id_of_kind sent says.sendable.kinds.form) in (
      one.0,
      one.1,
      one.2,
      one.3,
      λ reply carried. gives_told answer sent.rqi one.2 reply one.4 kind one.5 carried,
    )
