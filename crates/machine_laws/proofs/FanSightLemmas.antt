-- A fan-out is answered alike: whoever may fan out to a group sees its members, and a request to each
-- of them is answered alike.
use Rattle.machine_laws.proofs.Words.{◌≡◌, ℕ, ◌+◌, List, [], ◌∷◌, ◌++◌, map, true, false, Option, Some, None, option_map, inl, inr, refl, sym, ap, ap₂, subst, ◌∙◌, arith, nat_lt, option_and_then}
use Rattle.machine_laws.proofs.Terms.{op_row, Mid, Fine, Op, Create, Retrieve, Update, Delete, Notify, Group, Data, text, ReplyParts, RequestParts, HomeData, ResourceData, is_ty, at, bits_by, do_give, has_bits, fan_rules, listed_in, texts_of, may_use, seen, base_of, first_named, is_at, next_named, poll_point, spot_from, spot_of, Resource, Fan, EntityData, reply_to, after_members, fanned, gathered_one, gathering, listed_members, member_effect, requests_to, sent_to, singles_of}
use Rattle.machine_laws.proofs.Facts.{and_from, both_ways, cases_Bool, or_right, nat_tests, seen_shows, AreLeftAlike}
use Rattle.filter_criteria.specs.Values.{object_of}
use Rattle.primitive_json.specs.Members.{name_of_member}
use Rattle.primitive_json.specs.Writing.{reply_rows}
use Rattle.primitive_json.specs.declared.member.Member.TheVariants.{Target}
use Rattle.machine_laws.proofs.SpotLemmas.{a_fan_point, a_poll_point, a_resource, leads_to}

-- ---- a fan-out point is that of a group

resource_fan : (n group place : ℕ) → Some (Resource n) ≡ Some (Fan group place) → ⊥
resource_fan n group place same = cc

poll_fan : (n group place : ℕ) (names : List (List ℕ)) → poll_point n names ≡ Some (Fan group place) → ⊥
poll_fan n group place [] same = cc
poll_fan n group place (name ∷ names) same = cc

same_group : (n m place other : ℕ) → Some (Fan n place) ≡ Some (Fan m other) → n ≡ m
same_group n m place other same = cc

fan_from : (place n : ℕ) (names : List (List ℕ)) (nodes : List ResourceData) (group rest : ℕ) → spot_from place n names nodes ≡ Some (Fan group rest) → is_at Group group nodes ≡ true
fan_from place n [] nodes group rest is = absurd (resource_fan n group rest is)
fan_from place n (name ∷ names) nodes group rest is = elim (leads_to place n name names nodes) [
  | a_fan_point at_group here ↦ subst (λ (m : ℕ). is_at Group m nodes ≡ true) (same_group n group (place + 1) rest (sym here ∙ is)) at_group
  | a_poll_point named here ↦ absurd (poll_fan n group rest names (sym here ∙ is))
  | a_resource here ↦ by (next_named n name nodes) (λ m. fan_from (place + 1) m names nodes group rest) (sym here ∙ is)
]
  where
    by : (next : Option ℕ) → ((m : ℕ) → spot_from (place + 1) m names nodes ≡ Some (Fan group rest) → is_at Group group nodes ≡ true) → option_and_then (λ (m : ℕ). spot_from (place + 1) m names nodes) next ≡ Some (Fan group rest) → is_at Group group nodes ≡ true
    by None others none = cc
    by (Some m) others found = others m found

pub fan_named : (segments : List (List ℕ)) (nodes : List ResourceData) (group rest : ℕ) → spot_of segments nodes ≡ Some (Fan group rest) → is_at Group group nodes ≡ true
fan_named [] nodes group rest is = by_base (base_of nodes) is
  where
    by_base : (base : Option ℕ) → option_map (λ (n : ℕ). Resource n) base ≡ Some (Fan group rest) → is_at Group group nodes ≡ true
    by_base None none = cc
    by_base (Some n) some = absurd (resource_fan n group rest some)
fan_named (segment ∷ names) nodes group rest is = by_first (first_named segment nodes) is
  where
    by_first : (first : Option ℕ) → option_and_then (λ (n : ℕ). spot_from 1 n names nodes) first ≡ Some (Fan group rest) → is_at Group group nodes ≡ true
    by_first None none = cc
    by_first (Some n) found = fan_from 1 n names nodes group rest found

-- what stands there is one
pub group_there : (nodes : List ResourceData) (n : ℕ) (r : ResourceData) → at n nodes ≡ Some r → is_at Group n nodes ≡ true → is_ty r.ty Group ≡ true
group_there nodes n r found is = elim (cases_Bool (is_ty r.ty Group)) [
  | inl t ↦ t
  | inr f ↦ (let none : false ≡ true = rw (found, f) at is in absurd (both_ways _ refl none))
]

-- ---- its members are seen

zero_is : (n : ℕ) → nat_lt 0 n ≡ false → n ≡ 0
zero_is n none = grind (arith, nat_tests)

-- an operation needs some bit
none_has : (op : Op) → has_bits 0 (op_row op).bit ≡ false
none_has Create = refl
none_has Retrieve = refl
none_has Update = refl
none_has Delete = refl
none_has Notify = refl

some_bits : (had : ℕ) (op : Op) → has_bits had (op_row op).bit ≡ true → nat_lt 0 had ≡ true
some_bits had op has = elim (cases_Bool (nat_lt 0 had)) [
  | inl t ↦ t
  | inr f ↦ absurd (both_ways _ (ap (λ (n : ℕ). has_bits n (op_row op).bit) (zero_is had f) ∙ none_has op) has)
]

module _ (home : HomeData) (nodes : List ResourceData) (o : List ℕ) (group : ResourceData) where
  uses : (op : Op) → is_ty group.ty Group ≡ true → do_give home o (op_row op).bit (fan_rules nodes group) ≡ true → may_use home nodes o group ≡ true
  uses op is gives = and_from _ _ is (or_right _ _ (some_bits (bits_by home o (fan_rules nodes group)) op gives))

  -- by whoever may fan out to it
  pub members_seen : (op : Op) → is_ty group.ty Group ≡ true → do_give home o (op_row op).bit (fan_rules nodes group) ≡ true → listed_members (seen home nodes o group) ≡ listed_members group
  members_seen op is gives =
      ap (λ (d : Option Data). texts_of (listed_in d)) ((seen_shows home nodes o group).used (uses op is gives) Mid refl)

-- ---- one member after another

-- what the replies of members tell, one after another, and the entities that they leave
pub record AreFannedAlike (Rel : EntityData → EntityData → Type 0) (one other : EntityData) (requests : List RequestParts) : Type 0 where
  pub replies : map gathered_one (singles_of one requests) ≡ map gathered_one (singles_of other requests)
  pub after : Rel (after_members one requests) (after_members other requests)

-- what a reply to a member tells
abbrev told_of_member : List ℕ → ReplyParts → Data
told_of_member address reply = object_of (reply_rows reply ++ (name_of_member Target, Some (text address)) ∷ [])

-- where a request to any member is answered alike by entities of which this holds, and leaves such
module _ (request : RequestParts) (Is : EntityData → Type 0) (Rel : EntityData → EntityData → Type 0) (alike : (one other : EntityData) (address : List ℕ) → Is one → Is other → Rel one other → AreLeftAlike Rel (member_effect one (sent_to request address)) (member_effect other (sent_to request address))) (stays : (e : EntityData) (address : List ℕ) → Is e → Is (member_effect e (sent_to request address)).after) where
  pub fanned_alike : (addresses : List (List ℕ)) (one other : EntityData) → Is one → Is other → Rel one other → AreFannedAlike Rel one other (requests_to request addresses)
  fanned_alike [] one other is are rel = record { replies = refl; after = rel }
  fanned_alike (address ∷ addresses) one other is are rel =
      let first = member_effect one (sent_to request address) in
      let second = member_effect other (sent_to request address) in
      let both = alike one other address is are rel in
      let rest = fanned_alike addresses first.after second.after (stays one address is) (stays other address are) both.after in
      record {
        replies = ap₂ (λ (d : Data) (ds : List Data). d ∷ ds) (ap (told_of_member address) both.reply) rest.replies;
        after = rest.after;
      }

  -- so is the fan-out
  pub fan_alike : (addresses : List (List ℕ)) (one other : EntityData) → Is one → Is other → Rel one other → AreLeftAlike Rel (fanned one request (requests_to request addresses)) (fanned other request (requests_to request addresses))
  fan_alike addresses one other is are rel =
      let all = fanned_alike addresses one other is are rel in
      record {
        reply = ap (λ (ds : List Data). reply_to request Fine (Some (gathering ds))) all.replies;
        after = all.after;
      }
