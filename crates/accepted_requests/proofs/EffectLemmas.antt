-- What comes of a request, by what was found.
use Rattle.std.specs.Prelude.{IfOk, OnOk, OnErr, if◌then◌else◌, is_some, not, option_map}
use Rattle.std.proofs.Common.{◌≡◌, ◌<◌, ℕ, Bool, true, false, ◌&&◌, List, Option, Some, None, Result, Ok, Err, refl, sym, ap, subst, ◌∙◌}
use Rattle.std.specs.Option.{option_and_then, option_map_or}
use Rattle.std.proofs.lemmas.Bool.{ltb-true, not-false, or_left, or_parts, or_right}
use Rattle.std.proofs.lemmas.Result.{on_ok_weaker}
use Rattle.m2m_names.specs.declared.codes.Rsc.{Rsc}
use Rattle.m2m_names.specs.declared.codes.Rsc.TheVariants.{NonBlocking, NotAcceptable, NotFound}
use Rattle.m2m_names.specs.declared.operations.Op.{Op}
use Rattle.m2m_names.specs.declared.operations.Op.TheVariants.{Create, Retrieve, Update, Delete, Notify}
use Rattle.m2m_value.specs.Shapes.{largest_count}
use Rattle.primitive_json.specs.declared.reply.ReplyParts.{ReplyParts}
use Rattle.primitive_json.specs.declared.request.RequestParts.{RequestParts}
use Rattle.resource_model.specs.Home.{HomeData}
use Rattle.addressing.specs.Addresses.{address_of}
use Rattle.entity_model.specs.Places.{refusal}
use Rattle.accepted_requests.specs.Asked.{names_own}
use Rattle.accepted_requests.specs.Effects.{ComesToLater, GivesLater, LaterEffect, acceptance_by, entry_effect, is_acceptable, is_full, is_heard, is_status, later_effect_by, naming_by, originator_effect, own_effect, owns, reply_only, taken_up, taken_up_if_room, wants_later}
use Rattle.accepted_requests.specs.Entries.{LaterEntryData, LaterRequestsData, numbered, without}
use Rattle.accepted_requests.specs.Names.{is_here, number_in}

-- ---- room

pub room_number : (requests : LaterRequestsData) → is_full requests ≡ false → requests.given < largest_count
room_number requests room = ltb-true requests.given largest_count (not-false _ (or_parts _ _ room).1)

pub full_effect : (requests : LaterRequestsData) (originator : List ℕ) (request : RequestParts) (moment : ℕ) → is_full requests ≡ true → reply_only requests (refusal request NotAcceptable) ≡ taken_up_if_room requests originator request moment
full_effect requests originator request moment full =
    sym (ap (λ (b : Bool). if b then reply_only requests (refusal request NotAcceptable) else taken_up requests originator request moment) full)

pub room_effect : (requests : LaterRequestsData) (originator : List ℕ) (request : RequestParts) (moment : ℕ) → is_full requests ≡ false → taken_up requests originator request moment ≡ taken_up_if_room requests originator request moment
room_effect requests originator request moment room =
    sym (ap (λ (b : Bool). if b then reply_only requests (refusal request NotAcceptable) else taken_up requests originator request moment) room)

-- ---- as calls give it

module _ {E : Type 0} where
  -- a reply by which nothing changes
  pub comes_alone : (result : Result ReplyParts E) (requests : LaterRequestsData) (reply : ReplyParts) → IfOk result (λ r. r ≡ reply) → ComesToLater result requests requests (reply_only requests reply)
  comes_alone (Ok told) requests reply is = record { reply = is; requests = refl; same = tt }
  comes_alone (Err fault) requests reply is = record { reply = tt; requests = tt; same = refl }

  -- a reply that was made before
  pub comes_settled : (result told : Result ReplyParts E) (before after left : LaterRequestsData) (effect : LaterEffect) → result ≡ told → IfOk told (λ r. r ≡ effect.reply) → OnOk result (after ≡ left) → effect.requests ≡ left → OnErr result (after ≡ before) → ComesToLater result before after effect
  comes_settled result told before after left effect is reply requests same err = record {
    reply = subst (λ (r : Result ReplyParts E). IfOk r (λ x. x ≡ effect.reply)) (sym is) reply;
    requests = on_ok_weaker result (λ (at : after ≡ left). at ∙ sym same) requests;
    same = err;
  }

  -- an equal effect is given
  pub gives_equal : (given : Result ReplyParts E) (before after : LaterRequestsData) (effect : LaterEffect) (other : Option LaterEffect) → Some effect ≡ other → ComesToLater given before after effect → GivesLater (Some given) before after other
  gives_equal given before after effect other is comes =
      subst (λ (x : Option LaterEffect). GivesLater (Some given) before after x) is comes

-- ---- what an operation does

own_kept : (op : Op) (requests : LaterRequestsData) (request : RequestParts) (e : LaterEntryData) → (op ≡ Delete → ⊥) → (own_effect op requests request e).requests ≡ requests
own_kept Create requests request e other = refl
own_kept Retrieve requests request e other = refl
own_kept Update requests request e other = refl
own_kept Delete requests request e other = absurd (other refl)
own_kept Notify requests request e other = refl

pub kept_by_others : (own : Bool) (requests : LaterRequestsData) (request : RequestParts) (e : LaterEntryData) → (request.op ≡ Delete → ⊥) → (entry_effect own requests request e).requests ≡ requests
kept_by_others true requests request e other = own_kept request.op requests request e other
kept_by_others false requests request e other = refl

pub taken_by_delete : (own : Bool) (requests : LaterRequestsData) (request : RequestParts) (e : LaterEntryData) → request.op ≡ Delete → (entry_effect own requests request e).requests ≡ (if own then without e.number requests else requests)
taken_by_delete true requests request e is = ap (λ (op : Op). (own_effect op requests request e).requests) is
taken_by_delete false requests request e is = refl

-- ---- the accepted request that was found

pub some_found : (f : LaterEntryData → LaterEffect) (e : LaterEntryData) (found : Option LaterEntryData) → Some e ≡ found → Some (f e) ≡ option_map f found
some_found f e found is = ap (option_map f) is

-- whose own it is, is told of the one that was found
pub named_effect : (home : HomeData) (who : List ℕ) (requests : LaterRequestsData) (request : RequestParts) (own : Bool) (found : Option LaterEntryData) → own ≡ option_map_or (owns home who) found false → option_map (entry_effect own requests request) found ≡ option_map (originator_effect home who requests request) found
named_effect home who requests request own None is = refl
named_effect home who requests request own (Some e) is = ap (λ (b : Bool). Some (entry_effect b requests request e)) is

-- it is named by this number
pub names_effect : (home : HomeData) (who : List ℕ) (requests : LaterRequestsData) (request : RequestParts) (own : Bool) (n : ℕ) → own ≡ names_own home who requests request.to → number_in (address_of home request.to) ≡ Some n → option_map (entry_effect own requests request) (numbered n requests) ≡ naming_by home who requests request
names_effect home who requests request own n is named =
    let at : Option ℕ → Option LaterEntryData = λ k. option_and_then (λ (m : ℕ). numbered m requests) k in
    named_effect home who requests request own (numbered n requests) (is ∙ ap (λ (k : Option ℕ). option_map_or (owns home who) (at k) false) named)
    ∙ sym (ap (λ (k : Option ℕ). option_map (originator_effect home who requests request) (at k)) named)

-- it is named by none
pub names_nothing : (home : HomeData) (who : List ℕ) (requests : LaterRequestsData) (request : RequestParts) → number_in (address_of home request.to) ≡ None → None ≡ naming_by home who requests request
names_nothing home who requests request none =
    sym (ap (λ (k : Option ℕ). option_map (originator_effect home who requests request) (option_and_then (λ (m : ℕ). numbered m requests) k)) none)

-- ---- a status

pub heard_not_blocking : (told : Rsc) → is_status told NonBlocking ≡ true → is_heard told ≡ true
heard_not_blocking told is = or_left _ _ is

pub heard_absent : (told : Rsc) → is_status told NotFound ≡ true → is_heard told ≡ true
heard_absent told is = or_right _ _ is

pub effect_not_blocking : (home : HomeData) (who : List ℕ) (requests : LaterRequestsData) (moment : ℕ) (request : RequestParts) (told : Rsc) → is_status told NonBlocking ≡ true → acceptance_by home who requests moment request ≡ later_effect_by home who requests moment request told
effect_not_blocking home who requests moment request told is =
    sym (ap (λ (b : Bool). if b then acceptance_by home who requests moment request else (if is_status told NotFound then naming_by home who requests request else None)) is)

pub effect_absent : (home : HomeData) (who : List ℕ) (requests : LaterRequestsData) (moment : ℕ) (request : RequestParts) (told : Rsc) → is_status told NonBlocking ≡ false → is_status told NotFound ≡ true → naming_by home who requests request ≡ later_effect_by home who requests moment request told
effect_absent home who requests moment request told other is =
    sym (ap (λ (b : Bool). if b then acceptance_by home who requests moment request else (if is_status told NotFound then naming_by home who requests request else None)) other
    ∙ ap (λ (b : Bool). if b then naming_by home who requests request else None) is)

pub effect_other : (home : HomeData) (who : List ℕ) (requests : LaterRequestsData) (moment : ℕ) (request : RequestParts) (told : Rsc) → is_status told NonBlocking ≡ false → is_status told NotFound ≡ false → None ≡ later_effect_by home who requests moment request told
effect_other home who requests moment request told blocks there =
    sym (ap (λ (b : Bool). if b then acceptance_by home who requests moment request else (if is_status told NotFound then naming_by home who requests request else None)) blocks
    ∙ ap (λ (b : Bool). if b then naming_by home who requests request else None) there)

-- ---- whether a request is acceptable, by what it says

pub acceptable_as : (home : HomeData) (requests : LaterRequestsData) (request : RequestParts) (here : Bool) (number : Option ℕ) (told : Bool) → told ≡ (wants_later request && here && not (is_some (option_and_then (λ (n : ℕ). numbered n requests) number))) → here ≡ is_here (address_of home request.to) → number ≡ number_in (address_of home request.to) → told ≡ is_acceptable home requests request
acceptable_as home requests request here number told is at named =
    is ∙ ap (λ (b : Bool). wants_later request && b && not (is_some (option_and_then (λ (n : ℕ). numbered n requests) number))) at
    ∙ ap (λ (k : Option ℕ). wants_later request && is_here (address_of home request.to) && not (is_some (option_and_then (λ (n : ℕ). numbered n requests) k))) named

pub accepted_effect : (home : HomeData) (who : List ℕ) (requests : LaterRequestsData) (moment : ℕ) (request : RequestParts) (effect : LaterEffect) → is_acceptable home requests request ≡ true → effect ≡ taken_up_if_room requests who request moment → Some effect ≡ acceptance_by home who requests moment request
accepted_effect home who requests moment request effect fits is =
    ap Some is ∙ sym (ap (λ (b : Bool). if b then Some (taken_up_if_room requests who request moment) else None) fits)

pub none_accepted : (home : HomeData) (who : List ℕ) (requests : LaterRequestsData) (moment : ℕ) (request : RequestParts) → is_acceptable home requests request ≡ false → None ≡ acceptance_by home who requests moment request
none_accepted home who requests moment request other =
    sym (ap (λ (b : Bool). if b then Some (taken_up_if_room requests who request moment) else None) other)
