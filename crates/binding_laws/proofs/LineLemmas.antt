-- The caller that the lines of a request name is the one that they were written of.
use Rattle.binding_laws.proofs.Words.{◌≡◌, ℕ, ◌<◌, ◌^◌, ◌==◌, Bool, true, false, not, ◌&&◌, ◌||◌, cond, List, [], ◌∷◌, ◌++◌, length, codes, Option, Some, None, IfSome, IsTrue, refl, sym, ap, ◌∙◌, arith, Ok, Result, is_some, option_map, option_and_then, decimal, option_map_or, option_to_list, list_all}
use Rattle.binding_laws.proofs.Terms.{is_originator, is_type_number, Data, expiry_spelled, expiry_text, When, Line, values_named, and_then, caller_of, header_values, unless_empty, is_some_text, origin_field, id_field, expiry_field, type_field, length_field, admits_type, is_short_number, json_type, type_number, type_said, content_lines, content_type, close_lines, id_lines, Op, Create, Retrieve, Update, Notify, Removal, host_field, origin_lines, expiry_lines}
use Rattle.binding_laws.proofs.Facts.{cond-true, false≢true, lt-ltb}
use Rattle.primitive_json.specs.Bounds.{is_request_id}
use Rattle.primitive_json.specs.Laws.{IsShortWhen, IsWhenOfKind}
use Rattle.primitive_json.proofs.KindLemmas.{expiry_back}
use Rattle.http_frames.specs.Lines.{is_same_name}
use Rattle.http_target.specs.declared.fault.BindFault.{BindFault}
use Rattle.binding_laws.proofs.TypeLemmas.{type_back_said}

-- the lines of a request
abbrev pub lines_with : List ℕ → Option (List ℕ) → List ℕ → Option When → Option ℕ → Option Data → List ℕ → List Line
lines_with host fr id when type content size =
    ((host_field, host) ∷ (origin_lines fr ++ (id_lines (Some id) ++ expiry_lines when)))
    ++ (content_lines type content ++ ((length_field, size) ∷ close_lines true))

-- what is said of the content
abbrev said_type : Option ℕ → Option Data → Option (List ℕ)
said_type type content = option_map (λ d. content_type type) content

pub or_right : (a b : Bool) → b ≡ true → (a || b) ≡ true
or_right true b h = refl
or_right false b h = h

-- the expiry is read back
when_back : (when : When) → IsWhenOfKind when → IsShortWhen when → expiry_spelled (expiry_text when) ≡ Some when
when_back when kind short = expiry_back when kind short

-- an originator isn't empty
originator_some : (s : List ℕ) → is_originator s ≡ true → is_some_text s ≡ true
originator_some [] h = absurd (false≢true h)
originator_some (b ∷ s) h = lt-ltb 0 (length (b ∷ s)) (omega arith)

-- the types of content that an operation admits
abbrev pub admits_for : Op → List ℕ → Bool
admits_for Create value = option_map_or is_short_number (type_said value) false
admits_for Retrieve value = true
admits_for Update value = is_some (type_said value)
admits_for Removal value = true
admits_for Notify value = option_map_or is_short_number (type_said value) false

short_so : (type : Option ℕ) → IfSome type (λ n. IsTrue (is_type_number n)) → is_short_number type ≡ true
short_so None h = refl
short_so (Some n) h = h

kind_for : (op : Op) (type : Option ℕ) → IfSome type (λ n. IsTrue (is_type_number n)) → admits_for op (content_type type) ≡ true
kind_for Create type h = ap (λ o. option_map_or is_short_number o false) (type_back_said type h) ∙ short_so type h
kind_for Retrieve type h = refl
kind_for Update type h = ap is_some (type_back_said type h)
kind_for Removal type h = refl
kind_for Notify type h = ap (λ o. option_map_or is_short_number o false) (type_back_said type h) ∙ short_so type h

-- what one part says, and then the others
pub part_so : {A B : Type 0} (part : Result A BindFault) (value : A) (next : A → Result B BindFault) → part ≡ Ok value → and_then part next ≡ next value
part_so part value next is = ap (λ r. and_then r next) is

-- two parts, of which the second is read from the first
two_so : {A B C : Type 0} (a : Result A BindFault) (x : A) (more : A → Result B BindFault) (y : B) (last : A → B → Result C BindFault)
    → a ≡ Ok x → more x ≡ Ok y → and_then a (λ x. and_then (more x) (λ y. last x y)) ≡ last x y
two_so a x more y last p q = ap (λ r. and_then r (λ x. and_then (more x) (λ y. last x y))) p ∙ ap (λ r. and_then r (λ y. last x y)) q

origin_told : (fr : Option (List ℕ)) → IfSome fr (λ s. IsTrue (is_originator s)) → unless_empty fr ≡ fr
origin_told None h = refl
origin_told (Some s) h = cond-true _ _ _ (originator_some s h)

expiry_told : (when : Option When) → IfSome when IsWhenOfKind → IfSome when IsShortWhen
    → option_and_then expiry_spelled (option_map expiry_text when) ≡ when
expiry_told None kind short = refl
expiry_told (Some when) kind short = when_back when kind short

-- the number of the type is told where there is content
kind_told : (type : Option ℕ) (content : Option Data) → IfSome type (λ n. IsTrue (is_type_number n)) → (is_some type ≡ true → is_some content ≡ true)
    → option_and_then type_number (said_type type content) ≡ type
kind_told None None h there = refl
kind_told (Some n) None h there = absurd (false≢true (there refl))
kind_told type (Some d) h there = ap (option_and_then (λ said. said)) (type_back_said type h)

values_back : (method : _) (op : Op) (host : List ℕ) (fr : Option (List ℕ)) (id : List ℕ) (when : Option When) (type : Option ℕ) (content : Option Data) (size : List ℕ)
    → ((value : List ℕ) → admits_type method value ≡ admits_for op value)
    → IfSome fr (λ s. IsTrue (is_originator s)) → IsTrue (is_request_id id) → IfSome when IsWhenOfKind → IfSome when IsShortWhen
    → IfSome type (λ n. IsTrue (is_type_number n))
    → header_values method (lines_with host fr id when type content size)
    ≡ Ok (record { origin = fr; id = Some id; expiry = option_map expiry_text when; type = said_type type content })
unfolding is_same_name
values_back method op host None id None type None size admits origin_is id_is kind short number = rw id_is refl
values_back method op host None id None type (Some d) size admits origin_is id_is kind short number = rw (id_is, admits (content_type type) ∙ kind_for op type number) refl
values_back method op host None id (Some w) type None size admits origin_is id_is kind short number = rw (id_is, ap is_some (when_back w kind short)) refl
values_back method op host None id (Some w) type (Some d) size admits origin_is id_is kind short number = rw (id_is, ap is_some (when_back w kind short), admits (content_type type) ∙ kind_for op type number) refl
values_back method op host (Some s) id None type None size admits origin_is id_is kind short number = rw (or_right (not (is_some_text s)) (is_originator s) origin_is, id_is) refl
values_back method op host (Some s) id None type (Some d) size admits origin_is id_is kind short number = rw (or_right (not (is_some_text s)) (is_originator s) origin_is, id_is, admits (content_type type) ∙ kind_for op type number) refl
values_back method op host (Some s) id (Some w) type None size admits origin_is id_is kind short number = rw (or_right (not (is_some_text s)) (is_originator s) origin_is, id_is, ap is_some (when_back w kind short)) refl
values_back method op host (Some s) id (Some w) type (Some d) size admits origin_is id_is kind short number = rw (or_right (not (is_some_text s)) (is_originator s) origin_is, id_is, ap is_some (when_back w kind short), admits (content_type type) ∙ kind_for op type number) refl

pub caller_back : (method : _) (op : Op) (host : List ℕ) (fr : Option (List ℕ)) (id : List ℕ) (when : Option When) (type : Option ℕ) (content : Option Data) (size : List ℕ)
    → ((value : List ℕ) → admits_type method value ≡ admits_for op value)
    → IfSome fr (λ s. IsTrue (is_originator s)) → IsTrue (is_request_id id) → IfSome when IsWhenOfKind → IfSome when IsShortWhen
    → IfSome type (λ n. IsTrue (is_type_number n)) → (is_some type ≡ true → is_some content ≡ true)
    → caller_of method (lines_with host fr id when type content size) ≡ Ok (record { originator = fr; id = id; expiry = when; type = type })
caller_back method op host fr id when type content size admits origin_is id_is kind short number there =
    let values = values_back method op host fr id when type content size admits origin_is id_is kind short number in
    two_so _ (record { origin = fr; id = Some id; expiry = option_map expiry_text when; type = said_type type content }) _ id
    (λ values id. Ok (record {
      originator = unless_empty values.origin;
      id = id;
      expiry = option_and_then expiry_spelled values.expiry;
      type = option_and_then type_number values.type;
    })) values refl
    ∙ (λ i. Ok (record { originator = origin_told fr origin_is i; id = id; expiry = expiry_told when kind short i; type = kind_told type content number there i }))
