-- What a line is that was taken.
use Rattle.std.proofs.Common.{◌≡◌, ℕ, Bool, true, false, List, drop, length, Option, Some, None, option_and_then, option_map, if◌then◌else◌, ◌&&◌, inl, inr, refl, sym, ap, ◌∙◌, subst}
use Rattle.std.specs.Prelude.{nat_eq, nat_le, nat_lt}
use Rattle.std.specs.List.{starts_with}
use Rattle.std.specs.Option.{option_map_or}
use Rattle.std.specs.Str.{bytes_eq}
use Rattle.std.proofs.lemmas.Bool.{cases_Bool, false≢true}
use Rattle.std.proofs.lemmas.Option.{same_Some}
use Rattle.std.proofs.lemmas.Slice.Eq.{bytes_eq-Decides}
use Rattle.m2m_names.specs.Name.{is_originator}
use Rattle.primitive_json.specs.declared.request.RequestParts.{RequestParts}
use Rattle.resource_model.specs.Home.{HomeData}
use Rattle.addressing.specs.Short.{short_of, shortened}
use Rattle.group_fanout.specs.Rights.{claimed_originator}
use Rattle.primitive_replay.specs.Lines.{line_at, line_limit, line_read, most_lines}
use Rattle.primitive_replay.specs.declared.line.Line.{Line}
use Rattle.primitive_replay.specs.declared.line.Line.TheVariants.{Empty, Reading, Ask}
use Rattle.twin_replay.specs.Forms.{as_mark, asked_on, asking_line, comparing_line, form_of, is_from, is_own_short, left_line, left_mark, opening_line, request_line, right_line, right_mark}
use Rattle.twin_replay.specs.declared.lines.Part.{Part}
use Rattle.twin_replay.specs.declared.lines.Part.TheVariants.{Before, LeftSide, RightSide, Asking}
use Rattle.twin_replay.specs.declared.lines.TwinLine.{TwinLine}
use Rattle.twin_replay.specs.declared.lines.TwinLine.TheVariants.{OpensLeft, PreparesLeft, OpensRight, PreparesRight, Compares, AsksBoth}

-- ---- a choice that gives something

then_some : {A : Type 0} (b : Bool) (x : Option A) (y : A) → (if b then x else None) ≡ Some y → (b ≡ true) × (x ≡ Some y)
then_some true x y e = (refl, e)
then_some false x y e = cc

either_some : {A : Type 0} (b : Bool) (x z : Option A) (y : A) → (if b then x else z) ≡ Some y → (x ≡ Some y → ⊥) → (z ≡ Some y → ⊥) → ⊥
either_some true x z y e first second = first e
either_some false x z y e first second = second e

after_some : {A B : Type 0} (f : A → Option B) (x : Option A) (y : B) → option_and_then f x ≡ Some y → (a : A) × (f a ≡ Some y)
after_some f None y e = cc
after_some f (Some a) y e = (a, e)

-- a line that is taken has its form
pub has_form : {L : Type 0} (form : List ℕ → Option L) (place : ℕ) (text : List ℕ) (line : L) → line_at form place text ≡ Some line → form text ≡ Some line
has_form form place text line e = (then_some (nat_le place most_lines && nat_le (length text) line_limit) (form text) line e).1

-- ---- the line that compares both sides

no_left : (o : List ℕ) (x : Option Line) → option_map PreparesLeft x ≡ Some (Compares o) → ⊥
no_left o None e = cc
no_left o (Some line) e = cc

no_right : (o : List ℕ) (x : Option Line) → option_map PreparesRight x ≡ Some (Compares o) → ⊥
no_right o None e = cc
no_right o (Some line) e = cc

same_name : (o name : List ℕ) → Some (Compares name) ≡ Some (Compares o) → name ≡ o
same_name o name e = cc

own-named : (home : HomeData) (o name : List ℕ) → comparing_line home name ≡ Some (Compares o) → is_own_short home o ≡ true
own-named home o name e =
    let some = then_some (is_own_short home name) (Some (Compares name)) (Compares o) e in
    subst (λ (v : List ℕ). is_own_short home v ≡ true) (same_name o name some.1) some.0

on_right : (home : HomeData) (o text : List ℕ) (b : Bool) → (if b then comparing_line home (drop (length as_mark) text) else option_map PreparesRight (line_read text)) ≡ Some (Compares o) → is_own_short home o ≡ true
on_right home o text true e = own-named home o (drop (length as_mark) text) e
on_right home o text false e = absurd (no_right o (line_read text) e)

no_request : (o : List ℕ) (request : RequestParts) (b : Bool) → (if b then Some (AsksBoth request) else None) ≡ Some (Compares o) → ⊥
no_request o request true e = cc
no_request o request false e = cc

no_asking : (o by : List ℕ) (line : Line) → asked_on by line ≡ Some (Compares o) → ⊥
no_asking o by Empty e = cc
no_asking o by (Reading moment) e = cc
no_asking o by (Ask request) e = no_request o request (is_from by request) e

-- an originator for which both sides are compared is spelled in its own short form
pub own_short : (part : Part) (home : HomeData) (text o : List ℕ) → form_of home part text ≡ Some (Compares o) → is_own_short home o ≡ true
own_short Before home text o e = let some = then_some (bytes_eq text left_mark) (Some OpensLeft) (Compares o) e in let clash = some.1 in cc
own_short LeftSide home text o e =
    absurd (either_some (bytes_eq text right_mark) (Some OpensRight) (option_map PreparesLeft (line_read text)) (Compares o) e (λ is. cc) (no_left o (line_read text)))
own_short RightSide home text o e = on_right home o text (starts_with nat_eq text as_mark) e
own_short (Asking by) home text o e =
    let some = after_some (asked_on by) (line_read text) (Compares o) e in
    absurd (no_asking o by some.0 some.1)

-- ---- the lines behind it

-- a line behind the originator is a request of it
pub record IsRequestOf (o : List ℕ) (line : TwinLine) : Type 0 where
  pub request : RequestParts
  pub is : line ≡ AsksBoth request
  pub from : is_from o request ≡ true

asks_of : (o : List ℕ) (request : RequestParts) (line : TwinLine) → request_line o request ≡ Some line → IsRequestOf o line
asks_of o request line e =
    let some = then_some (is_from o request) (Some (AsksBoth request)) line e in
    record { request = request; is = sym (same_Some (AsksBoth request) line some.1); from = some.0 }

asked_of : (o : List ℕ) (read : Line) (line : TwinLine) → asked_on o read ≡ Some line → IsRequestOf o line
asked_of o Empty line e = cc
asked_of o (Reading moment) line e = cc
asked_of o (Ask request) line e = asks_of o request line e

pub behind_originator : (o text : List ℕ) (line : TwinLine) → asking_line o text ≡ Some line → IsRequestOf o line
behind_originator o text line e =
    let some = after_some (asked_on o) (line_read text) line e in
    asked_of o some.0 line some.1

-- ---- whose request it is

spelled_short : (home : HomeData) (o : List ℕ) (short : Option (List ℕ)) → option_map_or (λ (s : List ℕ). bytes_eq s o) short false ≡ true → short ≡ Some o
spelled_short home o None e = cc
spelled_short home o (Some s) e = ap Some ((bytes_eq-Decides s o).0 e)

short_is : (home : HomeData) (o : List ℕ) → is_own_short home o ≡ true → shortened home o ≡ o
short_is home o own =
    (λ (some : (b : Bool) × (Some (shortened home o) ≡ Some o)). same_Some (shortened home o) o some.1)
    (let some = then_some (is_originator o && nat_lt 0 (length (shortened home o))) (Some (shortened home o)) o (spelled_short home o (short_of home o) own) in (true, some.1))

asked_as : (home : HomeData) (o : List ℕ) (request : RequestParts) (fr : Option (List ℕ)) → request.fr ≡ fr → option_map_or (λ (f : List ℕ). bytes_eq f o) fr false ≡ true → request.fr ≡ Some o
asked_as home o request None is e = cc
asked_as home o request (Some f) is e = is ∙ ap Some ((bytes_eq-Decides f o).0 e)

-- a request that says it is an originator's, in its own short form, is judged as that one's
pub claimed : (home : HomeData) (o : List ℕ) (request : RequestParts) → is_own_short home o ≡ true → is_from o request ≡ true → claimed_originator home request ≡ o
claimed home o request own from =
    rw (asked_as home o request request.fr refl from) (short_is home o own)
