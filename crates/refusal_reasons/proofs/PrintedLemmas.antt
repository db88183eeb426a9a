-- That texts are printable.
use Rattle.std.proofs.Common.{◌≡◌, ℕ, Bool, true, false, ◌&&◌, ◌||◌, List, [], ◌∷◌, ◌++◌, Option, Some, None, refl, map, ◌∙◌}
use Rattle.std.proofs.lemmas.Bool.{and_from, and_parts}
use Rattle.std.proofs.lemmas.List.Folds.{list_all-append}
use Rattle.std.specs.Prelude.{◌==◌, codes, if◌then◌else◌}
use Rattle.std.specs.Char.{is_ascii_graphic}
use Rattle.std.specs.List.{list_all}
use Rattle.m2m_names.specs.Name.{is_filled, is_printable}
use Rattle.m2m_names.specs.declared.codes.Rsc.{Rsc}
use Rattle.m2m_value.specs.declared.fault.ValFault.{ValFault}
use Rattle.m2m_value.specs.declared.fault.ValFault.TheVariants as value
use Rattle.primitive_json.specs.declared.fault.PrimFault.{PrimFault}
use Rattle.primitive_json.specs.declared.fault.PrimFault.TheVariants as member
use Rattle.primitive_json.specs.declared.request.RequestParts.{RequestParts}
use Rattle.resource_model.specs.Home.{HomeData}
use Rattle.http_target.specs.declared.fault.BindFault.{BindFault}
use Rattle.http_target.specs.declared.fault.BindFault.TheVariants as bind
use Rattle.attribute_rules.specs.declared.faults.AttrFault.{AttrFault}
use Rattle.attribute_rules.specs.declared.faults.AttrFault.TheVariants as attr
use Rattle.m2m_names.specs.Attributes.{attr_short}
use Rattle.refusal_reasons.specs.Causes.{causes, row_of}
use Rattle.refusal_reasons.specs.Facts.{content_fault}
use Rattle.refusal_reasons.specs.Laws.{WhatIsToldIsPrinted, is_printed}
use Rattle.refusal_reasons.specs.Texts.{reason_of, reason_of_binding, reason_of_content, reason_of_member, shown, shown_limit, told_of, unshown, with_other, with_others, words_of_value}
use Rattle.refusal_reasons.specs.declared.cause.Cause.{Cause}
use Rattle.refusal_reasons.specs.declared.cause.Cause.TheVariants as cause

abbrev Printed : List ℕ → Type 0
Printed text = list_all is_printed text ≡ true

joined : (xs ys : List ℕ) → Printed xs → Printed ys → Printed (xs ++ ys)
joined xs ys hx hy =
    list_all-append is_printed xs ys ∙ and_from (list_all is_printed xs) (list_all is_printed ys) hx hy

or_first : (x y : Bool) → x ≡ true → (x || y) ≡ true
or_first x y h = rw h refl

graphic : (text : List ℕ) → list_all is_ascii_graphic text ≡ true → Printed text
graphic [] h = refl
graphic (b ∷ text) h =
    let parts = and_parts (is_ascii_graphic b) (list_all is_ascii_graphic text) h in
    and_from (is_printed b) (list_all is_printed text) (or_first (is_ascii_graphic b) (b == 32) parts.0) (graphic text parts.1)

shown_by : (b : Bool) (name : List ℕ) → (b ≡ true → Printed name) → Printed (if b then name else unshown)
shown_by true name h = h refl
shown_by false name h = refl

shown_is : (name : List ℕ) → Printed (shown name)
shown_is name =
    shown_by (is_printable shown_limit name) name
    (λ t. graphic name (and_parts (is_filled shown_limit name) (list_all is_ascii_graphic name) t).1)

words_are : (c : Cause) → Printed (row_of c).words
words_are cause.Form = refl
words_are _ = refl

value_is : (fault : ValFault) → Printed (words_of_value fault)
value_is value.NotJson = refl
value_is _ = refl

around_is : (front name back : List ℕ) → Printed front → Printed back → Printed (front ++ (shown name ++ back))
around_is front name back f b = joined front (shown name ++ back) f (joined (shown name) back (shown_is name) b)

before_is : (front name : List ℕ) → Printed front → Printed (front ++ shown name)
before_is front name f = joined front (shown name) f (shown_is name)

content_is : (fault : AttrFault) → Printed (reason_of_content fault)
content_is attr.Shape = refl
content_is (attr.Unknown name) = before_is (codes "unknown attribute ") name refl
content_is (attr.NotAllowed a) = around_is (codes "attribute ") (attr_short a) (codes " may not be named here") refl refl
content_is (attr.Kind a) = around_is (codes "attribute ") (attr_short a) (codes " has a value of another kind") refl refl
content_is (attr.Missing a) = before_is (codes "missing attribute ") (attr_short a) refl
content_is attr.AcpiNotAlone = refl
content_is attr.OutOfMemory = refl

told_is : (fault : Option AttrFault) (c : Cause) → Printed (told_of fault c)
told_is None cause.Content = refl
told_is (Some fault) cause.Content = content_is fault
told_is fault c = words_are c

other_is : (text other : List ℕ) → Printed text → Printed other → Printed (with_other text other)
other_is [] other t o = o
other_is (b ∷ bytes) other t o = joined (b ∷ bytes) (codes ", or " ++ other) t (joined (codes ", or ") other refl o)

others_are : (fault : Option AttrFault) (text : List ℕ) (cs : List Cause) → Printed text → Printed (with_others text (map (told_of fault) cs))
others_are fault text [] t = t
others_are fault text (c ∷ cs) t =
    others_are fault (with_other text (told_of fault c)) cs (other_is text (told_of fault c) t (told_is fault c))

binding_is : (fault : BindFault) → Printed (reason_of_binding fault)
binding_is bind.Method = refl
binding_is bind.Target = refl
binding_is (bind.Header name) =
    around_is (codes "header ") name (codes " stands twice, or has a value of another kind") refl refl
binding_is (bind.Missing name) = before_is (codes "missing ") name refl
binding_is (bind.Query key) =
    around_is (codes "query ") key (codes " is unknown, stands twice, or has a value of another kind") refl refl
binding_is (bind.Body fault) = joined (codes "the body has ") (words_of_value fault) refl (value_is fault)
binding_is bind.OutOfMemory = refl

member_is : (fault : PrimFault) → Printed (reason_of_member fault)
member_is (member.Missing name) = before_is (codes "missing ") name refl
member_is (member.Bad name) =
    around_is (codes "member ") name (codes " is unknown, or has a value of another kind") refl refl
member_is member.OutOfMemory = refl

pub all_printed : WhatIsToldIsPrinted
all_printed = record {
  requests = λ home request code. others_are (content_fault request) [] (causes home request code) refl;
  messages = binding_is;
  objects = member_is;
}
