use Rattle.std.proofs.Common.{◌≡◌, ◌++◌, ◌+◌, ◌<◌, ◌∷◌, ℕ, ℤ, List, Some, length, get_or, drop, drop-cons, add-one, append_assoc, ap, ◌∙◌, subst, sym, arith, rules, to_z, of_z, w64}
use Rattle.std.specs.Fmt.{signed_decimal}
use Rattle.m2m_value.specs.Data.{Data, null, boolean, number, text, list, object, elements_of, pairs_of}
use Rattle.m2m_value.specs.Node.{data_of, HaveTextKeys, IsJsonNode}
use Rattle.m2m_value.specs.Sound.{IsSound}
use Rattle.m2m_value.specs.Spelling.{comma_at, elements_from, text_of}
use Rattle.m2m_value.specs.View.{as_number}
use Rattle.m2m_value.proofs.Begins.{begins_after, begins_with_itself, on_err, on_ok_both}
use Rattle.m2m_value.proofs.Levels.{sound_object}
use Rattle.m2m_value.proofs.Nested.{items_below}
use Rattle.m2m_value.proofs.writing.+write.Goals as goal
use Rattle.m2m_value.proofs.writing.+write.Goals.{write_items-in-Some+in_ok-write_number-in-Some, write_items-in-None+in_ok-write_value-in-None}

-- what is a number has its digits as its text
number_text : (d : Data) (n : ℤ) → as_number d ≡ Some n → text_of d ≡ signed_decimal n
number_text null n e = cc
number_text (boolean b) n e = cc
number_text (number z) n e = cc
number_text (text s) n e = cc
number_text (list es) n e = cc
number_text (object ps) n e = cc

-- the elements from a place on
one_dropped : (items : List Data) (place : ℕ) (value : Data) → place < length items → value ≡ get_or items place value → drop place items ≡ value ∷ drop (place + 1) items
one_dropped items place value below is = rw add-one (drop-cons items place value below) ∙ ap (λ (d : Data). d ∷ drop (place + 1) items) (sym is)

-- what was told before one of them was written, with it and what is left
one_told : (items : List Data) (place : ℕ) (value : Data) (before now all : List ℕ) → drop place items ≡ value ∷ drop (place + 1) items
    → before ++ elements_from (elements_of (drop place items)) place ≡ all
    → now ≡ (before ++ comma_at place) ++ text_of value
    → now ++ elements_from (elements_of (drop (place + 1) items)) (place + 1) ≡ all
one_told items place value before now all next told written =
    let left = elements_from (elements_of (drop (place + 1) items)) (place + 1) in
    let whole : before ++ (comma_at place ++ (text_of value ++ left)) ≡ all = rw next at told in
    ap (λ s. s ++ left) written ∙ append_assoc (before ++ comma_at place) (text_of value) left ∙ append_assoc before (comma_at place) (text_of value ++ left) ∙ whole

pub write_items-returns-in_err-write_number-in-Some-clause-err :
    goal.write_items-returns-in_err-write_number-in-Some-clause-err
write_items-returns-in_err-write_number-in-Some-clause-err t c =
    on_err c.from_residual-in_err-write_number-in-Some.result _ (begins_after _ _ _ c.loop-place.invariant.1
    (begins_after _ _ _ (_, c.in_ok-write_comma.ensures.ok) c.in_err-write_number-in-Some.ensures.err))

pub write_items-returns-in_err-write_value-in-None-clause-err :
    goal.write_items-returns-in_err-write_value-in-None-clause-err
write_items-returns-in_err-write_value-in-None-clause-err t c =
    on_err c.from_residual-in_err-write_value-in-None.result _ (begins_after _ _ _ c.loop-place.invariant.1
    (begins_after _ _ _ (_, c.in_ok-write_comma.ensures.ok) c.in_err-write_value-in-None.ensures.err))

pub write_items-loop-place-preserved : goal.write_items-loop-place-preserved
write_items-loop-place-preserved t c =
    let below : c.loop-place.place < length c.deref-value-items.result.now = search rules in
    let next = one_dropped c.deref-value-items.result.now c.loop-place.place c.value-item.result below c.value-item.is in
    let comma = c.in_ok-write_comma.ensures.ok in
    elim c.match-as_num.branch [
      | write_items-in-Some+in_ok-write_number-in-Some w ↦
          let fits : to_z w64 (of_z w64 w.in-Some.n) ≡ w.in-Some.n = search rules in
          let digits = number_text _ _ (sym c.as_num.ensures ∙ w.in-Some.is) in
          let written : w.write_number.new.out.items ≡ c.write_comma.new.out.items ++ text_of c.value-item.result =
          rw fits at w.in_ok-write_number-in-Some.ensures.ok ∙ ap (λ s. c.write_comma.new.out.items ++ s) (sym digits) in
          let sound : IsSound c.value-item.result = search rules in
          let told = one_told _ c.loop-place.place _ _ _ _ next c.loop-place.invariant.0 (written ∙ ap (λ s. s ++ text_of c.value-item.result) comma) in
          let begins = begins_after _ _ _ c.loop-place.invariant.1 (begins_after _ _ _ (_, comma) (_, written)) in
          rw w.out-is (told, begins, λ rest. c.loop-place.invariant.2 (rw next (sound, rest)))
      | write_items-in-None+in_ok-write_value-in-None w ↦
          let written = w.in_ok-write_value-in-None.ensures.ok in
          let told = one_told _ c.loop-place.place _ _ _ _ next c.loop-place.invariant.0 (written ∙ ap (λ s. s ++ text_of c.value-item.result) comma) in
          let begins = begins_after _ _ _ c.loop-place.invariant.1 (begins_after _ _ _ (_, comma) (_, written)) in
          rw w.out-is (told, begins, λ rest. c.loop-place.invariant.2 (rw next (w.in_ok-write_value-in-None.ensures.sound, rest)))
    ]

pub write_shared-write_items-requires : goal.write_shared-write_items-requires
write_shared-write_items-requires t c =
    let below = items_below c.items.result.now c.args.shared.now c.items.ensures in
    let here = c.decreases in
    (omega (arith, below, here), tt)

pub write_members-returns-in_err-write_comma-clause-err : goal.write_members-returns-in_err-write_comma-clause-err
write_members-returns-in_err-write_comma-clause-err t c =
    on_err c.from_residual-in_err-write_comma.result _ (begins_after _ _ _ c.loop-place.invariant.1 (begins_with_itself _ _ c.in_err-write_comma.ensures.err))

pub write_members-returns-in_err-write_member-clause-err : goal.write_members-returns-in_err-write_member-clause-err
write_members-returns-in_err-write_member-clause-err t c =
    on_err c.from_residual-in_err-write_member.result _ (begins_after _ _ _ c.loop-place.invariant.1
    (begins_after _ _ _ (_, c.in_ok-write_comma.ensures.ok) c.in_err-write_member.ensures.err))

pub write_value-returns-in-Obj-clause-sound : goal.write_value-returns-in-Obj-clause-sound
write_value-returns-in-Obj-clause-sound t c =
    let seen : object (pairs_of c.in-Obj.members) ≡ c.args.value.now = ap data_of (sym c.in-Obj.is) ∙ c.value.view_is in
    let texts : HaveTextKeys c.in-Obj.members = subst IsJsonNode c.in-Obj.is c.value.invariant in
    on_ok_both c.write_members.result c.write_members.ensures.sorted c.write_members.ensures.sound
    (λ sorted sound. subst IsSound seen (sound_object c.in-Obj.members sorted texts sound))
