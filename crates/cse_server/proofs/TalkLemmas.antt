-- The talk of frames that are joined.
use Rattle.std.proofs.Common.{◌≡◌, ℕ, ◌+◌, Bool, true, false, List, [], ◌∷◌, ◌++◌, length, Option, Some, None, IfSome, IsTrue, cond, inl, inr, refl, sym, ap, subst, ◌∙◌, arith, append_assoc, append-nil}
use Rattle.std.proofs.lemmas.Bool.{cases_Bool, true≢false}
use Rattle.std.specs.List.{cons_option, flat_map}
use Rattle.std.proofs.lemmas.Grind.{flat_map-append}
use Rattle.std.proofs.lemmas.List.Elements.{filter_map-append}
use Rattle.primitive_json.specs.declared.request.RequestParts.{RequestParts}
use Rattle.http_frames.specs.declared.frame.Frame.{Frame}
use Rattle.http_binding.specs.Replying.{reply_text}
use Rattle.primitive_json.specs.declared.reply.ReplyParts.{ReplyParts}
use Rattle.cse_server.specs.Closing.{closes}
use Rattle.m2m_value.specs.Sound.{IsSound}
use Rattle.cse_server.specs.Talk.{SaySound, request_in, requests_in, reply_for, replies_behind, reply_texts, last_reply, talk, talk_texts, texts_to, some_closes, ends_at_close}
use Rattle.cse_server.specs.Connection.{itself}

-- ---- places

next_place : (xs : List Frame) (x : Frame) (place : ℕ) → (place + 1) + length xs ≡ place + length (x ∷ xs)
next_place xs x place = omega arith

no_place : (place : ℕ) → place ≡ place + length {A = Frame} []
no_place place = omega arith

-- none of the frames closes: not the first, and none behind it
first_open : (x : Frame) (xs : List Frame) (place : ℕ) → some_closes (x ∷ xs) place ≡ false → closes place x ≡ false
first_open x xs place stays = elim (cases_Bool (closes place x)) [
  | inl t ↦ absurd (true≢false (rw t at stays))
  | inr f ↦ f
]

rest_open : (x : Frame) (xs : List Frame) (place : ℕ) → some_closes (x ∷ xs) place ≡ false → some_closes xs (place + 1) ≡ false
rest_open x xs place stays = rw (first_open x xs place stays) at stays

pub none_left : (q : RequestParts) (rest : List RequestParts) → length {A = ReplyParts} [] ≡ length (q ∷ rest) → ⊥
none_left q rest e = omega (arith, e)

pub some_left : (o : ReplyParts) (rs : List ReplyParts) → length (o ∷ rs) ≡ 0 → ⊥
some_left o rs e = omega (arith, e)

-- ---- joined

pub some_closes-append : (xs ys : List Frame) (place : ℕ) → some_closes xs place ≡ false → some_closes (xs ++ ys) place ≡ some_closes ys (place + length xs)
some_closes-append [] ys place stays = ap (some_closes ys) (no_place place)
some_closes-append (x ∷ xs) ys place stays =
    rw (first_open x xs place stays)
    (some_closes-append xs ys (place + 1) (rest_open x xs place stays) ∙ ap (some_closes ys) (next_place xs x place))

-- frames of which none closes, and then frames up to the first that does
pub ends_at_close-append : (xs ys : List Frame) (place : ℕ) → some_closes xs place ≡ false → IsTrue (ends_at_close ys (place + length xs)) → IsTrue (ends_at_close (xs ++ ys) place)
ends_at_close-append [] ys place stays ends = subst (λ (n : ℕ). IsTrue (ends_at_close ys n)) (sym (no_place place)) ends
ends_at_close-append (x ∷ xs) ys place stays ends = behind (xs ++ ys) (ends_at_close-append xs ys (place + 1) (rest_open x xs place stays) (subst (λ (n : ℕ). IsTrue (ends_at_close ys n)) (sym (next_place xs x place)) ends))
  where
    behind : (zs : List Frame) → IsTrue (ends_at_close zs (place + 1)) → IsTrue (ends_at_close (x ∷ zs) place)
    behind [] h = refl
    behind (z ∷ zs) h = rw (first_open x xs place stays) h

pub requests_in-append : (xs ys : List Frame) → requests_in (xs ++ ys) ≡ requests_in xs ++ requests_in ys
requests_in-append xs ys = filter_map-append request_in xs ys

-- as many replies as requests are used up by them
pub behind_append : (r : Option RequestParts) (rest : List RequestParts) (rs more : List ReplyParts) → length rs ≡ length (cons_option r rest) → replies_behind r (rs ++ more) ≡ replies_behind r rs ++ more
behind_append None rest rs more same = refl
behind_append (Some q) rest [] more same = absurd (none_left q rest same)
behind_append (Some q) rest (o ∷ rs) more same = refl

pub behind_length : (r : Option RequestParts) (rest : List RequestParts) (rs : List ReplyParts) → length rs ≡ length (cons_option r rest) → length (replies_behind r rs) ≡ length rest
behind_length None rest rs same = same
behind_length (Some q) rest [] same = absurd (none_left q rest same)
behind_length (Some q) rest (o ∷ rs) same = omega (arith, same)

reply_same : (frame : Frame) (r : Option RequestParts) (rest : List RequestParts) (rs more : List ReplyParts) → length rs ≡ length (cons_option r rest) → reply_for frame r (rs ++ more) ≡ reply_for frame r rs
reply_same frame None rest rs more same = refl
reply_same frame (Some q) rest [] more same = absurd (none_left q rest same)
reply_same frame (Some q) rest (o ∷ rs) more same = refl

pub reply_texts-append : (xs ys : List Frame) (place : ℕ) (rs more : List ReplyParts) → some_closes xs place ≡ false → length rs ≡ length (requests_in xs) → reply_texts (xs ++ ys) place (rs ++ more) ≡ reply_texts xs place rs ++ reply_texts ys (place + length xs) more
reply_texts-append [] ys place [] more stays same = ap (λ n. reply_texts ys n more) (no_place place)
reply_texts-append [] ys place (o ∷ rs) more stays same = absurd (some_left o rs same)
reply_texts-append (x ∷ xs) ys place rs more stays same =
    let r = request_in x in
    let left = replies_behind r rs in
    let text = reply_text (reply_for x r rs) false in
    let again : length left ≡ length (requests_in xs) = behind_length r (requests_in xs) rs same in
    let rest = reply_texts-append xs ys (place + 1) left more (rest_open x xs place stays) again in
    rw (first_open x xs place stays, reply_same x r (requests_in xs) rs more same, behind_append r (requests_in xs) rs more same)
    (ap (λ v. text ++ v) (rest ∙ ap (λ n. reply_texts xs (place + 1) left ++ reply_texts ys n more) (next_place xs x place)) ∙ sym (append_assoc text (reply_texts xs (place + 1) left) (reply_texts ys (place + length (x ∷ xs)) more)))

pub texts_to-append : (xs ys : List Frame) (place : ℕ) (rs more : List ReplyParts) → some_closes xs place ≡ false → length rs ≡ length (requests_in xs) → texts_to (xs ++ ys) place (rs ++ more) ≡ texts_to xs place rs ++ texts_to ys (place + length xs) more
texts_to-append [] ys place [] more stays same = ap (λ n. texts_to ys n more) (no_place place)
texts_to-append [] ys place (o ∷ rs) more stays same = absurd (some_left o rs same)
texts_to-append (x ∷ xs) ys place rs more stays same =
    let r = request_in x in
    let left = replies_behind r rs in
    let text = reply_text (reply_for x r rs) false in
    let again : length left ≡ length (requests_in xs) = behind_length r (requests_in xs) rs same in
    let rest = texts_to-append xs ys (place + 1) left more (rest_open x xs place stays) again in
    rw (first_open x xs place stays, reply_same x r (requests_in xs) rs more same, behind_append r (requests_in xs) rs more same)
    (ap (λ v. text ∷ v) (rest ∙ ap (λ n. texts_to xs (place + 1) left ++ texts_to ys n more) (next_place xs x place)))

pub talk_texts-append : (xs ys : List Frame) (place : ℕ) (refused : Bool) (rs more : List ReplyParts) → some_closes xs place ≡ false → length rs ≡ length (requests_in xs) → talk_texts place (xs ++ ys) refused (rs ++ more) ≡ texts_to xs place rs ++ talk_texts (place + length xs) ys refused more
talk_texts-append xs ys place refused rs more stays same =
    ap (λ v. v ++ cond refused (last_reply ∷ []) []) (texts_to-append xs ys place rs more stays same)
    ∙ append_assoc (texts_to xs place rs) (texts_to ys (place + length xs) more) (cond refused (last_reply ∷ []) [])

-- the text that is said to one frame
pub texts_to-one : (frame : Frame) (place : ℕ) (rs : List ReplyParts) → texts_to (frame ∷ []) place rs ≡ reply_text (reply_for frame (request_in frame) rs) (closes place frame) ∷ []
texts_to-one frame place rs = elim (cases_Bool (closes place frame)) [
  | inl t ↦ rw t refl
  | inr f ↦ rw f refl
]

-- the texts are all that is said
texts_said : (xs : List Frame) (place : ℕ) (rs : List ReplyParts) → flat_map itself (texts_to xs place rs) ≡ reply_texts xs place rs
texts_said [] place rs = refl
texts_said (x ∷ xs) place rs = elim (cases_Bool (closes place x)) [
  | inl t ↦ rw t refl
  | inr f ↦ rw f (ap (λ v. reply_text (reply_for x (request_in x) rs) false ++ v) (texts_said xs (place + 1) (replies_behind (request_in x) rs)))
]

last_said : (refused : Bool) → flat_map itself (cond refused (last_reply ∷ []) []) ≡ cond refused last_reply []
last_said true = append-nil last_reply
last_said false = refl

pub talk_said : (place : ℕ) (xs : List Frame) (refused : Bool) (rs : List ReplyParts) → flat_map itself (talk_texts place xs refused rs) ≡ talk place xs refused rs
talk_said place xs refused rs =
    flat_map-append itself (texts_to xs place rs) (cond refused (last_reply ∷ []) [])
    ∙ (λ i. texts_said xs place rs i ++ last_said refused i)

-- what is said to frames is sound, and then what is said to others
pub SaySound-append : (xs ys : List Frame) (rs more : List ReplyParts) → length rs ≡ length (requests_in xs) → SaySound xs rs → SaySound ys more → SaySound (xs ++ ys) (rs ++ more)
SaySound-append [] ys [] more same first then = then
SaySound-append [] ys (o ∷ rs) more same first then = absurd (some_left o rs same)
SaySound-append (x ∷ xs) ys rs more same first then =
    let r = request_in x in
    let left = replies_behind r rs in
    let again : length left ≡ length (requests_in xs) = behind_length r (requests_in xs) rs same in (
      subst (λ (v : ReplyParts). IfSome v.pc IsSound) (sym (reply_same x r (requests_in xs) rs more same)) first.0,
      subst (λ (v : List ReplyParts). SaySound (xs ++ ys) v) (sym (behind_append r (requests_in xs) rs more same))
          (SaySound-append xs ys left more again first.1 then),
    )
