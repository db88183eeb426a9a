-- What is written of a reply is the text of its frame.
use Rattle.std.proofs.Common.{◌≡◌, ℕ, ◌+◌, ◌/◌, ◌%◌, ◌<◌, ◌≤◌, Bool, List, [], ◌∷◌, ◌++◌, length, codes, None, refl, sym, ap, ◌∙◌, arith, append_assoc}
use Rattle.std.specs.Fmt.{decimal}
use Rattle.std.specs.List.{flat_map}
use Rattle.std.proofs.lemmas.Fmt.{decimal_step, decimal_digit}
use Rattle.std.proofs.lemmas.List.Concat.{flat_map-append}
use Rattle.m2m_names.specs.StatusCodes.{rsc_row}
use Rattle.m2m_names.proofs.StatusLemmas.{http_in_range}
use Rattle.m2m_names.specs.declared.codes.Rsc.{Rsc}
use Rattle.primitive_json.specs.declared.reply.ReplyParts.{ReplyParts}
use Rattle.httparse.specs.Ascii.{crlf_bytes}
use Rattle.http_frames.specs.Text.{status_digits, phrase_of, start_text, line_text}
use Rattle.http_frames.specs.Lines.{Line}
use Rattle.http_frames.specs.declared.frame.Start.TheVariants.{Answer}
use Rattle.http_binding.specs.Headers.{code_field, length_field}
use Rattle.http_binding.specs.Replying.{body_of, content_lines, id_lines, close_lines, reply_text, written_minor}

-- a number of three digits
three_digits : (n : ℕ) → 100 ≤ n → n < 1000 → decimal n ≡ (48 + n / 10 / 10) ∷ (48 + n / 10 % 10) ∷ (48 + n % 10) ∷ []
three_digits n low high =
    decimal_step n (omega arith) (omega arith)
    ∙ ap (λ t. t ++ (48 + n % 10) ∷ []) (decimal_step (n / 10) (omega arith) (omega arith)
    ∙ ap (λ t. t ++ (48 + n / 10 % 10) ∷ []) (decimal_digit (n / 10 / 10) (omega arith)))

hundreds : (n : ℕ) → n < 1000 → n / 10 / 10 ≡ n / 100 % 10
hundreds n small = omega arith

-- an HTTP status has three digits
status_is : (rsc : Rsc) → decimal (rsc_row rsc).http ≡ status_digits (rsc_row rsc).http
status_is rsc =
    let http = (rsc_row rsc).http in
    let range = http_in_range rsc in
    three_digits http range.0 (omega (arith, range.1))
    ∙ ap (λ d. (48 + d) ∷ (48 + http / 10 % 10) ∷ (48 + http % 10) ∷ []) (hundreds http (omega (arith, range.1)))

-- the line of the HTTP status of a status code
pub start_is : (rsc : Rsc) (http : ℕ) → http ≡ (rsc_row rsc).http → codes "HTTP/1.1 " ++ (decimal http ++ (codes " " ++ (phrase_of http ++ crlf_bytes))) ≡ start_text (Answer (rsc_row rsc).http written_minor)
start_is rsc http is =
    ap (λ n. codes "HTTP/1.1 " ++ (decimal n ++ (codes " " ++ (phrase_of n ++ crlf_bytes)))) is
    ∙ ap (λ d. codes "HTTP/1.1 " ++ (d ++ (codes " " ++ (phrase_of (rsc_row rsc).http ++ crlf_bytes)))) (status_is rsc)

in_three : (old start code id : List ℕ) → ((old ++ start) ++ code) ++ id ≡ old ++ (start ++ (code ++ id))
in_three old start code id = simp append_assoc refl

-- the status line and the lines that speak of the primitive, behind what was there
pub primitive_is : (reply : ReplyParts) (number : ℕ) (old one two : List ℕ) → number ≡ (rsc_row reply.rsc).number
    → one ≡ old ++ start_text (Answer (rsc_row reply.rsc).http written_minor)
    → two ≡ one ++ line_text (code_field, decimal number)
    → two ++ flat_map line_text (id_lines reply.rqi) ≡ old ++ (start_text (Answer (rsc_row reply.rsc).http written_minor) ++ (line_text (code_field, decimal (rsc_row reply.rsc).number) ++ flat_map line_text (id_lines reply.rqi)))
primitive_is reply number old one two number_is one_is two_is =
    let start = start_text (Answer (rsc_row reply.rsc).http written_minor) in
    let code = line_text (code_field, decimal (rsc_row reply.rsc).number) in
    let id = flat_map line_text (id_lines reply.rqi) in
    ap (λ t. t ++ id) (two_is ∙ ap (λ n. one ++ line_text (code_field, decimal n)) number_is ∙ ap (λ t. t ++ code) one_is)
    ∙ in_three old start code id

lines_are : (code size : Line) (id type close : List Line) → flat_map line_text (code ∷ (id ++ (type ++ (size ∷ close)))) ≡ line_text code ++ (flat_map line_text id ++ (flat_map line_text type ++ (line_text size ++ flat_map line_text close)))
lines_are code size id type close =
    ap (λ t. line_text code ++ t) (flat_map-append line_text id (type ++ (size ∷ close))
    ∙ ap (λ t. flat_map line_text id ++ t) (flat_map-append line_text type (size ∷ close)))

-- what is appended in three parts
in_parts : (start code id type size close end body : List ℕ) → (([] ++ (start ++ (code ++ id))) ++ (type ++ (size ++ close))) ++ (end ++ body) ≡ (start ++ ((code ++ (id ++ (type ++ (size ++ close)))) ++ end)) ++ body
in_parts start code id type size close end body = simp append_assoc refl

-- three parts that were appended are the text of a reply
pub reply_made : (reply : ReplyParts) (close : Bool) (len : ℕ) (start body one two three : List ℕ) → start ≡ []
    → len ≡ length body → body ≡ body_of reply.pc
    → one ≡ start ++ (start_text (Answer (rsc_row reply.rsc).http written_minor) ++ (line_text (code_field, decimal (rsc_row reply.rsc).number) ++ flat_map line_text (id_lines reply.rqi)))
    → two ≡ one ++ (flat_map line_text (content_lines None reply.pc) ++ (line_text (length_field, decimal len) ++ flat_map line_text (close_lines close)))
    → three ≡ two ++ (crlf_bytes ++ body) → three ≡ reply_text reply close
reply_made reply close len start body one two three empty len_is body_is one_is two_is three_is =
    let first = start_text (Answer (rsc_row reply.rsc).http written_minor) in
    let code : Line = (code_field, decimal (rsc_row reply.rsc).number) in
    let id = id_lines reply.rqi in
    let type = content_lines None reply.pc in
    let size = λ (n : ℕ). line_text (length_field, decimal n) in
    let closing = close_lines close in
    let size_is : len ≡ length (body_of reply.pc) = len_is ∙ ap length body_is in
    three_is
    ∙ ap (λ t. t ++ (crlf_bytes ++ body)) (two_is ∙ ap (λ t. t ++ (flat_map line_text type ++ (size len ++ flat_map line_text closing))) one_is)
    ∙ (λ i. ((empty i ++ (first ++ (line_text code ++ flat_map line_text id))) ++ (flat_map line_text type ++ (size (size_is i) ++ flat_map line_text closing))) ++ (crlf_bytes ++ body_is i))
    ∙ in_parts first (line_text code) (flat_map line_text id) (flat_map line_text type) (size (length (body_of reply.pc))) (flat_map line_text closing) crlf_bytes (body_of reply.pc)
    ∙ ap (λ l. (first ++ (l ++ crlf_bytes)) ++ body_of reply.pc) (sym (lines_are code (length_field, decimal (length (body_of reply.pc))) id type closing))
