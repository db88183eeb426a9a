-- The reply that a frame says, or its first fault (TS-0009, 6.3 to 6.5). The status of HTTP is
-- unread, so that a peer which maps status codes otherwise is understood.
use Rattle.std.specs.Prelude.{ℕ, ◌==◌, Bool, ◌&&◌, List, [], ◌∷◌, length, Option, Some, None}
use Rattle.std.specs.Prelude.{Result, Ok, Err, if◌then◌else◌}
use Rattle.std.specs.Char.{is_ascii_digit}
use Rattle.std.specs.List.{list_all}
use Rattle.std.specs.Option.{option_map_or}
use Rattle.std.specs.Str.Parse.{digits_value}
use Rattle.m2m_names.specs.StatusCodes.{rsc_of_number}
use Rattle.m2m_names.specs.declared.codes.Rsc.{Rsc}
use Rattle.m2m_value.specs.Data.{Data}
use Rattle.m2m_value.specs.Reading.{reading}
use Rattle.primitive_json.specs.declared.reply.ReplyParts.{ReplyParts}
use Rattle.http_frames.specs.declared.frame.Frame.{Frame}
use Rattle.http_frames.specs.Lines.{Line, values_named}
use Rattle.http_target.specs.declared.fault.BindFault.{BindFault}
use Rattle.http_target.specs.declared.fault.BindFault.TheVariants.{Header}
use Rattle.http_binding.specs.Binding.{value_in, echo_of}
use Rattle.http_target.specs.Chain.{and_then}
use Rattle.http_binding.specs.Headers.{code_field, is_some_text}

-- four digits
abbrev pub is_code_text : List ℕ → Bool
is_code_text text = (length text == 4) && list_all is_ascii_digit text

-- the status code that they write, which is a number from 1000
abbrev pub code_spelled : List ℕ → Option Rsc
code_spelled text = if is_code_text text then rsc_of_number (digits_value 10 text) else None

-- The status code of the only value of the field; none where there is no value, or more than one.
abbrev pub lone_code : List (List ℕ) → Option Rsc
lone_code [] = None
lone_code (value ∷ []) = code_spelled value
lone_code (value ∷ next ∷ values) = None

-- the status code that the lines tell, which has to be there
abbrev pub code_in : List Line → Result Rsc BindFault
code_in lines =
    option_map_or (λ code. Ok code) (lone_code (values_named code_field lines))
    (Err (Header code_field))

-- any value is content
abbrev pub some_content : List ℕ → Result (Option Data) BindFault
some_content body = and_then (value_in (reading body)) (λ value. Ok (Some value))

-- The content that a body is: any JSON value, and none where the body is empty.
abbrev pub content_said : List ℕ → Result (Option Data) BindFault
content_said body = if is_some_text body then some_content body else Ok None

-- the reply that a frame says, or its first fault; an identifier that stands twice, or is none, is
-- left out, and other lines are unread
abbrev pub reply_in : Frame → Result ReplyParts BindFault
reply_in frame =
    and_then (code_in frame.lines) λ code.
    and_then (content_said frame.body) λ content.
    Ok (record { rsc = code; rqi = echo_of frame; pc = content })
