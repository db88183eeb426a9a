-- The frame of a request to a URL (TS-0009, 6.2 to 6.5; RFC 9112, sections 3 to 6).
use Rattle.std.specs.Prelude.{ℕ, true, List, [], ◌∷◌, ◌++◌, codes, Option, Some, None}
use Rattle.http_uri.specs.Grammar.{or_slash}
use Rattle.primitive_json.specs.Writing.{expiry_text}
use Rattle.primitive_json.specs.declared.request.RequestParts.{RequestParts}
use Rattle.primitive_json.specs.declared.request.When.{When}
use Rattle.http_frames.specs.declared.frame.Start.TheVariants.{Ask}
use Rattle.http_frames.specs.declared.frame.Frame.{Frame}
use Rattle.http_frames.specs.Lines.{Line}
use Rattle.http_frames.specs.Text.{frame_text}
use Rattle.http_binding.specs.Binding.{created_type}
use Rattle.http_binding.specs.Headers.{origin_field, expiry_field}
use Rattle.http_binding.specs.Methods.{method_text}
use Rattle.http_binding.specs.Replying.{body_of, id_lines, body_lines, written_minor}
use Rattle.http_client_binding.specs.declared.target.Aim.{Aim}
use Rattle.http_client_binding.specs.declared.target.Aim.TheVariants.{Direct, Peer}
use Rattle.http_client_binding.specs.TargetWriting.{host_of, path_and_query_of, root_path}
use Rattle.http_client_binding.specs.TargetWriting.{path_of_address}
use Rattle.http_client_binding.specs.QueryWriting.{query_text, query_part}

-- the target: that of the URL alone, or that of the request at the entity to which the URL leads
abbrev pub target_text : RequestParts → List ℕ → Aim → List ℕ
target_text r url Direct = or_slash (path_and_query_of url)
target_text r url Peer =
    root_path url ++ path_of_address r.to ++ query_part (query_text r)

-- ---- the lines (TS-0009, 6.4)

-- the name of the field that says which host is asked (RFC 9110, section 7.2)
abbrev pub host_field : List ℕ
host_field = codes "Host"

-- the lines that say who asks, and when the request expires
abbrev pub origin_lines : Option (List ℕ) → List Line
origin_lines None = []
origin_lines (Some originator) = (origin_field, originator) ∷ []

-- The line that says when the request expires, where that is said (TS-0009, 6.4).
abbrev pub expiry_lines : Option When → List Line
expiry_lines None = []
expiry_lines (Some when) = (expiry_field, expiry_text when) ∷ []

-- the lines that speak of host and caller
abbrev pub caller_lines : RequestParts → List ℕ → List Line
caller_lines r url =
    (host_field, host_of url)
    ∷ (origin_lines r.fr ++ (id_lines (Some r.rqi) ++ expiry_lines r.rqet))

-- The header lines that speak of the body, and of the connection, which closes behind the reply.
abbrev pub ending_lines : RequestParts → List Line
ending_lines r = body_lines (created_type r.op r.ty) r.pc true

-- ---- the frame

-- the frame of a request to a URL
abbrev pub request_frame : RequestParts → List ℕ → Aim → Frame
request_frame r url aim = record {
  start = Ask (method_text r.op) (target_text r url aim) written_minor;
  lines = caller_lines r url ++ ending_lines r;
  body = body_of r.pc;
}

-- what is written to the host of a URL for a request
abbrev pub request_text : RequestParts → List ℕ → Aim → List ℕ
request_text r url aim = frame_text (request_frame r url aim)
