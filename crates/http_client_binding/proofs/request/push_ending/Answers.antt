use Rattle.std.proofs.Common.{true}
use Rattle.std.specs.Fmt.{decimal}
use Rattle.http_binding.specs.Headers.{length_field}
use Rattle.http_binding.specs.Replying.{close_lines}
use Rattle.http_client_binding.proofs.LineLemmas.{line_and_more}
use Rattle.http_client_binding.proofs.request.push_ending.Goals as goal

pub returns : goal.returns
returns c =
    line_and_more c.push_close.result c.args.lines.now.items c.push_length.new.lines.items c.push_close.new.lines.items (close_lines true)
    (length_field, decimal c.args.len) c.in_ok-push_length.ensures c.push_close.ensures
