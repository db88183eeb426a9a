-- What a reply keeps.
use Rattle.std.specs.Prelude.{IfSome, IsUtf8}
use Rattle.primitive_json.specs.declared.reply.ReplyParts.{ReplyParts}

-- The request identifier of a reply is UTF-8; the content keeps its own (TS-0001, 8.1.3).
abbrev pub IsSoundReply : ReplyParts → Type 0
IsSoundReply r = IfSome r.rqi IsUtf8
