-- What an item of the outbox keeps.
use Rattle.std.specs.Prelude.{ℕ, List, ⊤}
use Rattle.m2m_names.specs.Urls.{IsUrl}
use Rattle.primitive_json.specs.declared.note.Dest.{Dest}
use Rattle.primitive_json.specs.declared.note.Dest.TheVariants.{Direct, Peer, Channel, Nowhere}
use Rattle.primitive_json.specs.declared.note.NoteParts.{NoteParts}

-- the text is a URL
abbrev pub IsSomeUrl : List ℕ → Type 0
IsSomeUrl text = (host_end : ℕ) × IsUrl text host_end

-- a text that it names is a URL (RFC 3986)
abbrev pub IsSoundDest : Dest → Type 0
IsSoundDest (Direct url) = IsSomeUrl url
IsSoundDest (Peer url) = IsSomeUrl url
IsSoundDest (Channel number) = ⊤
IsSoundDest Nowhere = ⊤

-- The destination of a note is sound; the request keeps its own.
abbrev pub IsSoundNote : NoteParts → Type 0
IsSoundNote n = IsSoundDest n.dest
