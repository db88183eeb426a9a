use Rattle.std.proofs.Common.{[], ◌∷◌, ◌++◌, refl, ap, ◌∙◌, append_assoc}
use Rattle.http_binding.specs.Replying.{body_of}
use Rattle.http_binding.proofs.ReplyLemmas.{reply_made}
use Rattle.http_binding.proofs.writing.head_for.Goals as goal

pub returns : goal.returns
returns c =
    let body = body_of c.args.parts.now.pc in
    reply_made c.args.parts.now c.args.close c.args.len c.reserve.new.self.items body
    c.append_primitive.new.out.items c.append_framing.new.out.items (c.extend_from_slice.new.self.items ++ body)
    (c.reserve.ensures.items ∙ c.clear.ensures.items) c.requires refl
    c.in_ok-append_primitive.ensures c.in_ok-append_framing.ensures
    (ap (λ t. t ++ body) c.in_ok-extend_from_slice.ensures.items ∙ append_assoc c.append_framing.new.out.items (13 ∷ 10 ∷ []) body)
