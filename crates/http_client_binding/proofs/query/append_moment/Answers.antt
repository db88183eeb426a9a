use Rattle.std.proofs.Common.{◌≡◌, true, OnOk, sym, subst}
use Rattle.std.proofs.lemmas.Bool.{OnTrue_at}
use Rattle.form_urlencoded.specs.Form.{append_pair, extend_pairs}
use Rattle.http_client_binding.specs.QueryWriting.{pairs_at, moment_texts}
use Rattle.http_client_binding.proofs.query.append_moment.Goals as goal

pub returns : goal.returns
returns c =
    let written : c.write_stamp-written.result ≡ true = c.write_stamp-written.ensures.succeeds.1 (c.requires _ c.in-Some.is) in
    subst (λ at. OnOk c.append_pair.result (c.append_pair.new.out.items ≡ extend_pairs c.args.out.now.items (pairs_at c.args.key.now (moment_texts at))))
    (sym c.in-Some.is)
    (subst (λ t. OnOk c.append_pair.result (c.append_pair.new.out.items ≡ append_pair c.args.out.now.items c.args.key.now t))
    (OnTrue_at written c.write_stamp-written.ensures.ok) c.append_pair.ensures)
