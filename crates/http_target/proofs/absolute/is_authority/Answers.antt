use Rattle.http_target.proofs.AuthorityLemmas.{told_authority, refused_authority}
use Rattle.http_target.proofs.absolute.is_authority.Goals as goal

pub returns-in-Ok : goal.returns-in-Ok
returns-in-Ok c = told_authority c.args.text.now c.in-Ok.ensures.ok.0

pub returns-in-Err : goal.returns-in-Err
returns-in-Err c =
    refused_authority c.args.text.now c.in-Err.error c.refused.result c.refused.ensures.no c.refused.ensures.told c.in-Err.ensures.err
