use Rattle.std.proofs.Common.{◌≡◌, true, ◌∙◌}
use Rattle.std.proofs.lemmas.Bool.{OnTrue_at}
use Rattle.m2m_names.proofs.StampTextLemmas.{stamp_utf8}
use Rattle.filter_criteria.proofs.values.moment_text.Goals as goal

pub returns : goal.returns
returns c =
    let written : c.write_stamp-written.result ≡ true = c.write_stamp-written.ensures.succeeds.1 c.requires in
    record {
      value = c.in_ok-from_slice.ensures ∙ OnTrue_at written c.write_stamp-written.ensures.ok;
      utf8 = rw (c.in_ok-from_slice.ensures) (stamp_utf8 _ c.args.at (OnTrue_at written c.write_stamp-written.ensures.means));
    }
