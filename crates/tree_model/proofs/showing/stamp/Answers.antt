use Rattle.std.proofs.Common.{◌≡◌, true, ap, ◌∙◌}
use Rattle.std.proofs.lemmas.Bool.{OnTrue_at}
use Rattle.m2m_names.proofs.StampTextLemmas.{stamp_utf8}
use Rattle.m2m_value.specs.Data.{text}
use Rattle.tree_model.specs.Shown.{shown_moment}
use Rattle.tree_model.proofs.showing.stamp.Goals as goal

pub of_text-requires : goal.of_text-requires
of_text-requires c =
    let written : c.write_stamp-written.result ≡ true = c.write_stamp-written.ensures.succeeds.1 c.requires in
    rw (c.in_ok-from_slice.ensures) (stamp_utf8 _ c.args.moment (OnTrue_at written c.write_stamp-written.ensures.means))

pub returns : goal.returns
unfolding shown_moment
returns c =
    let written : c.write_stamp-written.result ≡ true = c.write_stamp-written.ensures.succeeds.1 c.requires in
    c.of_text.ensures ∙ ap text (c.in_ok-from_slice.ensures ∙ OnTrue_at written c.write_stamp-written.ensures.ok)
