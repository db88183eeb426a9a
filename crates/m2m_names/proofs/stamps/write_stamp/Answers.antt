use Rattle.std.proofs.Common.{◌≡◌, ◌≤◌, List, ℕ, ◌∙◌, ap, sym, subst, arith}
use Rattle.m2m_names.specs.Stamps.{IsTimestamp, is_stamp, stamp_bytes, timestamp, last_moment}
use Rattle.m2m_names.proofs.StampLemmas.{stamp_of-moment}
use Rattle.m2m_names.proofs.StampReadingLemmas.{timestamp_is}
use Rattle.m2m_names.proofs.stamps.write_stamp.Goals as goal

pub bytes_of-requires : goal.bytes_of-requires
bytes_of-requires c =
    let last : c.args.moment ≤ last_moment = omega arith in
    ap is_stamp c.fields_of.ensures ∙ (stamp_of-moment c.args.moment last).is

pub returns-clause-means : goal.returns-clause-means
returns-clause-means c =
    let last : c.args.moment ≤ last_moment = omega arith in
    let written : c.bytes_of.result ≡ timestamp c.args.moment = c.bytes_of.ensures ∙ ap stamp_bytes c.fields_of.ensures in
    let P : List ℕ → Type 0 = λ bytes. IsTimestamp bytes c.args.moment in
    subst P (sym written) (timestamp_is c.args.moment last)
