-- Where memory runs out in a fan-out, so many of its members are done.
use Rattle.guard_laws.proofs.Words.{◌≡◌, ℕ, take, true, false, sym, ap, ◌∙◌}
use Rattle.cse_machine.specs.Answer.{spot_asked}
use Rattle.cse_machine.proofs.MemberLemmas.{members_kept}
use Rattle.cse_machine.proofs.WayLemmas.{member_addresses}
use Rattle.cse_machine.proofs.CutLemmas.{IsHeardFan, IsLeftShort, left_short, some_done, undone}
use Rattle.guard_laws.proofs.Terms.{RequestParts, EntityData, IsCutShort, heard_members}
use Rattle.guard_laws.specs.Guard.{is_fan_point}
use Rattle.guard_laws.proofs.MemberLemmas.{MaySend}

-- the members may be sent to
pub short_send : (e : EntityData) (request : RequestParts) → IsHeardFan e request (heard_members e request) → MaySend e.home request
short_send e request fan = record { originator = fan.originator }

-- and outside a fan-out none are
fan_asked : (e : EntityData) (request : RequestParts) → is_fan_point (spot_asked e request) ≡ false → IsHeardFan e request (heard_members e request) → false ≡ true
fan_asked e request other fan = sym other ∙ ap is_fan_point fan.spot

pub alone_undone : (e : EntityData) (request : RequestParts) (done : ℕ) (after : EntityData) → is_fan_point (spot_asked e request) ≡ false → IsLeftShort e request done after → done ≡ 0
alone_undone e request done after other (undone none same) = none
alone_undone e request done after other (some_done fan left) = (let no : false ≡ true = fan_asked e request other fan in cc)

-- its moment is the one before
pub short_last : (e : EntityData) (request : RequestParts) (done : ℕ) (after : EntityData) → IsCutShort e request done after → after.last ≡ e.last
short_last e request done after short = by (left_short e request done after short)
  where
    by : IsLeftShort e request done after → after.last ≡ e.last
    by (undone none same) = ap (λ (x : EntityData). x.last) same
    by (some_done fan left) =
        ap (λ (x : EntityData). x.last) left ∙ (members_kept (take done (member_addresses e request fan.place fan.group)) e request).last
