use Rattle.std.proofs.Common.{◌≡◌, ◌≤◌, ℕ, Option, IfSome, length, sym, ap, ◌∙◌, subst}
use Rattle.std.specs.Prelude.{option_map}
use Rattle.entity_model.specs.Entity.{EntityData}
use Rattle.later_opening.specs.Acts.{len_of}
use Rattle.later_opening.specs.Playing.{first_fitting}
use Rattle.later_opening.specs.declared.act.Act.{Act}
use Rattle.later_opening.proofs.playing.play_first.Goals as goal

-- an act is played
pub returns-clause-played : goal.returns-clause-played
returns-clause-played g c =
    let text = c.args.bytes.now in
    let read = ap (λ (e : EntityData). first_fitting e.last c.args.requests.now text) (sym c.entity.view_is) in
    record {
      act = c.in-Some.act;
      found = read ∙ sym c.in_ok-found.ensures.act ∙ ap (option_map (λ (f : Act × ℕ). f.0)) c.in-Some.is;
      size = subst (λ (o : Option (Act × ℕ)). IfSome o (λ (f : Act × ℕ). f.1 ≡ len_of f.0 text)) c.in-Some.is c.in_ok-found.ensures.len;
      within = subst (λ (o : Option (Act × ℕ)). IfSome o (λ (f : Act × ℕ). f.1 ≤ length text)) c.in-Some.is c.in_ok-found.ensures.within;
      inner = c.in_ok-play_act.ensures.inner;
      requests_are = c.in_ok-play_act.ensures.requests;
    }

-- none is there
pub returns-in_default-clause-none : goal.returns-in_default-clause-none
returns-in_default-clause-none g c =
    let text = c.args.bytes.now in
    let read = ap (λ (e : EntityData). first_fitting e.last c.args.requests.now text) (sym c.entity.view_is) in
    read ∙ sym c.in_ok-found.ensures.act ∙ ap (option_map (λ (f : Act × ℕ). f.0)) c.in_default.is
