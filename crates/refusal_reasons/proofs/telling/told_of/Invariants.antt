use Rattle.std.proofs.Common.{◌≡◌, [], drop, map}
use Rattle.std.specs.Option.{option_copied}
use Rattle.refusal_reasons.specs.Texts.{told_of, with_others}
use Rattle.refusal_reasons.proofs.telling.told_of.Given as goal

-- what is told of the causes that are left, behind what was told, is what is told of all
abbrev pub invariant-loop-cause : goal.invariant-loop-cause
invariant-loop-cause l =
    with_others l.text.items (map (told_of (option_copied l.fault)) (drop l.cause-index l.causes))
    ≡ with_others [] (map (told_of (option_copied l.fault)) l.causes)
