use Rattle.std.proofs.Common.{◌≡◌, fold, sym, ap, ◌∙◌, false, inl, inr, map}
use Rattle.clap.specs.Simple.{App}
use Rattle.command_words.specs.Program.{has_stray, with_option}
use Rattle.command_words.proofs.ProgramLemmas.{faults_say, matches_say, program_simple, program_free}
use Rattle.command_words.proofs.StrayLemmas.{stray_says, stray_texts}
use Rattle.command_words.proofs.program.options_of.Goals as goal

pub returns-then-has_stray : goal.returns-then-has_stray
returns-then-has_stray c = stray_says _ (map (λ word. word.now) c.args.words.now) c.requires (sym (stray_texts c.args.words.now) ∙ sym c.has_stray.ensures ∙ c.if-has_stray.true)

pub returns-in-Ok : goal.returns-in-Ok
returns-in-Ok c =
    let words = map (λ word. word.now) c.args.words.now in
    let names = map (λ name. name.now) c.args.names.now in
    let app = c.in_ok-with_options.ensures ∙ ap (λ (a : App). fold with_option a names) c.bare_command.ensures in
    let clean : has_stray words ≡ false = sym (stray_texts c.args.words.now) ∙ sym c.has_stray.ensures ∙ c.if-has_stray.false in
    let rows = (c.in-Ok.ensures.matches (program_simple _ _ app c.requires)).0 in
    let fault = c.in-Ok.ensures.kinds (program_free _ _ app c.requires) in
    matches_say _ _ app c.requires words _ clean rows fault

pub returns : goal.returns
returns c =
    let words = map (λ word. word.now) c.args.words.now in
    let names = map (λ name. name.now) c.args.names.now in
    let app = c.in_ok-with_options.ensures ∙ ap (λ (a : App). fold with_option a names) c.bare_command.ensures in
    let clean : has_stray words ≡ false = sym (stray_texts c.args.words.now) ∙ sym c.has_stray.ensures ∙ c.if-has_stray.false in
    elim (c.in-Err.ensures.kinds (program_free _ _ app c.requires)) [
      | inl memory ↦ absurd (c.in_default.not-OutOfMemory (c.kind.ensures ∙ memory))
      | inr among ↦ faults_say _ _ app c.requires words _ clean among
    ]
