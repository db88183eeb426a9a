use Rattle.std.proofs.Common.{ap, ◌∙◌}
use Rattle.clap.specs.Words.{first_of, found_of}
use Rattle.clap.proofs.WalkLemmas.{first_value-rows}
use Rattle.command_words.proofs.WalkLemmas.{first_named}
use Rattle.command_words.proofs.command.option_value.Goals as goal

pub returns : goal.returns
returns c = λ os e.
    c.get_str.ensures ∙ first_value-rows (found_of c.args.options.now) c.args.name.now ∙ ap (first_of c.args.name.now) e ∙ first_named c.args.name.now os
