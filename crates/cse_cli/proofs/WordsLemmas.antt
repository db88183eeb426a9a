-- What words ask for.
use Rattle.std.proofs.Common.{◌≡◌, Option, Some, None, option_map, sym, ap, ◌∙◌}
use Rattle.command_words.specs.Command.{Command}
use Rattle.command_words.specs.Reading.{command_by}
use Rattle.command_words.specs.declared.command.Command as read

-- words are the command that was read
pub is_said : (said : Option read.Command) (command : read.Command) (words : Option Command)
    → option_map command_by said ≡ words → said ≡ Some command → Some (command_by command) ≡ words
is_said said command words e is = sym (ap (option_map command_by) is) ∙ e

pub is_none : (said : Option read.Command) (words : Option Command) → option_map command_by said ≡ words → said ≡ None → words ≡ None
is_none said words e is = sym e ∙ ap (option_map command_by) is
