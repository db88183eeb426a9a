-- The bytes of a key.
use Rattle.std.specs.Prelude.{ℕ, List}
use Rattle.m2m_value.specs.declared.key.Form.{Form}
use Rattle.m2m_value.specs.declared.key.Form.TheVariants.{Own, Fixed}

-- those of the text, or of the name
abbrev pub bytes_of : Form → List ℕ
bytes_of (Own text) = text
bytes_of (Fixed name) = name.now
