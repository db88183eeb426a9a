-- What is written down of a step.
use Rattle.std.specs.Prelude.{◌≡◌, ◌⊎◌, ℕ, true, List, [], ◌++◌}
use Rattle.journal_file.specs.Gates.{KeepsText, at_rest, is_batch}

-- Nothing, or what can be put behind the text of a journal.
abbrev pub IsBatchOrNone : List ℕ → Type 0
IsBatchOrNone lines = (lines ≡ []) ⊎ (is_batch lines ≡ true)

-- An object became another one, and something was put behind lines for it: behind each text that
-- keeps the object before, it makes a text that keeps the one after.
pub record Records {X : Type 0} (keeps : X → List ℕ → Type 0) (before : X) (lines : List ℕ)
    (after : X) (now : List ℕ) : Type 0 where
  pub more : List ℕ
  pub appended : now ≡ lines ++ more
  pub batch : IsBatchOrNone more
  pub played : (text : List ℕ) → keeps before text → keeps after (text ++ more)

-- The bytes are a text at rest that keeps the object.
pub record IsKeptAtRest {X : Type 0} (keeps : X → List ℕ → Type 0) (object : X) (bytes : List ℕ)
    : Type 0 where
  pub text : List ℕ
  pub rest : bytes ≡ at_rest text
  pub keeps_it : keeps object text

-- A file keeps a text that keeps the object.
pub record FileKeeps {X : Type 0} (keeps : X → List ℕ → Type 0) (object : X) (file : List ℕ)
    : Type 0 where
  pub text : List ℕ
  pub keeps_it : keeps object text
  pub keeps_text : KeepsText text file
