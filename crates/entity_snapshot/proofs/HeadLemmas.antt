-- A header is an object, and a head is a list.
use Rattle.std.proofs.Common.{◌≡◌, ℕ, List, [], ◌∷◌, Bool, true, false, Option, Some, None, if◌then◌else◌, Ok, Err, inl, inr, refl, sym, ap, ◌∙◌}
use Rattle.std.proofs.lemmas.Bool.{cases_Bool}
use Rattle.std.specs.Option.{option_map_or}
use Rattle.std.specs.Result.{result_ok}
use Rattle.std.specs.declared.result.Result.{Result}
use Rattle.m2m_value.specs.Data.{Data, null, boolean, number, text, list, object}
use Rattle.m2m_value.specs.Reading.{reading}
use Rattle.resource_model.specs.Home.{HomeData}
use Rattle.journal_lines.specs.Header.{first_header, header_in, header_spelled}
use Rattle.journal_lines.specs.Lines.{first_line, has_line}
use Rattle.journal_lines.specs.declared.header.HeaderFault.{HeaderFault}
use Rattle.journal_lines.specs.declared.header.HeaderFault.TheVariants.{NoHeader}
use Rattle.entity_lines.specs.Heads.{first_head, head_by, head_spelled}
use Rattle.entity_lines.specs.Values.{values_in}
use Rattle.entity_lines.specs.declared.heads.Head.{Head}

err_ok : {A B : Type 0} (x : B) → Err NoHeader ≡ Ok x → A
err_ok x e = absurd cc

module _ (home : HomeData) (head : Head) where
  by_value : (d : Data) → head_by home (values_in d) ≡ Ok head → header_in home d ≡ Err NoHeader
  by_value null k = err_ok head k
  by_value (boolean b) k = err_ok head k
  by_value (number z) k = err_ok head k
  by_value (text s) k = err_ok head k
  by_value (list es) k = refl
  by_value (object ps) k = err_ok head k

  by_reading : (o : Option Data) → option_map_or (λ d. head_by home (values_in d)) o (Err NoHeader) ≡ Ok head → option_map_or (header_in home) o (Err NoHeader) ≡ Err NoHeader
  by_reading None k = err_ok head k
  by_reading (Some d) k = by_value d k

  by_line : (line : List ℕ) (b : Bool) → (if b then head_spelled home line else Err NoHeader) ≡ Ok head → (if b then header_spelled home line else Err NoHeader) ≡ Err NoHeader
  by_line line true k = by_reading (result_ok (reading line)) k
  by_line line false k = err_ok head k

pub no_header : (home : HomeData) (head : Head) (bytes : List ℕ) → first_head home bytes ≡ Ok head → first_header home bytes ≡ Err NoHeader
no_header home head bytes k = by_line home head (first_line bytes) (has_line bytes) k
