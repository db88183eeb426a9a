-- An originator's full form, read apart.
use Rattle.std.specs.Prelude.{◌≡◌, ℕ, ◌-◌, ◌==◌, Bool, ◌&&◌, ◌||◌, nat_eq, List, [], ◌∷◌, ◌++◌}
use Rattle.std.specs.Prelude.{length, slice_index, codes, false}
use Rattle.std.specs.List.{starts_with}
use Rattle.resource_model.specs.Home.{HomeData}
use Rattle.policy_eval.specs.Originators.{full_form, own_lead}
use Rattle.policy_eval.specs.declared.originators.Form.{Form}
use Rattle.policy_eval.specs.declared.originators.Form.TheVariants.{Own, Other}

-- the full form of the text is this
abbrev pub IsForm : HomeData → List ℕ → Form → Type 0
IsForm home text (Own own) = full_form home text ≡ codes "/" ++ (own_lead home ++ own.now)
IsForm home text (Other path) =
    (full_form home text ≡ codes "/" ++ path.now)
    × (starts_with nat_eq path.now (own_lead home) ≡ false)

-- two texts are as long as each other, and end in one byte
abbrev pub end_alike : List ℕ → List ℕ → Bool
end_alike a b =
    length a == length b
    && (length a == 0 || slice_index a (length a - 1) == slice_index b (length a - 1))

-- the last of some bytes, or this one where there are none
abbrev pub last_or : ℕ → List ℕ → ℕ
last_or byte [] = byte
last_or byte (one ∷ others) = last_or one others

-- the last byte of the full form of a text: its own, or the slash behind own CSE-ID where it is empty
abbrev pub last_byte : List ℕ → ℕ
last_byte text = last_or 47 text

-- the full form of an entry ends in this byte, or the entry as `all` or as `*` does
abbrev pub may_name : ℕ → List ℕ → Bool
may_name last entry = last_byte entry == last || last_byte entry == 108 || last_byte entry == 42
