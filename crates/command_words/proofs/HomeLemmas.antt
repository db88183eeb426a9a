-- Homes that are admitted, and homes that aren't.
use Rattle.std.proofs.Common.{◌≡◌, ℕ, ℤ, List, Option, Some, None, is_some, refl, ap, ◌∙◌, if◌then◌else◌}
use Rattle.resource_model.specs.Home.{HomeData, first_bad}
use Rattle.command_words.specs.Command.{admitted}

-- a part isn't admitted
pub not_admitted : (home : HomeData) (k : ℕ) → first_bad home ≡ Some k → admitted home ≡ None
not_admitted home k e = ap (λ (bad : Option ℕ). if is_some bad then None else Some home) e

-- no part is
pub all_admitted : (home : HomeData) → ((k : ℕ) → first_bad home ≡ Some k → ⊥) → admitted home ≡ Some home
all_admitted home none =
    let P : Option ℕ → Type 0 = λ bad. (first_bad home ≡ bad) → (if is_some bad then None else Some home) ≡ Some home in
    let all : (bad : Option ℕ) → P bad = λ bad. elim bad as P [ None ↦ λ e. refl | Some k ↦ λ e. absurd (none k e) ] in
    all (first_bad home) refl

-- homes of the same parts
pub same_home : (sp sp1 csi csi1 base base1 : List ℕ) (cst cst1 : ℤ) (admin admin1 : List ℕ)
    → sp ≡ sp1 → csi ≡ csi1 → base ≡ base1 → cst ≡ cst1 → admin ≡ admin1
    → first_bad (record { sp = sp; csi = csi; base = base; cst = cst; admin = admin })
    ≡ first_bad (record { sp = sp1; csi = csi1; base = base1; cst = cst1; admin = admin1 })
same_home sp sp1 csi csi1 base base1 cst cst1 admin admin1 a b c d e =
    ap (λ (t : List ℕ). first_bad (record { sp = t; csi = csi; base = base; cst = cst; admin = admin })) a
    ∙ ap (λ (t : List ℕ). first_bad (record { sp = sp1; csi = t; base = base; cst = cst; admin = admin })) b
    ∙ ap (λ (t : List ℕ). first_bad (record { sp = sp1; csi = csi1; base = t; cst = cst; admin = admin })) c
    ∙ ap (λ (n : ℤ). first_bad (record { sp = sp1; csi = csi1; base = base1; cst = n; admin = admin })) d
    ∙ ap (λ (t : List ℕ). first_bad (record { sp = sp1; csi = csi1; base = base1; cst = cst1; admin = t })) e
