-- What is carried over a link, joined.
use Rattle.std.proofs.Common.{◌≡◌, ℕ, ◌≤◌, true, false, List, [], ◌∷◌, ◌++◌, Option, Some, None, inl, inr, refl, sym, ap, subst, ◌∙◌, append_assoc, append-nil, arith}
use Rattle.std.proofs.lemmas.Bool.{cases_Bool, false≢true, true≢false}
use Rattle.std.specs.List.{list_any}
use Rattle.std.specs.Option.{option_to_list}
use Rattle.m2m_io.specs.Counts.{Rose}
use Rattle.m2m_io.specs.Link.{Carrying, Exchange, made_in}
use Rattle.http_forwarding.specs.Carries.{Carries, LinkTold, has_failed}
use Rattle.m2m_io.specs.Told.{Tells}
use Rattle.desk_replies.specs.Replies.{CarriesEach, TheLinkTellsAllThatIsCarried}

-- ---- lists that are told

pub Tells-append : {A : Type 0} (a b : List A) (x y z : Option (List A))
    → Tells (λ given. given ++ a) x y → Tells (λ given. given ++ b) y z → Tells (λ given. given ++ (a ++ b)) x z
Tells-append a b x y None p q = tt
Tells-append a b x None (Some zs) p q = absurd q
Tells-append a b None (Some ys) (Some zs) p q = absurd p
Tells-append a b (Some xs) (Some ys) (Some zs) p q = q ∙ ap (λ v. v ++ b) p ∙ append_assoc xs a b

pub Tells-nil : {A : Type 0} (x : Option (List A)) → Tells (λ given. given ++ []) x x
Tells-nil None = tt
Tells-nil (Some xs) = sym (append-nil xs)

-- ---- what is carried

made_in-append : (xs ys : List Carrying) → made_in (xs ++ ys) ≡ made_in xs ++ made_in ys
made_in-append [] ys = refl
made_in-append (x ∷ xs) ys =
    ap (λ v. option_to_list x.made ++ v) (made_in-append xs ys) ∙ sym (append_assoc (option_to_list x.made) (made_in xs) (made_in ys))

-- some of both failed where some of the first did, or of the second
failed_first : (xs ys : List Carrying) → list_any has_failed xs ≡ true → list_any has_failed (xs ++ ys) ≡ true
failed_first [] ys some = absurd (false≢true some)
failed_first (x ∷ xs) ys some = elim (cases_Bool (has_failed x)) [
  | inl here ↦ rw here refl
  | inr not_here ↦ rw not_here (failed_first xs ys (rw not_here at some))
]

failed_then : (xs ys : List Carrying) → list_any has_failed xs ≡ false → list_any has_failed (xs ++ ys) ≡ list_any has_failed ys
failed_then [] ys none = refl
failed_then (x ∷ xs) ys none = elim (cases_Bool (has_failed x)) [
  | inl here ↦ absurd (true≢false (rw here at none))
  | inr not_here ↦ rw not_here (failed_then xs ys (rw not_here at none))
]

rose_then : (a b c : ℕ) → Rose a b → b ≤ c → Rose a c
rose_then a b c first then = omega (arith, first, then)

then_rose : (a b c : ℕ) → a ≤ b → Rose b c → Rose a c
then_rose a b c first then = omega (arith, first, then)

-- nothing was carried
pub carries_nothing : (told : LinkTold) → Carries [] told told
carries_nothing told = record {
  told = Tells-nil told.exchanges;
  count = omega arith;
  cause = λ some. absurd (false≢true some);
  steady = λ none. refl;
}

pub Carries-append : (xs ys : List Carrying) (old mid new : LinkTold) → Carries xs old mid → Carries ys mid new → Carries (xs ++ ys) old new
Carries-append xs ys old mid new first then = record {
  told = subst (λ (v : List Exchange). Tells (λ told. told ++ v) old.exchanges new.exchanges) (sym (made_in-append xs ys))
      (Tells-append (made_in xs) (made_in ys) old.exchanges mid.exchanges new.exchanges first.told then.told);
  count = omega (arith, first.count, then.count);
  cause = λ some. elim (cases_Bool (list_any has_failed xs)) [
    | inl here ↦ rose_then old.faults mid.faults new.faults (first.cause here) then.count
    | inr later ↦ then_rose old.faults mid.faults new.faults first.count (then.cause (sym (failed_then xs ys later) ∙ some))
  ];
  steady = λ none. elim (cases_Bool (list_any has_failed xs)) [
    | inl here ↦ absurd (true≢false (sym (failed_first xs ys here) ∙ none))
    | inr later ↦ then.steady (sym (failed_then xs ys later) ∙ none) ∙ first.steady later
  ];
}

-- ---- what is carried, one after another

pub CarriesEach-append : (xs ys : List Carrying) (old mid new : LinkTold) → CarriesEach xs old mid → CarriesEach ys mid new → CarriesEach (xs ++ ys) old new
CarriesEach-append [] ys old mid new first then = subst (λ (told : LinkTold). CarriesEach ys told new) first then
CarriesEach-append (x ∷ xs) ys old mid new first then =
    (first.0, first.1, CarriesEach-append xs ys first.0 mid new first.2 then)

-- all together
pub carries_all : TheLinkTellsAllThatIsCarried
carries_all [] old new each = subst (λ (told : LinkTold). Carries [] old told) (sym each) (carries_nothing old)
carries_all (x ∷ xs) old new each = Carries-append (x ∷ []) xs old each.0 new each.1 (carries_all xs each.0 new each.2)
