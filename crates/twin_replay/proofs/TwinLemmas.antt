-- Lines that the sides took, joined.
use Rattle.std.proofs.Common.{◌≡◌, ℕ, ◌+◌, ◌∙◌, List, [], ◌∷◌, ◌++◌, length, Option, Some, None, option_to_list, IfSome, refl, sym, ap, subst, arith, append_assoc, append-nil, length-append}
use Rattle.std.proofs.lemmas.Grind.{flat_map-append}
use Rattle.std.specs.Prelude.{flat_map}
use Rattle.std.specs.Str.Lines.{lines}
use Rattle.m2m_io.specs.declared.status.Status.{Status}
use Rattle.m2m_io.specs.declared.status.Status.TheVariants.{Done, Usage, BadLine, ReadFault, WriteFault, Memory, BadStream}
use Rattle.resource_model.specs.Home.{HomeData}
use Rattle.cse_server.specs.Outside.{Puts, SinkTold}
use Rattle.cse_server.proofs.PutLemmas.{Puts-append}
use Rattle.primitive_replay.specs.Stream.{BeginsWithTexts, LeadsOver}
use Rattle.twin_replay.specs.Twins.{PutsEach, PutsPartOfLast, Stops, TakesText, TakesTexts, Told, Twins, TwinsFrom, TwinsUpTo, WritesTexts}
use Rattle.twin_replay.specs.declared.sides.Sides.{Sides}

-- ---- lines

pub takes_one : (place : ℕ) (before after : Sides) (text : List ℕ) (said : Option (List ℕ)) → TakesText place before text after said
    → TakesTexts place before (text ∷ []) after (option_to_list said)
takes_one place before after text said takes = (after, said, [], takes, sym (append-nil (option_to_list said)), (refl, refl))

takes-append : (ts us : List (List ℕ)) (place between : ℕ) (a b c : Sides) (said more : List (List ℕ)) → place + length ts ≡ between
    → TakesTexts place a ts b said → TakesTexts between b us c more → TakesTexts place a (ts ++ us) c (said ++ more)
takes-append [] us place between a b c said more places first then =
    let here : between ≡ place = omega (arith, places) in
    subst (λ (v : List (List ℕ)). TakesTexts place a us c (v ++ more)) (sym first.1)
    (subst (λ (e : Sides). TakesTexts place e us c more) first.0
    (subst (λ (n : ℕ). TakesTexts n b us c more) here then))
takes-append (t ∷ ts) us place between a b c said more places first then = (
  first.0,
  first.1,
  first.2 ++ more,
  first.3,
  ap (λ v. v ++ more) first.4 ∙ append_assoc (option_to_list first.1) first.2 more,
  takes-append ts us (place + 1) between first.0 b c first.2 more (omega (arith, places)) first.5 then,
)

joined_place : (place between : ℕ) (ts us : List (List ℕ)) → place + length ts ≡ between → between + length us ≡ place + length (ts ++ us)
joined_place place between ts us places = omega (arith, places, length-append ts us)

-- ---- the stream

begins-append : (ts us : List (List ℕ)) (bytes mid rest : List ℕ) → BeginsWithTexts bytes ts mid → BeginsWithTexts mid us rest → BeginsWithTexts bytes (ts ++ us) rest
begins-append ts us bytes mid rest a b = record {
  front = a.front ++ b.front;
  bytes_are = a.bytes_are ∙ ap (λ v. a.front ++ v) b.bytes_are ∙ sym (append_assoc a.front b.front rest);
  texts_are = a.texts_are ∙ ap (λ v. ts ++ v) b.texts_are ∙ sym (append_assoc ts us (lines rest));
}

over-append : (ts us : List (List ℕ)) (left mid rest : Option (List ℕ)) → LeadsOver ts left mid → LeadsOver us mid rest → LeadsOver (ts ++ us) left rest
over-append ts us None mid rest first then = tt
over-append ts us (Some a) None rest first then = absurd first
over-append ts us (Some a) (Some b) None first then = absurd then
over-append ts us (Some a) (Some b) (Some c) first then = begins-append ts us a b c first then

-- what the stream says of an end
abbrev pub EndsOn : ℕ → Status → Sides → List (List ℕ) → Option (List ℕ) → List ℕ → Type 0
EndsOn place status after texts now bytes =
    (rest : List ℕ) × BeginsWithTexts bytes texts rest × Stops status (place + length texts) after rest now

stream_then : (place between : ℕ) (ts us : List (List ℕ)) (status : Status) (after : Sides) (left mid now : Option (List ℕ)) → place + length ts ≡ between
    → LeadsOver ts left mid → IfSome mid (EndsOn between status after us now) → IfSome left (EndsOn place status after (ts ++ us) now)
stream_then place between ts us status after None mid now places first then = tt
stream_then place between ts us status after (Some a) None now places first then = absurd first
stream_then place between ts us status after (Some a) (Some b) now places first then = (
  then.0,
  begins-append ts us a b then.0 first then.1,
  subst (λ (n : ℕ). Stops status n after then.0 now) (joined_place place between ts us places) then.2,
)

-- ---- what is written

each-append : (ts us : List (List ℕ)) (old put new : SinkTold) → PutsEach ts old put → PutsEach us put new → PutsEach (ts ++ us) old new
each-append ts us old put new a b =
    subst (λ (n : ℕ). Puts (flat_map (λ (t : List ℕ). t) (ts ++ us)) n old new) (sym (length-append ts us))
    (subst (λ (v : List ℕ). Puts v (length ts + length us) old new) (sym (flat_map-append (λ (t : List ℕ). t) ts us))
    (Puts-append old put new (flat_map (λ (t : List ℕ). t) ts) (flat_map (λ (t : List ℕ). t) us) (length ts) (length us) a b))

part-append : (ts us : List (List ℕ)) (old put new : SinkTold) → PutsEach ts old put → PutsPartOfLast us put new → PutsPartOfLast (ts ++ us) old new
part-append ts us old put new a b = record {
  whole = ts ++ b.whole;
  last = b.last;
  between = b.between;
  texts_are = ap (λ v. ts ++ v) b.texts_are ∙ sym (append_assoc ts b.whole (b.last ∷ []));
  before = each-append ts b.whole old put b.between a b.before;
  part = b.part;
}

WritesTexts-then : (status : Status) (ts us : List (List ℕ)) (old put new : SinkTold) → PutsEach ts old put → WritesTexts status us put new → WritesTexts status (ts ++ us) old new
WritesTexts-then Done ts us old put new a b = each-append ts us old put new a b
WritesTexts-then Usage ts us old put new a b = absurd b
WritesTexts-then (BadLine n) ts us old put new a b = each-append ts us old put new a b
WritesTexts-then ReadFault ts us old put new a b = each-append ts us old put new a b
WritesTexts-then WriteFault ts us old put new a b = part-append ts us old put new a b
WritesTexts-then Memory ts us old put new a b = each-append ts us old put new a b
WritesTexts-then BadStream ts us old put new a b = absurd b

-- ---- what goes on, and then goes on or ends

pub TwinsUpTo-then : (place between next : ℕ) (before sides after : Sides) (old mid new : Told)
    → TwinsUpTo place between before sides old mid → TwinsUpTo between next sides after mid new → TwinsUpTo place next before after old new
TwinsUpTo-then place between next before sides after old mid new a b = record {
  texts = a.texts ++ b.texts;
  said = a.said ++ b.said;
  takes = takes-append a.texts b.texts place between before sides after a.said b.said a.places a.takes b.takes;
  places = sym (joined_place place between a.texts b.texts a.places) ∙ b.places;
  stream = over-append a.texts b.texts old.left mid.left new.left a.stream b.stream;
  written = each-append a.said b.said old.out mid.out new.out a.written b.written;
}

pub TwinsFrom-then : (place between : ℕ) (before sides : Sides) (old mid new : Told) (status : Status)
    → TwinsUpTo place between before sides old mid → TwinsFrom between sides mid new status → TwinsFrom place before old new status
TwinsFrom-then place between before sides old mid new status a b = record {
  texts = a.texts ++ b.texts;
  after = b.after;
  said = a.said ++ b.said;
  takes = takes-append a.texts b.texts place between before sides b.after a.said b.said a.places a.takes b.takes;
  stream = stream_then place between a.texts b.texts status b.after old.left mid.left new.left a.places a.stream b.stream;
  written = WritesTexts-then status a.said b.said old.out mid.out new.out a.written b.written;
}

-- lines that are taken are no faulty command line
pub never_usage : (home : HomeData) (old new : Told) (status : Status) → Twins home old new status → status ≡ Usage → ⊥
never_usage home old new status t e = subst (λ (s : Status). WritesTexts s t.said old.out new.out) e t.written
