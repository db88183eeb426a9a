-- Texts that leave together: which of them were put, and which wait.
use Rattle.std.proofs.Common.{◌≡◌, ◌≢◌, ◌≤◌, ◌<◌, ℕ, ◌+◌, ◌∙◌, List, [], ◌∷◌, ◌++◌, length, inl, inr, refl, sym, ap, subst, arith, append_assoc, append-nil, length-append}
use Rattle.std.proofs.lemmas.List.{take-append-le}
use Rattle.std.proofs.lemmas.Grind.{flat_map-append}
use Rattle.std.specs.Io.KnownBytes.{Appends}
use Rattle.std.specs.List.{flat_map}
use Rattle.cse_server.specs.Outside.{Puts, PutsPart, SinkTold}
use Rattle.cse_server.specs.Together.{KeepsBack, KeepsBackAllButLast, PutsAll, PutsWithin, WritesAll, WritesPart, much}
use Rattle.cse_server.proofs.PutLemmas.{Puts-append, puts_none}

-- ---- by so many puts at most

pub within_none : (told : SinkTold) → PutsWithin [] 0 told told
within_none told = record { puts = 0; few = omega arith; said = puts_none told }

pub within : (text : List ℕ) (puts most : ℕ) (old new : SinkTold) → puts ≤ most → Puts text puts old new → PutsWithin text most old new
within text puts most old new few said = record { puts = puts; few = few; said = said }

pub PutsWithin-append : (old mid new : SinkTold) (text more : List ℕ) (m n : ℕ) → PutsWithin text m old mid → PutsWithin more n mid new → PutsWithin (text ++ more) (m + n) old new
PutsWithin-append old mid new text more m n first then = record {
  puts = first.puts + then.puts;
  few = omega (arith, first.few, then.few);
  said = Puts-append old mid new text more first.puts then.puts first.said then.said;
}

-- a part of a text is one of a longer text
part_longer : (text more : List ℕ) (old new : SinkTold) → PutsPart text old new → PutsPart (text ++ more) old new
part_longer text more old new part =
    let k = part.written.0 in record {
      written = (
        k,
        omega (arith, part.written.1, length-append text more),
        subst (λ (v : List ℕ). Appends old.written new.written v) (sym (take-append-le k text more part.written.1)) part.written.2,
      );
      puts = part.puts;
    }

-- ---- texts

say_one_more : {A : Type 0} (say : A → List ℕ) (xs : List A) (x : A) → flat_map say xs ++ say x ≡ flat_map say (xs ++ x ∷ [])
say_one_more say xs x = ap (λ v. flat_map say xs ++ v) (sym (append-nil (say x))) ∙ sym (flat_map-append say xs (x ∷ []))

pub all-append : {A : Type 0} (say : A → List ℕ) (xs ys : List A) (old mid new : SinkTold) → WritesAll say xs old mid → WritesAll say ys mid new → WritesAll say (xs ++ ys) old new
all-append say xs ys old mid new a b =
    subst (λ (n : ℕ). PutsWithin (flat_map say (xs ++ ys)) n old new) (sym (length-append xs ys))
    (subst (λ (v : List ℕ). PutsWithin v (length xs + length ys) old new) (sym (flat_map-append say xs ys))
    (PutsWithin-append old mid new (flat_map say xs) (flat_map say ys) (length xs) (length ys) a b))

-- some were written by one put
all_by_one : {A : Type 0} (say : A → List ℕ) (xs : List A) (text : List ℕ) (old new : SinkTold) → text ≡ flat_map say xs → xs ≢ [] → Puts text 1 old new → WritesAll say xs old new
all_by_one say [] text old new is some said = absurd (some refl)
all_by_one say (x ∷ xs) text old new is some said =
    within (flat_map say (x ∷ xs)) 1 (length (x ∷ xs)) old new (omega arith) (subst (λ (v : List ℕ). Puts v 1 old new) is said)

ends_with_one : {A : Type 0} (xs : List A) (x : A) → xs ++ x ∷ [] ≢ []
ends_with_one [] x e = cc
ends_with_one (y ∷ xs) x e = cc

-- things, if there are some, end with one
last_of : {A : Type 0} (xs : List A) → xs ≢ [] → (late : List A) × (last : A) × (xs ≡ late ++ last ∷ [])
last_of [] some = absurd (some refl)
last_of (x ∷ []) some = ([], x, refl)
last_of (x ∷ y ∷ xs) some = let end = last_of (y ∷ xs) (λ e. cc) in (x ∷ end.0, end.1, ap (λ v. x ∷ v) end.2)

-- ---- texts that wait

no_bytes : length {A = ℕ} [] < much
no_bytes = omega arith

pub keep_none : {A : Type 0} (say : A → List ℕ) (told : SinkTold) → KeepsBack say [] [] told told
keep_none say told = record { whole = []; kept = []; all_are = refl; waits = refl; few = no_bytes; said = within_none told }

-- none wait
pub keep_whole : {A : Type 0} (say : A → List ℕ) (xs : List A) (old new : SinkTold) → WritesAll say xs old new → KeepsBack say xs [] old new
keep_whole say xs old new said = record { whole = xs; kept = []; all_are = sym (append-nil xs); waits = refl; few = no_bytes; said = said }

-- one more waits
pub keep_more : {A : Type 0} (say : A → List ℕ) (xs : List A) (x : A) (before : List ℕ) (old new : SinkTold) → KeepsBack say xs before old new
    → length (before ++ say x) < much → KeepsBack say (xs ++ x ∷ []) (before ++ say x) old new
keep_more say xs x before old new k few = record {
  whole = k.whole;
  kept = k.kept ++ x ∷ [];
  all_are = ap (λ v. v ++ x ∷ []) k.all_are ∙ append_assoc k.whole k.kept (x ∷ []);
  waits = ap (λ v. v ++ say x) k.waits ∙ say_one_more say k.kept x;
  few = few;
  said = k.said;
}

-- one more, and those that wait, were put
pub keep_more_put : {A : Type 0} (say : A → List ℕ) (xs : List A) (x : A) (before : List ℕ) (old mid new : SinkTold) → KeepsBack say xs before old mid
    → Puts (before ++ say x) 1 mid new → KeepsBack say (xs ++ x ∷ []) [] old new
keep_more_put {A} say xs x before old mid new k said =
    let put = all_by_one say (k.kept ++ x ∷ []) (before ++ say x) mid new (ap (λ v. v ++ say x) k.waits ∙ say_one_more say k.kept x) (ends_with_one k.kept x) said in
    let all = all-append say k.whole (k.kept ++ x ∷ []) old mid new k.said put in
    keep_whole say (xs ++ x ∷ []) old new
    (subst (λ (v : List A). WritesAll say v old new) (sym (ap (λ v. v ++ x ∷ []) k.all_are ∙ append_assoc k.whole k.kept (x ∷ []))) all)

-- of one more, and of those that wait, a part was put
pub part_more : {A : Type 0} (say : A → List ℕ) (xs : List A) (x : A) (before : List ℕ) (old mid new : SinkTold) → KeepsBack say xs before old mid
    → PutsPart (before ++ say x) mid new → WritesPart say (xs ++ x ∷ []) old new
part_more say xs x before old mid new k part = record {
  whole = k.whole;
  late = k.kept;
  last = x;
  all_are = ap (λ v. v ++ x ∷ []) k.all_are ∙ append_assoc k.whole k.kept (x ∷ []);
  few = subst (λ (v : List ℕ). length v < much) k.waits k.few;
  between = mid;
  before = k.said;
  part = subst (λ (v : List ℕ). PutsPart v mid new) (ap (λ v. v ++ say x) k.waits ∙ say_one_more say k.kept x) part;
}

-- ---- what waits is put

some_kept : {A : Type 0} (say : A → List ℕ) (xs : List A) (before : List ℕ) (old new : SinkTold) (k : KeepsBack say xs before old new) → before ≢ [] → k.kept ≢ []
some_kept say xs before old new k some none = some (k.waits ∙ ap (flat_map say) none)

keep_put : {A : Type 0} (say : A → List ℕ) (xs : List A) (before : List ℕ) (old mid new : SinkTold) → KeepsBack say xs before old mid → before ≢ [] → Puts before 1 mid new → KeepsBack say xs [] old new
keep_put {A} say xs before old mid new k some said =
    keep_whole say xs old new
    (subst (λ (v : List A). WritesAll say v old new) (sym k.all_are)
    (all-append say k.whole k.kept old mid new k.said (all_by_one say k.kept before mid new k.waits (some_kept say xs before old mid k some) said)))

pub keep_all : {A : Type 0} (say : A → List ℕ) (xs : List A) (before now : List ℕ) (old mid new : SinkTold) → KeepsBack say xs before old mid → PutsAll before now mid new → KeepsBack say xs now old new
keep_all say xs before now old mid new k put =
    subst (λ (v : List ℕ). KeepsBack say xs v old new) (sym put.0) (elim put.1 [
      | inl none ↦
          subst (λ (t : SinkTold). KeepsBack say xs [] old t) (sym none.1)
          (subst (λ (v : List ℕ). KeepsBack say xs v old mid) none.0 k)
      | inr some ↦ keep_put say xs before old mid new k some.0 some.1
    ])

late_few : {A : Type 0} (say : A → List ℕ) (late : List A) (last : A) (kept : List A) (before : List ℕ) → kept ≡ late ++ last ∷ [] → before ≡ flat_map say kept
    → length before < much → length (flat_map say late) < much
late_few say late last kept before is waits few =
    omega (arith, few, ap length (waits ∙ ap (flat_map say) is ∙ flat_map-append say late (last ∷ [])), length-append (flat_map say late) (flat_map say (last ∷ [])))

-- of those that wait a part was put
pub part_put : {A : Type 0} (say : A → List ℕ) (xs : List A) (before : List ℕ) (old mid new : SinkTold) → KeepsBack say xs before old mid → before ≢ [] → PutsPart before mid new → WritesPart say xs old new
part_put say xs before old mid new k some part =
    let end = last_of k.kept (some_kept say xs before old mid k some) in record {
      whole = k.whole;
      late = end.0;
      last = end.1;
      all_are = k.all_are ∙ ap (λ v. k.whole ++ v) end.2;
      few = late_few say end.0 end.1 k.kept before end.2 k.waits k.few;
      between = mid;
      before = k.said;
      part = subst (λ (v : List ℕ). PutsPart v mid new) (k.waits ∙ ap (flat_map say) end.2) part;
    }

-- the same where another one isn't begun
pub part_but_last : {A : Type 0} (say : A → List ℕ) (xs : List A) (before : List ℕ) (old mid new : SinkTold) → KeepsBackAllButLast say xs before old mid → PutsPart before mid new → WritesPart say xs old new
part_but_last say xs before old mid new b part =
    let k = b.keeps in record {
      whole = k.whole;
      late = k.kept;
      last = b.last;
      all_are = b.all_are ∙ ap (λ v. v ++ b.last ∷ []) k.all_are ∙ append_assoc k.whole k.kept (b.last ∷ []);
      few = subst (λ (v : List ℕ). length v < much) k.waits k.few;
      between = mid;
      before = k.said;
      part = subst (λ (v : List ℕ). PutsPart v mid new) (ap (λ v. v ++ say b.last) k.waits ∙ say_one_more say k.kept b.last)
          (part_longer before (say b.last) mid new part);
    }

-- where nothing waits all are written
pub all_kept : {A : Type 0} (say : A → List ℕ) (xs : List A) (old new : SinkTold) → KeepsBack say xs [] old new → WritesAll say xs old new
all_kept say xs old new k = record {
  puts = k.said.puts;
  few = omega (arith, k.said.few, ap length k.all_are, length-append k.whole k.kept);
  said = subst (λ (v : List ℕ). Puts v k.said.puts old new)
      (sym (ap (flat_map say) k.all_are ∙ flat_map-append say k.whole k.kept
      ∙ ap (λ v. flat_map say k.whole ++ v) (sym k.waits) ∙ append-nil (flat_map say k.whole)))
      k.said.said;
}

pub put_whole : {A : Type 0} (say : A → List ℕ) (xs : List A) (before : List ℕ) (old mid new : SinkTold) → KeepsBack say xs before old mid → PutsAll before [] mid new → WritesAll say xs old new
put_whole say xs before old mid new k put = all_kept say xs old new (keep_all say xs before [] old mid new k put)
