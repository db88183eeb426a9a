-- How the replies of a connection stand: which were put, and which wait.
use Rattle.std.proofs.Common.{◌≡◌, ◌≢◌, ℕ, ◌∙◌, List, [], ◌∷◌, ◌++◌, Option, Some, None, inl, inr, refl, sym, subst, append_assoc, append-nil}
use Rattle.cse_server.specs.declared.connection.Ended.{Ended}
use Rattle.cse_server.specs.declared.connection.Ended.TheVariants.{Closed, NoFrame, ReadFault, WriteFault, Memory}
use Rattle.cse_server.specs.Outside.{EndsByFault, PutsPart, SinkTold}
use Rattle.cse_server.specs.Together.{KeepsBack, KeepsBackAllButLast, PutsAll, PutsLast, PutsMuch, WritesPart}
use Rattle.cse_server.specs.Connection.{Says, SaysBeforeLast, itself}
use Rattle.cse_server.specs.Way.{Stands, StandsOn}
use Rattle.cse_server.proofs.TogetherLemmas.{keep_all, keep_more, keep_more_put, part_but_last, part_more, part_put, put_whole}

-- ---- joined

pub StandsOn-then : (ended : Option Ended) (xs ys : List (List ℕ)) (before between now : List ℕ) (old mid new : SinkTold)
    → StandsOn None xs before between old mid → StandsOn ended ys between now mid new → StandsOn ended (xs ++ ys) before now old new
StandsOn-then ended xs ys before between now old mid new a b = λ earlier start k.
    subst (λ (v : List (List ℕ)). Stands ended v now start new) (append_assoc earlier xs ys) (b (earlier ++ xs) start (a earlier start k))

-- ---- nothing is said

still : (earlier : List (List ℕ)) (waiting : List ℕ) (start told : SinkTold) → KeepsBack itself earlier waiting start told → KeepsBack itself (earlier ++ []) waiting start told
still earlier waiting start told k = subst (λ (v : List (List ℕ)). KeepsBack itself v waiting start told) (sym (append-nil earlier)) k

pub stands_still : (waiting : List ℕ) (told : SinkTold) → StandsOn None [] waiting waiting told told
stands_still waiting told = λ earlier start k. still earlier waiting start told k

pub closed_still : (waiting : List ℕ) (told : SinkTold) → StandsOn (Some Closed) [] waiting waiting told told
closed_still waiting told = λ earlier start k. still earlier waiting start told k

pub unread_still : (waiting : List ℕ) (told : SinkTold) → waiting ≡ [] → StandsOn (Some ReadFault) [] waiting waiting told told
unread_still waiting told none = λ earlier start k. (none, still earlier waiting start told k)

pub starved_still : (waiting : List ℕ) (told : SinkTold) → StandsOn (Some Memory) [] waiting waiting told told
starved_still waiting told = λ earlier start k. inl (still earlier waiting start told k)

-- ---- what waits is put

pub put_stands : (before now : List ℕ) (old new : SinkTold) → PutsAll before now old new → StandsOn None [] before now old new
put_stands before now old new put = λ earlier start k. still earlier now start new (keep_all itself earlier before now start old new k put)

pub part_stands : (before now : List ℕ) (old new : SinkTold) → before ≢ [] → PutsPart before old new → StandsOn (Some WriteFault) [] before now old new
part_stands before now old new some part = λ earlier start k.
    subst (λ (v : List (List ℕ)). WritesPart itself v start new) (sym (append-nil earlier)) (part_put itself earlier before start old new k some part)

-- ---- one more is said

said_more : (text before now : List ℕ) (old new : SinkTold) → PutsMuch (before ++ text) now old new
    → (earlier : List (List ℕ)) (start : SinkTold) → KeepsBack itself earlier before start old → KeepsBack itself (earlier ++ text ∷ []) now start new
said_more text before now old new said earlier start k = elim said [
  | inl waits ↦
      subst (λ (t : SinkTold). KeepsBack itself (earlier ++ text ∷ []) now start t) (sym waits.2)
      (subst (λ (v : List ℕ). KeepsBack itself (earlier ++ text ∷ []) v start old) (sym waits.0) (keep_more itself earlier text before start old k waits.1))
  | inr put ↦ subst (λ (v : List ℕ). KeepsBack itself (earlier ++ text ∷ []) v start new) (sym put.0) (keep_more_put itself earlier text before start old new k put.1)
]

pub said_on : (text before now : List ℕ) (old new : SinkTold) → PutsMuch (before ++ text) now old new → StandsOn None (text ∷ []) before now old new
said_on text before now old new said = λ earlier start k. said_more text before now old new said earlier start k

pub said_closed : (text before now : List ℕ) (old new : SinkTold) → PutsMuch (before ++ text) now old new → StandsOn (Some Closed) (text ∷ []) before now old new
said_closed text before now old new said = λ earlier start k. said_more text before now old new said earlier start k

pub said_refused : (text before now : List ℕ) (old new : SinkTold) → PutsMuch (before ++ text) now old new → StandsOn (Some NoFrame) (text ∷ []) before now old new
said_refused text before now old new said = λ earlier start k. said_more text before now old new said earlier start k

pub part_said : (text before now : List ℕ) (old new : SinkTold) → PutsPart (before ++ text) old new → StandsOn (Some WriteFault) (text ∷ []) before now old new
part_said text before now old new part = λ earlier start k. part_more itself earlier text before start old new k part

pub unbegun : (text before now : List ℕ) (old new : SinkTold) → now ≡ before → new ≡ old
    → (earlier : List (List ℕ)) (start : SinkTold) → KeepsBack itself earlier before start old → KeepsBackAllButLast itself (earlier ++ text ∷ []) now start new
unbegun text before now old new waits same earlier start k = record {
  before = earlier;
  last = text;
  all_are = refl;
  keeps = subst (λ (t : SinkTold). KeepsBack itself earlier now start t) (sym same) (subst (λ (v : List ℕ). KeepsBack itself earlier v start old) (sym waits) k);
}

pub unsaid : (text before now : List ℕ) (old new : SinkTold) → now ≡ before → new ≡ old → StandsOn (Some Memory) (text ∷ []) before now old new
unsaid text before now old new waits same = λ earlier start k. inr (unbegun text before now old new waits same earlier start k)

-- ---- at the end

put_ends : (ended : Ended) (xs : List (List ℕ)) (before : List ℕ) (old mid new : SinkTold) → ended ≢ WriteFault → Stands (Some ended) xs before old mid → PutsAll before [] mid new → Says ended xs old new
put_ends Closed xs before old mid new other s put = put_whole itself xs before old mid new s put
put_ends NoFrame xs before old mid new other s put = put_whole itself xs before old mid new s put
put_ends ReadFault xs before old mid new other s put = put_whole itself xs before old mid new s.1 put
put_ends WriteFault xs before old mid new other s put = absurd (other refl)
put_ends Memory xs before old mid new other s put = elim s [
  | inl k ↦ inl (put_whole itself xs before old mid new k put)
  | inr b ↦ inr (record { whole = b.before; last = b.last; all_are = b.all_are; said = put_whole itself b.before before old mid new b.keeps put })
]

part_ends : (ended : Ended) (xs : List (List ℕ)) (before : List ℕ) (old mid new : SinkTold) → ended ≢ WriteFault → Stands (Some ended) xs before old mid → before ≢ [] → PutsPart before mid new → WritesPart itself xs old new
part_ends Closed xs before old mid new other s some part = part_put itself xs before old mid new s some part
part_ends NoFrame xs before old mid new other s some part = part_put itself xs before old mid new s some part
part_ends ReadFault xs before old mid new other s some part = absurd (some s.0)
part_ends WriteFault xs before old mid new other s some part = absurd (other refl)
part_ends Memory xs before old mid new other s some part = elim s [
  | inl k ↦ part_put itself xs before old mid new k some part
  | inr b ↦ part_but_last itself xs before old mid new b part
]

-- once what waits is put, the texts are written as the end says
pub end_says : (ended now : Ended) (xs : List (List ℕ)) (before : List ℕ) (old mid new : SinkTold) → Stands (Some ended) xs before old mid → PutsLast WriteFault ended now before mid new → Says now xs old new
end_says ended now xs before old mid new s last = elim last [
  | inl failed ↦
      subst (λ (e : Ended). Says e xs old new) (sym failed.1)
      (subst (λ (t : SinkTold). WritesPart itself xs old t) (sym failed.2)
      (subst (λ (e : Ended). Stands (Some e) xs before old mid) failed.0 s))
  | inr on ↦ elim on.1 [
    | inl put ↦ subst (λ (e : Ended). Says e xs old new) (sym put.0) (put_ends ended xs before old mid new on.0 s put.1)
    | inr part ↦ subst (λ (e : Ended). Says e xs old new) (sym part.0) (part_ends ended xs before old mid new on.0 s part.1 part.2)
  ]
]

memory_other : Memory ≢ WriteFault
memory_other e = cc

-- and where the last reply isn't begun, those before it
pub end_cut : (ended now : Ended) (xs : List (List ℕ)) (before : List ℕ) (old mid new : SinkTold) → ended ≡ Memory → KeepsBackAllButLast itself xs before old mid → PutsLast WriteFault ended now before mid new
    → SaysBeforeLast now xs old new
end_cut ended now xs before old mid new memory b last = elim last [
  | inl failed ↦ absurd (memory_other (sym memory ∙ failed.0))
  | inr on ↦ elim on.1 [
    | inl put ↦
        subst (λ (e : Ended). SaysBeforeLast e xs old new) (sym (put.0 ∙ memory))
        (record { whole = b.before; last = b.last; all_are = b.all_are; said = put_whole itself b.before before old mid new b.keeps put.1 })
    | inr part ↦
        subst (λ (e : Ended). SaysBeforeLast e xs old new) (sym part.0)
        (record { before = b.before; last = b.last; all_are = b.all_are; part = part_put itself b.before before old mid new b.keeps part.1 part.2 })
  ]
]

-- ---- faults

unread_waits : (ended : Ended) (xs : List (List ℕ)) (before : List ℕ) (old mid : SinkTold) → Stands (Some ended) xs before old mid → ended ≡ ReadFault → before ≡ []
unread_waits Closed xs before old mid s e = cc
unread_waits NoFrame xs before old mid s e = cc
unread_waits ReadFault xs before old mid s e = s.0
unread_waits WriteFault xs before old mid s e = cc
unread_waits Memory xs before old mid s e = cc

-- putting what waits fails as no reading does
pub last_reads : (ended now : Ended) (xs : List (List ℕ)) (before : List ℕ) (old mid new : SinkTold) (first count : ℕ) → Stands (Some ended) xs before old mid
    → PutsLast WriteFault ended now before mid new → EndsByFault ReadFault ended first count → EndsByFault ReadFault now first count
last_reads ended now xs before old mid new first count s last ends = elim last [
  | inl failed ↦ subst (λ (e : Ended). EndsByFault ReadFault e first count) (failed.0 ∙ sym failed.1) ends
  | inr on ↦ elim on.1 [
    | inl put ↦ subst (λ (e : Ended). EndsByFault ReadFault e first count) (sym put.0) ends
    | inr part ↦ record {
      count = ends.count;
      cause = λ e. let clash : WriteFault ≡ ReadFault = sym part.0 ∙ e in cc;
      steady = λ e. ends.steady (λ unread. part.1 (unread_waits ended xs before old mid s unread));
    }
  ]
]

-- what fails in putting it is told
pub last_writes : (ended now : Ended) (waiting : List ℕ) (old new : SinkTold) (first mid count : ℕ) → PutsLast WriteFault ended now waiting old new → EndsByFault WriteFault ended first mid
    → (ended ≢ WriteFault → EndsByFault WriteFault now mid count) → (ended ≡ WriteFault → (now ≡ ended) × (count ≡ mid)) → EndsByFault WriteFault now first count
last_writes ended now waiting old new first mid count last ends go failed = elim last [
  | inl failure ↦
      let same = failed failure.0 in
      subst (λ (e : Ended). EndsByFault WriteFault e first count) (sym same.0)
      (subst (λ (n : ℕ). EndsByFault WriteFault ended first n) (sym same.1) ends)
  | inr on ↦ subst (λ (n : ℕ). EndsByFault WriteFault now n count) (ends.steady on.0) (go on.0)
]
