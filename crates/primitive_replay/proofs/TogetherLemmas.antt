-- Lines of replies that leave together.
use Rattle.std.proofs.Common.{◌≡◌, ◌≢◌, ℕ, ◌∙◌, List, [], ◌∷◌, ◌++◌, Option, Some, None, inl, inr, refl, sym, subst, append_assoc, append-nil}
use Rattle.cse_server.specs.Outside.{EndsByFault, PutsPart, SinkTold}
use Rattle.cse_server.specs.Together.{KeepsBack, PutsAll, PutsLast, WritesPart}
use Rattle.cse_server.proofs.TogetherLemmas.{keep_all, keep_more, keep_more_put, part_but_last, part_more, part_put, put_whole}
use Rattle.m2m_io.specs.declared.status.Status.{Status}
use Rattle.m2m_io.specs.declared.status.Status.TheVariants.{Done, Usage, BadLine, ReadFault, WriteFault, Memory, BadStream}
use Rattle.primitive_json.specs.declared.reply.ReplyParts.{ReplyParts}
use Rattle.primitive_replay.specs.Script.{WritesReplies, reply_line}
use Rattle.primitive_replay.specs.Together.{SaysText}
use Rattle.primitive_replay.specs.Way.{SaysOn, Stands, StandsOn}

-- ---- on the way

pub stands_still : (waiting : List ℕ) (told : SinkTold) → StandsOn None [] waiting waiting told told
stands_still waiting told = λ earlier start k. subst (λ (v : List ReplyParts). KeepsBack reply_line v waiting start told) (sym (append-nil earlier)) k

pub StandsOn-then : (status : Option Status) (rs ss : List ReplyParts) (before between now : List ℕ) (old mid new : SinkTold)
    → StandsOn None rs before between old mid → StandsOn status ss between now mid new → StandsOn status (rs ++ ss) before now old new
StandsOn-then status rs ss before between now old mid new a b = λ earlier start k.
    subst (λ (v : List ReplyParts). Stands status v now start new) (append_assoc earlier rs ss) (b (earlier ++ rs) start (a earlier start k))

-- all that waits was put
pub put_stands : (before now : List ℕ) (old new : SinkTold) → PutsAll before now old new → StandsOn None [] before now old new
put_stands before now old new put = λ earlier start k.
    subst (λ (v : List ReplyParts). KeepsBack reply_line v now start new) (sym (append-nil earlier)) (keep_all reply_line earlier before now start old new k put)

-- a part of what waits was put
pub part_stands : (before now : List ℕ) (old new : SinkTold) → before ≢ [] → PutsPart before old new → StandsOn (Some WriteFault) [] before now old new
part_stands before now old new some part = λ earlier start k.
    subst (λ (v : List ReplyParts). WritesPart reply_line v start new) (sym (append-nil earlier)) (part_put reply_line earlier before start old new k some part)

-- the reply to a line was said
pub says_one : (status : Option Status) (reply : ReplyParts) (before now : List ℕ) (old new : SinkTold) → SaysText status (reply_line reply) before now old new
    → SaysOn status (reply ∷ []) before now old new
says_one None reply before now old new said = λ earlier start k. elim said [
  | inl waits ↦
      subst (λ (t : SinkTold). KeepsBack reply_line (earlier ++ reply ∷ []) now start t) (sym waits.2)
      (subst (λ (v : List ℕ). KeepsBack reply_line (earlier ++ reply ∷ []) v start old) (sym waits.0) (keep_more reply_line earlier reply before start old k waits.1))
  | inr put ↦ subst (λ (v : List ℕ). KeepsBack reply_line (earlier ++ reply ∷ []) v start new) (sym put.0) (keep_more_put reply_line earlier reply before start old new k put.1)
]
says_one (Some Done) reply before now old new said = said
says_one (Some Usage) reply before now old new said = said
says_one (Some (BadLine n)) reply before now old new said = said
says_one (Some ReadFault) reply before now old new said = said
says_one (Some WriteFault) reply before now old new said = λ earlier start k. part_more reply_line earlier reply before start old new k said
says_one (Some Memory) reply before now old new said = λ earlier start k. inr (record {
  before = earlier;
  last = reply;
  all_are = refl;
  keeps = subst (λ (t : SinkTold). KeepsBack reply_line earlier now start t) (sym said.1) (subst (λ (v : List ℕ). KeepsBack reply_line earlier v start old) (sym said.0) k);
})
says_one (Some BadStream) reply before now old new said = said

-- ---- at the end

-- where all that waits was put
put_ends : (status : Status) (rs : List ReplyParts) (before : List ℕ) (old mid new : SinkTold) → status ≢ WriteFault → Stands (Some status) rs before old mid
    → PutsAll before [] mid new → WritesReplies status rs old new
put_ends Done rs before old mid new other s put = put_whole reply_line rs before old mid new s.1 put
put_ends Usage rs before old mid new other s put = absurd s
put_ends (BadLine n) rs before old mid new other s put = put_whole reply_line rs before old mid new s put
put_ends ReadFault rs before old mid new other s put = put_whole reply_line rs before old mid new s.1 put
put_ends WriteFault rs before old mid new other s put = absurd (other refl)
put_ends Memory rs before old mid new other s put = elim s [
  | inl k ↦ inl (put_whole reply_line rs before old mid new k put)
  | inr b ↦ inr (record { whole = b.before; last = b.last; all_are = b.all_are; said = put_whole reply_line b.before before old mid new b.keeps put })
]
put_ends BadStream rs before old mid new other s put = absurd s

-- where a part of what waits was put
part_ends : (ended : Status) (rs : List ReplyParts) (before : List ℕ) (old mid new : SinkTold) → ended ≢ WriteFault → Stands (Some ended) rs before old mid
    → before ≢ [] → PutsPart before mid new → WritesPart reply_line rs old new
part_ends Done rs before old mid new other s some part = absurd (some s.0)
part_ends Usage rs before old mid new other s some part = absurd s
part_ends (BadLine n) rs before old mid new other s some part = part_put reply_line rs before old mid new s some part
part_ends ReadFault rs before old mid new other s some part = absurd (some s.0)
part_ends WriteFault rs before old mid new other s some part = absurd (other refl)
part_ends Memory rs before old mid new other s some part = elim s [
  | inl k ↦ part_put reply_line rs before old mid new k some part
  | inr b ↦ part_but_last reply_line rs before old mid new b part
]
part_ends BadStream rs before old mid new other s some part = absurd s

-- once what waits is put, the replies are written as the end says
pub end_says : (ended status : Status) (rs : List ReplyParts) (before : List ℕ) (old mid new : SinkTold) → Stands (Some ended) rs before old mid
    → PutsLast WriteFault ended status before mid new → WritesReplies status rs old new
end_says ended status rs before old mid new s last = elim last [
  | inl failed ↦
      subst (λ (e : Status). WritesReplies e rs old new) (sym failed.1)
      (subst (λ (t : SinkTold). WritesPart reply_line rs old t) (sym failed.2)
      (subst (λ (e : Status). Stands (Some e) rs before old mid) failed.0 s))
  | inr on ↦ elim on.1 [
    | inl put ↦ subst (λ (e : Status). WritesReplies e rs old new) (sym put.0) (put_ends ended rs before old mid new on.0 s put.1)
    | inr part ↦ subst (λ (e : Status). WritesReplies e rs old new) (sym part.0) (part_ends ended rs before old mid new on.0 s part.1 part.2)
  ]
]

-- ---- faults

-- where reading failed nothing waits
unread_waits : (ended : Status) (rs : List ReplyParts) (before : List ℕ) (old mid : SinkTold) → Stands (Some ended) rs before old mid → ended ≡ ReadFault → before ≡ []
unread_waits Done rs before old mid s e = cc
unread_waits Usage rs before old mid s e = cc
unread_waits (BadLine n) rs before old mid s e = cc
unread_waits ReadFault rs before old mid s e = s.0
unread_waits WriteFault rs before old mid s e = cc
unread_waits Memory rs before old mid s e = cc
unread_waits BadStream rs before old mid s e = cc

-- putting what waits fails as no reading does
pub last_reads : (ended status : Status) (rs : List ReplyParts) (before : List ℕ) (old mid new : SinkTold) (first now : ℕ) → Stands (Some ended) rs before old mid
    → PutsLast WriteFault ended status before mid new → EndsByFault ReadFault ended first now → EndsByFault ReadFault status first now
last_reads ended status rs before old mid new first now s last ends = elim last [
  | inl failed ↦ subst (λ (e : Status). EndsByFault ReadFault e first now) (failed.0 ∙ sym failed.1) ends
  | inr on ↦ elim on.1 [
    | inl put ↦ subst (λ (e : Status). EndsByFault ReadFault e first now) (sym put.0) ends
    | inr part ↦ record {
      count = ends.count;
      cause = λ e. let clash : WriteFault ≡ ReadFault = sym part.0 ∙ e in cc;
      steady = λ e. ends.steady (λ unread. part.1 (unread_waits ended rs before old mid s unread));
    }
  ]
]

-- what fails in putting it is told
pub last_writes : (ended status : Status) (waiting : List ℕ) (old new : SinkTold) (first mid now : ℕ) → PutsLast WriteFault ended status waiting old new
    → EndsByFault WriteFault ended first mid
    → (ended ≢ WriteFault → EndsByFault WriteFault status mid now)
    → (ended ≡ WriteFault → (status ≡ ended) × (now ≡ mid)) → EndsByFault WriteFault status first now
last_writes ended status waiting old new first mid now last ends go failed = elim last [
  | inl failure ↦
      let same = failed failure.0 in
      subst (λ (e : Status). EndsByFault WriteFault e first now) (sym same.0)
      (subst (λ (n : ℕ). EndsByFault WriteFault ended first n) (sym same.1) ends)
  | inr on ↦ subst (λ (n : ℕ). EndsByFault WriteFault status n now) (ends.steady on.0) (go on.0)
]
