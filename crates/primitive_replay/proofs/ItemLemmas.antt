-- The items that are left in the outbox, written behind the lines.
use Rattle.std.proofs.Common.{◌≡◌, ◌≢◌, ℕ, ◌+◌, ◌<◌, ◌∙◌, List, [], ◌∷◌, ◌++◌, length, find, Option, Some, None, option_map, ◌⊎◌, inl, inr, refl, sym, ap, subst, arith, append_assoc, append-nil, length-append}
use Rattle.std.proofs.lemmas.Option.{same_Some}
use Rattle.std.proofs.lemmas.Grind.{flat_map-append}
use Rattle.cse_server.specs.Outside.{EndsByFault, LinkTold, Outside, Puts, PutsPart, SinkTold, outside}
use Rattle.cse_server.proofs.PutLemmas.{Puts-append, puts_none}
use Rattle.m2m_io.specs.declared.status.Status.{Status}
use Rattle.m2m_io.specs.declared.status.Status.TheVariants.{Done, Usage, BadLine, ReadFault, WriteFault, Memory, BadStream}
use Rattle.primitive_json.specs.declared.note.NoteParts.{NoteParts}
use Rattle.primitive_json.specs.declared.reply.ReplyParts.{ReplyParts}
use Rattle.notify_outbox.specs.Items.{is_item}
use Rattle.notify_outbox.specs.Outbox.{without_first}
use Rattle.notify_outbox.specs.declared.item.Item.{Item}
use Rattle.entity_model.specs.Entity.{EntityData}
use Rattle.primitive_replay.specs.Script.{Replays, Writes, WritesBeforeItem, WritesReplies, WritesScript, lines_of_items, lines_of_replies, note_line, reply_line, script}
use Rattle.cse_server.specs.Together.{PutsWithin, WritesAll}
use Rattle.primitive_replay.specs.Way.{PutsFront, ReplaysFrom, WritesText}
use Rattle.cse_server.proofs.TogetherLemmas.{PutsWithin-append, within}

-- ---- the first item

-- an item that is taken first is the first, and the others are left
pub taken_first : (items : List Item) (note : NoteParts) → option_map (λ (i : Item). i.note) (find is_item items) ≡ Some note
    → (x : Item) × (items ≡ x ∷ without_first is_item items) × (x.note ≡ note)
taken_first [] note e = cc
taken_first (x ∷ items) note e = (x, refl, same_Some x.note note e)

pub is_none : (given : Option Item) → ((item : Item) → given ≡ Some item → ⊥) → given ≡ None
is_none None some = refl
is_none (Some item) some = absurd (some item refl)

-- where none is taken there is none
pub taken_none : (items : List Item) → option_map (λ (i : Item). i.note) (find is_item items) ≡ None → items ≡ []
taken_none [] e = refl
taken_none (x ∷ items) e = cc

-- ---- items, one after another

-- none was put so far
pub front_none : (items : List Item) (out : SinkTold) → PutsFront items items out out
front_none items out = record { whole = []; items_are = refl; said = puts_none out }

lines_one : (whole : List Item) (x : Item) (note : NoteParts) → x.note ≡ note
    → lines_of_items whole ++ note_line note ≡ lines_of_items (whole ++ x ∷ [])
lines_one whole x note same =
    ap (λ v. lines_of_items whole ++ v) (ap note_line (sym same) ∙ sym (append-nil (note_line x.note)))
    ∙ sym (flat_map-append (λ (i : Item). note_line i.note) whole (x ∷ []))

-- the first of those that are left was put
front_one : (items left more : List Item) (x : Item) (note : NoteParts) (old mid new : SinkTold) → left ≡ x ∷ more → x.note ≡ note
    → PutsFront items left old mid → Puts (note_line note) 1 mid new → PutsFront items more old new
front_one items left more x note old mid new is same front said = record {
  whole = front.whole ++ x ∷ [];
  items_are = front.items_are ∙ ap (λ v. front.whole ++ v) is ∙ sym (append_assoc front.whole (x ∷ []) more);
  said = subst (λ (n : ℕ). Puts (lines_of_items (front.whole ++ x ∷ [])) n old new) (sym (length-append front.whole (x ∷ [])))
      (subst (λ (v : List ℕ). Puts v (length front.whole + 1) old new) (lines_one front.whole x note same)
      (Puts-append old mid new (lines_of_items front.whole) (note_line note) (length front.whole) 1 front.said said));
}

-- the same where the items that are left are told
pub front_more : (items left more : List Item) (x : Item) (note : NoteParts) (old mid new : SinkTold) → left ≡ x ∷ more → x.note ≡ note
    → (now : List Item) → now ≡ more → PutsFront items left old mid → Puts (note_line note) 1 mid new → PutsFront items now old new
front_more items left more x note old mid new is same now are front said =
    subst (λ (v : List Item). PutsFront items v old new) (sym are) (front_one items left more x note old mid new is same front said)

-- one less is left
pub fewer : (left more : List Item) (x : Item) (now : List Item) → left ≡ x ∷ more → now ≡ more → length now < length left
fewer left more x now is are =
    subst (λ (v : List Item). length v < length left) (sym are) (subst (λ (v : List Item). length more < length v) (sym is) (omega arith))

no_replies : (n : ℕ) → n ≡ length {A = ReplyParts} [] + n
no_replies n = omega arith

items_within : (whole : List Item) (old new : SinkTold) → Puts (lines_of_items whole) (length whole) old new → PutsWithin (script [] whole) (length {A = ReplyParts} [] + length whole) old new
items_within whole old new said = within (lines_of_items whole) (length whole) (length {A = ReplyParts} [] + length whole) old new (omega arith) said

-- all were put
pub front_all : (items left : List Item) (old new : SinkTold) → left ≡ [] → PutsFront items left old new → WritesScript Done [] items old new
front_all items left old new none front =
    let all : items ≡ front.whole = front.items_are ∙ ap (λ v. front.whole ++ v) none ∙ append-nil front.whole in
    subst (λ (v : List Item). PutsWithin (script [] v) (length {A = ReplyParts} [] + length v) old new) (sym all) (items_within front.whole old new front.said)

before_item : (items left more : List Item) (x : Item) (old mid : SinkTold) → left ≡ x ∷ more → PutsFront items left old mid → WritesBeforeItem [] items old mid
before_item items left more x old mid is front = record {
  whole = front.whole;
  next = x;
  later = more;
  items_are = front.items_are ∙ ap (λ v. front.whole ++ v) is;
  said = items_within front.whole old mid front.said;
}

-- the first of those that are left ended it
pub front_ends : (status : Status) (items left more : List Item) (x : Item) (note : NoteParts) (old mid new : SinkTold) → left ≡ x ∷ more → x.note ≡ note
    → PutsFront items left old mid → WritesText (Some status) (note_line note) mid new → WritesScript status [] items old new
front_ends Done items left more x note old mid new is same front said = absurd said
front_ends Usage items left more x note old mid new is same front said = absurd said
front_ends (BadLine n) items left more x note old mid new is same front said = absurd said
front_ends ReadFault items left more x note old mid new is same front said = absurd said
front_ends WriteFault items left more x note old mid new is same front said = record {
  between = mid;
  before = record {
    whole = front.whole;
    next = x;
    later = more;
    items_are = front.items_are ∙ ap (λ v. front.whole ++ v) is;
    said = items_within front.whole old mid front.said;
  };
  part = subst (λ (n : NoteParts). PutsPart (note_line n) mid new) (sym same) said;
}
front_ends Memory items left more x note old mid new is same front said =
    subst (λ (t : SinkTold). WritesBeforeItem [] items old t) (sym said) (before_item items left more x old mid is front)
front_ends BadStream items left more x note old mid new is same front said = absurd said

-- ---- behind the replies

puts_behind : (replies : List ReplyParts) (whole : List Item) (old mid new : SinkTold) → WritesAll reply_line replies old mid
    → PutsWithin (script [] whole) (length {A = ReplyParts} [] + length whole) mid new → PutsWithin (script replies whole) (length replies + length whole) old new
puts_behind replies whole old mid new a b =
    subst (λ (n : ℕ). PutsWithin (script replies whole) (length replies + n) old new) (sym (no_replies (length whole)))
    (PutsWithin-append old mid new (lines_of_replies replies) (lines_of_items whole) (length replies) (length {A = ReplyParts} [] + length whole) a b)

abbrev before_behind : (replies : List ReplyParts) (items : List Item) (old mid new : SinkTold) → WritesAll reply_line replies old mid
    → WritesBeforeItem [] items mid new → WritesBeforeItem replies items old new
before_behind replies items old mid new a b = record {
  whole = b.whole;
  next = b.next;
  later = b.later;
  items_are = b.items_are;
  said = puts_behind replies b.whole old mid new a b.said;
}

script_behind : (status : Status) (replies : List ReplyParts) (items : List Item) (old mid new : SinkTold) → WritesAll reply_line replies old mid
    → WritesScript status [] items mid new → WritesScript status replies items old new
script_behind Done replies items old mid new a b = puts_behind replies items old mid new a b
script_behind Usage replies items old mid new a b = absurd b
script_behind (BadLine n) replies items old mid new a b = absurd b
script_behind ReadFault replies items old mid new a b = absurd b
script_behind WriteFault replies items old mid new a b = record {
  between = b.between;
  before = before_behind replies items old mid b.between a b.before;
  part = b.part;
}
script_behind Memory replies items old mid new a b = before_behind replies items old mid new a b
script_behind BadStream replies items old mid new a b = absurd b

-- ---- behind the lines

-- where the lines weren't read to their end, it ends as they did, and nothing more is written
abbrev Stays : Status → Status → SinkTold → SinkTold → Type 0
Stays ended status mid new = ended ≢ Done → (status ≡ ended) × (new ≡ mid)

kept : (ended status : Status) (replies : List ReplyParts) (old mid new : SinkTold) → WritesReplies ended replies old mid → (status ≡ ended) × (new ≡ mid)
    → (status ≡ ended) × WritesReplies ended replies old new
kept ended status replies old mid new said same =
    (same.0, subst (λ (t : SinkTold). WritesReplies ended replies old t) (sym same.1) said)

finished : (ended status : Status) (replies : List ReplyParts) (items : List Item) (old mid new : SinkTold) → WritesReplies ended replies old mid
    → (ended ≡ Done → WritesScript status [] items mid new) → Stays ended status mid new → Writes ended status replies items old new
finished Done status replies items old mid new said done still = script_behind status replies items old mid new said (done refl)
finished Usage status replies items old mid new said done still = absurd said
finished (BadLine n) status replies items old mid new said done still = kept (BadLine n) status replies old mid new said (still (λ e. cc))
finished ReadFault status replies items old mid new said done still = kept ReadFault status replies old mid new said (still (λ e. cc))
finished WriteFault status replies items old mid new said done still = kept WriteFault status replies old mid new said (still (λ e. cc))
finished Memory status replies items old mid new said done still = kept Memory status replies old mid new said (still (λ e. cc))
finished BadStream status replies items old mid new said done still = absurd said

-- lines were replayed, and then it was finished
pub replays_finished : (opening entity after : EntityData) (items : List Item) (stream left : Option (List ℕ)) (old mid new : SinkTold) (told more : LinkTold) (ended status : Status)
    → entity ≡ opening → items ≡ after.items
    → ReplaysFrom 1 0 entity after (outside stream old None told) (outside left mid None more) ended
    → (ended ≡ Done → WritesScript status [] items mid new) → Stays ended status mid new
    → Replays opening (outside stream old None told) (outside left new None more) status
replays_finished opening entity after items stream left old mid new told more ended status opens same lines done still =
    let r = subst (λ (e : EntityData). ReplaysFrom 1 0 e after (outside stream old None told) (outside left mid None more) ended) opens lines in record {
      after = after;
      heard = r.heard;
      ended = ended;
      asks = r.asks;
      stream = r.stream;
      said = subst (λ (v : List Item). Writes ended status r.asks.replies v old new) same
          (finished ended status r.asks.replies items old mid new r.said done still);
    }

-- memory ran out before the first line
pub replays_none : (opening : EntityData) (stream left : Option (List ℕ)) (old new : SinkTold) (readings now : Option (List ℕ)) (told more : LinkTold)
    → ReplaysFrom 1 0 opening opening (outside stream old readings told) (outside left new now more) Memory
    → Replays opening (outside stream old readings told) (outside left new now more) Memory
replays_none opening stream left old new readings now told more r = record {
  after = opening;
  heard = r.heard;
  ended = Memory;
  asks = r.asks;
  stream = r.stream;
  said = (refl, r.said);
}

-- ---- faults

is_done : (ended : Status) → (ended ≡ Done) ⊎ (ended ≢ Done)
is_done Done = inl refl
is_done Usage = inr (λ e. cc)
is_done (BadLine n) = inr (λ e. cc)
is_done ReadFault = inr (λ e. cc)
is_done WriteFault = inr (λ e. cc)
is_done Memory = inr (λ e. cc)
is_done BadStream = inr (λ e. cc)

never_reads : (items : List Item) (mid new : SinkTold) (status : Status) → WritesScript status [] items mid new → status ≢ ReadFault
never_reads items mid new Done said e = cc
never_reads items mid new Usage said e = cc
never_reads items mid new (BadLine n) said e = cc
never_reads items mid new ReadFault said e = said
never_reads items mid new WriteFault said e = cc
never_reads items mid new Memory said e = cc
never_reads items mid new BadStream said e = cc

other_done : (ended : Status) → ended ≡ Done → ended ≢ ReadFault
other_done ended e f = let clash : Done ≡ ReadFault = sym e ∙ f in cc

-- finishing fails as no reading does
pub finished_reads : (ended status : Status) (items : List Item) (mid new : SinkTold) (before now : ℕ) → EndsByFault ReadFault ended before now
    → (ended ≡ Done → WritesScript status [] items mid new) → (ended ≢ Done → status ≡ ended) → EndsByFault ReadFault status before now
finished_reads ended status items mid new before now ends done still = elim (is_done ended) [
  | inl whole ↦ record {
    count = ends.count;
    cause = λ e. absurd (never_reads items mid new status (done whole) e);
    steady = λ e. ends.steady (other_done ended whole);
  }
  | inr short ↦ subst (λ (s : Status). EndsByFault ReadFault s before now) (sym (still short)) ends
]

done_writes : (ended : Status) → ended ≡ Done → ended ≢ WriteFault
done_writes ended e f = let clash : Done ≡ WriteFault = sym e ∙ f in cc

-- what fails in finishing is told
pub finished_writes : (ended status : Status) (before mid now : ℕ) → EndsByFault WriteFault ended before mid
    → (ended ≡ Done → EndsByFault WriteFault status mid now) → (ended ≢ Done → (status ≡ ended) × (now ≡ mid)) → EndsByFault WriteFault status before now
finished_writes ended status before mid now ends done still = elim (is_done ended) [
  | inl whole ↦ subst (λ (n : ℕ). EndsByFault WriteFault status n now) (ends.steady (done_writes ended whole)) (done whole)
  | inr short ↦
      let same = still short in
      subst (λ (s : Status). EndsByFault WriteFault s before now) (sym same.0)
      (subst (λ (n : ℕ). EndsByFault WriteFault ended before n) (sym same.1) ends)
]

-- ---- for callers that have a clock

-- what a clock told is no matter
pub whatever_readings : (opening : EntityData) (left rest : Option (List ℕ)) (out now : SinkTold) (readings : Option (List ℕ)) (told more : LinkTold) (status : Status)
    → Replays opening (outside left out None told) (outside rest now None more) status
    → Replays opening (outside left out readings told) (outside rest now readings more) status
whatever_readings opening left rest out now readings told more status r = record {
  after = r.after;
  heard = r.heard;
  ended = r.ended;
  asks = r.asks;
  stream = r.stream;
  said = r.said;
}

no_usage : (ended : Status) (replies : List ReplyParts) (items : List Item) (old new : SinkTold) → Writes ended Usage replies items old new → ⊥
no_usage Done replies items old new said = said
no_usage Usage replies items old new said = said
no_usage (BadLine n) replies items old new said = let clash : Usage ≡ BadLine n = said.0 in cc
no_usage ReadFault replies items old new said = let clash : Usage ≡ ReadFault = said.0 in cc
no_usage WriteFault replies items old new said = let clash : Usage ≡ WriteFault = said.0 in cc
no_usage Memory replies items old new said = let clash : Usage ≡ Memory = said.0 in cc
no_usage BadStream replies items old new said = said

-- lines that are replayed are no faulty command line
pub never_usage : (opening : EntityData) (old new : Outside) (status : Status) → Replays opening old new status → status ≡ Usage → ⊥
never_usage opening old new status r e =
    no_usage r.ended r.asks.replies r.after.items old.out new.out
    (subst (λ (s : Status). Writes r.ended s r.asks.replies r.after.items old.out new.out) e r.said)
