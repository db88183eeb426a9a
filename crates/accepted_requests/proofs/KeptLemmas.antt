-- What an accepted request keeps ready, and its reply.
use Rattle.std.specs.Prelude.{not, is_some, unwrap_or}
use Rattle.std.specs.Option.{option_map_or}
use Rattle.std.proofs.Common.{◌≡◌, ℕ, Bool, true, false, true≢false, List, Option, Some, None, refl, sym, ap, ◌∙◌}
use Rattle.primitive_json.specs.declared.reply.ReplyParts.{ReplyParts}
use Rattle.primitive_json.specs.declared.request.RequestParts.{RequestParts}
use Rattle.accepted_requests.specs.Entries.{LaterEntryData, begun, does_wait, finished, no_request, ready_reply}
use Rattle.accepted_requests.specs.Kept.{IsKeptReady, reply_kept}
use Rattle.accepted_requests.specs.Sizes.{content_size}

-- the entry of these parts
abbrev pub entry_of : ℕ → List ℕ → ℕ → RequestParts → Bool → ReplyParts → LaterEntryData
entry_of number originator accepted request has_run reply = record {
  number = number;
  originator = originator;
  request = request;
  accepted = accepted;
  reply = reply_kept has_run reply;
}

-- it waits until it was run
pub waits_until : (has_run : Bool) (reply : ReplyParts) → not has_run ≡ not (is_some (reply_kept has_run reply))
waits_until true reply = refl
waits_until false reply = refl

-- once it was run, no reply need be ready
pub keeps_ready : (originator : List ℕ) (accepted : ℕ) (old new : RequestParts) (had_run has_run : Bool) (reply kept : ReplyParts) (size sized : ℕ)
    → IsKeptReady originator accepted old had_run reply size → has_run ≡ true → sized ≡ content_size kept → IsKeptReady originator accepted new has_run kept sized
keeps_ready originator accepted old new had_run has_run reply kept size sized is ran are = record {
  originator_text = is.originator_text;
  accepted_moment = is.accepted_moment;
  ready = λ not_run. absurd (true≢false (sym ran ∙ not_run));
  sized = are;
}

-- the size of the result, where there is one
pub size_kept : (originator : List ℕ) (accepted : ℕ) (request : RequestParts) (has_run : Bool) (reply : ReplyParts) (size : ℕ) → IsKeptReady originator accepted request has_run reply size
    → size ≡ option_map_or content_size (reply_kept has_run reply) 0
size_kept originator accepted request true reply size is = is.sized
size_kept originator accepted request false reply size is = is.sized ∙ ap content_size (is.ready refl)

-- it wasn't run yet
not_run : (had_run : Bool) (reply : ReplyParts) → not (is_some (reply_kept had_run reply)) ≡ true → had_run ≡ false
not_run true reply waits = absurd (true≢false (sym waits))
not_run false reply waits = refl

-- it was run
pub was_run : (number : ℕ) (originator : List ℕ) (accepted : ℕ) (request : RequestParts) (had_run : Bool) (reply : ReplyParts) (e : LaterEntryData) → entry_of number originator accepted request had_run reply ≡ e → does_wait e ≡ false → had_run ≡ true
was_run number originator accepted request true reply e is ran = refl
was_run number originator accepted request false reply e is ran = absurd (true≢false (ap does_wait is ∙ ran))

-- its run begins
pub begins : (number : ℕ) (originator : List ℕ) (accepted : ℕ) (old new : RequestParts) (had_run : Bool) (reply : ReplyParts) (size : ℕ) (e : LaterEntryData) → IsKeptReady originator accepted old had_run reply size → entry_of number originator accepted old had_run reply ≡ e → does_wait e ≡ true → new ≡ no_request → entry_of number originator accepted new true reply ≡ begun e
begins number originator accepted old new had_run reply size e kept is waits none =
    let ready : reply ≡ ready_reply old = kept.ready (not_run had_run reply (ap does_wait is ∙ waits)) in
    ap (λ (r : RequestParts). entry_of number originator accepted r true reply) none
    ∙ ap (λ (r : ReplyParts). entry_of number originator accepted no_request true r) ready
    ∙ ap begun is

-- its run is finished
finishes_run : (number : ℕ) (originator : List ℕ) (accepted : ℕ) (old new : RequestParts) (reply kept : ReplyParts) (told : Option ReplyParts) → kept ≡ unwrap_or told reply → entry_of number originator accepted new true kept ≡ finished (entry_of number originator accepted old true reply) new told
finishes_run number originator accepted old new reply kept None is = ap (entry_of number originator accepted new true) is
finishes_run number originator accepted old new reply kept (Some other) is = ap (entry_of number originator accepted new true) is

pub finishes : (number : ℕ) (originator : List ℕ) (accepted : ℕ) (old new : RequestParts) (had_run : Bool) (reply kept : ReplyParts) (told : Option ReplyParts) (e : LaterEntryData) → entry_of number originator accepted old had_run reply ≡ e → does_wait e ≡ false → kept ≡ unwrap_or told reply → entry_of number originator accepted new had_run kept ≡ finished e new told
finishes number originator accepted old new true reply kept told e is ran at =
    finishes_run number originator accepted old new reply kept told at ∙ ap (λ (x : LaterEntryData). finished x new told) is
finishes number originator accepted old new false reply kept told e is ran at = absurd (true≢false (ap does_wait is ∙ ran))
