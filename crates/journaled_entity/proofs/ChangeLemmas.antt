-- What may not have changed more than an expiry does.
use Rattle.std.proofs.Common.{◌≡◌, ◌⊎◌, inl, inr, ⊎_elim, ℕ, zero, suc, Bool, true, false, List, [], ◌∷◌, refl, sym, ◌∙◌, ap, subst, arith, length, ◌<◌, ◌≤◌}
use Rattle.std.specs.Prelude.{Option, Some, None, find, option_map}
use Rattle.std.proofs.lemmas.Bool.{cases_Bool, true≢false}
use Rattle.std.proofs.lemmas.Bool.Decides.{Decides-ltb}
use Rattle.std.proofs.lemmas.Option.{none-some}
use Rattle.m2m_names.specs.StatusCodes.{is_success}
use Rattle.m2m_names.specs.declared.operations.Op.{Op}
use Rattle.m2m_names.specs.declared.operations.Op.TheVariants.{Create, Retrieve, Update, Delete, Notify}
use Rattle.primitive_json.specs.Members.{retrieves}
use Rattle.primitive_json.specs.declared.note.NoteParts.{NoteParts}
use Rattle.primitive_json.specs.declared.reply.ReplyParts.{ReplyParts}
use Rattle.primitive_json.specs.declared.request.RequestParts.{RequestParts}
use Rattle.notify_outbox.specs.Items.{is_to_send, waits_for}
use Rattle.notify_outbox.specs.Outbox.{without_first}
use Rattle.notify_outbox.specs.declared.item.Item.{Item}
use Rattle.entity_model.specs.Entity.{EntityData, cut, swept, without_next}
use Rattle.entity_model.specs.Sound.{IsSoundEntity}
use Rattle.entity_model.proofs.TellingLemmas.{swept_still}
use Rattle.entity_model.specs.Places.{Effect}
use Rattle.cse_machine.specs.Step.{Step}
use Rattle.cse_machine.specs.declared.event.Event.{Event}
use Rattle.cse_machine.specs.declared.event.Event.TheVariants.{Ask, Take, Tick}
use Rattle.cse_machine.specs.declared.event.Outcome.{Outcome}
use Rattle.cse_machine.specs.declared.event.Outcome.TheVariants.{Done, Forward, Item as Given, Ticked, Starved}
use Rattle.group_fanout.specs.Fan.{after_members, member_effect, requests_to, sent_to}
use Rattle.group_fanout.specs.Operations.{operation_effect}
use Rattle.retrieve_discover.specs.Polling.{first_waiting, without_waiting}
use Rattle.cse_machine.proofs.CameLemmas.{Came, comes}
use Rattle.cse_machine.proofs.SameLemmas.{done_holds, done_keeps, onward_leaves, starved_alone}
use Rattle.cse_machine.proofs.MemberLemmas.{of_member}
use Rattle.cse_machine.proofs.WayLemmas.{member_addresses}
use Rattle.cse_machine.specs.Step.{has_fewer_items}
use Rattle.journaled_entity.specs.Changes.{is_cut_short, may_change, reads_alone}

-- ---- a Retrieve

retrieve_alone : (op : Op) → retrieves op ≡ true → op ≡ Retrieve
retrieve_alone Create is = absurd (true≢false (sym is))
retrieve_alone Retrieve is = refl
retrieve_alone Update is = absurd (true≢false (sym is))
retrieve_alone Delete is = absurd (true≢false (sym is))
retrieve_alone Notify is = absurd (true≢false (sym is))

-- ---- the first item that is such a one is taken

fewer_behind : (p : Item → Bool) (items : List Item) (item : Item) → find p items ≡ Some item → length (without_first p items) < length items
fewer_behind p [] item found = absurd (none-some item found)
fewer_behind p (i ∷ items) item found = elim (cases_Bool (p i)) [
  | inl t ↦ rw t (omega arith)
  | inr f ↦
      let rest : find p items ≡ Some item = (let is : find p (i ∷ items) ≡ find p items = rw f refl in sym is ∙ found) in
      let less = fewer_behind p items item rest in
      rw f (omega (arith, less))
]

some_mapped : {A B : Type 0} (f : A → B) (o : Option A) (b : B) → option_map f o ≡ Some b → (a : A) × (o ≡ Some a)
some_mapped f None b is = absurd (none-some b is)
some_mapped f (Some a) b is = (a, refl)

fewer_waiting : (e : EntityData) (channel : ℕ) (note : NoteParts) → first_waiting channel e ≡ Some note → has_fewer_items e (without_waiting channel e) ≡ true
fewer_waiting e channel note first =
    let item = some_mapped (λ (i : Item). i.note) (find (waits_for channel) e.items) note first in
    (Decides-ltb (length (without_first (waits_for channel) e.items)) (length e.items)).1 (fewer_behind (waits_for channel) e.items item.0 item.1)

-- it leaves the entity as it was, or takes an item
abbrev IsRead : EntityData → Effect → Type 0
IsRead e effect = (effect.after ≡ e) ⊎ (has_fewer_items e effect.after ≡ true)

module _ (request : RequestParts) (op : request.op ≡ Retrieve) where
  member_same : (e : EntityData) (address : List ℕ) → (member_effect e (sent_to request address)).after ≡ e
  member_same e address =
      of_member e (sent_to request address) (λ x. x.after ≡ e) (λ fault other. refl)
      (λ way. ap (λ (p : Op). (operation_effect p e (sent_to request address) way.target).after) op)

  members_same : (addresses : List (List ℕ)) (e : EntityData) → after_members e (requests_to request addresses) ≡ e
  members_same [] e = refl
  members_same (address ∷ addresses) e =
      members_same addresses (member_effect e (sent_to request address)).after ∙ member_same e address

  read : (e : EntityData) → Came e request (IsRead e)
  read e =
      comes e request (IsRead e)
      (λ fault other. inl refl)
      (λ way. inl (ap (λ (p : Op). (operation_effect p e request way.target).after) op))
      (λ way. inr (fewer_waiting e way.channel way.note way.first))
      (λ way. inl refl)
      (λ way. inl (members_same (member_addresses e request way.place way.group) e))

-- ---- each event

module _ (reading : ℕ) (before after : EntityData) where
  abbrev IsExpiry : Type 0
  IsExpiry = (after ≡ swept reading before) ⊎ (after ≡ before)

  read_over : (reply : ReplyParts) → IsRead (swept reading before) (record { reply = reply; after = after }) → has_fewer_items (swept reading before) after ≡ false → IsExpiry
  read_over reply read none =
      ⊎_elim (λ same. inl same) (λ on. absurd (true≢false (sym on ∙ none))) read

  -- one that was served
  served_over : (request : RequestParts) (reply : ReplyParts) → Step reading (Ask request) before (Done reply) after → is_success reply.rsc ≡ true
      → may_change (swept reading before) (Ask request) (Done reply) after ≡ false → IsExpiry
  served_over request reply step served none = elim (cases_Bool (retrieves request.op)) [
    | inl reads ↦
        let whole : may_change (swept reading before) (Ask request) (Done reply) after ≡ has_fewer_items (swept reading before) after = rw (served, reads) refl in
        let quiet : has_fewer_items (swept reading before) after ≡ false = sym whole ∙ none in
        read_over reply (done_holds (IsRead (swept reading before)) reading request before after reply (read request (retrieve_alone request.op reads) (swept reading before)) step) quiet
    | inr other ↦
        let yes : may_change (swept reading before) (Ask request) (Done reply) after ≡ true = rw (served, other) refl in
        absurd (true≢false (sym yes ∙ none))
  ]

  done_over : (request : RequestParts) (reply : ReplyParts) → Step reading (Ask request) before (Done reply) after → may_change (swept reading before) (Ask request) (Done reply) after ≡ false → IsExpiry
  done_over request reply step none = elim (cases_Bool (is_success reply.rsc)) [
    | inl served ↦ served_over request reply step served none
    | inr refused ↦ inl ((done_keeps reading request before after reply step).unserved refused)
  ]

  starved_over : (event : Event) (done : ℕ) → Step reading event before (Starved done) after → is_cut_short (Starved done) ≡ false → IsExpiry
  starved_over event zero step short = ⊎_elim (λ left. inl left) (λ unswept. inr unswept.same) (starved_alone reading event before after step)
  starved_over event (suc done) step short =
      let cut : is_cut_short (Starved (suc done)) ≡ true = (Decides-ltb 0 (suc done)).1 (omega arith) in
      absurd (true≢false (sym cut ∙ short))

none_to_take : (p : Item → Bool) (items : List Item) → find p items ≡ None → without_first p items ≡ items
none_to_take p [] none = refl
none_to_take p (i ∷ items) none = elim (cases_Bool (p i)) [
  | inl t ↦ let is : find p (i ∷ items) ≡ Some i = rw t refl in absurd (none-some i (sym none ∙ is))
  | inr f ↦ let rest : find p items ≡ None = (let is : find p (i ∷ items) ≡ find p items = rw f refl in sym is ∙ none) in rw f (ap (λ l. i ∷ l) (none_to_take p items rest))
]

none_mapped : {A B : Type 0} (f : A → B) (o : Option A) → None ≡ option_map f o → o ≡ None
none_mapped f None is = refl
none_mapped f (Some a) is = absurd (none-some (f a) is)

none_taken : (e : EntityData) → None ≡ option_map (λ (i : Item). i.note) (find (is_to_send e.nodes) e.items) → without_next e ≡ e
none_taken e none =
    ap (λ (l : List Item). record e { items = l })
    (none_to_take (is_to_send e.nodes) e.items (none_mapped (λ (i : Item). i.note) (find (is_to_send e.nodes) e.items) none))

pub expiry_alone : (reading : ℕ) (event : Event) (outcome : Outcome) (before after : EntityData)
    → Step reading event before outcome after → is_cut_short outcome ≡ false → may_change (swept reading before) event outcome after ≡ false
    → (after ≡ swept reading before) ⊎ (after ≡ before)
expiry_alone reading (Ask request) (Done reply) before after step short none = done_over reading before after request reply step none
expiry_alone reading (Ask request) (Forward poa onward) before after step short none = inl (onward_leaves reading request before after poa onward step)
expiry_alone reading (Ask request) (Given given) before after step short none = absurd step
expiry_alone reading (Ask request) Ticked before after step short none = absurd step
expiry_alone reading (Ask request) (Starved done) before after step short none = starved_over reading before after (Ask request) done step short
expiry_alone reading Take (Done reply) before after step short none = absurd step
expiry_alone reading Take (Forward poa onward) before after step short none = absurd step
expiry_alone reading Take (Given (Some note)) before after step short none = absurd (true≢false none)
expiry_alone reading Take (Given None) before after step short none = inl (step.1 ∙ none_taken (swept reading before) step.0)
expiry_alone reading Take Ticked before after step short none = absurd step
expiry_alone reading Take (Starved done) before after step short none = starved_over reading before after Take done step short
expiry_alone reading Tick (Done reply) before after step short none = absurd step
expiry_alone reading Tick (Forward poa onward) before after step short none = absurd step
expiry_alone reading Tick (Given given) before after step short none = absurd step
expiry_alone reading Tick Ticked before after step short none = inl step
expiry_alone reading Tick (Starved done) before after step short none = starved_over reading before after Tick done step short

-- ---- a moment that stands still

-- a reply takes no item of the outbox
abbrev pub KeepsItems : EntityData → Outcome → EntityData → Type 0
KeepsItems before outcome after = (reply : ReplyParts) → outcome ≡ Done reply → length before.items ≤ length after.items

none_fewer : (before after : EntityData) → length before.items ≤ length after.items → has_fewer_items before after ≡ false
none_fewer before after kept = elim (cases_Bool (has_fewer_items before after)) [
  | inl fewer ↦
      let less : length after.items < length before.items = (Decides-ltb (length after.items) (length before.items)).0 fewer in
      let wrong : ⊥ = omega (arith, less, kept) in
      absurd wrong
  | inr many ↦ many
]

-- what reads alone, and takes no item, changes no more than an expiry does
quiet_read : (reading : ℕ) (event : Event) (outcome : Outcome) (before after : EntityData) → reads_alone event ≡ true
    → Step reading event before outcome after → KeepsItems (swept reading before) outcome after → may_change (swept reading before) event outcome after ≡ false
quiet_read reading (Ask request) (Done reply) before after reads step kept = elim (cases_Bool (is_success reply.rsc)) [
  | inl served ↦
      let is : retrieves request.op ≡ true = reads in
      let whole : may_change (swept reading before) (Ask request) (Done reply) after ≡ has_fewer_items (swept reading before) after = rw (served, is) refl in
      whole ∙ none_fewer (swept reading before) after (kept reply refl)
  | inr refused ↦
      let none : may_change (swept reading before) (Ask request) (Done reply) after ≡ false = rw refused refl in
      none
]
quiet_read reading (Ask request) (Forward poa onward) before after reads step kept = refl
quiet_read reading (Ask request) (Given given) before after reads step kept = absurd step
quiet_read reading (Ask request) Ticked before after reads step kept = absurd step
quiet_read reading (Ask request) (Starved done) before after reads step kept = refl
quiet_read reading Take outcome before after reads step kept = absurd (true≢false (sym reads))
quiet_read reading Tick outcome before after reads step kept = refl

-- and where the moment stands still, it leaves the entity as it was
pub still_alone : (reading : ℕ) (event : Event) (outcome : Outcome) (before after : EntityData) → IsSoundEntity before → cut reading ≤ before.last
    → reads_alone event ≡ true → Step reading event before outcome after → is_cut_short outcome ≡ false → KeepsItems before outcome after → after ≡ before
still_alone reading event outcome before after sound still reads step short kept =
    let same = swept_still reading before sound still in
    let keeps : KeepsItems (swept reading before) outcome after = subst (λ (e : EntityData). KeepsItems e outcome after) (sym same) kept in
    ⊎_elim (λ left. left ∙ same) (λ left. left) (expiry_alone reading event outcome before after step short (quiet_read reading event outcome before after reads step keeps))
