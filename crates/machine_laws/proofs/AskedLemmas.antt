-- What a request that was served changes.
use Rattle.machine_laws.proofs.Words.{◌≡◌, ℕ, List, length, true, Some, None, refl, sym, ap, subst, ◌∙◌, arith}
use Rattle.machine_laws.proofs.Terms.{is_originator, Fine, Op, Create, Retrieve, Update, Delete, Notify, ReplyParts, RequestParts, ResourceData, notes_of_all, EntityData, swept, at, Effect, refusal, reply_alone, fault_on, IsSoundEntity, changes_by, only_in, effect_at, effect_by, gone_numbers, told_effect_at, change_effect, operation_effect, reading_reply, claimed_originator}
use Rattle.machine_laws.proofs.Facts.{true≢false, sound_swept, done_at, stays_sound, changing_at}
use Rattle.std.specs.Prelude.{◌+◌}
use Rattle.create_delete.proofs.ChangesLemmas.{nothing_apart}
use Rattle.change_laws.proofs.ServedLemmas.{creation_adds_one, next_rises, update_alone}
use Rattle.machine_laws.specs.Asked.{CreatesAddOne, DeletesTakeTheirTarget, IsServedStep, NumbersRiseByWhatIsNew, UpdatesChangeTheirTarget, told_of}
use Rattle.guard_laws.specs.Guard.{is_fan_point}
use Rattle.m2m_names.specs.StatusCodes.{is_success}
use Rattle.cse_machine.proofs.KeptLemmas.{comes_at, fault_there, relays, told_done}
use Rattle.cse_machine.proofs.CameLemmas.{comes}
use Rattle.cse_machine.proofs.SameLemmas.{done_holds}
use Rattle.cse_machine.proofs.WayLemmas.{given_note, taken_answer}
use Rattle.guard_laws.proofs.ChangingLemmas.{unrefused}
use Rattle.guard_laws.proofs.GuardLemmas.{Served, performed_is, served_after, served_on, served_reply}
use Rattle.machine_laws.proofs.RiseLemmas.{as_many_new, untold}

-- what was served on its target, and left so
served_step : (reading : ℕ) (request : RequestParts) (before after : EntityData) (reply : ReplyParts) (target : ResourceData) → IsServedStep reading request before after reply target → Served (swept reading before) request target
served_step reading request before after reply target step =
    served_on (swept reading before) request target reply step.step.0 step.served step.named

step_reply : (reading : ℕ) (request : RequestParts) (before after : EntityData) (reply : ReplyParts) (target : ResourceData) → IsServedStep reading request before after reply target → reply ≡ (operation_effect request.op (swept reading before) request target).reply
step_reply reading request before after reply target step =
    served_reply (swept reading before) request target reply step.step.0 (served_step reading request before after reply target step)

step_after : (reading : ℕ) (request : RequestParts) (before after : EntityData) (reply : ReplyParts) (target : ResourceData) → IsServedStep reading request before after reply target → after ≡ (operation_effect request.op (swept reading before) request target).after
step_after reading request before after reply target step =
    step.step.1 ∙ served_after (swept reading before) request target (served_step reading request before after reply target step)

-- ---- what it changes

-- as it was performed on the resource of the number, with what it succeeded by
record Performed (op : Op) (e : EntityData) (request : RequestParts) (after : EntityData) (target : ResourceData) : Type 0 where
  success : is_success (effect_at op e (claimed_originator e.home request) request target.number).reply.rsc ≡ true
  left : after ≡ told_of op request target.number e (effect_at op e (claimed_originator e.home request) request target.number).after

-- what no place refuses is done, and told
module _ (op : Op) (e : EntityData) (request : RequestParts) (target : ResourceData) (there : at target.number e.nodes ≡ Some target) (served : is_success (told_effect_at op e (claimed_originator e.home request) request target.number).reply.rsc ≡ true) where
  abbrev o : List ℕ
  o = claimed_originator e.home request

  none : fault_on op e (claimed_originator e.home request) request target ≡ None
  none = unrefused op e request target there served

  is_done : effect_at op e (claimed_originator e.home request) request target.number ≡ effect_by op e (claimed_originator e.home request) request target
  is_done = done_at op e o request target.number target there (fault_there op e request target there ∙ none)

  performed : (after : EntityData) → after ≡ (told_effect_at op e (claimed_originator e.home request) request target.number).after → Performed op e request after target
  performed after left =
      let told = told_done op e request target there none in
      record {
        success = ap (λ (x : Effect). is_success x.reply.rsc) is_done ∙ sym (ap (λ (x : Effect). is_success x.reply.rsc) told) ∙ served;
        left = left ∙ ap (λ (x : Effect). x.after) told ∙ ap (λ (x : Effect). told_of op request target.number e x.after) (sym is_done);
      }

performed_step : (op : Op) (reading : ℕ) (request : RequestParts) (before after : EntityData) (reply : ReplyParts) (target : ResourceData) → request.op ≡ op → operation_effect op (swept reading before) request target ≡ change_effect op (swept reading before) request target → IsServedStep reading request before after reply target → Performed op (swept reading before) request after target
performed_step op reading request before after reply target is changes step =
    let e = swept reading before in
    let on = served_step reading request before after reply target step in
    let way = performed_is op e request target is on.there changes in
    let said = step_reply reading request before after reply target step ∙ ap (λ (x : Effect). x.reply) way in
    performed op e request target on.there (ap (λ (r : ReplyParts). is_success r.rsc) (sym said) ∙ step.served)
    after (step_after reading request before after reply target step ∙ ap (λ (x : Effect). x.after) way)

pub create_adds : CreatesAddOne
create_adds reading request before after reply target sound op step =
    let e = swept reading before in
    let o = claimed_originator e.home request in
    let on = served_step reading request before after reply target step in
    let made = performed_step Create reading request before after reply target op refl step in (
      (effect_at Create e o request target.number).after,
      creation_adds_one e o request target.number (sound_swept reading before sound) on.originator made.success,
      made.left,
    )

pub update_changes : UpdatesChangeTheirTarget
update_changes reading request before after reply target sound op step =
    let e = swept reading before in
    let o = claimed_originator e.home request in
    let made = performed_step Update reading request before after reply target op refl step in (
      (effect_at Update e o request target.number).after,
      update_alone e o request target.number (sound_swept reading before sound) made.success,
      made.left,
    )

pub delete_takes : DeletesTakeTheirTarget
delete_takes reading request before after reply target op step =
    let e = swept reading before in
    let on = served_step reading request before after reply target step in
    let is = performed_is Delete e request target op on.there refl in
    let said = step_reply reading request before after reply target step ∙ ap (λ (x : Effect). x.reply) is in
    let served = ap (λ (r : ReplyParts). is_success r.rsc) (sym said) ∙ step.served in
    let told = told_done Delete e request target on.there (unrefused Delete e request target on.there served) in (
      said ∙ ap (λ (x : Effect). x.reply) told,
      step_after reading request before after reply target step ∙ ap (λ (x : Effect). x.after) (is ∙ told),
    )

-- ---- the next number

abbrev Rises : EntityData → Effect → Type 0
Rises e x = x.after.next ≡ e.next + length (only_in x.after.nodes e.nodes)

still_rises : (e : EntityData) (reply : ReplyParts) → Rises e (reply_alone e reply)
still_rises e reply = omega (arith, ap length (nothing_apart e.nodes))

-- what is done rises so, and what is told of it leaves as many that are new
told_rises : (op : Op) (e : EntityData) (request : RequestParts) (target : ResourceData) → IsSoundEntity e → is_originator (claimed_originator e.home request) ≡ true → at target.number e.nodes ≡ Some target → Rises e (told_effect_at op e (claimed_originator e.home request) request target.number)
told_rises op e request target sound originator there =
    comes_at e request target there op (Rises e) (λ f other. still_rises e (refusal request f)) (λ none.
    let o = claimed_originator e.home request in
    let x = effect_by op e o request target in
    let is = done_at op e o request target.number target there (fault_there op e request target there ∙ none) in
    let rises : Rises e x = subst (Rises e) is (next_rises op e o request target.number sound originator) in
    let done_sound : IsSoundEntity x.after = subst (λ (y : Effect). IsSoundEntity y.after) is (stays_sound op e o request target.number sound originator) in
    let drafts = notes_of_all x.after.home e.nodes (gone_numbers e x.after) (changes_by op request target.number e x.after) in
    rises
    ∙ ap (λ (k : ℕ). e.next + k) (sym (as_many_new drafts x.after.nodes e.nodes done_sound.tree done_sound.kinds (λ n none.
    untold e.nodes (gone_numbers e x.after) n x.after.home (changes_by op request target.number e x.after) none))))

changed_rises : (op : Op) (e : EntityData) (request : RequestParts) (target : ResourceData) → IsSoundEntity e → is_originator (claimed_originator e.home request) ≡ true → at target.number e.nodes ≡ Some target → Rises e (change_effect op e request target)
changed_rises op e request target sound originator there =
    subst (Rises e) (sym (changing_at op e request target there)) (told_rises op e request target sound originator there)

operation_rises : (op : Op) (e : EntityData) (request : RequestParts) (target : ResourceData) → IsSoundEntity e → is_originator (claimed_originator e.home request) ≡ true → at target.number e.nodes ≡ Some target → Rises e (operation_effect op e request target)
operation_rises Create e request target = changed_rises Create e request target
operation_rises Retrieve e request target = λ sound originator there. still_rises e (reading_reply e request target.number)
operation_rises Update e request target = changed_rises Update e request target
operation_rises Delete e request target = changed_rises Delete e request target
operation_rises Notify e request target = λ sound originator there.
    relays e request target there (Rises e) (λ f other. still_rises e (refusal request f)) (λ none. still_rises e (refusal request Fine))

pub numbers_rise : NumbersRiseByWhatIsNew
numbers_rise reading request before after reply sound step alone =
    let e = swept reading before in
    done_holds (Rises e) reading request before after reply
    (comes e request (Rises e)
    (λ fault other. still_rises e (refusal request fault))
    (λ way. operation_rises request.op e request way.target (sound_swept reading before sound) way.originator way.there)
    (λ way. still_rises e (given_note e request way.channel way.note).reply)
    (λ way. still_rises e (taken_answer e request).reply)
    (λ way. absurd (true≢false (sym (ap is_fan_point way.spot) ∙ alone))))
    step
