-- Seats, jobs and desks go from thread to thread.
use base.Fml.{Lft}
use denote.Ref.{ShrRef}
use denote.RattleType.{RattleType}
use denote.Struct.Declared.{shape}
use denote.Param.Send.{IsSend, IsSync, sendable, struct_send, struct_sync, recorded_send}
use denote.Param.{arg, param}
use denote.Param.Send.{arg_send, param_send, recorded_sync, shr_send, shr_sync}
use denote.Exit.{no}
use denote.Struct.Struct.{Struct}
use denote.Struct.Tuple.{TupleAt, type_at}
use mir.Syntax.{Lifetime, Sym, Ty, given}
use Rattle.std.proofs.Common.{◌∷◌, []}
use Rattle.std.proofs.Crossing.{crosses, frees, send, sync}
use Rattle.std.specs.contracts.alloc.Global as global
use Rattle.std.specs.contracts.snapshot.Snapshot as snapshot
use Rattle.std.specs.contracts.sync.Mutex as mutex
use Rattle.atomic_table.proofs.owned.Table.TheSendSync as table
use Rattle.atomic_table.proofs.shared.Seat.TheSendSync as seat
use Rattle.turn_desk.specs.contracts.shared.DeskSeat as desk_seat
use Rattle.turn_desk.specs.contracts.shared.TurnDesk as turn_desk
use Rattle.turn_desk.specs.contracts.shared.Turns as turns
use Rattle.turn_desk.specs.contracts.shared.TurnsTableRuleSlotKnowsSnapshot.TheImpl as rule
use Rattle.turn_desk.specs.contracts.view.Held as held
use Rattle.turn_desk.specs.contracts.view.View as view
use Rattle.turn_desk.specs.declared.object.Object.{Ghosts}
use Rattle.workers.specs.contracts.sharing.Job as job

-- a closure that is moved into a call goes where the four may that it holds
pub closure_send : (δ : Ty) (ν : Sym) (A B C D : RattleType) → IsSend A → IsSend B → IsSend C → IsSend D
    → IsSend (param 1 (arg δ no (TupleAt ν (A ∷ B ∷ C ∷ D ∷ []))))
closure_send δ ν A B C D a b c d =
    let T = type_at ν (A ∷ B ∷ C ∷ D ∷ []) in
    param_send 1 _ (arg_send δ no _
    (recorded_send (Struct (shape T)) _ _ T.to_one (struct_send (shape T) (a, (b, (c, (d, tt)))))))

-- and so does what it gives
pub result_send : (δ : Ty) (R : RattleType) → IsSend R → IsSend (param 3 (arg δ no R))
result_send δ R s = param_send 3 _ (arg_send δ no R s)

module _ (X E R : RattleType) (x : IsSend X) (e : IsSend E) (r : IsSend R) where
  -- what lies in a desk's slot
  held_send : IsSend (held.the_row X E R)
  held_send = recorded_send (held.the_field X E R).row _ _ (held.the_type X E R).to_one
      (struct_send (shape (held.the_type X E R))
      (search (sendable, crosses) depth 20, (search (sendable, crosses) depth 20, tt)))

  -- a seat
  seat_send : IsSend (desk_seat.the_field X E R).row
  seat_send = struct_send (shape (desk_seat.the_type X E R)) (seat.the_send _ _ held_send, tt)

  -- a job, where its bench may
  pub job_send : (B : RattleType) → IsSend B → (A : RattleType) → IsSend A → IsSend (job.the_row X B A E R)
  job_send B b A a = recorded_send (job.the_field X B A E R).row _ _ (job.the_type X B A E R).to_one
      (struct_send (shape (job.the_type X B A E R))
      (seat_send, (b, (search (sendable, crosses) depth 20, (search (sendable, crosses) depth 20, tt)))))

  module _ (T : RattleType) (g : Ghosts X.Denot E.Denot R.Denot) where
    -- threads share a desk
    desk_sync : IsSync T → IsSync (turn_desk.the_row X T E R g)
    desk_sync t =
        let tables = table.the_field_sync (held.the_row X E R) (view.the_row X E R)
        (snapshot.the_row X) (turns.the_row X) global.the_row
        (rule.ghosts X E R g (given 0) (given 0) (given 0)) _ held_send send sync frees in
        recorded_sync (turn_desk.the_field X T E R g).row _ _ (turn_desk.the_type X T E R g).to_one
        (struct_sync (shape (turn_desk.the_type X T E R g))
        (tables, (search (sendable, crosses) depth 20, (t, tt))))

    -- and so they do a reference to it, which also goes from one to another
    pub desk_goes : IsSync T → (ℓ : Lifetime) (κ : Lft)
        → IsSend (ShrRef ℓ κ (turn_desk.the_row X T E R g))
    desk_goes t ℓ κ = shr_send ℓ κ _ (desk_sync t)

    pub desk_lent : IsSync T → (ℓ : Lifetime) (κ : Lft)
        → IsSync (ShrRef ℓ κ (turn_desk.the_row X T E R g))
    desk_lent t ℓ κ = shr_sync ℓ κ _ (desk_sync t)

-- threads share what lies under a lock, where it may go from one to another
pub lock_lent : (D : RattleType) → IsSend D → (ℓ : Lifetime) (κ : Lft)
    → IsSync (ShrRef ℓ κ (mutex.the_row D))
lock_lent D d ℓ κ = let lock : IsSync (mutex.the_row D) = search (sendable, crosses) in
    shr_sync ℓ κ _ lock
