use Rattle.std.proofs.Common.{refl, inl, inr}
use Rattle.journaled_cli.proofs.serve.serve_door.Goals as goal

-- nobody was served
pub returns-in_default : goal.returns-in_default
returns-in_default g c = inr (record { status_is = inl refl; same = refl })

pub returns-in-Err : goal.returns-in-Err
returns-in-Err g c = inr (record { status_is = inr refl; same = refl })
