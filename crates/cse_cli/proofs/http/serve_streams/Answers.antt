use Rattle.std.proofs.Common.{refl, ap, ◌∙◌, inl, inr}
use Rattle.resource_model.specs.Home.{HomeData}
use Rattle.entity_model.specs.Opening.{opening}
use Rattle.cse_cli.proofs.HttpLemmas.{streams_served}
use Rattle.cse_cli.proofs.http.serve_streams.Goals as goal

-- memory ran out before the entity opened
pub returns-in_default-clause-runs : goal.returns-in_default-clause-runs
returns-in_default-clause-runs g c = record {
  reading = c.now-reading.result;
  given = g.C.Clock.readings c.now-reading.new.self;
  clock = c.now-reading.ensures;
  run = inr (record { status_is = refl; same = refl });
}

pub returns-in_default-opened-clause-runs : goal.returns-in_default-opened-clause-runs
returns-in_default-opened-clause-runs g c = record {
  reading = c.now-reading.result;
  given = g.C.Clock.readings c.now-reading.new.self;
  clock = c.now-reading.ensures;
  run = inr (record { status_is = refl; same = refl });
}

-- it opened
pub returns-clause-runs : goal.returns-clause-runs
returns-clause-runs g c = record {
  reading = c.now-reading.result;
  given = g.C.Clock.readings c.now-reading.new.self;
  clock = c.now-reading.ensures;
  run = inl (streams_served c.args.later c.args.home _ _ _
      (c.in-Ok-opened.ensures ∙ ap (λ (h : HomeData). opening h c.now-reading.result) c.in-Ok.ensures) c.serve_entity.ensures.serves);
}
