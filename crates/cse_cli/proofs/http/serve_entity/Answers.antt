use Rattle.cse_cli.proofs.http.serve_entity.Goals as goal

-- requests are answered later
pub returns-then-later-clause-serves : goal.returns-then-later-clause-serves
returns-then-later-clause-serves g c = rw (c.if-later.true, ← c.new-object.ensures) c.serve_object.ensures.serves

-- none is
pub returns-else-later-clause-serves : goal.returns-else-later-clause-serves
returns-else-later-clause-serves g c = rw (c.if-later.false, ← c.new-served.ensures) c.serve_object-else-later.ensures.serves
