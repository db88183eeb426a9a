use Rattle.std.proofs.Common.{◌≡◌, ◌++◌, Bool, List, ℕ, OnErr, Result, Ok, Err, refl, sym, ap, subst, ◌∙◌}
use Rattle.http_binding.specs.Replying.{reply_text}
use Rattle.cse_server.specs.Closing.{closes}
use Rattle.cse_server.specs.Outside.{PutsPart, sink_told}
use Rattle.cse_server.specs.Together.{PutsMuch}
use Rattle.cse_server.proofs.connection.say_reply.Goals as goal

-- what came of a call that failed
of_failed : {A E P : Type 0} (r : Result A E) → ((x : A) → r ≡ Ok x → ⊥) → OnErr r P → P
of_failed (Ok x) failed p = absurd (failed x refl)
of_failed (Err e) failed p = p

pub returns-in_default-clause-says : goal.returns-in_default-clause-says
returns-in_default-clause-says g c = (of_failed c.push_reply_text.result c.in_default.not-Ok c.push_reply_text.ensures.err, refl)

pub returns-in-Ok-put_many_replies-clause-says : goal.returns-in-Ok-put_many_replies-clause-says
returns-in-Ok-put_many_replies-clause-says g c =
    let text : c.push_reply_text.new.text.items ≡ c.args.waiting.now.items ++ reply_text c.args.reply.now (closes c.args.heard.now.place c.args.heard.now.frame) =
    c.in-Ok.ensures.ok ∙ ap (λ (b : Bool). c.args.waiting.now.items ++ reply_text c.args.reply.now b) c.closes-close.ensures in (
      sym c.closes-close.ensures ∙ c.if-close.true,
      subst (λ (v : List ℕ). PutsMuch v c.put_many_replies.new.waiting.items (sink_told (g.X.Sink.written c.args.conn.now) (g.X.Sink.puts c.args.conn.now)) (sink_told (g.X.Sink.written c.put_many_replies.new.conn) (g.X.Sink.puts c.put_many_replies.new.conn))) text c.in-Ok-put_many_replies.ensures.ok,
    )

pub returns-in-Ok-2-clause-says : goal.returns-in-Ok-2-clause-says
returns-in-Ok-2-clause-says g c =
    let text : c.push_reply_text.new.text.items ≡ c.args.waiting.now.items ++ reply_text c.args.reply.now (closes c.args.heard.now.place c.args.heard.now.frame) =
    c.in-Ok.ensures.ok ∙ ap (λ (b : Bool). c.args.waiting.now.items ++ reply_text c.args.reply.now b) c.closes-close.ensures in (
      sym c.closes-close.ensures ∙ c.if-close.false,
      subst (λ (v : List ℕ). PutsMuch v c.put_many_replies.new.waiting.items (sink_told (g.X.Sink.written c.args.conn.now) (g.X.Sink.puts c.args.conn.now)) (sink_told (g.X.Sink.written c.put_many_replies.new.conn) (g.X.Sink.puts c.put_many_replies.new.conn))) text c.in-Ok-2.ensures.ok,
    )

pub returns-in-Err-clause-says : goal.returns-in-Err-clause-says
returns-in-Err-clause-says g c =
    let text : c.push_reply_text.new.text.items ≡ c.args.waiting.now.items ++ reply_text c.args.reply.now (closes c.args.heard.now.place c.args.heard.now.frame) =
    c.in-Ok.ensures.ok ∙ ap (λ (b : Bool). c.args.waiting.now.items ++ reply_text c.args.reply.now b) c.closes-close.ensures in
    subst (λ (v : List ℕ). PutsPart v (sink_told (g.X.Sink.written c.args.conn.now) (g.X.Sink.puts c.args.conn.now)) (sink_told (g.X.Sink.written c.put_many_replies.new.conn) (g.X.Sink.puts c.put_many_replies.new.conn))) text c.in-Err.ensures.err
