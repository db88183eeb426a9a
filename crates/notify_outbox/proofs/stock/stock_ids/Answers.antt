use Rattle.std.proofs.Common.{◌≡◌, ◌≤◌, ◌+◌, ℕ, [], ◌∷◌, ◌++◌, length, sym, ap, ◌∙◌, subst, arith, length-append}
use Rattle.notify_outbox.specs.Items.{next_number}
use Rattle.notify_outbox.specs.Queues.{AreIds}
use Rattle.notify_outbox.proofs.StockLemmas.{ids_push}
use Rattle.notify_outbox.proofs.stock.stock_ids.Goals as goal

pub more-preserved : goal.more-preserved
more-preserved c =
    let items : c.push_back.new.self.items ≡ c.more.ids.items ++ c.in_ok-id.id ∷ [] = c.in_ok-push_back.ensures.items in
    let before : length c.args.ids.now.items ≤ length c.more.ids.items = c.more.invariant.1 in
    let long : length c.push_back.new.self.items ≡ length c.more.ids.items + length (c.in_ok-id.id ∷ []) = ap length items ∙ length-append c.more.ids.items (c.in_ok-id.id ∷ []) in
    let number : c.next_number.result ≡ next_number (c.args.count + length c.more.ids.items) = c.next_number.ensures ∙ ap (λ (n : ℕ). next_number (c.args.count + n)) c.count_of-have.ensures in
    (subst (AreIds c.args.count) (sym items) (ids_push c.args.count c.next_number.result c.more.ids.items c.in_ok-id.id c.more.invariant.0 number c.in_ok-id.ensures.value c.in_ok-id.ensures.utf8), omega arith)
