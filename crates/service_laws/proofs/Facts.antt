-- The lemmas that several proofs of this crate use.
pub use Rattle.guard_laws.proofs.HistoryLemmas.{none_some, one_way, same_first, same_rest, sound_step, step_guarded}
pub use Rattle.http_forwarding.proofs.AnswerLemmas.{one_reply, told_is_carried}
pub use Rattle.std.proofs.lemmas.Bool.{and_from, cases_Bool, cond-false, cond-true, false≢true, le-leb, lt-ltb, ltb-false, true≢false}
pub use Rattle.std.proofs.lemmas.List.{append_cancel_left, take_all}
pub use Rattle.std.proofs.lemmas.List.Elements.{All-head, All-map, All-tail}
pub use Rattle.std.proofs.lemmas.Option.{same_Some}
pub use Rattle.turn_desk.proofs.GrowthLemmas.{Grew-runs}
