use Rattle.std.proofs.Common.{◌≡◌, ◌≤◌, ◌++◌, drop, length, IsUtf8}
use Rattle.std.specs.List.{AllByRecursion}
use Rattle.policy_eval.specs.Rules.{texts_of}
use Rattle.request_rules.specs.Groups.{distinct_texts, new_after}
use Rattle.request_rules.proofs.groups.few_texts.Given as goal

-- those so far and what is new of the rest are those of all; those so far are few, and texts
abbrev pub invariant-loop-value : goal.invariant-loop-value
invariant-loop-value l = record {
  all : l.texts.items ++ new_after l.texts.items (texts_of (drop l.value-index l.values)) ≡ distinct_texts l.values;
  few : length l.texts.items ≤ l.most;
  utf8 : AllByRecursion IsUtf8 l.texts.items;
}
