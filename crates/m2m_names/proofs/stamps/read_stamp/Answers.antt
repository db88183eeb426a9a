use Rattle.std.proofs.Common.{◌∙◌}
use Rattle.m2m_names.proofs.StampReadingLemmas.{read_found, read_none, read_last, read_front, moment_at-only, moment_at-timestamp}
use Rattle.m2m_names.proofs.stamps.read_stamp.Goals as goal

pub returns-clause-found : goal.returns-clause-found
returns-clause-found c = read_found c.args.text.now c.moment_of_text.result c.moment_of_text.ensures

pub returns-clause-only : goal.returns-clause-only
returns-clause-only c at is = c.moment_of_text.ensures ∙ moment_at-only c.args.text.now at is

pub returns-clause-none : goal.returns-clause-none
returns-clause-none c = read_none c.args.text.now c.moment_of_text.result c.moment_of_text.ensures

pub returns-clause-last : goal.returns-clause-last
returns-clause-last c = read_last c.args.text.now c.moment_of_text.result c.moment_of_text.ensures

pub returns-clause-front : goal.returns-clause-front
returns-clause-front c = read_front c.args.text.now c.moment_of_text.result c.moment_of_text.ensures

pub returns-clause-again : goal.returns-clause-again
returns-clause-again c at last same = c.moment_of_text.ensures ∙ moment_at-timestamp c.args.text.now at last same
