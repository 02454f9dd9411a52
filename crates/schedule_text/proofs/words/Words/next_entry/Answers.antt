use Rattle.std.proofs.Common.{sym, ◌∙◌}
use Rattle.schedule_text.proofs.Entries.{none_beyond, next_entry, at_end}
use Rattle.schedule_text.proofs.words.Words.next_entry.Goals as goal

pub returns-in_default-clause-none : goal.returns-in_default-clause-none
returns-in_default-clause-none c = λ over. sym (c.next.ensures.beyond ∙ c.loop.invariant) ∙ none_beyond c.next.new.self c.in_default.is

pub returns-clause-more : goal.returns-clause-more
returns-clause-more c =
    λ goes_on. sym (c.next.ensures.beyond ∙ c.loop.invariant)
    ∙ next_entry c.next.new.self c.in-Some.text c.first_piece.result.0 c.first_piece.result.1 c.in-Some.is c.first_piece.ensures.pieces (at_end c.next.result c.loop.self c.next.new.self c.loop-test.ensures c.next.ensures.word)
