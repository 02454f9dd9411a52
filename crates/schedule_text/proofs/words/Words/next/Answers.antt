use Rattle.std.proofs.Common.{refl}
use Rattle.schedule_text.proofs.Entries.{none_left, ends_here, goes_on, stays_beyond}
use Rattle.schedule_text.proofs.words.Words.next.Goals as goal

pub returns-in_default-clause-word : goal.returns-in_default-clause-word
returns-in_default-clause-word c = (none_left c.args.self.now c.in_default.is, refl)

pub returns-then-ends_entry-clause-word : goal.returns-then-ends_entry-clause-word
returns-then-ends_entry-clause-word c =
    (ends_here c.args.self.now c.in-Some.text c.first_piece.result.0 c.first_piece.result.1 c.in-Some.is c.first_piece.ensures.pieces c.if-ends_entry.ensures, refl)

pub returns-clause-word : goal.returns-clause-word
returns-clause-word c = goes_on c.args.self.now c.in-Some.text c.first_piece.result.0 c.first_piece.result.1 c.in-Some.is c.first_piece.ensures.pieces c.if-ends_entry.ensures

pub returns-clause-beyond : goal.returns-clause-beyond
returns-clause-beyond c = stays_beyond c.args.self.now c.in-Some.text c.first_piece.result.0 c.first_piece.result.1 c.in-Some.is c.first_piece.ensures.pieces c.if-ends_entry.ensures
