-- What texts say that were worked by hand.
use Rattle.std.proofs.Common.{◌≡◌, refl}
use Rattle.std.specs.Prelude.{Ok, Err, codes}
use Rattle.hex.specs.Hex.{decode_pairs}
use Rattle.history_audit.specs.Words.{cut, number_up_to, proxy_says, count_says, call_says, stamp_says, value_says}
use Rattle.history_audit.specs.Lines.{key_says, set_says, keyed_says, work_by, work_says, word_reply, answer_says, reply_by, reply_says, cause_by, cause_says, begin_says, ticket_says, end_says, mark_by, line_by, line_says}
use Rattle.history_audit.specs.Texts.{lines_of, lines_say, log_says, Bad}
use Rattle.history_audit.specs.Rows.{stale_text, stale_marks, early_text, early_marks, going_on, unended}

pub stale_says : log_says stale_text ≡ Ok stale_marks
unfolding decode_pairs cut number_up_to proxy_says count_says call_says stamp_says value_says key_says set_says keyed_says work_by work_says word_reply answer_says reply_by reply_says cause_by cause_says begin_says ticket_says end_says mark_by line_by line_says lines_of lines_say
stale_says = refl

pub early_says : log_says early_text ≡ Ok early_marks
unfolding decode_pairs cut number_up_to proxy_says count_says call_says stamp_says value_says key_says set_says keyed_says work_by work_says word_reply answer_says reply_by reply_says cause_by cause_says begin_says ticket_says end_says mark_by line_by line_says lines_of lines_say
early_says = refl

pub going_on_says : log_says going_on ≡ Err (Bad 2)
unfolding cut number_up_to count_says mark_by line_by line_says lines_of lines_say
going_on_says = refl

pub unended_says : log_says unended ≡ Err (Bad 2)
unfolding cut number_up_to count_says mark_by line_by line_says lines_of lines_say
unended_says = refl

pub high_key_says : log_says (codes "begin 0.1 read 1000") ≡ Err (Bad 1)
unfolding cut number_up_to proxy_says count_says call_says key_says work_by work_says begin_says mark_by line_by line_says lines_of lines_say
high_key_says = refl
