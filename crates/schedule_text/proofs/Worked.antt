-- What texts say that were worked by hand.
use Rattle.std.proofs.Common.{◌≡◌, refl}
use Rattle.std.specs.Prelude.{Ok, Err}
use Rattle.hex.specs.Hex.{decode_pairs}
use Rattle.span_base.specs.declared.words.Cause.TheVariants as cause
use Rattle.span_base.specs.DcSet.{centres_below, centres_of}
use Rattle.wire_msg.specs.Sound.{is_sound_policy}
use Rattle.schedule_text.specs.declared.setting.Form.TheVariants.{Plain, Script}
use Rattle.schedule_text.specs.declared.fault.ScheduleFault.TheVariants.{Bad}
use Rattle.schedule_text.specs.Words.{lines_of, split}
use Rattle.schedule_text.specs.Numbers.{spelled, number_says, centre_says, replica_says, replicas_from, replicas_say, value_says}
use Rattle.schedule_text.specs.Policies.{quorum_says, near_says, quorums_from, nears_from, hops_from, with_member, lanes_from, strong_says, direct_says, relay_says, policy_says}
use Rattle.schedule_text.specs.Headers.{replicas_line, set_line, key_line, proxy_line, line_by, header_line, header_from, header_says}
use Rattle.schedule_text.specs.Tables.{entry_says, entries_from, table_says}
use Rattle.schedule_text.specs.Events.{call_says, write_says, put_says, deliver_says, event_by, event_says}
use Rattle.schedule_text.specs.Schedules.{first_fault, events_of, schedule_of}
use Rattle.schedule_text.specs.Rows.{strong_text, strong_schedule, eventual_text, eventual_schedule}

pub strong_says_so : schedule_of Plain strong_text ≡ Ok strong_schedule
unfolding decode_pairs centres_below centres_of is_sound_policy lines_of split spelled number_says centre_says replica_says replicas_from replicas_say value_says quorum_says quorums_from strong_says policy_says replicas_line set_line key_line proxy_line line_by header_line header_from header_says entry_says entries_from table_says call_says write_says deliver_says event_by event_says first_fault events_of
strong_says_so = refl

pub script_says : schedule_of Script strong_text ≡ Err (Bad 10 cause.Syntax)
unfolding decode_pairs centres_below centres_of is_sound_policy lines_of split spelled number_says centre_says replica_says replicas_from replicas_say value_says quorum_says quorums_from strong_says policy_says replicas_line set_line key_line proxy_line line_by header_line header_from header_says entry_says entries_from table_says call_says write_says deliver_says event_by event_says first_fault events_of
script_says = refl

pub eventual_says : schedule_of Plain eventual_text ≡ Ok eventual_schedule
unfolding centres_below centres_of is_sound_policy lines_of split spelled number_says centre_says replica_says replicas_from replicas_say value_says near_says nears_from hops_from with_member lanes_from direct_says relay_says policy_says replicas_line set_line key_line proxy_line line_by header_line header_from header_says entry_says entries_from table_says call_says put_says event_by event_says first_fault events_of
eventual_says = refl
