-- The words that the proofs speak in: those of the crates below and of the invariant, and the lemmas of the crates below.
pub use Rattle.std.proofs.lemmas.List.FromFn.{get_or-map-range_with_len, get_or-range_with_len, length-range_with_len}
pub use Rattle.std.proofs.lemmas.Option.{get_or_from_slice_get, slice_get_within}
pub use Rattle.std.specs.List.{list_all, range_with_len}
pub use Rattle.std.proofs.lemmas.List.{append-nil, append_assoc, get_or-set_same, get_or_past, length-map, length-set}
pub use Rattle.std.proofs.lemmas.List.Elements.{All-contains, Contains-append_cases, Contains-append_left, Contains-append_right, Contains-push, Contains-push_cases}
pub use Rattle.std.specs.Ordering.{is_ge, is_gt}
pub use Rattle.std.proofs.lemmas.Grind.{common_steps}
pub use Rattle.span_base.specs.DcSet.{has, insert, meet, no_centre}
unfoldable pub use Rattle.span_base.specs.DcSet.{centres_below, centres_of}
pub use Rattle.span_base.specs.Policy.{IsQuorumPolicy, Meets, common_count}
pub use Rattle.span_base.specs.PolicyParts.{faults_of, member_of, members_of, replicas_of}
pub use Rattle.span_base.specs.declared.dc_set.DcSet.{DcSet}
pub use Rattle.span_base.specs.declared.ids.Call.{Call}
pub use Rattle.span_base.specs.declared.ids.DcId.{DcId}
pub use Rattle.span_base.specs.declared.ids.KeyId.{KeyId}
pub use Rattle.span_base.specs.declared.ids.SetId.{SetId}
pub use Rattle.span_base.specs.declared.policy.Policy.{Policy}
pub use Rattle.span_base.specs.declared.policy.Policy.TheVariants.{Direct, Relay}
pub use Rattle.span_base.specs.declared.policy.Quorum.{Quorum}
pub use Rattle.span_base.specs.declared.words.What.TheVariants.{Epochs, FrameBytes, Messages}
pub use Rattle.span_base.proofs.Distinct.{eq_or_not}
pub use Rattle.span_base.proofs.KeyIds.{same_key}
pub use Rattle.span_base.proofs.Sets.{and_left, and_right, count-meet_left, count-meet_right, count-no_centre, has-below, has-insert_cases, has-insert_other, has-insert_same, has-insert_stays, has-meet, has-no_centre, none_in}
pub use Rattle.ticket_rules.proofs.StampOrder.{IsAtMost-refl}
pub use Rattle.ticket_rules.specs.Stamp.{IsAbove, IsAtMost, grants, greater, stamp_cmp, stamp_zero, stores}
pub use Rattle.ticket_rules.specs.declared.stamp.Stamp.{Stamp}
pub use Rattle.wire_msg.specs.Outputs.{Step}
pub use Rattle.wire_msg.specs.Posts.{tag_of, to_directory, to_proxy}
pub use Rattle.wire_msg.specs.Sizes.{bulk_of}
pub use Rattle.wire_msg.specs.declared.actor.Actor.{Actor}
pub use Rattle.wire_msg.specs.declared.message.Message.{Message}
pub use Rattle.wire_msg.specs.declared.outputs.Outputs.{Outputs}
pub use Rattle.wire_msg.specs.declared.outputs.Post.{Post}
pub use Rattle.wire_msg.specs.declared.outputs.Reply.{Reply}
pub use Rattle.wire_msg.specs.declared.outputs.View.{View}
pub use Rattle.wire_msg.specs.declared.tag.Tag.{Tag}
pub use Rattle.call_phase.specs.Best.{better}
pub use Rattle.call_phase.specs.Counting.{counts, counts_without_replica, has_quorum, is_lost, is_same_tag, next_tag, opened, with_bad, with_good}
pub use Rattle.call_phase.specs.Requests.{post_to, posts_to}
pub use Rattle.call_phase.specs.declared.best.Found.{Found}
pub use Rattle.call_phase.specs.declared.phase.Phase.{Phase}
pub use Rattle.strong_proxy.specs.Counting.{counted, is_counted, progress_after, takes_have, takes_yes}
pub use Rattle.strong_proxy.specs.Rule.{answer_or_repair, best_stamp, decided, done, enter, first_posts, first_set, go_over, leg_ticket, leg_under, next_of, next_ticket, nothing_done, opened_with, repair_posts, store_posts, tag_after, value_reply, verdict_at}
unfoldable pub use Rattle.strong_proxy.specs.Rule.{opened_as}
pub use Rattle.strong_proxy.specs.declared.next.Next.{Next}
pub use Rattle.strong_proxy.specs.declared.next.Next.TheVariants.{Enter, Fenced, Look, Moved, NumbersOut, Outside, Repair, Stored, Unsure, Value, Wait, Store as StoreNext}
pub use Rattle.strong_proxy.specs.declared.progress.Leg.{Leg}
pub use Rattle.strong_proxy.specs.declared.progress.Progress.{Progress}
pub use Rattle.strong_proxy.specs.declared.progress.Stage.{Stage}
pub use Rattle.strong_proxy.specs.declared.progress.Stage.TheVariants.{Ended, First, Looking, Second}
pub use Rattle.strong_proxy.specs.declared.state.CallState.{CallState}
pub use Rattle.strong_proxy.specs.declared.state.Work.{Work as StrongWork}
pub use Rattle.strong_proxy.specs.declared.state.Work.TheVariants.{ToRead, ToWrite}
unfoldable pub use Rattle.relay_proxy.specs.Routes.{directs_below}
pub use Rattle.relay_proxy.specs.declared.stage.Stage.{Stage as Doing}
pub use Rattle.replica_core.specs.Answering.{answers, ask_answer, gone, have, held, merge_answer, push_to, pushes_to, read_answer, store_answer}
pub use Rattle.replica_core.specs.Keeping.{after_merge, after_store, is_over, kept_after, merge}
pub use Rattle.replica_core.specs.Rising.{Rises}
pub use Rattle.replica_core.specs.Rule.{kept_at, request_key as key_of, step_at}
pub use Rattle.replica_core.specs.declared.kept.Kept.{Kept}
pub use Rattle.epoch_directory.specs.State.{State, current_of, is_strong, latest, no_policy, set_of, table_in}
pub use Rattle.epoch_directory.specs.Step.{can_switch, with_current}
pub use Rattle.epoch_directory.specs.Tables.{after_publish, table_after}
unfoldable pub use Rattle.epoch_directory.specs.Tables.{table_fault}
pub use Rattle.epoch_directory.specs.declared.table.KeySet.{KeySet}
pub use Rattle.epoch_directory.specs.declared.table.PublishFault.{PublishFault}
pub use Rattle.epoch_directory.specs.declared.table.SetPolicy.{SetPolicy}
pub use Rattle.migration.specs.Eventual.{eventual as eventual_rule}
pub use Rattle.migration.specs.Move.{Moving, epoch_at, unchanged}
pub use Rattle.migration.specs.Rule.{Rule}
pub use Rattle.migration.specs.Strong.{first_write_set, quorum_frozen, strong as strong_rule}
pub use Rattle.migration.specs.declared.stage.Epoch.{Epoch}
pub use Rattle.migration.specs.declared.stage.Stage.TheVariants.{Freezing, Seeding, Switching}
pub use Rattle.migration.specs.declared.stage.Stage.{Stage as MoveStage}
pub use Rattle.slot_pool.specs.Calls.{same_handle}
pub use Rattle.slot_pool.specs.Slots.{Empty, Retired, Slot, after_take, emptied_slot, full_slot, item_at, item_for, last_generation, next_handle, with_item, without_item}
pub use Rattle.slot_pool.specs.declared.handles.Handle.{Handle}
pub use Rattle.run_marks.specs.History.{EndsWith, call_of, is_dead, is_register_work, is_same_call}
unfoldable pub use Rattle.run_marks.specs.History.{history_of}
pub use Rattle.run_marks.specs.declared.mark.Mark.{Mark}
pub use Rattle.run_marks.specs.declared.mark.Work.{Work}
pub use Rattle.register_order.specs.Agree.{CallsAgree}
pub use Rattle.register_order.specs.Clauses.{EachKeeps, FrontsAgree}
pub use Rattle.register_order.specs.Form.{GivesLatest, IsLatestTicket, IsOpen, KeepsCall, KeepsForm, answers_of, draws, fits, last_seq}
pub use Rattle.register_order.proofs.Stamps.{IsAtMost-trans}
pub use Rattle.register_order.proofs.Members.{Contains-there, among, none_among, parted, some_passes, two_splits}
pub use Rattle.world_core.specs.Calls.{Taken, key_of_call, of_eventual, of_eventual_move, of_strong, of_strong_move, tag_of_call, take}
pub use Rattle.world_core.specs.Knowing.{learned, views_after}
pub use Rattle.world_core.specs.Laws.{IsStrongKey}
pub use Rattle.world_core.specs.Run.{GoingOn, IsHeader, MayHappen, Run, ran, run_of, store_after}
unfoldable pub use Rattle.world_core.specs.Run.{MayRun, run}
pub use Rattle.world_core.specs.Starting.{Done, draws_ticket, ends_at_once, enters, enters_with, first_tag, is_member, opened_call, opened_eventual, opened_strong, starts_as, starts_in, ticket_of}
unfoldable pub use Rattle.world_core.specs.Starting.{starts}
pub use Rattle.world_core.specs.State.{Proxy, Replica, Store, kept_of, key_set, no_proxy, no_replica, no_view, opening_proxy, opening_replica, opening_view, policy_of, proxy_at, replica_at, view_at}
unfoldable pub use Rattle.world_core.specs.State.{opening}
pub use Rattle.world_core.specs.Step.{Happening, Outcome, byte_limit, call_takes, calls_with, deliver_to, end_marks, fits_mode, give_up, give_up_under, gives_up, handle_in, handle_of_call, is_strong_key, judged, may_give_up, message_limit, nothing, only_learns, opens_none, proxy_did, proxy_takes_as, replica_takes, sends, start, start_at, ticket_marks, views_with, with_proxy, with_replica}
unfoldable pub use Rattle.world_core.specs.Step.{proxy_takes, step}
pub use Rattle.world_core.specs.declared.event.Event.{Event}
pub use Rattle.world_core.specs.declared.event.Event.TheVariants.{Deliver, GiveUp, Publish, Start, StopProxy, StopReplica}
pub use Rattle.world_core.specs.declared.event.Header.{Header}
pub use Rattle.world_core.specs.declared.event.StepFault.TheVariants.{Limit, NoActor, NoCall, NoKey, NoMessage, WrongMode}
pub use Rattle.world_core.specs.declared.live.LiveCall.{LiveCall}
pub use Rattle.world_core.specs.declared.live.LiveCall.TheVariants.{Eventual, EventualMove, Strong, StrongMove}
pub use Rattle.register_law.specs.Cases.{CallTook, Happened, Started, TakenBy, call_took, did, directory_took, gave_up, ignored, next_call, not_published, proxy_learned, proxy_stopped, published, quietly, refused_at_once, replica_stopped, replica_took, started}
pub use Rattle.register_law.specs.Ends.{BegunAfter, EndsAreBacked, HasBegin, IsChain, IsNewest, IsOfStrong, IsReadOf, OpeningsAreBacked, StoredBy}
pub use Rattle.register_law.specs.Ghost.{Begun, Ghost, answered_with, begun_after, first_ghost, going_on, is_begun, is_noted, leg_of, legs_after, noted, noted_by, noted_of, raised_by, top_after, Leg as NotedLeg, opened_after}
unfoldable pub use Rattle.register_law.specs.Ghost.{history}
pub use Rattle.register_law.specs.Invariant.{Inv}
pub use Rattle.register_law.specs.Legs.{FoundFrozen, FoundSettled, IsLegRequest, IsTicketIn, LegsAreBacked}
pub use Rattle.register_law.specs.Live.{CallBacked, FirstCounted, FreezesCounted, FrozenCounted, HasAnswered, HasPolicy, HasTicket, HavesCounted, IsAskedOf, IsLiveMove, IsLiveStrong, IsMoveRequest, IsNotedLeg, IsStrongRequest, IsTargetOf, IsWork, MayRepair, MoveBacked, OneMove, SeedsBacked, StoresOnly, StrongCallsAreBacked, StrongCounted, TicketOf, WasAnswered, YesCounted, ticket_noted}
pub use Rattle.register_law.specs.Replicas.{IsSeat, IsTagOf, ReplicasAreBacked, WasAsked}
pub use Rattle.register_law.specs.Seen.{Grows, HasMost, IsFrozenSet, IsKept, IsKnown, IsSettled, MeetsAll, WasSent, Within, both, count_of, is_at_most, version_before}
pub use Rattle.register_law.specs.Sent.{HereBacked, IsTicketOf, KeysAgree, MessagesAreBacked, StoreBacked, SwitchAsked, SwitchBacked}
pub use Rattle.register_law.specs.Tags.{IsLiveAt, IsNumbered, IsPushFree, IsSamePoint, RequestsAreOne, TagsTellApart, request_key}
pub use Rattle.register_law.specs.Waiting.{IsKindOf, IsLiveCall, IsWaiting, LiveCallsWait, OpenCallsLive, Waits}
pub use Rattle.register_law.specs.WaitingPhases.{IsDecided}
