-- What a call does next is made of its parts.
use Rattle.std.proofs.Common.{◌≡◌, refl}
use Rattle.std.specs.Prelude.{None}
use Rattle.wire_msg.specs.Outputs.{Step}
use Rattle.strong_proxy.specs.declared.state.CallState.{CallState}
use Rattle.strong_proxy.specs.declared.next.Next.{Next}
use Rattle.strong_proxy.specs.declared.next.Next.TheVariants.{Wait, Value, Repair, Store, Stored, Fenced, Unsure, Look, Moved, Outside, NumbersOut, Enter}
use Rattle.strong_proxy.specs.Parts.{posts_for, end_for, ticket_for, progress_for, best_for}
use Rattle.strong_proxy.specs.Rule.{done}

-- the step that the parts make
abbrev pub by_parts : Next → CallState → Step CallState
by_parts next call = record {
  state = record { work = call.work; best = best_for next call.best; progress = progress_for next call.work call.progress };
  out = record { posts = posts_for next call.work call.best call.progress; ticket = ticket_for next call.work; view = None; end = end_for next call.best call.progress };
}

pub done_parts : (next : Next) (call : CallState) → done next call ≡ by_parts next call
done_parts Wait call = refl
done_parts Value call = refl
done_parts Repair call = refl
done_parts Store call = refl
done_parts Stored call = refl
done_parts Fenced call = refl
done_parts Unsure call = refl
done_parts Look call = refl
done_parts Moved call = refl
done_parts Outside call = refl
done_parts NumbersOut call = refl
done_parts (Enter leg) call = refl
