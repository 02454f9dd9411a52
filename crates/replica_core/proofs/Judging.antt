-- What goes by the verdict on a message is what the rule says of it.
use Rattle.std.proofs.Common.{◌≡◌, ℕ, true, false, ◌&&◌, not, List, ◌++◌, refl}
use Rattle.std.specs.Prelude.{if◌then◌else◌}
use Rattle.ticket_rules.specs.Stamp.{grants, stores}
use Rattle.wire_msg.specs.declared.message.Message.{Message}
use Rattle.wire_msg.specs.declared.message.Message.TheVariants as m
use Rattle.wire_msg.specs.declared.outputs.Post.{Post}
use Rattle.wire_msg.specs.Posts.{to_proxy}
use Rattle.replica_core.specs.declared.kept.Kept.{Kept}
use Rattle.replica_core.specs.declared.verdict.Verdict.TheVariants.{Gone, Held, Yes, Have}
use Rattle.replica_core.specs.Keeping.{is_over, merge, kept_after}
use Rattle.replica_core.specs.Answering.{gone, have, done, held, pushes_to, answers}
use Rattle.replica_core.specs.Verdict.{judged, posts_by, kept_by}

-- a message that is taken unless its epoch is over
merge_by : (kept : Kept) (message : Message) (epoch : ℕ) (merged : Kept) → kept_by Yes kept message ≡ merged → kept_by (if is_over kept epoch then Gone else Yes) kept message ≡ (if is_over kept epoch then kept else merged)
merge_by kept message epoch merged is =
    elim (is_over kept epoch) as (λ over. kept_by (if over then Gone else Yes) kept message ≡ (if over then kept else merged)) [ true ↦ refl | false ↦ is ]

pub kept_by_verdict : (kept : Kept) (message : Message) → kept_by (judged kept message) kept message ≡ kept_after kept message
kept_by_verdict kept (m.Read tag key epoch) =
    elim (is_over kept epoch) as (λ over. kept_by (if over then Gone else Have) kept (m.Read tag key epoch) ≡ kept) [ true ↦ refl | false ↦ refl ]
kept_by_verdict kept (m.Ask tag key stamp) =
    let fenced : Kept = record kept { fence = stamp } in
    elim (is_over kept stamp.epoch) as (λ over. kept_by (if over then Gone else (if grants stamp kept.fence kept.version then Yes else Held)) kept (m.Ask tag key stamp) ≡ (if not over && grants stamp kept.fence kept.version then fenced else kept)) [
      | true ↦ refl
      | false ↦ elim (grants stamp kept.fence kept.version) as (λ granted. kept_by (if granted then Yes else Held) kept (m.Ask tag key stamp) ≡ (if granted then fenced else kept)) [ true ↦ refl | false ↦ refl ]
    ]
kept_by_verdict kept (m.Store tag key stamp value) =
    elim (is_over kept stamp.epoch) as (λ over. kept_by (if over then Gone else (if stores stamp kept.fence then Yes else Held)) kept (m.Store tag key stamp value) ≡ (if not over && stores stamp kept.fence then merge kept stamp value else kept)) [
      | true ↦ refl
      | false ↦ elim (stores stamp kept.fence) as (λ taken. kept_by (if taken then Yes else Held) kept (m.Store tag key stamp value) ≡ (if taken then merge kept stamp value else kept)) [ true ↦ refl | false ↦ refl ]
    ]
kept_by_verdict kept (m.Repair tag key epoch stamp value) = merge_by kept (m.Repair tag key epoch stamp value) epoch (merge kept stamp value) refl
kept_by_verdict kept (m.Confirm tag key stamp) = refl
kept_by_verdict kept (m.Freeze tag key epoch) = refl
kept_by_verdict kept (m.Seed tag key epoch stamp value) = merge_by kept (m.Seed tag key epoch stamp value) epoch (merge kept stamp value) refl
kept_by_verdict kept (m.Push tag key stamp onward value) = merge_by kept (m.Push tag key stamp onward value) stamp.epoch (merge kept stamp value) refl
kept_by_verdict kept _ = refl

pub posts_by_verdict : (number : ℕ) (kept : Kept) (message : Message) → posts_by (judged kept message) number kept message ≡ answers number kept message
posts_by_verdict number kept (m.Read tag key epoch) =
    elim (is_over kept epoch) as (λ over. posts_by (if over then Gone else Have) number kept (m.Read tag key epoch) ≡ to_proxy tag (if over then gone number kept tag else have number kept tag)) [ true ↦ refl | false ↦ refl ]
posts_by_verdict number kept (m.Ask tag key stamp) =
    elim (is_over kept stamp.epoch) as (λ over. posts_by (if over then Gone else (if grants stamp kept.fence kept.version then Yes else Held)) number kept (m.Ask tag key stamp) ≡ to_proxy tag (if over then gone number kept tag else (if grants stamp kept.fence kept.version then done number tag else held number kept tag))) [
      | true ↦ refl
      | false ↦ elim (grants stamp kept.fence kept.version) as (λ granted. posts_by (if granted then Yes else Held) number kept (m.Ask tag key stamp) ≡ to_proxy tag (if granted then done number tag else held number kept tag)) [ true ↦ refl | false ↦ refl ]
    ]
posts_by_verdict number kept (m.Store tag key stamp value) =
    elim (is_over kept stamp.epoch) as (λ over. posts_by (if over then Gone else (if stores stamp kept.fence then Yes else Held)) number kept (m.Store tag key stamp value) ≡ to_proxy tag (if over then gone number kept tag else (if stores stamp kept.fence then done number tag else held number kept tag))) [
      | true ↦ refl
      | false ↦ elim (stores stamp kept.fence) as (λ taken. posts_by (if taken then Yes else Held) number kept (m.Store tag key stamp value) ≡ to_proxy tag (if taken then done number tag else held number kept tag)) [ true ↦ refl | false ↦ refl ]
    ]
posts_by_verdict number kept (m.Repair tag key epoch stamp value) =
    elim (is_over kept epoch) as (λ over. posts_by (if over then Gone else Yes) number kept (m.Repair tag key epoch stamp value) ≡ to_proxy tag (if over then gone number kept tag else done number tag)) [ true ↦ refl | false ↦ refl ]
posts_by_verdict number kept (m.Confirm tag key stamp) = refl
posts_by_verdict number kept (m.Freeze tag key epoch) = refl
posts_by_verdict number kept (m.Seed tag key epoch stamp value) =
    elim (is_over kept epoch) as (λ over. posts_by (if over then Gone else Yes) number kept (m.Seed tag key epoch stamp value) ≡ to_proxy tag (if over then gone number kept tag else done number tag)) [ true ↦ refl | false ↦ refl ]
posts_by_verdict number kept (m.Push tag key stamp onward value) =
    let taken : List Post = to_proxy tag (done number tag) ++ pushes_to tag key stamp value onward in
    elim (is_over kept stamp.epoch) as (λ over. posts_by (if over then Gone else Yes) number kept (m.Push tag key stamp onward value) ≡ (if over then to_proxy tag (gone number kept tag) else taken)) [ true ↦ refl | false ↦ refl ]
posts_by_verdict number kept _ = refl
