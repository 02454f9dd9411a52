-- How judging a log makes the endings of `audit`.
use Rattle.std.proofs.Common.{arith, ◌≡◌, ℕ, ◌≤◌, inl, inr, List, length, Option, Ok, Err, refl, subst}
use Rattle.span_base.specs.Files.{Files}
use Rattle.span_base.specs.Taken.{Appends, AppendsFront}
use Rattle.span_base.specs.declared.words.Cause.{Cause}
use Rattle.span_base.specs.declared.words.Cause.TheVariants as cause
use Rattle.span_base.specs.declared.words.What.TheVariants.{Lines}
use Rattle.history_audit.specs.declared.fault.Clause.{Clause}
use Rattle.history_audit.specs.declared.summary.Summary.{Summary}
use Rattle.history_audit.specs.Texts.{Bad, Limit, log_says}
use Rattle.history_audit.specs.Audited.{IsUnbroken, IsBroken}
use Rattle.span_top.specs.declared.status.Status.{Status}
use Rattle.span_top.specs.declared.status.Status.TheVariants as status
use Rattle.span_top.specs.WholeFile.{Holds, ReadsFile}
use Rattle.span_top.specs.Audited.{AuditEnds, BytesAudited, LogIs, IsTold, summary_text, cause_of}

logged : (files : Option Files) (name bytes : List ℕ) (Is : List ℕ → Type 0) → Holds files name bytes → length bytes ≤ 268435456 → Is bytes → LogIs files name Is
logged files name bytes Is held within is = record { bytes = bytes; held = held; within = within; is = is }

-- the text on a log that breaks no clause was taken, or a front of it
pub ends_told : (bytes text : List ℕ) (summary : Summary) (old new : Option (List ℕ)) → IsUnbroken bytes summary → text ≡ summary_text summary → Appends old new text → BytesAudited bytes old new status.Done
ends_told bytes text summary old new unbroken is took files name held within =
    logged files name bytes (IsTold (Appends old new)) held within (summary, unbroken, subst (λ (t : List ℕ). Appends old new t) is took)

pub ends_unwritten : (bytes text : List ℕ) (summary : Summary) (old new : Option (List ℕ)) → IsUnbroken bytes summary → text ≡ summary_text summary → AppendsFront old new text → BytesAudited bytes old new status.WriteFault
ends_unwritten bytes text summary old new unbroken is took files name held within =
    logged files name bytes (IsTold (AppendsFront old new)) held within (summary, unbroken, subst (λ (t : List ℕ). AppendsFront old new t) is took)

pub ends_short : (bytes text : List ℕ) (summary : Summary) (old new : Option (List ℕ)) → IsUnbroken bytes summary → text ≡ summary_text summary → AppendsFront old new text → BytesAudited bytes old new status.NoMemory
ends_short bytes text summary old new unbroken is took files name held within = inr (ends_unwritten bytes text summary old new unbroken is took files name held within)

pub ends_in_want : (bytes : List ℕ) (old : Option (List ℕ)) → BytesAudited bytes old old status.NoMemory
ends_in_want bytes old files name held within = inl refl

-- a log that is refused
pub ends_bad : (bytes : List ℕ) (old : Option (List ℕ)) (line : ℕ) → log_says bytes ≡ Err (Bad line) → BytesAudited bytes old old (status.BadInput 0 line cause.Syntax)
ends_bad bytes old line says files name held within = (refl, refl, logged files name bytes _ held within says, refl)

pub ends_above : (bytes : List ℕ) (old : Option (List ℕ)) (line : ℕ) → log_says bytes ≡ Err (Limit line) → BytesAudited bytes old old (status.TooLarge 0 line Lines 4000001)
ends_above bytes old line says files name held within =
    (refl, inr (record { what_is = refl; number_is = refl; log = logged files name bytes _ held within says }), refl)

pub ends_broken : (bytes : List ℕ) (old : Option (List ℕ)) (line : ℕ) (broken : Clause) (told : Cause) → IsBroken bytes line broken → told ≡ cause_of broken → BytesAudited bytes old old (status.Refused line told)
ends_broken bytes old line broken told is same files name held within = (logged files name bytes _ held within (broken, is, same), refl)

-- a log that isn't read ends `audit` as its file is refused
pub ends_unread : (files : Option Files) (name : List ℕ) (old : Option (List ℕ)) (s : Status) → ReadsFile files name 268435456 (Err s) → AuditEnds files name old old s
ends_unread files name old status.Done refused = absurd refused
ends_unread files name old status.NoMemory refused = inl refl
ends_unread files name old status.Usage refused = absurd refused
ends_unread files name old (status.Absent file) refused = (refused.0, refused.1, refl)
ends_unread files name old (status.BadInput file line cause) refused = absurd refused
ends_unread files name old (status.NoPolicy set) refused = absurd refused
ends_unread files name old (status.Budget set) refused = absurd refused
ends_unread files name old (status.Refused line cause) refused = absurd refused
ends_unread files name old (status.BadEvent line cause) refused = absurd refused
ends_unread files name old status.ReadFault refused = refl
ends_unread files name old status.WriteFault refused = absurd refused
ends_unread files name old (status.TooLarge file line what number) refused = (refused.0, inl refused.1, refl)
ends_unread files name old status.LinkFault refused = absurd refused
ends_unread files name old (status.Strange to frame) refused = absurd refused

pub ends_read : (files : Option Files) (name bytes : List ℕ) (old new : Option (List ℕ)) (s : Status) → ReadsFile files name 268435456 (Ok bytes) → BytesAudited bytes old new s → AuditEnds files name old new s
ends_read files name bytes old new s held ends = ends files name held.0 held.1

-- `audit` never answers that its words are of no command
pub never_usage : (files : Option Files) (name : List ℕ) (old new : Option (List ℕ)) (s : Status) → AuditEnds files name old new s → s ≡ status.Usage → ⊥
never_usage files name old new s ends same = subst (AuditEnds files name old new) same ends

-- nor that a second file isn't there
pub never_second : (files : Option Files) (name : List ℕ) (old new : Option (List ℕ)) (s : Status) → AuditEnds files name old new s → s ≡ status.Absent 1 → ⊥
never_second files name old new s ends same = absurd (let h : 1 ≡ 0 = (subst (AuditEnds files name old new) same ends).0 in omega (arith, h))

pub ruleset written = (ends_told, ends_unwritten, ends_short, ends_in_want)

pub ruleset judged = (ends_in_want, ends_bad, ends_above, ends_broken)

pub ruleset ends = (ends_unread, ends_read)

pub ruleset never = (never_usage, never_second)
