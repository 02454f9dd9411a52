-- How checking a plan makes the endings of `check`.
use Rattle.std.proofs.Common.{◌≡◌, ℕ, inl, inr, List, Option, Result, Ok, Err, refl, sym, subst}
use Rattle.span_base.specs.Files.{Files}
use Rattle.span_base.specs.declared.words.Cause.{Cause}
use Rattle.span_base.specs.declared.words.What.{What}
use Rattle.workload.specs.World.{Lists}
use Rattle.plan_check.specs.Plans.{ChecksPlan}
use Rattle.plan_check.specs.declared.fault.CheckFault.{CheckFault}
use Rattle.plan_check.specs.declared.fault.CheckFault.TheVariants as fault
use Rattle.span_top.specs.declared.status.Status.{Status}
use Rattle.span_top.specs.declared.status.Status.TheVariants as status
use Rattle.span_top.specs.WorldFile.{FileSays, RefusesWorld}
use Rattle.span_top.specs.Checked.{ChecksWorld, told, StopsCheck, CheckEnds, WorldChecked}
use Rattle.span_top.proofs.WorldFiles.{file_whole}

checks_world : (w : Lists) (files : Option Files) (plan : List ℕ) (old new : Option (List ℕ)) (result : Result (Unit {0}) CheckFault) → ChecksPlan w files plan old new result → (world : List ℕ) → FileSays files world (Ok w) → ChecksWorld files world plan old new result
checks_world w files plan old new result checks world file =
    let whole = file_whole files world w file in
    record { lists = w; file = file; complete = whole.0; named = whole.1; checks = checks }

pub checks_done : (w : Lists) (files : Option Files) (plan : List ℕ) (old new : Option (List ℕ)) → ChecksPlan w files plan old new (Ok tt) → WorldChecked w files plan old new status.Done
checks_done w files plan old new checks = checks_world w files plan old new (Ok tt) checks

-- the ending for each fault of a plan
stops_at : (files : Option Files) (world plan : List ℕ) (old new : Option (List ℕ)) (broken : CheckFault) → StopsCheck files world plan old new (told broken) → CheckEnds files world plan old new (told broken)
stops_at files world plan old new fault.Absent stops = inr stops
stops_at files world plan old new fault.ReadFault stops = inr stops
stops_at files world plan old new (fault.TooLarge line what number) stops = inr stops
stops_at files world plan old new (fault.Bad line cause) stops = inr stops
stops_at files world plan old new (fault.Refused line cause) stops = inr stops
stops_at files world plan old new fault.WriteFault stops = inr stops
stops_at files world plan old new fault.NoMemory stops = inr stops

stopped : (w : Lists) (files : Option Files) (plan : List ℕ) (old new : Option (List ℕ)) (broken : CheckFault) → ChecksPlan w files plan old new (Err broken) → WorldChecked w files plan old new (told broken)
stopped w files plan old new broken checks world file = stops_at files world plan old new broken (broken, refl, checks_world w files plan old new (Err broken) checks world file)

pub checks_absent : (w : Lists) (files : Option Files) (plan : List ℕ) (old new : Option (List ℕ)) → ChecksPlan w files plan old new (Err fault.Absent) → WorldChecked w files plan old new (status.Absent 1)
checks_absent w files plan old new checks = stopped w files plan old new fault.Absent checks

pub checks_unread : (w : Lists) (files : Option Files) (plan : List ℕ) (old new : Option (List ℕ)) → ChecksPlan w files plan old new (Err fault.ReadFault) → WorldChecked w files plan old new status.ReadFault
checks_unread w files plan old new checks = stopped w files plan old new fault.ReadFault checks

pub checks_above : (w : Lists) (files : Option Files) (plan : List ℕ) (old new : Option (List ℕ)) (line : ℕ) (what : What) (number : ℕ) → ChecksPlan w files plan old new (Err (fault.TooLarge line what number)) → WorldChecked w files plan old new (status.TooLarge 1 line what number)
checks_above w files plan old new line what number checks = stopped w files plan old new (fault.TooLarge line what number) checks

pub checks_bad : (w : Lists) (files : Option Files) (plan : List ℕ) (old new : Option (List ℕ)) (line : ℕ) (cause : Cause) → ChecksPlan w files plan old new (Err (fault.Bad line cause)) → WorldChecked w files plan old new (status.BadInput 1 line cause)
checks_bad w files plan old new line cause checks = stopped w files plan old new (fault.Bad line cause) checks

pub checks_refused : (w : Lists) (files : Option Files) (plan : List ℕ) (old new : Option (List ℕ)) (line : ℕ) (cause : Cause) → ChecksPlan w files plan old new (Err (fault.Refused line cause)) → WorldChecked w files plan old new (status.Refused line cause)
checks_refused w files plan old new line cause checks = stopped w files plan old new (fault.Refused line cause) checks

pub checks_unwritten : (w : Lists) (files : Option Files) (plan : List ℕ) (old new : Option (List ℕ)) → ChecksPlan w files plan old new (Err fault.WriteFault) → WorldChecked w files plan old new status.WriteFault
checks_unwritten w files plan old new checks = stopped w files plan old new fault.WriteFault checks

pub checks_in_want : (w : Lists) (files : Option Files) (plan : List ℕ) (old new : Option (List ℕ)) → ChecksPlan w files plan old new (Err fault.NoMemory) → WorldChecked w files plan old new status.NoMemory
checks_in_want w files plan old new checks = stopped w files plan old new fault.NoMemory checks

-- a world that isn't read ends `check` as it is refused
pub checks_none : (files : Option Files) (world plan : List ℕ) (old : Option (List ℕ)) (s : Status) → RefusesWorld files world s → CheckEnds files world plan old old s
checks_none files world plan old status.Done refused = absurd refused
checks_none files world plan old status.NoMemory refused = inl (refused, refl)
checks_none files world plan old status.Usage refused = absurd refused
checks_none files world plan old (status.Absent file) refused = inl (refused, refl)
checks_none files world plan old (status.BadInput file line cause) refused = inl (refused, refl)
checks_none files world plan old (status.NoPolicy set) refused = absurd refused
checks_none files world plan old (status.Budget set) refused = absurd refused
checks_none files world plan old (status.Refused line cause) refused = absurd refused
checks_none files world plan old (status.BadEvent line cause) refused = absurd refused
checks_none files world plan old status.ReadFault refused = inl (refused, refl)
checks_none files world plan old status.WriteFault refused = absurd refused
checks_none files world plan old (status.TooLarge file line what number) refused = inl (refused, refl)
checks_none files world plan old status.LinkFault refused = absurd refused
checks_none files world plan old (status.Strange to frame) refused = absurd refused

pub checks_read : (w : Lists) (files : Option Files) (world plan : List ℕ) (old new : Option (List ℕ)) (s : Status) → FileSays files world (Ok w) → WorldChecked w files plan old new s → CheckEnds files world plan old new s
checks_read w files world plan old new s file ends = ends world file

-- which fault of a plan is told by which status
abbrev is_usage : Status → Type 0
is_usage status.Usage = ⊥
is_usage other = Unit {0}

told_never : (broken : CheckFault) → is_usage (told broken)
told_never fault.Absent = tt
told_never fault.ReadFault = tt
told_never (fault.TooLarge line what number) = tt
told_never (fault.Bad line cause) = tt
told_never (fault.Refused line cause) = tt
told_never fault.WriteFault = tt
told_never fault.NoMemory = tt

-- `check` never answers that its words are of no command
at_usage : (files : Option Files) (world plan : List ℕ) (old new : Option (List ℕ)) → CheckEnds files world plan old new status.Usage → ⊥
at_usage files world plan old new (inl refused) = refused.0
at_usage files world plan old new (inr stops) = subst is_usage (sym stops.1) (told_never stops.0)

pub checks_usage : (files : Option Files) (world plan : List ℕ) (old new : Option (List ℕ)) (s : Status) → CheckEnds files world plan old new s → s ≡ status.Usage → ⊥
checks_usage files world plan old new s ends same = at_usage files world plan old new (subst (CheckEnds files world plan old new) same ends)

pub ruleset checked = (checks_done, checks_absent, checks_unread, checks_above, checks_bad, checks_refused, checks_unwritten, checks_in_want)

pub ruleset ends = (checks_none, checks_read)
