-- Writes that wait: in the first phase with one Yes of three, in the second one once two said Yes, and for a Here once two were Gone.
use Rattle.std.proofs.Common.{ℕ, refl, arith, false, None, List}
use Rattle.register_law.proofs.Words.{centres_below, centres_of, no_centre, DcSet, stamp_zero, opened_as, Stage, First, Looking, Second, CallState, ToWrite, table_fault, run, run_of, starts, opening, proxy_takes, step, IsWaiting}
use Rattle.strong_proxy.specs.Rule.{step as strong_step}
use Rattle.migration.specs.Move.{step as move_step}
use Rattle.run_marks.specs.declared.mark.Work.TheVariants as w
use Rattle.world_core.specs.Rows.{two_proxies, three, member, hi, cc_value, call, key, dc, stamp}
use Rattle.register_law.specs.WaitingRows.{one_yes, two_yes, two_gone}

-- a write at this proxy in this phase: whom it asks, who said Yes, how often it has looked, and the latest epoch of a Gone
abbrev writing : List ℕ → ℕ → Stage → ℕ → DcSet → DcSet → ℕ → ℕ → CallState
writing value p stage phase asked good lookups gone = record {
  work = ToWrite value;
  best = None;
  progress = record {
    key = key 0;
    at = dc p;
    leg = record { epoch = 1; f = 1; reads = three; writes = three; ticket = stamp 1 1 p 1 };
    stage = stage;
    phase = record { tag = record { call = call p 1; slot = 0; generation = 1; phase = phase }; asked = asked; good = good; bad = no_centre };
    lookups = lookups;
    top_mark = stamp_zero;
    had_gone = false;
    top_gone = gone;
    top_held = stamp_zero;
  };
}

pub waits_for_a_second : IsWaiting (key 0) (run_of two_proxies one_yes).store (call 0 1) (w.Write hi)
unfolding run step starts proxy_takes opening strong_step opened_as centres_of centres_below
waits_for_a_second = record {
  handle = record { slot = 0; generation = 1 };
  state = writing hi 0 First 1 three (record { bits = 1 }) 0 0;
  live = record { live = refl; at_key = refl };
  of = refl;
  work = refl;
  quorum = record { member = member 0; is_member = refl; tolerance = refl; asked = refl };
  waits = record { few_good = omega arith; few_bad = omega arith };
}

pub waits_for_its_stores : IsWaiting (key 0) (run_of two_proxies two_yes).store (call 0 1) (w.Write hi)
unfolding run step starts proxy_takes opening strong_step opened_as centres_of centres_below
waits_for_its_stores = record {
  handle = record { slot = 0; generation = 1 };
  state = writing hi 0 Second 2 three no_centre 0 0;
  live = record { live = refl; at_key = refl };
  of = refl;
  work = refl;
  quorum = record { member = member 0; is_member = refl; tolerance = refl; asked = refl };
  waits = record { few_good = omega arith; few_bad = omega arith };
}

pub waits_for_a_here : IsWaiting (key 0) (run_of two_proxies two_gone).store (call 1 1) (w.Write cc_value)
unfolding run step starts proxy_takes opening strong_step opened_as centres_of centres_below move_step table_fault
waits_for_a_here = record {
  handle = record { slot = 0; generation = 1 };
  state = writing cc_value 1 Looking 2 no_centre no_centre 1 1;
  live = record { live = refl; at_key = refl };
  of = refl;
  work = refl;
  quorum = record { member = member 1; is_member = refl; tolerance = refl; asked = tt };
  waits = tt;
}
