-- Schedules that were worked by hand.
use Rattle.std.specs.Prelude.{ℕ, List, [], ◌∷◌, codes}
use Rattle.span_base.specs.declared.dc_set.DcSet.{DcSet}
use Rattle.span_base.specs.declared.ids.DcId.{DcId}
use Rattle.span_base.specs.declared.policy.Quorum.{Quorum}
use Rattle.span_base.specs.declared.policy.Policy.TheVariants.{Direct, Relay, Strong}
use Rattle.run_marks.specs.declared.mark.Work.TheVariants as work
use Rattle.world_core.specs.declared.event.Header.{Header}
use Rattle.world_core.specs.declared.event.Event.TheVariants as event
use Rattle.schedule_text.specs.Schedules.{Schedule}

abbrev dc : ℕ → DcId
dc centre = record { 0 = centre }

-- the centres whose bits are set
abbrev set : ℕ → DcSet
set bits = record { bits = bits }

abbrev quorum : ℕ → ℕ → ℕ → Quorum
quorum member read write = record { dc = dc member; read = set read; write = set write }

-- a strong set over three replicas, of which one may fail
abbrev pub strong_text : List ℕ
strong_text =
    codes "span-schedule 1\nreplicas 3\nset strong 1 0/0,1,2/0,1,2 1/0,1,2/0,1,2\nkey 0\nproxy 0\nproxy 1\nbegin\nwrite 0 0 aa\npublish 0 strong 1 0/0,1/1,2\ndeliver 5\n"

abbrev pub strong_header : Header
strong_header = record {
  replicas = 3;
  sets = Strong 1 (set 7) (quorum 0 7 7 ∷ quorum 1 7 7 ∷ []) ∷ [];
  keys = record { 0 = 0 } ∷ [];
  proxies = dc 0 ∷ dc 1 ∷ [];
}

abbrev pub strong_schedule : Schedule
strong_schedule = record {
  header = strong_header;
  events = event.Start 0 0 (work.Write (170 ∷ [])) ∷ event.Publish (record { set = record { 0 = 0 }; policy = Strong 1 (set 7) (quorum 0 3 6 ∷ []) } ∷ []) ∷ event.Deliver 5 ∷ [];
}

-- a direct and a relay set, and a table for both
abbrev pub eventual_text : List ℕ
eventual_text =
    codes "span-schedule 1\nreplicas 3\nset direct 0 0,2 0>0\nset relay 0 0,2 0>2>0,0\nkey 1\nproxy 0\nbegin\npublish 1 relay 0 1 0>1>1 ; 0 direct 0 2 0>2\nput 0 0 -"

abbrev pub eventual_schedule : Schedule
eventual_schedule = record {
  header = record {
    replicas = 3;
    sets = Direct 0 (set 5) (record { member = dc 0; at = dc 0 } ∷ [])
        ∷ Relay 0 (set 5) (record { member = dc 0; at = dc 2 } ∷ [])
        (record { member = dc 0; child = dc 0; parent = dc 0 } ∷ record { member = dc 0; child = dc 2; parent = dc 0 } ∷ [])
        ∷ [];
    keys = record { 0 = 1 } ∷ [];
    proxies = dc 0 ∷ [];
  };
  events = event.Publish (
      record { set = record { 0 = 1 }; policy = Relay 0 (set 2) (record { member = dc 0; at = dc 1 } ∷ []) (record { member = dc 0; child = dc 1; parent = dc 1 } ∷ []) }
      ∷ record { set = record { 0 = 0 }; policy = Direct 0 (set 4) (record { member = dc 0; at = dc 2 } ∷ []) } ∷ [])
      ∷ event.Start 0 0 (work.Put []) ∷ [];
}
