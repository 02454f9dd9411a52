-- A worked world: a dear centre, where the users are, and a cheap one 20 ms away.
use Rattle.std.specs.Prelude.{List, [], ◌∷◌, codes}
use Rattle.workload.specs.declared.rules.Mode.TheVariants as mode
use Rattle.workload.specs.World.{Lists}
use Rattle.world_text.specs.Records.{Record}

-- its records before the last link, that link, and those after it
abbrev pub worked_before : List Record
worked_before =
    (codes "span" ∷ codes "1" ∷ [])
    ∷ (codes "dc" ∷ codes "x" ∷ codes "north" ∷ codes "10" ∷ codes "5" ∷ codes "7" ∷ [])
    ∷ (codes "dc" ∷ codes "y" ∷ codes "south" ∷ codes "1" ∷ codes "5" ∷ codes "7" ∷ [])
    ∷ (codes "link" ∷ codes "x" ∷ codes "x" ∷ codes "0" ∷ codes "1" ∷ [])
    ∷ (codes "link" ∷ codes "x" ∷ codes "y" ∷ codes "3" ∷ codes "20" ∷ [])
    ∷ (codes "link" ∷ codes "y" ∷ codes "x" ∷ codes "3" ∷ codes "20" ∷ [])
    ∷ []

abbrev pub last_link : List Record
last_link = (codes "link" ∷ codes "y" ∷ codes "y" ∷ codes "0" ∷ codes "1" ∷ []) ∷ []

abbrev pub worked_after : List Record
worked_after =
    (codes "set" ∷ codes "s" ∷ codes "direct" ∷ codes "0" ∷ codes "30" ∷ codes "30" ∷ codes "100" ∷ codes "2" ∷ [])
    ∷ (codes "use" ∷ codes "s" ∷ codes "x" ∷ codes "10" ∷ codes "4" ∷ [])
    ∷ []

-- what they say
abbrev pub worked_world : Lists
worked_world = record {
  centres =
      record { name = codes "x"; provider = codes "north"; price = record { store = 10; get = 5; put = 7 } }
      ∷ record { name = codes "y"; provider = codes "south"; price = record { store = 1; get = 5; put = 7 } }
      ∷ [];
  fares =
      record { transfer = 0; latency = 1 } ∷ record { transfer = 3; latency = 20 }
      ∷ record { transfer = 3; latency = 20 } ∷ record { transfer = 0; latency = 1 } ∷ [];
  sets =
      record {
        name = codes "s";
        rule = record { mode = mode.Direct; f = 0; read_slo = 30; write_slo = 30; stored = 100; object = 2; providers = 1 };
        members = record { dc = record { 0 = 0 }; gets = 10; puts = 4 } ∷ [];
      } ∷ [];
}
