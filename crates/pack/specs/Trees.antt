-- The three trees by number and by name: "trees 0 NMEA 2000, 1 J1939, 2 Quick".
use Rattle.std.specs.Prelude.{ℕ, List, [], ◌∷◌, ◌==◌, if◌then◌else◌}
use Rattle.pack.specs.declared.load.Index.{Index}
use Rattle.pack.specs.declared.load.Section.{Section}
use Rattle.pack.specs.declared.protocol.Protocol.{Protocol}
use Rattle.pack.specs.declared.protocol.Protocol.TheVariants.{Nmea2000, J1939, Quick}

abbrev pub tree_number : Protocol → ℕ
tree_number Nmea2000 = 0
tree_number J1939 = 1
tree_number Quick = 2

abbrev pub protocol_of : ℕ → Protocol
protocol_of t = if t == 0 then Nmea2000 else (if t == 1 then J1939 else Quick)

-- the Rust's `check_prefix`: "", "j1939/", "quick/"
abbrev pub prefix_of : Protocol → List ℕ
prefix_of Nmea2000 = []
prefix_of J1939 = 106 ∷ 49 ∷ 57 ∷ 51 ∷ 57 ∷ 47 ∷ []
prefix_of Quick = 113 ∷ 117 ∷ 105 ∷ 99 ∷ 107 ∷ 47 ∷ []

abbrev pub section_of : Protocol → Index → Section
section_of Nmea2000 i = i.nmea2000
section_of J1939 i = i.j1939
section_of Quick i = i.quick
