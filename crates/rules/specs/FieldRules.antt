-- Rules that look at a PGN's fields one by one.
use Rattle.std.specs.Prelude.{ℕ, List}
use Rattle.pack.specs.declared.loaded.PgnRef.{PgnRef}
use Rattle.rules.specs.declared.Finding.{Finding}

-- what is found at a field of the PGN
abbrev pub OfField : Type 0
OfField = PgnRef → ℕ → List Finding
