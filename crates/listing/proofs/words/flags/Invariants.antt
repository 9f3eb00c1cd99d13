use Rattle.std.specs.Io.KnownBytes.{Appends}
use Rattle.std.specs.Prelude.{take}
use Rattle.listing.specs.Words.{set_flags}
use Rattle.listing.proofs.words.flags.Given as goal

abbrev pub invariant-loop-set : goal.invariant-loop-set
invariant-loop-set g l = Appends (g.W.Write.contents l.initial.out) (g.W.Write.contents l.out) (set_flags (take l.set-index l.flags))
