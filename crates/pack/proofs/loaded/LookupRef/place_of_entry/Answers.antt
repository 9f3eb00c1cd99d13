use Rattle.pack.proofs.Few.{entries_few}
use native.Mathlib.Omega.{arith}
use Rattle.pack.proofs.loaded.LookupRef.place_of_entry.Goals as goal

pub overflow_add-result : goal.overflow_add-result
overflow_add-result c = omega (arith, entries_few c.args.self.now.at, c.args.self.now.is.entries, c.requires)

pub overflow_add-result-2 : goal.overflow_add-result-2
overflow_add-result-2 c = omega (arith, entries_few c.args.self.now.at, c.args.self.now.is.entries, c.requires)
