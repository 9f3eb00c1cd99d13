use Rattle.pack.proofs.Few.{fields_few}
use native.Mathlib.Omega.{arith}
use Rattle.pack.proofs.loaded.PgnRef.place_of_field.Goals as goal

pub overflow_add-result : goal.overflow_add-result
overflow_add-result c = omega (arith, fields_few c.args.self.now.at, c.args.self.now.is.fields, c.requires)

pub overflow_add-result-2 : goal.overflow_add-result-2
overflow_add-result-2 c = omega (arith, fields_few c.args.self.now.at, c.args.self.now.is.fields, c.requires)
