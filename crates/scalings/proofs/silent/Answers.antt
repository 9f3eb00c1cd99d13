use mathlib.Core.Bool.{not}
use mathlib.Core.Path.{refl, ap}
use Rattle.scalings.proofs.silent.Goals as goal

pub reports-requires : goal.reports-requires
reports-requires c =
    rw c.in-Ok.is at c.requires

pub returns-in-Err : goal.returns-in-Err
returns-in-Err c = rw c.in-Err.is refl

pub returns-in-Ok : goal.returns-in-Ok
returns-in-Ok c = rw c.in-Ok.is (ap not c.reports.ensures)
