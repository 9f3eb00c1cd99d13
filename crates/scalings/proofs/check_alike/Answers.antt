use Rattle.scalings.proofs.ReportRead.{answer_room, answer_says}
use Rattle.scalings.proofs.check_alike.Goals as goal

pub silent-alike-requires : goal.silent-alike-requires
silent-alike-requires c =
    rw c.check-checked.auto.findings (answer_room _ _ _ _ _ c.check-checked.result c.check-checked.ensures)

pub returns : goal.returns
returns c =
    record {
      read = c.silent-alike.ensures;
      claim = rw c.silent-alike.ensures (answer_says _ _ _ _ _ c.check-checked.result c.check-checked.ensures);
      checks = c.check-checked.ensures;
    }
