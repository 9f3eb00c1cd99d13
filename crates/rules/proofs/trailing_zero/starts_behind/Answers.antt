use Rattle.rules.proofs.trailing_zero.starts_behind.Goals as goal

-- written out, so that the edit empty_set_ignored is refused for this fact
pub returns-in-Some : goal.returns-in-Some
returns-in-Some c = rw c.in-Some.is c.precedes.ensures
