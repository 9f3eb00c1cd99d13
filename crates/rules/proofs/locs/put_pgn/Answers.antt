use Rattle.rules.specs.Locs.{pgn_text}
use Rattle.rules.proofs.TextOuts.{puts_append}
use Rattle.rules.proofs.locs.put_pgn.Goals as goal

pub returns : goal.returns
unfolding pgn_text
returns c =
    puts_append (puts_append (puts_append c.put_number.ensures c.put_bytes.ensures) (rw c.part.ensures at c.put_bytes-2.ensures)) c.put_bytes-3.ensures
