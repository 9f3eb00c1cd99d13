use Rattle.rules.proofs.locs.Loc.put.Goals as goal

pub returns-in-FieldTypes : goal.returns-in-FieldTypes
returns-in-FieldTypes c = rw c.in-FieldTypes.is c.put_bytes.ensures

pub returns-in-Pgn : goal.returns-in-Pgn
returns-in-Pgn c = rw c.in-Pgn.is c.put_pgn.ensures

pub returns-in-Lookup : goal.returns-in-Lookup
returns-in-Lookup c = rw c.in-Lookup.is c.put_lookup.ensures

pub returns-in-Group : goal.returns-in-Group
returns-in-Group c = rw c.in-Group.is c.put_group.ensures
