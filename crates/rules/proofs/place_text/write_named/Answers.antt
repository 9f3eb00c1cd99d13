use Rattle.rules.proofs.PlaceCalls.{empty_part, not_there, too_short, all_written}
use Rattle.rules.specs.PlaceText.{place_text}
use Rattle.rules.specs.Locs.{loc_text}
use mathlib.Core.Path.{◌∙◌}
use Rattle.pack.specs.Meaning.{pack_of}
use Rattle.rules.proofs.place_text.write_named.Goals as goal

pub returns-in_default : goal.returns-in_default
returns-in_default c =
    let a = not_there (place_text (pack_of c.args.pack.now.bytes.now) c.args.place c.args.tree c.args.item) c.args.text.now c.in_default.ensures in
    record { answer = a.answer; text = a.text }

pub returns-then-text-needed : goal.returns-then-text-needed
returns-then-text-needed c =
    let text = c.args.text.now in let pack = c.args.pack.now.bytes.now in
    let x = empty_part c.write_loc-needed.new.text text c.write_loc-needed.auto.text in
    let a = too_short (place_text (pack_of pack) c.args.place c.args.tree c.args.item) text (loc_text pack c.in-Some.loc) c.in-Some.ensures
    c.write_loc-needed.result c.write_loc-needed.ensures.count (rw x at c.if-text-needed.true) in
    record { answer = a.answer; text = x ∙ a.text }

pub returns : goal.returns
returns c =
    let text = c.args.text.now in let pack = c.args.pack.now.bytes.now in
    let x = empty_part c.write_loc-needed.new.text text c.write_loc-needed.auto.text in
    let a = all_written (place_text (pack_of pack) c.args.place c.args.tree c.args.item) text (loc_text pack c.in-Some.loc) c.in-Some.ensures
    c.write_loc-needed.result c.write_loc-needed.ensures.count (rw x at c.if-text-needed.false) c.write_loc.new.text c.write_loc.result (rw x at
    c.write_loc.ensures) in
    record { answer = a.answer; text = a.text }
