use Rattle.std.specs.Prelude.{is_some, Some, None, ◌≡◌}
use Rattle.pack.specs.Loaded.{pgn_value}
use Rattle.pack.specs.Meaning.{pack_of}
use Rattle.rules.specs.SearchLaws.{first_turn, first_hit}
use Rattle.rules.specs.SpnNames.{is_number, spn_field}
use Rattle.rules.specs.Spns.{first_seen}
use Rattle.pack.specs.Value.{Field}
use Rattle.std.proofs.lemmas.Option.{none-some, same_Some}
use Rattle.rules.proofs.PgnSearches.{searched_at, searched_turn, searched_all}
use native.Mathlib.Omega.{arith}
use mathlib.Core.Bool.{false≢true}
use mathlib.Core.Path.{sym, ◌∙◌, ap}
use lib.ListN.{length}
use Rattle.rules.proofs.spns.first_seen.Invariants.{carried, carries}
use Rattle.rules.proofs.spns.first_seen.Goals as goal
use Rattle.rules.proofs.spns.first_seen.Goals.{in-None, in-Some+then-loop-field-test+then-is_number}

pub search-preserved : goal.search-preserved
unfolding spn_field
search-preserved c = record {
  none_yet =
      searched_turn c.in-Some.pgn c.next.new.self c.search.invariant.none_yet c.in-Some.ensures.steps
      (λ u none_yet.
      let q : c.loop-field.field ≡ length (pgn_value c.in-Some.pgn).fields =
      omega (c.in-Some.pgn.is.fields, arith, c.loop-field.auto.field-end, c.loop-field-test.false) in
      let e : spn_field (pgn_value c.in-Some.pgn) c.args.spn ≡ None = rw q at c.loop-field.invariant.none_yet in
      let e2 = rw (u.bytes, u.tree, u.item) at e in
      first_turn (carried (pack_of c.args.pack.now.bytes.now).pgns_j1939 c.args.spn) (length c.search.yielded) ∙ (rw (none_yet, e2)));
  seen = c.loop-field.invariant.seen;
}

pub unreachable-requires : goal.unreachable-requires
unfolding first_seen
unreachable-requires c = elim c.match-next.branch [
  | in-None w ↦ false≢true (ap is_some (sym (searched_all c.search.invariant.none_yet w.in-None.ensures.steps.0)) ∙ c.requires)
  | in-Some+then-loop-field-test+then-is_number w ↦ c.in_default.not-Some _ w.seen-is
]

pub returns : goal.returns
unfolding first_seen spn_field
returns c = elim c.match-next.branch [
  | in-None w ↦ absurd (none-some _ (sym c.search.invariant.seen ∙ sym w.seen-is ∙ c.in-Some-seen.is))
  | in-Some+then-loop-field-test+then-is_number w ↦
      let pgns = (pack_of c.args.pack.now.bytes.now).pgns_j1939 in
      let p = pgn_value w.in-Some.pgn in
      let u = searched_at w.in-Some.pgn c.next.new.self c.search.invariant.none_yet w.in-Some.ensures.steps in
      let hit : spn_field p c.args.spn ≡ Some w.loop-field.field =
      first_hit (carries p c.args.spn) (length p.fields) w.loop-field.field (omega (arith, w.loop-field-test.true, w.in-Some.pgn.is.fields))
      w.loop-field.invariant.none_yet
      (ap (λ (F : Field). is_number F.spn c.args.spn) (sym w.field-f.ensures) ∙ sym w.is_number.ensures ∙ w.if-is_number.true) in
      let e = rw (u.bytes, u.tree, u.item) at hit in
      let carrier : (record { pgn = w.in-Some.pgn; field = w.loop-field.field }) ≡ c.in-Some-seen.carrier =
      same_Some _ _ (sym w.seen-is ∙ c.in-Some-seen.is) in
      rw (← carrier)
      (record {
        bytes = u.bytes;
        tree = u.tree;
        seen = first_hit (carried pgns c.args.spn) (length pgns) (length c.search.yielded) u.inside c.search.invariant.none_yet.holds (ap is_some e)
            ∙ ap Some (sym u.item);
        field = hit;
      })
]
