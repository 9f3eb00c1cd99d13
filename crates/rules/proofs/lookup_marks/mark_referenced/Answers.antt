use Rattle.pack.specs.Meaning.{pack_of}
use Rattle.pack.specs.Value.{lookup_at}
use Rattle.rules.specs.LookupWiring.{referenced_by_tree, referenced_by_lookup, referenced}
use Rattle.rules.specs.Search.{any_below}
use lib.ListN.{length}
use Rattle.rules.proofs.Marking.{marked_then}
use Rattle.rules.proofs.lookup_marks.mark_referenced.Goals as goal

pub returns : goal.returns
unfolding referenced
returns c =
    let s = c.args.pack.now.bytes.now in
    marked_then (λ n. any_below (λ t. referenced_by_tree (pack_of s) n t) 3)
    (λ n. any_below (λ l. referenced_by_lookup n (lookup_at (pack_of s).lookups l)) (length (pack_of s).lookups)) c.mark_by_trees.ensures
    c.mark_by_lookups.ensures
