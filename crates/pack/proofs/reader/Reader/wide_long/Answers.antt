use Rattle.std.specs.Prelude.{◌≡◌, true, false}
use mathlib.Core.Path.{refl}
use Rattle.pack.specs.Items.{read_wide, shortest}
use Rattle.pack.proofs.ReaderItems.{reads_ok, reads_err, wide_cut, wide_long_form, wide_over, wide_read}
use Rattle.pack.proofs.reader.Reader.wide_long.Goals as goal

pub returns-in_default-clause-read : goal.returns-in_default-clause-read
returns-in_default-clause-read c =
    let r = c.args.self in
    rw c.refusal.ensures (reads_err r _ (read_wide c.args.most) _ _ _ (wide_cut r.bytes.now r.at c.args.most c.in_default.ensures) refl)

pub returns-then-not-is_shortest-clause-read : goal.returns-then-not-is_shortest-clause-read
returns-then-not-is_shortest-clause-read c =
    let r = c.args.self in
    let b : shortest r.bytes.now r.at c.in-Some.end ≡ false = cc in
    rw c.refusal-then-not-is_shortest.ensures
    (reads_err r _ (read_wide c.args.most) _ _ _ (wide_long_form r.bytes.now r.at c.args.most c.in-Some.end c.in-Some.ensures b) refl)

pub returns-in_default-decode-clause-read : goal.returns-in_default-decode-clause-read
returns-in_default-decode-clause-read c =
    let r = c.args.self in
    let b : shortest r.bytes.now r.at c.in-Some.end ≡ true = cc in
    rw c.refusal-in_default-decode.ensures
    (reads_err r _ (read_wide c.args.most) _ _ _
    (wide_over r.bytes.now r.at c.args.most c.in-Some.end c.in-Some.ensures b c.in_default-decode.ensures.is) refl)

pub returns-clause-read : goal.returns-clause-read
returns-clause-read c =
    let r = c.args.self in
    let b : shortest r.bytes.now r.at c.in-Some.end ≡ true = cc in
    reads_ok r _ (read_wide c.args.most) _ _
    (wide_read r.bytes.now r.at c.args.most c.in-Some.end c.in-Some.ensures b _ c.in-Some-decode.ensures.is) refl refl
