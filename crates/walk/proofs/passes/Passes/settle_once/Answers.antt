use Rattle.walk.proofs.PassLaws.{stands_again, stands_ready, stands_beyond, stands_arrived, arrived_end}
use Rattle.walk.specs.State.{place_of}
use native.Mathlib.Omega.{arith}
use mathlib.Core.Path.{◌∙◌}
use Rattle.walk.proofs.passes.Passes.settle_once.Goals as goal

pub returns-in-Again : goal.returns-in-Again
returns-in-Again c =
    let w = c.args.self.now.numbers in
    let w' = c.stand.new.self.numbers in
    record {
      round = λ L a l n. stands_again L w w' (place_of c.args.o.0 w) c.stand.result c.args.o.0 (c.stand.ensures.stands L a l) c.stand.ensures.memory n
          c.in-Again.set c.in-Again.start c.in-Again.is;
      end = λ L a l. omega (arith, c);
    }

pub returns-in-Ready : goal.returns-in-Ready
returns-in-Ready c =
    let w = c.args.self.now.numbers in
    let w' = c.stand.new.self.numbers in
    record {
      round = λ L a l n. stands_ready L w w' (place_of c.args.o.0 w) c.stand.result c.args.o.0 (c.stand.ensures.stands L a l) c.stand.ensures.memory n
          c.in-Ready.is;
      end = λ L a l. omega (arith, c);
    }

pub returns-in-Arrived : goal.returns-in-Arrived
returns-in-Arrived c =
    let w = c.args.self.now.numbers in
    let w' = c.stand.new.self.numbers in
    record {
      round = λ L a l n. c.at_set.ensures.round L a n
          ∙ stands_arrived L w w' (place_of c.args.o.0 w) c.stand.result c.args.o.0 (c.stand.ensures.stands L a l) c.stand.ensures.memory
          c.in-Arrived.k c.in-Arrived.is n;
      end = λ L a l. c.at_set.ensures.end (arrived_end L w w' (place_of c.args.o.0 w) c.stand.result c.args.o.0
          (c.stand.ensures.stands L a l) c.stand.ensures.memory c.in-Arrived.k c.in-Arrived.is a);
    }

pub returns-in-Beyond : goal.returns-in-Beyond
returns-in-Beyond c =
    let w = c.args.self.now.numbers in
    let w' = c.stand.new.self.numbers in
    record {
      round = λ L a l n. stands_beyond L w w' (place_of c.args.o.0 w) c.stand.result c.args.o.0 (c.stand.ensures.stands L a l) c.stand.ensures.memory n
          c.in-Beyond.is;
      end = λ L a l. omega (arith, c);
    }
