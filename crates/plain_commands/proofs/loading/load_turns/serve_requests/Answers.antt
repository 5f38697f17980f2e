use Rattle.std.proofs.Common.{refl, ◌∙◌, rules}
use Rattle.std.proofs.lemmas.List.{nil_from_length}
use Rattle.catalogue.specs.Holdings.{history_of}
use Rattle.plain_commands.proofs.LoadLemmas.{counted_all, counted_more}
use Rattle.plain_commands.proofs.loading.load_turns.serve_requests.Goals as goal

pub heads-init : goal.heads-init
heads-init c = record { seen = refl; pair = refl; counted = λ end counted. counted }

pub heads-preserved : goal.heads-preserved
heads-preserved c = record {
  seen = c.in_ok-serve_request.ensures.seen ∙ c.heads.invariant.seen;
  pair = c.serve_request.ensures.pair ∙ c.heads.invariant.pair;
  counted = λ end counted.
      c.heads.invariant.counted end
      (counted_more c.heads.desk.seen c.args.desk.now.seen c.heads.left.now c.in_ok-request.request.now c.in_ok-request.rest.now
      c.heads.counts c.serve_request.new.counts end c.heads.invariant.seen c.in_ok-request.ensures.first
      c.in_ok-serve_request.ensures.counted counted);
}

pub returns-clause-counted : goal.returns-clause-counted
returns-clause-counted c =
    c.heads.invariant.counted c.heads.counts
    (counted_all (history_of c.args.desk.now.seen) c.heads.left.now c.heads.counts (nil_from_length c.heads.left.now (search rules)))
