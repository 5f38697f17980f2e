use Rattle.std.proofs.Common.{◌+◌, ◌∙◌, [], ap, arith}
use Rattle.catalogue.specs.Holdings.{history_of}
use Rattle.catalogue.proofs.lemmas.HistoryLemmas.{history_length}
use Rattle.plain_commands.proofs.LoadLemmas.{joins_longer, loads_first, loads_more}
use Rattle.plain_commands.proofs.loading.count_releases.Goals as goal

pub releases-init : goal.releases-init
releases-init g c = record {
  least = omega arith;
  within = c.requires.some;
  number = joins_longer [] c.args.installer.now.list c.requires.first;
  paired = c.serve_release.ensures.pair ∙ c.requires.paired;
  seen = c.in_ok-serve_release.ensures.seen ∙ c.requires.seen;
  loads = loads_first c.args.desk.now.seen c.args.installer.now.list _ c.serve_release.new.counts c.requires.seen c.none-counts.ensures c.requires.first
      c.in_ok-serve_release.ensures.counted;
}

pub releases-preserved : goal.releases-preserved
releases-preserved g c = record {
  least = omega arith;
  within = omega (arith, c.releases-test.true);
  number = c.in_ok-publish.ensures.longer ∙ ap (λ n. n + 1) c.releases.invariant.number;
  paired = c.serve_release-in-releases.ensures.pair ∙ c.in_ok-publish.ensures.paired;
  seen = c.in_ok-serve_release-2.ensures.seen ∙ c.in_ok-publish.ensures.seen;
  loads = loads_more c.publish.new.desk.seen c.releases.installer.list c.publish.new.installer.list c.releases.counts c.serve_release-in-releases.new.counts
      c.in_ok-publish.ensures.seen c.releases.invariant.loads c.in_ok-publish.ensures.joins c.in_ok-serve_release-2.ensures.counted;
}

pub returns : goal.returns
returns g c = record {
  history = history_of c.releases.installer.list;
  number = omega (arith, history_length c.releases.installer.list, c.releases.invariant.number, c.releases.invariant.within, c.releases-test.false);
  loads = c.releases.invariant.loads;
}
