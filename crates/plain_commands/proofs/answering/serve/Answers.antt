use Rattle.std.proofs.Common.{rules}
use Rattle.plain_commands.proofs.Desks.{served_over, all_latest}
use Rattle.plain_commands.proofs.answering.serve.Goals as goal

pub returns : goal.returns
returns g c =
    let h = c.serve-report.ensures.served in
    let e = c.serve-report.ensures.ended c.requires in
    record {
      serves = λ s t. record {
        read = h.read;
        written = h.written;
        places = c.serve-report.result.places;
        consumed = search (h.traffic.consumed, rules);
        appended = search (h.traffic.taken, rules);
        served = search (served_over c.serve-report.new.desk c.args.desk.now.seen _ _ _ c.serve-report.result.places c.serve-report.result.end e.0 h, rules);
        latest = all_latest c.args.desk.now.seen c.serve-report.result.places e.2;
      };
      input = search rules;
      output = search rules;
    }
