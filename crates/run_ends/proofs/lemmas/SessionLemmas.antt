-- What was published and seen of a session, from one moment to the next.
use Rattle.std.proofs.Common.{refl, ◌∙◌}
use Rattle.td_base.proofs.lemmas.Beginnings.{prefix_self, prefix_trans}
use Rattle.run_ends.specs.Sessions.{LaterSession}
use Rattle.run_ends.specs.declared.session.Session.{Session}

pub session_refl : (a : Session) → LaterSession a a
session_refl a = record { installer = refl; desk = refl; published = prefix_self a.installer.list; seen = prefix_self a.desk.seen }

pub session_trans : (a b c : Session) → LaterSession a b → LaterSession b c → LaterSession a c
session_trans a b c p q = record {
  installer = q.installer ∙ p.installer;
  desk = q.desk ∙ p.desk;
  published = prefix_trans a.installer.list b.installer.list c.installer.list p.published q.published;
  seen = prefix_trans a.desk.seen b.desk.seen c.desk.seen p.seen q.seen;
}
