-- Connections of a door, served one after the other.
use Rattle.std.proofs.Common.{◌≡◌, ℕ, ◌+◌, ◌≤◌, List, [], ◌∷◌, ◌++◌, length, Option, Some, None}
use Rattle.std.proofs.Common.{refl, sym, ap, ◌∙◌, subst, arith, append_assoc, append-nil}
use Rattle.std.proofs.Common.{length-append}
use Rattle.std.specs.Io.KnownBytes.{Appends, Consumes}
use Rattle.std.specs.List.{AllByRecursion}
use Rattle.std.proofs.lemmas.List.Concat.{flat_map-append}
use Rattle.catalogue.specs.Releases.{ReleaseData}
use Rattle.catalogue.specs.declared.holding.Catalogue.{Catalogue}
use Rattle.publication.specs.Views.{DeskView}
use Rattle.td_base.proofs.lemmas.Beginnings.{prefix_length, prefix_self, prefix_trans}
use Rattle.td_base.specs.Views.{ConnView}
use Rattle.td_base.specs.DoorViews.{DoorContent, Finished}
use Rattle.td_base.specs.Doors.{GivesNext, IsNewConn, IsUnfailed, handed_back}
use Rattle.td_base.specs.declared.report.Report.{Report}
use Rattle.td_base.specs.declared.report.Role.{Role}
use Rattle.connection.specs.DoorWorks.{ServedConn, ServedConns, ServesConns}
use Rattle.connection.specs.DoorWorks.{places_of, starved}
use Rattle.connection.specs.Entering.{GoesOn, HasCounted}
use Rattle.connection.specs.FaultCounts.{faults_of, no_faults}
use Rattle.connection.specs.Served.{NeverFall, Served}
use Rattle.connection.specs.Serving.{ServedOver, ServesConn, answer_at, session_of}
use Rattle.connection.specs.Traffic.{Traffic}
use Rattle.catalogue.specs.Holdings.{history_of}
use Rattle.connection.proofs.PlaceLemmas.{all_append, all_weaker, fall_append}
use Rattle.catalogue.proofs.lemmas.HistoryLemmas.{history_length, history_longer}

-- ---- lists of connections

conns_append : (H : List ReleaseData) (role : Role) (inputs more : List (List ℕ)) (fs gs : List Finished) → ServedConns H role inputs fs
    → ServedConns H role more gs → ServedConns H role (inputs ++ more) (fs ++ gs)
conns_append H role [] more [] gs p q = q
conns_append H role [] more (f ∷ fs) gs p q = absurd p
conns_append H role (i ∷ inputs) more [] gs p q = absurd p
conns_append H role (i ∷ inputs) more (f ∷ fs) gs p q = (p.0, conns_append H role inputs more fs gs p.1 q)

as_many : (H : List ReleaseData) (role : Role) (inputs : List (List ℕ)) (fs : List Finished) → ServedConns H role inputs fs → length fs ≡ length inputs
as_many H role [] [] p = refl
as_many H role [] (f ∷ fs) p = absurd p
as_many H role (i ∷ inputs) [] p = absurd p
as_many H role (i ∷ inputs) (f ∷ fs) p = omega (arith, as_many H role inputs fs p.1)

places_append : (fs gs : List Finished) → places_of (fs ++ gs) ≡ places_of fs ++ places_of gs
places_append fs gs = flat_map-append (λ f. f.report.places) fs gs

starved_append : (fs gs : List Finished) → starved (fs ++ gs) ≡ starved fs + starved gs
starved_append [] gs = omega arith
starved_append (f ∷ fs) gs = omega (arith, starved_append fs gs)

-- every place is within the history
places_within : (H : List ReleaseData) (role : Role) (inputs : List (List ℕ)) (fs : List Finished) → ServedConns H role inputs fs
    → AllByRecursion (λ p. p ≤ length H) (places_of fs)
places_within H role [] [] p = tt
places_within H role [] (f ∷ fs) p = absurd p
places_within H role (i ∷ inputs) [] p = absurd p
places_within H role (i ∷ inputs) (f ∷ fs) p =
    all_append (λ n. n ≤ length H) f.report.places (places_of fs)
    (all_weaker (λ n. (1 ≤ n) × (n ≤ length H)) (λ n. n ≤ length H) f.report.places (λ n le. le.1) p.0.served.places.within)
    (places_within H role inputs fs p.1)

-- ---- connections and then more

module _ (role : Role) where
  pub none : (a : DoorContent) (x : DeskView (Catalogue (List ℕ))) → ServesConns role a a x x
  none a x = record {
    inputs = [];
    finished = [];
    given = sym (append-nil a.given);
    coming = refl;
    finished_is = sym (append-nil a.finished);
    served = λ H st. tt;
    first = tt;
    rising = tt;
    enters = (omega arith, omega arith);
  }

  -- no place of theirs is past what the desk has seen
  up_to : (a b : DoorContent) (x y : DeskView (Catalogue (List ℕ))) (p : ServesConns role a b x y)
      → AllByRecursion (λ n. n ≤ length y.seen) (places_of p.finished)
  up_to a b x y p =
      subst (λ n. AllByRecursion (λ q. q ≤ n) (places_of p.finished)) (history_length y.seen)
      (places_within (history_of y.seen) role p.inputs p.finished (p.served (history_of y.seen) (prefix_self (history_of y.seen))))

  pub both : (a b c : DoorContent) (x y z : DeskView (Catalogue (List ℕ))) → GoesOn x y → GoesOn y z → ServesConns role a b x y
      → ServesConns role b c y z → ServesConns role a c x z
  both a b c x y z g h p q =
      let places : places_of (p.finished ++ q.finished) ≡ places_of p.finished ++ places_of q.finished = places_append p.finished q.finished in
      let count : length (places_of (p.finished ++ q.finished)) ≡ length (places_of p.finished) + length (places_of q.finished) =
      ap length places ∙ length-append (places_of p.finished) (places_of q.finished) in
      let longer : length x.seen ≤ length y.seen = prefix_length x.seen y.seen g.longer in
      record {
        inputs = p.inputs ++ q.inputs;
        finished = p.finished ++ q.finished;
        given = q.given ∙ (ap (λ l. l ++ q.inputs) p.given ∙ append_assoc a.given p.inputs q.inputs);
        coming = p.coming ∙ (ap (λ l. p.inputs ++ l) q.coming ∙ sym (append_assoc p.inputs q.inputs c.coming));
        finished_is = q.finished_is ∙ (ap (λ l. l ++ q.finished) p.finished_is ∙ append_assoc a.finished p.finished q.finished);
        served = λ H st.
            conns_append H role p.inputs q.inputs p.finished q.finished
            (p.served H (prefix_trans (history_of y.seen) (history_of z.seen) H (history_longer y.seen z.seen h.longer) st)) (q.served H st);
        first =
            subst (AllByRecursion (λ n. length x.seen ≤ n)) (sym places)
            (all_append (λ n. length x.seen ≤ n) (places_of p.finished) (places_of q.finished) p.first
            (all_weaker (λ n. length y.seen ≤ n) (λ n. length x.seen ≤ n) (places_of q.finished) (λ n le. omega (arith, le, longer)) q.first));
        rising =
            subst NeverFall (sym places)
            (fall_append (length y.seen) (places_of p.finished) (places_of q.finished) p.rising (up_to a b x y p) q.rising q.first);
        enters = (
          omega (arith, count, p.enters.0, q.enters.0),
          omega (arith, count, p.enters.1, q.enters.1, starved_append p.finished q.finished),
        );
      }

  -- as many were handed back as were given
  pub balanced : (a b : DoorContent) (x y : DeskView (Catalogue (List ℕ))) → ServesConns role a b x y → length a.finished ≡ length a.given
      → length b.finished ≡ length b.given
  balanced a b x y p e =
      let many = as_many (history_of y.seen) role p.inputs p.finished (p.served (history_of y.seen) (prefix_self (history_of y.seen))) in
      let given = ap length p.given ∙ length-append a.given p.inputs in
      let finished = ap length p.finished_is ∙ length-append a.finished p.finished in
      omega (arith, e, many, given, finished)

-- ---- one connection

consumed : (n : Option (List ℕ)) (input read : List ℕ) → Consumes (Some input) n read → (left : List ℕ) × (n ≡ Some left) × (input ≡ read ++ left)
consumed None input read h = absurd h
consumed (Some left) input read h = (left, refl, h)

appended : (n : Option (List ℕ)) (bytes : List ℕ) → Appends (Some []) n bytes → n ≡ Some bytes
appended None bytes h = absurd h
appended (Some all) bytes h = ap Some h

-- a new connection has no failures
began_at : (conn : ConnView) → IsUnfailed conn → faults_of conn ≡ no_faults
began_at conn u = rw (u.reads, u.writes) refl

served_conn : (H : List ReleaseData) (role : Role) (input : List ℕ) (conn now : ConnView) (report : Report) (read written : List ℕ)
    → IsNewConn input conn → IsUnfailed conn → Traffic conn now read written
    → ServedOver H role conn now (session_of now read written report.places) report.end
    → ServedConn H role input (record { conn = now; report = report })
served_conn H role input conn now report read written new unfailed e s =
    let left = consumed now.left input read (subst (λ o. Consumes o now.left read) new.left e.consumed) in
    record {
      read = read;
      left = left.0;
      written = written;
      input_is = left.2;
      given = appended now.given read (subst (λ o. Appends o now.given read) new.given e.given);
      left_is = left.1;
      taken = appended now.taken written (subst (λ o. Appends o now.taken written) new.taken e.taken);
      served =
          subst (λ n. Served (answer_at H role) (length H) (session_of now read written report.places) n (faults_of now) report.end)
          (began_at conn unfailed) s;
    }

-- a connection was given, served and handed back
pub one : (role : Role) (a b c : DoorContent) (conn now : ConnView) (report : Report) (x y : DeskView (Catalogue (List ℕ))) → GivesNext a b conn
    → IsUnfailed conn → ServesConn y role conn now report.places report.end → AllByRecursion (λ p. length x.seen ≤ p) report.places
    → HasCounted x.enters report.places y.enters report.end → c ≡ handed_back now report b → ServesConns role a c x y
one role a b c conn now report x y gives unfailed serves first enters back =
    let f : Finished = record { conn = now; report = report } in
    let places : report.places ++ [] ≡ report.places = append-nil report.places in
    let count : length (report.places ++ []) ≡ length report.places = ap length places in
    record {
      inputs = gives.input ∷ [];
      finished = f ∷ [];
      given = ap (λ d. d.given) back ∙ gives.given;
      coming = gives.coming ∙ ap (λ (d : DoorContent). gives.input ∷ d.coming) (sym back);
      finished_is = ap (λ d. d.finished) back ∙ ap (λ l. l ++ f ∷ []) gives.finished;
      served = λ H st. (
        served_conn H role gives.input conn now report serves.read serves.written gives.conn_is unfailed serves.traffic (serves.served H st),
        tt,
      );
      first = subst (AllByRecursion (λ p. length x.seen ≤ p)) (sym places) first;
      rising = subst NeverFall (sym places) (serves.served (history_of y.seen) (prefix_self (history_of y.seen))).places.rising;
      enters = (omega (arith, count, enters.0), omega (arith, count, enters.1));
    }
