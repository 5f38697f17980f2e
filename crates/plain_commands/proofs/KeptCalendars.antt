-- A mirror of calendars keeps the calendar of each zone that it knows, but of those whose calendars
-- are pending.
use Rattle.std.proofs.Common.{◌≡◌, ℕ, ◌⊎◌, List, [], ◌∷◌, map, Bool, true, false, not, ◌||◌, cond, inl, inr, Option, None, Some, Result, Ok, Err}
use Rattle.std.proofs.Common.{refl, sym, ap, subst, ◌∙◌, suc, ◌+◌, ◌<◌, length, drop, get_or, add-one, drop-cons}
use Rattle.std.specs.Prelude.{⊤}
use Rattle.std.specs.List.{AllByRecursion, filter, list_any}
use Rattle.std.specs.Option.{is_some, option_map, option_or}
use Rattle.std.specs.Str.{bytes_eq}
use Rattle.td_base.specs.Upstreams.{UpstreamView}
use Rattle.td_base.specs.declared.report.Ask.{Ask}
use Rattle.td_base.specs.declared.report.Ask.TheVariants as ask
use Rattle.td_base.specs.declared.upstream.Exchange.{Exchange}
use Rattle.json_forms.specs.declared.zone_list.ListDoc.{ListDoc}
use Rattle.json_forms.specs.declared.zone_list.ListZone.{ListZone}
use Rattle.sync_core.specs.Mirrors.{MirrorState, ZoneFile, ask_for, ask_of, empty_mirror, entry_name, file_name}
use Rattle.sync_core.specs.Names.{at_text, put_in}
use Rattle.sync_core.specs.Published.{bytes_of, file_bytes}
use Rattle.sync_core.specs.Steps.{after_changes, after_file, after_heard, after_list, is_alias, kept_entries, kept_files, rising_zones, settle, sync_step}
use Rattle.sync_core.specs.declared.heard_type.Heard.{Heard}
use Rattle.sync_core.specs.declared.heard_type.Heard.TheVariants as heard
use Rattle.sync_core.proofs.lemmas.Puts.{at_put, at_put_all, bytes_same, same_bytes}
use Rattle.mirror.specs.Shares.{SyncEnds, WalksOn}
use Rattle.mirror.specs.Shares as share
use Rattle.mirror.specs.Understanding.{Means}
use Rattle.mirror.specs.declared.sync_fault.SyncFault.{SyncFault}
use Rattle.mirror.specs.declared.understood_type.Understood.{Understood}
use Rattle.mirror.specs.declared.understood_type.Understood.TheVariants as understood
use Rattle.mirror.proofs.lemmas.Meanings.{is_told}
use Rattle.vtimezone_reader.specs.ReadLines.{calendar_in}
use Rattle.vtimezone_reader.specs.declared.calendar_fault.CalendarFault.{CalendarFault}
use Rattle.vtimezone_reader.specs.declared.calendar_type.Calendar.{Calendar}
use Rattle.calendar_mirror.specs.CalendarShares.{CalendarSyncEnds, CalendarSyncs, bad_calendar, ended, of_sync, wrong_name}
use Rattle.calendar_mirror.specs.Judging.{MeansSound, hears, judged_by, judged_calendar}
use Rattle.calendar_mirror.specs.declared.sync_fault.CalendarSyncFault.{CalendarSyncFault}
use Rattle.calendar_mirror.specs.declared.judged_type.Judged.TheVariants as judged
use Rattle.run_ends.specs.Running.CalendarMirroring.{KeepsCalendar}

-- ---- what is heard

-- a text is a calendar of this name
pub record IsCalendarOf (name text : List ℕ) : Type 0 where
  pub calendar : Calendar
  pub reads : calendar_in text ≡ Ok calendar
  pub named : calendar.tzid ≡ name

-- where a zone was asked for, a calendar of its name is heard
abbrev HearsCalendar : Ask → Heard → Type 0
HearsCalendar (ask.List token) h = ⊤
HearsCalendar (ask.Get name) (heard.Zone text) = IsCalendarOf name text
HearsCalendar (ask.Get name) (heard.List doc) = ⊥
HearsCalendar (ask.Get name) heard.BadToken = ⊥

same_heard : (h k : Heard) → judged.Sound (understood.Hears h) ≡ hears k → h ≡ k
same_heard h k e = cc

named_so : (name text : List ℕ) (c : Calendar) (h : Heard) → calendar_in text ≡ Ok c → (b : Bool) → bytes_eq c.tzid name ≡ b
    → judged.Sound (understood.Hears h) ≡ cond b (hears (heard.Zone text)) judged.WrongName → HearsCalendar (ask.Get name) h
named_so name text c h reads true is e =
    subst (HearsCalendar (ask.Get name)) (sym (same_heard h (heard.Zone text) e)) (record { calendar = c; reads = reads; named = bytes_same c.tzid name is })
named_so name text c h reads false is e = absurd (cc)

text_so : (name text : List ℕ) (h : Heard) (r : Result Calendar CalendarFault) → calendar_in text ≡ r
    → judged.Sound (understood.Hears h) ≡ judged_calendar name text r → HearsCalendar (ask.Get name) h
text_so name text h (Ok c) reads e = named_so name text c h reads (bytes_eq c.tzid name) refl e
text_so name text h (Err f) reads e = absurd (cc)

got_so : (name answer : List ℕ) (h : Heard) (u : Understood) → Means (ask.Get name) answer u
    → judged.Sound (understood.Hears h) ≡ judged_by (ask.Get name) u → HearsCalendar (ask.Get name) h
got_so name answer h (understood.Hears (heard.Zone text)) m e = text_so name text h (calendar_in text) refl e
got_so name answer h (understood.Hears (heard.List doc)) m e = absurd ((is_told (ask.Get name) answer (heard.List doc) m).0)
got_so name answer h (understood.Hears heard.BadToken) m e = absurd (is_told (ask.Get name) answer heard.BadToken m)
got_so name answer h (understood.Unreadable place) m e = absurd (cc)
got_so name answer h (understood.Refuses status) m e = absurd (cc)

heard_so : (a : Ask) (answer : List ℕ) (h : Heard) → MeansSound a answer (understood.Hears h) → HearsCalendar a h
heard_so (ask.List token) answer h m = tt
heard_so (ask.Get name) answer h m = got_so name answer h m.0 m.1 m.2

-- ---- what is kept, by names

-- each name that is known is pending, or a calendar of it is kept
abbrev Keeps : List ListZone → List ZoneFile → List (List ℕ) → Type 0
Keeps entries files pending = (t : List ℕ) → is_some (at_text entry_name entries t) ≡ true → (list_any (bytes_eq t) pending ≡ true) ⊎ KeepsCalendar files t

abbrev KeepsAll : MirrorState → Type 0
KeepsAll s = Keeps s.entries s.files s.pending

-- what is known of a list is among its names
listed : (zones : List ListZone) (t : List ℕ) → is_some (at_text entry_name zones t) ≡ true → list_any (bytes_eq t) (map entry_name zones) ≡ true
listed [] t h = absurd (cc)
listed (z ∷ zs) t h = by (listed zs t) (bytes_eq t z.tzid) h
  where
    by : (is_some (at_text entry_name zs t) ≡ true → list_any (bytes_eq t) (map entry_name zs) ≡ true) → (b : Bool)
        → is_some (cond b (Some z) (at_text entry_name zs t)) ≡ true → (b || list_any (bytes_eq t) (map entry_name zs)) ≡ true
    by again true k = refl
    by again false k = again k

nothing : {X : Type 0} (o : Option X) (b : Bool) → o ≡ None → o ≡ cond b o None
nothing o true e = refl
nothing o false e = e

-- what is found of the items whose names pass
found_kept : {X : Type 0} (text : X → List ℕ) (p : List ℕ → Bool) (xs : List X) (t : List ℕ)
    → at_text text (filter (λ x. p (text x)) xs) t ≡ cond (p t) (at_text text xs t) None
found_kept text p [] t = nothing None (p t) refl
found_kept text p (x ∷ xs) t = by (found_kept text p xs t) (p (text x)) refl (bytes_eq t (text x)) refl
  where
    by : at_text text (filter (λ x. p (text x)) xs) t ≡ cond (p t) (at_text text xs t) None → (a : Bool) → p (text x) ≡ a → (b : Bool)
        → bytes_eq t (text x) ≡ b
        → at_text text (cond a (x ∷ filter (λ x. p (text x)) xs) (filter (λ x. p (text x)) xs)) t ≡ cond (p t) (cond b (Some x) (at_text text xs t)) None
    by again true passes true same =
        let here : p t ≡ true = ap p (bytes_same t (text x) same) ∙ passes in rw (same, here) refl
    by again true passes false same = rw same again
    by again false passes true same =
        let here : p t ≡ false = ap p (bytes_same t (text x) same) ∙ passes in again ∙ rw here refl
    by again false passes false same = again

-- ---- steps

module _ (s : MirrorState) (zones : List ListZone) (t : List ℕ) where
  -- what is no alias in the list stays
  unchanged : (b : Bool) → not (is_alias zones t) ≡ b → (is_some (at_text entry_name s.entries t) ≡ true → KeepsCalendar s.files t)
      → is_some (cond b (at_text entry_name s.entries t) None) ≡ true → KeepsCalendar (kept_files zones s.files) t
  unchanged true is kept known =
      let k = kept known in record {
        text = k.text;
        kept = ap (option_map bytes_of) (found_kept file_name (λ n. not (is_alias zones n)) s.files t ∙ ap (λ b. cond b (at_text file_name s.files t) None) is)
            ∙ k.kept;
        calendar = k.calendar;
        reads = k.reads;
        named = k.named;
      }
  unchanged false is kept known = absurd (cc)

  joined : (new : Option ListZone) → at_text entry_name (rising_zones zones) t ≡ new
      → (is_some (at_text entry_name s.entries t) ≡ true → KeepsCalendar s.files t)
      → is_some (option_or new (at_text entry_name (kept_entries zones s.entries) t)) ≡ true
      → (list_any (bytes_eq t) (map entry_name (rising_zones zones)) ≡ true) ⊎ KeepsCalendar (kept_files zones s.files) t
  joined (Some z) is kept known = inl (listed (rising_zones zones) t (ap is_some is))
  joined None is kept known =
      inr (unchanged (not (is_alias zones t)) refl kept
      (ap is_some (sym (found_kept entry_name (λ n. not (is_alias zones n)) s.entries t)) ∙ known))

not_pending : (t : List ℕ) (pending : List (List ℕ)) (P : Type 0) → pending ≡ [] → (list_any (bytes_eq t) pending ≡ true) ⊎ P → P
not_pending t [] P e (inl there) = absurd (cc)
not_pending t [] P e (inr p) = p
not_pending t (x ∷ xs) P e h = absurd (cc)

changes_keep : (s : MirrorState) (token : List ℕ) (zones : List ListZone) → s.pending ≡ [] → KeepsAll s → KeepsAll (after_changes s token zones)
changes_keep s token [] e k = k
changes_keep s token (z ∷ zs) e k = λ t known.
    joined s (z ∷ zs) t (at_text entry_name (rising_zones (z ∷ zs)) t) refl
    (λ old. not_pending t s.pending (KeepsCalendar s.files t) e (k t old))
    (ap is_some (sym (at_put_all entry_name (z ∷ zs) (kept_entries (z ∷ zs) s.entries) t)) ∙ known)

list_keeps : (token : Option (List ℕ)) (s : MirrorState) (doc : ListDoc) → s.pending ≡ [] → KeepsAll s → KeepsAll (after_list token s doc)
list_keeps None s doc e k = λ t known. inl (listed (rising_zones doc.zones) t known)
list_keeps (Some since) s doc e k = changes_keep s doc.token doc.zones e k

module _ (files : List ZoneFile) (p text : List ℕ) (ps : List (List ℕ)) (c : IsCalendarOf p text) (t : List ℕ) where
  abbrev put : List ZoneFile
  put = put_in file_name (record { tzid = p; bytes = text }) files

  put_bytes : (b : Bool) → bytes_eq t p ≡ b → file_bytes put t ≡ cond b (Some text) (file_bytes files t)
  put_bytes b is = ap (option_map bytes_of) (at_put file_name (record { tzid = p; bytes = text }) files t) ∙ by b is
    where
      by : (b : Bool) → bytes_eq t p ≡ b → option_map bytes_of (cond (bytes_eq t p) (Some (record { tzid = p; bytes = text })) (at_text file_name files t))
          ≡ cond b (Some text) (file_bytes files t)
      by true is = rw is refl
      by false is = rw is refl

  got : (b : Bool) → bytes_eq t p ≡ b → (list_any (bytes_eq t) (p ∷ ps) ≡ true) ⊎ KeepsCalendar files t
      → (list_any (bytes_eq t) ps ≡ true) ⊎ KeepsCalendar put t
  got true is h = inr (record {
    text = text;
    kept = put_bytes true is;
    calendar = c.calendar;
    reads = c.reads;
    named = c.named ∙ sym (bytes_same t p is);
  })
  got false is (inl there) = inl (sym (ap (λ b. b || list_any (bytes_eq t) ps) is) ∙ there)
  got false is (inr k) = inr (record {
    text = k.text;
    kept = put_bytes false is ∙ k.kept;
    calendar = k.calendar;
    reads = k.reads;
    named = k.named;
  })

file_keeps : (pending : List (List ℕ)) (token : Option (List ℕ)) (s : MirrorState) (text : List ℕ) → s.pending ≡ pending
    → HearsCalendar (ask_for pending token) (heard.Zone text) → KeepsAll s → KeepsAll (after_file pending s text)
file_keeps [] token s text e c k = k
file_keeps (p ∷ ps) token s text e c k = λ t known.
    got s.files p text ps c t (bytes_eq t p) refl
    (subst (λ (l : List (List ℕ)). (list_any (bytes_eq t) l ≡ true) ⊎ KeepsCalendar s.files t) e (k t known))

none_asked : (pending : List (List ℕ)) (token : Option (List ℕ)) (doc : ListDoc) → HearsCalendar (ask_for pending token) (heard.List doc) → pending ≡ []
none_asked [] token doc h = refl
none_asked (p ∷ ps) token doc h = absurd h

heard_keeps : (s : MirrorState) (h : Heard) → HearsCalendar (ask_of s) h → KeepsAll s → KeepsAll (after_heard s h)
heard_keeps s (heard.List doc) c k = list_keeps s.token s doc (none_asked s.pending s.token doc c) k
heard_keeps s (heard.Zone text) c k = file_keeps s.pending s.token s text refl c k
heard_keeps s heard.BadToken c k = k

settle_keeps : (pending : List (List ℕ)) (coming : Option (List ℕ)) (s : MirrorState) → KeepsAll s → KeepsAll (settle pending coming s)
settle_keeps [] None s k = k
settle_keeps [] (Some token) s k = k
settle_keeps (p ∷ ps) coming s k = k

step_keeps : (s : MirrorState) (h : Heard) → HearsCalendar (ask_of s) h → KeepsAll s → KeepsAll (sync_step s h)
unfolding sync_step
step_keeps s h c k = settle_keeps (after_heard s h).pending (after_heard s h).coming (after_heard s h) (heard_keeps s h c k)

-- ---- a whole sync

module _ (written : Ask → List ℕ) where
  walk_keeps : (s : MirrorState) (xs : List Exchange) (before lists : ℕ) (t : MirrorState) → WalksOn written MeansSound s xs before lists t → KeepsAll s
      → KeepsAll t
  walk_keeps s [] before lists t w k = subst KeepsAll (sym w.0) k
  walk_keeps s (x ∷ xs) before lists t w k =
      walk_keeps (sync_step s w.0) xs _ lists t w.4 (step_keeps s w.0 (heard_so (ask_of s) x.answer w.0 w.1.is_meant) k)

  ends_keep : (s t : MirrorState) (taken untaken : List Exchange) (r : Result (Unit {0}) SyncFault) → SyncEnds written MeansSound s t taken untaken r
      → Ok tt ≡ of_sync r → KeepsAll s → KeepsAll t
  ends_keep s t taken untaken r (share.settled first last u h a holds is taken_is none ok) e k =
      subst KeepsAll (sym is) (step_keeps u h (heard_so (ask_of u) last.answer h a.is_for.is_meant) (walk_keeps s first 0 a.lists u a.walks k))
  ends_keep s t taken untaken r (share.unreadable x place a one why) e k = absurd (cc)
  ends_keep s t taken untaken r (share.refused x status a one why) e k = absurd (cc)
  ends_keep s t taken untaken r (share.not_settled w none why) e k = absurd (cc)
  ends_keep s t taken untaken r (share.failed lists w few none why) e k = absurd (cc)
  ends_keep s t taken untaken r (share.starved lists w few most why) e k = absurd (cc)

  synced_keeps : (s t : MirrorState) (taken untaken : List Exchange) (r : Result (Unit {0}) CalendarSyncFault) → r ≡ Ok tt
      → CalendarSyncEnds written s t taken untaken r → KeepsAll s → KeepsAll t
  synced_keeps s t taken untaken r ok (ended any ends is) k = ends_keep s t taken untaken any ends (sym ok ∙ is) k
  synced_keeps s t taken untaken r ok (bad_calendar x f j one is) k = absurd (cc)
  synced_keeps s t taken untaken r ok (wrong_name x j one is) k = absurd (cc)

-- ---- each zone

known_more : (z : ListZone) (zs : List ListZone) (t : List ℕ) → is_some (at_text entry_name zs t) ≡ true → is_some (at_text entry_name (z ∷ zs) t) ≡ true
known_more z zs t h = by (bytes_eq t z.tzid)
  where
    by : (b : Bool) → is_some (cond b (Some z) (at_text entry_name zs t)) ≡ true
    by true = refl
    by false = h

each_known : (zs : List ListZone) (P : List ℕ → Type 0) → ((t : List ℕ) → is_some (at_text entry_name zs t) ≡ true → P t) → AllByRecursion (λ z. P z.tzid) zs
each_known [] P f = tt
each_known (z ∷ zs) P f = (f z.tzid (rw (same_bytes z.tzid) refl), each_known zs P (λ t h. f t (known_more z zs t h)))

-- a sync from an empty mirror that ended well keeps a calendar of each zone that is known
pub each_kept : (written : Ask → List ℕ) (s t : MirrorState) (old new : UpstreamView) → s ≡ empty_mirror → CalendarSyncs written s t old new (Ok tt)
    → t.pending ≡ [] → AllByRecursion (λ z. KeepsCalendar t.files z.tzid) t.entries
each_kept written s t old new begun h none =
    let begins : KeepsAll s = subst KeepsAll (sym begun) (λ u known. absurd (cc)) in
    let keeps : KeepsAll t = synced_keeps written s t h.taken h.untaken (Ok tt) refl h.ends begins in
    each_known t.entries (KeepsCalendar t.files) (λ u known. not_pending u t.pending (KeepsCalendar t.files u) none (keeps u known))

-- what is kept of each zone that is left, after one of them
pub kept_next : {X : Type 0} (P : X → Type 0) (xs : List X) (i : ℕ) (x : X) → i < length xs → x ≡ get_or xs i x → AllByRecursion P (drop i xs)
    → AllByRecursion P (drop (i + 1) xs)
kept_next P xs i x less is all =
    let one : drop i xs ≡ x ∷ drop (i + 1) xs = rw add-one (drop-cons xs i x less ∙ ap (λ z. z ∷ drop (suc i) xs) (sym is)) in
    (subst (AllByRecursion P) one all).1
