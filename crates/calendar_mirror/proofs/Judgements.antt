-- What an answer is judged to be is one thing alone, and what it means to any mirror.
use Rattle.std.proofs.Common.{◌≡◌, ℕ, List, Bool, true, false, cond, IfOk, Result, Ok, Err, sym, ap, ◌∙◌, subst}
use Rattle.std.specs.Str.{bytes_eq}
use Rattle.td_base.specs.declared.no_memory.NoMemory.{NoMemory}
use Rattle.td_base.specs.declared.report.Ask.{Ask}
use Rattle.td_base.specs.declared.report.Ask.TheVariants as ask
use Rattle.sync_core.specs.declared.heard_type.Heard.{Heard}
use Rattle.sync_core.specs.declared.heard_type.Heard.TheVariants as heard
use Rattle.mirror.specs.Understanding.{Means}
use Rattle.mirror.specs.declared.understood_type.Understood.{Understood}
use Rattle.mirror.specs.declared.understood_type.Understood.TheVariants as understood
use Rattle.mirror.proofs.lemmas.Meanings.{HearsInKind, is_told, one_meaning}
use Rattle.vtimezone_reader.specs.ReadLines.{calendar_in}
use Rattle.vtimezone_reader.specs.declared.calendar_fault.CalendarFault.{CalendarFault}
use Rattle.vtimezone_reader.specs.declared.calendar_type.Calendar.{Calendar}
use Rattle.calendar_mirror.specs.Judging.{IsJudged, MeansSound, hears, judged_by, judged_calendar, judged_data, judged_heard}
use Rattle.calendar_mirror.specs.declared.judged_type.Judged.{Judged}
use Rattle.calendar_mirror.specs.declared.judged_type.Judged.TheVariants as judged

pub one_judgement : (a : Ask) (answer : List ℕ) (j k : Judged) → IsJudged a answer j → IsJudged a answer k → j ≡ k
one_judgement a answer j k p q = p.2 ∙ ap (judged_by a) (one_meaning a answer p.0 q.0 p.1 q.1) ∙ sym q.2

-- ---- what is not refused means the same to any mirror

same_sound : (u v : Understood) → judged.Sound u ≡ judged.Sound v → u ≡ v
same_sound u v e = cc

sound_named : (text : List ℕ) (b : Bool) (u : Understood) → judged.Sound u ≡ cond b (hears (heard.Zone text)) judged.WrongName
    → u ≡ understood.Hears (heard.Zone text)
sound_named text true u e = same_sound u (understood.Hears (heard.Zone text)) e
sound_named text false u e = absurd (cc)

sound_text : (name text : List ℕ) (r : Result Calendar CalendarFault) (u : Understood) → judged.Sound u ≡ judged_calendar name text r
    → u ≡ understood.Hears (heard.Zone text)
sound_text name text (Ok calendar) u e = sound_named text (bytes_eq calendar.tzid name) u e
sound_text name text (Err f) u e = absurd (cc)

sound_data : (name : List ℕ) (h : Heard) (u : Understood) → judged.Sound u ≡ judged_data name h → u ≡ understood.Hears h
sound_data name (heard.Zone text) u e = sound_text name text (calendar_in text) u e
sound_data name (heard.List doc) u e = same_sound u (understood.Hears (heard.List doc)) e
sound_data name heard.BadToken u e = same_sound u (understood.Hears heard.BadToken) e

sound_heard : (a : Ask) (h : Heard) (u : Understood) → judged.Sound u ≡ judged_heard a h → u ≡ understood.Hears h
sound_heard (ask.Get name) h u e = sound_data name h u e
sound_heard (ask.List token) h u e = same_sound u (understood.Hears h) e

sound_is : (a : Ask) (v u : Understood) → judged.Sound u ≡ judged_by a v → u ≡ v
sound_is a (understood.Hears h) u e = sound_heard a h u e
sound_is a (understood.Unreadable place) u e = same_sound u (understood.Unreadable place) e
sound_is a (understood.Refuses status) u e = same_sound u (understood.Refuses status) e

pub sound_means : (a : Ask) (answer : List ℕ) (u : Understood) → MeansSound a answer u → Means a answer u
sound_means a answer u j = subst (Means a answer) (sym (sound_is a j.0 u j.2)) j.1

pub hears_in_kind : HearsInKind MeansSound
hears_in_kind a answer h m = is_told a answer h (sound_means a answer (understood.Hears h) m)

-- ---- what is judged

pub heard_judged : (a : Ask) (answer : List ℕ) (u : Understood) (h : Heard) (r : Result Judged NoMemory) → Means a answer u → u ≡ understood.Hears h
    → IfOk r (λ j. j ≡ judged_heard a h) → IfOk r (IsJudged a answer)
heard_judged a answer u h (Ok j) m is e = (understood.Hears h, subst (Means a answer) is m, e)
heard_judged a answer u h (Err n) m is e = tt

pub other_judged : (a : Ask) (answer : List ℕ) (u v : Understood) → Means a answer u → u ≡ v → judged.Sound v ≡ judged_by a v
    → IsJudged a answer (judged.Sound v)
other_judged a answer u v m is e = (v, subst (Means a answer) is m, e)

pub judged_as : (a : Ask) (slice answer : List ℕ) (j k : Judged) → IsJudged a slice j → slice ≡ answer → j ≡ k → IsJudged a answer k
judged_as a slice answer j k p same is = subst (λ l. IsJudged a l k) same (subst (IsJudged a slice) is p)
