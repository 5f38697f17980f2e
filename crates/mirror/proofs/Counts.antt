-- How many zones a list has, and how many files are pending after each step.
use Rattle.std.proofs.Common.{◌≡◌, ℕ, ◌+◌, ◌≤◌, List, [], ◌∷◌, length, map, Bool, true, false, ◌&&◌, cond, nat_le, codes, Option, None, Some, Ok, Err}
use Rattle.std.proofs.Common.{refl, sym, ap, ◌∙◌, subst, arith}
use Rattle.std.specs.Ordering.{match_ordering}
use Rattle.std.specs.declared.cmp.Ordering.{Ordering}
use Rattle.std.specs.declared.cmp.Ordering.TheVariants.{Less, Equal, Greater}
use Rattle.std.specs.Cmp.Lexicographic.{slice_cmp}
use Rattle.std.specs.Ordering.{nat_cmp}
use Rattle.std.proofs.lemmas.Bool.{true≢false}
use Rattle.std.proofs.lemmas.Bool.Decides.{nat_tests}
use Rattle.std.proofs.lemmas.List.{length-map}
use Rattle.std.specs.Option.{option_map_or, unwrap_or}
use Rattle.serde_json.specs.Data.{Data, Items, no_items, item}
use Rattle.serde_json.specs.Events.{items_len}
use Rattle.td_base.specs.declared.report.Ask.{Ask}
use Rattle.td_base.specs.declared.report.Ask.TheVariants as ask
use Rattle.catalogue.specs.Plain.{is_token}
use Rattle.catalogue.specs.declared.limits.TheConstants.{MOST_NAMES, MOST_ZONES}
use Rattle.json_forms.specs.JsonTexts.{json_in}
use Rattle.json_forms.specs.ListReading.{array_member, entries, entries_pass, entry_fault, has_text, is_list, list_fault, list_found, list_of, list_read}
use Rattle.json_forms.specs.ListReading.{list_unless, name_count, zones_read}
use Rattle.json_forms.specs.declared.list_fault.BadList.TheVariants as bad
use Rattle.json_forms.specs.declared.zone_list.ListDoc.{ListDoc}
use Rattle.json_forms.specs.declared.zone_list.ListZone.{ListZone}
use Rattle.sync_core.specs.Mirrors.{MirrorState, ask_of, ask_for, entry_name}
use Rattle.sync_core.specs.Names.{put_all, put_in}
use Rattle.sync_core.specs.Steps.{after_changes, after_heard, after_list, list_settles, rising_zones, settle, settles, sync_step}
use Rattle.sync_core.specs.declared.heard_type.Heard.{Heard}
use Rattle.sync_core.specs.declared.heard_type.Heard.TheVariants as heard
use Rattle.sync_core.specs.declared.heard_type.Settled.TheVariants.{Holds, More}
use Rattle.mirror.specs.Shares.{lists_in}
use Rattle.mirror.proofs.lemmas.Meanings.{IsToldIn}

-- ---- zones of a list

all_read : (es : Items) → length (zones_read es) ≡ items_len es
all_read no_items = refl
all_read (item d ds) = let rest = all_read ds in omega (arith, rest)

both_few : (m n : ℕ) → (nat_le m MOST_ZONES && nat_le n MOST_NAMES) ≡ true → m ≤ MOST_ZONES
both_few m n e = grind (arith, nat_tests)

few_entries : (o : Option Items) → entries_pass o ≡ true → length (zones_read (unwrap_or o no_items)) ≤ MOST_ZONES
few_entries None e = absurd (true≢false (sym e))
few_entries (Some es) e =
    let few = both_few (items_len es) (name_count es) e in
    let all = all_read es in omega (arith, all, few)

second : (s t : Bool) → (s && t) ≡ true → t ≡ true
second true t e = e
second false t e = absurd (true≢false (sym e))

few_listed : (d : Data) → is_list d ≡ true → length (list_of d).zones ≤ MOST_ZONES
unfolding is_list list_of
few_listed d e = few_entries (array_member (codes "timezones") d) (second (has_text is_token (codes "synctoken") d) _ e)

is_faultless : (d : Data) (b : Bool) → is_list d ≡ b → cond b (entry_fault 1 (entries d)) (Some 0) ≡ None → is_list d ≡ true
is_faultless d true e f = e
is_faultless d false e f = absurd (cc)

faultless : (d : Data) → list_fault d ≡ None → is_list d ≡ true
unfolding list_fault
faultless d f = is_faultless d (is_list d) refl f

found_few : (d : Data) (o : Option ℕ) (doc : ListDoc) → list_fault d ≡ o → list_unless o (list_of d) ≡ Ok doc → length doc.zones ≤ MOST_ZONES
found_few d None doc f e =
    let same : list_of d ≡ doc = cc in subst (λ (l : ListDoc). length l.zones ≤ MOST_ZONES) same (few_listed d (faultless d f))
found_few d (Some place) doc f e = absurd (cc)

read_few : (o : Option Data) (doc : ListDoc) → option_map_or list_found o (Err (bad.BadList 0)) ≡ Ok doc → length doc.zones ≤ MOST_ZONES
unfolding list_found
read_few None doc e = absurd (cc)
read_few (Some d) doc e = found_few d (list_fault d) doc refl e

few_zones : (text : List ℕ) (doc : ListDoc) → list_read text ≡ Ok doc → length doc.zones ≤ MOST_ZONES
unfolding list_read
few_zones text doc e = read_few (json_in text) doc e

-- ---- what is put in

put_one : (z : ListZone) (zs : List ListZone) → length (put_in entry_name z zs) ≤ length zs + 1
put_one z [] = omega arith
put_one z (y ∷ ys) = by_order (slice_cmp nat_cmp y.tzid z.tzid) (put_one z ys)
  where
    by_order : (o : Ordering) → length (put_in entry_name z ys) ≤ length ys + 1
        → length (match_ordering o (y ∷ put_in entry_name z ys) (z ∷ ys) (z ∷ y ∷ ys)) ≤ length (y ∷ ys) + 1
    by_order Less again = omega (arith, again)
    by_order Equal again = omega arith
    by_order Greater again = omega arith

put_many : (zs ys : List ListZone) → length (put_all entry_name zs ys) ≤ length zs + length ys
put_many [] ys = omega arith
put_many (z ∷ zs) ys =
    let more = put_many zs (put_in entry_name z ys) in
    let one = put_one z ys in omega (arith, more, one)

few_pending : (zs : List ListZone) → length zs ≤ MOST_ZONES → length (map entry_name (rising_zones zs)) ≤ MOST_ZONES
few_pending zs few =
    let names = length-map (rising_zones zs) entry_name in
    let put = put_many zs [] in omega (arith, names, put, few)

-- ---- what is pending

settle_pending : (pending : List (List ℕ)) (coming : Option (List ℕ)) (s : MirrorState) → (settle pending coming s).pending ≡ s.pending
settle_pending [] None s = refl
settle_pending [] (Some token) s = refl
settle_pending (tzid ∷ tzids) coming s = refl

step_pending : (s : MirrorState) (h : Heard) → (sync_step s h).pending ≡ (after_heard s h).pending
unfolding sync_step
step_pending s h = settle_pending (after_heard s h).pending (after_heard s h).coming (after_heard s h)

list_pending : (s : MirrorState) (token : Option (List ℕ)) (doc : ListDoc) → s.pending ≡ [] → length doc.zones ≤ MOST_ZONES
    → length (after_list token s doc).pending ≤ MOST_ZONES
list_pending s None doc none few = few_pending doc.zones few
list_pending s (Some since) doc none few = by_zones doc.zones few
  where
    by_zones : (zs : List ListZone) → length zs ≤ MOST_ZONES → length (after_changes s doc.token zs).pending ≤ MOST_ZONES
    by_zones [] f = rw none (omega arith)
    by_zones (z ∷ zs) f = few_pending (z ∷ zs) f

-- after the answer to a list there are few, and after that to a file one fewer
pub data Pends (s t : MirrorState) : Type 0 where
  listed : s.pending ≡ [] → lists_in (ask_of s) ≡ 1 → length t.pending ≤ MOST_ZONES → Pends s t
  got : lists_in (ask_of s) ≡ 0 → length t.pending + 1 ≡ length s.pending → Pends s t

asked_list : (s : MirrorState) → s.pending ≡ [] → ask_of s ≡ ask.List s.token
asked_list s none = ap (λ p. ask_for p s.token) none

asked_get : (s : MirrorState) (tzid : List ℕ) (tzids : List (List ℕ)) → s.pending ≡ tzid ∷ tzids → ask_of s ≡ ask.Get tzid
asked_get s tzid tzids some = ap (λ p. ask_for p s.token) some

after_listed : (s : MirrorState) (h : Heard) → s.pending ≡ [] → IsToldIn (ask.List s.token) h → length (after_heard s h).pending ≤ MOST_ZONES
after_listed s (heard.List doc) none told = list_pending s s.token doc none (few_zones told.1.0 doc told.1.1)
after_listed s (heard.Zone bytes) none told = absurd told
after_listed s heard.BadToken none told = rw none (omega arith)

after_got : (s : MirrorState) (h : Heard) (tzid : List ℕ) (tzids : List (List ℕ)) → s.pending ≡ tzid ∷ tzids → IsToldIn (ask.Get tzid) h
    → (after_heard s h).pending ≡ tzids
after_got s (heard.List doc) tzid tzids some told = absurd told.0
after_got s (heard.Zone bytes) tzid tzids some told = rw some refl
after_got s heard.BadToken tzid tzids some told = absurd told

pends_by : (s : MirrorState) (h : Heard) (pending : List (List ℕ)) → s.pending ≡ pending → IsToldIn (ask_of s) h → Pends s (sync_step s h)
pends_by s h [] none told =
    listed none (ap lists_in (asked_list s none))
    (subst (λ (p : List (List ℕ)). length p ≤ MOST_ZONES) (sym (step_pending s h))
    (after_listed s h none (subst (λ a. IsToldIn a h) (asked_list s none) told)))
pends_by s h (tzid ∷ tzids) some told =
    let left = step_pending s h ∙ after_got s h tzid tzids some (subst (λ a. IsToldIn a h) (asked_get s tzid tzids some) told) in
    got (ap lists_in (asked_get s tzid tzids some)) (ap (λ (p : List (List ℕ)). length p + 1) left ∙ one_more tzids ∙ sym (ap length some))
  where
    one_more : (ts : List (List ℕ)) → length ts + 1 ≡ length (tzid ∷ ts)
    one_more ts = omega arith

pub pends : (s : MirrorState) (h : Heard) → IsToldIn (ask_of s) h → Pends s (sync_step s h)
pends s h told = pends_by s h s.pending refl told

-- ---- where the mirror is settled, nothing is pending

settled_list : (token : Option (List ℕ)) (zs : List ListZone) → list_settles token zs ≡ Holds → (s : MirrorState) (new : List ℕ)
    → (after_list token s (record { token = new; zones = zs })).pending ≡ s.pending
settled_list None zs e s new = absurd (cc)
settled_list (Some since) [] e s new = refl
settled_list (Some since) (z ∷ zs) e s new = absurd (cc)

settled_heard : (s : MirrorState) (h : Heard) → settles s h ≡ Holds → (after_heard s h).pending ≡ s.pending
settled_heard s (heard.List doc) e = settled_list s.token doc.zones e s doc.token
settled_heard s (heard.Zone bytes) e = absurd (cc)
settled_heard s heard.BadToken e = absurd (cc)

file_not_settled : (s : MirrorState) (h : Heard) (a : Ask) → lists_in a ≡ 0 → IsToldIn a h → settles s h ≡ More
file_not_settled s h (ask.List token) none told = absurd (cc)
file_not_settled s (heard.List doc) (ask.Get name) none told = absurd told.0
file_not_settled s (heard.Zone bytes) (ask.Get name) none told = refl
file_not_settled s heard.BadToken (ask.Get name) none told = absurd told

pub settled_leaves_none : (s : MirrorState) (h : Heard) → IsToldIn (ask_of s) h → settles s h ≡ Holds → (sync_step s h).pending ≡ []
settled_leaves_none s h told e = by_pends (pends s h told)
  where
    by_pends : Pends s (sync_step s h) → (sync_step s h).pending ≡ []
    by_pends (listed none is few) = step_pending s h ∙ settled_heard s h e ∙ none
    by_pends (got is fewer) = let more = file_not_settled s h (ask_of s) is told in absurd (cc (more, e))
