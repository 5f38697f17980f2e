-- What is heard in the answers of the actions is what there is to be told.
use Rattle.std.proofs.Common.{◌≡◌, ℕ, ◌≤◌, true, Option, None, Some, List, [], ◌∷◌, length, refl, sym, ap, ◌∙◌, subst, map, arith}
use Rattle.std.proofs.Common.{option_map, option_and_then, filter, nat_lt, Ok}
use Rattle.std.specs.List.{slice_get}
use Rattle.td_base.specs.declared.report.Ask.{Ask}
use Rattle.td_base.specs.declared.report.Ask.TheVariants as ask
use Rattle.td_base.specs.declared.report.Role.TheVariants.{Primary}
use Rattle.catalogue.specs.Histories.{EntryData, IsHistory, meta}
use Rattle.catalogue.specs.Lookups.{delta, place_named, place_of}
use Rattle.catalogue.specs.Releases.{ReleaseData}
use Rattle.http_answer.specs.declared.answer.Answer.{Answer}
use Rattle.http_request.specs.declared.head.Head.{Head}
use Rattle.json_forms.specs.ListReading.{list_read}
use Rattle.json_forms.specs.declared.zone_list.ListDoc.{ListDoc}
use Rattle.negotiate.specs.Choices.{chosen_format, quality_of}
use Rattle.td_base.specs.Texts.{pieces, trim}
use Rattle.negotiate.specs.Qualities.{largest_for, quality_in, quality_value}
use Rattle.negotiate.specs.declared.choosing.Format.{Format}
use Rattle.negotiate.specs.declared.choosing.Format.TheVariants as format
use Rattle.target.specs.declared.asked_types.Param.TheVariants as param
use Rattle.zone_meaning.specs.Sound.{IsSound}
use Rattle.actions.specs.Action.{action, answer_for}
use Rattle.actions.specs.Bounds.{bounds_in, start_bound, end_bound}
use Rattle.actions.specs.Documents.{with_data}
use Rattle.actions.specs.Formats.{format_data}
use Rattle.actions.specs.Getting.{form_answer, format_answer, get_answer, zone_answer}
use Rattle.actions.specs.Listing.{list_zone, list_body, change_list, changes_since, list_answer}
use Rattle.actions.specs.Tags.{data_tag}
use Rattle.actions.specs.declared.bounds.Bound.TheVariants.{Open}
use Rattle.actions.specs.declared.bounds.Bounds.{Bounds}
use Rattle.sync_core.specs.declared.heard_type.Heard.{Heard}
use Rattle.sync_core.specs.declared.heard_type.Heard.TheVariants as heard
use Rattle.sync_world.specs.Hearing.{IsDataHeadOf, IsDataHeardOver, IsHeardIn, action_asked, data_service, type_of_format, whole_data}
use Rattle.sync_world.specs.Primaries.{file_told, told_by, list_at, list_told, changes_at, changes_of}
use Rattle.sync_world.proofs.Names.{content_at, entry_named}
use Rattle.sync_world.proofs.SoundLists.{part_is_read, part_told}

format_chosen : (f : Format) → chosen_format (Some (type_of_format f)) ≡ Some f
unfolding chosen_format quality_of largest_for pieces trim quality_in quality_value
format_chosen format.Calendar = refl
format_chosen format.Tzif = refl
format_chosen format.CalendarJson = refl

abbrev unbounded : Bounds
unbounded = record { start = Open; end = Open }

no_bounds : (f : Format) → bounds_in (format_data f).bounds param.Absent param.Absent ≡ Ok unbounded
unfolding bounds_in start_bound end_bound
no_bounds format.Calendar = refl
no_bounds format.Tzif = refl
no_bounds format.CalendarJson = refl

-- what a get of a zone is answered, where its format is asked for alone
abbrev pub whole_answer : Format → List ℕ → EntryData → Answer
whole_answer f name e = with_data (format_data f).kind (data_tag e.tag (format_data f).mark unbounded) (whole_data f name e.content)

pub zone_told : (f : Format) (name : List ℕ) (e : EntryData)
    → zone_answer name (Some e) (Some (type_of_format f)) None param.Absent param.Absent ≡ whole_answer f name e
zone_told f name e =
    ap (λ chosen. format_answer chosen name e None param.Absent param.Absent) (format_chosen f)
    ∙ ap (form_answer (format_data f) name e None) (no_bounds f)

-- the status of a refusal is not 200
not_refused : (ok refused : ℕ) → ok ≡ 200 → refused ≡ 400 → ok ≡ refused → ⊥
not_refused ok refused is other e = omega arith

not_missing : (ok missing : ℕ) → ok ≡ 200 → missing ≡ 404 → ok ≡ missing → ⊥
not_missing ok missing is other e = omega arith

pub all_entries : (es : List EntryData) → filter (λ _. true) es ≡ es
all_entries [] = refl
all_entries (e ∷ es) = ap (λ l. e ∷ l) (all_entries es)

-- a list that is read of the text of one is this one
one_list : (text : List ℕ) (told read : ListDoc) → list_read text ≡ Ok told → list_read text ≡ Ok read → Some (heard.List told) ≡ Some (heard.List read)
one_list text told read is was = let same : Ok told ≡ Ok read = sym is ∙ was in let one : told ≡ read = cc in ap (λ (d : ListDoc). Some (heard.List d)) one

module _ (f : Format) (H : List ReleaseData) (history : IsHistory IsSound H) (some : 1 ≤ length H) where
  -- ---- what is heard was told

  full_so : (h : Heard) → IsHeardIn (ask.List None) (list_answer H param.Absent) h → told_by (data_service f) H (ask.List None) ≡ Some h
  unfolding list_answer list_body list_told
  full_so (heard.List doc) k =
      ap (λ (es : List EntryData). Some (list_at H (map list_zone es))) (sym (all_entries (meta H)))
      ∙ one_list _ (part_told H (λ _. true)) doc (part_is_read H (λ _. true) history some) k.1
  full_so (heard.Zone bytes) k = absurd k
  full_so heard.BadToken k = absurd k

  since_so : (since : List ℕ) (o : Option ℕ) (h : Heard) → IsHeardIn (ask.List (Some since)) (changes_since H o) h → Some (changes_at H o) ≡ Some h
  unfolding change_list changes_of delta
  since_so since (Some n) (heard.List doc) k =
      one_list _ (part_told H (λ e. nat_lt n e.changed)) doc (part_is_read H (λ e. nat_lt n e.changed) history some) k.1
  since_so since (Some n) (heard.Zone bytes) k = absurd k
  since_so since (Some n) heard.BadToken k = absurd (not_refused 200 400 refl refl k.0)
  since_so since None (heard.List doc) k = absurd (not_refused 200 400 refl refl (sym k.0))
  since_so since None (heard.Zone bytes) k = absurd k
  since_so since None heard.BadToken k = refl

  list_so : (since : Option (List ℕ)) (head : Head) (h : Heard) → IsHeardIn (ask.List since) (answer_for H Primary head (action_asked (ask.List since))) h
      → told_by (data_service f) H (ask.List since) ≡ Some h
  unfolding list_answer
  list_so None head h k = full_so h k
  list_so (Some since) head h k = since_so since (place_of H since) h k

got_so : (f : Format) (name : List ℕ) (o : Option EntryData) (h : Heard)
    → IsHeardIn (ask.Get name) (zone_answer name o (Some (type_of_format f)) None param.Absent param.Absent) h
    → option_map file_told (option_map (whole_data f name) (option_map content_at o)) ≡ Some h
got_so f name o (heard.List doc) k = absurd k
got_so f name o heard.BadToken k = absurd k
got_so f name None (heard.Zone bytes) k = absurd (not_missing 200 404 refl refl (sym k.0))
got_so f name (Some e) (heard.Zone bytes) k =
    let file = subst (λ a. IsHeardIn (ask.Get name) a (heard.Zone bytes)) (zone_told f name e) k in ap (λ (b : List ℕ). Some (heard.Zone b)) file.1

file_so : (f : Format) (H : List ReleaseData) (name : List ℕ) (head : Head) (h : Heard) → head.accept ≡ Some (type_of_format f) → head.none_match ≡ None
    → IsHeardIn (ask.Get name) (answer_for H Primary head (action_asked (ask.Get name))) h → told_by (data_service f) H (ask.Get name) ≡ Some h
unfolding get_answer
file_so f H name head h accept held k =
    let o = option_and_then (slice_get (meta H)) (place_named H name) in
    let one = subst (λ a. IsHeardIn (ask.Get name) (zone_answer name o a head.none_match param.Absent param.Absent) h) accept k in
    let two = subst (λ l. IsHeardIn (ask.Get name) (zone_answer name o (Some (type_of_format f)) l param.Absent param.Absent) h) held one in
    ap (λ z. option_map file_told (option_map (whole_data f name) z)) (sym (entry_named H name)) ∙ got_so f name o h two

answer_so : (f : Format) (H : List ReleaseData) (a : Ask) (head : Head) (h : Heard) → IsHistory IsSound H → 1 ≤ length H → IsDataHeadOf f a head
    → IsHeardIn a (answer_for H Primary head (action_asked a)) h → told_by (data_service f) H a ≡ Some h
answer_so f H (ask.List since) head h history some k heard_it = list_so f H history some since head h heard_it
answer_so f H (ask.Get name) head h history some k heard_it = file_so f H name head h k.accept k.none_match heard_it

pub action_is : (f : Format) (H : List ReleaseData) (a : Ask) (head : Head) → IsDataHeadOf f a head
    → action H Primary head ≡ answer_for H Primary head (action_asked a)
unfolding action
action_is f H a head k = ap (answer_for H Primary head) k.target

pub tells_so : (f : Format) (H : List ReleaseData) (a : Ask) (h : Heard) → IsHistory IsSound H → 1 ≤ length H → IsDataHeardOver f H a h
    → told_by (data_service f) H a ≡ Some h
tells_so f H a h history some k =
    answer_so f H a k.head h history some k.asks_so (subst (λ answer. IsHeardIn a answer h) (action_is f H a k.head k.asks_so) k.hears)
