-- What there is to be told is heard in the answers of the actions.
use Rattle.std.proofs.Common.{◌≡◌, ℕ, ◌≤◌, true, Option, None, Some, List, length, refl, sym, ap, ◌∙◌, subst, map, option_map}
use Rattle.std.proofs.Common.{option_and_then, filter, nat_lt, Ok}
use Rattle.std.specs.List.{slice_get}
use Rattle.td_base.specs.declared.report.Ask.{Ask}
use Rattle.td_base.specs.declared.report.Ask.TheVariants as ask
use Rattle.td_base.specs.declared.report.Role.TheVariants.{Primary}
use Rattle.catalogue.specs.Histories.{EntryData, IsHistory, meta, token_of}
use Rattle.catalogue.specs.Lookups.{delta, place_named, place_of}
use Rattle.catalogue.specs.Releases.{ReleaseData}
use Rattle.http_request.specs.declared.head.Head.{Head}
use Rattle.json_forms.specs.ListDocument.{list_document}
use Rattle.json_forms.specs.ListReading.{list_read}
use Rattle.json_forms.specs.declared.problem_type.Problem.TheVariants.{InvalidChangedsince}
use Rattle.json_forms.proofs.lemmas.ProblemReads.{problem_found}
use Rattle.negotiate.specs.declared.choosing.Format.{Format}
use Rattle.target.specs.declared.asked_types.Param.TheVariants as param
use Rattle.zone_meaning.specs.Sound.{IsSound}
use Rattle.actions.specs.Action.{action, answer_for}
use Rattle.actions.specs.Getting.{get_answer, zone_answer}
use Rattle.actions.specs.Listing.{list_zone, list_body, change_list, changes_since, list_answer}
use Rattle.sync_core.specs.declared.heard_type.Heard.{Heard}
use Rattle.sync_world.specs.Hearing.{IsDataHeadOf, IsHeardIn, action_asked, data_service, type_of_format, whole_data}
use Rattle.sync_world.specs.Primaries.{file_told, told_by, list_at, list_told, changes_at, changes_of}
use Rattle.sync_world.proofs.Names.{content_at, entry_named}
use Rattle.sync_world.proofs.SoundLists.{part_is_read}
use Rattle.sync_world.proofs.Telling.{action_is, all_entries, whole_answer, zone_told}

module _ (f : Format) (H : List ReleaseData) (history : IsHistory IsSound H) (some : 1 ≤ length H) where
  full_heard : IsHeardIn (ask.List None) (list_answer H param.Absent) (list_at H (list_told H))
  unfolding list_answer list_body list_told
  full_heard =
      let text = list_document (token_of H (length H)) (map list_zone (filter (λ _. true) (meta H))) in (
        refl,
        subst (λ es. list_read text ≡ Ok (record { token = token_of H (length H); zones = map list_zone es })) (all_entries (meta H))
            (part_is_read H (λ _. true) history some),
      )

  since_heard : (since : List ℕ) (o : Option ℕ) → IsHeardIn (ask.List (Some since)) (changes_since H o) (changes_at H o)
  unfolding change_list changes_of delta
  since_heard since (Some n) = (refl, part_is_read H (λ e. nat_lt n e.changed) history some)
  since_heard since None = (refl, problem_found InvalidChangedsince)

  list_heard : (since : Option (List ℕ)) (head : Head) (h : Heard) → told_by (data_service f) H (ask.List since) ≡ Some h
      → IsHeardIn (ask.List since) (answer_for H Primary head (action_asked (ask.List since))) h
  unfolding list_answer
  list_heard None head h e = let one : list_at H (list_told H) ≡ h = cc in subst (IsHeardIn (ask.List None) (list_answer H param.Absent)) one full_heard
  list_heard (Some since) head h e =
      let one : changes_at H (place_of H since) ≡ h = cc in
      subst (IsHeardIn (ask.List (Some since)) (changes_since H (place_of H since))) one (since_heard since (place_of H since))

got_heard : (f : Format) (name : List ℕ) (o : Option EntryData) (h : Heard)
    → option_map file_told (option_map (whole_data f name) (option_map content_at o)) ≡ Some h
    → IsHeardIn (ask.Get name) (zone_answer name o (Some (type_of_format f)) None param.Absent param.Absent) h
got_heard f name None h e = absurd (cc)
got_heard f name (Some e) h is =
    let one : file_told (whole_data f name e.content) ≡ h = cc in
    subst (λ a. IsHeardIn (ask.Get name) a h) (sym (zone_told f name e)) (subst (IsHeardIn (ask.Get name) (whole_answer f name e)) one (refl, refl))

file_heard : (f : Format) (H : List ReleaseData) (name : List ℕ) (head : Head) (h : Heard) → head.accept ≡ Some (type_of_format f) → head.none_match ≡ None
    → told_by (data_service f) H (ask.Get name) ≡ Some h → IsHeardIn (ask.Get name) (answer_for H Primary head (action_asked (ask.Get name))) h
unfolding get_answer
file_heard f H name head h accept held e =
    let o = option_and_then (slice_get (meta H)) (place_named H name) in
    let two = got_heard f name o h (ap (λ z. option_map file_told (option_map (whole_data f name) z)) (entry_named H name) ∙ e) in
    let one = subst (λ l. IsHeardIn (ask.Get name) (zone_answer name o (Some (type_of_format f)) l param.Absent param.Absent) h) (sym held) two in
    subst (λ a. IsHeardIn (ask.Get name) (zone_answer name o a head.none_match param.Absent param.Absent) h) (sym accept) one

answer_heard : (f : Format) (H : List ReleaseData) (a : Ask) (head : Head) (h : Heard) → IsHistory IsSound H → 1 ≤ length H → IsDataHeadOf f a head
    → told_by (data_service f) H a ≡ Some h
    → IsHeardIn a (answer_for H Primary head (action_asked a)) h
answer_heard f H (ask.List since) head h history some k e = list_heard f H history some since head h e
answer_heard f H (ask.Get name) head h history some k e = file_heard f H name head h k.accept k.none_match e

pub told_is_heard : (f : Format) (H : List ReleaseData) (a : Ask) (head : Head) (h : Heard) → IsHistory IsSound H → 1 ≤ length H → IsDataHeadOf f a head
    → told_by (data_service f) H a ≡ Some h → IsHeardIn a (action H Primary head) h
told_is_heard f H a head h history some k e =
    subst (λ answer. IsHeardIn a answer h) (sym (action_is f H a head k)) (answer_heard f H a head h history some k e)
