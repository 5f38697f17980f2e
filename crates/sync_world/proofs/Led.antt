-- A list of changes leads from the list of an earlier place to that of the end, as lists.
use Rattle.std.proofs.Common.{◌≡◌, ℕ, ◌+◌, ◌≤◌, List, ◌∷◌, ◌++◌, length, take, sym, ap, ◌∙◌, subst, arith, length-take, not}
use Rattle.std.specs.Option.{option_or}
use Rattle.catalogue.specs.Histories.{IsHistory}
use Rattle.catalogue.specs.Releases.{ReleaseData}
use Rattle.sync_core.specs.Mirrors.{entry_name}
use Rattle.sync_core.specs.Names.{put_all}
use Rattle.sync_core.specs.Steps.{is_alias, kept_entries}
use Rattle.sync_core.proofs.lemmas.Puts.{Rising, one_list, rising_filter, rising_put_all}
use Rattle.sync_world.specs.Primaries.{IsPlace, changes_of, list_told}
use Rattle.sync_world.proofs.Aliases.{cut, joined_at}
use Rattle.sync_world.proofs.Changes.{changes_are}
use Rattle.sync_world.proofs.Files.{history_front, known_put, list_rises, news_rises}
use Rattle.sync_world.proofs.Looks.{known, unless}
use Rattle.sync_world.proofs.Shown.{joined_lists}

changes_rise : (sound : ReleaseData → Type 0) (H : List ReleaseData) (m : ℕ) → IsHistory sound H → IsPlace H m → Rising entry_name (changes_of H m)
changes_rise sound H m h place =
    let c = cut H m place in
    by c.A c.x c.X c.whole c.place
  where
    by : (A : List ReleaseData) (x : ReleaseData) (X : List ReleaseData) → H ≡ A ++ x ∷ X → m ≡ length A + 1 → Rising entry_name (changes_of H m)
    by A x X whole at =
        let is = ap (λ F. changes_of F m) whole ∙ ap (changes_of (A ++ x ∷ X)) at ∙ changes_are A x X (length A + 1) in
        subst (Rising entry_name) (sym is) (news_rises sound A x X (subst (IsHistory sound) whole h))

pub lists_lead_on : (sound : ReleaseData → Type 0) (H : List ReleaseData) (n : ℕ) → IsHistory sound H → IsPlace H n
    → put_all entry_name (changes_of H n) (kept_entries (changes_of H n) (list_told (take n H))) ≡ list_told H
lists_lead_on sound H n h place =
    let low : 1 ≤ n = place.0 in
    let high : n ≤ length H = place.1 in
    let old = list_rises sound (take n H) (history_front sound H n h) (omega (arith, length-take n H)) in
    let now = list_rises sound H h (omega arith) in
    let news = changes_of H n in
    one_list entry_name (put_all entry_name news (kept_entries news (list_told (take n H)))) (list_told H)
    (rising_put_all entry_name news (kept_entries news (list_told (take n H)))
    (rising_filter entry_name (λ z. not (is_alias news z.tzid)) (list_told (take n H)) old)) now
    (λ t. joined_lists (list_told (take n H)) news t
    ∙ ap (λ o. option_or o (unless (is_alias news t) (known (list_told (take n H)) t))) (known_put news t (changes_rise sound H n h place))
    ∙ joined_at sound H n h place t)
