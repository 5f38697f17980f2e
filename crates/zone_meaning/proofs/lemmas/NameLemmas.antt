-- Where the names of a zone can be printed, so can those of its states and of its observances.
use Rattle.std.proofs.Common.{◌≡◌, ◌≤◌, ◌==◌, ℕ, zero, suc, List, length, map, true, ◌&&◌, Option, None, Some, inl, inr, sym, ap, ◌∙◌, arith}
use Rattle.std.specs.Prelude.{ℤ, ◌<ℤ◌, slice_index}
use Rattle.std.specs.List.{list_all, Contains}
use Rattle.std.proofs.lemmas.Bool.{and_parts, cond_both}
use Rattle.std.proofs.lemmas.List.Folds.{list_all-append, list_all-map}
use Rattle.std.proofs.lemmas.List.Sums.{AllPass-from_list_all}
use Rattle.td_civil.specs.declared.local_time.Local.{Local}
use Rattle.td_civil.specs.declared.local_time.Observance.{Observance}
use Rattle.tzif_reader.specs.declared.zone_file.ZoneFile.{ZoneFile}
use Rattle.tzif_reader.specs.Cut.{lists_of}
use Rattle.posix_footer.specs.declared.rule_types.DstRule.{DstRule}
use Rattle.posix_footer.specs.declared.rule_types.Footer.{Footer}
use Rattle.posix_footer.specs.StateAt.{is_daylight, state_by, state_of}
use Rattle.zone_meaning.specs.Faults.{zone_fault}
use Rattle.zone_meaning.specs.Kept.{HasTypes}
use Rattle.zone_meaning.specs.Names.{is_printable_name, footer_names, has_printable_names}
use Rattle.zone_meaning.specs.Observed.{observed}
use Rattle.zone_meaning.specs.RangeLaws.{state_told}
use Rattle.zone_meaning.specs.State.{begun, after, state_at, footer_meant, zone_state}
use Rattle.zone_meaning.proofs.lemmas.RangeLemmas.{change_told, first_told, are_observed}
use Rattle.zone_meaning.proofs.lemmas.Types.{begun_bound, has_types}

abbrev IsPrintable : Local → Type 0
IsPrintable s = is_printable_name s.name ≡ true

after_name : (z : ZoneFile) (n : ℕ) → HasTypes z → n ≤ length z.moments → list_all (λ (kind : Local). is_printable_name kind.name) z.kinds ≡ true
    → IsPrintable (after z n)
after_name z zero h le all = AllPass-from_list_all (λ (kind : Local). is_printable_name kind.name) z.kinds all 0 _ h.first
after_name z (suc n) h le all =
    AllPass-from_list_all (λ (kind : Local). is_printable_name kind.name) z.kinds all (slice_index z.numbers n) _ (h.known n 0 (omega (arith, h.each)))

by_rule_name : (std : Local) (rule : Option DstRule) (t : ℤ) → list_all is_printable_name (footer_names (Some (record { std = std; dst = rule }))) ≡ true
    → IsPrintable (state_by std rule t)
by_rule_name std None t all = (and_parts (is_printable_name std.name) true all).0
by_rule_name std (Some rule) t all =
    let both = and_parts (is_printable_name std.name) (is_printable_name rule.dst.name && true) all in
    cond_both (is_daylight rule std.offset t) rule.dst std IsPrintable
    (λ yes. (and_parts (is_printable_name rule.dst.name) true both.1).0)
    (λ no. both.0)

state_name : (z : ZoneFile) (footer : Option Footer) (t : ℤ) → HasTypes z → list_all (λ (kind : Local). is_printable_name kind.name) z.kinds ≡ true
    → list_all is_printable_name (footer_names footer) ≡ true → IsPrintable (state_at z footer t)
state_name z None t h kinds names = after_name z (begun t z.moments) h (begun_bound t z.moments) kinds
state_name z (Some footer) t h kinds names =
    cond_both (begun t z.moments == length z.moments) (state_of footer t) (after z (begun t z.moments)) IsPrintable
    (λ all. by_rule_name footer.std footer.dst t names)
    (λ some. after_name z (begun t z.moments) h (begun_bound t z.moments) kinds)

-- the name of each state of such a zone can be printed
pub zone_name : (file : List ℕ) (t : ℤ) → zone_fault file ≡ None → has_printable_names file ≡ true → is_printable_name (zone_state file t).name ≡ true
unfolding zone_state has_printable_names
zone_name file t h names =
    let z = lists_of file in
    let footer = footer_meant z.footer in
    let kinds = map (λ (kind : Local). kind.name) z.kinds in
    let both = and_parts (list_all is_printable_name kinds) (list_all is_printable_name (footer_names footer))
    (sym (list_all-append is_printable_name kinds (footer_names footer)) ∙ names) in
    state_name z footer t (has_types file h) (sym (list_all-map is_printable_name (λ (kind : Local). kind.name) z.kinds) ∙ both.0) both.1

told_name : (o : Observance) (s : Local) → state_told o ≡ s → is_printable_name s.name ≡ true → is_printable_name o.name ≡ true
told_name o s told printable = ap (λ (x : Local). is_printable_name x.name) told ∙ printable

-- and so can that of each of its observances
pub observance_name : (file : List ℕ) (a b : ℤ) (o : Observance) → zone_fault file ≡ None → has_printable_names file ≡ true → a <ℤ b
    → Contains (observed (zone_state file) a b) o → is_printable_name o.name ≡ true
observance_name file a b o h names lt there =
    let state : ℤ → Local = zone_state file in
    elim ((are_observed state a b lt).each o there) [
      | inl first ↦ told_name o (state a) (ap state_told first ∙ first_told state a) (zone_name file a h names)
      | inr change ↦ told_name o (state change.moment) (ap state_told change.change_is ∙ change_told state change.moment) (zone_name file change.moment h names)
    ]
