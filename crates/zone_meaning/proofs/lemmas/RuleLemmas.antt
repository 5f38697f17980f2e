-- The definition by a count follows the rules.
use Rattle.std.proofs.Common.{◌≡◌, ℕ, suc, List, length, Option, Some, None, refl, sym, ap, ◌∙◌, subst, get_or, arith}
use Rattle.std.specs.Prelude.{ℤ, pos, ◌≤ℤ◌, slice_index}
use Rattle.std.proofs.lemmas.Bool.{eq-eqb}
use Rattle.td_civil.specs.declared.moment_type.Moment.{Moment}
use Rattle.td_civil.specs.declared.local_time.Local.{Local}
use Rattle.tzif_reader.specs.declared.zone_file.ZoneFile.{ZoneFile}
use Rattle.tzif_reader.specs.Cut.{lists_of}
use Rattle.tzif_reader.specs.Layout.{AreRising}
use Rattle.posix_footer.specs.declared.rule_types.Footer.{Footer}
use Rattle.zone_meaning.specs.Faults.{zone_fault}
use Rattle.zone_meaning.specs.State.{begun, after, state_at, zone_state, footer_meant}
use Rattle.zone_meaning.specs.Rules.{FollowsRules, by_footer_or}
use Rattle.zone_meaning.proofs.Counting.{begun_are}
use Rattle.zone_meaning.proofs.lemmas.Types.{has_types}
use Rattle.zone_meaning.proofs.Walking.{early}

-- once all have
late : (z : ZoneFile) (footer : Option Footer) (t : ℤ) (number : ℕ) → begun t z.moments ≡ length z.moments
    → after z (length z.moments) ≡ by_footer_or z None t number → state_at z footer t ≡ by_footer_or z footer t number
late z None t number h k = ap (after z) h ∙ k
late z (Some footer) t number h k = rw (h, eq-eqb (length z.moments) (length z.moments) refl) refl

pub follows : (z : ZoneFile) (footer : Option Footer) (t : ℤ) → AreRising z.moments → FollowsRules z footer t (state_at z footer t)
follows z footer t up = record {
  before = λ some lt. early z footer t 0 (begun_are z.moments t 0 (record { seconds = pos 0 }) up (omega arith) (λ k e. absurd (omega arith)) (λ _. lt)) some;
  between = λ i inside low high. early z footer t (suc i)
      (begun_are z.moments t (suc i) (record { seconds = pos 0 }) up (omega arith)
      (λ k e. let s : i ≡ k = omega arith in subst (λ (j : ℕ). (get_or z.moments j (record { seconds = pos 0 })).seconds ≤ℤ t) s low) (λ _. high)) inside;
  from_last = λ i last low. late z footer t (slice_index z.numbers i)
      (begun_are z.moments t (length z.moments) (record { seconds = pos 0 }) up (omega arith)
      (λ k e. let s : i ≡ k = omega arith in subst (λ (j : ℕ). (get_or z.moments j (record { seconds = pos 0 })).seconds ≤ℤ t) s low)
      (λ lt. absurd (omega arith))) (ap (after z) (sym last));
  alone = λ none. late z footer t 0 (ap (λ (ms : List Moment). begun t ms) none ∙ sym (ap length none)) (ap (after z) (ap length none));
}

pub zone_follows : (bytes : List ℕ) (t : ℤ) (state : Local) → zone_fault bytes ≡ None → state ≡ zone_state bytes t
    → FollowsRules (lists_of bytes) (footer_meant (lists_of bytes).footer) t state
unfolding zone_state
zone_follows bytes t state h e = rw e (follows (lists_of bytes) (footer_meant (lists_of bytes).footer) t (has_types bytes h).rising)
