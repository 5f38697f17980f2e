-- What it means that no fault of the fields comes.
use Rattle.std.proofs.Common.{◌≡◌, ℕ, ◌<◌, false, Option, None, refl}
use Rattle.std.specs.Option.{option_map}
use Rattle.tzif_reader.specs.declared.counts.Counts.{Counts}
use Rattle.tzif_reader.specs.declared.tzif_fault.TzifFault.{TzifFault}
use Rattle.tzif_reader.specs.declared.tzif_fault.TzifFault.TheVariants.{Order, TypeNumber, Designation, Indicator, OffsetBeyond, TooLate}
use Rattle.tzif_reader.specs.Cut.{Parts}
use Rattle.td_base.specs.FirstFault.{least}
use Rattle.tzif_reader.specs.Faults.{contents_fault, is_unordered, is_unknown, is_unnamed, is_unflagged, is_beyond, is_too_late}
use Rattle.td_base.proofs.lemmas.FaultLemmas.{first, second, neither, unmapped}
use Rattle.td_base.proofs.lemmas.LeastLemmas.{least_clear, none_least}
use Rattle.tzif_reader.proofs.Headers.{when_none, none_when}

-- no field is faulty
pub record AreSound (c : Counts) (p : Parts) : Type 0 where
  pub ordered : (i : ℕ) → i < c.timecnt → is_unordered p.times i ≡ false
  pub known : (i : ℕ) → i < c.timecnt → is_unknown c.typecnt p.numbers i ≡ false
  pub are_named : (i : ℕ) → i < c.typecnt → is_unnamed p.designations p.types i ≡ false
  pub flagged : (i : ℕ) → i < c.typecnt → is_unflagged p i ≡ false
  pub within : (i : ℕ) → i < c.typecnt → is_beyond p.types i ≡ false
  pub early : is_too_late c.timecnt p.times ≡ false

pub contents_none : (c : Counts) (p : Parts) → contents_fault c p ≡ None → AreSound c p
unfolding contents_fault
contents_none c p h =
    let a = second (option_map Order (least c.timecnt (is_unordered p.times))) _ h in
    let b = second (option_map TypeNumber (least c.timecnt (is_unknown c.typecnt p.numbers))) _ a in
    let d = second (option_map Designation (least c.typecnt (is_unnamed p.designations p.types))) _ b in
    let e = second (option_map Indicator (least c.typecnt (is_unflagged p))) _ d in
    let f = second (option_map OffsetBeyond (least c.typecnt (is_beyond p.types))) _ e in
    record {
      ordered = λ i lt. least_clear (is_unordered p.times) i c.timecnt lt (unmapped Order _ (first _ _ h));
      known = λ i lt. least_clear (is_unknown c.typecnt p.numbers) i c.timecnt lt (unmapped TypeNumber _ (first _ _ a));
      are_named = λ i lt. least_clear (is_unnamed p.designations p.types) i c.typecnt lt (unmapped Designation _ (first _ _ b));
      flagged = λ i lt. least_clear (is_unflagged p) i c.typecnt lt (unmapped Indicator _ (first _ _ d));
      within = λ i lt. least_clear (is_beyond p.types) i c.typecnt lt (unmapped OffsetBeyond _ (first _ _ e));
      early = when_none (is_too_late c.timecnt p.times) TooLate f;
    }

mapped : (f : ℕ → TzifFault) (a : Option ℕ) → a ≡ None → option_map f a ≡ None
mapped f a h = rw h refl

pub none_contents : (c : Counts) (p : Parts) → AreSound c p → contents_fault c p ≡ None
unfolding contents_fault
none_contents c p s =
    neither _ _ (mapped Order _ (none_least (is_unordered p.times) c.timecnt s.ordered))
    (neither _ _ (mapped TypeNumber _ (none_least (is_unknown c.typecnt p.numbers) c.timecnt s.known))
    (neither _ _ (mapped Designation _ (none_least (is_unnamed p.designations p.types) c.typecnt s.are_named))
    (neither _ _ (mapped Indicator _ (none_least (is_unflagged p) c.typecnt s.flagged))
    (neither _ _ (mapped OffsetBeyond _ (none_least (is_beyond p.types) c.typecnt s.within))
    (none_when (is_too_late c.timecnt p.times) TooLate s.early)))))
